-- What tables under byte strings have at any byte string.
use Rattle.std.specs.Prelude.{ℕ, Vec, Bool, List, [], Option, Some, None, option_map}
use Rattle.std.specs.HashMap.{HashMap, get_by}
use Rattle.std.specs.HashSet.{HashSet, contains_by}
use Rattle.std.specs.Option.{unwrap_or}
use Rattle.std.specs.Str.{bytes_eq}
use Rattle.mj_ledger.specs.declared.hand.Hand.{Hand}
use Rattle.mj_ledger.specs.declared.peer.Peer.{Peer}

abbrev pub found : {Y X S : Type 0} → HashMap (Vec ℕ Y) X S → List ℕ → Option X
found map key = get_by (λ k. bytes_eq key k.items) map

abbrev pub has : {Y S : Type 0} → HashSet (Vec ℕ Y) S → List ℕ → Bool
has set key = contains_by (λ k. bytes_eq key k.items) set

-- the bodies of a connection's requests for a service
abbrev pub bodies : Peer → List ℕ → List (List (List ℕ))
bodies p service = unwrap_or (option_map (λ q. q.items) (found p.requests service)) []

abbrev pub hand_at : {Y S : Type 0} → HashMap (Vec ℕ Y) Peer S → List ℕ → Option Hand
hand_at peers who = option_map (λ p. p.hand) (found peers who)

abbrev pub queue_of : Option Peer → List ℕ → List (List (List ℕ))
queue_of None service = []
queue_of (Some p) service = bodies p service

abbrev pub queue_at : {Y S : Type 0} → HashMap (Vec ℕ Y) Peer S → List ℕ → List ℕ → List (List (List ℕ))
queue_at peers who service = queue_of (found peers who) service
