-- What the tables of an audit say of the events so far.
use Rattle.std.specs.Prelude.{ℕ, ◌≡◌, ◌-◌, Bool, true, false, not, ◌&&◌, List, [], length, drop, Option, Some, None, if◌then◌else◌}
use Rattle.std.specs.List.{list_any}
use Rattle.std.specs.Option.{unwrap_or}
use Rattle.std.specs.Str.{bytes_eq}
use Rattle.mj_ledger.specs.Events.{Event, Asked, Ready, Replied, Given, Lapsed, Left, is_passed}
use Rattle.mj_ledger.specs.Moments.{moments}
use Rattle.mj_ledger.specs.TranscriptLaws.{answers, asked, given, is_kept_from, keeps_busy, keeps_owner, keeps_wire, replies}
use Rattle.mj_ledger.specs.Workers.{is_gone, is_opening, service_of}
use Rattle.mj_ledger.specs.Found.{found, hand_at, has, queue_at}
use Rattle.mj_ledger.specs.Hands.{hand}
use Rattle.mj_ledger.specs.Keys.{reply_key}
use Rattle.mj_ledger.specs.declared.hand.Hand.{Hand}
use Rattle.mj_ledger.specs.declared.tables.Tables.{Tables}

-- ---- of the events

-- what a connection said, was given, or what became of it
abbrev pub is_of : List ℕ → Event → Bool
is_of who (Asked w service body) = bytes_eq w who
is_of who (Ready w service) = bytes_eq w who
is_of who (Replied w last to body) = bytes_eq w who
is_of who (Given w to body) = bytes_eq w who
is_of who (Lapsed w) = bytes_eq w who
is_of who (Left w) = bytes_eq w who
is_of who _ = false

abbrev pub is_known : List ℕ → List Event → Bool
is_known who events = list_any (is_opening who) events

abbrev pub known : List ℕ → List Event → Option Hand
known who events = if is_known who events then Some (hand who events) else None

-- the requests of a connection for a service that weren't sent on yet
abbrev pub pending : List ℕ → List ℕ → List Event → List (List (List ℕ))
pending who service events = drop (length (given who service events)) (asked who service events)

-- a REQUEST has this address, and went to a worker whose service isn't passed over
abbrev pub is_judged : Option (List ℕ) → Bool
is_judged None = false
is_judged (Some service) = not (is_passed service)

abbrev pub claims : List ℕ → List Event → Event → Bool
claims who before (Given w to body) = bytes_eq to who && is_judged (service_of w before)
claims who before _ = false

abbrev pub is_claimed : List ℕ → List Event → Bool
is_claimed who events = list_any (λ m. claims who m.0 m.1) (moments events)

-- replies that weren't sent on yet
abbrev pub credit : List ℕ → List ℕ → Bool → List (List ℕ) → List Event → ℕ
credit who service last body events = replies who service last body events - answers who service last body events

-- ---- what one more event may bring about

-- the service that somebody may now be kept from
abbrev pub touched : List Event → Event → Option (List ℕ)
touched before (Asked w service body) = Some service
touched before (Ready w service) = Some service
touched before (Replied w last to body) = service_of w before
touched before _ = None

-- nobody is kept, unless from this service
abbrev pub NobodyBut : Option (List ℕ) → List Event → Type 0
NobodyBut suspect events = (who service : List ℕ) → is_kept_from who service events ≡ true → suspect ≡ Some service

-- ---- of the tables

-- the replies of a kind that weren't sent on
abbrev pub count : Tables → List ℕ → List ℕ → Bool → List (List ℕ) → ℕ
count t who service last body = unwrap_or (found t.credits (reply_key who service last body)) 0

pub record Stands (t : Tables) (events : List Event) : Type 0 where
  pub wire : t.wire ≡ keeps_wire events
  pub owner : t.owner ≡ keeps_owner events
  pub busy : t.busy ≡ keeps_busy events
  pub hands : (who : List ℕ) → hand_at t.peers who ≡ known who events
  pub present : (who : List ℕ) → list_any (bytes_eq who) t.present.items ≡ (is_known who events && not (is_gone who events))
  pub pending : t.owner ≡ true → (who service : List ℕ) → is_passed service ≡ false → queue_at t.peers who service ≡ pending who service events
  pub credits : t.owner ≡ true → (who service : List ℕ) (last : Bool) (body : List (List ℕ)) → count t who service last body ≡ credit who service last body events
  pub claimed : (who : List ℕ) → is_known who events ≡ false → has t.claimed who ≡ is_claimed who events
  pub suspect : NobodyBut t.suspect events
  pub heard : (who : List ℕ) → list_any (is_of who) events ≡ true → is_known who events ≡ true
  pub named : (who service : List ℕ) → is_passed service ≡ true → asked who service events ≡ []
