-- What holds of payloads, and of the tickets of each lawful list of commands.
use Rattle.std.specs.Prelude.{ℕ, ◌≡◌, ◌+◌, ◌<◌, ◌≤◌, ◌⊎◌, ◌↔◌, true, nat_le, List, [], ◌∷◌, length, slice_index, map, count_by, Some, option_map}
use Rattle.std.specs.List.{AllByRecursion}
use Rattle.mj_ids.specs.Ids.{number_of}
use Rattle.mj_tickets.specs.declared.command.TicketCmd.{TicketCmd}
use Rattle.mj_tickets.specs.declared.command.TicketCmd.TheVariants.{Accept, Store, Close}
use Rattle.mj_tickets.specs.declared.place.Place.{Place}
use Rattle.mj_tickets.specs.Payload.{IsBody, IsCommand, body_of}
use Rattle.mj_tickets.specs.Fold.{Ticket, Fold, start, takes, ticket_of, known, folded_by, fold_of, RisesTo, number_in, IsNamed}
use Rattle.mj_tickets.specs.Index.{Placed, cmd_of, place_of, indexed}

-- ---- payloads

abbrev pub OneCommand : Type 0
OneCommand = (cmd other : TicketCmd) (octets : List ℕ) → IsCommand cmd octets → IsCommand other octets → cmd ≡ other

abbrev pub OneBody : Type 0
OneBody = (body other : List (List ℕ)) (octets : List ℕ) → IsBody body octets → IsBody other octets → body ≡ other

-- ---- numbers of accepts

-- the numbers of the accepts, in order
abbrev pub accepts_of : List TicketCmd → List ℕ
accepts_of [] = []
accepts_of (Accept id service body ∷ cmds) = number_of id ∷ accepts_of cmds
accepts_of (Store number body ∷ cmds) = accepts_of cmds
accepts_of (Close number ∷ cmds) = accepts_of cmds

-- the base, and one more for each accept that wasn't kept from an earlier file
abbrev pub next_behind : ℕ → List TicketCmd → ℕ
next_behind base cmds = base + count_by (nat_le base) (accepts_of cmds)

-- the next number; or one from 1 up to below the base that is above all before, as long as none of these has reached the base
abbrev pub IsNextNumber : ℕ → List TicketCmd → ℕ → Type 0
IsNextNumber base cmds n = (n ≡ next_behind base cmds) ⊎ ((1 ≤ n) × (n < base) × AllByRecursion (λ m. (m < n) × (m < base)) (accepts_of cmds))

-- which accept may follow
abbrev pub AcceptsByTheBase : Type 0
AcceptsByTheBase = (base : ℕ) (cmds : List TicketCmd) (f : Fold (List (List ℕ))) → 1 ≤ base → fold_of base cmds ≡ Some f
    → (f.next ≡ next_behind base cmds) × ((n : ℕ) → (takes n f ≡ true) ↔ IsNextNumber base cmds n)

-- ---- open tickets

-- the numbers of the open tickets rise up to the highest, below the next; each is that of its ticket's id
pub record AreNumbered {B : Type 0} (f : Fold B) : Type 0 where
  pub rise : RisesTo 0 (map number_in f.tickets) f.highest
  pub above : f.highest < f.next
  pub named : AllByRecursion IsNamed f.tickets

abbrev pub TicketsAreNumbered : Type 0
TicketsAreNumbered = (base : ℕ) (cmds : List TicketCmd) (f : Fold (List (List ℕ))) → 1 ≤ base → fold_of base cmds ≡ Some f → AreNumbered f

-- no two of them share a number
abbrev pub NoTwoShareANumber : Type 0
NoTwoShareANumber = (base : ℕ) (cmds : List TicketCmd) (f : Fold (List (List ℕ))) (i j : ℕ) → 1 ≤ base → fold_of base cmds ≡ Some f → i < j → j < length f.tickets
    → slice_index (map number_in f.tickets) i < slice_index (map number_in f.tickets) j

-- the next number is the base and at most one more for each command
abbrev pub NumbersAreFew : Type 0
NumbersAreFew = (base : ℕ) (cmds : List TicketCmd) (f : Fold (List (List ℕ))) → fold_of base cmds ≡ Some f → (base ≤ f.next) × (f.next ≤ base + length cmds)

-- the one that is known by its id is the one of its number
abbrev pub OneTicketOfANumber : Type 0
OneTicketOfANumber = (f : Fold (List (List ℕ))) (id : List ℕ) (t : Ticket (List (List ℕ))) → AreNumbered f → known id f ≡ Some t → ticket_of (number_of id) f ≡ Some t

-- ---- places and bodies

abbrev pub mapped : {B C : Type 0} → (B → C) → Ticket B → Ticket C
mapped h t = record { number = t.number; id = t.id; service = t.service; body = h t.body; reply = option_map h t.reply }

abbrev pub map_fold : {B C : Type 0} → (B → C) → Fold B → Fold C
map_fold h f = record { tickets = map (mapped h) f.tickets; highest = f.highest; next = f.next }

-- the place of a body, and the body
pub record Housed : Type 0 where
  pub place : Place
  pub body : List (List ℕ)

abbrev pub place_at : Housed → Place
place_at h = h.place

abbrev pub body_at : Housed → List (List ℕ)
body_at h = h.body

abbrev pub housed : Placed → Housed
housed p = record { place = place_of p; body = body_of p.cmd }

-- the tickets with places are those with bodies: both are seen in the tickets with both
abbrev pub PlacesAndBodies : Type 0
PlacesAndBodies = (base : ℕ) (placed : List Placed) →
    (option_map (map_fold place_at) (folded_by cmd_of housed placed (start base)) ≡ indexed placed (start base))
    × (option_map (map_fold body_at) (folded_by cmd_of housed placed (start base)) ≡ fold_of base (map cmd_of placed))
