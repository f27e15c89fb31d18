-- The list in memory: the tickets by number, closed ones among them until they are taken out.
use Rattle.std.specs.Prelude.{ℕ, zero, suc, ◌≡◌, ◌+◌, ◌-◌, ◌^◌, ◌<◌, ◌≤◌, Bool, true, false, List, [], ◌∷◌, ◌++◌, length, map, take, drop, find, Option, Some, None, is_some, option_and_then, if◌then◌else◌, vec_len, vec_capacity}
use Rattle.std.specs.List.{filter_map, AllByRecursion}
use Rattle.std.specs.declared.vec.Vec.{Vec}
use Rattle.std.specs.declared.alloc.Global.{Global}
use Rattle.mj_ids.specs.Ids.{number_of}
use Rattle.mj_tickets.specs.declared.entries.Entry.{Entry}
use Rattle.mj_tickets.specs.declared.entries.Standing.{Standing}
use Rattle.mj_tickets.specs.declared.entries.Standing.TheVariants.{Pending, Stored, Closed}
use Rattle.mj_tickets.specs.declared.place.Place.{Place}
use Rattle.mj_tickets.specs.Fold.{Ticket, Fold, RisesTo, numbered}

abbrev pub number_at : Entry → ℕ
number_at e = number_of e.id

abbrev pub numbers_in : List Entry → List ℕ
numbers_in es = map number_at es

abbrev pub ticket : Entry → Option Place → Ticket Place
ticket e reply = record { number = number_of e.id; id = e.id; service = e.service; body = e.body; reply = reply }

abbrev pub shown_as : Entry → Standing → Option (Ticket Place)
shown_as e Pending = Some (ticket e None)
shown_as e (Stored reply) = Some (ticket e (Some reply))
shown_as e Closed = None

-- the ticket that an entry is, where it is open
abbrev pub shown : Entry → Option (Ticket Place)
shown e = shown_as e e.standing

abbrev pub stands_pending : Standing → Bool
stands_pending Pending = true
stands_pending (Stored reply) = false
stands_pending Closed = false

-- the list with the entry at this place in another standing
abbrev pub with_standing : ℕ → Standing → List Entry → List Entry
with_standing at standing [] = []
with_standing zero standing (e ∷ es) = record e { standing = standing } ∷ es
with_standing (suc at) standing (e ∷ es) = e ∷ with_standing at standing es

-- for how many more entries there is room
abbrev pub spare_of : Vec Entry Global → ℕ
spare_of es = vec_capacity es - vec_len es

abbrev pub tickets_in : List Entry → List (Ticket Place)
tickets_in es = filter_map shown es

abbrev pub index_of : List Entry → ℕ → ℕ → Fold Place
index_of es highest next = record { tickets = tickets_in es; highest = highest; next = next }

-- numbers rise up to the highest, below the next; as many entries are closed as are counted
pub record AreKept (es : List Entry) (highest next closed : ℕ) : Type 0 where
  pub rise : RisesTo 0 (numbers_in es) highest
  pub above : highest < next
  pub small : next ≤ 2 ^ 62
  pub counted : closed + length (tickets_in es) ≡ length es

abbrev pub Rise : List Entry → Type 0
Rise es = (high : ℕ) × RisesTo 0 (numbers_in es) high

-- the entries in front are below this number, and the others aren't
pub record IsSplit (n : ℕ) (es : List Entry) (at : ℕ) : Type 0 where
  pub within : at ≤ length es
  pub below : AllByRecursion (λ e. number_at e < n) (take at es)
  pub above : AllByRecursion (λ e. n ≤ number_at e) (drop at es)

-- at this place stands the open ticket of this number, behind lower and before higher ones
pub record IsOpenAt (n : ℕ) (es : List Entry) (at : ℕ) : Type 0 where
  pub entry : Entry
  pub here : drop at es ≡ entry ∷ drop (at + 1) es
  pub within : at < length es
  pub number : number_at entry ≡ n
  pub found : (t : Ticket Place) × (shown entry ≡ Some t)
  pub below : AllByRecursion (λ e. number_at e < n) (take at es)
  pub above : AllByRecursion (λ e. n < number_at e) (drop (at + 1) es)

-- the last of the entries: those above this number
pub record IsAbove (after : ℕ) (es rest : List Entry) : Type 0 where
  pub front : List Entry
  pub whole : es ≡ front ++ rest
  pub below : AllByRecursion (λ e. number_at e ≤ after) front
  pub above : AllByRecursion (λ e. after < number_at e) rest

abbrev pub IsPendingAt : ℕ → List Entry → ℕ → Type 0
IsPendingAt n es at = (p : IsOpenAt n es at) × (stands_pending p.entry.standing ≡ true)

abbrev pub if_pending : Ticket Place → Option (Ticket Place)
if_pending t = if is_some t.reply then None else Some t

-- the pending ticket of this number
abbrev pub find_pending : ℕ → List (Ticket Place) → Option (Ticket Place)
find_pending n ts = option_and_then if_pending (find (numbered n) ts)
