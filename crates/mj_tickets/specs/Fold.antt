-- Which tickets a list of commands leaves open (ZeroMQ RFC 9), for any kind of value in a body's place.
use Rattle.std.specs.Prelude.{ℕ, ◌≡◌, ◌+◌, ◌==◌, ◌<◌, ◌≤◌, Bool, not, ◌&&◌, nat_lt, nat_le, List, [], ◌∷◌, ◌++◌, filter, find, Option, Some, None, option_map, option_and_then, is_some, if◌then◌else◌}
use Rattle.std.specs.Str.{bytes_eq}
use Rattle.mj_ids.specs.Ids.{number_of}
use Rattle.mj_tickets.specs.declared.command.TicketCmd.{TicketCmd}
use Rattle.mj_tickets.specs.declared.command.TicketCmd.TheVariants.{Accept, Store, Close}
use Rattle.mj_tickets.specs.Payload.{body_of}

-- an open ticket: pending, or with the reply that is stored
pub record Ticket (B : Type 0) : Type 0 where
  pub number : ℕ
  pub id : List ℕ
  pub service : List ℕ
  pub body : B
  pub reply : Option B

-- the open tickets by number, the greatest number of an accept so far, and the next number
pub record Fold (B : Type 0) : Type 0 where
  pub tickets : List (Ticket B)
  pub highest : ℕ
  pub next : ℕ

-- no tickets; the first that isn't kept from an earlier file gets the base as its number
abbrev pub start : {B : Type 0} → ℕ → Fold B
start base = record { tickets = []; highest = 0; next = base }

-- an accept is lawful where its number is above all accepts' so far, and at most the next
abbrev pub takes : {B : Type 0} → ℕ → Fold B → Bool
takes n f = nat_lt f.highest n && nat_le n f.next

abbrev pub accepted : {B : Type 0} → Ticket B → Fold B → Fold B
accepted t f = record { tickets = f.tickets ++ t ∷ []; highest = t.number; next = if t.number == f.next then f.next + 1 else f.next }

abbrev pub numbered : {B : Type 0} → ℕ → Ticket B → Bool
numbered n t = t.number == n

-- the open ticket of this number
abbrev pub ticket_of : {B : Type 0} → ℕ → Fold B → Option (Ticket B)
ticket_of n f = find (numbered n) f.tickets

abbrev pub changed_first : {A : Type 0} → (A → Bool) → (A → A) → List A → List A
changed_first test change [] = []
changed_first test change (x ∷ xs) = if test x then change x ∷ xs else x ∷ changed_first test change xs

abbrev pub replied : {B : Type 0} → B → Ticket B → Ticket B
replied reply t = record { number = t.number; id = t.id; service = t.service; body = t.body; reply = Some reply }

abbrev pub stored : {B : Type 0} → ℕ → B → Fold B → Fold B
stored n reply f = record { tickets = changed_first (numbered n) (replied reply) f.tickets; highest = f.highest; next = f.next }

abbrev pub closed : {B : Type 0} → ℕ → Fold B → Fold B
closed n f = record { tickets = filter (λ t. not (numbered n t)) f.tickets; highest = f.highest; next = f.next }

abbrev pub accepts : {B : Type 0} → List ℕ → List ℕ → B → Fold B → Option (Fold B)
accepts id service body f =
    if takes (number_of id) f then Some (accepted (record { number = number_of id; id = id; service = service; body = body; reply = None }) f) else None

abbrev pub stores_in : {B : Type 0} → ℕ → B → Fold B → Ticket B → Option (Fold B)
stores_in n reply f t = if is_some t.reply then None else Some (stored n reply f)

-- a reply is stored once, for an open ticket
abbrev pub stores : {B : Type 0} → ℕ → B → Fold B → Option (Fold B)
stores n reply f = option_and_then (stores_in n reply f) (ticket_of n f)

abbrev pub closes : {B : Type 0} → ℕ → Fold B → Option (Fold B)
closes n f = option_map (λ t. closed n f) (ticket_of n f)

-- the tickets behind one command more, with this value in the place of its body; None where it is unlawful
abbrev pub applied : {B : Type 0} → TicketCmd → B → Fold B → Option (Fold B)
applied (Accept id service body) value f = accepts id service value f
applied (Store number body) value f = stores number value f
applied (Close number) value f = closes number f

-- ---- lists of commands

-- the tickets behind a list of commands, where the value in a body's place is that of this function
abbrev pub folded_by : {C B : Type 0} → (C → TicketCmd) → (C → B) → List C → Fold B → Option (Fold B)
folded_by cmd value [] f = Some f
folded_by cmd value (c ∷ cs) f = option_and_then (folded_by cmd value cs) (applied (cmd c) (value c) f)

-- with the bodies themselves
abbrev pub folded : List TicketCmd → Fold (List (List ℕ)) → Option (Fold (List (List ℕ)))
folded cmds f = folded_by (λ cmd. cmd) body_of cmds f

-- the tickets of a whole list; None where it isn't lawful
abbrev pub fold_of : ℕ → List TicketCmd → Option (Fold (List (List ℕ)))
fold_of base cmds = folded cmds (start base)

-- ---- what is asked of the tickets

-- the ticket with this whole id
abbrev pub known : {B : Type 0} → List ℕ → Fold B → Option (Ticket B)
known id f = find (λ t. bytes_eq t.id id) f.tickets

abbrev pub is_pending : {B : Type 0} → Ticket B → Bool
is_pending t = not (is_some t.reply)

-- the first open ticket above a number, and the first pending one
abbrev pub open_above : {B : Type 0} → ℕ → Fold B → Option (Ticket B)
open_above n f = find (λ t. nat_lt n t.number) f.tickets

abbrev pub pending_above : {B : Type 0} → ℕ → Fold B → Option (Ticket B)
pending_above n f = find (λ t. nat_lt n t.number && is_pending t) f.tickets

-- ---- the numbers of the open tickets

-- the numbers rise, from above the first bound up to the second
abbrev pub RisesTo : ℕ → List ℕ → ℕ → Type 0
RisesTo low [] high = low ≤ high
RisesTo low (n ∷ ns) high = (low < n) × RisesTo n ns high

abbrev pub number_in : {B : Type 0} → Ticket B → ℕ
number_in t = t.number

abbrev pub IsNamed : {B : Type 0} → Ticket B → Type 0
IsNamed t = t.number ≡ number_of t.id
