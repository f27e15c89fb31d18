-- What a broker keeps of its tickets (ZeroMQ RFC 9): the commands that it has kept, and whether their file can be used.
use Rattle.std.specs.Prelude.{ℕ, ◌+◌, Bool, true, false, not, ◌&&◌, List, [], ◌∷◌, map, Option, None, Some}
use Rattle.std.specs.Option.{unwrap_or}
use Rattle.std.specs.List.{filter, list_any}
use Rattle.mj_base.specs.declared.version.Version.TheVariants.{One}
use Rattle.mj_queue.specs.Settling.{is_ticket}
use Rattle.mj_queue.specs.declared.request.Origin.TheVariants.{Ticket}
use Rattle.mj_queue.specs.declared.request.Request.{Request}
use Rattle.mj_tickets.specs.declared.command.TicketCmd.{TicketCmd}
use Rattle.mj_tickets.specs.Fold as fold
use Rattle.mj_tickets.specs.Fold.{Fold, fold_of, is_pending, ticket_of}
use Rattle.mj_tickets.specs.Payload.{payload_of}
use Rattle.mj_journal.specs.FileText.{end_of}
use Rattle.mj_machine.specs.declared.held.Held.{Held}

-- ---- the store

-- the file is open; or it is shut since an act on its disk failed, and it isn't known whether this command is in it
pub data Access : Type 0 where
  Open : Access
  Shut : (doubt : Option TicketCmd) → Access

abbrev pub usable : Access
usable = Open

abbrev pub IsShut : Access → Type 0
IsShut Open = ⊥
IsShut (Shut doubt) = Unit {0}

-- whether there is a store; what its ids are drawn from; the base of its numbers; the commands that were kept, oldest
-- first, those of earlier runs among them
pub record Store : Type 0 where
  pub stored : Bool
  pub seed : List ℕ
  pub base : ℕ
  pub commands : List TicketCmd
  pub access : Access

-- without a store no ticket is ever kept
abbrev pub no_store : Store
no_store = record { stored = false; seed = []; base = 1; commands = []; access = Open }

-- a store whose file was opened and has these commands
abbrev pub opened_store : List ℕ → ℕ → List TicketCmd → Store
opened_store seed base commands = record { stored = true; seed = seed; base = base; commands = commands; access = Open }

-- the command in doubt, where there is one
abbrev pub doubted : Access → List TicketCmd
doubted Open = []
doubted (Shut None) = []
doubted (Shut (Some cmd)) = cmd ∷ []

-- ---- its tickets

-- the open tickets, with their bodies
abbrev pub tickets_of : Store → Fold (List (List ℕ))
tickets_of store = unwrap_or (fold_of store.base store.commands) (fold.start store.base)

abbrev pub is_pending_one : {B : Type 0} → Option (fold.Ticket B) → Bool
is_pending_one None = false
is_pending_one (Some t) = is_pending t

-- the ticket of this number has no reply yet
abbrev pub pends : {B : Type 0} → ℕ → Fold B → Bool
pends n tickets = is_pending_one (ticket_of n tickets)

abbrev pub body_in : Option (fold.Ticket (List (List ℕ))) → List (List ℕ)
body_in None = []
body_in (Some t) = t.body

-- the body of an open ticket
abbrev pub ticket_body : ℕ → Store → List (List ℕ)
ticket_body n store = body_in (ticket_of n (tickets_of store))

-- the length of the file that has these commands: it ends with the closed gate
abbrev pub file_length : List TicketCmd → ℕ
file_length commands = end_of (map payload_of commands) + 1

-- ---- tickets that wait

-- a ticket's request while it is queued or held: its body is the ticket's
abbrev pub ticket_request : ℕ → List ℕ → Request
ticket_request n service = record { origin = Ticket n; service = service; version = One; lead = true; body = [] }

-- a worker holds the request of this ticket
abbrev pub holds_ticket : List Held → ℕ → Bool
holds_ticket held n = list_any (λ h. is_ticket n h.request.origin) held

-- the requests of all pending tickets that no worker holds, by number
abbrev pub waiting_tickets : {B : Type 0} → List Held → Fold B → List Request
waiting_tickets held tickets = map (λ t. ticket_request t.number t.service) (filter (λ t. is_pending t && not (holds_ticket held t.number)) tickets.tickets)

-- ---- what is told of the store

-- whether there is one, and whether a ticket is pending while it is open
pub record Told : Type 0 where
  pub stored : Bool
  pub pends : ℕ → Bool

abbrev pub pends_while : {B : Type 0} → Access → Fold B → ℕ → Bool
pends_while Open tickets n = pends n tickets
pends_while (Shut doubt) tickets n = false

abbrev pub told_by : Store → Told
told_by store = record { stored = store.stored; pends = pends_while store.access (tickets_of store) }
