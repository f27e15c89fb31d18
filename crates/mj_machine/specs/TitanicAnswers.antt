-- What each answer of Titanic's services says of the store (ZeroMQ RFC 9), as it stands when the answer is sent.
use Rattle.std.specs.Prelude.{ℕ, ◌≡◌, ◌⊎◌, true, List, [], ◌∷◌, ◌++◌, Option, None, Some, codes}
use Rattle.mj_base.specs.declared.limits.Limits.{Limits}
use Rattle.mj_ids.specs.Ids.{id_of, text_of}
use Rattle.mj_mmi.specs.Asking.{read_submit, read_ticket}
use Rattle.mj_tickets.specs.declared.command.TicketCmd.{TicketCmd}
use Rattle.mj_tickets.specs.declared.command.TicketCmd.TheVariants.{Accept, Close}
use Rattle.mj_tickets.specs.Fold.{Ticket, known}
use Rattle.mj_machine.specs.StoreState.{IsShut, Store, tickets_of, usable}
use Rattle.mj_machine.specs.TitanicStep.{Fetches, Finishes, Submits, Titanic, is_full, titanic_of}

-- the store as it was when it had these commands
abbrev pub with_commands : List TicketCmd → Store → Store
with_commands commands store = record store { commands = commands }

-- the command that keeps what is submitted as the next ticket
abbrev pub accept_of : List ℕ × List (List ℕ) → Store → TicketCmd
accept_of asked store = Accept (id_of store.seed (tickets_of store).next) asked.0 asked.1

-- `500`: an act on the disk has failed, and the store is shut
abbrev pub IsFault : Store → List (List ℕ) → Type 0
IsFault store frames = IsShut store.access × (frames ≡ codes "500" ∷ [])

-- ---- titanic.request

-- `500`: the store is full
abbrev pub IsFull : Limits → List ℕ × List (List ℕ) → Store → List (List ℕ) → Type 0
IsFull limits asked store frames = (is_full limits store (accept_of asked store) ≡ true) × (frames ≡ codes "500" ∷ [])

-- `200` and an id: this ticket is the last command that was kept
abbrev pub IsKeptAs : List ℕ × List (List ℕ) → Store → List (List ℕ) → Type 0
IsKeptAs asked store frames =
    (earlier : List TicketCmd) × (store.commands ≡ earlier ++ accept_of asked (with_commands earlier store) ∷ [])
    × (frames ≡ codes "200" ∷ text_of (id_of store.seed (tickets_of (with_commands earlier store)).next) ∷ [])

abbrev pub SubmitAnswer : Limits → Option (List ℕ × List (List ℕ)) → Store → List (List ℕ) → Type 0
SubmitAnswer limits None store frames = frames ≡ codes "400" ∷ []
SubmitAnswer limits (Some asked) store frames = IsFault store frames ⊎ (IsFull limits asked store frames ⊎ IsKeptAs asked store frames)

-- ---- titanic.reply

abbrev pub reply_frames : Option (List (List ℕ)) → List (List ℕ)
reply_frames None = codes "300" ∷ []
reply_frames (Some frames) = codes "200" ∷ frames

-- an id that isn't known, a ticket that is pending, a reply that is stored
abbrev pub shown_frames : Option (Ticket (List (List ℕ))) → List (List ℕ)
shown_frames None = codes "400" ∷ []
shown_frames (Some ticket) = reply_frames ticket.reply

abbrev pub FetchAnswer : Option (List ℕ) → Store → List (List ℕ) → Type 0
FetchAnswer None store frames = frames ≡ codes "400" ∷ []
FetchAnswer (Some id) store frames = IsFault store frames ⊎ ((store.access ≡ usable) × (frames ≡ shown_frames (known id (tickets_of store))))

-- ---- titanic.close

-- the ticket wasn't open, or its close is the last command that was kept
abbrev pub IsClosed : List ℕ → Store → Type 0
IsClosed id store =
    (known id (tickets_of store) ≡ None)
    ⊎ ((earlier : List TicketCmd) × (ticket : Ticket (List (List ℕ))) × (known id (tickets_of (with_commands earlier store)) ≡ Some ticket)
    × (store.commands ≡ earlier ++ Close ticket.number ∷ []))

abbrev pub FinishAnswer : Option (List ℕ) → Store → List (List ℕ) → Type 0
FinishAnswer None store frames = frames ≡ codes "400" ∷ []
FinishAnswer (Some id) store frames = IsFault store frames ⊎ ((store.access ≡ usable) × IsClosed id store × (frames ≡ codes "200" ∷ []))

-- ---- by the service's name

abbrev pub ServiceAnswer : Limits → Option Titanic → List (List ℕ) → Store → List (List ℕ) → Type 0
ServiceAnswer limits None body store frames = frames ≡ codes "501" ∷ []
ServiceAnswer limits (Some Submits) body store frames = SubmitAnswer limits (read_submit body) store frames
ServiceAnswer limits (Some Fetches) body store frames = FetchAnswer (read_ticket body) store frames
ServiceAnswer limits (Some Finishes) body store frames = FinishAnswer (read_ticket body) store frames

abbrev pub IsTitanicAnswer : Limits → List ℕ → List (List ℕ) → Store → List (List ℕ) → Type 0
IsTitanicAnswer limits service body store frames = ServiceAnswer limits (titanic_of service) body store frames
