-- What the three services of Titanic do (ZeroMQ RFC 9). The asker is a client already, and is answered before all is
-- settled.
use Rattle.std.specs.Prelude.{ℕ, Bool, true, false, ◌||◌, nat_le, nat_lt, List, [], ◌∷◌, ◌++◌, length, Option, None, Some, if◌then◌else◌, codes}
use Rattle.std.specs.Str.{bytes_eq}
use Rattle.mj_base.specs.declared.event.Out.{Out}
use Rattle.mj_base.specs.declared.limits.Limits.{Limits}
use Rattle.mj_ids.specs.Ids.{id_of, text_of}
use Rattle.mj_mmi.specs.Asking.{read_submit, read_ticket}
use Rattle.mj_queue.specs.Settling.{without_ticket}
use Rattle.mj_queue.specs.declared.request.Request.{Request}
use Rattle.mj_tickets.specs.declared.command.TicketCmd.{TicketCmd}
use Rattle.mj_tickets.specs.declared.command.TicketCmd.TheVariants as cmds
use Rattle.mj_tickets.specs.Fold.{Ticket, known}
use Rattle.mj_machine.specs.StoreState.{Store, Told, file_length, pends, ticket_request, tickets_of}
use Rattle.mj_machine.specs.MachineState.{Act, Done, State}
use Rattle.mj_machine.specs.Acts.{quiet}
use Rattle.mj_machine.specs.Sending.{reply_text, sends}
use Rattle.mj_machine.specs.DiskActs.{appending, opening, reading, routes}

-- ---- the services

pub data Titanic : Type 0 where
  Submits : Titanic
  Fetches : Titanic
  Finishes : Titanic

abbrev pub titanic_of : List ℕ → Option Titanic
titanic_of name =
    if bytes_eq name (codes "titanic.request") then Some Submits else
    (if bytes_eq name (codes "titanic.reply") then Some Fetches else
    (if bytes_eq name (codes "titanic.close") then Some Finishes else None))

-- ---- answers

-- the last reply to this request
abbrev pub answers : ℕ → Request → List (List ℕ) → Told → State → Done Out
answers n request frames told s = sends n (reply_text true request frames) told s

abbrev pub tells : ℕ → Request → List ℕ → Act
tells n request code w = routes (answers n request (code ∷ [])) w

abbrev pub fails_to : ℕ → Request → Act
fails_to n request w = tells n request (codes "500") w

-- ---- titanic.request

-- too many tickets are open, or the file would be too long with the command
abbrev pub is_full : Limits → Store → TicketCmd → Bool
is_full limits store cmd = nat_le limits.tickets (length (tickets_of store).tickets) || nat_lt limits.file (file_length (store.commands ++ cmd ∷ []))

-- the ticket's request is queued, and its id is told
abbrev pub accepted : ℕ → List ℕ → List ℕ → ℕ → Request → Told → State → Done Out
accepted number id service n request told s =
    answers n request (codes "200" ∷ text_of id ∷ []) told (record s { queue = s.queue ++ ticket_request number service ∷ [] })

abbrev pub accepts_by : Bool → ℕ → List ℕ → List ℕ × List (List ℕ) → ℕ → Request → Act
accepts_by true number id asked n request w = fails_to n request w
accepts_by false number id asked n request w = appending (cmds.Accept id asked.0 asked.1) (fails_to n request) (routes (accepted number id asked.0 n request)) w

abbrev pub accepts_as : ℕ → List ℕ → List ℕ × List (List ℕ) → ℕ → Request → Act
accepts_as number id asked n request w = accepts_by (is_full w.routing.limits w.store (cmds.Accept id asked.0 asked.1)) number id asked n request w

-- the next number, and its id
abbrev pub accepts : ℕ → Request → List ℕ × List (List ℕ) → Act
accepts n request asked w = accepts_as (tickets_of w.store).next (id_of w.store.seed (tickets_of w.store).next) asked n request w

-- a service and a body are submitted
abbrev pub submits : ℕ → Request → Option (List ℕ × List (List ℕ)) → Act
submits n request None w = tells n request (codes "400") w
submits n request (Some asked) w = opening (fails_to n request) (accepts n request asked) w

-- ---- titanic.reply

abbrev pub shows_reply : ℕ → Request → Option (List (List ℕ)) → Act
shows_reply n request None w = tells n request (codes "300") w
shows_reply n request (Some frames) w = reading (fails_to n request) (routes (answers n request (codes "200" ∷ frames))) w

abbrev pub shows : ℕ → Request → Option (Ticket (List (List ℕ))) → Act
shows n request None w = tells n request (codes "400") w
shows n request (Some ticket) w = shows_reply n request ticket.reply w

-- the reply of the ticket with this whole id is asked for
abbrev pub fetches : ℕ → Request → Option (List ℕ) → Act
fetches n request None w = tells n request (codes "400") w
fetches n request (Some id) w = opening (fails_to n request) (λ v. shows n request (known id (tickets_of v.store)) v) w

-- ---- titanic.close

-- what the ticket still has queued is dropped
abbrev pub closed : ℕ → Request → ℕ → Told → State → Done Out
closed n request number told s = answers n request (codes "200" ∷ []) told (record s { queue = without_ticket number s.queue })

abbrev pub closes_ticket : ℕ → Request → Option (Ticket (List (List ℕ))) → Act
closes_ticket n request None w = tells n request (codes "200") w
closes_ticket n request (Some ticket) w = appending (cmds.Close ticket.number) (fails_to n request) (routes (closed n request ticket.number)) w

-- the ticket with this whole id isn't needed any more
abbrev pub finishes : ℕ → Request → Option (List ℕ) → Act
finishes n request None w = tells n request (codes "400") w
finishes n request (Some id) w = opening (fails_to n request) (λ v. closes_ticket n request (known id (tickets_of v.store)) v) w

-- ---- by the service's name

abbrev pub serves : Option Titanic → ℕ → Request → Act
serves None n request w = tells n request (codes "501") w
serves (Some Submits) n request w = submits n request (read_submit request.body) w
serves (Some Fetches) n request w = fetches n request (read_ticket request.body) w
serves (Some Finishes) n request w = finishes n request (read_ticket request.body) w

-- ---- a ticket's final reply

abbrev pub stores_by : Bool → ℕ → List (List ℕ) → Act
stores_by true number body w = appending (cmds.Store number body) quiet quiet w
stores_by false number body w = quiet w

-- it is stored where the ticket is pending; where an act fails it is dropped
abbrev pub stores : ℕ → List (List ℕ) → Act
stores number body w = opening quiet (λ v. stores_by (pends number (tickets_of v.store)) number body v) w
