-- The parts of the services that stand on an open store.
use Rattle.std.specs.Prelude.{ℕ, List, [], ◌∷◌, ◌++◌, Option, None, Some, codes}
use Rattle.mj_base.specs.declared.event.Out.{Out}
use Rattle.mj_queue.specs.declared.request.Request.{Request}
use Rattle.mj_tickets.specs.declared.command.TicketCmd.TheVariants as cmds
use Rattle.mj_tickets.specs.Fold.{known, ticket_of}
use Rattle.mj_machine.specs.StoreState.{Told, pends, ticket_request, tickets_of}
use Rattle.mj_machine.specs.MachineState.{Act, Done, State}
use Rattle.mj_machine.specs.DiskActs.{appending, reading, routes}
use Rattle.mj_machine.specs.Pairing.{dispatches}
use Rattle.mj_machine.specs.TitanicStep.{answers, closed, closes_ticket, fails_to, shows, stores_by}
use Rattle.mj_queue.specs.Settling.{pair}
use Rattle.mj_keeper.specs.Standing.{reply_of}

-- ---- titanic.request

-- the ticket's request is queued, and the text of its id is told
abbrev pub accepted_as : ℕ → List ℕ → List ℕ → ℕ → Request → Told → State → Done Out
accepted_as number text service n request told s = answers n request (codes "200" ∷ text ∷ []) told (record s { queue = s.queue ++ ticket_request number service ∷ [] })

-- ---- titanic.close

abbrev pub closes_known : ℕ → Request → List ℕ → Act
closes_known n request id w = closes_ticket n request (known id (tickets_of w.store)) w

abbrev pub closing : ℕ → Request → ℕ → Act
closing n request ticket w = appending (cmds.Close ticket) (fails_to n request) (routes (closed n request ticket)) w

-- ---- titanic.reply

abbrev pub shows_known : ℕ → Request → List ℕ → Act
shows_known n request id w = shows n request (known id (tickets_of w.store)) w

abbrev pub frames_in : Option (List (List ℕ)) → List (List ℕ)
frames_in None = []
frames_in (Some frames) = frames

-- the stored reply of this ticket is read and told
abbrev pub showing : ℕ → Request → ℕ → Act
showing n request ticket w =
    reading (fails_to n request) (routes (answers n request (codes "200" ∷ frames_in (reply_of (ticket_of ticket (tickets_of w.store)))))) w

-- ---- a ticket's final reply

abbrev pub stores_now : ℕ → List (List ℕ) → Act
stores_now number body w = stores_by (pends number (tickets_of w.store)) number body w

-- ---- the next pair

abbrev pub next_pair : Act
next_pair w = dispatches (pair w.routing.waiting w.routing.queue) w
