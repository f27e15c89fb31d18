-- Acts on the disk: an append, the reading of a body, an opening again; and what becomes of the store where one fails.
use Rattle.std.specs.Prelude.{ℕ, ◌+◌, ◌==◌, Bool, true, false, ◌&&◌, List, [], ◌∷◌, ◌++◌, Option, None, Some}
use Rattle.std.specs.Option.{is_some}
use Rattle.std.specs.List.{filter, list_any}
use Rattle.mj_base.specs.declared.event.Note.{Note}
use Rattle.mj_base.specs.declared.event.Note.TheVariants as notes
use Rattle.mj_base.specs.declared.event.Out.{Out}
use Rattle.mj_base.specs.declared.event.Out.TheVariants as outs
use Rattle.mj_queue.specs.Settling.{is_of_client}
use Rattle.mj_tickets.specs.declared.command.TicketCmd.{TicketCmd}
use Rattle.mj_machine.specs.StoreState.{Access, Open, Shut, Store, Told, tickets_of, told_by, waiting_tickets}
use Rattle.mj_machine.specs.MachineState.{Act, Done, State, Whole}
use Rattle.mj_machine.specs.Acts.{Doing, ◌then◌}

-- ---- an act on what is routed, as one on the whole

abbrev pub routed : Whole → Done Out → Doing Whole Out
routed w d = (record w { routing = d.0 }, d.1)

-- it is told of the store
abbrev pub routes : (Told → State → Done Out) → Act
routes act w = routed w (act (told_by w.store) w.routing)

-- ---- what notes say

abbrev pub says_shut : ℕ → Note → Bool
says_shut k (notes.Shut n) = n == k
says_shut k (notes.Again n found) = false

abbrev pub says_found : ℕ → Note → Bool
says_found k (notes.Shut n) = false
says_found k (notes.Again n found) = (n == k) && found

-- the next act fails; or finds the command in doubt
abbrev pub fails : Whole → Bool
fails w = list_any (says_shut w.acts) w.notes

abbrev pub finds : Whole → Bool
finds w = list_any (says_found w.acts) w.notes

-- the notes among what was done
abbrev pub notes_in : List Out → List Note
notes_in [] = []
notes_in (outs.Piece lane octets ∷ rest) = notes_in rest
notes_in (outs.End lane reason at ∷ rest) = notes_in rest
notes_in (outs.Note note ∷ rest) = note ∷ notes_in rest

-- ---- an act that fails

abbrev pub counted : Whole → Whole
counted w = record w { acts = w.acts + 1 }

abbrev pub clients_alone : State → State
clients_alone s = record s { queue = filter (λ r. is_of_client r.origin) s.queue }

-- the store is shut with this command in doubt, and no ticket stays queued
abbrev pub shuts : Option TicketCmd → Act
shuts doubt w = (
  record (counted w) { routing = clients_alone w.routing; store = record w.store { access = Shut doubt } },
  outs.Note (notes.Shut w.acts) ∷ [],
)

abbrev pub attempted : Bool → Option TicketCmd → Act → Act → Act
attempted true doubt failed done w = shuts doubt w then failed
attempted false doubt failed done w = done (counted w)

-- ---- a reading, and an append

-- a body is read, and then this or that is done
abbrev pub reading : Act → Act → Act
reading failed done w = attempted (fails w) None failed done w

abbrev pub appended : TicketCmd → Whole → Whole
appended cmd w = record w { store = record w.store { commands = w.store.commands ++ cmd ∷ [] } }

-- a command is appended, and then this or that is done
abbrev pub appending : TicketCmd → Act → Act → Act
appending cmd failed done w = attempted (fails w) (Some cmd) failed (λ v. done (appended cmd v)) w

-- ---- an opening again

abbrev pub found_in : Bool → Option TicketCmd → Option TicketCmd
found_in true doubt = doubt
found_in false doubt = None

abbrev pub with_found : Option TicketCmd → List TicketCmd → List TicketCmd
with_found None commands = commands
with_found (Some cmd) commands = commands ++ cmd ∷ []

abbrev pub reopened : Option TicketCmd → Store → Store
reopened found store = record store { commands = with_found found store.commands; access = Open }

-- every pending ticket that no worker holds goes to the queue's end
abbrev pub queues_tickets : Store → State → State
queues_tickets store s = record s { queue = s.queue ++ waiting_tickets s.held (tickets_of store) }

abbrev pub reopens : Option TicketCmd → Act
reopens found w = (
  record (counted w) { routing = queues_tickets (reopened found w.store) w.routing; store = reopened found w.store },
  outs.Note (notes.Again w.acts (is_some found)) ∷ [],
)

-- where it fails the doubt stays as it was
abbrev pub opening_again : Bool → Option TicketCmd → Act → Act → Act
opening_again true doubt failed done w = shuts doubt w then failed
opening_again false doubt failed done w = reopens (found_in (finds w) doubt) w then done

abbrev pub opening_by : Access → Act → Act → Act
opening_by Open failed done w = done w
opening_by (Shut doubt) failed done w = opening_again (fails w) doubt failed done w

-- a store that is shut is opened again, and then this or that is done
abbrev pub opening : Act → Act → Act
opening failed done w = opening_by w.store.access failed done w
