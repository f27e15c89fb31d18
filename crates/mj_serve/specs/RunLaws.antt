-- What users rely on, over a run.
use Rattle.std.specs.Prelude.{◌≡◌, ℕ, List, [], ◌∷◌}
use Rattle.mj_base.specs.declared.limits.Limits.{Limits}
use Rattle.mj_laws.specs.Kept.{CommandsGrow, ListsAreLawful}
use Rattle.mj_laws.specs.NobodyWaits.{IsSettled, NobodyWaits}
use Rattle.mj_laws.specs.Notes.{NotesComeWithAFailure}
use Rattle.mj_laws.specs.Replies.{RepliesAreOwned, RepliesAreOwnedWithout}
use Rattle.mj_laws.specs.Requests.{LeasesEndInTime, OneRequestAtATime, RequestsArePaired}
use Rattle.mj_laws.specs.Soundness.{StaysSound}
use Rattle.mj_laws.specs.Storeless.{NothingIsKept}
use Rattle.mj_laws.specs.Tickets.{TicketsAreConserved}
use Rattle.mj_machine.specs.EventStep.{Noted, state_after}
use Rattle.mj_machine.specs.MachineRun.{plainly}
use Rattle.mj_machine.specs.MachineState.{Machine, start_with}
use Rattle.mj_machine.specs.StoreState.{Store, opened_store}
use Rattle.mj_tickets.specs.declared.command.TicketCmd.{TicketCmd}
use Rattle.mj_serve.specs.Given.{events_in}

-- behind each event no queued request's service has a waiting worker
abbrev pub SettlesOver : Limits → Machine → List Noted → Type 0
SettlesOver limits m [] = Unit {0}
SettlesOver limits m (e ∷ events) = IsSettled (state_after limits m e).state × SettlesOver limits (state_after limits m e) events

-- replies reach their asker, one request at a time goes to a worker, nobody waits for a queued service, and the
-- numbers, lanes and places of all are in order
pub record KeepsLaws (limits : Limits) (store : Store) (events : List Noted) : Type 0 where
  pub replies : RepliesAreOwned limits (start_with limits store) events
  pub requests : OneRequestAtATime limits (start_with limits store) events
  pub paired : RequestsArePaired limits (start_with limits store) events
  pub leases : LeasesEndInTime limits (start_with limits store) events
  pub settled : SettlesOver limits (start_with limits store) events
  pub sound : StaysSound limits (start_with limits store) events

-- with a store: each pending ticket is queued or held once, what is kept is only added to, each list of commands that a
-- crash may leave is lawful, and notes come only with one that an act has failed
pub record KeepsTickets (limits : Limits) (seed : List ℕ) (base : ℕ) (commands : List TicketCmd) (events : List Noted) : Type 0 where
  pub conserved : TicketsAreConserved limits (start_with limits (opened_store seed base commands)) events
  pub grow : CommandsGrow limits (start_with limits (opened_store seed base commands)) events
  pub lawful : ListsAreLawful limits seed base commands events
  pub quiet : NotesComeWithAFailure limits (start_with limits (opened_store seed base commands)) events

-- without a store: no ticket is kept, nobody waits inside an event either, no reply is one of a ticket service, and no
-- event has a note
pub record KeepsNothing (limits : Limits) (events : List Noted) : Type 0 where
  pub nothing : NothingIsKept limits events
  pub waiting : NobodyWaits limits events
  pub replies : RepliesAreOwnedWithout limits events
  pub plain : events ≡ plainly (events_in events)
