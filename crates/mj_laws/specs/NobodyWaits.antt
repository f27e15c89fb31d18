-- Immediate dispatch: nobody waits for a service that somebody has queued for.
use Rattle.std.specs.Prelude.{ℕ, ◌≡◌, ◌≢◌, ◌⊎◌, List}
use Rattle.std.specs.List.{AllByRecursion}
use Rattle.mj_base.specs.declared.limits.Limits.{Limits}
use Rattle.mj_queue.specs.Settling.{Pair}
use Rattle.mj_machine.specs.MachineState.{Machine, State, Whole, start}
use Rattle.mj_machine.specs.MessageStep.{message_step}
use Rattle.mj_machine.specs.EventStep.{Noted, state_after}
use Rattle.mj_machine.specs.MachineRun.{run_state}
use Rattle.mj_machine.specs.Steps.{Cause, Paired, Step, run_steps}

-- no queued request's service is that of a waiting worker
abbrev pub IsSettled : State → Type 0
IsSettled s = AllByRecursion (λ r. AllByRecursion (λ w. w.service ≢ r.service) s.waiting) s.queue

-- behind each event
abbrev pub EventsSettle : Type 0
EventsSettle = (limits : Limits) (m : Machine) (e : Noted) → IsSettled (state_after limits m e).state

-- and behind each message in it
abbrev pub MessagesSettle : Type 0
MessagesSettle = (n : ℕ) (message : List (List ℕ)) (w : Whole) → IsSettled (message_step n message w).0.routing

-- ---- without a store

abbrev pub IsPairing : Cause → Type 0
IsPairing cause = (p : Pair) × (cause ≡ Paired p)

abbrev pub BeginsSettled : Step → Type 0
BeginsSettled t = IsPairing t.cause ⊎ IsSettled t.before.routing

-- only pairs are made until a message is settled, and an event; and at the run's end all is settled
abbrev pub NobodyWaits : Limits → List Noted → Type 0
NobodyWaits limits events = AllByRecursion BeginsSettled (run_steps limits (start limits) events) × IsSettled (run_state limits (start limits) events).state
