-- Where tickets stand: each pending one once among the queued and the held.
use Rattle.std.specs.Prelude.{ℕ, ◌≡◌, ◌+◌, ◌≤◌, true, false, List}
use Rattle.std.specs.List.{AllByRecursion}
use Rattle.mj_base.specs.declared.limits.Limits.{Limits}
use Rattle.mj_queue.specs.Settling.{is_of_client, is_ticket}
use Rattle.mj_queue.specs.declared.request.Request.{Request}
use Rattle.mj_machine.specs.declared.held.Held.{Held}
use Rattle.mj_machine.specs.StoreState.{IsShut, Store, pends, tickets_of, usable}
use Rattle.mj_machine.specs.MachineState.{Machine, State}
use Rattle.mj_machine.specs.EventStep.{Noted}
use Rattle.mj_machine.specs.MachineRun.{run_state}
use Rattle.mj_machine.specs.Steps.{run_steps}
use Rattle.mj_laws.specs.Soundness.{times}

-- how often a ticket is queued, and held
abbrev pub queuings : ℕ → List Request → ℕ
queuings n queue = times (λ r. is_ticket n r.origin) queue

abbrev pub ticket_holdings : ℕ → List Held → ℕ
ticket_holdings n held = times (λ h. is_ticket n h.request.origin) held

-- while the store is open each pending ticket stands once in the queue and with the workers together, and no other is
-- queued; while it is shut none is queued, and each is held once at most
pub record TicketsStandOnce (store : Store) (s : State) : Type 0 where
  pub pending : store.access ≡ usable → (n : ℕ) → pends n (tickets_of store) ≡ true → queuings n s.queue + ticket_holdings n s.held ≡ 1
  pub others : store.access ≡ usable → (n : ℕ) → pends n (tickets_of store) ≡ false → queuings n s.queue ≡ 0
  pub shut : IsShut store.access → (n : ℕ) → (queuings n s.queue ≡ 0) × (ticket_holdings n s.held ≤ 1)

-- before and after each step, and at the end
abbrev pub TicketsAreConserved : Limits → Machine → List Noted → Type 0
TicketsAreConserved limits m events =
    AllByRecursion (λ t. TicketsStandOnce t.before.store t.before.routing × TicketsStandOnce t.after.store t.after.routing) (run_steps limits m events)
    × TicketsStandOnce (run_state limits m events).store (run_state limits m events).state

-- ---- over any file

-- while the store is shut only clients' requests are queued
abbrev pub NoTicketWaits : Store → State → Type 0
NoTicketWaits store s = IsShut store.access → AllByRecursion (λ r. is_of_client r.origin ≡ true) s.queue

abbrev pub TicketsWaitForTheStore : Limits → Machine → List Noted → Type 0
TicketsWaitForTheStore limits m events =
    AllByRecursion (λ t. NoTicketWaits t.before.store t.before.routing × NoTicketWaits t.after.store t.after.routing) (run_steps limits m events)
    × NoTicketWaits (run_state limits m events).store (run_state limits m events).state
