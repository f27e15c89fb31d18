-- What becomes of what is routed where the store is opened again.
use Rattle.std.specs.Prelude.{◌++◌}
use Rattle.mj_store.specs.Standing.{StoreValue}
use Rattle.mj_machine.specs.MachineState.{State}
use Rattle.mj_machine.specs.DiskActs.{clients_alone}
use Rattle.mj_machine.specs.StoreState.{waiting_tickets}
use Rattle.mj_keeper.specs.declared.keeper.Shelf.{Shelf}
use Rattle.mj_keeper.specs.declared.keeper.Shelf.TheVariants.{Absent, Open, Shut}

-- the pending tickets that no worker holds are queued, by number
abbrev pub with_waiting : StoreValue → State → State
with_waiting held core = record core { queue = core.queue ++ waiting_tickets core.held held.index }

-- of a store that was shut: behind the opening the waiting tickets are queued, and where it failed no ticket stays queued
abbrev pub core_opened : Shelf → State → State
core_opened Absent core = core
core_opened (Open held) core = with_waiting held core
core_opened (Shut end) core = clients_alone core

-- a store that was open already stays as it is
abbrev pub core_reopened : Shelf → Shelf → State → State
core_reopened Absent new core = core
core_reopened (Open held) new core = core
core_reopened (Shut end) new core = core_opened new core
