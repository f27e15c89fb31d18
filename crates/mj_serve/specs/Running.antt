-- A run between two events, and what a turn of it does.
use Rattle.std.specs.Prelude.{ℕ, ◌≡◌, ◌≤◌, List, [], ◌++◌, length, map}
use Rattle.mj_base.specs.declared.event.Event.{Event}
use Rattle.mj_base.specs.declared.event.Out.{Out}
use Rattle.mj_base.specs.declared.limits.Limits.{Limits}
use Rattle.mj_broker.specs.Handling.{BrokerValue, IsBroker, limits_of}
use Rattle.mj_disk.specs.declared.disk.Disk.{Ghosts}
use Rattle.mj_machine.specs.EventStep.{Noted}
use Rattle.mj_machine.specs.MachineRun.{run_outs, run_state}
use Rattle.mj_machine.specs.MachineState.{Machine}
use Rattle.mj_serve.specs.Counts.{Counts}
use Rattle.mj_serve.specs.Given.{Entry, entry_at}
use Rattle.mj_serve.specs.Serving.{RanOver}
use Rattle.mj_serve.specs.declared.summary.Summary.{Summary}

-- the broker and the disk stand for the machine behind the events
pub record Ran {P D : Type 0} (stand : P → P → List Event → List Entry → Type 0) (disks : Ghosts D) (origin : P) (began : D) (limits : Limits) (first : Machine) (ports : P) (disk : D) (broker : BrokerValue) (summary : Summary) : Type 0 where
  pub happened : List Noted
  pub given : List Entry
  pub ran : RanOver stand disks origin began limits first ports disk happened [] given
  pub counts : Counts summary happened (run_outs limits first happened)
  pub limited : limits_of broker ≡ limits
  pub at : IsBroker disks broker disk (run_state limits first happened)

-- it ended early: at one event more, or at none
pub record RanOut {P D : Type 0} (stand : P → P → List Event → List Entry → Type 0) (disks : Ghosts D) (origin : P) (began : D) (limits : Limits) (first : Machine) (ports : P) (disk : D) : Type 0 where
  pub happened : List Noted
  pub last : List Noted
  pub alone : length last ≤ 1
  pub given : List Entry
  pub ran : RanOver stand disks origin began limits first ports disk happened last given

-- the ports were given these outs, pieces at this moment
abbrev pub Gives : {P : Type 0} → (P → P → List Event → List Entry → Type 0) → P → P → ℕ → List Out → Type 0
Gives {P} stand old new moment outs =
    (origin : P) (taken : List Event) (given : List Entry) → stand origin old taken given → stand origin new taken (given ++ map (entry_at moment) outs)

-- these ports stand for some events and entries since others, whatever the disk tells
abbrev pub Stood : {P : Type 0} → (P → P → List Event → List Entry → Type 0) → P → P → Type 0
Stood stand origin ports = (taken : List Event) × (given : List Entry) × stand origin ports taken given
