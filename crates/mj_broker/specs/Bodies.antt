-- Bodies that a store can keep.
use Rattle.std.specs.Prelude.{ℕ, ◌≤◌, ⊤, List, length, sum_by}
use Rattle.std.specs.List.{AllByRecursion}
use Rattle.mj_machine.specs.declared.said.Said.{Said}
use Rattle.mj_machine.specs.declared.said.Said.TheVariants.{Asks, Serves, Neither}
use Rattle.mj_wire.specs.declared.item.WireItem.{WireItem}
use Rattle.mj_wire.specs.declared.item.WireItem.TheVariants as items
use Rattle.mj_worker_cmd.specs.declared.command.WorkerAct.{WorkerAct}
use Rattle.mj_worker_cmd.specs.declared.command.WorkerAct.TheVariants as act

-- within the greatest lawful limits of a message
abbrev pub IsShort : List (List ℕ) → Type 0
IsShort body = (length body ≤ 260) × (sum_by length body ≤ 1049600)

abbrev pub IsShortAct : WorkerAct → Type 0
IsShortAct (act.Ready service) = ⊤
IsShortAct (act.Reply last address body) = IsShort body
IsShortAct act.Heartbeat = ⊤
IsShortAct act.Disconnect = ⊤

abbrev pub IsShortSaid : Said → Type 0
IsShortSaid (Asks cmd) = IsShort cmd.body
IsShortSaid (Serves cmd) = IsShortAct cmd.act
IsShortSaid Neither = ⊤

abbrev pub IsShortItem : WireItem → Type 0
IsShortItem items.Accepted = ⊤
IsShortItem (items.Ready kind) = ⊤
IsShortItem (items.Message message) = IsShort message
IsShortItem (items.Ended reason at) = ⊤

abbrev pub AreShort : List WireItem → Type 0
AreShort found = AllByRecursion IsShortItem found
