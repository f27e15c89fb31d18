-- Messages within the limits of the stream that gives them.
use Rattle.std.specs.Prelude.{◌≡◌, List, ◌++◌}
use Rattle.std.specs.List.{AllByRecursion}
use Rattle.mj_base.specs.declared.limits.Limits.{Limits}
use Rattle.mj_wire.specs.declared.item.WireItem.{WireItem}
use Rattle.mj_wire.specs.declared.item.WireItem.TheVariants as items
use Rattle.mj_wire.specs.StreamCuts.{IsSmallMessage}

abbrev pub IsSmallItem : Limits → WireItem → Type 0
IsSmallItem limits items.Accepted = Unit {0}
IsSmallItem limits (items.Ready kind) = Unit {0}
IsSmallItem limits (items.Message message) = IsSmallMessage limits message
IsSmallItem limits (items.Ended reason at) = Unit {0}

abbrev pub AreSmallItems : Limits → List WireItem → Type 0
AreSmallItems limits found = AllByRecursion (IsSmallItem limits) found

-- items were appended, and each message of theirs is within the limits
abbrev pub AddsSmall : Limits → List WireItem → List WireItem → Type 0
AddsSmall limits before now = (added : List WireItem) × (now ≡ before ++ added) × AreSmallItems limits added
