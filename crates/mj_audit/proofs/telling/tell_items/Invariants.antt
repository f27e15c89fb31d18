use Rattle.std.proofs.Common.{◌≡◌, ◌++◌, List, true, take}
use Rattle.std.specs.List.{flat_map}
use Rattle.mj_ledger.specs.Events.{Event}
use Rattle.mj_ledger.specs.Standing.{Stands, is_known}
use Rattle.mj_transcript.specs.Said.{told}
use Rattle.mj_audit.proofs.telling.tell_items.Given as goal

abbrev pub invariant-loop-item : goal.invariant-loop-item
invariant-loop-item l = (es : List Event) → is_known l.who es ≡ true → Stands l.fn.tables es → Stands l.tables (es ++ flat_map (told l.who) (take l.item-index l.items))
