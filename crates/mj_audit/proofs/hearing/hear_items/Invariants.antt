use Rattle.std.proofs.Common.{◌≡◌, ◌++◌, List, true, length, take}
use Rattle.std.specs.List.{filter, flat_map}
use Rattle.mj_ledger.specs.Events.{Event}
use Rattle.mj_ledger.specs.Standing.{Stands, is_known}
use Rattle.mj_transcript.specs.Lines.{is_message}
use Rattle.mj_transcript.specs.Said.{hears}
use Rattle.mj_audit.proofs.hearing.hear_items.Given as goal

abbrev pub invariant-loop-item : goal.invariant-loop-item
invariant-loop-item l = record {
  stands : (es : List Event) → is_known l.who es ≡ true → Stands l.fn.tables es → Stands l.tables (es ++ flat_map (hears l.who) (take l.item-index l.items));
  still : length (filter is_message (take l.item-index l.items)) ≡ 0 → l.tables ≡ l.fn.tables;
}
