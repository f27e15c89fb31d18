use Rattle.std.proofs.Common.{◌≡◌, ◌≤◌, length, take}
use Rattle.std.specs.List.{filter}
use Rattle.mj_transcript.specs.Lines.{is_message}
use Rattle.mj_audit.proofs.hearing.count_messages.Given as goal

abbrev pub invariant-loop-item : goal.invariant-loop-item
invariant-loop-item l = record {
  exact : l.count ≡ length (filter is_message (take l.item-index l.items));
  few : l.count ≤ l.item-index;
}
