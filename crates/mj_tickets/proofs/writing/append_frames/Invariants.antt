-- What is written and what is left to write are the frames.
use Rattle.std.proofs.Common.{◌≡◌, ◌++◌, drop}
use Rattle.std.specs.List.{AllByRecursion}
use Rattle.mj_tickets.specs.Payload.{IsShort, frames_text, Grows}
use Rattle.mj_tickets.proofs.writing.append_frames.Given as goal

abbrev pub invariant-loop-i : goal.invariant-loop-i
invariant-loop-i l = record {
  grown : Grows l.initial.out l.out;
  text : l.out ++ frames_text (drop l.i l.body) ≡ l.initial.out ++ frames_text l.body;
  short : AllByRecursion IsShort (drop l.i l.body);
}
