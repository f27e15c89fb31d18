use Rattle.std.proofs.Common.{◌≡◌, ◌++◌, drop}
use Rattle.std.specs.Prelude.{string_bytes}
use Rattle.mj_words.specs.Lines.{frames_text}
use Rattle.mj_words.proofs.lines.body_line.Given as goal

abbrev pub invariant-loop-i : goal.invariant-loop-i
invariant-loop-i l = string_bytes l.line ++ frames_text (drop l.i l.body) ≡ l.word ++ frames_text l.body
