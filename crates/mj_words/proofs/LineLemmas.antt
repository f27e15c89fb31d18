-- A last line, written or not.
use Rattle.std.proofs.Common.{◌≤◌, ℕ, List, take, Option, inl, inr, arith}
use Rattle.std.specs.Io.KnownBytes.{Appends}
use Rattle.std.proofs.KnownBytes.{Appends-trans, Appends-kept}
use Rattle.mj_base.specs.Rising.{Rose}
use Rattle.mj_base.specs.Writing.{WriteAdds, WriteCause, WantCause}
use Rattle.mj_base.specs.declared.sink.WriteAnswer.{WriteAnswer}
use Rattle.mj_base.specs.declared.sink.WriteAnswer.TheVariants as writes
use Rattle.mj_words.specs.Lines.{AppendsLine}
use Rattle.mj_words.specs.SinkCounts.{SinkCounts, AreLater}

rose-from : (a b c : ℕ) → a ≤ b → Rose b c → Rose a c
rose-from a b c first rose = omega arith

pub line-behind : (old mid new : Option (List ℕ)) (before m n : SinkCounts) (bytes line : List ℕ) (answer : WriteAnswer) → AreLater before m
    → Appends old mid bytes → WriteAdds mid new answer line → WriteCause m.faults n.faults answer → WantCause m.wants n.wants answer → AppendsLine old new before n bytes line
line-behind old mid new before m n bytes line writes.Done first added adds cause want = inl (Appends-trans old mid new bytes line added adds)
line-behind old mid new before m n bytes line writes.NoMemory first added adds cause want =
    inr (inl (rose-from before.wants m.wants n.wants first.wants want, Appends-kept old mid new bytes added adds))
line-behind old mid new before m n bytes line writes.Failed first added adds cause want =
    inr (inr (rose-from before.faults m.faults n.faults first.faults cause, (adds.0, Appends-trans old mid new bytes (take adds.0 line) added adds.1)))
