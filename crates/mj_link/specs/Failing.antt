-- Which answers of a link are failures.
use Rattle.std.specs.Prelude.{Bool, true, false}
use Rattle.mj_base.specs.declared.link.LinkAnswer.{LinkAnswer}
use Rattle.mj_base.specs.declared.link.LinkAnswer.TheVariants as reads
use Rattle.mj_base.specs.declared.link.LinkWrite.{LinkWrite}
use Rattle.mj_base.specs.declared.link.LinkWrite.TheVariants as writes

abbrev pub is_failed_read : LinkAnswer → Bool
is_failed_read (reads.Got n) = false
is_failed_read reads.Idle = false
is_failed_read reads.End = false
is_failed_read reads.NoMemory = false
is_failed_read reads.Failed = true

abbrev pub is_failed_write : LinkWrite → Bool
is_failed_write writes.Done = false
is_failed_write writes.NoMemory = false
is_failed_write writes.Failed = true
