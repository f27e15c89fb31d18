use Rattle.std.proofs.Common.{◌<◌, ◌^◌, inl, inr, arith}
use Rattle.mj_journal.proofs.Headers.{no_format_2}
use Rattle.mj_journal.proofs.header.read_format_2.Goals as goal

pub returns-then-base-lt-MIN_BASE-clause-refused : goal.returns-then-base-lt-MIN_BASE-clause-refused
returns-then-base-lt-MIN_BASE-clause-refused c =
    let below : c.base_of-base.result < 1 = omega arith in
    no_format_2 c.args.tail.now c.base_of-base.result c.base_of-base.ensures (omega arith) (inl below)

pub returns-then-base-gt-MAX_BASE-clause-refused : goal.returns-then-base-gt-MAX_BASE-clause-refused
returns-then-base-gt-MAX_BASE-clause-refused c =
    let above : 2 ^ 61 < c.base_of-base.result = omega arith in
    no_format_2 c.args.tail.now c.base_of-base.result c.base_of-base.ensures (omega arith) (inr above)
