use Rattle.mj_prog.proofs.SoFar.{line-unlawful, first-long, over-end}
use Rattle.mj_prog.proofs.next.step.Goals as goal

pub returns-in-Line-clause-cause : goal.returns-in-Line-clause-cause
returns-in-Line-clause-cause g c = c.act_on_line.ensures.unread _ _

pub returns-in-Last-clause-cause : goal.returns-in-Last-clause-cause
returns-in-Last-clause-cause g c = c.act_on_last.ensures.unread _ _

pub returns-in-TooLong-clause-stands : goal.returns-in-TooLong-clause-stands
returns-in-TooLong-clause-stands g c =
    let progress = c.args.progress.now in
    λ from taken so_far. line-unlawful from _ progress.lanes progress.pending.items progress.room progress.lines taken so_far
    (first-long progress.lanes progress.room progress.pending.items c.in-TooLong.ensures.0 c.in-TooLong.ensures.1)

pub returns-in-Over-clause-stands : goal.returns-in-Over-clause-stands
returns-in-Over-clause-stands g c =
    let progress = c.args.progress.now in
    λ from taken so_far. over-end from _ progress.lanes progress.pending.items progress.room progress.lines taken so_far c.in-Over.ensures.0 c.in-Over.ensures.1
