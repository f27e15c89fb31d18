use Rattle.std.proofs.Common.{sym}
use Rattle.mj_transcript.specs.declared.line.Line.TheVariants.{Close}
use Rattle.mj_transcript.specs.Said.{said}
use Rattle.mj_audit.proofs.KindLemmas.{close-step, judged-by, keeps-owner}
use Rattle.mj_audit.proofs.steps.close.Goals as goal

pub returns : goal.returns
returns c = λ lines f.
    let kept = keeps-owner c.args.lanes.now.items c.args.tables.now lines f in
    judged-by c.judge.result _ c.take_out.new.lanes.items c.left.new.self lines (Close c.args.lane) c.judge.ensures
    (close-step c.args.lanes.now.items c.take_out.new.lanes.items c.args.tables.now c.settle-settled.new.tables c.left.new.self lines c.args.lane c.in-Some.connection c.as_slice.result.now c.settle-settled.result f c.requires c.in-Some.ensures.taken c.as_slice.ensures
    c.take_out.ensures.left c.take_out.ensures.others c.take_out.ensures.many (c.settle-settled.ensures.said (said lines) f.tables kept) (c.settle-settled.ensures.stands (said lines) f.tables kept) c.left.ensures.stands)
