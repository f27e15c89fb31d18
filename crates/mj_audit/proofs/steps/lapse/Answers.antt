use Rattle.std.proofs.Common.{sym, ◌∙◌, subst, ◌<◌, ℕ}
use Rattle.mj_transcript.specs.declared.line.Line.TheVariants.{Lapse}
use Rattle.mj_transcript.specs.Said.{said}
use Rattle.mj_audit.proofs.KindLemmas.{judged-by, keeps-owner, lapse-step, two-moves, within}
use Rattle.mj_audit.proofs.steps.lapse.Goals as goal

pub returns : goal.returns
returns c = λ lines f.
    let kept = keeps-owner c.args.lanes.now.items c.args.tables.now lines f in
    judged-by c.judge.result _ c.put.new.lanes.items c.lapsed.new.self lines (Lapse c.args.lane) c.judge.ensures
    (lapse-step c.args.lanes.now.items c.put.new.lanes.items c.args.tables.now c.settle-settled.new.tables c.lapsed.new.self lines c.args.lane c.in-Some.connection c.as_slice.result.now c.settle-settled.result f c.requires c.in-Some.ensures.taken c.as_slice.ensures
    (c.put.ensures.here (within c.args.lane c.take_out.new.lanes.items c.requires (c.take_out.ensures.many ∙ f.many))) (two-moves c.args.lane c.args.lanes.now.items c.take_out.new.lanes.items c.put.new.lanes.items c.take_out.ensures.others c.put.ensures.others) (c.put.ensures.many ∙ c.take_out.ensures.many)
    (c.settle-settled.ensures.said (said lines) f.tables kept) (c.settle-settled.ensures.stands (said lines) f.tables kept) c.lapsed.ensures.stands)
