use Rattle.std.proofs.Common.{◌≡◌, ◌++◌, false}
use Rattle.std.specs.Prelude.{replicate}
use Rattle.mj_base.specs.declared.version.Version.TheVariants.{Two}
use Rattle.mj_peer.specs.WorkerEndRules
use Rattle.mj_peer.proofs.post.Post.answer_each_part.Given as goal

abbrev pub invariant-loop-part : goal.invariant-loop-part
invariant-loop-part l = l.acts ≡ l.fn.acts ++ replicate l._part (WorkerEndRules.answer Two false l.address l.body)
