use Rattle.std.proofs.Common.{◌≡◌, false, drop}
use Rattle.mj_peer.specs.ClientEndRules.{Client}
use Rattle.mj_submit.specs.SubmitRules.{sweep}
use Rattle.mj_submitter.specs.Courses.{IsClient, with_client}
use Rattle.mj_submitter.proofs.CourseLemmas.{SoFar}
use Rattle.mj_submitter.proofs.submitter.Submitter.sweep.Given as goal

abbrev pub invariant-loop-act : goal.invariant-loop-act
invariant-loop-act l =
    (l.self.client.spent ≡ false)
    × ((k : Client) → IsClient l.fn.self k → SoFar (sweep l.list (with_client l.fn.self k)) (drop l.act-index l.list) l.self l.fn.effects l.effects)
