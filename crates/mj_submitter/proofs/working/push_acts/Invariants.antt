use Rattle.std.proofs.Common.{◌≡◌, ◌++◌, take}
use Rattle.mj_submitter.specs.Courses.{act_effects}
use Rattle.mj_submitter.proofs.working.push_acts.Given as goal

abbrev pub invariant-loop-act : goal.invariant-loop-act
invariant-loop-act l = l.effects ≡ l.fn.effects ++ act_effects (take l.act-index l.list)
