use Rattle.std.proofs.Common.{◌≡◌, ℕ, List, take, IfOk, subst, ◌+◌}
use Rattle.mj_prog.specs.Script.{meaning_of}
use Rattle.mj_prog.proofs.SoFar.{next-line, means-unread}
use Rattle.mj_prog.proofs.act.act_on_line.Goals as goal

pub returns-clause-stands : goal.returns-clause-stands
returns-clause-stands c =
    let progress = c.args.progress.now in
    let reads = subst (λ (xs : List ℕ). IfOk c.read_line-meaning.result (λ m. m ≡ meaning_of progress.lanes (take c.args.end xs))) c.as_slice.ensures.value c.read_line-meaning.ensures.exact in
    λ from now taken so_far. next-line from now progress c.follow.new.progress c.args.end c.read_line-meaning.result c.follow.result taken c.requires reads c.follow.ensures.means so_far

pub returns-clause-unread : goal.returns-clause-unread
returns-clause-unread c = λ before now. means-unread before now c.args.progress.now c.follow.new.progress (c.args.end + 1) c.read_line-meaning.result c.follow.result c.follow.ensures.means
