use Rattle.std.proofs.Common.{◌≡◌, ℕ, List, length, IfOk, subst, rules}
use Rattle.mj_prog.specs.Script.{meaning_of}
use Rattle.mj_prog.specs.ReadSoFar.{MeansNext}
use Rattle.mj_prog.proofs.SoFar.{next-last, means-unread}
use Rattle.mj_prog.proofs.act.act_on_last.Goals as goal

pub returns-clause-stands : goal.returns-clause-stands
returns-clause-stands c =
    let progress = c.args.progress.now in
    let reads = subst (λ (xs : List ℕ). IfOk c.read_line-meaning.result (λ m. m ≡ meaning_of progress.lanes xs)) c.as_slice.ensures.value c.read_line-meaning.ensures.exact in
    let count : c.len-count.result ≡ length progress.pending.items = search rules in
    let means = subst (λ (n : ℕ). MeansNext progress c.follow.new.progress n c.read_line-meaning.result c.follow.result) count c.follow.ensures.means in
    λ from now taken so_far. next-last from now progress c.follow.new.progress c.read_line-meaning.result c.follow.result taken c.requires.0 c.requires.1 c.requires.2 reads means so_far

pub returns-clause-unread : goal.returns-clause-unread
returns-clause-unread c = λ before now. means-unread before now c.args.progress.now c.follow.new.progress c.len-count.result c.read_line-meaning.result c.follow.result c.follow.ensures.means
