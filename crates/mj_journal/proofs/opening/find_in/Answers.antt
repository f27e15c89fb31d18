use Rattle.std.proofs.Common.{ℕ, ◌≤◌, List, length, subst, ◌∙◌, arith}
use Rattle.std.proofs.lemmas.List.{take_all}
use Rattle.mj_journal.specs.Opening.{IsEmptyWith}
use Rattle.mj_journal.proofs.opening.find_in.Goals as goal

pub returns-clause-found : goal.returns-clause-found
returns-clause-found g c history is =
    let sized = c.requires history is in
    let all : length history.now.octets ≤ length c.args.front.now = omega (arith, sized) in
    subst (λ (l : List ℕ). IsEmptyWith c.read_empty.result l) (c.in_ok-read.ensures.octets history is ∙ take_all _ history.now.octets all) c.read_empty.ensures.found
