use Rattle.std.proofs.Common.{List, ℕ, subst}
use Rattle.mj_prog.specs.ReadSoFar.{IsNewlineAt}
use Rattle.mj_prog.proofs.ScriptLines.{first-newline_of}
use Rattle.mj_prog.proofs.front.find_front.Goals as goal

pub returns-in-Some : goal.returns-in-Some
returns-in-Some c =
    subst (λ (xs : List ℕ). IsNewlineAt xs c.in-Some.end) c.as_slice-pending.ensures.value
    (first-newline_of _ _ c.in-Some.ensures)

pub front_without_newline-requires : goal.front_without_newline-requires
front_without_newline-requires c = first-newline_of _ _ c.in-None.ensures
