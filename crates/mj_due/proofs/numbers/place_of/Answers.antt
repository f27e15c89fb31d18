use Rattle.std.proofs.Common.{◌∙◌, ap, unwrap_or, length}
use Rattle.mj_due.proofs.NumberLemmas.{first-place}
use Rattle.mj_due.proofs.numbers.place_of.Goals as goal

pub returns-clause-place : goal.returns-clause-place
returns-clause-place c = c.unwrap_or.ensures ∙ ap (λ o. unwrap_or o (length c.args.numbers.now)) c.first_not_below.ensures ∙ first-place c.args.number c.args.numbers.now
