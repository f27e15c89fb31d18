use Rattle.std.proofs.Common.{ap, ◌∙◌}
use Rattle.mj_keeper.specs.Standing.{told_on}
use Rattle.mj_routing.specs.Returning.{coming_back}
use Rattle.mj_routing.proofs.HoldingLemmas.{got, taken-out}
use Rattle.mj_routing.proofs.held.release.Goals as goal

pub returns-clause-back : goal.returns-clause-back
returns-clause-back c = c.coming_back.ensures ∙ ap (coming_back (told_on c.args.tickets.now.shelf)) (c.in_ok-request.ensures.value ∙ got c.args.held.now c.args.worker)

pub returns-clause-held : goal.returns-clause-held
returns-clause-held c = taken-out c.args.held.now c.shift_remove.new.self c.args.worker c.shift_remove.ensures.entries c.shift_remove.ensures.updates.1

pub returns-in_err-request-clause-back : goal.returns-in_err-request-clause-back
returns-in_err-request-clause-back c = c.from_residual.ensures ∙ ap (coming_back (told_on c.args.tickets.now.shelf)) (c.in_err-request.ensures.value ∙ got c.args.held.now c.args.worker)

pub returns-in_err-request-clause-held : goal.returns-in_err-request-clause-held
returns-in_err-request-clause-held c = taken-out c.args.held.now c.shift_remove.new.self c.args.worker c.shift_remove.ensures.entries c.shift_remove.ensures.updates.1
