use Rattle.std.proofs.Common.{sym, ◌∙◌}
use Rattle.mj_greeting.proofs.TableLemmas.{found_first, none_fine, fine_none}
use Rattle.mj_greeting.proofs.greeting.greeting_fault.Goals as goal

pub returns-clause-found : goal.returns-clause-found
returns-clause-found c = found_first c.args.front.now c.first_fault.result c.first_fault.ensures

pub returns-clause-none : goal.returns-clause-none
returns-clause-none c =
    (λ e. none_fine c.args.front.now (sym c.first_fault.ensures ∙ e), λ fine. c.first_fault.ensures ∙ fine_none c.args.front.now fine)
