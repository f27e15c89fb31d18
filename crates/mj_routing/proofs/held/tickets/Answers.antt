use Rattle.std.proofs.Common.{List, nat_eq, ◌||◌, sym, ap, ◌∙◌}
use Rattle.std.specs.HashSet.{contains}
use Rattle.mj_queue.specs.declared.request.Request.{Request}
use Rattle.mj_routing.proofs.HoldingLemmas.{asked, asks, or-false}
use Rattle.mj_routing.proofs.held.tickets.Goals as goal

pub returns : goal.returns
returns c = λ number.
    sym (or-false (contains nat_eq c.loop-request.tickets number))
    ∙ ap (λ (rest : List Request). contains nat_eq c.loop-request.tickets number || asks number rest) (sym c.in-None.ensures.steps.0)
    ∙ c.loop-request.invariant number ∙ asked c.args.held.now number
