use Rattle.std.proofs.Common.{sym, ◌∙◌}
use Rattle.mj_machine.specs.TickStep.{is_unspoken}
use Rattle.mj_keeper.specs.Standing.{told_on}
use Rattle.mj_routing.proofs.DueLemmas.{nobody-beats, silent-somebody}
use Rattle.mj_routing.proofs.routing.Routing.beat_all.Goals as goal

pub returns-then-not-has_silent-clause-done : goal.returns-then-not-has_silent-clause-done
returns-then-not-has_silent-clause-done c = nobody-beats (told_on c.args.tickets.now.shelf) c.args.self.now c.args.outs.now.items (sym c.has_silent.ensures ∙ c.if-not-has_silent.true)

pub returns-in_err-silent-clause-idle : goal.returns-in_err-silent-clause-idle
returns-in_err-silent-clause-idle c = λ none.
    let nobody = silent-somebody (λ d. is_unspoken c.args.self.now.limits c.args.self.now.now d.role) c.args.self.now.connections none in
    cc (sym c.has_silent.ensures ∙ c.if-not-has_silent.false, nobody)
