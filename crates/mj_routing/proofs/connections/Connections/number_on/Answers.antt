use Rattle.std.proofs.Common.{ap, ◌∙◌}
use Rattle.mj_machine.specs.Connections.{number_on}
use Rattle.mj_routing.proofs.LaneLemmas.{left-seen}
use Rattle.mj_routing.proofs.connections.Connections.number_on.Goals as goal

pub returns-clause-number : goal.returns-clause-number
returns-clause-number c = c.copied.ensures ∙ c.get.ensures.value ∙ c.self.invariant.table c.args.lane ∙ ap (number_on c.args.lane) c.self.view_is

pub returns-clause-alone : goal.returns-clause-alone
returns-clause-alone c =
    left-seen c.self.inside.list.items c.args.self.now c.self.inside.lanes c.self.invariant c.self.view_is c.args.lane c.copied.result
    (c.copied.ensures ∙ c.get.ensures.value ∙ c.self.invariant.table c.args.lane ∙ ap (number_on c.args.lane) c.self.view_is)
