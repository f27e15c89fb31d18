use Rattle.std.proofs.Common.{ℕ, Option, sym, ap, ◌∙◌}
use Rattle.mj_keeper.specs.Standing.{told_on}
use Rattle.mj_machine.specs.Connections.{number_on}
use Rattle.mj_machine.specs.EventStep.{reports}
use Rattle.mj_routing.proofs.PlainLemmas.{stays-reports}
use Rattle.mj_broker.proofs.Lifting.{lifted-still}
use Rattle.mj_broker.proofs.happen.report_on.Goals as goal

pub returns-in_default-clause-acted : goal.returns-in_default-clause-acted
returns-in_default-clause-acted g c = λ outs.
    lifted-still g.D.Disk c.args.parts.now c.args.disk.now c.requires.sound c.args.parts.now.routing outs (λ told s. reports (number_on c.args.lane s.connections) s)
    (stays-reports (told_on c.args.parts.now.keeping.keeper.shelf) (number_on c.args.lane c.args.parts.now.routing.connections) c.args.parts.now.routing)
    (sym (ap (λ (o : Option ℕ). reports o c.args.parts.now.routing) (sym c.number_on.ensures.number ∙ c.in_default.is)))

pub returns-clause-acted : goal.returns-clause-acted
returns-clause-acted g c = λ outs.
    lifted-still g.D.Disk c.args.parts.now c.args.disk.now c.requires.sound c.note_delivered.new.self outs (λ told s. reports (number_on c.args.lane s.connections) s)
    (stays-reports (told_on c.args.parts.now.keeping.keeper.shelf) (number_on c.args.lane c.args.parts.now.routing.connections) c.args.parts.now.routing)
    (c.note_delivered.ensures ∙ sym (ap (λ (o : Option ℕ). reports o c.args.parts.now.routing) (sym c.number_on.ensures.number ∙ c.in-Some.is)))
