use Rattle.std.proofs.Common.{ℕ, Option, sym, ap, ◌∙◌}
use Rattle.mj_keeper.specs.Standing.{told_on}
use Rattle.mj_machine.specs.Connections.{number_on}
use Rattle.mj_machine.specs.EventStep.{closes}
use Rattle.mj_routing.proofs.PlainLemmas.{stays-closes}
use Rattle.mj_broker.proofs.Lifting.{halted, lifted-still}
use Rattle.mj_broker.proofs.happen.close_on.Goals as goal

pub returns-in_default-clause-acted : goal.returns-in_default-clause-acted
returns-in_default-clause-acted g c = λ outs.
    lifted-still g.D.Disk c.args.parts.now c.args.disk.now c.requires.sound c.args.parts.now.routing outs (λ told s. closes (number_on c.args.lane s.connections) told s)
    (stays-closes (told_on c.args.parts.now.keeping.keeper.shelf) (number_on c.args.lane c.args.parts.now.routing.connections) c.args.parts.now.routing)
    (sym (ap (λ (o : Option ℕ). closes o (told_on c.args.parts.now.keeping.keeper.shelf) c.args.parts.now.routing) (sym c.number_on.ensures.number ∙ c.in_default.is)))

pub returns-in-Ok-clause-acted : goal.returns-in-Ok-clause-acted
returns-in-Ok-clause-acted g c = λ outs.
    lifted-still g.D.Disk c.args.parts.now c.args.disk.now c.requires.sound c.remove.new.self outs (λ told s. closes (number_on c.args.lane s.connections) told s)
    (stays-closes (told_on c.args.parts.now.keeping.keeper.shelf) (number_on c.args.lane c.args.parts.now.routing.connections) c.args.parts.now.routing)
    (c.in-Ok.ensures.state ∙ sym (ap (λ (o : Option ℕ). closes o (told_on c.args.parts.now.keeping.keeper.shelf) c.args.parts.now.routing) (sym c.number_on.ensures.number ∙ c.in-Some.is)))

pub returns-in-Err-clause-stopped : goal.returns-in-Err-clause-stopped
returns-in-Err-clause-stopped g c = halted g.D.Disk c.args.parts.now c.args.disk.now _
