use Rattle.std.proofs.Common.{refl, sym, subst}
use Rattle.mj_keeper.specs.Standing.{told_on}
use Rattle.mj_greeting.specs.GreetingGrammar.{broker_greeting}
use Rattle.mj_machine.specs.MachineState.{State}
use Rattle.mj_machine.specs.EventStep.{opened, opens}
use Rattle.mj_routing.specs.Staying.{StaysBeside}
use Rattle.mj_routing.proofs.PlainLemmas.{beside, plain-sends}
use Rattle.mj_titanic.specs.Acting.{seen}
use Rattle.mj_titanic.proofs.Routed.{routed-did}
use Rattle.mj_broker.proofs.Lifting.{halted}
use Rattle.mj_broker.proofs.happen.greet.Goals as goal

pub returns-in-Ok-clause-did : goal.returns-in-Ok-clause-did
returns-in-Ok-clause-did g c =
    let plain = plain-sends (told_on c.args.parts.now.keeping.keeper.shelf) c.args.parts.now.routing.next broker_greeting (opened c.args.lane c.args.parts.now.routing) in
    routed-did g.D.Disk (seen c.args.parts.now) (seen (record { routing = c.route_greeting.new.routing; keeping = c.args.parts.now.keeping })) c.args.disk.now c.args.outs.now.items c.route_greeting.new.outs.items (opens c.args.lane)
    refl refl c.in-Ok.ensures (record { quiet = plain.notes; limits = plain.stays.limits })

pub returns-in-Ok-clause-stays : goal.returns-in-Ok-clause-stays
returns-in-Ok-clause-stays g c =
    let plain = plain-sends (told_on c.args.parts.now.keeping.keeper.shelf) c.args.parts.now.routing.next broker_greeting (opened c.args.lane c.args.parts.now.routing) in
    subst (λ (s : State). StaysBeside c.args.parts.now.keeping.keeper.shelf c.args.parts.now.keeping.keeper.shelf (opened c.args.lane c.args.parts.now.routing) s) (sym c.in-Ok.ensures.state)
    (beside c.args.parts.now.keeping.keeper.shelf (opened c.args.lane c.args.parts.now.routing) _ plain.stays)

pub returns-in-Err-clause-stopped : goal.returns-in-Err-clause-stopped
returns-in-Err-clause-stopped g c = halted g.D.Disk c.args.parts.now c.args.disk.now _
