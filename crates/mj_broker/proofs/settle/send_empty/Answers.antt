use Rattle.std.proofs.Common.{◌≡◌, ℕ, List, [], subst}
use Rattle.mj_base.specs.declared.event.Out.{Out}
use Rattle.mj_machine.specs.MachineState.{State}
use Rattle.mj_machine.specs.Pairing.{hands}
use Rattle.mj_machine.specs.StoreState.{Told}
use Rattle.mj_routing.specs.RoutingState.{Does, Gives}
use Rattle.mj_queue.specs.Settling.{Pair}
use Rattle.mj_keeper.specs.Standing.{told_on}
use Rattle.mj_broker.proofs.Lifting.{halted}
use Rattle.mj_broker.proofs.SettleLemmas.{empty-acted, fewer-given, offer-some}
use Rattle.mj_broker.proofs.settle.send_empty.Goals as goal

-- the empty body
given : (old new : State) (told : Told) (before outs : List Out) (body : List (List ℕ)) → body ≡ [] → Gives old (λ p. Does new before outs (hands body p told old)) → Gives old (λ p. Does new before outs (hands [] p told old))
given old new told before outs body none is = subst (λ (b : List (List ℕ)). Gives old (λ p. Does new before outs (hands b p told old))) none is

pub returns-in_default-clause-stopped : goal.returns-in_default-clause-stopped
returns-in_default-clause-stopped g c = halted g.D.Disk c.args.parts.now c.args.disk.now _

pub hand-requires : goal.hand-requires
hand-requires g c = offer-some c.args.parts.now.routing c.args.offer.now c.requires.offer

pub returns-in-Ok-clause-acted : goal.returns-in-Ok-clause-acted
returns-in-Ok-clause-acted g c =
    empty-acted g.D.Disk c.args.parts.now c.args.disk.now c.requires.sound c.hand.new.self c.args.outs.now.items c.hand.new.outs.items c.args.offer.now c.args.number c.in-Some.next (c.in-Some.ensures.1)
    c.requires.offer c.requires.ticket c.requires.queue c.requires.open (given c.args.parts.now.routing c.hand.new.self (told_on c.args.parts.now.keeping.keeper.shelf) c.args.outs.now.items c.hand.new.outs.items c.new.result c.new.ensures c.in-Ok.ensures)

pub returns-in-Ok-clause-fewer : goal.returns-in-Ok-clause-fewer
returns-in-Ok-clause-fewer g c =
    fewer-given (told_on c.args.parts.now.keeping.keeper.shelf) c.args.parts.now.routing c.hand.new.self c.args.outs.now.items c.hand.new.outs.items (λ (p : Pair). c.new.result) c.in-Ok.ensures

pub returns-in-Err-clause-stopped : goal.returns-in-Err-clause-stopped
returns-in-Err-clause-stopped g c = halted g.D.Disk c.args.parts.now c.args.disk.now _
