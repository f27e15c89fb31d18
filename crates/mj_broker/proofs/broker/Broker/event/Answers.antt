use Rattle.std.proofs.Common.{◌≡◌, List, true, false, ap, sym, subst}
use Rattle.mj_base.specs.LawfulLimits.{are_lawful}
use Rattle.mj_keeper.specs.declared.keeper.Keeper.{Keeper}
use Rattle.mj_titanic.specs.Acting.{IsRefused}
use Rattle.mj_broker.specs.Handling.{Broke, BrokerValue, Handled}
use Rattle.mj_broker.specs.Wires.{AreLimited}
use Rattle.mj_broker.specs.declared.fault.EventFault.TheVariants as faults
use Rattle.mj_broker.specs.declared.wires.Link.{Link}
use Rattle.mj_broker.proofs.BrokerLemmas.{absent-stored, broken, broken-still, handled, settled-kept, value}
use Rattle.mj_broker.proofs.WireLemmas.{limits-kept}
use Rattle.mj_broker.proofs.broker.Broker.event.Goals as goal

pub returns-then-self-clause-broke : goal.returns-then-self-clause-broke
returns-then-self-clause-broke g c =
    subst (λ (b : BrokerValue). Broke g.D.Disk faults.Spent b c.args.disk.now c.args.disk.now c.args.event) c.self.view_is
    (broken-still g.D.Disk c.args.event c.self.inside.parts c.args.disk.now c.self.inside.wires.items c.self.inside.spent faults.Spent (λ refusing. absurd refusing))

pub returns-in-Err-NoMemory-clause-broke : goal.returns-in-Err-NoMemory-clause-broke
returns-in-Err-NoMemory-clause-broke g c =
    subst (λ (b : BrokerValue). Broke g.D.Disk faults.NoMemory b c.args.disk.now c.handle.new.disk c.args.event) c.self.view_is
    (broken g.D.Disk c.args.event c.self.inside.parts c.args.disk.now c.self.inside.wires.items c.self.inside.spent _ faults.NoMemory c.handle.new.disk (λ refusing. absurd refusing) c.in-Err-NoMemory.ensures.halted)

pub returns-in-Err-Refused-clause-broke : goal.returns-in-Err-Refused-clause-broke
returns-in-Err-Refused-clause-broke g c =
    subst (λ (b : BrokerValue). Broke g.D.Disk (faults.Refused c.in-Err-Refused.fault) b c.args.disk.now c.handle.new.disk c.args.event) c.self.view_is
    (broken g.D.Disk c.args.event c.self.inside.parts c.args.disk.now c.self.inside.wires.items c.self.inside.spent _ (faults.Refused c.in-Err-Refused.fault) c.handle.new.disk (λ refusing. subst IsRefused (sym c.in-Err-Refused.field-0-is) tt) c.in-Err-Refused.ensures.halted)

pub invariant_of-self-2 : goal.invariant_of-self-2
invariant_of-self-2 g c = λ fresh.
    let was = c.self.invariant c.if-self.false in
    record {
      settled = settled-kept c.handle.new.parts.routing c.handle.new.wires.items c.drop_ended.new.links.items c.drop_ended.ensures c.in-Ok.ensures.ready c.in-Ok.ensures.settled;
      queue = c.in-Ok.ensures.queue;
      lawful = λ stored. subst (λ (k : Keeper). are_lawful k.limits ≡ true) (sym c.handle.ensures.keeper)
          (was.lawful (absent-stored c.self.inside.parts.keeping.keeper.shelf c.handle.new.parts.keeping.keeper.shelf (λ absent. (c.in-Ok.ensures.happened.did.plain absent).0) stored));
      limited = subst (λ (ls : List Link). AreLimited c.handle.new.parts.keeping.keeper.limits ls) (sym c.drop_ended.ensures)
          (limits-kept c.handle.new.parts.routing.connections c.handle.new.wires.items c.handle.new.parts.keeping.keeper.limits
          (subst (λ (k : Keeper). AreLimited k.limits c.handle.new.wires.items) (sym c.handle.ensures.keeper) c.in-Ok.ensures.limited));
    }

pub returns-clause-handled : goal.returns-clause-handled
returns-clause-handled g c =
    subst (λ (b : BrokerValue). Handled g.D.Disk b c.args.disk.now (value c.handle.new.parts c.drop_ended.new.links.items false) c.handle.new.disk c.args.event c.args.outs.now.items c.handle.new.outs.items) c.self.view_is
    (handled g.D.Disk c.args.event c.self.inside.parts c.args.disk.now c.self.inside.wires.items c.self.inside.spent c.handle.new.parts c.handle.new.disk c.handle.new.wires.items c.drop_ended.new.links.items false
    c.args.outs.now.items c.handle.new.outs.items c.drop_ended.ensures (ap (λ (k : Keeper). k.limits) c.handle.ensures.keeper) c.in-Ok.ensures.happened)

pub returns-clause-settled : goal.returns-clause-settled
returns-clause-settled g c =
    settled-kept c.handle.new.parts.routing c.handle.new.wires.items c.drop_ended.new.links.items c.drop_ended.ensures c.in-Ok.ensures.ready c.in-Ok.ensures.settled
