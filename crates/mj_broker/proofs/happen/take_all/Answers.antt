use Rattle.std.proofs.Common.{ap, sym, ◌∙◌, refl, List, subst, drop, ◌+◌}
use Rattle.std.proofs.Math.ListN.{drop_of_length-le}
use Rattle.mj_wire.specs.declared.item.WireItem.{WireItem}
use Rattle.mj_machine.specs.Acts.{each}
use Rattle.mj_machine.specs.EventStep.{item_step}
use Rattle.mj_keeper.specs.Standing.{told_on}
use Rattle.mj_keeper.specs.declared.keeper.Keeper.{Keeper}
use Rattle.mj_routing.proofs.PlainLemmas.{beside, beside-then, stays-same}
use Rattle.mj_titanic.specs.Acting.{Did, Stopped, seen}
use Rattle.mj_broker.specs.Acting.{stores_each}
use Rattle.mj_broker.proofs.BrokerLemmas.{absent-stored}
use Rattle.mj_broker.proofs.ItemLemmas.{item-did, item-first, item-stopped, items-none, next-item, short-at}
use Rattle.mj_broker.proofs.happen.take_all.Goals as goal

pub loop-item-init : goal.loop-item-init
loop-item-init g c = record {
  done = λ new after behind d. d;
  stopped = λ fault after s. s;
  sound = c.requires.sound;
  stays = beside c.args.parts.now.keeping.keeper.shelf c.args.parts.now.routing c.args.parts.now.routing (stays-same (told_on c.args.parts.now.keeping.keeper.shelf) c.args.parts.now.routing);
  queue = c.requires.queue;
  absent = λ absent. absent;
  keeper = refl;
}

pub take_item-requires-clause-short : goal.take_item-requires-clause-short
take_item-requires-clause-short g c = λ stored.
    short-at c.args.items.now c.loop-item.item-index c.item-item.result (drop (c.loop-item.item-index + 1) c.args.items.now)
    (c.requires.short (absent-stored c.args.parts.now.keeping.keeper.shelf c.loop-item.parts.keeping.keeper.shelf c.loop-item.invariant.absent stored))
    (next-item c.args.items.now c.loop-item.item-index c.item-item.result c.loop-item-test.true c.item-item.is)

pub loop-item-preserved : goal.loop-item-preserved
loop-item-preserved g c =
    let i = c.loop-item.invariant in
    let a = c.in-Ok.ensures.acted in
    let rest = drop (c.loop-item.item-index + 1) c.args.items.now in
    let front = next-item c.args.items.now c.loop-item.item-index c.item-item.result c.loop-item-test.true c.item-item.is in
    record {
      done = λ new after behind d. i.done new after behind
          (subst (λ (xs : List WireItem). Did g.D.Disk (seen c.loop-item.parts) c.loop-item.disk (seen new) after c.loop-item.outs.items behind (each (item_step c.args.number) xs) (stores_each c.args.number xs)) (sym front)
          (item-did g.D.Disk c.loop-item.parts c.loop-item.disk c.args.number c.item-item.result rest c.take_item.new.parts c.take_item.new.disk new after c.loop-item.outs.items c.take_item.new.outs.items behind a.did d));
      stopped = λ fault after s. i.stopped fault after
          (subst (λ (xs : List WireItem). Stopped g.D.Disk fault (seen c.loop-item.parts) c.loop-item.disk after (stores_each c.args.number xs)) (sym front)
          (item-stopped g.D.Disk c.loop-item.parts c.loop-item.disk c.args.number c.item-item.result rest c.take_item.new.parts c.take_item.new.disk c.loop-item.outs.items c.take_item.new.outs.items fault after a.did s));
      sound = a.sound;
      stays = beside-then c.args.parts.now.keeping.keeper.shelf c.loop-item.parts.keeping.keeper.shelf c.take_item.new.parts.keeping.keeper.shelf c.args.parts.now.routing c.loop-item.parts.routing c.take_item.new.parts.routing i.stays a.stays;
      queue = a.stays.queue i.queue;
      absent = λ absent. (a.did.plain (i.absent absent)).0;
      keeper = c.take_item.ensures.keeper ∙ ap (λ (k : Keeper). record k { shelf = c.take_item.new.parts.keeping.keeper.shelf }) i.keeper;
    }

pub returns-in-Err-clause-stopped : goal.returns-in-Err-clause-stopped
returns-in-Err-clause-stopped g c =
    let front = next-item c.args.items.now c.loop-item.item-index c.item-item.result c.loop-item-test.true c.item-item.is in
    c.loop-item.invariant.stopped c.in-Err.fault c.take_item.new.disk
    (subst (λ (xs : List WireItem). Stopped g.D.Disk c.in-Err.fault (seen c.loop-item.parts) c.loop-item.disk c.take_item.new.disk (stores_each c.args.number xs)) (sym front)
    (item-first g.D.Disk c.loop-item.parts c.loop-item.disk c.args.number c.item-item.result (drop (c.loop-item.item-index + 1) c.args.items.now) c.in-Err.fault c.take_item.new.disk c.in-Err.ensures.stopped))

pub returns-clause-acted : goal.returns-clause-acted
returns-clause-acted g c =
    let i = c.loop-item.invariant in
    record {
      did = i.done c.loop-item.parts c.loop-item.disk c.loop-item.outs.items
          (items-none g.D.Disk c.loop-item.parts c.loop-item.disk c.loop-item.outs.items c.args.number (drop c.loop-item.item-index c.args.items.now) (drop_of_length-le c.args.items.now c.loop-item-test.false));
      sound = i.sound;
      stays = i.stays;
    }
