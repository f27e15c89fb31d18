use Rattle.std.proofs.Common.{ap, sym, ◌∙◌, refl}
use Rattle.mj_keeper.specs.Standing.{told_on}
use Rattle.mj_keeper.specs.declared.keeper.Keeper.{Keeper}
use Rattle.mj_routing.proofs.PlainLemmas.{beside, beside-then, stays-same}
use Rattle.mj_broker.proofs.SettleLemmas.{next-did, next-stopped, no-offer, none-did, pair-stopped, was-none}
use Rattle.mj_broker.proofs.settle.settle.Goals as goal

pub loop-offer-init : goal.loop-offer-init
loop-offer-init g c = record {
  done = λ new after behind d. d;
  stopped = λ fault after s. s;
  sound = c.requires.sound;
  stays = beside c.args.parts.now.keeping.keeper.shelf c.args.parts.now.routing c.args.parts.now.routing (stays-same (told_on c.args.parts.now.keeping.keeper.shelf) c.args.parts.now.routing);
  queue = c.requires.queue;
  idle = λ none. none;
  keeper = refl;
}

pub loop-offer-smaller : goal.loop-offer-smaller
loop-offer-smaller g c = c.in-Ok.ensures.fewer

pub loop-offer-preserved : goal.loop-offer-preserved
loop-offer-preserved g c =
    let i = c.loop-offer.invariant in
    let a = c.in-Ok.ensures.acted in
    record {
      done = λ new after behind d. i.done new after behind (next-did g.D.Disk c.loop-offer.parts c.loop-offer.disk c.send_next.new.parts c.send_next.new.disk new after c.loop-offer.outs.items c.send_next.new.outs.items behind a.did d);
      stopped = λ fault after s. i.stopped fault after (next-stopped g.D.Disk c.loop-offer.parts c.loop-offer.disk c.send_next.new.parts c.send_next.new.disk c.loop-offer.outs.items c.send_next.new.outs.items fault after a.did s);
      sound = a.sound;
      stays = beside-then c.args.parts.now.keeping.keeper.shelf c.loop-offer.parts.keeping.keeper.shelf c.send_next.new.parts.keeping.keeper.shelf c.args.parts.now.routing c.loop-offer.parts.routing c.send_next.new.parts.routing i.stays a.stays;
      queue = a.stays.queue i.queue;
      idle = λ none. was-none c.loop-offer.parts.routing c.in-Some.offer (i.idle none) (sym c.offer.ensures ∙ c.in-Some.is);
      keeper = c.send_next.ensures.keeper ∙ ap (λ (k : Keeper). record k { shelf = c.send_next.new.parts.keeping.keeper.shelf }) i.keeper;
    }

pub returns-in-Err-clause-stopped : goal.returns-in-Err-clause-stopped
returns-in-Err-clause-stopped g c =
    c.loop-offer.invariant.stopped c.in-Err.fault c.send_next.new.disk (pair-stopped g.D.Disk c.loop-offer.parts c.loop-offer.disk c.in-Err.fault c.send_next.new.disk c.in-Err.ensures.stopped)

pub returns-clause-acted : goal.returns-clause-acted
returns-clause-acted g c =
    let i = c.loop-offer.invariant in
    let none = no-offer c.loop-offer.parts.routing (sym c.offer.ensures ∙ c.in_default.is) in
    record {
      did = i.done c.loop-offer.parts c.loop-offer.disk c.loop-offer.outs.items (none-did g.D.Disk c.loop-offer.parts c.loop-offer.disk c.loop-offer.outs.items none);
      sound = i.sound;
      stays = i.stays;
    }

pub returns-clause-settled : goal.returns-clause-settled
returns-clause-settled g c = no-offer c.loop-offer.parts.routing (sym c.offer.ensures ∙ c.in_default.is)
