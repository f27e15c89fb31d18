use Rattle.std.proofs.Common.{arith, sym, ◌∙◌, subst, List}
use Rattle.std.proofs.lemmas.Result.{IfErr-weaker, on_ok_weaker}
use Rattle.mj_base.specs.declared.event.Event.TheVariants as events
use Rattle.mj_wire.specs.declared.item.WireItem.{WireItem}
use Rattle.mj_titanic.specs.declared.fault.ActFault.TheVariants.{NoMemory}
use Rattle.mj_broker.specs.Acting.{as_it_is}
use Rattle.mj_broker.specs.Bodies.{AreShort}
use Rattle.mj_broker.proofs.BodyLemmas.{items-short}
use Rattle.mj_broker.proofs.BrokerLemmas.{early-halted, fed-halted, fed-happened, nobody-happened, ready-fed, ready-stays, wire-there}
use Rattle.mj_broker.proofs.Lifting.{halted}
use Rattle.mj_broker.proofs.broker.take_piece.Goals as goal

pub returns-in_default-clause-happened : goal.returns-in_default-clause-happened
returns-in_default-clause-happened g c =
    on_ok_weaker c.settle.result
    (λ a. nobody-happened g.D.Disk c.args.parts.now c.args.disk.now c.args.lane c.args.piece.now c.args.wires.now.items (sym c.number_on.ensures.number ∙ c.in_default.is) c.settle.new.parts c.settle.new.disk c.args.outs.now.items c.settle.new.outs.items a.did)
    c.settle.ensures.acted

pub returns-in_default-clause-halted : goal.returns-in_default-clause-halted
returns-in_default-clause-halted g c =
    IfErr-weaker c.settle.result _ _
    (λ fault s. early-halted g.D.Disk (events.Bytes c.args.lane c.args.piece.now) c.args.parts.now c.args.disk.now fault c.settle.new.disk c.args.wires.now.items s)
    c.settle.ensures.stopped

pub returns-in_default-clause-sound : goal.returns-in_default-clause-sound
returns-in_default-clause-sound g c = on_ok_weaker c.settle.result (λ a. a.sound) c.settle.ensures.acted

pub returns-in_default-clause-queue : goal.returns-in_default-clause-queue
returns-in_default-clause-queue g c = on_ok_weaker c.settle.result (λ a. a.stays.queue c.requires.queue) c.settle.ensures.acted

pub returns-in_default-clause-ready : goal.returns-in_default-clause-ready
returns-in_default-clause-ready g c =
    on_ok_weaker c.settle.result
    (λ a. ready-stays c.args.parts.now.keeping.keeper.shelf c.settle.new.parts.keeping.keeper.shelf c.args.parts.now.routing c.settle.new.parts.routing c.args.wires.now.items a.stays c.requires.ready)
    c.settle.ensures.acted

pub returns-in_default-clause-next : goal.returns-in_default-clause-next
returns-in_default-clause-next g c = on_ok_weaker c.settle.result (λ a. let is = a.stays.next in omega (arith, is)) c.settle.ensures.acted

pub feed-requires-clause-there : goal.feed-requires-clause-there
feed-requires-clause-there g c =
    wire-there c.args.lane c.in-Some.number c.args.parts.now.routing.connections c.args.wires.now.items c.requires.ready (sym c.number_on.ensures.number ∙ c.in-Some.is)

pub feed-requires-clause-fresh : goal.feed-requires-clause-fresh
feed-requires-clause-fresh g c = c.requires.ready.fresh

pub gain-requires-clause-short : goal.gain-requires-clause-short
gain-requires-clause-short g c = λ stored.
    subst (λ (xs : List WireItem). AreShort xs) (sym c.as_slice-in-Ok.ensures.value)
    (items-short c.args.parts.now.keeping.keeper.limits (c.requires.lawful stored) c.in-Ok.items.items (c.in-Ok.ensures.small c.args.parts.now.keeping.keeper.limits c.requires.limited))

pub returns-in-Ok-clause-happened : goal.returns-in-Ok-clause-happened
returns-in-Ok-clause-happened g c =
    on_ok_weaker c.gain.result
    (λ a. fed-happened g.D.Disk c.args.parts.now c.args.disk.now c.args.lane c.in-Some.number c.args.piece.now c.as_slice-in-Ok.result.now c.args.wires.now.items (sym c.number_on.ensures.number ∙ c.in-Some.is)
    (λ limits streams stands. c.as_slice-in-Ok.ensures.value ∙ rw c.as_slice.ensures at (c.in-Ok.ensures.items limits streams stands))
    c.gain.new.parts c.gain.new.disk c.feed.new.links.items c.args.outs.now.items c.gain.new.outs.items (λ limits streams stands. rw c.as_slice.ensures at (c.in-Ok.ensures.stand limits streams stands)) a.did)
    c.gain.ensures.acted

pub returns-in-Ok-clause-halted : goal.returns-in-Ok-clause-halted
returns-in-Ok-clause-halted g c =
    IfErr-weaker c.gain.result _ _
    (λ fault s. fed-halted g.D.Disk c.args.parts.now c.args.disk.now c.args.lane c.in-Some.number c.args.piece.now c.as_slice-in-Ok.result.now c.args.wires.now.items (sym c.number_on.ensures.number ∙ c.in-Some.is)
    (λ limits streams stands. c.as_slice-in-Ok.ensures.value ∙ rw c.as_slice.ensures at (c.in-Ok.ensures.items limits streams stands)) fault c.gain.new.disk s)
    c.gain.ensures.stopped

pub returns-in-Ok-clause-sound : goal.returns-in-Ok-clause-sound
returns-in-Ok-clause-sound g c = on_ok_weaker c.gain.result (λ a. a.sound) c.gain.ensures.acted

pub returns-in-Ok-clause-queue : goal.returns-in-Ok-clause-queue
returns-in-Ok-clause-queue g c = on_ok_weaker c.gain.result (λ a. a.stays.queue c.requires.queue) c.gain.ensures.acted

pub returns-in-Ok-clause-ready : goal.returns-in-Ok-clause-ready
returns-in-Ok-clause-ready g c =
    on_ok_weaker c.gain.result
    (λ a. ready-stays c.args.parts.now.keeping.keeper.shelf c.gain.new.parts.keeping.keeper.shelf c.args.parts.now.routing c.gain.new.parts.routing c.feed.new.links.items a.stays
    (ready-fed c.args.parts.now.routing.connections c.args.wires.now.items c.feed.new.links.items c.requires.ready c.in-Ok.ensures.numbers c.in-Ok.ensures.fresh))
    c.gain.ensures.acted

pub returns-in-Ok-clause-limited : goal.returns-in-Ok-clause-limited
returns-in-Ok-clause-limited g c = on_ok_weaker c.gain.result (λ a. c.in-Ok.ensures.limits c.args.parts.now.keeping.keeper.limits c.requires.limited) c.gain.ensures.acted

pub returns-in-Ok-clause-next : goal.returns-in-Ok-clause-next
returns-in-Ok-clause-next g c = on_ok_weaker c.gain.result (λ a. let is = a.stays.next in omega (arith, is)) c.gain.ensures.acted

pub returns-in-Err-clause-halted : goal.returns-in-Err-clause-halted
returns-in-Err-clause-halted g c =
    early-halted g.D.Disk (events.Bytes c.args.lane c.args.piece.now) c.args.parts.now c.args.disk.now NoMemory c.args.disk.now c.args.wires.now.items (halted g.D.Disk c.args.parts.now c.args.disk.now as_it_is)
