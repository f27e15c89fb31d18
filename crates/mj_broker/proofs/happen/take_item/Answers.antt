use Rattle.std.proofs.Common.{sym, refl, subst}
use Rattle.std.proofs.lemmas.Result.{IfErr-weaker, on_ok_weaker}
use Rattle.mj_machine.specs.Acts.{quiet}
use Rattle.mj_wire.specs.declared.item.WireItem.{WireItem}
use Rattle.mj_machine.specs.EventStep.{item_step}
use Rattle.mj_titanic.specs.Acting.{Stopped, seen}
use Rattle.mj_broker.specs.Acting.{Acted, around_item}
use Rattle.mj_broker.proofs.Lifting.{acted-nothing}
use Rattle.mj_broker.proofs.happen.take_item.Goals as goal

pub returns-in-Accepted-clause-acted : goal.returns-in-Accepted-clause-acted
returns-in-Accepted-clause-acted g c =
    on_ok_weaker c.send_ready.result
    (λ a. subst (λ (i : WireItem). Acted g.D.Disk c.args.parts.now c.args.disk.now c.send_ready.new.parts c.args.disk.now c.args.outs.now.items c.send_ready.new.outs.items (item_step c.args.number i) (around_item c.args.number i)) (sym c.in-Accepted.is) a)
    c.send_ready.ensures.acted

pub returns-in-Accepted-clause-stopped : goal.returns-in-Accepted-clause-stopped
returns-in-Accepted-clause-stopped g c =
    IfErr-weaker c.send_ready.result _ _ (λ fault s. subst (λ (i : WireItem). Stopped g.D.Disk fault (seen c.args.parts.now) c.args.disk.now c.args.disk.now (around_item c.args.number i)) (sym c.in-Accepted.is) s) c.send_ready.ensures.stopped

pub returns-in-Message-clause-acted : goal.returns-in-Message-clause-acted
returns-in-Message-clause-acted g c =
    on_ok_weaker c.take_message.result
    (λ a. subst (λ (i : WireItem). Acted g.D.Disk c.args.parts.now c.args.disk.now c.take_message.new.parts c.take_message.new.disk c.args.outs.now.items c.take_message.new.outs.items (item_step c.args.number i) (around_item c.args.number i)) (sym c.in-Message.is) a)
    c.take_message.ensures.acted

pub returns-in-Message-clause-stopped : goal.returns-in-Message-clause-stopped
returns-in-Message-clause-stopped g c =
    IfErr-weaker c.take_message.result _ _ (λ fault s. subst (λ (i : WireItem). Stopped g.D.Disk fault (seen c.args.parts.now) c.args.disk.now c.take_message.new.disk (around_item c.args.number i)) (sym c.in-Message.is) s) c.take_message.ensures.stopped

pub returns-in-Ended-clause-acted : goal.returns-in-Ended-clause-acted
returns-in-Ended-clause-acted g c =
    on_ok_weaker c.end_at.result
    (λ a. subst (λ (i : WireItem). Acted g.D.Disk c.args.parts.now c.args.disk.now c.end_at.new.parts c.args.disk.now c.args.outs.now.items c.end_at.new.outs.items (item_step c.args.number i) (around_item c.args.number i)) (sym c.in-Ended.is) a)
    c.end_at.ensures.acted

pub returns-in-Ended-clause-stopped : goal.returns-in-Ended-clause-stopped
returns-in-Ended-clause-stopped g c =
    IfErr-weaker c.end_at.result _ _ (λ fault s. subst (λ (i : WireItem). Stopped g.D.Disk fault (seen c.args.parts.now) c.args.disk.now c.args.disk.now (around_item c.args.number i)) (sym c.in-Ended.is) s) c.end_at.ensures.stopped

pub returns-in-Ready-clause-acted : goal.returns-in-Ready-clause-acted
returns-in-Ready-clause-acted g c =
    subst (λ (i : WireItem). Acted g.D.Disk c.args.parts.now c.args.disk.now c.args.parts.now c.args.disk.now c.args.outs.now.items c.args.outs.now.items (item_step c.args.number i) (around_item c.args.number i)) (sym c.in-Ready.is)
    (acted-nothing g.D.Disk c.args.parts.now c.args.disk.now c.requires.sound c.args.outs.now.items quiet (λ w at. refl))
