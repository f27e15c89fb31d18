use Rattle.std.proofs.Common.{ℕ, Option, sym, ◌∙◌, subst}
use Rattle.std.proofs.lemmas.Result.{IfErr-weaker, on_ok_weaker}
use Rattle.mj_machine.specs.EventStep.{gains}
use Rattle.mj_titanic.specs.Acting.{Stopped, seen}
use Rattle.mj_broker.specs.Acting.{Acted, stores_around}
use Rattle.mj_broker.proofs.Lifting.{acted-quiet}
use Rattle.mj_broker.proofs.happen.take_items.Goals as goal

pub returns-in-None-clause-acted : goal.returns-in-None-clause-acted
returns-in-None-clause-acted g c =
    subst (λ (o : Option ℕ). Acted g.D.Disk c.args.parts.now c.args.disk.now c.args.parts.now c.args.disk.now c.args.outs.now.items c.args.outs.now.items (gains o c.args.items.now) (stores_around o c.args.items.now)) (sym (sym c.number_on.ensures.number ∙ c.in-None.is))
    (acted-quiet g.D.Disk c.args.parts.now c.args.disk.now c.args.outs.now.items c.requires.sound)

pub returns-in-Some-clause-acted : goal.returns-in-Some-clause-acted
returns-in-Some-clause-acted g c =
    on_ok_weaker c.take_all.result
    (λ a. subst (λ (o : Option ℕ). Acted g.D.Disk c.args.parts.now c.args.disk.now c.take_all.new.parts c.take_all.new.disk c.args.outs.now.items c.take_all.new.outs.items (gains o c.args.items.now) (stores_around o c.args.items.now)) (sym (sym c.number_on.ensures.number ∙ c.in-Some.is)) a)
    c.take_all.ensures.acted

pub returns-in-Some-clause-stopped : goal.returns-in-Some-clause-stopped
returns-in-Some-clause-stopped g c =
    IfErr-weaker c.take_all.result _ _
    (λ fault s. subst (λ (o : Option ℕ). Stopped g.D.Disk fault (seen c.args.parts.now) c.args.disk.now c.take_all.new.disk (stores_around o c.args.items.now)) (sym (sym c.number_on.ensures.number ∙ c.in-Some.is)) s)
    c.take_all.ensures.stopped
