use Rattle.std.proofs.Common.{Bool, sym, ap, ◌∙◌}
use Rattle.std.proofs.lemmas.Result.{IfErr-weaker, on_ok_weaker}
use Rattle.mj_machine.specs.DiskActs.{routes}
use Rattle.mj_machine.specs.declared.connection.Voice.{Voice}
use Rattle.mj_machine.specs.MessageStep.{strays, works, works_by, works_on}
use Rattle.mj_broker.proofs.Lifting.{act-as, halt-as}
use Rattle.mj_broker.proofs.message.work.Goals as goal

pub returns-then-is_same_version-clause-acted : goal.returns-then-is_same_version-clause-acted
returns-then-is_same_version-clause-acted g c =
    on_ok_weaker c.work_on.result
    (λ a. act-as g.D.Disk c.args.parts.now c.args.disk.now c.work_on.new.parts c.work_on.new.disk c.args.outs.now.items c.work_on.new.outs.items (works_on c.args.number c.args.registration c.args.cmd.act) (works c.args.number c.args.registration c.args.cmd) (λ w at. ap (λ (b : Bool). works_by b c.args.number c.args.registration c.args.cmd.act w) (sym c.if-is_same_version.true ∙ c.is_same_version.ensures)) a)
    c.work_on.ensures.acted

pub returns-then-is_same_version-clause-stopped : goal.returns-then-is_same_version-clause-stopped
returns-then-is_same_version-clause-stopped g c =
    IfErr-weaker c.work_on.result _ _ (λ fault s. halt-as g.D.Disk c.args.parts.now c.args.disk.now fault c.work_on.new.disk (works_on c.args.number c.args.registration c.args.cmd.act) (works c.args.number c.args.registration c.args.cmd) (λ w at. ap (λ (b : Bool). works_by b c.args.number c.args.registration c.args.cmd.act w) (sym c.if-is_same_version.true ∙ c.is_same_version.ensures)) s) c.work_on.ensures.stopped

pub returns-else-is_same_version-clause-acted : goal.returns-else-is_same_version-clause-acted
returns-else-is_same_version-clause-acted g c =
    on_ok_weaker c.stray.result
    (λ a. act-as g.D.Disk c.args.parts.now c.args.disk.now c.stray.new.parts c.args.disk.now c.args.outs.now.items c.stray.new.outs.items (routes (strays c.args.number c.voice_at.result c.args.cmd.act)) (works c.args.number c.args.registration c.args.cmd) (λ w at. ap (λ (v : Voice). routes (strays c.args.number v c.args.cmd.act) w) c.voice_at.ensures ∙ ap (λ (b : Bool). works_by b c.args.number c.args.registration c.args.cmd.act w) (sym c.if-is_same_version.false ∙ c.is_same_version.ensures)) a)
    c.stray.ensures.acted

pub returns-else-is_same_version-clause-stopped : goal.returns-else-is_same_version-clause-stopped
returns-else-is_same_version-clause-stopped g c =
    IfErr-weaker c.stray.result _ _ (λ fault s. halt-as g.D.Disk c.args.parts.now c.args.disk.now fault c.args.disk.now (routes (strays c.args.number c.voice_at.result c.args.cmd.act)) (works c.args.number c.args.registration c.args.cmd) (λ w at. ap (λ (v : Voice). routes (strays c.args.number v c.args.cmd.act) w) c.voice_at.ensures ∙ ap (λ (b : Bool). works_by b c.args.number c.args.registration c.args.cmd.act w) (sym c.if-is_same_version.false ∙ c.is_same_version.ensures)) s) c.stray.ensures.stopped
