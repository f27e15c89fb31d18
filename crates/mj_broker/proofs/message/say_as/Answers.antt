use Rattle.std.proofs.Common.{sym, ap}
use Rattle.std.proofs.lemmas.Result.{IfErr-weaker, on_ok_weaker}
use Rattle.mj_machine.specs.MessageStep.{says}
use Rattle.mj_machine.specs.declared.connection.Role.{Role}
use Rattle.mj_machine.specs.declared.connection.Role.TheVariants.{Fresh, Client, Worker}
use Rattle.mj_broker.proofs.Lifting.{act-as, acted-nothing, halt-as}
use Rattle.mj_broker.proofs.message.say_as.Goals as goal

pub returns-in-Gone-clause-acted : goal.returns-in-Gone-clause-acted
returns-in-Gone-clause-acted g c = acted-nothing g.D.Disk c.args.parts.now c.args.disk.now c.requires.sound c.args.outs.now.items (says c.args.standing.lane c.args.number c.args.standing.role c.args.said) (λ w at. sym (ap (λ (r : Role). says c.args.standing.lane c.args.number r c.args.said w) c.in-Gone.is))

pub returns-in-Fresh-clause-acted : goal.returns-in-Fresh-clause-acted
returns-in-Fresh-clause-acted g c =
    on_ok_weaker c.say_fresh.result
    (λ a. act-as g.D.Disk c.args.parts.now c.args.disk.now c.say_fresh.new.parts c.say_fresh.new.disk c.args.outs.now.items c.say_fresh.new.outs.items (says c.args.standing.lane c.args.number Fresh c.args.said) (says c.args.standing.lane c.args.number c.args.standing.role c.args.said) (λ w at. sym (ap (λ (r : Role). says c.args.standing.lane c.args.number r c.args.said w) c.in-Fresh.is)) a)
    c.say_fresh.ensures.acted

pub returns-in-Fresh-clause-stopped : goal.returns-in-Fresh-clause-stopped
returns-in-Fresh-clause-stopped g c =
    IfErr-weaker c.say_fresh.result _ _ (λ fault s. halt-as g.D.Disk c.args.parts.now c.args.disk.now fault c.say_fresh.new.disk (says c.args.standing.lane c.args.number Fresh c.args.said) (says c.args.standing.lane c.args.number c.args.standing.role c.args.said) (λ w at. sym (ap (λ (r : Role). says c.args.standing.lane c.args.number r c.args.said w) c.in-Fresh.is)) s) c.say_fresh.ensures.stopped

pub returns-in-Client-clause-acted : goal.returns-in-Client-clause-acted
returns-in-Client-clause-acted g c =
    on_ok_weaker c.say_client.result
    (λ a. act-as g.D.Disk c.args.parts.now c.args.disk.now c.say_client.new.parts c.say_client.new.disk c.args.outs.now.items c.say_client.new.outs.items (says c.args.standing.lane c.args.number Client c.args.said) (says c.args.standing.lane c.args.number c.args.standing.role c.args.said) (λ w at. sym (ap (λ (r : Role). says c.args.standing.lane c.args.number r c.args.said w) c.in-Client.is)) a)
    c.say_client.ensures.acted

pub returns-in-Client-clause-stopped : goal.returns-in-Client-clause-stopped
returns-in-Client-clause-stopped g c =
    IfErr-weaker c.say_client.result _ _ (λ fault s. halt-as g.D.Disk c.args.parts.now c.args.disk.now fault c.say_client.new.disk (says c.args.standing.lane c.args.number Client c.args.said) (says c.args.standing.lane c.args.number c.args.standing.role c.args.said) (λ w at. sym (ap (λ (r : Role). says c.args.standing.lane c.args.number r c.args.said w) c.in-Client.is)) s) c.say_client.ensures.stopped

pub returns-in-Worker-clause-acted : goal.returns-in-Worker-clause-acted
returns-in-Worker-clause-acted g c =
    on_ok_weaker c.say_worker.result
    (λ a. act-as g.D.Disk c.args.parts.now c.args.disk.now c.say_worker.new.parts c.say_worker.new.disk c.args.outs.now.items c.say_worker.new.outs.items (says c.args.standing.lane c.args.number (Worker c.in-Worker.registration) c.args.said) (says c.args.standing.lane c.args.number c.args.standing.role c.args.said) (λ w at. sym (ap (λ (r : Role). says c.args.standing.lane c.args.number r c.args.said w) c.in-Worker.is)) (a c.args.standing.lane))
    c.say_worker.ensures.acted

pub returns-in-Worker-clause-stopped : goal.returns-in-Worker-clause-stopped
returns-in-Worker-clause-stopped g c =
    IfErr-weaker c.say_worker.result _ _ (λ fault s. halt-as g.D.Disk c.args.parts.now c.args.disk.now fault c.say_worker.new.disk (says c.args.standing.lane c.args.number (Worker c.in-Worker.registration) c.args.said) (says c.args.standing.lane c.args.number c.args.standing.role c.args.said) (λ w at. sym (ap (λ (r : Role). says c.args.standing.lane c.args.number r c.args.said w) c.in-Worker.is)) (s c.args.standing.lane)) c.say_worker.ensures.stopped
