use Rattle.std.proofs.Common.{sym, ◌∙◌}
use Rattle.std.proofs.lemmas.Result.{IfErr-weaker, on_ok_weaker}
use Rattle.mj_machine.specs.Connections.{connection_of}
use Rattle.mj_machine.specs.MessageStep.{says, says_by}
use Rattle.mj_broker.proofs.Lifting.{act-as, acted-nothing, halt-as, standing-none, standing-some}
use Rattle.mj_broker.proofs.message.say.Goals as goal

pub returns-in-None-clause-acted : goal.returns-in-None-clause-acted
returns-in-None-clause-acted g c =
    acted-nothing g.D.Disk c.args.parts.now c.args.disk.now c.requires.sound c.args.outs.now.items (says_by c.args.number (connection_of c.args.number c.args.parts.now.routing.connections) c.args.said) (λ w at. standing-none c.args.number (connection_of c.args.number c.args.parts.now.routing.connections) c.args.said w (sym c.look_up.ensures ∙ c.in-None.is))

pub returns-in-Some-clause-acted : goal.returns-in-Some-clause-acted
returns-in-Some-clause-acted g c =
    on_ok_weaker c.say_as.result
    (λ a. act-as g.D.Disk c.args.parts.now c.args.disk.now c.say_as.new.parts c.say_as.new.disk c.args.outs.now.items c.say_as.new.outs.items (says c.in-Some.standing.lane c.args.number c.in-Some.standing.role c.args.said) (says_by c.args.number (connection_of c.args.number c.args.parts.now.routing.connections) c.args.said) (λ w at. standing-some c.args.number (connection_of c.args.number c.args.parts.now.routing.connections) c.in-Some.standing c.args.said w (sym c.look_up.ensures ∙ c.in-Some.is)) a)
    c.say_as.ensures.acted

pub returns-in-Some-clause-stopped : goal.returns-in-Some-clause-stopped
returns-in-Some-clause-stopped g c =
    IfErr-weaker c.say_as.result _ _ (λ fault s. halt-as g.D.Disk c.args.parts.now c.args.disk.now fault c.say_as.new.disk (says c.in-Some.standing.lane c.args.number c.in-Some.standing.role c.args.said) (says_by c.args.number (connection_of c.args.number c.args.parts.now.routing.connections) c.args.said) (λ w at. standing-some c.args.number (connection_of c.args.number c.args.parts.now.routing.connections) c.in-Some.standing c.args.said w (sym c.look_up.ensures ∙ c.in-Some.is)) s) c.say_as.ensures.stopped
