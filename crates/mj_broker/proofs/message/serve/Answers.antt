use Rattle.std.proofs.Common.{refl}
use Rattle.std.proofs.lemmas.Result.{IfErr-weaker, on_ok_weaker}
use Rattle.mj_keeper.specs.Standing.{told_on}
use Rattle.mj_machine.specs.Leaving.{becomes}
use Rattle.mj_machine.specs.TitanicStep.{serves, titanic_of}
use Rattle.mj_machine.specs.declared.connection.Role.TheVariants.{Client}
use Rattle.mj_routing.proofs.PlainLemmas.{stays-becomes}
use Rattle.mj_broker.specs.Acting.{turns_client}
use Rattle.mj_broker.proofs.BodyLemmas.{short-kept}
use Rattle.mj_broker.proofs.Lifting.{acted-ok, front, front-stopped, lifted-still}
use Rattle.mj_broker.proofs.message.serve.Goals as goal

pub serve-requires-clause-body : goal.serve-requires-clause-body
serve-requires-clause-body g c = short-kept c.args.request.now.body (c.requires.short c.requires.stored)

pub returns-clause-acted : goal.returns-clause-acted
returns-clause-acted g c =
    on_ok_weaker c.serve.result
    (λ two. front g.D.Disk c.args.parts.now c.args.disk.now (turns_client c.args.number) (serves (titanic_of c.args.request.now.service) c.args.number c.args.request.now) (λ w. refl)
    (record { routing = c.set_client.new.self; keeping = c.args.parts.now.keeping }) c.args.disk.now c.serve.new.self c.serve.new.disk c.args.outs.now.items c.args.outs.now.items c.serve.new.outs.items
    (lifted-still g.D.Disk c.args.parts.now c.args.disk.now c.requires.sound c.set_client.new.self c.args.outs.now.items (λ told s. becomes c.args.number Client s) (stays-becomes (told_on c.args.parts.now.keeping.keeper.shelf) c.args.number Client c.args.parts.now.routing) c.set_client.ensures) two)
    (acted-ok g.D.Disk (record { routing = c.set_client.new.self; keeping = c.args.parts.now.keeping }) c.args.disk.now c.serve.new.self c.serve.new.disk c.args.outs.now.items c.serve.new.outs.items (serves (titanic_of c.args.request.now.service) c.args.number c.args.request.now)
    c.serve.result c.serve.ensures.done c.serve.ensures.sound c.serve.ensures.stays)

pub returns-clause-stopped : goal.returns-clause-stopped
returns-clause-stopped g c =
    IfErr-weaker c.serve.result _ _
    (λ fault two. front-stopped g.D.Disk c.args.parts.now c.args.disk.now (turns_client c.args.number) (serves (titanic_of c.args.request.now.service) c.args.number c.args.request.now) (λ w. refl)
    (record { routing = c.set_client.new.self; keeping = c.args.parts.now.keeping }) c.args.disk.now c.args.outs.now.items c.args.outs.now.items fault c.serve.new.disk
    (lifted-still g.D.Disk c.args.parts.now c.args.disk.now c.requires.sound c.set_client.new.self c.args.outs.now.items (λ told s. becomes c.args.number Client s) (stays-becomes (told_on c.args.parts.now.keeping.keeper.shelf) c.args.number Client c.args.parts.now.routing) c.set_client.ensures) two)
    c.serve.ensures.stopped
