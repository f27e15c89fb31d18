use Rattle.std.specs.Prelude.{codes}
use Rattle.mj_titanic.specs.Acting.{seen}
use Rattle.mj_titanic.proofs.Accepts.{if-err-map, on-ok-map}
use Rattle.mj_titanic.proofs.Rowing.{did-around, did-same, stopped-around, stopped-same}
use Rattle.mj_machine.specs.TitanicStep.{tells}
use Rattle.mj_titanic.specs.Services.{shows_known, showing}
use Rattle.mj_titanic.proofs.Known.{reply-stored, shows-pending, shows-stored, shows-unknown}
use Rattle.mj_titanic.proofs.parts.Parts.show_known.Goals as goal

pub returns-in-Unknown-clause-done : goal.returns-in-Unknown-clause-done
returns-in-Unknown-clause-done g c =
    on-ok-map c.tell.result _ _ (λ did. did-same g.D.Disk (seen c.args.self.now) c.args.disk.now _ _ _ _ (tells c.args.number c.args.request.now (codes "400")) (shows_known c.args.number c.args.request.now c.args.id.now) (did-around g.D.Disk (seen c.args.self.now) c.args.disk.now _ _ _ _ (tells c.args.number c.args.request.now (codes "400")) did)
    (λ w at. shows-unknown g.D.Disk (seen c.args.self.now) c.in-Open.store c.args.disk.now c.in-Open.is c.args.number c.args.request.now c.args.id.now w at c.in-Unknown.ensures.value)) c.tell.ensures.done

pub returns-in-Unknown-clause-stopped : goal.returns-in-Unknown-clause-stopped
returns-in-Unknown-clause-stopped g c =
    if-err-map c.tell.result _ _ (λ fault stopped. stopped-same g.D.Disk fault (seen c.args.self.now) c.args.disk.now _ (tells c.args.number c.args.request.now (codes "400")) (shows_known c.args.number c.args.request.now c.args.id.now) (stopped-around g.D.Disk fault (seen c.args.self.now) c.args.disk.now _ (tells c.args.number c.args.request.now (codes "400")) stopped)
    (λ w at. shows-unknown g.D.Disk (seen c.args.self.now) c.in-Open.store c.args.disk.now c.in-Open.is c.args.number c.args.request.now c.args.id.now w at c.in-Unknown.ensures.value)) c.tell.ensures.stopped

pub returns-in-Pending-clause-done : goal.returns-in-Pending-clause-done
returns-in-Pending-clause-done g c =
    on-ok-map c.tell-in-Pending.result _ _ (λ did. did-same g.D.Disk (seen c.args.self.now) c.args.disk.now _ _ _ _ (tells c.args.number c.args.request.now (codes "300")) (shows_known c.args.number c.args.request.now c.args.id.now) (did-around g.D.Disk (seen c.args.self.now) c.args.disk.now _ _ _ _ (tells c.args.number c.args.request.now (codes "300")) did)
    (λ w at. shows-pending g.D.Disk (seen c.args.self.now) c.in-Open.store c.args.disk.now c.in-Open.is c.args.number c.args.request.now c.args.id.now w at c.in-Pending.ensures.value)) c.tell-in-Pending.ensures.done

pub returns-in-Pending-clause-stopped : goal.returns-in-Pending-clause-stopped
returns-in-Pending-clause-stopped g c =
    if-err-map c.tell-in-Pending.result _ _ (λ fault stopped. stopped-same g.D.Disk fault (seen c.args.self.now) c.args.disk.now _ (tells c.args.number c.args.request.now (codes "300")) (shows_known c.args.number c.args.request.now c.args.id.now) (stopped-around g.D.Disk fault (seen c.args.self.now) c.args.disk.now _ (tells c.args.number c.args.request.now (codes "300")) stopped)
    (λ w at. shows-pending g.D.Disk (seen c.args.self.now) c.in-Open.store c.args.disk.now c.in-Open.is c.args.number c.args.request.now c.args.id.now w at c.in-Pending.ensures.value)) c.tell-in-Pending.ensures.stopped

pub returns-in-Stored-clause-done : goal.returns-in-Stored-clause-done
returns-in-Stored-clause-done g c =
    on-ok-map c.show.result _ _ (λ did. did-same g.D.Disk (seen c.args.self.now) c.args.disk.now _ _ _ _ (showing c.args.number c.args.request.now c.number.result) (shows_known c.args.number c.args.request.now c.args.id.now) did
    (λ w at. shows-stored g.D.Disk (seen c.args.self.now) c.in-Open.store c.args.disk.now c.in-Open.is c.args.number c.args.request.now c.args.id.now w at c.in-Stored.ensures.value c.number.result c.number.ensures.value)) c.show.ensures.done

pub returns-in-Stored-clause-stopped : goal.returns-in-Stored-clause-stopped
returns-in-Stored-clause-stopped g c =
    if-err-map c.show.result _ _ (λ fault stopped. stopped-same g.D.Disk fault (seen c.args.self.now) c.args.disk.now _ (showing c.args.number c.args.request.now c.number.result) (shows_known c.args.number c.args.request.now c.args.id.now) stopped
    (λ w at. shows-stored g.D.Disk (seen c.args.self.now) c.in-Open.store c.args.disk.now c.in-Open.is c.args.number c.args.request.now c.args.id.now w at c.in-Stored.ensures.value c.number.result c.number.ensures.value)) c.show.ensures.stopped

pub show-requires-clause-open : goal.show-requires-clause-open
show-requires-clause-open g c = reply-stored g.D.Disk (seen c.args.self.now) c.in-Open.store c.args.disk.now c.in-Open.is c.args.number c.args.request.now c.args.id.now c.look.ensures.number c.number.result c.number.ensures.value c.in-Stored.ensures.value
