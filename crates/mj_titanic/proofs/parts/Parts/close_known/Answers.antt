use Rattle.std.specs.Prelude.{codes}
use Rattle.mj_titanic.specs.Acting.{seen}
use Rattle.mj_titanic.proofs.Accepts.{if-err-map, on-ok-map}
use Rattle.mj_titanic.proofs.Rowing.{did-around, did-same, stopped-around, stopped-same}
use Rattle.mj_machine.specs.TitanicStep.{tells}
use Rattle.mj_titanic.specs.Services.{closes_known, closing}
use Rattle.mj_titanic.proofs.Known.{closes-pending, closes-stored, closes-unknown, open-pending, open-stored}
use Rattle.mj_titanic.proofs.parts.Parts.close_known.Goals as goal

pub returns-in-Unknown-clause-done : goal.returns-in-Unknown-clause-done
returns-in-Unknown-clause-done g c =
    on-ok-map c.tell.result _ _ (λ did. did-same g.D.Disk (seen c.args.self.now) c.args.disk.now _ _ _ _ (tells c.args.number c.args.request.now (codes "200")) (closes_known c.args.number c.args.request.now c.args.id.now) (did-around g.D.Disk (seen c.args.self.now) c.args.disk.now _ _ _ _ (tells c.args.number c.args.request.now (codes "200")) did)
    (λ w at. closes-unknown g.D.Disk (seen c.args.self.now) c.in-Open.store c.args.disk.now c.in-Open.is c.args.number c.args.request.now c.args.id.now w at c.in-Unknown.ensures.value)) c.tell.ensures.done

pub returns-in-Unknown-clause-stopped : goal.returns-in-Unknown-clause-stopped
returns-in-Unknown-clause-stopped g c =
    if-err-map c.tell.result _ _ (λ fault stopped. stopped-same g.D.Disk fault (seen c.args.self.now) c.args.disk.now _ (tells c.args.number c.args.request.now (codes "200")) (closes_known c.args.number c.args.request.now c.args.id.now) (stopped-around g.D.Disk fault (seen c.args.self.now) c.args.disk.now _ (tells c.args.number c.args.request.now (codes "200")) stopped)
    (λ w at. closes-unknown g.D.Disk (seen c.args.self.now) c.in-Open.store c.args.disk.now c.in-Open.is c.args.number c.args.request.now c.args.id.now w at c.in-Unknown.ensures.value)) c.tell.ensures.stopped

pub returns-in-Pending-clause-done : goal.returns-in-Pending-clause-done
returns-in-Pending-clause-done g c =
    on-ok-map c.close.result _ _ (λ did. did-same g.D.Disk (seen c.args.self.now) c.args.disk.now _ _ _ _ (closing c.args.number c.args.request.now c.number.result) (closes_known c.args.number c.args.request.now c.args.id.now) did
    (λ w at. closes-pending g.D.Disk (seen c.args.self.now) c.in-Open.store c.args.disk.now c.in-Open.is c.args.number c.args.request.now c.args.id.now w at c.in-Pending.ensures.value c.number.result c.number.ensures.value)) c.close.ensures.done

pub returns-in-Pending-clause-stopped : goal.returns-in-Pending-clause-stopped
returns-in-Pending-clause-stopped g c =
    if-err-map c.close.result _ _ (λ fault stopped. stopped-same g.D.Disk fault (seen c.args.self.now) c.args.disk.now _ (closing c.args.number c.args.request.now c.number.result) (closes_known c.args.number c.args.request.now c.args.id.now) stopped
    (λ w at. closes-pending g.D.Disk (seen c.args.self.now) c.in-Open.store c.args.disk.now c.in-Open.is c.args.number c.args.request.now c.args.id.now w at c.in-Pending.ensures.value c.number.result c.number.ensures.value)) c.close.ensures.stopped

pub close-requires-clause-open : goal.close-requires-clause-open
close-requires-clause-open g c = open-pending g.D.Disk (seen c.args.self.now) c.in-Open.store c.args.disk.now c.in-Open.is c.args.number c.args.request.now c.args.id.now c.look.ensures.number c.number.result c.number.ensures.value c.in-Pending.ensures.value

pub returns-in-Stored-clause-done : goal.returns-in-Stored-clause-done
returns-in-Stored-clause-done g c =
    on-ok-map c.close-in-Stored.result _ _ (λ did. did-same g.D.Disk (seen c.args.self.now) c.args.disk.now _ _ _ _ (closing c.args.number c.args.request.now c.number-in-Stored.result) (closes_known c.args.number c.args.request.now c.args.id.now) did
    (λ w at. closes-stored g.D.Disk (seen c.args.self.now) c.in-Open.store c.args.disk.now c.in-Open.is c.args.number c.args.request.now c.args.id.now w at c.in-Stored.ensures.value c.number-in-Stored.result c.number-in-Stored.ensures.value)) c.close-in-Stored.ensures.done

pub returns-in-Stored-clause-stopped : goal.returns-in-Stored-clause-stopped
returns-in-Stored-clause-stopped g c =
    if-err-map c.close-in-Stored.result _ _ (λ fault stopped. stopped-same g.D.Disk fault (seen c.args.self.now) c.args.disk.now _ (closing c.args.number c.args.request.now c.number-in-Stored.result) (closes_known c.args.number c.args.request.now c.args.id.now) stopped
    (λ w at. closes-stored g.D.Disk (seen c.args.self.now) c.in-Open.store c.args.disk.now c.in-Open.is c.args.number c.args.request.now c.args.id.now w at c.in-Stored.ensures.value c.number-in-Stored.result c.number-in-Stored.ensures.value)) c.close-in-Stored.ensures.stopped

pub close-requires-in-Stored-clause-open : goal.close-requires-in-Stored-clause-open
close-requires-in-Stored-clause-open g c = open-stored g.D.Disk (seen c.args.self.now) c.in-Open.store c.args.disk.now c.in-Open.is c.args.number c.args.request.now c.args.id.now c.look.ensures.number c.number-in-Stored.result c.number-in-Stored.ensures.value c.in-Stored.ensures.value
