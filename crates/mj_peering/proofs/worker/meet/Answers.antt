use Rattle.std.proofs.Common.{refl, sym, subst}
use Rattle.std.proofs.lemmas.Result.{err_from_is_err_and}
use Rattle.mj_peer.specs.WorkerEndRules.{Met}
use Rattle.mj_peering.specs.Performing.{places}
use Rattle.mj_peering.specs.WorkerRun.{BrokeOff}
use Rattle.mj_peering.specs.declared.stop.Stop.{Stop}
use Rattle.mj_peering.proofs.PlaceLemmas.{appends-same, tells-same}
use Rattle.mj_peering.proofs.WorkerLemmas.{broke-off-before, broke-off-performing, broke-off-reading, cut, turned-performing}
use Rattle.mj_peering.proofs.worker.meet.Goals as goal

pub returns-in_err-event-clause-broken : goal.returns-in_err-event-clause-broken
returns-in_err-event-clause-broken g c =
    let p = err_from_is_err_and c.from_residual.result c.from_residual.ensures.1 in
    let old = places (g.L.Link.told c.args.link.now) (g.K.Sink.written c.args.out.now) in
    let now = places (g.L.Link.told c.read_event.new.link) (g.K.Sink.written c.args.out.now) in
    rw p.1 (subst (λ (x : Stop). BrokeOff x c.args.end.now.post old now) (sym p.2)
    (broke-off-reading _ c.args.end.now.post old now _ _ (record { told = tells-same old.told now.told c.in_err-event.ensures.failed; got = appends-same old.got now.got refl }) c.in_err-event.ensures.cause))

pub returns-in_err-acts-clause-broken : goal.returns-in_err-acts-clause-broken
returns-in_err-acts-clause-broken g c =
    let event = c.in_ok-event.event in
    let old = places (g.L.Link.told c.args.link.now) (g.K.Sink.written c.args.out.now) in
    let now = places (g.L.Link.told c.read_event.new.link) (g.K.Sink.written c.args.out.now) in
    let p = err_from_is_err_and c.from_residual-in_err-acts.result c.from_residual-in_err-acts.ensures.1 in
    rw p.1 (broke-off-before p.0 c.args.end.now.post event old now p.2 (record { told = c.in_ok-event.ensures.told; got = appends-same old.got now.got refl }))

pub returns-clause-broken : goal.returns-clause-broken
returns-clause-broken g c =
    let event = c.in_ok-event.event in
    let old = places (g.L.Link.told c.args.link.now) (g.K.Sink.written c.args.out.now) in
    let mid = places (g.L.Link.told c.read_event.new.link) (g.K.Sink.written c.args.out.now) in
    let now = places (g.L.Link.told c.do_acts.new.link) (g.K.Sink.written c.do_acts.new.out) in
    broke-off-performing c.do_acts.result c.args.end.now.post event c.in_ok-acts.acts old mid now _ _
    (λ b. cut c.args.end.now.post c.step.new.self.post c.in_ok-acts.acts (Met event) old mid now c.in_ok-acts.ensures.turn
    (record { told = c.in_ok-event.ensures.told; got = appends-same old.got mid.got refl }) b)
    c.do_acts.ensures.broken c.do_acts.ensures.cause

pub returns-clause-done : goal.returns-clause-done
returns-clause-done g c =
    let event = c.in_ok-event.event in
    let old = places (g.L.Link.told c.args.link.now) (g.K.Sink.written c.args.out.now) in
    let mid = places (g.L.Link.told c.read_event.new.link) (g.K.Sink.written c.args.out.now) in
    let now = places (g.L.Link.told c.do_acts.new.link) (g.K.Sink.written c.do_acts.new.out) in
    turned-performing c.do_acts.result c.args.end.now.post c.step.new.self.post event c.in_ok-acts.acts old mid now c.in_ok-acts.ensures.turn
    (record { told = c.in_ok-event.ensures.told; got = appends-same old.got mid.got refl }) c.do_acts.ensures.done
