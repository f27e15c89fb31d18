use Rattle.std.proofs.Common.{refl, sym, subst}
use Rattle.std.proofs.lemmas.Result.{err_from_is_err_and}
use Rattle.mj_bridge.specs.BridgeRules.{FarGave}
use Rattle.mj_bridge_prog.specs.BridgeRun.{BrokeOff}
use Rattle.mj_bridge_prog.specs.Sides.{sides}
use Rattle.mj_peering.specs.declared.stop.Stop.{Stop}
use Rattle.mj_bridge_prog.proofs.RunLemmas.{broke-off-before, broke-off-performing, broke-off-reading, cut, turned-performing}
use Rattle.mj_bridge_prog.proofs.SideLemmas.{tells-same}
use Rattle.mj_bridge_prog.proofs.run.take_far.Goals as goal

pub returns-in_err-event-clause-broken : goal.returns-in_err-event-clause-broken
returns-in_err-event-clause-broken g c =
    let p = err_from_is_err_and c.from_residual.result c.from_residual.ensures.1 in
    let old = sides (g.N.Link.told c.args.near.now) (g.F.Link.told c.args.far.now) in
    let mid = (sides (g.N.Link.told c.args.near.now) (g.F.Link.told c.read_event.new.link)) in
    rw p.1 (subst (λ (x : Stop). BrokeOff x FarGave c.args.bridge.now.deck old mid) (sym p.2)
    (broke-off-reading _ FarGave c.args.bridge.now.deck old mid _ _ (record { near = tells-same old.near mid.near refl; far = tells-same old.far mid.far c.in_err-event.ensures.failed }) c.in_err-event.ensures.cause))

pub returns-in_err-acts-clause-broken : goal.returns-in_err-acts-clause-broken
returns-in_err-acts-clause-broken g c =
    let old = sides (g.N.Link.told c.args.near.now) (g.F.Link.told c.args.far.now) in
    let mid = (sides (g.N.Link.told c.args.near.now) (g.F.Link.told c.read_event.new.link)) in
    let p = err_from_is_err_and c.from_residual-in_err-acts.result c.from_residual-in_err-acts.ensures.1 in
    rw p.1 (broke-off-before p.0 FarGave c.args.bridge.now.deck c.in_ok-event.event old mid p.2 (record { near = tells-same old.near mid.near refl; far = c.in_ok-event.ensures.told }))

pub returns-clause-broken : goal.returns-clause-broken
returns-clause-broken g c =
    let event = c.in_ok-event.event in
    let old = sides (g.N.Link.told c.args.near.now) (g.F.Link.told c.args.far.now) in
    let mid = (sides (g.N.Link.told c.args.near.now) (g.F.Link.told c.read_event.new.link)) in
    let now = sides (g.N.Link.told c.do_acts.new.near) (g.F.Link.told c.do_acts.new.far) in
    broke-off-performing c.do_acts.result FarGave c.args.bridge.now.deck event c.in_ok-acts.acts old mid now _ _
    (λ b. cut c.args.bridge.now.deck c.far.new.self.deck c.in_ok-acts.acts (FarGave event) old mid now c.in_ok-acts.ensures.turn (record { near = tells-same old.near mid.near refl; far = c.in_ok-event.ensures.told }) b)
    c.do_acts.ensures.broken c.do_acts.ensures.cause

pub returns-clause-done : goal.returns-clause-done
returns-clause-done g c =
    let event = c.in_ok-event.event in
    let old = sides (g.N.Link.told c.args.near.now) (g.F.Link.told c.args.far.now) in
    let mid = (sides (g.N.Link.told c.args.near.now) (g.F.Link.told c.read_event.new.link)) in
    let now = sides (g.N.Link.told c.do_acts.new.near) (g.F.Link.told c.do_acts.new.far) in
    turned-performing c.do_acts.result FarGave c.args.bridge.now.deck c.far.new.self.deck event c.in_ok-acts.acts old mid now c.in_ok-acts.ensures.turn (record { near = tells-same old.near mid.near refl; far = c.in_ok-event.ensures.told }) c.do_acts.ensures.done
