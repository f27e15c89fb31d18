use Rattle.std.proofs.Common.{◌≡◌, ◌+◌, ◌^◌, ◌<◌, ◌∙◌, ◌++◌, ◌∷◌, [], Some, sym, ap, subst, arith}
use Rattle.std.specs.Option.{option_map}
use Rattle.mj_counted.specs.Names.{key_of}
use Rattle.mj_hall.specs.declared.kept.Worker.{Worker}
use Rattle.mj_hall.specs.Crew.{without_conn}
use Rattle.mj_hall.specs.HallValue.{HallValue}
use Rattle.mj_hall.specs.Serving.{NoneOf}
use Rattle.mj_hall.proofs.CrewLemmas.{none_without}
use Rattle.mj_hall.proofs.HallLemmas.{value_is}
use Rattle.mj_hall.proofs.PeopleLemmas.{worker_people}
use Rattle.mj_hall.proofs.StandLemmas.{on_err, roomy, roomy_crew, waits_state}
use Rattle.mj_hall.proofs.WalkLemmas.{seen_is}
use Rattle.mj_hall.proofs.hall.Hall.wait.Goals as goal

pub worker_goes-gone-requires : goal.worker_goes-gone-requires
worker_goes-gone-requires g c =
    let r = c.room_for_worker in
    let desks = r.ensures.desks c.self.invariant.0 c.self.invariant.1 c.self.invariant.2.asking.distinct c.self.invariant.2.serving.distinct c.self.invariant.2.desks in
    let whole = roomy_crew c.self.inside c.self.invariant.0 c.self.invariant.1 c.self.invariant.2 r.new.workers r.new.conns r.new.pairs r.new.desks r.new.names r.ensures.same r.ensures.count r.ensures.conns r.ensures.pairs desks in
    record { stands = (r.new.names, c.self.invariant.0, c.self.invariant.1, whole) }

pub returns-in_err-desk-clause-err : goal.returns-in_err-desk-clause-err
returns-in_err-desk-clause-err g c =
    let r = c.room_for_worker in
    let desks = r.ensures.desks c.self.invariant.0 c.self.invariant.1 c.self.invariant.2.asking.distinct c.self.invariant.2.serving.distinct c.self.invariant.2.desks in
    let stands = roomy c.self.inside c.self.invariant.0 c.self.invariant.1 c.self.invariant.2 r.new.workers r.new.conns r.new.pairs r.new.desks r.new.names r.ensures.same r.ensures.count r.ensures.conns r.ensures.pairs desks c.in_err-desk.ensures.unopened in
    on_err c.from_residual.result _ (ap (λ (v : HallValue). v.state) (seen_is _ _ _ stands) ∙ ap (λ (v : HallValue). v.state) (value_is c.self.inside c.self.invariant.0 c.self.invariant.1 c.args.self.now c.self.invariant.2 c.self.view_is))

pub invariant_of-self : goal.invariant_of-self
invariant_of-self g c =
    let r = c.room_for_worker in
    let desks = r.ensures.desks c.self.invariant.0 c.self.invariant.1 c.self.invariant.2.asking.distinct c.self.invariant.2.serving.distinct c.self.invariant.2.desks in
    (c.self.invariant.0, c.self.invariant.1, roomy c.self.inside c.self.invariant.0 c.self.invariant.1 c.self.invariant.2 r.new.workers r.new.conns r.new.pairs r.new.desks r.new.names r.ensures.same r.ensures.count r.ensures.conns r.ensures.pairs desks c.in_err-desk.ensures.unopened)

pub worker_waits-requires-clause-stands : goal.worker_waits-requires-clause-stands
worker_waits-requires-clause-stands g c =
    let r = c.room_for_worker in
    let es = c.self.invariant.0 in
    let ws = c.self.invariant.1 in
    let desks = r.ensures.desks c.self.invariant.0 c.self.invariant.1 c.self.invariant.2.asking.distinct c.self.invariant.2.serving.distinct c.self.invariant.2.desks in
    let whole = roomy_crew c.self.inside c.self.invariant.0 c.self.invariant.1 c.self.invariant.2 r.new.workers r.new.conns r.new.pairs r.new.desks r.new.names r.ensures.same r.ensures.count r.ensures.conns r.ensures.pairs desks in
    let crew = c.worker_goes-gone.ensures.crew r.new.names es ws whole in (
      r.new.names,
      c.worker_goes-gone.new.busy_first,
      c.worker_goes-gone.new.busy_last,
      c.worker_goes-gone.new.busy_count,
      es,
      without_conn c.args.conn ws,
      crew,
      subst (λ (v : Worker). NoneOf v.waiter.worker (without_conn c.args.conn ws)) (sym c.waiting_worker.ensures) (none_without c.args.conn ws c.self.invariant.2.serving.distinct),
      subst (λ (v : Worker). key_of r.new.names v.waiter.service ≡ Some v.desk) (sym c.waiting_worker.ensures) c.in_ok-desk.ensures.named,
      ap (λ (v : Worker). v.busy) c.waiting_worker.ensures,
    )

pub invariant_of-self-2 : goal.invariant_of-self-2
invariant_of-self-2 g c =
    let r = c.room_for_worker in
    let es = c.self.invariant.0 in
    let ws = c.self.invariant.1 in
    let desks = r.ensures.desks c.self.invariant.0 c.self.invariant.1 c.self.invariant.2.asking.distinct c.self.invariant.2.serving.distinct c.self.invariant.2.desks in
    let whole = roomy_crew c.self.inside c.self.invariant.0 c.self.invariant.1 c.self.invariant.2 r.new.workers r.new.conns r.new.pairs r.new.desks r.new.names r.ensures.same r.ensures.count r.ensures.conns r.ensures.pairs desks in
    let left = c.worker_goes-gone.ensures.crew r.new.names es ws whole in
    let crew = c.worker_waits.ensures.crew r.new.names c.worker_goes-gone.new.busy_first c.worker_goes-gone.new.busy_last c.worker_goes-gone.new.busy_count es (without_conn c.args.conn ws) left
    (subst (λ (v : Worker). NoneOf v.waiter.worker (without_conn c.args.conn ws)) (sym c.waiting_worker.ensures) (none_without c.args.conn ws c.self.invariant.2.serving.distinct))
    (subst (λ (v : Worker). key_of r.new.names v.waiter.service ≡ Some v.desk) (sym c.waiting_worker.ensures) c.in_ok-desk.ensures.named) (ap (λ (v : Worker). v.busy) c.waiting_worker.ensures) in
    let later = without_conn c.args.conn ws ++ record { key = c.worker_waits.result; value = c.waiting_worker.result } ∷ [] in
    let fewer = c.worker_goes-gone.ensures.fewer in
    let waiting = fewer.0 in
    let busy = fewer.1 in
    let more = c.worker_waits.ensures.count in
    let place : c.self.inside.waiting_count + c.self.inside.busy_count + 1 < 2 ^ 64 = c.has_place.ensures c.if-not-has_place.false in (
      es,
      later,
      record {
        asking = c.self.invariant.2.asking;
        serving = crew.serving;
        desks = c.shut_after.ensures.desks es later crew.distinct crew.serving.distinct crew.desks;
        peopled =
            c.shut_after.ensures.peopled es later crew.desks
            (worker_people (option_map (λ (w : Worker). w.desk) c.worker_goes-gone.result) c.worker_waits.result c.in_ok-desk.desk c.waiting_worker.result c.self.inside.names r.new.names es ws (without_conn c.args.conn ws) (ap (λ (w : Worker). w.desk) c.waiting_worker.ensures)
            c.in_ok-desk.ensures.opened (λ d hidden. c.worker_goes-gone.ensures.others es ws d whole.serving hidden) c.self.invariant.2.peopled);
        ready = crew.ready;
        asked = c.self.invariant.2.asked;
        waiting = crew.waiting;
        busy = crew.busy;
        rise = c.self.invariant.2.rise;
        below = c.self.invariant.2.below;
        number = c.self.invariant.2.number;
        weight = c.self.invariant.2.weight;
        fits = omega arith;
      },
    )

pub returns-clause-ok : goal.returns-clause-ok
unfolding invariant_of-self-2
returns-clause-ok g c =
    ap (λ (v : HallValue). v.state) (seen_is _ _ _ (invariant_of-self-2 g c).2)
    ∙ waits_state c.self.inside.limits c.self.inside.next c.args.conn c.worker_waits.result c.in_ok-desk.desk c.args.name.now c.waiting_worker.result c.self.invariant.0 c.self.invariant.1 c.args.self.now c.waiting_worker.ensures
    (value_is c.self.inside c.self.invariant.0 c.self.invariant.1 c.args.self.now c.self.invariant.2 c.self.view_is)
