use Rattle.std.proofs.Common.{◌≡◌, ◌∙◌, List, Some, ap, arith, refl}
use Rattle.mj_chain.specs.Seats.{Seat}
use Rattle.mj_counted.specs.declared.index.Index.{Index}
use Rattle.mj_counted.specs.Names.{key_of}
use Rattle.mj_hall.specs.declared.kept.Queued.{Queued}
use Rattle.mj_hall.specs.declared.kept.Worker.{Worker}
use Rattle.mj_hall.specs.Crew.{without_conn}
use Rattle.mj_hall.specs.Desks.{Desks, is_peopled}
use Rattle.mj_hall.specs.HallValue.{HallValue}
use Rattle.mj_hall.specs.Serving.{Serving}
use Rattle.mj_hall.proofs.HallLemmas.{value_is}
use Rattle.mj_hall.proofs.StandLemmas.{crew_of, gone_state, if_some}
use Rattle.mj_hall.proofs.WalkLemmas.{seen_is}
use Rattle.mj_hall.proofs.hall.Hall.drop_worker.Goals as goal

pub worker_goes-gone-requires : goal.worker_goes-gone-requires
worker_goes-gone-requires g c =
    record { stands = (c.self.inside.names, c.self.invariant.0, c.self.invariant.1, crew_of c.self.inside c.self.invariant.0 c.self.invariant.1 c.self.invariant.2) }

pub shut_after-requires : goal.shut_after-requires
shut_after-requires g c =
    record {
      named =
          if_some c.worker_goes-gone.result
          (λ worker. (names : Index) (es : List (Seat Queued)) (ws : List (Seat Worker)) → Serving c.self.inside.workers c.self.inside.conns.pairs ws → Desks c.self.inside.desks names es ws → key_of names worker.waiter.service ≡ Some worker.desk)
          (λ worker. key_of c.self.inside.names worker.waiter.service ≡ Some worker.desk)
          (λ worker named. named c.self.inside.names c.self.invariant.0 c.self.invariant.1 c.self.invariant.2.serving c.self.invariant.2.desks) c.worker_goes-gone.ensures.named;
    }

pub invariant_of-self : goal.invariant_of-self
invariant_of-self g c =
    let stands = c.self.invariant.2 in
    let crew = c.worker_goes-gone.ensures.crew c.self.inside.names c.self.invariant.0 c.self.invariant.1 (crew_of c.self.inside c.self.invariant.0 c.self.invariant.1 c.self.invariant.2) in
    let fewer = c.worker_goes-gone.ensures.fewer in
    let waiting = fewer.0 in
    let busy = fewer.1 in
    let fits = stands.fits in (
      c.self.invariant.0,
      without_conn c.args.conn c.self.invariant.1,
      record {
        asking = stands.asking;
        serving = crew.serving;
        desks = c.shut_after.ensures.desks c.self.invariant.0 (without_conn c.args.conn c.self.invariant.1) crew.distinct crew.serving.distinct crew.desks;
        peopled =
            c.shut_after.ensures.peopled c.self.invariant.0 (without_conn c.args.conn c.self.invariant.1) crew.desks
            (λ q d e hidden. ap is_peopled (c.worker_goes-gone.ensures.others c.self.invariant.0 c.self.invariant.1 d stands.serving hidden) ∙ stands.peopled q d e refl);
        ready = crew.ready;
        asked = stands.asked;
        waiting = crew.waiting;
        busy = crew.busy;
        rise = stands.rise;
        below = stands.below;
        number = stands.number;
        weight = stands.weight;
        fits = omega arith;
      },
    )

pub returns-clause-state : goal.returns-clause-state
unfolding invariant_of-self
returns-clause-state g c =
    ap (λ (v : HallValue). v.state) (seen_is _ _ _ (invariant_of-self g c).2)
    ∙ gone_state c.self.inside.limits c.self.inside.next c.args.conn c.self.invariant.0 c.self.invariant.1 c.args.self.now (value_is c.self.inside c.self.invariant.0 c.self.invariant.1 c.args.self.now c.self.invariant.2 c.self.view_is)
