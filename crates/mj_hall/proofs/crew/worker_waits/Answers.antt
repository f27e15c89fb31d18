use Rattle.std.proofs.Common.{◌≡◌, Bool, List, [], ◌∷◌, ◌++◌, not, sym, subst}
use Rattle.mj_chain.specs.Seats.{Seat}
use Rattle.mj_hall.specs.declared.kept.Worker.{Worker}
use Rattle.mj_hall.specs.Ends.{EndsAre}
use Rattle.mj_hall.specs.Serving.{workers_of}
use Rattle.mj_hall.proofs.CrewLemmas.{hidden_comes}
use Rattle.mj_hall.proofs.crew.worker_waits.Goals as goal

pub worker_comes-key-requires-clause-stands : goal.worker_comes-key-requires-clause-stands
worker_comes-key-requires-clause-stands g c =
    let crew = c.requires.stands.6 in
    let ws = c.requires.stands.5 in (
      c.requires.stands.0,
      c.requires.stands.4,
      ws,
      crew.serving,
      c.requires.stands.7,
      crew.desks,
      subst (λ (b : Bool). EndsAre c.args.first.now c.args.last.now c.args.count.now (workers_of b ws)) (sym c.requires.stands.9) crew.waiting,
      c.requires.stands.8,
    )

pub mark-requires-clause-ready : goal.mark-requires-clause-ready
mark-requires-clause-ready g c =
    let crew = c.requires.stands.6 in
    let es = c.requires.stands.4 in
    let ws = c.requires.stands.5 in
    let here = crew.desks.each c.args.value.waiter.service c.args.value.desk c.requires.stands.8 in (
      es,
      ws ++ record { key = c.worker_comes-key.result; value = c.args.value } ∷ [],
      hidden_comes c.worker_comes-key.result c.args.value c.unmark.new.pairs.pairs es ws (c.unmark.ensures.ready es ws crew.distinct crew.rows here crew.ready),
    )

pub returns-clause-crew : goal.returns-clause-crew
returns-clause-crew g c =
    λ names busy_first busy_last busy_count es ws crew none named idle.
    let later = ws ++ record { key = c.worker_comes-key.result; value = c.args.value } ∷ [] in
    let here = crew.desks.each c.args.value.waiter.service c.args.value.desk named in
    let hidden = hidden_comes c.worker_comes-key.result c.args.value c.unmark.new.pairs.pairs es ws (c.unmark.ensures.ready es ws crew.distinct crew.rows here crew.ready) in
    let ends = subst (λ (b : Bool). EndsAre c.args.first.now c.args.last.now c.args.count.now (workers_of b ws)) (sym idle) crew.waiting in
    let desks = c.worker_comes-key.ensures.desks names es ws crew.serving crew.desks named in
    let same = subst (λ (b : Bool). workers_of (not b) later ≡ workers_of (not b) ws) idle (c.worker_comes-key.ensures.others ws) in
    record {
      distinct = crew.distinct;
      rows = crew.rows;
      serving = c.worker_comes-key.ensures.serving names es ws crew.serving none crew.desks ends named;
      desks = desks;
      ready = c.mark.ensures.ready es later crew.distinct crew.rows (desks.each c.args.value.waiter.service c.args.value.desk named) hidden;
      waiting = subst (λ (b : Bool). EndsAre c.worker_comes-key.new.first c.worker_comes-key.new.last c.worker_comes-key.new.count (workers_of b later)) idle (c.worker_comes-key.ensures.ends ws ends);
      busy = subst (λ (xs : List (Seat Worker)). EndsAre busy_first busy_last busy_count xs) (sym same) crew.busy;
    }
