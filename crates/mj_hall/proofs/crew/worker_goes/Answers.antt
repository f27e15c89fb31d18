use Rattle.std.proofs.Common.{◌≡◌, ℕ, Bool, Option, Some, sym, subst, arith, rules, ap, ◌==◌, false, ◌∙◌}
use Rattle.std.specs.Option.{IsSome}
use Rattle.mj_counted.specs.Names.{key_of}
use Rattle.mj_chain.specs.Seats.{seat_key, take_out}
use Rattle.mj_hall.specs.declared.kept.Worker.{Worker}
use Rattle.mj_hall.specs.Desks.{desk_of}
use Rattle.mj_hall.proofs.PeopleLemmas.{desk_worker_out}
use Rattle.mj_hall.proofs.CrewLemmas.{out_is_without, conn_found, crew_same, going_at, hidden_goes, same_some, was_pair_worker, without_none}
use Rattle.mj_hall.proofs.crew.worker_goes.Goals as goal

pub returns-in_err-key-clause-crew : goal.returns-in_err-key-clause-crew
returns-in_err-key-clause-crew g c = λ names es ws crew. crew_same (sym (without_none c.args.number ws crew.serving.distinct (c.in_err-key.ensures.none c.args.workers.now ws crew.serving))) crew

pub unwrap-desk-requires : goal.unwrap-desk-requires
unwrap-desk-requires g c =
    let crew = c.requires.stands.3 in
    let one = conn_found c.args.number c.in_ok-key.key c.requires.stands.2 (c.in_ok-key.ensures.some c.args.workers.now c.requires.stands.2 crew.serving) in
    subst (λ (o : Option (ℕ × Bool)). IsSome o) (sym (c.post_of.ensures.value c.args.conns.now.pairs c.requires.stands.2 one.0 crew.serving one.1)) (search rules)

pub kind_leaves-requires : goal.kind_leaves-requires
kind_leaves-requires g c =
    let crew = c.requires.stands.3 in
    let going = going_at c.args.workers.now c.args.conns.now.pairs c.args.desks.now c.requires.stands.0 c.requires.stands.1 c.requires.stands.2 c.args.number c.in_ok-key.key c.post_of.result c.unwrap-desk.result crew.serving crew.desks (c.in_ok-key.ensures.some c.args.workers.now c.requires.stands.2 crew.serving) c.post_of.ensures.value c.unwrap-desk.ensures in
    record { stands = (c.requires.stands.2, going.worker, crew.serving, going.at, going.kind, crew.waiting, crew.busy) }

pub unwrap-worker-requires : goal.unwrap-worker-requires
unwrap-worker-requires g c =
    let crew = c.requires.stands.3 in
    let one = conn_found c.args.number c.in_ok-key.key c.requires.stands.2 (c.in_ok-key.ensures.some c.args.workers.now c.requires.stands.2 crew.serving) in
    subst (λ (o : Option Worker). IsSome o) (sym (c.kind_leaves.ensures.value c.requires.stands.2 one.0 crew.serving one.1)) (search rules)

pub mark_again-requires : goal.mark_again-requires
mark_again-requires g c =
    let crew = c.requires.stands.3 in
    let names = c.requires.stands.0 in
    let es = c.requires.stands.1 in
    let ws = c.requires.stands.2 in
    let key = c.in_ok-key.key in
    let desk = c.unwrap-desk.result.0 in
    let going = going_at c.args.workers.now c.args.conns.now.pairs c.args.desks.now c.requires.stands.0 c.requires.stands.1 c.requires.stands.2 c.args.number c.in_ok-key.key c.post_of.result c.unwrap-desk.result crew.serving crew.desks (c.in_ok-key.ensures.some c.args.workers.now c.requires.stands.2 crew.serving) c.post_of.ensures.value c.unwrap-desk.ensures in
    let hidden = c.unmark.ensures.ready es ws crew.distinct crew.rows going.here crew.ready in
    let desks = c.kind_leaves.ensures.desks names es ws going.worker crew.serving going.at crew.desks in
    record {
      stands = (
        es,
        take_out seat_key key ws,
        crew.distinct,
        crew.rows,
        desks.each going.worker.waiter.service desk going.named,
        hidden_goes c.args.number key desk c.unwrap-desk.result.1 c.args.desks.now names c.unmark.new.pairs.pairs es ws crew.serving.distinct going hidden,
        λ e. c.unmark.ensures.back es ws crew.distinct crew.rows going.here crew.ready (was_pair_worker key desk es ws going.worker e),
      );
    }

pub returns-clause-crew : goal.returns-clause-crew
returns-clause-crew g c =
    λ names es ws crew.
    let key = c.in_ok-key.key in
    let desk = c.unwrap-desk.result.0 in
    let going = going_at c.args.workers.now c.args.conns.now.pairs c.args.desks.now names es ws c.args.number c.in_ok-key.key c.post_of.result c.unwrap-desk.result crew.serving crew.desks (c.in_ok-key.ensures.some c.args.workers.now ws crew.serving) c.post_of.ensures.value c.unwrap-desk.ensures in
    let hidden = c.unmark.ensures.ready es ws crew.distinct crew.rows going.here crew.ready in
    let apart = hidden_goes c.args.number key desk c.unwrap-desk.result.1 c.args.desks.now names c.unmark.new.pairs.pairs es ws crew.serving.distinct going hidden in
    let desks = c.kind_leaves.ensures.desks names es ws going.worker crew.serving going.at crew.desks in
    crew_same going.whole (record {
      distinct = crew.distinct;
      rows = crew.rows;
      serving = c.kind_leaves.ensures.serving ws going.worker crew.serving going.at;
      desks = desks;
      ready = c.mark_again.ensures.ready es (take_out seat_key key ws) crew.distinct crew.rows (desks.each going.worker.waiter.service desk going.named) apart;
      waiting = c.kind_leaves.ensures.waiting ws going.worker crew.serving going.at going.kind crew.waiting;
      busy = c.kind_leaves.ensures.busy ws going.worker crew.serving going.at going.kind crew.busy;
    })

pub returns-clause-named : goal.returns-clause-named
returns-clause-named g c =
    λ names es ws serving desks.
    let one = conn_found c.args.number c.in_ok-key.key ws (c.in_ok-key.ensures.some c.args.workers.now ws serving) in
    let same : c.unwrap-worker.result ≡ one.0 = same_some c.kind_leaves.result c.unwrap-worker.result one.0 c.unwrap-worker.ensures (c.kind_leaves.ensures.value ws one.0 serving one.1) in
    subst (λ (w : Worker). key_of names w.waiter.service ≡ Some w.desk) (sym same) (desks.served c.in_ok-key.key one.0 one.1)

pub returns-clause-conns_room : goal.returns-clause-conns_room
returns-clause-conns_room g c =
    let crew = c.requires.stands.3 in
    let one = conn_found c.args.number c.in_ok-key.key c.requires.stands.2 (c.in_ok-key.ensures.some c.args.workers.now c.requires.stands.2 crew.serving) in
    let room = c.kind_leaves.ensures.conns_room c.requires.stands.2 one.0 crew.serving one.1 in
    omega arith

pub returns-in_err-key-clause-others : goal.returns-in_err-key-clause-others
returns-in_err-key-clause-others g c = λ es ws d serving hidden. ap (desk_of d es) (without_none c.args.number ws serving.distinct (c.in_err-key.ensures.none c.args.workers.now ws serving))

pub returns-clause-others : goal.returns-clause-others
returns-clause-others g c =
    λ es ws d serving hidden.
    let one = conn_found c.args.number c.in_ok-key.key ws (c.in_ok-key.ensures.some c.args.workers.now ws serving) in
    let same : c.unwrap-worker.result ≡ one.0 = same_some c.kind_leaves.result c.unwrap-worker.result one.0 c.unwrap-worker.ensures (c.kind_leaves.ensures.value ws one.0 serving one.1) in
    ap (desk_of d es) (sym (out_is_without c.args.workers.now c.args.conns.now.pairs ws c.args.number c.in_ok-key.key one.0 serving one.1 one.2))
    ∙ desk_worker_out c.in_ok-key.key d one.0 es ws serving.distinct one.1 (subst (λ (w : Worker). (w.desk == d) ≡ false) same hidden)
