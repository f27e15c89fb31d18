use Rattle.std.proofs.Common.{◌≡◌, ◌∙◌, ◌==◌, ℕ, Option, Some, false, refl, sym, ap, subst, rules}
use Rattle.std.specs.Option.{IsSome}
use Rattle.mj_chain.specs.Seats.{next_in, seat_key}
use Rattle.mj_hall.specs.Asking.{of_desk}
use Rattle.mj_hall.specs.Labels.{relabelled}
use Rattle.mj_hall.specs.Serving.{workers_at}
use Rattle.mj_hall.proofs.LabelLemmas.{bare-relabelled, desks_bare, hidden_labels, rows_relabelled, same-distinct, same-filter, same-none}
use Rattle.mj_hall.proofs.TakenLemmas.{same_some}
use Rattle.mj_hall.proofs.labels.number_one.Goals as goal

pub unwrap-desk-requires : goal.unwrap-desk-requires
unwrap-desk-requires g c =
    subst (λ (o : Option (ℕ × Option ℕ)). IsSome o) (sym (c.stop_at.ensures.value c.requires.stands.1 c.requires.stands.3 c.requires.stands.4.rows c.requires.stands.5)) (search rules)

pub mark_again-requires : goal.mark_again-requires
mark_again-requires g c =
    let names = c.requires.stands.0 in
    let es = c.requires.stands.1 in
    let ws = c.requires.stands.2 in
    let x = c.requires.stands.3 in
    let marked = c.requires.stands.4 in
    let at = c.requires.stands.5 in
    let desk = c.unwrap-desk.result.0 in
    let later = relabelled c.args.key c.args.label es in
    let bare = sym (bare-relabelled c.args.key c.args.label es) in
    let stop : c.unwrap-desk.result ≡ (x.desk, next_in seat_key c.args.key es) = same_some c.stop_at.result c.unwrap-desk.result (x.desk, next_in seat_key c.args.key es) c.unwrap-desk.ensures (c.stop_at.ensures.value es x marked.rows at) in
    let place : x.desk ≡ desk = sym (ap (λ (p : ℕ × Option ℕ). p.0) stop) in
    let named = marked.desks.asked c.args.key x at ∙ ap (λ (n : ℕ). Some n) place in
    let here = marked.desks.each x.request.service desk named in
    let hidden = c.unmark.ensures.ready es ws marked.distinct marked.rows here marked.ready in
    let desks = desks_bare c.args.desks.now names es later ws bare marked.desks in
    let part = same-none (of_desk desk es) (of_desk desk later) (same-filter es later bare (λ q. q.desk == desk) (λ l q. refl)) desk (workers_at false desk ws) in
    record {
      stands = (
        later,
        ws,
        sym (same-distinct es later bare) ∙ marked.distinct,
        rows_relabelled c.args.requests.now c.set_label.new.requests c.args.key c.args.label es marked.rows c.set_label.ensures.changed,
        desks.each x.request.service desk named,
        hidden_labels c.args.key c.args.label desk x c.unmark.new.pairs.pairs es ws marked.distinct at place hidden,
        λ e. c.unmark.ensures.back es ws marked.distinct marked.rows here marked.ready (part ∙ e),
      );
    }

pub returns-clause-next : goal.returns-clause-next
returns-clause-next g c =
    λ es x rows at.
    ap (λ (p : ℕ × Option ℕ). p.1) (same_some c.stop_at.result c.unwrap-desk.result (x.desk, next_in seat_key c.args.key es) c.unwrap-desk.ensures (c.stop_at.ensures.value es x rows at))

pub returns-clause-marked : goal.returns-clause-marked
returns-clause-marked g c =
    λ names es ws x marked at.
    let desk = c.unwrap-desk.result.0 in
    let later = relabelled c.args.key c.args.label es in
    let bare = sym (bare-relabelled c.args.key c.args.label es) in
    let stop : c.unwrap-desk.result ≡ (x.desk, next_in seat_key c.args.key es) = same_some c.stop_at.result c.unwrap-desk.result (x.desk, next_in seat_key c.args.key es) c.unwrap-desk.ensures (c.stop_at.ensures.value es x marked.rows at) in
    let place : x.desk ≡ desk = sym (ap (λ (p : ℕ × Option ℕ). p.0) stop) in
    let named = marked.desks.asked c.args.key x at ∙ ap (λ (n : ℕ). Some n) place in
    let here = marked.desks.each x.request.service desk named in
    let hidden = c.unmark.ensures.ready es ws marked.distinct marked.rows here marked.ready in
    let desks = desks_bare c.args.desks.now names es later ws bare marked.desks in
    let distinct = sym (same-distinct es later bare) ∙ marked.distinct in
    let rows = rows_relabelled c.args.requests.now c.set_label.new.requests c.args.key c.args.label es marked.rows c.set_label.ensures.changed in
    record {
      distinct = distinct;
      rows = rows;
      desks = desks;
      ready =
          c.mark_again.ensures.ready later ws distinct rows (desks.each x.request.service desk named)
          (hidden_labels c.args.key c.args.label desk x c.unmark.new.pairs.pairs es ws marked.distinct at place hidden);
    }
