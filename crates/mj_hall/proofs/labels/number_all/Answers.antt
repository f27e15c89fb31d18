use Rattle.std.proofs.Common.{◌≡◌, ◌+◌, ◌<◌, ◌++◌, ◌∷◌, ◌∙◌, ℕ, length, subst, sym, arith}
use Rattle.mj_hall.specs.Labels.{numbered}
use Rattle.mj_hall.proofs.LabelLemmas.{Counted, counted_step, next_of}
use Rattle.mj_hall.proofs.labels.number_all.Goals as goal

less : (label count n : ℕ) → label < count → count ≡ n → label < n
less label count n e f = omega arith

pub number_one-requires : goal.number_one-requires
number_one-requires g c =
    let names = c.requires.stands.0 in
    let es = c.requires.stands.1 in
    let ws = c.requires.stands.2 in
    let ends = c.requires.stands.4 in
    let n = next_of c.loop-label.requests c.loop-label.pairs.pairs c.args.desks.now names es ws c.loop-label.key c.loop-label.label (c.loop-label.invariant.counted names es ws c.requires.stands.3 ends) (less c.loop-label.label c.args.count (length es) c.loop-label-test.true ends.len) in
    record { stands = (names, numbered 0 n.before ++ n.seat ∷ n.rest, ws, n.seat.value, n.marked, n.at) }

pub loop-label-preserved : goal.loop-label-preserved
loop-label-preserved g c =
    let below = c.loop-label-test.true in
    record {
      counted =
          λ names es ws marked ends.
          let n = next_of c.loop-label.requests c.loop-label.pairs.pairs c.args.desks.now names es ws c.loop-label.key c.loop-label.label (c.loop-label.invariant.counted names es ws marked ends) (less c.loop-label.label c.args.count (length es) c.loop-label-test.true ends.len) in
          let list = numbered 0 n.before ++ n.seat ∷ n.rest in
          subst (λ (k : ℕ). Counted c.number_one.new.requests c.number_one.new.pairs.pairs c.args.desks.now names es ws k (c.loop-label.label + 1)) (sym c.unwrap_or-key.ensures)
          (counted_step c.loop-label.requests c.number_one.new.requests c.loop-label.pairs.pairs c.number_one.new.pairs.pairs c.args.desks.now names es ws c.loop-label.key c.loop-label.label c.number_one.result n
          (c.number_one.ensures.next list n.seat.value n.marked.rows n.at) (c.number_one.ensures.marked names list ws n.seat.value n.marked n.at));
      within = omega arith;
      count = c.number_one.ensures.count ∙ c.loop-label.invariant.count;
    }
