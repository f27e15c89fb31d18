use Rattle.std.proofs.Common.{sym, ap, arith, true, false}
use Rattle.mj_counted.specs.Pairs.{Pairs}
use Rattle.std.proofs.Common.{◌+◌, ◌≤◌, cond, subst, Bool}
use Rattle.mj_counted.proofs.PairLemmas.{has-stays, remove_changed, remove_rising, seen_there, seen_within}
use Rattle.mj_counted.proofs.order.Order.remove.Goals as goal

pub returns-then-not-is_at-clause-value : goal.returns-then-not-is_at-clause-value
returns-then-not-is_at-clause-value g c =
    sym (seen_there c.args.pair c.place_of-at.result c.deref.result.now c.self.inside.pairs.items c.deref-2.result.now c.args.self.now.pairs c.is_at.result false c.deref.ensures.value c.deref-2.ensures.value (ap (λ (o : Pairs). o.pairs) c.self.view_is)
    c.self.invariant c.place_of-at.ensures.value c.is_at.ensures c.if-not-is_at.true)

pub returns-then-not-is_at-clause-changed : goal.returns-then-not-is_at-clause-changed
returns-then-not-is_at-clause-changed g c = λ p. has-stays c.args.pair p c.args.self.now.pairs (sym (returns-then-not-is_at-clause-value g c))

pub returns-then-not-is_at-clause-room : goal.returns-then-not-is_at-clause-room
returns-then-not-is_at-clause-room g c =
    subst (λ (b : Bool). c.args.self.now.spare + cond b 1 0 ≤ c.args.self.now.spare) (returns-then-not-is_at-clause-value g c) (omega arith)

pub remove-requires : goal.remove-requires
remove-requires g c =
    let within = seen_within c.args.pair c.place_of-at.result c.self.inside.pairs.items c.deref-2.result.now c.is_at.result c.deref-2.ensures.value c.is_at.ensures c.if-not-is_at.false in
    omega arith

pub invariant_of-self : goal.invariant_of-self
invariant_of-self g c =
    remove_rising c.args.pair c.place_of-at.result c.deref.result.now c.self.inside.pairs.items c.remove.new.self.items c.deref.ensures.value c.self.invariant c.place_of-at.ensures.value c.remove.ensures.items

pub returns-clause-value : goal.returns-clause-value
returns-clause-value g c =
    sym (seen_there c.args.pair c.place_of-at.result c.deref.result.now c.self.inside.pairs.items c.deref-2.result.now c.args.self.now.pairs c.is_at.result true c.deref.ensures.value c.deref-2.ensures.value (ap (λ (o : Pairs). o.pairs) c.self.view_is)
    c.self.invariant c.place_of-at.ensures.value c.is_at.ensures c.if-not-is_at.false)

pub returns-clause-changed : goal.returns-clause-changed
returns-clause-changed g c =
    remove_changed c.args.pair c.place_of-at.result c.deref.result.now c.self.inside.pairs.items c.remove.new.self.items c.args.self.now.pairs c.deref.ensures.value (ap (λ (o : Pairs). o.pairs) c.self.view_is) c.self.invariant c.place_of-at.ensures.value
    (sym (returns-clause-value g c)) c.remove.ensures.items
