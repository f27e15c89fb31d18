use Rattle.std.proofs.Common.{◌∙◌, ◌++◌, List, [], ℕ, ap, subst, arith}
use Rattle.mj_lease.specs.LeaseMap.{LeaseMap, due_of}
use Rattle.mj_due.specs.Leases.{due_pairs}
use Rattle.mj_due.specs.Numbers.{put_all}
use Rattle.mj_due.proofs.DueLemmas.{Many, due_is, many_due}
use Rattle.mj_due.proofs.leases.Leases.due.Goals as goal

pub returns-in_err-reserve-clause-room : goal.returns-in_err-reserve-clause-room
returns-in_err-reserve-clause-room g c = λ room.
    let many = subst (λ (m : LeaseMap). Many c.args.now c.self.inside.by_deadline.pairs m.leases) c.self.view_is (many_due c.args.now c.self.inside.by_conn.pairs c.self.inside.by_deadline.pairs c.count_due-count.ensures.rising c.self.invariant.0) in
    absurd (omega (arith, many.all, c.count_due-count.ensures.value, c.in_err-reserve.ensures.full, room))

pub returns-in_err-reserve-clause-due_room : goal.returns-in_err-reserve-clause-due_room
returns-in_err-reserve-clause-due_room g c = λ room.
    let many = subst (λ (m : LeaseMap). Many c.args.now c.self.inside.by_deadline.pairs m.leases) c.self.view_is (many_due c.args.now c.self.inside.by_conn.pairs c.self.inside.by_deadline.pairs c.count_due-count.ensures.rising c.self.invariant.0) in
    absurd (omega (arith, many.due, c.count_due-count.ensures.value, c.in_err-reserve.ensures.full, room))

pub returns-in_err-reserve-clause-cost : goal.returns-in_err-reserve-clause-cost
returns-in_err-reserve-clause-cost g c =
    let many = subst (λ (m : LeaseMap). Many c.args.now c.self.inside.by_deadline.pairs m.leases) c.self.view_is (many_due c.args.now c.self.inside.by_conn.pairs c.self.inside.by_deadline.pairs c.count_due-count.ensures.rising c.self.invariant.0) in
    omega (arith, many.due, c.count_due-count.ensures.value, c.count_due-count.ensures.cost)

pub returns-clause-ok : goal.returns-clause-ok
returns-clause-ok g c =
    c.put_due.ensures.put
    ∙ ap (λ (xs : List ℕ). xs ++ put_all [] (due_pairs c.args.now c.self.inside.by_deadline.pairs)) c.in_ok-reserve.ensures.items
    ∙ ap (λ (xs : List ℕ). c.args.out.now.items ++ xs) (due_is c.args.now c.self.inside.by_conn.pairs c.self.inside.by_deadline.pairs c.self.invariant.0 ∙ ap (λ (m : LeaseMap). due_of c.args.now m.leases) c.self.view_is)

pub returns-clause-cost : goal.returns-clause-cost
returns-clause-cost g c =
    let many = subst (λ (m : LeaseMap). Many c.args.now c.self.inside.by_deadline.pairs m.leases) c.self.view_is (many_due c.args.now c.self.inside.by_conn.pairs c.self.inside.by_deadline.pairs c.count_due-count.ensures.rising c.self.invariant.0) in
    omega (arith, many.due, c.count_due-count.ensures.value, c.count_due-count.ensures.cost, c.put_due.ensures.cost)
