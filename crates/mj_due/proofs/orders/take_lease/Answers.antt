use Rattle.std.proofs.Common.{◌≡◌, ◌+◌, ◌≤◌, ◌∙◌, Bool, Some, None, is_some, cond, sym, ap, subst}
use Rattle.mj_due.specs.Leases.{deadline_of}
use Rattle.mj_due.proofs.OrderLemmas.{changed_out, deadline_is, decided, has_deadline, leases_out, none_changed}
use Rattle.mj_due.proofs.orders.take_lease.Goals as goal

pub returns-in_default-clause-value : goal.returns-in_default-clause-value
returns-in_default-clause-value g c = sym (ap is_some (decided c.args.conn c.args.by_conn.now.pairs None c.in_default.ensures.none))

pub returns-in_default-clause-changed : goal.returns-in_default-clause-changed
returns-in_default-clause-changed g c = none_changed c.args.conn c.args.by_conn.now.pairs (decided c.args.conn c.args.by_conn.now.pairs None c.in_default.ensures.none)

pub returns-clause-value : goal.returns-clause-value
returns-clause-value g c =
    let was : deadline_of c.args.conn c.args.by_conn.now.pairs ≡ Some c.in-Some.deadline = deadline_is c.in-Some.deadline (deadline_of c.args.conn c.args.by_conn.now.pairs) (sym (c.requires.leases.conns c.args.conn c.in-Some.deadline) ∙ c.in-Some.ensures.some) in
    sym (ap is_some was)

pub returns-clause-leases : goal.returns-clause-leases
returns-clause-leases g c =
    let was : deadline_of c.args.conn c.args.by_conn.now.pairs ≡ Some c.in-Some.deadline = deadline_is c.in-Some.deadline (deadline_of c.args.conn c.args.by_conn.now.pairs) (sym (c.requires.leases.conns c.args.conn c.in-Some.deadline) ∙ c.in-Some.ensures.some) in
    leases_out c.args.conn c.in-Some.deadline c.args.by_conn.now.pairs c.remove.new.self.pairs c.args.by_deadline.now.pairs c.remove-2.new.self.pairs c.requires.leases was c.remove.ensures.changed c.remove-2.ensures.changed

pub returns-clause-changed : goal.returns-clause-changed
returns-clause-changed g c =
    let was : deadline_of c.args.conn c.args.by_conn.now.pairs ≡ Some c.in-Some.deadline = deadline_is c.in-Some.deadline (deadline_of c.args.conn c.args.by_conn.now.pairs) (sym (c.requires.leases.conns c.args.conn c.in-Some.deadline) ∙ c.in-Some.ensures.some) in
    changed_out c.args.conn c.in-Some.deadline c.args.by_conn.now.pairs c.remove.new.self.pairs c.args.by_deadline.now.pairs c.remove-2.new.self.pairs c.requires.leases was c.remove.ensures.changed

pub returns-clause-deadline_room : goal.returns-clause-deadline_room
returns-clause-deadline_room g c =
    let was : deadline_of c.args.conn c.args.by_conn.now.pairs ≡ Some c.in-Some.deadline = deadline_is c.in-Some.deadline (deadline_of c.args.conn c.args.by_conn.now.pairs) (sym (c.requires.leases.conns c.args.conn c.in-Some.deadline) ∙ c.in-Some.ensures.some) in
    subst (λ (b : Bool). c.args.by_deadline.now.spare + cond b 1 0 ≤ c.remove-2.new.self.spare) (has_deadline c.args.conn c.in-Some.deadline c.args.by_conn.now.pairs c.args.by_deadline.now.pairs c.requires.leases was) c.remove-2.ensures.room
