use Rattle.std.proofs.lemmas.Result.{IfOk-at_ok}
use Rattle.mj_due.proofs.OrderLemmas.{changed_in, free_conn, free_deadline, leases_in}
use Rattle.mj_due.proofs.orders.add_lease.Goals as goal

pub insert-requires : goal.insert-requires
insert-requires g c = free_conn c.args.conn c.args.deadline c.args.by_conn.now.pairs c.args.by_conn.now.pairs c.args.by_deadline.now.pairs c.args.by_deadline.now.pairs c.requires.leases c.requires.none

pub insert-requires-2 : goal.insert-requires-2
insert-requires-2 g c = free_deadline c.args.conn c.args.deadline c.args.by_conn.now.pairs c.args.by_conn.now.pairs c.args.by_deadline.now.pairs c.args.by_deadline.now.pairs c.requires.leases c.requires.none

pub returns-clause-leases : goal.returns-clause-leases
returns-clause-leases g c =
    leases_in c.args.conn c.args.deadline c.args.by_conn.now.pairs c.insert.new.self.pairs c.args.by_deadline.now.pairs c.insert-2.new.self.pairs c.requires.leases c.requires.none (IfOk-at_ok _ c.unwrap.ensures c.insert.ensures.changed)
    (IfOk-at_ok _ c.unwrap-2.ensures c.insert-2.ensures.changed)

pub returns-clause-changed : goal.returns-clause-changed
returns-clause-changed g c =
    changed_in c.args.conn c.args.deadline c.args.by_conn.now.pairs c.insert.new.self.pairs c.args.by_deadline.now.pairs c.insert-2.new.self.pairs c.requires.leases c.requires.none (IfOk-at_ok _ c.unwrap.ensures c.insert.ensures.changed)
