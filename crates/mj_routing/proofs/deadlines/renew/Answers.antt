use Rattle.std.proofs.Common.{sym, ◌∙◌, ◌+◌}
use Rattle.mj_machine.specs.Connections.{connection_of}
use Rattle.mj_routing.specs.Holding.{held_in}
use Rattle.mj_routing.proofs.DeadlineLemmas.{forgotten, marked, renewed, unmarked}
use Rattle.mj_routing.proofs.deadlines.renew.Goals as goal

pub returns-in-None : goal.returns-in-None
returns-in-None c = λ before held_before stands same.
    forgotten c.args.limits.now before c.args.connections.now held_before (held_in c.args.held.now) c.args.leases.now.leases c.remove.new.self.leases c.args.number c.remove.ensures.leases
    (unmarked c.args.limits.now (held_in c.args.held.now) c.args.number (connection_of c.args.number c.args.connections.now) (sym c.mark_of.ensures ∙ c.in-None.is)) stands same

pub returns-in-Some : goal.returns-in-Some
returns-in-Some c = λ before held_before stands same.
    renewed c.args.limits.now before c.args.connections.now held_before (held_in c.args.held.now) c.args.leases.now.leases c.put.new.self.leases c.args.number (c.in-Some.mark + c.lease_of.result)
    (rw (sym c.saturating_add.ensures) c.put.ensures.leases)
    (rw c.lease_of.ensures (marked c.args.limits.now (held_in c.args.held.now) c.args.number (connection_of c.args.number c.args.connections.now) c.in-Some.mark (sym c.mark_of.ensures ∙ c.in-Some.is))) stands same
