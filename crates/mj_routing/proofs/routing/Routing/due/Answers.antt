use Rattle.std.proofs.Common.{ap, List, ℕ, ◌++◌, ◌∙◌, vec_len, vec_capacity}
use Rattle.std.proofs.lemmas.Result.{on_ok_weaker}
use Rattle.mj_lease.specs.LeaseMap.{due_of}
use Rattle.mj_machine.specs.TickStep.{due_numbers}
use Rattle.mj_routing.specs.Holding.{held_in}
use Rattle.mj_routing.proofs.DueLemmas.{due-seen, room-for-none}
use Rattle.mj_routing.proofs.routing.Routing.due.Goals as goal

pub returns-clause-ok : goal.returns-clause-ok
returns-clause-ok c =
    let is = due-seen c.self.inside.limits c.self.inside.moment c.self.inside.next c.self.inside.connections c.self.inside.hall (held_in c.self.inside.held) c.self.inside.leases.leases c.args.self.now c.self.invariant c.self.view_is in
    on_ok_weaker c.due.result (λ e. e ∙ ap (λ (ns : List ℕ). c.args.due.now.items ++ ns) is) c.due.ensures.ok

pub returns-clause-none : goal.returns-clause-none
returns-clause-none c = λ none room.
    let is = due-seen c.self.inside.limits c.self.inside.moment c.self.inside.next c.self.inside.connections c.self.inside.hall (held_in c.self.inside.held) c.self.inside.leases.leases c.args.self.now c.self.invariant c.self.view_is in
    c.due.ensures.due_room (room-for-none (due_of c.self.inside.moment c.self.inside.leases.leases) (due_numbers c.args.self.now) (vec_len c.args.due.now) (vec_capacity c.args.due.now) is none room)
