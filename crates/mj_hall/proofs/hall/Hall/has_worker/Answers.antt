use Rattle.std.proofs.Common.{◌≡◌, ◌∙◌, sym, ap, Some, None}
use Rattle.mj_counted.specs.Names.{key_of}
use Rattle.mj_queue.specs.Settling.{is_served}
use Rattle.mj_hall.specs.HallValue.{HallValue}
use Rattle.mj_hall.proofs.HallLemmas.{value_is}
use Rattle.mj_hall.proofs.HasLemmas.{is_served_at, is_unserved}
use Rattle.mj_hall.proofs.hall.Hall.has_worker.Goals as goal

pub returns-in-Some-clause-value : goal.returns-in-Some-clause-value
returns-in-Some-clause-value g c =
    let named : key_of c.self.inside.names c.args.name.now ≡ Some c.in-Some.desk = sym c.in-Some.ensures.value in
    c.is_staffed.ensures.value c.self.invariant.0 c.self.invariant.1 (c.self.invariant.2.desks.each c.args.name.now c.in-Some.desk named)
    ∙ sym (is_served_at c.self.inside c.self.invariant.0 c.self.invariant.1 c.self.invariant.2 c.args.name.now c.in-Some.desk named)
    ∙ ap (λ (v : HallValue). is_served c.args.name.now v.state.waiting v.state.busy) (value_is c.self.inside c.self.invariant.0 c.self.invariant.1 c.args.self.now c.self.invariant.2 c.self.view_is)

pub returns-in-None-clause-value : goal.returns-in-None-clause-value
returns-in-None-clause-value g c =
    let none : key_of c.self.inside.names c.args.name.now ≡ None = sym c.in-None.ensures.value in
    sym (is_unserved c.self.inside c.self.invariant.0 c.self.invariant.1 c.self.invariant.2 c.args.name.now none)
    ∙ ap (λ (v : HallValue). is_served c.args.name.now v.state.waiting v.state.busy) (value_is c.self.inside c.self.invariant.0 c.self.invariant.1 c.args.self.now c.self.invariant.2 c.self.view_is)
