use Rattle.mj_routing.proofs.DeadlineLemmas.{forgotten}
use Rattle.mj_routing.proofs.deadlines.forget.Goals as goal

pub returns : goal.returns
returns c = λ limits before now held_before held_now stands same none.
    forgotten limits before now held_before held_now c.args.leases.now.leases c.remove.new.self.leases c.args.number c.remove.ensures.leases none stands same
