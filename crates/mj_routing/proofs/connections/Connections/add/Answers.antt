use Rattle.std.proofs.Common.{◌≡◌, ◌++◌, ◌∷◌, [], sym, subst, ap, ◌∙◌, rules}
use Rattle.mj_machine.specs.Connections.{number_on}
use Rattle.mj_routing.specs.Lanes.{AreBelow, fresh}
use Rattle.mj_routing.proofs.LaneLemmas.{indexed-added}
use Rattle.mj_routing.proofs.connections.Connections.add.Goals as goal

pub invariant_of-self-2 : goal.invariant_of-self-2
invariant_of-self-2 c =
    let is : c.push.new.self.items ≡ c.self.inside.list.items ++ fresh c.args.lane c.args.number ∷ [] = search rules in
    indexed-added c.self.inside.list.items c.self.inside.lanes c.self.invariant (fresh c.args.lane c.args.number) c.push.new.self.items c.insert.new.self is
    (subst (AreBelow c.args.number) (sym c.self.view_is) c.requires.above) (ap (number_on c.args.lane) c.self.view_is ∙ c.requires.free) c.in_ok-insert.ensures.updates
