use Rattle.std.proofs.Common.{◌≡◌, true, is_some, sym, subst, ◌∙◌}
use Rattle.mj_machine.specs.Connections.{connection_of}
use Rattle.mj_broker.specs.declared.wires.Link.{Link}
use Rattle.mj_broker.proofs.WireLemmas.{kept-more, kept-whole}
use Rattle.mj_broker.proofs.wires.are_there.Goals as goal

pub loop-i-preserved : goal.loop-i-preserved
loop-i-preserved c =
    kept-more c.args.routing.now.connections c.args.links.now c.loop-i.i c.index-links-i.result c.loop-i-test.true c.index-links-i.is
    (subst (λ (x : Link). is_some (connection_of x.number c.args.routing.now.connections) ≡ true) (sym c.index-links-i.is) (sym c.has_near.ensures ∙ c.if-not-has_near.false))
    c.loop-i.invariant

pub returns : goal.returns
returns c = λ _. kept-whole c.args.routing.now.connections c.args.links.now c.loop-i.i c.loop-i-test.false c.loop-i.invariant
