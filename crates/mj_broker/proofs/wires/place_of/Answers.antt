use Rattle.std.proofs.Common.{ℕ, Option, sym, subst}
use Rattle.mj_broker.specs.Wires.{IsLinkAt}
use Rattle.mj_broker.proofs.WireLemmas.{link-place}
use Rattle.mj_broker.proofs.wires.place_of.Goals as goal

pub returns : goal.returns
returns c = subst (λ (o : Option ℕ). IsLinkAt c.args.number c.args.links.now o) (sym c.first_place.ensures) (link-place c.args.number c.args.links.now)
