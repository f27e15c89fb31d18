use Rattle.std.proofs.Common.{ℕ, refl, sym, subst, ◌∙◌}
use Rattle.mj_copy.specs.FollowRules.{follow_opened}
use Rattle.mj_copy.specs.FollowStands.{IsTurn, following_of}
use Rattle.mj_copying.proofs.following.open.Goals as goal

pub returns-in-Ok-opened-clause-opened : goal.returns-in-Ok-opened-clause-opened
returns-in-Ok-opened-clause-opened g c = (
  c.in-Ok.found,
  refl,
  sym c.base.ensures ∙ c.if-base.false,
  c.in-Ok.ensures.opened,
  subst (λ (n : ℕ). IsTurn c.opened.new.self c.in-Ok-opened.acts.items (follow_opened n (following_of c.args.end.now))) c.count-count.ensures.spots c.in-Ok-opened.ensures.turn,
)
