use Rattle.std.proofs.Common.{Bool, ap, refl, ◌∙◌}
use mathlib.Core.Bool.{◌&&◌}
use Rattle.mj_ledger.proofs.EventLemmas.{stands-answered}
use Rattle.mj_ledger.proofs.tables.Tables.answered.Goals as goal

pub returns : goal.returns
returns c = record {
  stands = λ es s.
      stands-answered c.args.self.now _ es c.args.who.now c.args.service.now c.args.last c.args.body.now refl
      (c.both-self.ensures ∙ ap (λ (b : Bool). c.args.self.now.owner && b) c.in_ok-owed.ensures.was)
      refl (λ q. refl) (λ q n. refl) (λ q. refl) c.in_ok-owed.ensures.less (λ q. refl) refl s;
}
