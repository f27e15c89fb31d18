use Rattle.std.proofs.Common.{◌≡◌, ◌++◌, ◌∷◌, [], Bool, true, false, not, cond, List, ℕ, Some, None, ap, refl, sym, ◌∙◌}
use mathlib.Core.Bool.{◌&&◌}
use Rattle.std.specs.List.{list_any}
use Rattle.std.specs.Str.{bytes_eq}
use Rattle.mj_ledger.specs.Hands.{hand}
use Rattle.mj_ledger.specs.Standing.{is_known}
use Rattle.mj_ledger.specs.declared.hand.Hand.{Hand}
use Rattle.mj_ledger.proofs.Lists.{any-push}
use Rattle.mj_ledger.proofs.StandLemmas.{stands-opened}
use Rattle.mj_ledger.proofs.tables.Tables.opened.Goals as goal

unknown : (k : Bool) (h : Hand) → None ≡ cond k (Some h) None → k ≡ false
unknown true h is = cc
unknown false h is = refl

pub returns : goal.returns
returns c = record {
  stands = λ es s.
      stands-opened c.args.self.now _ es c.args.who.now refl
      (c.both-self.ensures ∙ ap (λ (b : Bool). c.args.self.now.owner && not b) c.contains.ensures)
      refl c.in_ok-meet.ensures.hands c.in_ok-meet.ensures.queues
      (λ q. ap (list_any (bytes_eq q)) (c.in_ok-push.ensures.items ∙ ap (λ (x : List ℕ). c.args.self.now.present.items ++ x ∷ []) c.in_ok-copy_of.ensures) ∙ any-push (bytes_eq q) c.args.self.now.present.items c.args.who.now)
      (λ q n l b. refl) (λ q. refl) refl
      (unknown (is_known c.args.who.now es) (hand c.args.who.now es) (sym c.requires.fresh ∙ s.hands c.args.who.now)) s;
}
