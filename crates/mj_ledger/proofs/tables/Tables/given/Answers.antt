use Rattle.std.proofs.Common.{◌≡◌, Bool, cond, List, ℕ, Option, ap, refl, subst, ◌∙◌}
use mathlib.Core.Bool.{◌&&◌}
use Rattle.std.specs.Prelude.{option_map}
use Rattle.std.specs.Str.{bytes_eq}
use Rattle.mj_ledger.specs.Found.{hand_at}
use Rattle.mj_ledger.specs.Hands.{when_given}
use Rattle.mj_ledger.specs.declared.hand.Hand.{Hand}
use Rattle.mj_ledger.proofs.EventLemmas.{stands-given}
use Rattle.mj_ledger.proofs.tables.Tables.given.Goals as goal

pub returns : goal.returns
returns c = record {
  stands = λ es there s.
      stands-given c.args.self.now _ es c.args.who.now c.args.to.now c.args.body.now c.in_ok-service.service c.in_ok-owned.owned refl
      c.both-self-2.ensures
      (c.both-self.ensures ∙ ap (λ (b : Bool). c.args.self.now.busy && b) c.waits.ensures)
      c.in_ok-service.ensures c.in_ok-owned.ensures.owned
      (λ q. subst (λ (n : List ℕ). hand_at c.change.new.peers q ≡ cond (bytes_eq c.args.who.now q) (option_map (when_given n) (hand_at c.args.self.now.peers q)) (hand_at c.args.self.now.peers q)) c.in_ok-address.ensures
      (c.change.ensures.hands q ∙ ap (λ (o : Option Hand). cond (bytes_eq c.args.who.now q) (option_map (when_given c.in_ok-address.address) o) o) (c.send_on.ensures.hands q)))
      (λ q n. c.change.ensures.queues q n ∙ c.in_ok-owned.ensures.queues q n)
      (λ q. refl) (λ q n l b. refl) c.in_ok-owned.ensures.claimed refl
      there s;
}
