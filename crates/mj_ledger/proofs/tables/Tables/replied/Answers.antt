use Rattle.std.proofs.Common.{◌≡◌, cond, List, ℕ, refl, subst}
use Rattle.std.specs.Prelude.{option_map}
use Rattle.std.specs.Str.{bytes_eq}
use Rattle.mj_ledger.specs.Found.{hand_at}
use Rattle.mj_ledger.specs.Hands.{when_replied}
use Rattle.mj_ledger.proofs.EventLemmas.{stands-replied}
use Rattle.mj_ledger.proofs.tables.Tables.replied.Goals as goal

pub returns : goal.returns
returns c = record {
  stands = λ es there s.
      stands-replied c.args.self.now _ es c.args.who.now c.args.last c.args.to.now c.args.body.now c.in_ok-owing.owing refl refl refl
      (λ q. subst (λ (n : List ℕ). hand_at c.change.new.peers q ≡ cond (bytes_eq c.args.who.now q) (option_map (when_replied c.args.last n) (hand_at c.args.self.now.peers q)) (hand_at c.args.self.now.peers q)) c.in_ok-address.ensures (c.change.ensures.hands q))
      c.change.ensures.queues (λ q. refl) c.in_ok-credit.ensures c.in_ok-owing.ensures (λ q. refl)
      c.in_ok-self.ensures c.requires.settled there s;
}
