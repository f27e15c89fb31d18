use Rattle.std.proofs.Common.{◌≡◌, cond, List, ℕ, Some, ap, refl, subst}
use Rattle.std.specs.Prelude.{option_map}
use Rattle.std.specs.Str.{bytes_eq}
use Rattle.mj_ledger.specs.Found.{hand_at}
use Rattle.mj_ledger.specs.Hands.{when_ready}
use Rattle.mj_ledger.proofs.EventLemmas.{stands-ready}
use Rattle.mj_ledger.proofs.tables.Tables.ready.Goals as goal

pub returns : goal.returns
returns c = record {
  stands = λ es there s.
      stands-ready c.args.self.now _ es c.args.who.now c.args.service.now refl refl refl
      (λ q. subst (λ (n : List ℕ). hand_at c.change.new.peers q ≡ cond (bytes_eq c.args.who.now q) (option_map (when_ready n) (hand_at c.args.self.now.peers q)) (hand_at c.args.self.now.peers q)) c.in_ok-name.ensures (c.change.ensures.hands q))
      c.change.ensures.queues (λ q. refl) (λ q n l b. refl) (λ q. refl)
      (ap (λ (l : List ℕ). Some l) c.in_ok-copy_of.ensures) c.requires.settled there s;
}
