use Rattle.std.proofs.Common.{List, ℕ, Some, ap, refl}
use Rattle.mj_ledger.proofs.EventLemmas.{stands-asked, there-known}
use Rattle.mj_ledger.proofs.tables.Tables.asked.Goals as goal

pub returns : goal.returns
returns c = record {
  stands = λ es there s.
      stands-asked c.args.self.now _ es c.args.who.now c.args.service.now c.args.body refl refl refl c.ask.ensures.hands (c.in_ok-ask.ensures.queues (there-known c.args.self.now es c.args.who.now there s)) (λ q. refl) (λ q n l b. refl) (λ q. refl)
      (ap (λ (l : List ℕ). Some l) c.in_ok-copy_of.ensures) c.requires.settled there c.requires.judged s;
}
