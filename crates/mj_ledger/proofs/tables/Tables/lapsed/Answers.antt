use Rattle.std.proofs.Common.{refl}
use Rattle.mj_ledger.proofs.EventLemmas.{stands-lapsed}
use Rattle.mj_ledger.proofs.tables.Tables.lapsed.Goals as goal

pub returns : goal.returns
returns c = record {
  stands = λ es there s.
      stands-lapsed c.args.self.now _ es c.args.who.now refl refl refl c.change.ensures.hands c.change.ensures.queues (λ q. refl) (λ q n l b. refl) (λ q. refl) refl there s;
}
