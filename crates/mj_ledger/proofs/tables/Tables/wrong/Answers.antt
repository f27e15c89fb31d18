use Rattle.std.proofs.Common.{refl}
use Rattle.mj_ledger.proofs.EventLemmas.{stands-wrong}
use Rattle.mj_ledger.proofs.tables.Tables.wrong.Goals as goal

pub returns : goal.returns
returns c = record { stands = λ es s. stands-wrong c.args.self.now _ es refl refl refl (λ q. refl) (λ q n. refl) (λ q. refl) (λ q n l b. refl) (λ q. refl) refl s }
