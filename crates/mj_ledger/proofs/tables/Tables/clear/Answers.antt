use Rattle.std.proofs.Common.{refl}
use Rattle.mj_ledger.proofs.EventLemmas.{stands-clear}
use Rattle.mj_ledger.proofs.tables.Tables.clear.Goals as goal

pub returns-clause-stands : goal.returns-clause-stands
returns-clause-stands c = λ es nobody s. stands-clear c.args.self.now _ es refl refl refl (λ q. refl) (λ q n. refl) (λ q. refl) (λ q n l b. refl) (λ q. refl) refl nobody s
