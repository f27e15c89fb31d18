use Rattle.std.proofs.Common.{ap, refl, ◌∙◌}
use Rattle.std.specs.List.{list_any}
use Rattle.std.specs.Str.{bytes_eq}
use Rattle.mj_ledger.proofs.EventLemmas.{stands-left}
use Rattle.mj_ledger.proofs.PresentLemmas.{without}
use Rattle.mj_ledger.proofs.tables.Tables.left.Goals as goal

pub returns : goal.returns
returns c = record {
  stands = λ es there s.
      stands-left c.args.self.now _ es c.args.who.now refl refl refl c.change.ensures.hands c.change.ensures.queues
      (λ q. ap (list_any (bytes_eq q)) c.leave.ensures ∙ without q c.args.who.now c.args.self.now.present.items)
      (λ q n l b. refl) (λ q. refl) refl there s;
}
