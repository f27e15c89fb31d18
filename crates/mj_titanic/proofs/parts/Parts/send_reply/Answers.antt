use Rattle.mj_titanic.proofs.OnwardLemmas.{sent-onward}
use Rattle.mj_titanic.proofs.Accepts.{on-ok-map}
use Rattle.mj_titanic.proofs.parts.Parts.send_reply.Goals as goal

pub returns-clause-stays : goal.returns-clause-stays
returns-clause-stays c = on-ok-map c.send.result _ _ (λ d. sent-onward c.args.self.now.keeping.keeper.shelf c.args.self.now.routing c.send.new.self _ _ _ _ d) c.send.ensures
