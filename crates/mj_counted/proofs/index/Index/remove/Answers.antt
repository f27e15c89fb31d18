use Rattle.mj_counted.proofs.NameLemmas.{remove_updates}
use Rattle.mj_counted.proofs.index.Index.remove.Goals as goal

pub returns-clause-changed : goal.returns-clause-changed
returns-clause-changed g c = remove_updates c.args.name.now c.as_slice.result.now c.args.self.now.map c.remove.new.self c.as_slice.ensures.value c.remove.ensures.updates
