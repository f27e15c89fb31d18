use Rattle.std.proofs.Common.{Some}
use Rattle.mj_counted.proofs.NameLemmas.{insert_updates}
use Rattle.mj_counted.proofs.index.Index.insert.Goals as goal

pub returns-clause-changed : goal.returns-clause-changed
returns-clause-changed g c = insert_updates c.in_ok-bytes.bytes c.args.name.now c.as_slice.result.now c.args.self.now.map c.insert.new.self (Some c.args.key) c.in_ok-bytes.ensures.items c.as_slice.ensures.value c.in_ok-insert.ensures.updates
