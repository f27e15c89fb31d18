use Rattle.mj_journal.proofs.Unique.{no_store_in_making}
use Rattle.mj_journal.proofs.laws.no_store_in_the_making.Goals as goal

pub returns : goal.returns
returns c = no_store_in_making
