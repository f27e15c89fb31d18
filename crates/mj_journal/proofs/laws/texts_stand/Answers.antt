use Rattle.mj_journal.proofs.Unique.{text_stands}
use Rattle.mj_journal.proofs.laws.texts_stand.Goals as goal

pub returns : goal.returns
returns c = text_stands
