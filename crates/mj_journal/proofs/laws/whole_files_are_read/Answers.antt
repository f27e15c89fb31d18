use Rattle.mj_journal.proofs.Standing.{not_refused, not_damaged, read_in_front}
use Rattle.mj_journal.proofs.laws.whole_files_are_read.Goals as goal

pub returns-clause-begun : goal.returns-clause-begun
returns-clause-begun c = not_refused

pub returns-clause-undamaged : goal.returns-clause-undamaged
returns-clause-undamaged c = not_damaged

pub returns-clause-front : goal.returns-clause-front
returns-clause-front c = read_in_front
