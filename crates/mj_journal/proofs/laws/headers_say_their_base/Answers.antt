use Rattle.mj_journal.proofs.Files.{length-header}
use Rattle.mj_journal.proofs.Unique.{base_once}
use Rattle.mj_journal.proofs.laws.headers_say_their_base.Goals as goal

pub returns-clause-size : goal.returns-clause-size
returns-clause-size c = length-header

pub returns-clause-base : goal.returns-clause-base
returns-clause-base c = base_once
