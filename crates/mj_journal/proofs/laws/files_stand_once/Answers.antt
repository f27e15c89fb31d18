use Rattle.mj_journal.proofs.Unique.{stands_once, opens_once}
use Rattle.mj_journal.proofs.laws.files_stand_once.Goals as goal

pub returns-clause-stands : goal.returns-clause-stands
returns-clause-stands c = stands_once

pub returns-clause-opens : goal.returns-clause-opens
returns-clause-opens c = opens_once
