use Rattle.mj_journal.proofs.Standing.{ends_add_up, ends_inside, in_place}
use Rattle.mj_journal.proofs.laws.payloads_stand_at_their_places.Goals as goal

pub returns-clause-end : goal.returns-clause-end
returns-clause-end c = ends_add_up

pub returns-clause-inside : goal.returns-clause-inside
returns-clause-inside c = ends_inside

pub returns-clause-place : goal.returns-clause-place
returns-clause-place c = in_place
