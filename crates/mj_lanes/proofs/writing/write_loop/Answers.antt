use Rattle.mj_lanes.proofs.Loops.{writes_all, writes_front}
use Rattle.mj_lanes.proofs.writing.write_loop.Goals as goal

pub returns-in-Done-clause-writes : goal.returns-in-Done-clause-writes
returns-in-Done-clause-writes g c = writes_all _ _ _ _ _ _ _ c.in-Done.ensures.writes

pub returns-in-NoMemory-clause-writes : goal.returns-in-NoMemory-clause-writes
returns-in-NoMemory-clause-writes g c = writes_front _ _ _ _ _ _ _ _ _ c.in-NoMemory.ensures.writes c.drop_pieces.ensures.taken c.drop_pieces.ensures.sent

pub returns-in-Failed-clause-writes : goal.returns-in-Failed-clause-writes
returns-in-Failed-clause-writes g c = writes_front _ _ _ _ _ _ _ _ _ c.in-Failed.ensures.writes c.drop_pieces-in-Failed.ensures.taken c.drop_pieces-in-Failed.ensures.sent
