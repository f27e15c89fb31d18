use Rattle.mj_bridge.proofs.Rows
use Rattle.mj_bridge.proofs.laws.worked_runs.Goals as goal

pub returns-clause-answered : goal.returns-clause-answered
returns-clause-answered c = Rows.answered

pub returns-clause-too_late : goal.returns-clause-too_late
returns-clause-too_late c = Rows.too_late
