use Rattle.std.proofs.Common.{arith}
use Rattle.mj_prog.proofs.Spelling.{events-are-spelled}
use Rattle.mj_prog.proofs.line.read_line.Goals as goal

pub returns-in_err-event-clause-spelled : goal.returns-in_err-event-clause-spelled
returns-in_err-event-clause-spelled c = events-are-spelled c.args.lanes c.args.line.now (omega arith)

pub returns-in-Some-clause-spelled : goal.returns-in-Some-clause-spelled
returns-in-Some-clause-spelled c = events-are-spelled c.args.lanes c.args.line.now (omega arith)

pub returns-in-None-clause-spelled : goal.returns-in-None-clause-spelled
returns-in-None-clause-spelled c = events-are-spelled c.args.lanes c.args.line.now (omega arith)
