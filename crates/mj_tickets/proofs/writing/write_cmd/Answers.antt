use Rattle.std.proofs.lemmas.Result.{on_ok_weaker}
use Rattle.mj_tickets.proofs.AgainLemmas.{cmd_again}
use Rattle.mj_tickets.proofs.writing.write_cmd.Goals as goal

pub returns-else-is_err-clause-read : goal.returns-else-is_err-clause-read
returns-else-is_err-clause-read c = on_ok_weaker c.append_cmd-written.result (λ parts. cmd_again c.args.cmd.now parts c.requires) c.append_cmd-written.ensures.parts
