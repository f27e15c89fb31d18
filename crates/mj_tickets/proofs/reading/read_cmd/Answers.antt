use Rattle.std.proofs.Common.{arith}
use Rattle.std.proofs.lemmas.Result.{IfOk-weaker}
use Rattle.mj_tickets.proofs.SpelledLemmas.{IsBytes, if_command, if_no_command}
use Rattle.mj_tickets.proofs.reading.read_cmd.Goals as goal

pub returns-clause-found : goal.returns-clause-found
returns-clause-found c =
    let bytes : IsBytes c.args.octets.now = λ i. omega (arith, c.type_inv.octets i) in
    IfOk-weaker c.cmd_of.result _ _ (λ o is. if_command c.args.octets.now o bytes is) c.cmd_of.ensures

pub returns-clause-only : goal.returns-clause-only
returns-clause-only c = IfOk-weaker c.cmd_of.result _ _ (λ o is. if_no_command c.args.octets.now o is) c.cmd_of.ensures
