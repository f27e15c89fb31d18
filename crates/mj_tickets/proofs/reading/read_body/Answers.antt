use Rattle.std.proofs.Common.{arith}
use Rattle.std.proofs.lemmas.Result.{IfOk-weaker}
use Rattle.mj_tickets.proofs.SpelledLemmas.{IsBytes, if_body, if_no_body}
use Rattle.mj_tickets.proofs.reading.read_body.Goals as goal

pub returns-clause-found : goal.returns-clause-found
returns-clause-found c =
    let bytes : IsBytes c.args.octets.now = λ i. omega (arith, c.type_inv.octets i) in
    IfOk-weaker c.body_of.result _ _ (λ o is. if_body c.args.octets.now o bytes is) c.body_of.ensures

pub returns-clause-only : goal.returns-clause-only
returns-clause-only c = IfOk-weaker c.body_of.result _ _ (λ o is. if_no_body c.args.octets.now o is) c.body_of.ensures
