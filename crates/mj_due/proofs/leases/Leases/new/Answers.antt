use Rattle.std.proofs.Common.{arith}
use Rattle.mj_due.proofs.OrderLemmas.{are_none, map_none}
use Rattle.mj_due.proofs.leases.Leases.new.Goals as goal

pub invariant_of-result : goal.invariant_of-result
invariant_of-result c = (are_none c.new.result.pairs c.new-2.result.pairs c.new.ensures c.new-2.ensures, omega arith, omega arith)

pub returns : goal.returns
returns c = map_none c.new.result.pairs c.new.ensures
