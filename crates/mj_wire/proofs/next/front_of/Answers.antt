use Rattle.std.proofs.Common.{sym, arith}
use Rattle.std.proofs.lemmas.List.{take_all}
use Rattle.mj_wire.proofs.next.front_of.Goals as goal

pub returns-then-octets-lt-GREETING-clause-front : goal.returns-then-octets-lt-GREETING-clause-front
returns-then-octets-lt-GREETING-clause-front c = sym (take_all 64 c.args.octets.now (omega arith))
