use Rattle.std.proofs.Common.{arith}
use Rattle.mj_journal.proofs.Headers.{base_octets_of}
use Rattle.mj_journal.proofs.header.base_of.Goals as goal

pub returns : goal.returns
returns c = base_octets_of c.args.tail.now c.from_be_bytes.result c.told-tail (λ i. omega (arith, c.fits-tail i)) c.from_be_bytes.ensures
