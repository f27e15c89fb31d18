use Rattle.std.proofs.Common.{arith}
use Rattle.mj_journal.proofs.Headers.{length_octets_of}
use Rattle.mj_journal.proofs.opening.length_of.Goals as goal

pub returns : goal.returns
returns c = length_octets_of c.args.octets.now c.from_be_bytes.result c.told-octets (λ i. omega (arith, c.fits-octets i)) c.from_be_bytes.ensures
