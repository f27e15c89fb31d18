-- What was found and what is left give the answer of the whole.
use Rattle.std.proofs.Common.{◌≡◌, length}
use Rattle.mj_handshake.specs.ReadyGrammar.{answer_of}
use Rattle.mj_handshake.specs.ReadyReading.{properties_of}
use Rattle.mj_handshake.proofs.ReadingLemmas.{answer_from}
use Rattle.mj_handshake.proofs.ready.read_properties.Given as goal

abbrev pub invariant-loop-rest : goal.invariant-loop-rest
invariant-loop-rest l = answer_from l.found (properties_of l.rest) ≡ answer_of (properties_of l.fn.octets)

abbrev pub decreases-loop-rest : goal.decreases-loop-rest
decreases-loop-rest l = length l.rest
