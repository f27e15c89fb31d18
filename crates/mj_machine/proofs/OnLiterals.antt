-- What an answer unfolds to compute a worked run.
use Rattle.std.specs.Prelude.{⊤}
use Rattle.mj_ids.proofs.OnLiterals.{ids_on_literals}
use Rattle.mj_tickets.specs.Payload.{count_octets, length_octets, number_octets}
use Rattle.mj_machine.specs.Pairing.{settles}
use Rattle.mj_machine.specs.Steps.{settle_steps}

unfoldable pub runs_on_literals : ⊤
unfolding settles settle_steps ids_on_literals count_octets length_octets number_octets
runs_on_literals = tt
