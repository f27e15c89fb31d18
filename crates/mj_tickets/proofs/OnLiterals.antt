-- What an answer unfolds to compute payloads, what they are read as, and the tickets of commands, on literals.
use Rattle.std.specs.Prelude.{⊤}
use Rattle.mj_ids.proofs.OnLiterals.{ids_on_literals}
use Rattle.mj_tickets.specs.Payload.{count_octets, length_octets, number_octets}
use Rattle.mj_tickets.specs.PayloadReading.{frame_at, body_in, cmd_in}

unfoldable pub tickets_on_literals : ⊤
unfolding ids_on_literals count_octets length_octets number_octets frame_at body_in cmd_in
tickets_on_literals = tt
