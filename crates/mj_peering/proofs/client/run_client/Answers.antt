use Rattle.std.proofs.Common.{arith}
use Rattle.mj_peering.proofs.PlaceLemmas.{later-none}
use Rattle.mj_peering.proofs.RunLemmas.{played-start}
use Rattle.mj_peering.proofs.client.run_client.Goals as goal

pub loop-init : goal.loop-init
loop-init g c = record { ready = c.requires; played = λ first s. played-start first _ _ _ s; later = later-none _; input_later = omega arith }
