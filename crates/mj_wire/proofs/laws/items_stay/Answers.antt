use Rattle.mj_wire.proofs.FaultLemmas.{fault_is_last}
use Rattle.mj_wire.proofs.PieceLemmas.{piece_adds}
use Rattle.mj_wire.proofs.laws.items_stay.Goals as goal

pub returns : goal.returns
returns c = record { add = piece_adds; last = fault_is_last }
