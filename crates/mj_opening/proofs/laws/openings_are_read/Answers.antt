use Rattle.mj_opening.proofs.OpeningLemmas.{opening_stands, opening_is_read}
use Rattle.mj_opening.proofs.laws.openings_are_read.Goals as goal

pub returns : goal.returns
returns c = record { stands = opening_stands; read = opening_is_read }
