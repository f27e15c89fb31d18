use Rattle.mj_laws.proofs.SoundLemmas.{stays-sound}
use Rattle.mj_laws.proofs.laws.numbers_and_lanes.Goals as goal

pub returns : goal.returns
returns c = stays-sound
