use Rattle.mj_store.proofs.Chains.{images_open_again, one_opens_again}
use Rattle.mj_store.proofs.laws.images_open_again.Goals as goal

pub returns-clause-image : goal.returns-clause-image
returns-clause-image g c = images_open_again g.D.Disk

pub returns-clause-among : goal.returns-clause-among
returns-clause-among g c = one_opens_again g.D.Disk
