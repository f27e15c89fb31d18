use Rattle.std.proofs.Common.{◌∙◌, ap}
use Rattle.std.specs.FinMap as map
use Rattle.mj_lease.proofs.MapLemmas.{map_of_none}
use Rattle.mj_lease.proofs.leases.Leases.new.Goals as goal

pub returns : goal.returns
returns c = ap map.from_sorted c.new.ensures.items ∙ map_of_none
