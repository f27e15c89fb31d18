use Rattle.std.proofs.Common.{ap}
use Rattle.mj_lanes.proofs.Families.{are_of_one}
use Rattle.mj_lanes.proofs.making.lanes_new.Goals as goal

pub returns-clause-one : goal.returns-clause-one
returns-clause-one g c = are_of_one _ _ _ _ _ _ c.in_ok-readers.ensures.hub.0 (ap (λ t. t.inbox) c.in_ok-hub.ensures.1) c.in_ok-readers.ensures.lanes
