use Rattle.std.proofs.Common.{ap}
use Rattle.mj_lanes.specs.Passes.{HubState}
use Rattle.mj_net.proofs.Putting.{placed-by}
use Rattle.mj_net.proofs.ports.put_lane.Goals as goal

pub returns-clause-puts : goal.returns-clause-puts
returns-clause-puts g c = placed-by _ _ c.args.lane _ c.requires c.put.ensures.puts

pub returns-clause-taken : goal.returns-clause-taken
returns-clause-taken g c = ap (λ (h : HubState). h.taken) (placed-by _ _ c.args.lane _ c.requires c.put.ensures.puts)
