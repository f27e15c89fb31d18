use Rattle.mj_copy_law.proofs.FollowCuts.{follow_ignores_cuts}
use Rattle.mj_copy_law.proofs.ShipCuts.{ship_ignores_cuts}
use Rattle.mj_copy_law.proofs.laws.cuts_change_nothing.Goals as goal

pub returns : goal.returns
returns c = record { ship = ship_ignores_cuts; follow = follow_ignores_cuts }
