use Rattle.mj_base.specs.StandardLimits.{peer_limits}
use Rattle.mj_audit.proofs.lane.Lane.send.Goals as goal

pub returns-clause-stream : goal.returns-clause-stream
returns-clause-stream c = c.in_ok-feed.ensures.stream peer_limits
