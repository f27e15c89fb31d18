use Rattle.mj_base.specs.StandardLimits.{standard_limits}
use Rattle.mj_audit.proofs.lane.Lane.receive.Goals as goal

pub returns-clause-stream : goal.returns-clause-stream
returns-clause-stream c = c.in_ok-feed.ensures.stream standard_limits
