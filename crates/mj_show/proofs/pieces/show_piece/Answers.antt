use Rattle.mj_base.specs.StandardLimits.{standard_limits}
use Rattle.mj_show.proofs.pieces.show_piece.Goals as goal

pub returns-clause-stands : goal.returns-clause-stands
returns-clause-stands g c = λ stream s. c.in_ok-feed.ensures.stream standard_limits stream s
