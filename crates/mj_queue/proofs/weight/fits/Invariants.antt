use Rattle.std.proofs.Common.{drop}
use Rattle.mj_base.specs.KeptWeight.{weight_of}
use Rattle.mj_queue.specs.Settling.{queued_weight}
use Rattle.mj_queue.proofs.WeightLemmas.{Decides}
use Rattle.mj_queue.proofs.weight.fits.Given as goal

abbrev pub invariant-loop-request : goal.invariant-loop-request
invariant-loop-request l = Decides l.left (drop l.request-index l.requests) (queued_weight l.requests) (weight_of l.body) l.most
