use Rattle.std.proofs.Common.{◌≡◌, ◌≤◌, ◌++◌, false, length}
use Rattle.mj_lanes.specs.WriteSteps.{as_items}
use Rattle.mj_lanes.proofs.writer_pass.WriterPass.take_ready.Given as goal

abbrev pub invariant-loop-turn : goal.invariant-loop-turn
invariant-loop-turn g l = (l.self ≡ record l.fn.self { taken = l.fn.self.taken ++ as_items l.self.held false; held = l.self.held }) × (length l.self.held ≤ l._turn)
