use Rattle.std.proofs.Common.{◌≡◌, ◌≤◌, ◌+◌, ◌-◌, ◌*◌, length}
use Rattle.std.specs.List.{filter}
use Rattle.mj_hall.specs.Whose.{stays}
use Rattle.mj_hall.proofs.hall.Hall.drop_all.Given as goal

abbrev pub invariant-loop-whose : goal.invariant-loop-whose
invariant-loop-whose g l = record {
  others : l.self.state ≡ record l.fn.self.state { requests = l.self.state.requests };
  kept : filter (stays l.fn.whose) l.self.state.requests ≡ filter (stays l.fn.whose) l.fn.self.state.requests;
  labels : l.self.labels ≡ l.fn.self.labels;
  fewer : length l.self.state.requests ≤ length l.fn.self.state.requests;
  cost : l.steps ≤ l.fn.steps + 40 * (length l.fn.self.state.requests - length l.self.state.requests);
}

abbrev pub decreases-loop-whose : goal.decreases-loop-whose
decreases-loop-whose g l = length l.self.state.requests
