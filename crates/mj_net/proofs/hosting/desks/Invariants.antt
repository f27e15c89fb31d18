use Rattle.std.proofs.Common.{◌≡◌, ◌≤◌, vec_len}
use Rattle.mj_net.proofs.hosting.desks.Given as goal

abbrev pub invariant-loop-lane : goal.invariant-loop-lane
invariant-loop-lane g l = (vec_len l.desks ≡ l._lane) × (g.D.Door.faults l.fn.door ≤ g.D.Door.faults l.door)
