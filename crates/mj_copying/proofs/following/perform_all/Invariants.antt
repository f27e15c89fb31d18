use Rattle.std.proofs.Common.{◌≤◌, take}
use Rattle.mj_copying.specs.FollowState.{Performs}
use Rattle.mj_copying.proofs.following.perform_all.Given as goal

abbrev pub invariant-loop-act : goal.invariant-loop-act
invariant-loop-act g l = record {
  done : Performs (g.L.Link.told l.fn.link) (g.L.Link.told l.link) (take l.act-index l.acts);
  reads : g.L.Link.read_faults l.fn.link ≤ g.L.Link.read_faults l.link;
  writes : g.L.Link.write_faults l.fn.link ≤ g.L.Link.write_faults l.link;
}
