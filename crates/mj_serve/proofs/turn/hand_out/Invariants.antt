use Rattle.std.proofs.Common.{◌≡◌, ◌+◌, ◌-◌, ◌≤◌, ◌^◌, ◌++◌, min, length}
use Rattle.std.specs.Vec.Iter.{into_iter_items, into_iter_len}
use Rattle.mj_serve.specs.Counts.{pieces_in}
use Rattle.mj_serve.specs.Running.{Gives}
use Rattle.mj_serve.proofs.turn.hand_out.Given as goal

abbrev pub invariant-loop-out : goal.invariant-loop-out
invariant-loop-out g l = record {
  items : l.yielded ++ into_iter_items l.out-iterator ≡ l.fn.outs.items;
  few : into_iter_len l.out-iterator ≡ length (into_iter_items l.out-iterator);
  gives : Gives g.P.Ports.stand l.fn.ports l.ports (g.D.Disk.time l.disk) l.yielded;
  pieces : l.count ≡ min (l.fn.pieces + pieces_in l.yielded) (2 ^ 64 - 1);
  stopped : g.P.Ports.stopped l.ports ≡ g.P.Ports.stopped l.fn.ports;
  no_more : g.P.Ports.left l.ports ≤ g.P.Ports.left l.fn.ports;
  lanes : g.P.Ports.lanes_in l.ports ≡ g.P.Ports.lanes_in l.fn.ports;
}
