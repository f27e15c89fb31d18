use Rattle.std.proofs.Common.{◌≡◌, ◌≤◌, ℕ, Bool, List, Option}
use Rattle.mj_base.specs.declared.event.Event.{Event}
use Rattle.mj_lanes.specs.declared.outlet.Item.{Item}
use Rattle.mj_lanes.specs.WriteSteps.{Handed}
use Rattle.mj_lanes.proofs.handing.write_held.Given as goal

abbrev pub invariant-loop-place : goal.invariant-loop-place
invariant-loop-place g l = record {
  inbox : l.pass.inbox ≡ l.fn.pass.inbox;
  lane : l.pass.lane ≡ l.fn.pass.lane;
  outlet : l.pass.outlet ≡ l.fn.pass.outlet;
  held : l.pass.held ≡ l.fn.pass.held;
  handed : (marked : Bool) (taken : List Item) (sent : List Event) (out : Option (List ℕ)) → Handed l.fn.pass.lane marked l.fn.pass.held l.fn.from l.fn.at l.fn.from taken l.fn.pass.taken sent l.fn.pass.sent out (g.K.Sink.written l.fn.sink)
      → Handed l.fn.pass.lane marked l.fn.pass.held l.place l.at l.place taken l.pass.taken sent l.pass.sent out (g.K.Sink.written l.sink);
  later : g.K.Sink.faults l.fn.sink ≤ g.K.Sink.faults l.sink;
}
