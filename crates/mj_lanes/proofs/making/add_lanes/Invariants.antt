use Rattle.std.proofs.Common.{◌≡◌, vec_len}
use Rattle.mj_lanes.specs.Passes.{AreNew}
use Rattle.mj_lanes.proofs.making.add_lanes.Given as goal

abbrev pub invariant-loop-lane : goal.invariant-loop-lane
invariant-loop-lane g l =
    (l.hub.inbox ≡ l.fn.hub.inbox) × (l.hub.taken ≡ l.fn.hub.taken) × AreNew l.fn.hub.inbox l.lane l.hub.outlets l.readers.items l.writers.items × (vec_len l.readers ≡ l.lane) × (vec_len l.writers ≡ l.lane)
