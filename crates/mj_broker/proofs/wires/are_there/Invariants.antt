use Rattle.std.proofs.Common.{◌≡◌, take}
use Rattle.mj_broker.specs.Wires.{kept_links}
use Rattle.mj_broker.proofs.wires.are_there.Given as goal

-- those that were looked at are there
abbrev pub invariant-loop-i : goal.invariant-loop-i
invariant-loop-i l = kept_links l.routing.connections (take l.i l.links) ≡ take l.i l.links
