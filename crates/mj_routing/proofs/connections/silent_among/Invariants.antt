use Rattle.std.proofs.Common.{◌≡◌, ◌++◌, drop}
use Rattle.mj_routing.specs.Places.{silent_in}
use Rattle.mj_routing.proofs.connections.silent_among.Given as goal

abbrev pub invariant-loop-connection : goal.invariant-loop-connection
invariant-loop-connection l =
    l.silent.items ++ silent_in l.limits l.now (drop l.connection-index l.connections) ≡ l.fn.silent.items ++ silent_in l.limits l.now l.connections
