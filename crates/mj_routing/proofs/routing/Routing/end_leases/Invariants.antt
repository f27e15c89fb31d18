use Rattle.std.proofs.Common.{◌≡◌, drop}
use Rattle.mj_machine.specs.TickStep.{all_expire}
use Rattle.mj_keeper.specs.Standing.{told_on}
use Rattle.mj_routing.proofs.routing.Routing.end_leases.Given as goal

abbrev pub invariant-loop-number : goal.invariant-loop-number
invariant-loop-number l = all_expire (drop l.number-index l.number-items) (told_on l.tickets.shelf) l.self ≡ all_expire l.number-items (told_on l.tickets.shelf) l.fn.self
