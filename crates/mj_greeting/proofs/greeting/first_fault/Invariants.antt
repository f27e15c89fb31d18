-- What is left of the front has the fault of the whole.
use Rattle.std.proofs.Common.{◌≡◌, drop}
use Rattle.mj_greeting.specs.GreetingGrammar.{first_wrong}
use Rattle.mj_greeting.proofs.greeting.first_fault.Given as goal

abbrev pub invariant-loop-i : goal.invariant-loop-i
invariant-loop-i l = first_wrong l.i (drop l.i l.front) ≡ first_wrong 0 l.front
