use Rattle.std.proofs.Common.{[], refl, arith}
use Rattle.mj_hall.proofs.hall.Hall.labelled_from.Goals as goal

pub invariant_of-result : goal.invariant_of-result
invariant_of-result c = (
  [],
  [],
  record {
    asking = record { distinct = refl; rows = c.new.ensures.empty; count = c.new.ensures.none; by_client = c.new-5.ensures; by_ticket = c.new-6.ensures };
    serving = record { distinct = refl; rows = c.new-2.ensures.empty; count = c.new-2.ensures.none; by_conn = c.new-7.ensures; single = λ n j k e f. cc };
    desks = record { each = λ q d e. let none = c.new-4.ensures q in cc; one = λ p q d e f. let none = c.new-4.ensures p in cc; asked = λ k e f. cc; served = λ k e f. cc };
    peopled = λ q d e h. let none = c.new-4.ensures q in cc;
    ready = c.new-8.ensures;
    asked = record { ends = refl; len = refl };
    waiting = record { ends = refl; len = refl };
    busy = record { ends = refl; len = refl };
    rise = refl;
    below = refl;
    number = refl;
    weight = refl;
    fits = omega arith;
  },
)
