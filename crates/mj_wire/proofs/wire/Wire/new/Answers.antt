use Rattle.std.proofs.Common.{refl, ap, List, ℕ}
use Rattle.mj_wire.specs.declared.place.Place.{Place}
use Rattle.mj_wire.specs.declared.place.Stage.TheVariants as stages
use Rattle.mj_wire.proofs.WireLemmas.{new_stands}
use Rattle.mj_wire.proofs.wire.Wire.new.Goals as goal

abbrev at_start : List (List ℕ) → Place
at_start group = record { stage = stages.Greeting; at = 0; group = group }

pub returns-clause-stands : goal.returns-clause-stands
returns-clause-stands c = new_stands _ _ refl (ap at_start c.new.ensures) c.in_ok-with_capacity.ensures.items refl
