use Rattle.std.proofs.Common.{◌≡◌, ℕ, zero, suc, Option, None, List, ap, refl, ◌∙◌}
use Rattle.std.specs.Prelude.{replicate}
use Rattle.mj_audit.specs.Slots.{slot_of}
use Rattle.mj_audit.specs.declared.lane.Lane.{Lane}
use Rattle.mj_audit.proofs.slots.no_lanes.Goals as goal

nobody : (n lane : ℕ) → slot_of (replicate n None) lane ≡ None
nobody zero lane = refl
nobody (suc n) zero = refl
nobody (suc n) (suc lane) = nobody n lane

pub returns-clause-none : goal.returns-clause-none
returns-clause-none c = λ lane. ap (λ (l : List (Option Lane)). slot_of l lane) c.loop-lane.invariant ∙ nobody c.loop-lane._lane lane
