-- An outlet has one sender, so its items are all that sender's.
use Rattle.std.proofs.Common.{◌≡◌, List, [], ◌∷◌, ◌++◌, refl, ap, ◌∙◌}
use Rattle.mj_lanes.specs.Rule.{of, Begins}

all_of : {T : Type 0} (xs : List T) → of (λ _. 0) 0 xs ≡ xs
all_of [] = refl
all_of (x ∷ xs) = ap (λ l. x ∷ l) (all_of xs)

pub begins_put : {T : Type 0} (taken put : List T) → Begins (of (λ _. 0) 0 taken) put → Begins taken put
begins_put taken put h = record { rest = h.rest; is = h.is ∙ ap (λ l. l ++ h.rest) (all_of taken) }
