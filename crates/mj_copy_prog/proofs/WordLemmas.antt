-- Words that are too few.
use Rattle.std.proofs.Common.{◌≡◌, ◌<◌, ℕ, List, [], ◌∷◌, length, map, None, refl, arith}
use Rattle.mj_copy_prog.specs.CopyWords.{tries_among}

pub few_words : {X : Type 0} (f : X → List ℕ) (command : List ℕ) (words : List X) → length words < 3 → None ≡ tries_among command (map f words)
few_words f command [] few = refl
few_words f command (a ∷ []) few = refl
few_words f command (a ∷ b ∷ []) few = refl
few_words f command (a ∷ b ∷ d ∷ words) few = absurd (omega arith)
