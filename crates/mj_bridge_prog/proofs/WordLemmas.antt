-- Words that are too few.
use Rattle.std.proofs.Common.{◌≡◌, ◌<◌, ℕ, List, [], ◌∷◌, length, map, None, refl, arith}
use Rattle.mj_bridge_prog.specs.BridgeWords.{bridging_in}

pub few-words : {X : Type 0} (f : X → List ℕ) (words : List X) → length words < 5 → None ≡ bridging_in (map f words)
few-words f [] few = refl
few-words f (a ∷ []) few = refl
few-words f (a ∷ b ∷ []) few = refl
few-words f (a ∷ b ∷ c ∷ []) few = refl
few-words f (a ∷ b ∷ c ∷ d ∷ []) few = refl
few-words f (a ∷ b ∷ c ∷ d ∷ e ∷ words) few = absurd (omega arith)
