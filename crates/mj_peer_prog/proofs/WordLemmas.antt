-- Words that are too few.
use Rattle.std.proofs.Common.{◌≡◌, ◌<◌, ℕ, List, [], ◌∷◌, length, map, None, refl, arith}
use Rattle.mj_peer_prog.specs.PeerWords.{task_in}

pub few-words : {X : Type 0} (f : X → List ℕ) (words : List X) → length words < 4 → None ≡ task_in (map f words)
few-words f [] few = refl
few-words f (a ∷ []) few = refl
few-words f (a ∷ b ∷ []) few = refl
few-words f (a ∷ b ∷ c ∷ []) few = refl
few-words f (a ∷ b ∷ c ∷ d ∷ words) few = absurd (omega arith)
