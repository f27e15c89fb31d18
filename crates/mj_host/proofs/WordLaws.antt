-- Laws of the words.
use Rattle.std.proofs.Common.{◌≡◌, ◌<◌, ℕ, List, [], ◌∷◌, length, map, Option, None, refl, arith}
use Rattle.std.proofs.lemmas.List.{length-map}
use Rattle.mj_host.specs.Words.{numbers_in}

few-words : (words : List (List ℕ)) → length words < 3 → None ≡ numbers_in words
few-words [] few = refl
few-words (place ∷ []) few = refl
few-words (place ∷ command ∷ []) few = refl
few-words (place ∷ command ∷ address ∷ options) few = absurd (omega arith)

pub too-few : {X : Type 0} (f : X → List ℕ) (words : List X) → length words < 3 → None ≡ numbers_in (map f words)
too-few f words few = let size : length (map f words) ≡ length words = length-map words f in few-words (map f words) (omega arith)
