-- Each item of a list with those before it.
use Rattle.std.specs.Prelude.{List, [], ◌∷◌, ◌++◌}

abbrev pub moments_from : {X : Type 0} → List X → List X → List (List X × X)
moments_from before [] = []
moments_from before (x ∷ xs) = (before, x) ∷ moments_from (before ++ x ∷ []) xs

abbrev pub moments : {X : Type 0} → List X → List (List X × X)
moments xs = moments_from [] xs
