-- What one who watches an end sees, one thing after the other.
use Rattle.std.specs.Prelude.{⊤, List, [], ◌∷◌}

-- each is as it must be, at what was seen before it
abbrev pub AreRight : {X S : Type 0} → (X → S → Type 0) → (X → S → S) → List X → S → Type 0
AreRight right sees [] s = ⊤
AreRight right sees (x ∷ xs) s = right x s × AreRight right sees xs (sees x s)

-- what was seen behind them
abbrev pub seen : {X S : Type 0} → (X → S → S) → List X → S → S
seen sees [] s = s
seen sees (x ∷ xs) s = seen sees xs (sees x s)
