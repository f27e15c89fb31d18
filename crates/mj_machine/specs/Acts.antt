-- Acts: what is done to a state, with what is added on the way.
use Rattle.std.specs.Prelude.{List, [], ◌∷◌, ◌++◌}

-- the state after an act, and what it adds
abbrev pub Doing : Type 0 → Type 0 → Type 0
Doing S A = S × List A

-- what was added before stands in front
abbrev pub behind : {S A : Type 0} → List A → Doing S A → Doing S A
behind added d = (d.0, added ++ d.1)

-- one act, and then another
infixl 10 ◌then◌
abbrev pub ◌then◌ : {S A : Type 0} → Doing S A → (S → Doing S A) → Doing S A
before then act = behind before.1 (act before.0)

-- nothing is added
abbrev pub quiet : {S A : Type 0} → S → Doing S A
quiet s = (s, [])

-- an act for each of these, in order
abbrev pub each : {S A X : Type 0} → (X → S → Doing S A) → List X → S → Doing S A
each act [] s = (s, [])
each act (x ∷ xs) s = act x s then each act xs
