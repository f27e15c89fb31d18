-- Lists of byte strings as one, by which they are looked up.
use Rattle.std.specs.Prelude.{ℕ, Bool, List, [], ◌∷◌, ◌++◌, if◌then◌else◌}

-- a 1 before each byte, and a 0 at the end
abbrev pub spelled_frame : List ℕ → List ℕ
spelled_frame [] = 0 ∷ []
spelled_frame (c ∷ cs) = 1 ∷ c ∷ spelled_frame cs

abbrev pub spelled : List (List ℕ) → List ℕ
spelled [] = []
spelled (frame ∷ frames) = spelled_frame frame ++ spelled frames

-- the replies to a client of one kind
abbrev pub reply_key : List ℕ → List ℕ → Bool → List (List ℕ) → List ℕ
reply_key who service last body = spelled (who ∷ service ∷ (if last then 1 ∷ [] else []) ∷ body)
