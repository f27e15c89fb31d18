-- Lines of a text that comes piece by piece.
use Rattle.std.proofs.Common.{◌≡◌, ℕ, Bool, false, cond, List, [], ◌∷◌, ◌++◌, refl, ap, ◌∙◌}
use Rattle.std.specs.List.{list_any}
use Rattle.std.proofs.lemmas.Bool.{or_parts}
use Rattle.mj_audit_prog.specs.TextLines.{in_front, is_newline, lines_of}

not-newline : (c : ℕ) (cs : List ℕ) → is_newline c ≡ false → lines_of (c ∷ cs) ≡ in_front c (lines_of cs)
not-newline c cs isnt = ap (λ (b : Bool). cond b ([] ∷ lines_of cs) (in_front c (lines_of cs))) isnt

pub plain-newline : (p rest : List ℕ) → list_any is_newline p ≡ false → lines_of (p ++ 10 ∷ rest) ≡ p ∷ lines_of rest
plain-newline [] rest plain = refl
plain-newline (c ∷ cs) rest plain =
    let parts = or_parts (is_newline c) (list_any is_newline cs) plain in
    not-newline c (cs ++ 10 ∷ rest) parts.0 ∙ ap (in_front c) (plain-newline cs rest parts.1)

pub plain-end : (c : ℕ) (cs : List ℕ) → list_any is_newline (c ∷ cs) ≡ false → lines_of (c ∷ cs) ≡ (c ∷ cs) ∷ []
plain-end c [] plain = not-newline c [] (or_parts (is_newline c) false plain).0
plain-end c (d ∷ ds) plain =
    let parts = or_parts (is_newline c) (list_any is_newline (d ∷ ds)) plain in
    not-newline c (d ∷ ds) parts.0 ∙ ap (in_front c) (plain-end d ds parts.1)

begun : (c : ℕ) (lines : List (List ℕ)) → (x : List ℕ) × (more : List (List ℕ)) × (in_front c lines ≡ (c ∷ x) ∷ more)
begun c [] = ([], [], refl)
begun c (line ∷ lines) = (line, lines, refl)

pub plain-begun : (c : ℕ) (cs rest : List ℕ) → list_any is_newline (c ∷ cs) ≡ false → (x : List ℕ) × (more : List (List ℕ)) × (lines_of ((c ∷ cs) ++ rest) ≡ ((c ∷ cs) ++ x) ∷ more)
plain-begun c [] rest plain =
    let b = begun c (lines_of rest) in
    (b.0, b.1, not-newline c rest (or_parts (is_newline c) false plain).0 ∙ b.2)
plain-begun c (d ∷ ds) rest plain =
    let parts = or_parts (is_newline c) (list_any is_newline (d ∷ ds)) plain in
    let b = plain-begun d ds rest parts.1 in
    (b.0, b.1, not-newline c ((d ∷ ds) ++ rest) parts.0 ∙ ap (in_front c) b.2)
