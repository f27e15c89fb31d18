-- The frames of a body are written and read one by one.
use Rattle.std.proofs.Common.{◌≡◌, ℕ, suc, List, [], ◌∷◌, ◌++◌, length, Option, Some, None, option_map, refl, sym, ap, subst, ◌∙◌, arith, append_assoc, append-nil}
use Rattle.std.specs.List.{AllByRecursion}
use Rattle.mj_tickets.specs.Payload.{frames_text, length_octets, IsShort, Grows}
use Rattle.mj_tickets.specs.PayloadReading.{frames_in, frame_at, with_frame}

-- ---- writing

pub grows_more : (start out now added : List ℕ) → Grows start out → now ≡ out ++ added → Grows start now
grows_more start out now added (x, e) is = (x ++ added, is ∙ ap (λ (y : List ℕ). y ++ added) e ∙ append_assoc start x added)

pub frames_more : (out now frame whole : List ℕ) (left rest : List (List ℕ)) → left ≡ frame ∷ rest → now ≡ out ++ (length_octets (length frame) ++ frame)
    → out ++ frames_text left ≡ whole → now ++ frames_text rest ≡ whole
frames_more out now frame whole left rest more is kept =
    let size = length_octets (length frame) in
    ap (λ (x : List ℕ). x ++ frames_text rest) is
    ∙ append_assoc out (size ++ frame) (frames_text rest)
    ∙ ap (λ (x : List ℕ). out ++ x) (append_assoc size frame (frames_text rest) ∙ sym (ap frames_text more))
    ∙ kept

-- ---- reading

abbrev pub behind : List (List ℕ) → Option (List (List ℕ)) → Option (List (List ℕ))
behind got more = option_map (λ frames. got ++ frames) more

one_more : (got : List (List ℕ)) (frame : List ℕ) (o : Option (List (List ℕ))) → behind (got ++ frame ∷ []) o ≡ behind got (option_map (λ frames. frame ∷ frames) o)
one_more got frame None = refl
one_more got frame (Some more) = ap Some (append_assoc got (frame ∷ []) more)

pub read_more : (got now : List (List ℕ)) (n left : ℕ) (rest frame after : List ℕ) (whole : Option (List (List ℕ))) → left ≡ suc n → frame_at rest ≡ Some (frame, after) → now ≡ got ++ frame ∷ []
    → behind got (frames_in left rest) ≡ whole → behind now (frames_in n after) ≡ whole
read_more got now n left rest frame after whole more is same kept =
    ap (λ (g : List (List ℕ)). behind g (frames_in n after)) same
    ∙ one_more got frame (frames_in n after)
    ∙ ap (λ o. behind got (with_frame (λ r. frames_in n r) o)) (sym is)
    ∙ ap (λ (m : ℕ). behind got (frames_in m rest)) (sym more)
    ∙ kept

pub read_none : (got : List (List ℕ)) (n left : ℕ) (rest : List ℕ) (whole : Option (List (List ℕ))) → left ≡ suc n → frame_at rest ≡ None → behind got (frames_in left rest) ≡ whole → None ≡ whole
read_none got n left rest whole more is kept =
    ap (λ o. behind got (with_frame (λ r. frames_in n r) o)) (sym is) ∙ ap (λ (m : ℕ). behind got (frames_in m rest)) (sym more) ∙ kept

pub read_all : (got : List (List ℕ)) (left : ℕ) (rest : List ℕ) (whole : Option (List (List ℕ))) → left ≡ 0 → length rest ≡ 0 → behind got (frames_in left rest) ≡ whole → Some got ≡ whole
read_all got left [] whole none empty kept = ap Some (sym (append-nil got)) ∙ ap (λ (m : ℕ). behind got (frames_in m [])) (sym none) ∙ kept
read_all got left (x ∷ rest) whole none empty kept = absurd (omega arith)

pub read_too_much : (got : List (List ℕ)) (left : ℕ) (rest : List ℕ) (whole : Option (List (List ℕ))) → left ≡ 0 → (length rest ≡ 0 → ⊥) → behind got (frames_in left rest) ≡ whole → None ≡ whole
read_too_much got left [] whole none some kept = absurd (some refl)
read_too_much got left (x ∷ rest) whole none some kept = ap (λ (m : ℕ). behind got (frames_in m (x ∷ rest))) (sym none) ∙ kept

pub short_more : (frame : List ℕ) (left rest : List (List ℕ)) → left ≡ frame ∷ rest → AllByRecursion IsShort left → AllByRecursion IsShort rest
short_more frame left rest more short = let all = subst (AllByRecursion IsShort) more short in all.1
