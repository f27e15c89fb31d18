-- Lists of frames, one frame at a time.
use Rattle.std.proofs.Common.{◌≡◌, ℕ, zero, suc, ◌+◌, ◌<◌, List, [], ◌∷◌, ◌++◌, length, drop, Option, Some, None, MatchOption, Bor, slice_get, option_copied, refl, sym, ap, ◌∙◌, append_assoc, add-one}
use Rattle.std.proofs.lemmas.Option.{slice_get_within}

rest_none : (m : List (List ℕ)) (at : ℕ) → slice_get m at ≡ None → drop at m ≡ []
rest_none [] zero e = refl
rest_none [] (suc at) e = refl
rest_none (x ∷ m) zero e = cc
rest_none (x ∷ m) (suc at) e = rest_none m at e

rest_some : (m : List (List ℕ)) (at : ℕ) (x : List ℕ) → slice_get m at ≡ Some x → drop at m ≡ x ∷ drop (suc at) m
rest_some [] at x e = cc
rest_some (y ∷ m) zero x e = cc
rest_some (y ∷ m) (suc at) x e = rest_some m at x e

-- the frame that stands at a place, and the frames from there on
pub rest_at : (r : Option (Bor (List ℕ))) (m : List (List ℕ)) (at : ℕ) → option_copied r ≡ slice_get m at
    → MatchOption r (drop at m ≡ []) (λ frame. (at < length m) × (drop at m ≡ frame.now ∷ drop (at + 1) m))
rest_at None m at e = rest_none m at (sym e)
rest_at (Some f) m at e = (slice_get_within m at f.now (sym e), rw add-one (rest_some m at f.now (sym e)))

-- one frame more was appended
pub appended : (out new all : List (List ℕ)) (frame : List ℕ) (rest more : List (List ℕ))
    → out ++ rest ≡ all → rest ≡ frame ∷ more → new ≡ out ++ frame ∷ [] → new ++ more ≡ all
appended out new all frame rest more before is_rest is_new =
    ap (λ (x : List (List ℕ)). x ++ more) is_new ∙ (append_assoc out (frame ∷ []) more ∙ (ap (λ (x : List (List ℕ)). out ++ x) (sym is_rest) ∙ before))
