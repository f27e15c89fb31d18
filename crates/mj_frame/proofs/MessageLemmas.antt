-- A message is written frame by frame.
use Rattle.std.proofs.Common.{◌≡◌, ℕ, zero, suc, ◌+◌, ◌-◌, true, false, ltb, List, [], ◌∷◌, ◌++◌, length, drop, Some, slice_get, sym, ap, ◌∙◌, arith, append_assoc, append-nil, add-one, lt-ltb, le-ltb, inl, inr}
use Rattle.std.proofs.lemmas.Bool.{cases_lt}
use Rattle.mj_frame.specs.FrameSpelling.{canonical, message_octets, Grows}

same_test : (a b c d : ℕ) → a ≡ suc b → c ≡ suc d → ltb a c ≡ ltb b d
same_test a b c d p q =
    elim (cases_lt b d) [
      | inl lt ↦ lt-ltb a c (omega arith) ∙ sym (lt-ltb b d lt)
      | inr le ↦ le-ltb a c (omega arith) ∙ sym (le-ltb b d le)
    ]

last_or_more : (message : List (List ℕ)) (i : ℕ) (frame : List ℕ) → slice_get message i ≡ Some frame
    → message_octets (drop i message) ≡ canonical (ltb i (length message - 1)) false frame ++ message_octets (drop (suc i) message)
last_or_more [] i frame e = cc
last_or_more (f ∷ []) zero frame e = let q : f ≡ frame = cc in rw q (sym (append-nil (canonical false false frame)))
last_or_more (f ∷ []) (suc i) frame e = cc
last_or_more (f ∷ g ∷ fs) zero frame e =
    let q : f ≡ frame = cc in
    let t : ltb 0 (length (f ∷ g ∷ fs) - 1) ≡ true = lt-ltb _ _ (omega arith) in
    rw t (ap (λ (x : List ℕ). canonical true false x ++ message_octets (g ∷ fs)) q)
last_or_more (f ∷ g ∷ fs) (suc i) frame e =
    let t : ltb (suc i) (length (f ∷ g ∷ fs) - 1) ≡ ltb i (length (g ∷ fs) - 1) = same_test (suc i) i (length (f ∷ g ∷ fs) - 1) (length (g ∷ fs) - 1) (omega arith) (omega arith) in
    rw t (last_or_more (g ∷ fs) i frame e)

pub message_more : (start out now : List ℕ) (message : List (List ℕ)) (i count : ℕ) (frame : List ℕ)
    → slice_get message i ≡ Some frame → count ≡ length message
    → out ++ message_octets (drop i message) ≡ start ++ message_octets message
    → now ≡ out ++ canonical (ltb i (count - 1)) false frame
    → now ++ message_octets (drop (i + 1) message) ≡ start ++ message_octets message
message_more start out now message i count frame e n kept is =
    let written : now ≡ out ++ canonical (ltb i (length message - 1)) false frame = is ∙ ap (λ (m : ℕ). out ++ canonical (ltb i (m - 1)) false frame) n in
    rw (add-one i) (ap (λ (x : List ℕ). x ++ message_octets (drop (suc i) message)) written
    ∙ append_assoc out (canonical (ltb i (length message - 1)) false frame) (message_octets (drop (suc i) message))
    ∙ sym (ap (λ (x : List ℕ). out ++ x) (last_or_more message i frame e)) ∙ kept)

pub grows_more : (start out now added : List ℕ) → Grows start out → now ≡ out ++ added → Grows start now
grows_more start out now added (x, e) is = (x ++ added, is ∙ ap (λ (y : List ℕ). y ++ added) e ∙ append_assoc start x added)
