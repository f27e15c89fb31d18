-- Pieces that follow each other do what they do as one, where two do.
use Rattle.std.proofs.Common.{◌≡◌, ℕ, Bool, true, false, ◌||◌, List, [], ◌∷◌, ◌++◌, refl, sym, ap, subst, ◌∙◌, append_assoc, append-nil, inl, inr}
use Rattle.std.specs.Prelude.{◌⊎◌}
use Rattle.std.proofs.lemmas.List.Folds.{list_any-append}
use Rattle.std.specs.List.{concat, list_any}
use Rattle.mj_copy_law.specs.Cuts.{gets, then_turn, unless_left}

-- the acts are the same, and so is the state, unless nothing is ever done any more
pub record Alike (S A : Type 0) (Over : S → Type 0) (t u : S × List A) : Type 0 where
  pub acts : t.1 ≡ u.1
  pub states : (t.0 ≡ u.0) ⊎ (Over t.0 × Over u.0)

pub alike-refl : (S A : Type 0) (Over : S → Type 0) (t u : S × List A) → t ≡ u → Alike S A Over t u
alike-refl S A Over t u e = record { acts = ap (λ (x : S × List A). x.1) e; states = inl (ap (λ (x : S × List A). x.0) e) }

pub alike-sym : (S A : Type 0) (Over : S → Type 0) (t u : S × List A) → Alike S A Over t u → Alike S A Over u t
alike-sym S A Over t u a = record { acts = sym a.acts; states = of a.states }
  where
    of : (t.0 ≡ u.0) ⊎ (Over t.0 × Over u.0) → (u.0 ≡ t.0) ⊎ (Over u.0 × Over t.0)
    of (inl e) = inl (sym e)
    of (inr o) = inr (o.1, o.0)

pub alike-trans : (S A : Type 0) (Over : S → Type 0) (t u v : S × List A) → Alike S A Over t u → Alike S A Over u v → Alike S A Over t v
alike-trans S A Over t u v a b = record { acts = a.acts ∙ b.acts; states = of a.states b.states }
  where
    of : (t.0 ≡ u.0) ⊎ (Over t.0 × Over u.0) → (u.0 ≡ v.0) ⊎ (Over u.0 × Over v.0) → (t.0 ≡ v.0) ⊎ (Over t.0 × Over v.0)
    of (inl e) (inl f) = inl (e ∙ f)
    of (inl e) (inr o) = inr (subst Over (sym e) o.0, o.1)
    of (inr o) (inl f) = inr (o.0, subst Over f o.1)
    of (inr o) (inr q) = inr (o.0, q.1)

-- two pieces do what they do as one; and behind the end nothing is done
pub record IsCuttable (S A : Type 0) (leaves : A → Bool) (turn : List ℕ → S → S × List A) (Over : S → Type 0) : Type 0 where
  pub still : (piece : List ℕ) (s : S) → Over s → turn piece s ≡ (s, [])
  pub left : (xs ys : List ℕ) (s : S) → list_any leaves (turn xs s).1 ≡ true → turn (xs ++ ys) s ≡ turn xs s
  pub stays : (xs ys : List ℕ) (s : S) → list_any leaves (turn xs s).1 ≡ false → Alike S A Over (turn (xs ++ ys) s) (then_turn (turn ys) (turn xs s))

over-gets : (S A : Type 0) (leaves : A → Bool) (turn : List ℕ → S → S × List A) (Over : S → Type 0) → IsCuttable S A leaves turn Over
    → (pieces : List (List ℕ)) (s : S) → Over s → gets leaves turn pieces s ≡ (s, [])
over-gets S A leaves turn Over c [] s o = refl
over-gets S A leaves turn Over c (p ∷ ps) s o =
    ap (λ (t : S × List A). unless_left (list_any leaves t.1) (gets leaves turn ps) t) (c.still p s o) ∙ over-gets S A leaves turn Over c ps s o

-- whatever comes behind turns that are alike
pub then-alike : (S A : Type 0) (Over : S → Type 0) (next : S → S × List A) → ((s : S) → Over s → next s ≡ (s, [])) → (t u : S × List A) → Alike S A Over t u → Alike S A Over (then_turn next t) (then_turn next u)
then-alike S A Over next still t u a = of a.states
  where
    of : (t.0 ≡ u.0) ⊎ (Over t.0 × Over u.0) → Alike S A Over (then_turn next t) (then_turn next u)
    of (inl e) = record { acts = ap (λ (l : List A). l ++ (next t.0).1) a.acts ∙ ap (λ (s : S). u.1 ++ (next s).1) e; states = inl (ap (λ (s : S). (next s).0) e) }
    of (inr o) =
        let p = still t.0 o.0 in
        let q = still u.0 o.1 in
        record {
          acts = ap (λ (x : S × List A). t.1 ++ x.1) p ∙ append-nil t.1 ∙ a.acts ∙ sym (ap (λ (x : S × List A). u.1 ++ x.1) q ∙ append-nil u.1);
          states = inr (subst (λ (x : S × List A). Over x.0) (sym p) o.0, subst (λ (x : S × List A). Over x.0) (sym q) o.1);
        }

-- the first two pieces as one
merged : (S A : Type 0) (leaves : A → Bool) (turn : List ℕ → S → S × List A) (Over : S → Type 0) → IsCuttable S A leaves turn Over
    → (xs ys : List ℕ) (pieces : List (List ℕ)) (s : S) → Alike S A Over (gets leaves turn ((xs ++ ys) ∷ pieces) s) (gets leaves turn (xs ∷ ys ∷ pieces) s)
merged S A leaves turn Over c xs ys pieces s = first (list_any leaves (turn xs s).1) refl
  where
    -- the second piece leaves the link, or not
    second : list_any leaves (turn xs s).1 ≡ false → (b : Bool) → list_any leaves (turn ys (turn xs s).0).1 ≡ b
        → Alike S A Over (turn (xs ++ ys) s) (then_turn (turn ys) (turn xs s))
        → Alike S A Over (unless_left b (gets leaves turn pieces) (turn (xs ++ ys) s)) (then_turn (λ v. unless_left b (gets leaves turn pieces) (turn ys v)) (turn xs s))
    second goes true e a = a
    second goes false e a =
        let k = then-alike S A Over (gets leaves turn pieces) (over-gets S A leaves turn Over c pieces) (turn (xs ++ ys) s) (then_turn (turn ys) (turn xs s)) a in
        record { acts = k.acts ∙ append_assoc (turn xs s).1 (turn ys (turn xs s).0).1 (gets leaves turn pieces (turn ys (turn xs s).0).0).1; states = k.states }

    first : (b : Bool) → list_any leaves (turn xs s).1 ≡ b
        → Alike S A Over (unless_left (list_any leaves (turn (xs ++ ys) s).1) (gets leaves turn pieces) (turn (xs ++ ys) s)) (unless_left b (gets leaves turn (ys ∷ pieces)) (turn xs s))
    first true e =
        let same = c.left xs ys s e in
        alike-refl S A Over _ _
        (ap (λ (t : S × List A). unless_left (list_any leaves t.1) (gets leaves turn pieces) t) same ∙ ap (λ (b : Bool). unless_left b (gets leaves turn pieces) (turn xs s)) e)
    first false e =
        let a = c.stays xs ys s e in
        let same : list_any leaves (turn (xs ++ ys) s).1 ≡ list_any leaves (turn ys (turn xs s).0).1 =
        ap (list_any leaves) a.acts ∙ list_any-append leaves (turn xs s).1 (turn ys (turn xs s).0).1 ∙ ap (λ (b : Bool). b || list_any leaves (turn ys (turn xs s).0).1) e in
        subst (λ (b : Bool). Alike S A Over (unless_left b (gets leaves turn pieces) (turn (xs ++ ys) s)) (then_turn (gets leaves turn (ys ∷ pieces)) (turn xs s))) (sym same)
        (second e (list_any leaves (turn ys (turn xs s).0).1) refl a)

-- all pieces as one
joined : (S A : Type 0) (leaves : A → Bool) (turn : List ℕ → S → S × List A) (Over : S → Type 0) → IsCuttable S A leaves turn Over
    → (pieces : List (List ℕ)) (p : List ℕ) (s : S) → Alike S A Over (gets leaves turn (concat (p ∷ pieces) ∷ []) s) (gets leaves turn (p ∷ pieces) s)
joined S A leaves turn Over c [] p s = alike-refl S A Over _ _ (ap (λ (x : List ℕ). gets leaves turn (x ∷ []) s) (append-nil p))
joined S A leaves turn Over c (q ∷ pieces) p s =
    let k = joined S A leaves turn Over c pieces (p ++ q) s in
    let whole : concat (p ∷ q ∷ pieces) ≡ concat ((p ++ q) ∷ pieces) = sym (append_assoc p q (concat pieces)) in
    subst (λ (x : List ℕ). Alike S A Over (gets leaves turn (x ∷ []) s) (gets leaves turn (p ∷ q ∷ pieces) s)) (sym whole)
    (alike-trans S A Over _ _ _ k (merged S A leaves turn Over c p q pieces s))

pub cuts-alike : (S A : Type 0) (leaves : A → Bool) (turn : List ℕ → S → S × List A) (Over : S → Type 0) → IsCuttable S A leaves turn Over
    → (p q : List ℕ) (pieces others : List (List ℕ)) (s : S) → concat (p ∷ pieces) ≡ concat (q ∷ others) → Alike S A Over (gets leaves turn (p ∷ pieces) s) (gets leaves turn (q ∷ others) s)
cuts-alike S A leaves turn Over c p q pieces others s e =
    let a = joined S A leaves turn Over c pieces p s in
    let b = joined S A leaves turn Over c others q s in
    alike-trans S A Over _ (gets leaves turn (concat (p ∷ pieces) ∷ []) s) _ (alike-sym S A Over _ _ a)
    (subst (λ (x : List ℕ). Alike S A Over (gets leaves turn (x ∷ []) s) (gets leaves turn (q ∷ others) s)) (sym e) b)
