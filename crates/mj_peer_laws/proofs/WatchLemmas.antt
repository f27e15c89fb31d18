-- One list of sights behind another.
use Rattle.std.proofs.Common.{◌≡◌, ℕ, Bool, true, false, ◌&&◌, List, [], ◌∷◌, ◌++◌, drop, refl, sym, ap, ◌∙◌}
use Rattle.std.proofs.lemmas.Bool.{false≢true}
use Rattle.std.proofs.lemmas.List.{take-append-drop}
use Rattle.std.proofs.lemmas.List.Folds.{list_any-append}
use Rattle.std.specs.List.{list_any}
use Rattle.std.specs.Prelude.{◌||◌, take}
use Rattle.mj_peer_laws.specs.Watching.{AreRight, seen}

pub right-append : {X S : Type 0} (right : X → S → Type 0) (sees : X → S → S) (xs ys : List X) (s : S) → AreRight right sees xs s → AreRight right sees ys (seen sees xs s)
    → AreRight right sees (xs ++ ys) s
right-append right sees [] ys s a b = b
right-append right sees (x ∷ xs) ys s a b = (a.0, right-append right sees xs ys (sees x s) a.1 b)

pub seen-append : {X S : Type 0} (sees : X → S → S) (xs ys : List X) (s : S) → seen sees (xs ++ ys) s ≡ seen sees ys (seen sees xs s)
seen-append sees [] ys s = refl
seen-append sees (x ∷ xs) ys s = seen-append sees xs ys (sees x s)

-- ---- tests

pub both : (a b : Bool) → (a && b) ≡ true → (a ≡ true) × (b ≡ true)
both true b e = (refl, e)
both false b e = absurd (false≢true e)

or-right : (a b : Bool) → b ≡ true → (a || b) ≡ true
or-right true b e = refl
or-right false b e = e

-- what is found behind a place is found
pub any-behind : {X : Type 0} (p : X → Bool) (n : ℕ) (xs : List X) → list_any p (drop n xs) ≡ true → list_any p xs ≡ true
any-behind p n xs e =
    sym (ap (λ (l : List _). list_any p l) (take-append-drop n xs)) ∙ list_any-append p (take n xs) (drop n xs) ∙ or-right (list_any p (take n xs)) (list_any p (drop n xs)) e
