-- A map and a set under byte strings: what a change at one of them leaves at any.
use Rattle.std.proofs.Common.{◌≡◌, ℕ, Bool, true, false, cond, List, Option, Some, refl, sym, ap, subst, ◌∙◌, inl, inr}
use mathlib.Core.Bool.{◌&&◌}
use lib.Pointwise.{bytes_decides, pointwise}
use Rattle.std.specs.Bool.{nat_eq}
use Rattle.std.specs.Cmp.Lexicographic.{nat_list_eq_equiv}
use Rattle.std.specs.HashMap.{HashMap, UpdatesBy}
use Rattle.std.specs.HashSet as sets
use Rattle.std.specs.HashSet.{HashSet}
use Rattle.std.specs.List.{list_any}
use Rattle.std.specs.Map.{AreApart, IsKeyTest, KeepsOthers, lookup}
use Rattle.std.specs.Set.{KeepsOthers as KeepsOtherKeys}
use Rattle.std.specs.Str.{bytes_eq}
use Rattle.std.specs.declared.vec.Vec.{Vec}
use Rattle.std.proofs.lemmas.Bool.{cases_Bool, cond-false, cond-true}
use Rattle.mj_ledger.specs.Found.{found, has}

apart : (bs cs ks : List ℕ) → bytes_eq bs cs ≡ false → bytes_eq bs ks ≡ true → bytes_eq cs ks ≡ false
apart bs cs ks other same = nat_list_eq_equiv.symm cs ks ∙ sym (nat_list_eq_equiv.congr bs ks cs same) ∙ other

kept-entries : {K X : Type 0} (eq : K → K → Bool) (test : K → Bool) (old new : List (K × X)) → KeepsOthers eq test old new → (other : K → Bool) → IsKeyTest eq other → AreApart test other → lookup other new ≡ lookup other old
unfolding KeepsOthers
kept-entries eq test old new kept = kept

kept-keys : {K : Type 0} (eq : K → K → Bool) (test : K → Bool) (old new : List K) → KeepsOtherKeys eq test old new → (other : K → Bool) → IsKeyTest eq other → AreApart test other → list_any other new ≡ list_any other old
unfolding KeepsOtherKeys
kept-keys eq test old new kept = kept

cond-same : {A : Type 0} (b : Bool) (x : A) → cond b x x ≡ x
cond-same true x = refl
cond-same false x = refl

by-bytes : {W : Type 0} (f g : List ℕ → W) (bs : List ℕ) (w : W) → g bs ≡ w → ((cs : List ℕ) → bytes_eq bs cs ≡ false → g cs ≡ f cs) → (cs : List ℕ) → g cs ≡ cond (bytes_eq bs cs) w (f cs)
by-bytes {W} f g bs w here other cs = elim (cases_Bool (bytes_eq bs cs)) [
  | inl same ↦ subst (λ (l : List ℕ). g l ≡ w) ((bytes_decides bs cs).0 same) here ∙ sym (cond-true (bytes_eq bs cs) w (f cs) same)
  | inr false_is ↦ other cs false_is ∙ sym (cond-false (bytes_eq bs cs) w (f cs) false_is)
]

pub book-updates : {Y X S : Type 0} (bs : List ℕ) (m n : HashMap (Vec ℕ Y) X S) (w : Option X) → UpdatesBy (λ x y. pointwise nat_eq x.items y.items) (λ k. bytes_eq bs k.items) m n w
    → (cs : List ℕ) → found n cs ≡ cond (bytes_eq bs cs) w (found m cs)
book-updates {Y} {X} {S} bs m n w h =
    by-bytes (found m) (found n) bs w h.1
    (λ cs false_is. kept-entries (λ (x y : Vec ℕ Y). pointwise nat_eq x.items y.items) (λ (k : Vec ℕ Y). bytes_eq bs k.items) m.entries n.entries h.3 (λ (k : Vec ℕ Y). bytes_eq cs k.items)
    (λ x y. nat_list_eq_equiv.congr cs x.items y.items) (λ k. apart bs cs k.items false_is))

pub set-updates : {Y S : Type 0} (bs : List ℕ) (m n : HashSet (Vec ℕ Y) S) (w : Bool) → sets.UpdatesBy (λ x y. pointwise nat_eq x.items y.items) (λ k. bytes_eq bs k.items) m n w
    → (cs : List ℕ) → has n cs ≡ cond (bytes_eq bs cs) w (has m cs)
set-updates {Y} {S} bs m n w h =
    by-bytes (has m) (has n) bs w h.1
    (λ cs false_is. kept-keys (λ (x y : Vec ℕ Y). pointwise nat_eq x.items y.items) (λ (k : Vec ℕ Y). bytes_eq bs k.items) m.keys n.keys h.3 (λ (k : Vec ℕ Y). bytes_eq cs k.items)
    (λ x y. nat_list_eq_equiv.congr cs x.items y.items) (λ k. apart bs cs k.items false_is))

lent-at : {Y X S A : Type 0} (m : HashMap (Vec ℕ Y) X S) (bs : List ℕ) (was : Option X) (w : X) (F : Option X → A) (G : A → A) → found m bs ≡ was → F (Some w) ≡ G (F was)
    → (q : List ℕ) (b : Bool) → bytes_eq bs q ≡ b → F (cond b (Some w) (found m q)) ≡ cond b (G (F (found m q))) (F (found m q))
lent-at {Y} {X} {S} {A} m bs was w F G here is q true same = is ∙ ap (λ (o : Option X). G (F o)) (sym here ∙ ap (found m) ((bytes_decides bs q).0 same))
lent-at m bs was w F G here is q false same = refl

-- what is read of a map at a byte string, after a write at another
pub lent : {Y X S A : Type 0} (m n : HashMap (Vec ℕ Y) X S) (bs : List ℕ) (was : Option X) (w : X) (F : Option X → A) (G : A → A) → ((q : List ℕ) → found n q ≡ cond (bytes_eq bs q) (Some w) (found m q)) → found m bs ≡ was
    → F (Some w) ≡ G (F was) → (q : List ℕ) → F (found n q) ≡ cond (bytes_eq bs q) (G (F (found m q))) (F (found m q))
lent {Y} {X} {S} {A} m n bs was w F G writes here is q = ap F (writes q) ∙ lent-at m bs was w F G here is q (bytes_eq bs q) refl

-- where nothing that is read changes
pub lent-same : {Y X S A : Type 0} (m n : HashMap (Vec ℕ Y) X S) (bs : List ℕ) (was : Option X) (w : X) (F : Option X → A) → ((q : List ℕ) → found n q ≡ cond (bytes_eq bs q) (Some w) (found m q)) → found m bs ≡ was
    → F (Some w) ≡ F was → (q : List ℕ) → F (found n q) ≡ F (found m q)
lent-same {Y} {X} {S} {A} m n bs was w F writes here is q = lent m n bs was w F (λ x. x) writes here is q ∙ cond-same (bytes_eq bs q) (F (found m q))

pub cond-and : {A : Type 0} (a b : Bool) (x y : A) → cond (a && b) x y ≡ cond a (cond b x y) y
cond-and true b x y = refl
cond-and false b x y = refl
