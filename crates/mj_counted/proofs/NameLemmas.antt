-- Names by their bytes: what a change at one leaves at another.
use Rattle.std.proofs.Common.{◌≡◌, ℕ, Bool, true, false, cond, List, Option, None, Vec, Global, refl, sym, ◌∙◌, subst}
use Rattle.std.specs.Ordering.{is_eq, nat_cmp}
use Rattle.std.specs.Cmp.{eq_by_cmp_equiv}
use Rattle.std.specs.Cmp.Lexicographic.{slice_cmp, bytes_decides, nat_list_cmp_total, nat_list_eq_equiv}
use Rattle.std.specs.Str.{bytes_eq}
use Rattle.std.specs.BTreeMap as tree
use Rattle.std.specs.BTreeMap.{BTreeMap}
use Rattle.std.specs.Map.{lookup, IsKeyTest, AreApart, KeepsOthers}
use Rattle.std.proofs.lemmas.Map.Text.{is_eq-slice_cmp}

abbrev at_name : List ℕ → {X : Type 0} → BTreeMap (Vec ℕ Global) X → Option X
at_name name m = tree.get_by (λ k. slice_cmp nat_cmp name k.items) m

apart : (bs cs ks : List ℕ) → bytes_eq bs cs ≡ false → is_eq (slice_cmp nat_cmp bs ks) ≡ true → is_eq (slice_cmp nat_cmp cs ks) ≡ false
apart bs cs ks n y = is_eq-slice_cmp cs ks ∙ nat_list_eq_equiv.symm cs ks ∙ sym (nat_list_eq_equiv.congr bs ks cs (sym (is_eq-slice_cmp bs ks) ∙ y)) ∙ n

other_entries : {K X : Type 0} (eq : K → K → Bool) (test : K → Bool) (old new : List (K × X)) → KeepsOthers eq test old new → (other : K → Bool) → IsKeyTest eq other → AreApart test other → lookup other new ≡ lookup other old
unfolding KeepsOthers
other_entries eq test old new h = h

pub name_updates : (bs : List ℕ) {X : Type 0} (m n : BTreeMap (Vec ℕ Global) X) (w : Option X) → tree.UpdatesBy (λ x y. slice_cmp nat_cmp x.items y.items) (λ k. slice_cmp nat_cmp bs k.items) m n w
    → (cs : List ℕ) → at_name cs n ≡ cond (bytes_eq bs cs) w (at_name cs m)
name_updates bs m n w h cs = of (bytes_eq bs cs) refl
  where
    of : (b : Bool) → bytes_eq bs cs ≡ b → at_name cs n ≡ cond b w (at_name cs m)
    of true y = subst (λ (l : List ℕ). at_name l n ≡ w) ((bytes_decides bs cs).0 y) h.1
    of false f = other_entries _ _ _ _ h.3 _ (λ x y. (eq_by_cmp_equiv nat_list_cmp_total).congr cs x.items y.items) (λ k. apart bs cs k.items f)

pub insert_updates : (key : Vec ℕ Global) (name read : List ℕ) {X : Type 0} (m n : BTreeMap (Vec ℕ Global) X) (w : Option X) → key.items ≡ read → read ≡ name → tree.UpdatesBy (λ x y. slice_cmp nat_cmp x.items y.items) (λ k. slice_cmp nat_cmp key.items k.items) m n w
    → (cs : List ℕ) → at_name cs n ≡ cond (bytes_eq name cs) w (at_name cs m)
insert_updates key name read m n w is same h cs = subst (λ (bs : List ℕ). at_name cs n ≡ cond (bytes_eq bs cs) w (at_name cs m)) (is ∙ same) (name_updates key.items m n w h cs)

pub remove_updates : (name read : List ℕ) {X : Type 0} (m n : BTreeMap (Vec ℕ Global) X) → read ≡ name → tree.UpdatesBy (λ x y. slice_cmp nat_cmp x.items y.items) (λ k. slice_cmp nat_cmp read k.items) m n None
    → (cs : List ℕ) → at_name cs n ≡ cond (bytes_eq name cs) None (at_name cs m)
remove_updates name read m n same h cs = subst (λ (bs : List ℕ). at_name cs n ≡ cond (bytes_eq bs cs) None (at_name cs m)) same (name_updates read m n None h cs)
