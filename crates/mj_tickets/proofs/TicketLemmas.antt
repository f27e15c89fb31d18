-- Open tickets whose numbers rise: each is the one of its number, and of its id.
use Rattle.std.proofs.Common.{◌≡◌, ℕ, ◌<◌, ◌==◌, Bool, true, false, cond, List, [], ◌∷◌, map, find, Option, Some, None, refl, sym, ap, subst, ◌∙◌, inl, inr, arith}
use Rattle.std.specs.Str.{bytes_eq}
use Rattle.std.specs.List.{AllByRecursion}
use Rattle.std.proofs.lemmas.Slice.Eq.{bytes_eq-Decides}
use Rattle.std.proofs.lemmas.Bool.{cases_Bool, eqb-true, eq-eqb, false_from_ne_true}
use Rattle.mj_ids.specs.Ids.{number_of}
use Rattle.mj_tickets.specs.Fold.{Ticket, RisesTo, number_in, numbered, IsNamed}
use Rattle.mj_tickets.proofs.RisingLemmas.{all_above}

-- a ticket that was found by its number, where it has this whole id
abbrev pub whole : {B : Type 0} → List ℕ → Option (Ticket B) → Option (Ticket B)
whole id None = None
whole id (Some t) = cond (bytes_eq t.id id) (Some t) None

module _ {B : Type 0} where
  -- a ticket of another number has another id
  other_id : (t : Ticket B) (id : List ℕ) → IsNamed t → (t.number ≡ number_of id → ⊥) → bytes_eq t.id id ≡ false
  other_id t id named other = false_from_ne_true (bytes_eq t.id id) (λ is. other (named ∙ ap number_of ((bytes_eq-Decides t.id id).0 is)))

  none_by_id : (ts : List (Ticket B)) (id : List ℕ) → AllByRecursion IsNamed ts → AllByRecursion (λ m. number_of id < m) (map number_in ts) → find (λ t. bytes_eq t.id id) ts ≡ None
  none_by_id [] id named above = refl
  none_by_id (t ∷ ts) id named above =
      let other : bytes_eq t.id id ≡ false = other_id t id named.0 (λ is. omega (arith, is, above.0)) in
      rw other (none_by_id ts id named.1 above.1)

  pub by_whole_id : (low : ℕ) (ts : List (Ticket B)) (high : ℕ) (id : List ℕ) → AllByRecursion IsNamed ts → RisesTo low (map number_in ts) high
      → find (λ t. bytes_eq t.id id) ts ≡ whole id (find (numbered (number_of id)) ts)
  by_whole_id low [] high id named rise = refl
  by_whole_id low (t ∷ ts) high id named rise =
      elim (cases_Bool (t.number == number_of id)) [
        | inl is ↦
            let behind : find (λ (u : Ticket B). bytes_eq u.id id) ts ≡ None =
            none_by_id ts id named.1 (subst (λ (n : ℕ). AllByRecursion (λ m. n < m) (map number_in ts)) (eqb-true _ _ is) (all_above t.number (map number_in ts) high rise.1)) in
            rw (is, behind) refl
        | inr is ↦
            let other : bytes_eq t.id id ≡ false = other_id t id named.0 (λ same. let yes = eq-eqb _ _ same in cc) in
            rw (is, other) (by_whole_id t.number ts high id named.1 rise.1)
      ]

whole_some : {B : Type 0} (id : List ℕ) (o : Option (Ticket B)) (t : Ticket B) → whole id o ≡ Some t → o ≡ Some t
whole_some id None t e = cc
whole_some id (Some u) t e = chosen (bytes_eq u.id id) e
  where
    chosen : (b : Bool) → cond b (Some u) None ≡ Some t → Some u ≡ Some t
    chosen true h = h
    chosen false h = cc

pub known_numbered : {B : Type 0} (ts : List (Ticket B)) (high : ℕ) (id : List ℕ) (t : Ticket B) → AllByRecursion IsNamed ts → RisesTo 0 (map number_in ts) high
    → find (λ u. bytes_eq u.id id) ts ≡ Some t → find (numbered (number_of id)) ts ≡ Some t
known_numbered ts high id t named rise is = whole_some id (find (numbered (number_of id)) ts) t (sym (by_whole_id 0 ts high id named rise) ∙ is)
