-- Ends that are kept as numbers, once a row leaves the chain or comes.
use Rattle.std.proofs.Common.{◌≡◌, ℕ, suc, ◌+◌, ◌<◌, ◌==◌, Bool, true, false, cond, List, [], ◌∷◌, ◌++◌, length, length-append, Option, Some, None, refl, sym, ◌∙◌, ap, arith, unwrap_or}
use Rattle.std.proofs.lemmas.Bool.Decides.{nat_tests}
use Rattle.mj_chain.specs.declared.node.Ends.{Ends}
use Rattle.mj_chain.specs.declared.node.Link.{Link}
use Rattle.mj_chain.specs.Links.{ends_of, link_in, unended}
use Rattle.mj_chain.specs.Seats.{Seat, are_distinct, has_key, head_of, is_no_key, last_from, seat_key, take_out}
use Rattle.mj_chain.proofs.ListLemmas.{ends-append, ends-out}
use Rattle.mj_hall.specs.Ends.{EndsAre}
use Rattle.mj_hall.proofs.AskingLemmas.{length-out}

zero_is : (n : ℕ) → (n == 0) ≡ true → n ≡ 0
zero_is n e = grind (arith, nat_tests)

zero_test : (n : ℕ) → n ≡ 0 → (n == 0) ≡ true
zero_test n e = grind (arith, nat_tests)

some_test : (n m : ℕ) → n ≡ suc m → (n == 0) ≡ false
some_test n m e = grind (arith, nat_tests)

abbrev both_ends : Option ℕ → Option ℕ → Ends
both_ends first last = record { first = first; last = last }

some_of : (o : Option ℕ) → is_no_key o ≡ false → Some (unwrap_or o 0) ≡ o
some_of None e = cc
some_of (Some k) e = refl

module _ {T : Type 0} where
  no_last : (k : ℕ) (xs : List (Seat T)) → is_no_key (last_from seat_key (Some k) xs) ≡ false
  no_last k [] = refl
  no_last k (x ∷ xs) = no_last x.key xs

  -- where the list isn't empty its ends are the numbers
  pub ends_some : (first last count : ℕ) (xs : List (Seat T)) → EndsAre first last count xs → (count == 0) ≡ false → ends_of seat_key xs ≡ both_ends (Some first) (Some last)
  ends_some first last count xs are e = sym are.ends ∙ ap (λ (b : Bool). cond b (both_ends None None) (both_ends (Some first) (Some last))) e

  from_ends : (first last count : ℕ) (xs : List (Seat T)) → count ≡ length xs → (is_no_key (head_of seat_key xs) ≡ false → both_ends (Some first) (Some last) ≡ ends_of seat_key xs) → EndsAre first last count xs
  from_ends first last count [] len is = record { ends = ap (λ (b : Bool). cond b (both_ends None None) (both_ends (Some first) (Some last))) (zero_test count len); len = len }
  from_ends first last count (x ∷ xs) len is = record { ends = ap (λ (b : Bool). cond b (both_ends None None) (both_ends (Some first) (Some last))) (some_test count (length xs) len) ∙ is refl; len = len }

  last_some : (xs : List (Seat T)) → is_no_key (head_of seat_key xs) ≡ false → is_no_key (last_from seat_key None xs) ≡ false
  last_some [] e = cc
  last_some (x ∷ xs) e = no_last x.key xs

  pub ends_out : (first last count first_new last_new count_new k : ℕ) (xs : List (Seat T)) (gone : Link) → EndsAre first last count xs → are_distinct seat_key xs ≡ true → has_key seat_key k xs ≡ true → gone ≡ link_in seat_key k xs
      → first_new ≡ cond (is_no_key gone.prev) (unwrap_or gone.next 0) first → last_new ≡ cond (is_no_key gone.next) (unwrap_or gone.prev 0) last → count_new + 1 ≡ count → EndsAre first_new last_new count_new (take_out seat_key k xs)
  ends_out first last count first_new last_new count_new k xs gone are d there link first_is last_is count_is =
      from_ends first_new last_new count_new (take_out seat_key k xs) (shorter (length-out k xs d there) are.len count_is) filled
    where
      shorter : {l m c n : ℕ} → l + 1 ≡ m → c ≡ m → n + 1 ≡ c → n ≡ l
      shorter p q r = omega arith

      was : ends_of seat_key xs ≡ both_ends (Some first) (Some last)
      was = ends_some first last count xs are (some_test count count_new (grow count_is))
        where
          grow : {n c : ℕ} → n + 1 ≡ c → c ≡ suc n
          grow e = omega arith

      left : ends_of seat_key (take_out seat_key k xs) ≡ both_ends (cond (is_no_key gone.prev) gone.next (Some first)) (cond (is_no_key gone.next) gone.prev (Some last))
      left = ends-out seat_key k xs d there ∙ ap (λ (l : Link). unended l (ends_of seat_key xs)) (sym link) ∙ ap (unended gone) was

      pick : (b : Bool) (o : Option ℕ) (n : ℕ) → is_no_key (cond b o (Some n)) ≡ false → Some (cond b (unwrap_or o 0) n) ≡ cond b o (Some n)
      pick true o n e = some_of o e
      pick false o n e = refl

      filled : is_no_key (head_of seat_key (take_out seat_key k xs)) ≡ false → both_ends (Some first_new) (Some last_new) ≡ ends_of seat_key (take_out seat_key k xs)
      filled e =
          let f = pick (is_no_key gone.prev) gone.next first (ap (λ (q : Ends). is_no_key q.first) (sym left) ∙ e) in
          let l = pick (is_no_key gone.next) gone.prev last (ap (λ (q : Ends). is_no_key q.last) (sym left) ∙ last_some (take_out seat_key k xs) e) in
          ap (λ (n : ℕ). both_ends (Some n) (Some last_new)) first_is ∙ ap (λ (n : ℕ). both_ends (Some (cond (is_no_key gone.prev) (unwrap_or gone.next 0) first)) (Some n)) last_is
          ∙ ap (λ (o : Option ℕ). both_ends o (Some (cond (is_no_key gone.next) (unwrap_or gone.prev 0) last))) f ∙ ap (both_ends (cond (is_no_key gone.prev) gone.next (Some first))) l ∙ sym left

  pub ends_in : (first last count first_new last_new count_new k : ℕ) (v : T) (xs : List (Seat T)) → EndsAre first last count xs
      → first_new ≡ cond (count == 0) k first → last_new ≡ k → count_new ≡ count + 1 → EndsAre first_new last_new count_new (xs ++ record { key = k; value = v } ∷ [])
  ends_in first last count first_new last_new count_new k v xs are first_is last_is count_is =
      from_ends first_new last_new count_new (xs ++ record { key = k; value = v } ∷ []) (longer are.len (length-append xs (record { key = k; value = v } ∷ [])) count_is) (λ e. filled xs are)
    where
      longer : {c l n m : ℕ} → c ≡ l → m ≡ l + 1 → n ≡ c + 1 → n ≡ m
      longer p q r = omega arith

      filled : (ys : List (Seat T)) → EndsAre first last count ys → both_ends (Some first_new) (Some last_new) ≡ ends_of seat_key (ys ++ record { key = k; value = v } ∷ [])
      filled [] is =
          let f : first_new ≡ k = first_is ∙ ap (λ (b : Bool). cond b k first) (zero_test count is.len) in
          ap (λ (n : ℕ). both_ends (Some n) (Some last_new)) f ∙ ap (λ (n : ℕ). both_ends (Some k) (Some n)) last_is
      filled (y ∷ ys) is =
          let some : (count == 0) ≡ false = some_test count (length ys) is.len in
          let f : first_new ≡ first = first_is ∙ ap (λ (b : Bool). cond b k first) some in
          let kept : Some y.key ≡ Some first = ap (λ (q : Ends). q.first) (ends_some first last count (y ∷ ys) is some) in
          ap (λ (n : ℕ). both_ends (Some n) (Some last_new)) f ∙ ap (λ (n : ℕ). both_ends (Some first) (Some n)) last_is ∙ ap (λ (o : Option ℕ). both_ends o (Some k)) (sym kept)
          ∙ ap (both_ends (Some y.key)) (sym (ap (λ (q : Ends). q.last) (ends-append seat_key (y ∷ ys) (record { key = k; value = v }))))

-- where a key stands the count isn't 0
pub count_some : {T : Type 0} (first last count k : ℕ) (xs : List (Seat T)) → EndsAre first last count xs → has_key seat_key k xs ≡ true → 0 < count
count_some first last count k [] are there = cc
count_some first last count k (x ∷ xs) are there = let len : count ≡ suc (length xs) = are.len in omega arith
