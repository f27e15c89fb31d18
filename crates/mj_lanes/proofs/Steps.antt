-- Each kind of step keeps the rule.
use Rattle.std.proofs.Common.{◌≡◌, ◌≢◌, ◌==◌, ℕ, zero, suc, ◌+◌, ◌<◌, Bool, true, true≢false, cond, List, [], ◌∷◌, ◌++◌, length, set, filter, sym, refl, ap, ◌∙◌, subst, ◌⊎◌, inl, inr, ⊎_elim, append_assoc, append-nil, lt_of_not-le, eq-eqb, ne_eqb, arith}
use Rattle.std.proofs.lemmas.List.Elements.{filter-append}
use mathlib.Core.Option.{some, some-injective, some-ne-none}
use lib.ListN.{get_elem?}
use Rattle.crossbeam_channel.specs.Fifo.{Pushes, Pops, Forks, Merges, Learns}
use Rattle.atomic_table.proofs.Lists.{at_set}
use Rattle.mj_lanes.specs.declared.view.View.{View}
use Rattle.mj_lanes.specs.Rule.{of, sender, hub, hub_with, spent, InOrder, Sends, Takes, Begins}

-- a function changed at one place
put_at : (ℕ → ℕ) → ℕ → ℕ → ℕ → ℕ
put_at f s n k = cond (k == s) n (f k)

put_here : (f : ℕ → ℕ) (s n : ℕ) → put_at f s n s ≡ n
unfolding put_at
put_here f s n = ap (λ b. cond b n (f s)) (eq-eqb s s refl)

put_else : (f : ℕ → ℕ) (s n k : ℕ) → k ≢ s → put_at f s n k ≡ f k
unfolding put_at
put_else f s n k ne = ap (λ b. cond b n (f k)) (ne_eqb k s ne)

module _ {V : Type 0} where
  each_set : (F : ℕ → V → Type 0) (views : List V) (i : ℕ) (w : V) → F i w → ((j : ℕ) (u : V) → j ≢ i → get_elem? views j ≡ some u → F j u) → (j : ℕ) (u : V) → get_elem? (set views i w) j ≡ some u → F j u
  each_set F views i w mine others j u e = ⊎_elim (λ (x : (j ≡ i) × (w ≡ u)). subst (λ (y : ℕ × V). F y.0 y.1) (λ k. (sym x.0 k, x.1 k)) mine)
      (λ (x : (j ≢ i) × (get_elem? views j ≡ some u)). others j u x.0 x.1) (at_set views i j w u e)

  at_end : (l : List V) (a b : V) (j : ℕ) → get_elem? (l ++ a ∷ []) j ≡ some b → (get_elem? l j ≡ some b) ⊎ ((j ≡ length l) × (a ≡ b))
  at_end [] a b zero e = inr (refl, some-injective a b e)
  at_end [] a b (suc j) e = absurd (some-ne-none b (sym e))
  at_end (x ∷ xs) a b zero e = inl e
  at_end (x ∷ xs) a b (suc j) e = ⊎_elim (λ (h : get_elem? xs j ≡ some b). inl h) (λ (h : (j ≡ length xs) × (a ≡ b)). inr (ap suc h.0, h.1)) (at_end xs a b j e)

  each_more : (F : ℕ → V → Type 0) (views : List V) (a : V) → ((j : ℕ) (u : V) → get_elem? views j ≡ some u → F j u) → F (length views) a → (j : ℕ) (u : V) → get_elem? (views ++ a ∷ []) j ≡ some u → F j u
  each_more F views a old new j u e = ⊎_elim (λ (h : get_elem? views j ≡ some u). old j u h)
      (λ (h : (j ≡ length views) × (a ≡ u)). subst (λ (y : ℕ × V). F y.0 y.1) (λ k. (sym h.0 k, h.1 k)) new) (at_end views a u j e)

  not_empty : (xs ys : List V) (x : V) → xs ++ x ∷ ys ≡ [] → ⊥
  not_empty [] ys x e = cc
  not_empty (z ∷ zs) ys x e = cc

module _ {T : Type 0} (from : T → ℕ) where
  more_its : (s : ℕ) (xs : List T) (x : T) → from x ≡ s → of from s (xs ++ x ∷ []) ≡ of from s xs ++ x ∷ []
  more_its s xs x its = filter-append (λ y. from y == s) xs (x ∷ []) ∙ ap (λ b. of from s xs ++ cond b (x ∷ []) []) (eq-eqb (from x) s its)

  more_others : (s : ℕ) (xs : List T) (x : T) → from x ≢ s → of from s (xs ++ x ∷ []) ≡ of from s xs
  more_others s xs x its = filter-append (λ y. from y == s) xs (x ∷ []) ∙ ap (λ b. of from s xs ++ cond b (x ∷ []) []) (ne_eqb (from x) s its) ∙ append-nil (of from s xs)

  it_is_there : (xs ys : List T) (x : T) → of from (from x) (xs ++ x ∷ ys) ≡ [] → ⊥
  it_is_there xs ys x e =
      let p : T → Bool = λ y. from y == from x in
      not_empty (filter p xs) (filter p ys) x (ap (λ b. filter p xs ++ cond b (x ∷ filter p ys) (filter p ys)) (sym (eq-eqb (from x) (from x) refl)) ∙ sym (filter-append p xs (x ∷ ys)) ∙ e)

  abbrev Sender : (ℕ → ℕ) → ℕ → List T → ℕ → View T → Type 0
  Sender pass_at made all i v = v.sends ≡ true → (v.from < made) × (v.sent ≡ of from v.from all) × (pass_at v.from ≡ i)

  abbrev Hub : ℕ → List T → ℕ → ℕ → View T → Type 0
  Hub hub_at taken made i v = v.takes ≡ true → (v.taken ≡ taken) × (v.made ≡ made) × (hub_at ≡ i)

  pub begins : InOrder from [] (hub [] 0 ∷ [])
  begins = record {
    taken = [];
    made = 0;
    hub_at = 0;
    pass_at = λ _. 0;
    unmade = λ s _. refl;
    senders = each_more (Sender (λ _. 0) 0 []) [] (hub [] 0) (λ j u e. absurd (some-ne-none u (sym e))) (λ e. absurd (true≢false (sym e)));
    hubs = each_more (Hub 0 [] 0) [] (hub [] 0) (λ j u e. absurd (some-ne-none u (sym e))) (λ _. (refl, refl, refl));
  }

  pub sends : (n i : ℕ) (v : View T) (x : T) → v.sends ≡ true → from x ≡ v.from → Pushes (InOrder from) n i v x (Sends v x)
  sends n i v x may its items views _ h at =
      let w : View T = record v { sent = v.sent ++ x ∷ [] } in
      let mine = h.senders i v at may in
      let all : List T = h.taken ++ items in
      let next : h.taken ++ (items ++ x ∷ []) ≡ all ++ x ∷ [] = sym (append_assoc h.taken items (x ∷ [])) in (
        w,
        record {
          taken = h.taken;
          made = h.made;
          hub_at = h.hub_at;
          pass_at = h.pass_at;
          unmade = λ s le. ap (of from s) next ∙ more_others s all x (λ e. let lt : v.from < h.made = mine.0 in absurd (omega arith)) ∙ h.unmade s le;
          senders = each_set (Sender h.pass_at h.made (h.taken ++ (items ++ x ∷ []))) views i w
              (λ _. (mine.0, ap (λ l. l ++ x ∷ []) mine.1 ∙ sym (ap (of from v.from) next ∙ more_its v.from all x its), mine.2))
              (λ j u other e s. let t = h.senders j u e s in (t.0, t.1 ∙ sym (ap (of from u.from) next ∙ more_others u.from all x (λ same. other (sym t.2 ∙ ap h.pass_at (sym same ∙ its) ∙ mine.2))), t.2));
          hubs = each_set (Hub h.hub_at h.taken h.made) views i w (h.hubs i v at) (λ j u other e. h.hubs j u e);
        },
        refl,
      )

  pub takes : (i : ℕ) (v : View T) → v.takes ≡ true → Pops (InOrder from) i v (Takes from v)
  takes i v may x items views h at =
      let w : View T = record v { taken = v.taken ++ x ∷ [] } in
      let mine = h.hubs i v at may in
      let taken : List T = h.taken ++ x ∷ [] in
      let same : taken ++ items ≡ h.taken ++ (x ∷ items) = append_assoc h.taken (x ∷ []) items in (
        w,
        record {
          taken = taken;
          made = h.made;
          hub_at = h.hub_at;
          pass_at = h.pass_at;
          unmade = λ s le. ap (of from s) same ∙ h.unmade s le;
          senders = each_set (Sender h.pass_at h.made (taken ++ items)) views i w
              (λ s. let t = h.senders i v at s in (t.0, t.1 ∙ sym (ap (of from v.from) same), t.2))
              (λ j u other e s. let t = h.senders j u e s in (t.0, t.1 ∙ sym (ap (of from u.from) same), t.2));
          hubs = each_set (Hub h.hub_at taken h.made) views i w
              (λ _. (ap (λ l. l ++ x ∷ []) mine.0, mine.1, mine.2))
              (λ j u other e t. absurd (other (sym (h.hubs j u e t).2 ∙ mine.2)));
        },
        (refl, subst (λ n. from x < n) (sym mine.1) (lt_of_not-le (λ le. it_is_there h.taken items x (h.unmade (from x) le)))),
      )

  pub makes : (i : ℕ) (v : View T) → v.takes ≡ true → Forks (InOrder from) i v (record v { made = v.made + 1 }) (sender v.made [])
  makes i v may items views h at =
      let left : View T = record v { made = v.made + 1 } in
      let vs : List (View T) = set views i left in
      let mine = h.hubs i v at may in
      let is : v.made ≡ h.made = mine.1 in
      let pass_at : ℕ → ℕ = put_at h.pass_at v.made (length vs) in
      let all : List T = h.taken ++ items in
      let keeps : (j : ℕ) (u : View T) → get_elem? views j ≡ some u → Sender pass_at (v.made + 1) all j u
      = λ j u e s. let t = h.senders j u e s in let lt : u.from < h.made = t.0 in (omega arith, t.1, put_else h.pass_at v.made (length vs) u.from (λ same. absurd (omega arith)) ∙ t.2) in
      record {
        taken = h.taken;
        made = v.made + 1;
        hub_at = h.hub_at;
        pass_at = pass_at;
        unmade = λ s le. h.unmade s (omega arith);
        senders = each_more (Sender pass_at (v.made + 1) all) vs (sender v.made [])
            (each_set (Sender pass_at (v.made + 1) all) views i left (keeps i v at) (λ j u _ e. keeps j u e))
            (λ _. (omega arith, sym (h.unmade v.made (omega arith)), put_here h.pass_at v.made (length vs)));
        hubs = each_more (Hub h.hub_at h.taken (v.made + 1)) vs (sender v.made [])
            (each_set (Hub h.hub_at h.taken (v.made + 1)) views i left (λ _. (mine.0, refl, mine.2)) (λ j u other e t. absurd (other (sym (h.hubs j u e t).2 ∙ mine.2))))
            (λ t. absurd (true≢false (sym t)));
      }

  pub gives_back : (i : ℕ) (v : View T) (other : ℕ) (w : View T) → v.takes ≡ true → w.sends ≡ true → Merges (InOrder from) i v other w (hub_with w.from w.sent v.taken v.made) spent
  gives_back i v other w may ws items views h at apart at' =
      let both : View T = hub_with w.from w.sent v.taken v.made in
      let vs : List (View T) = set views i both in
      let mine = h.hubs i v at may in
      let was : get_elem? views other ≡ some w = ⊎_elim (λ (x : (other ≡ i) × (both ≡ w)). absurd (apart x.0)) (λ (x : (other ≢ i) × (get_elem? views other ≡ some w)). x.1) (at_set views i other both w at') in
      let theirs = h.senders other w was ws in
      let pass_at : ℕ → ℕ = put_at h.pass_at w.from i in
      let all : List T = h.taken ++ items in
      let Now : ℕ → View T → Type 0 = λ j u. j ≢ other → Sender pass_at h.made all j u in
      let now : (j : ℕ) (u : View T) → get_elem? vs j ≡ some u → Now j u
      = each_set Now views i both (λ _ _. (theirs.0, theirs.1, put_here h.pass_at w.from i))
      (λ j u _ e different s. let t = h.senders j u e s in (t.0, t.1, put_else h.pass_at w.from i u.from (λ same. different (sym t.2 ∙ ap h.pass_at same ∙ theirs.2)) ∙ t.2)) in
      record {
        taken = h.taken;
        made = h.made;
        hub_at = h.hub_at;
        pass_at = pass_at;
        unmade = h.unmade;
        senders = each_set (Sender pass_at h.made all) vs other spent (λ s. absurd (true≢false (sym s))) (λ j u different e. now j u e different);
        hubs = each_set (Hub h.hub_at h.taken h.made) vs other spent (λ t. absurd (true≢false (sym t)))
            (λ j u _. each_set (Hub h.hub_at h.taken h.made) views i both (λ _. mine) (λ k y different e t. absurd (different (sym (h.hubs k y e t).2 ∙ mine.2))) j u);
      }

  pub compares : (i : ℕ) (v : View T) → v.takes ≡ true → v.sends ≡ true → Learns (InOrder from) i v (λ items. Begins (of from v.from v.taken) v.sent)
  compares i v may sent items views h at =
      let mine = h.hubs i v at may in
      let theirs = h.senders i v at sent in
      record {
        rest = of from v.from items;
        is = theirs.1 ∙ filter-append (λ y. from y == v.from) h.taken items ∙ ap (λ l. of from v.from l ++ of from v.from items) (sym mine.0);
      }
