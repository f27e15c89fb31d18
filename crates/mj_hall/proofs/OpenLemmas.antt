-- A desk that is opened, or shut.
use Rattle.std.proofs.Common.{◌≡◌, ℕ, ◌==◌, Bool, true, false, cond, ◌&&◌, List, [], ◌∷◌, Option, Some, None, is_some, refl, sym, ◌∙◌, ap, subst, arith}
use Rattle.std.specs.List.{filter}
use Rattle.std.specs.Str.{bytes_eq}
use Rattle.std.specs.Cmp.Lexicographic.{bytes_decides}
use Rattle.std.proofs.lemmas.Bool.{and_parts}
use Rattle.std.proofs.lemmas.Bool.Decides.{nat_tests}
use Rattle.mj_counted.specs.declared.index.Index.{Index}
use Rattle.mj_counted.specs.declared.rows.Rows.{Rows}
use Rattle.mj_counted.specs.Names.{key_of}
use Rattle.mj_counted.specs.Rows.{entry}
use Rattle.mj_chain.specs.declared.desk.Desk.{Desk}
use Rattle.mj_chain.specs.declared.node.Ends.{Ends}
use Rattle.mj_chain.specs.Links.{ends_of}
use Rattle.mj_chain.specs.Seats.{Seat, are_distinct, found, has_key, head_of, seat_key}
use Rattle.mj_chain.proofs.ListLemmas.{distinct_parts, same_key}
use Rattle.mj_chain.proofs.RowLemmas.{found-key}
use Rattle.mj_hall.specs.declared.kept.Queued.{Queued}
use Rattle.mj_hall.specs.declared.kept.Worker.{Worker}
use Rattle.mj_hall.specs.Asking.{of_desk}
use Rattle.mj_hall.specs.Serving.{same_bool, workers_at}
use Rattle.mj_hall.specs.Desks.{Desks, desk_of}
use Rattle.mj_hall.proofs.AskingLemmas.{in_chain}

number_is : (a n : ℕ) → (a == n) ≡ true → a ≡ n
number_is a n e = grind (arith, nat_tests)

own_number : (n : ℕ) → (n == n) ≡ true
own_number n = grind (arith, nat_tests)

module _ {T : Type 0} where
  -- where none that is found passes, none passes
  pub none_of : (test : T → Bool) (xs : List (Seat T)) → are_distinct seat_key xs ≡ true → ((k : ℕ) (v : T) → found k xs ≡ Some v → test v ≡ false) → filter (λ s. test s.value) xs ≡ []
  none_of test [] d none = refl
  none_of test (s ∷ ss) d none =
      let first : test s.value ≡ false = none s.key s.value (head_found (own_number s.key)) in
      rw first (none_of test ss apart.1 (λ k v e. none k v (other k v e (s.key == k) refl ∙ e)))
    where
      apart : (has_key seat_key s.key ss ≡ false) × (are_distinct seat_key ss ≡ true)
      apart = distinct_parts seat_key s ss d

      head_found : (s.key == s.key) ≡ true → found s.key (s ∷ ss) ≡ Some s.value
      head_found e = rw e refl

      other : (k : ℕ) (v : T) → found k ss ≡ Some v → (b : Bool) → (s.key == k) ≡ b → found k (s ∷ ss) ≡ found k ss
      other k v e true f =
          let there : has_key seat_key s.key ss ≡ true = subst (λ (i : ℕ). has_key seat_key i ss ≡ true) (sym (same_key s.key k f)) (found-key k ss v e) in
          let missing : has_key seat_key s.key ss ≡ false = apart.0 in
          cc
      other k v e false f = rw f refl

  -- a chain without a first is empty
  no_head : (k : ℕ) (xs : List (Seat T)) → is_some (head_of seat_key xs) ≡ false → has_key seat_key k xs ≡ false
  no_head k [] e = refl
  no_head k (s ∷ ss) e = cc

free_of : {A : Type 0} (o : Option A) (x : A) → o ≡ None → o ≡ Some x → true ≡ false
free_of o x e f = cc

wrong : (A : Type 0) → true ≡ false → A
wrong A e = cc

abbrev empty : Ends
empty = record { first = None; last = None }

abbrev Opened : List ℕ → ℕ → Index → Index → Type 0
Opened name d old new = (q : List ℕ) → key_of new q ≡ cond (bytes_eq name q) (Some d) (key_of old q)

abbrev Shut : List ℕ → Index → Index → Type 0
Shut name old new = (q : List ℕ) → key_of new q ≡ cond (bytes_eq name q) None (key_of old q)

decides : (name q : List ℕ) → bytes_eq name q ≡ true → name ≡ q
decides name q e = (bytes_decides name q).0 e

module _ (desks desks_new : Rows Desk) (names names_new : Index) (es : List (Seat Queued)) (ws : List (Seat Worker)) (name : List ℕ) (d : ℕ) (are : Desks desks names es ws) where
  -- nobody is at a desk that isn't there
  unnamed : entry desks d ≡ None → (q : List ℕ) → key_of names q ≡ Some d → true ≡ false
  unnamed free q e = free_of (entry desks d) (desk_of d es ws) free (are.each q d e)

  no_request : are_distinct seat_key es ≡ true → entry desks d ≡ None → of_desk d es ≡ []
  no_request distinct free = none_of (λ (v : Queued). v.desk == d) es distinct (λ k v e. decide k v e (v.desk == d) refl)
    where
      decide : (k : ℕ) (v : Queued) → found k es ≡ Some v → (b : Bool) → (v.desk == d) ≡ b → (v.desk == d) ≡ false
      decide k v e true f = wrong _ (unnamed free v.request.service (are.asked k v e ∙ ap (λ (n : ℕ). Some n) (number_is v.desk d f)))
      decide k v e false f = f

  no_worker : (busy : Bool) → are_distinct seat_key ws ≡ true → entry desks d ≡ None → workers_at busy d ws ≡ []
  no_worker busy distinct free = none_of (λ (v : Worker). same_bool busy v.busy && (v.desk == d)) ws distinct (λ k v e. decide k v e (same_bool busy v.busy && (v.desk == d)) refl)
    where
      decide : (k : ℕ) (v : Worker) → found k ws ≡ Some v → (b : Bool) → (same_bool busy v.busy && (v.desk == d)) ≡ b → (same_bool busy v.busy && (v.desk == d)) ≡ false
      decide k v e true f = wrong _ (unnamed free v.waiter.service (are.served k v e ∙ ap (λ (n : ℕ). Some n) (number_is v.desk d (and_parts (same_bool busy v.busy) (v.desk == d) f).1)))
      decide k v e false f = f

  pub desks-open : are_distinct seat_key es ≡ true → are_distinct seat_key ws ≡ true → key_of names name ≡ None → entry desks d ≡ None
      → ((k : ℕ) → entry desks_new k ≡ cond (k == d) (Some (record { requests = empty; waiting = empty; busy = empty })) (entry desks k)) → Opened name d names names_new → Desks desks_new names_new es ws
  desks-open es_distinct ws_distinct none free changed opened = record {
    each = λ q n e. each q n (bytes_eq name q) refl (sym (opened q) ∙ e);
    one = λ p q n e f. one p q n (bytes_eq name p) refl (bytes_eq name q) refl (sym (opened p) ∙ e) (sym (opened q) ∙ f);
    asked = λ j e f. opened e.request.service ∙ kept e.request.service e.desk (bytes_eq name e.request.service) refl (are.asked j e f);
    served = λ j e f. opened e.waiter.service ∙ kept e.waiter.service e.desk (bytes_eq name e.waiter.service) refl (are.served j e f);
  }
    where
      nobody : Some (record { requests = empty; waiting = empty; busy = empty }) ≡ Some (desk_of d es ws)
      nobody =
          ap (λ (ys : List (Seat Queued)). Some (record { requests = ends_of seat_key ys; waiting = empty; busy = empty })) (sym (no_request es_distinct free))
          ∙ ap (λ (ys : List (Seat Worker)). Some (record { requests = ends_of seat_key (of_desk d es); waiting = ends_of seat_key ys; busy = empty })) (sym (no_worker false ws_distinct free))
          ∙ ap (λ (ys : List (Seat Worker)). Some (record { requests = ends_of seat_key (of_desk d es); waiting = ends_of seat_key (workers_at false d ws); busy = ends_of seat_key ys })) (sym (no_worker true ws_distinct free))

      each : (q : List ℕ) (n : ℕ) (b : Bool) → bytes_eq name q ≡ b → cond b (Some d) (key_of names q) ≡ Some n → entry desks_new n ≡ Some (desk_of n es ws)
      each q n true f e =
          let same : d ≡ n = cc in
          subst (λ (m : ℕ). entry desks_new m ≡ Some (desk_of m es ws)) same (changed d ∙ ap (λ (b : Bool). cond b (Some (record { requests = empty; waiting = empty; busy = empty })) (entry desks d)) (own_number d) ∙ nobody)
      each q n false f e = changed n ∙ away (n == d) refl ∙ are.each q n e
        where
          away : (b : Bool) → (n == d) ≡ b → cond b (Some (record { requests = empty; waiting = empty; busy = empty })) (entry desks n) ≡ entry desks n
          away true g = wrong _ (unnamed free q (e ∙ ap (λ (m : ℕ). Some m) (number_is n d g)))
          away false g = refl

      one : (p q : List ℕ) (n : ℕ) (b : Bool) → bytes_eq name p ≡ b → (c : Bool) → bytes_eq name q ≡ c → cond b (Some d) (key_of names p) ≡ Some n → cond c (Some d) (key_of names q) ≡ Some n → p ≡ q
      one p q n true f true g e h = sym (decides name p f) ∙ decides name q g
      one p q n true f false g e h =
          let same : d ≡ n = cc in
          wrong _ (unnamed free q (h ∙ ap (λ (m : ℕ). Some m) (sym same)))
      one p q n false f true g e h =
          let same : d ≡ n = cc in
          wrong _ (unnamed free p (e ∙ ap (λ (m : ℕ). Some m) (sym same)))
      one p q n false f false g e h = are.one p q n e h

      kept : (q : List ℕ) (n : ℕ) (b : Bool) → bytes_eq name q ≡ b → key_of names q ≡ Some n → cond b (Some d) (key_of names q) ≡ Some n
      kept q n true f e = wrong _ (free_of (key_of names q) n (subst (λ (r : List ℕ). key_of names r ≡ None) (decides name q f) none) e)
      kept q n false f e = e

  pub desks-shut : key_of names name ≡ Some d → (desk : Desk) → entry desks d ≡ Some desk → is_some desk.requests.first ≡ false → is_some desk.waiting.first ≡ false → is_some desk.busy.first ≡ false
      → ((k : ℕ) → entry desks_new k ≡ cond (k == d) None (entry desks k)) → Shut name names names_new → Desks desks_new names_new es ws
  desks-shut named desk here no_requests no_waiting no_busy changed shut = record {
    each = λ q n e. each q n (bytes_eq name q) refl (sym (shut q) ∙ e);
    one = λ p q n e f. are.one p q n (was p n (bytes_eq name p) (sym (shut p) ∙ e)) (was q n (bytes_eq name q) (sym (shut q) ∙ f));
    asked = λ j e f. shut e.request.service ∙ asked j e f (bytes_eq name e.request.service) refl;
    served = λ j e f. shut e.waiter.service ∙ served j e f (bytes_eq name e.waiter.service) refl e.busy refl;
  }
    where
      own : desk ≡ desk_of d es ws
      own =
          let there : entry desks d ≡ Some (desk_of d es ws) = are.each name d named in
          cc

      was : (q : List ℕ) (n : ℕ) (b : Bool) → cond b None (key_of names q) ≡ Some n → key_of names q ≡ Some n
      was q n true e = cc
      was q n false e = e

      each : (q : List ℕ) (n : ℕ) (b : Bool) → bytes_eq name q ≡ b → cond b None (key_of names q) ≡ Some n → entry desks_new n ≡ Some (desk_of n es ws)
      each q n true f e = cc
      each q n false f e = changed n ∙ away (n == d) refl ∙ are.each q n e
        where
          away : (b : Bool) → (n == d) ≡ b → cond b None (entry desks n) ≡ entry desks n
          away true g =
              let same : name ≡ q = are.one name q d named (e ∙ ap (λ (m : ℕ). Some m) (number_is n d g)) in
              let equal : bytes_eq name q ≡ true = (bytes_decides name q).1 same in
              wrong _ (sym equal ∙ f)
          away false g = refl

      same_desk : (q : List ℕ) (n : ℕ) → bytes_eq name q ≡ true → key_of names q ≡ Some n → n ≡ d
      same_desk q n f e =
          let there : key_of names name ≡ Some n = subst (λ (r : List ℕ). key_of names r ≡ Some n) (sym (decides name q f)) e in
          cc

      asked : (j : ℕ) (e : Queued) → found j es ≡ Some e → (b : Bool) → bytes_eq name e.request.service ≡ b → cond b None (key_of names e.request.service) ≡ Some e.desk
      asked j e f true g =
          let at : e.desk ≡ d = same_desk e.request.service e.desk g (are.asked j e f) in
          let there : has_key seat_key j (of_desk d es) ≡ true = in_chain (λ (v : Queued). v.desk == d) e j es f (subst (λ (n : ℕ). (n == d) ≡ true) (sym at) (own_number d)) in
          let missing : has_key seat_key j (of_desk d es) ≡ false = no_head j (of_desk d es) (ap (λ (k : Desk). is_some k.requests.first) (sym own) ∙ no_requests) in
          wrong _ (sym there ∙ missing)
      asked j e f false g = are.asked j e f

      served : (j : ℕ) (e : Worker) → found j ws ≡ Some e → (b : Bool) → bytes_eq name e.waiter.service ≡ b → (busy : Bool) → e.busy ≡ busy → cond b None (key_of names e.waiter.service) ≡ Some e.desk
      served j e f true g busy h =
          let at : e.desk ≡ d = same_desk e.waiter.service e.desk g (are.served j e f) in
          let passes : (same_bool busy e.busy && (e.desk == d)) ≡ true = ap (λ (c : Bool). same_bool busy c && (e.desk == d)) h ∙ ap (λ (c : Bool). c && (e.desk == d)) (own_bool busy) ∙ subst (λ (n : ℕ). (n == d) ≡ true) (sym at) (own_number d) in
          let there : has_key seat_key j (workers_at busy d ws) ≡ true = in_chain (λ (v : Worker). same_bool busy v.busy && (v.desk == d)) e j ws f passes in
          let missing : has_key seat_key j (workers_at busy d ws) ≡ false = no_head j (workers_at busy d ws) (no_line busy) in
          wrong _ (sym there ∙ missing)
        where
          own_bool : (c : Bool) → same_bool c c ≡ true
          own_bool true = refl
          own_bool false = refl

          no_line : (c : Bool) → is_some (head_of seat_key (workers_at c d ws)) ≡ false
          no_line true = ap (λ (k : Desk). is_some k.busy.first) (sym own) ∙ no_busy
          no_line false = ap (λ (k : Desk). is_some k.waiting.first) (sym own) ∙ no_waiting
      served j e f false g busy h = are.served j e f
