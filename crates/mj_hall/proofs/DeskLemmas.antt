-- The desks of a hall, once somebody leaves one or comes.
use Rattle.std.proofs.Common.{◌≡◌, ℕ, ◌==◌, Bool, true, false, cond, ◌&&◌, List, [], ◌∷◌, ◌++◌, append-nil, Option, Some, None, refl, sym, ◌∙◌, ap, subst, arith}
use Rattle.std.specs.List.{filter}
use Rattle.std.specs.Option.{option_map}
use Rattle.std.proofs.lemmas.Bool.Decides.{nat_tests}
use Rattle.mj_counted.specs.declared.index.Index.{Index}
use Rattle.mj_counted.specs.declared.rows.Rows.{Rows}
use Rattle.mj_counted.specs.Names.{key_of}
use Rattle.mj_counted.specs.Rows.{entry}
use Rattle.mj_chain.specs.declared.desk.Desk.{Desk}
use Rattle.mj_chain.specs.declared.desk.Line.{Line}
use Rattle.mj_chain.specs.declared.desk.Line.TheVariants.{Requests}
use Rattle.mj_chain.specs.declared.node.Ends.{Ends}
use Rattle.mj_chain.specs.declared.node.Link.{Link}
use Rattle.mj_chain.specs.Desks.{line_of, with_line}
use Rattle.mj_chain.specs.Links.{ends_of, link_in, prolonged, unended}
use Rattle.mj_chain.specs.Seats.{Seat, are_distinct, found, has_key, seat_key, take_out}
use Rattle.mj_chain.proofs.ListLemmas.{distinct-filter, ends-append, ends-out, out-absent}
use Rattle.mj_chain.proofs.RowLemmas.{alike-append, alike-out, found-append, found-out, not_in_chain}
use Rattle.mj_hall.specs.declared.kept.Queued.{Queued}
use Rattle.mj_hall.specs.declared.kept.Worker.{Worker}
use Rattle.mj_hall.specs.Asking.{of_desk}
use Rattle.mj_hall.specs.Serving.{same_bool, workers_at}
use Rattle.mj_hall.specs.Desks.{Desks, desk_of, worker_line}
use Rattle.mj_hall.proofs.AskingLemmas.{in_chain}

number_is : (a n : ℕ) → (a == n) ≡ true → a ≡ n
number_is a n e = grind (arith, nat_tests)

own_number : (n : ℕ) → (n == n) ≡ true
own_number n = grind (arith, nat_tests)

turned_number : (a b : ℕ) → (a == b) ≡ (b == a)
turned_number a b = grind (arith, nat_tests)

-- ends of a part of a list that a test picks
module _ {T : Type 0} (test : T → Bool) where
  abbrev part : List (Seat T) → List (Seat T)
  part xs = filter (λ s. test s.value) xs

  abbrev ignores : T → T → Bool
  ignores a b = test b

  pub part-out : (k : ℕ) (v : T) (xs : List (Seat T)) → are_distinct seat_key xs ≡ true → found k xs ≡ Some v → test v ≡ true → ends_of seat_key (part (take_out seat_key k xs)) ≡ unended (link_in seat_key k (part xs)) (ends_of seat_key (part xs))
  part-out k v xs d at_k e = ap (ends_of seat_key) (alike-out ignores v k xs) ∙ ends-out seat_key k (part xs) (distinct-filter seat_key (λ s. test s.value) xs d) (in_chain test v k xs at_k e)

  pub part-stays : (k : ℕ) (v : T) (xs : List (Seat T)) → are_distinct seat_key xs ≡ true → found k xs ≡ Some v → test v ≡ false → part (take_out seat_key k xs) ≡ part xs
  part-stays k v xs d at_k e = alike-out ignores v k xs ∙ out-absent seat_key k (part xs) (not_in_chain ignores v v k xs d at_k e)

  pub part-in : (k : ℕ) (v : T) (xs : List (Seat T)) → test v ≡ true → ends_of seat_key (part (xs ++ record { key = k; value = v } ∷ [])) ≡ prolonged k (ends_of seat_key (part xs))
  part-in k v xs e =
      ap (ends_of seat_key) (alike-append ignores v v k xs ∙ ap (λ (b : Bool). part xs ++ cond b (record { key = k; value = v } ∷ []) []) e) ∙ ends-append seat_key (part xs) (record { key = k; value = v })

  pub part-same : (k : ℕ) (v : T) (xs : List (Seat T)) → test v ≡ false → part (xs ++ record { key = k; value = v } ∷ []) ≡ part xs
  part-same k v xs e = alike-append ignores v v k xs ∙ ap (λ (b : Bool). part xs ++ cond b (record { key = k; value = v } ∷ []) []) e ∙ append-nil (part xs)

abbrev desk_with : Ends → Ends → Ends → Desk
desk_with requests waiting busy = record { requests = requests; waiting = waiting; busy = busy }

abbrev pub LineLeft : Line → ℕ → Link → Rows Desk → Rows Desk → Type 0
LineLeft line d gone old new = (k : ℕ) → entry new k ≡ cond (k == d) (option_map (λ desk. with_line line (unended gone (line_of line desk)) desk) (entry old k)) (entry old k)

abbrev pub LineJoined : Line → ℕ → ℕ → Rows Desk → Rows Desk → Type 0
LineJoined line d row old new = (k : ℕ) → entry new k ≡ cond (k == d) (option_map (λ desk. with_line line (prolonged row (line_of line desk)) desk) (entry old k)) (entry old k)

still_found : {T : Type 0} (j k : ℕ) (v : T) (xs : List (Seat T)) → found j (take_out seat_key k xs) ≡ Some v → found j xs ≡ Some v
still_found j k v xs e = of (j == k) (sym (found-out j k xs) ∙ e)
  where
    of : (b : Bool) → cond b None (found j xs) ≡ Some v → found j xs ≡ Some v
    of true f = cc
    of false f = f

-- a request leaves its desk
pub desks-request_out : (old new : Rows Desk) (names : Index) (es : List (Seat Queued)) (ws : List (Seat Worker)) (k : ℕ) (x : Queued) → Desks old names es ws → are_distinct seat_key es ≡ true → found k es ≡ Some x
    → LineLeft Requests x.desk (link_in seat_key k (of_desk x.desk es)) old new → Desks new names (take_out seat_key k es) ws
desks-request_out old new names es ws k x are d at_k changed = record {
  each = λ q n e. changed n ∙ ap (λ (o : Option Desk). cond (n == x.desk) (option_map (λ desk. with_line Requests (unended (link_in seat_key k (of_desk x.desk es)) (line_of Requests desk)) desk) o) o) (are.each q n e) ∙ of n (n == x.desk) refl;
  one = are.one;
  asked = λ j e f. are.asked j e (still_found j k e es f);
  served = are.served;
}
  where
    of : (n : ℕ) (b : Bool) → (n == x.desk) ≡ b
        → cond b (Some (desk_with (unended (link_in seat_key k (of_desk x.desk es)) (ends_of seat_key (of_desk n es))) (ends_of seat_key (workers_at false n ws)) (ends_of seat_key (workers_at true n ws)))) (Some (desk_of n es ws)) ≡ Some (desk_of n (take_out seat_key k es) ws)
    of n true e =
        let same : n ≡ x.desk = number_is n x.desk e in
        let left : ends_of seat_key (of_desk n (take_out seat_key k es)) ≡ unended (link_in seat_key k (of_desk n es)) (ends_of seat_key (of_desk n es)) = part-out (λ (v : Queued). v.desk == n) k x es d at_k (turned_number x.desk n ∙ e) in
        ap (λ (m : ℕ). Some (desk_with (unended (link_in seat_key k (of_desk m es)) (ends_of seat_key (of_desk n es))) (ends_of seat_key (workers_at false n ws)) (ends_of seat_key (workers_at true n ws)))) (sym same)
        ∙ ap (λ (ends : Ends). Some (desk_with ends (ends_of seat_key (workers_at false n ws)) (ends_of seat_key (workers_at true n ws)))) (sym left)
    of n false e =
        ap (λ (ys : List (Seat Queued)). Some (desk_with (ends_of seat_key ys) (ends_of seat_key (workers_at false n ws)) (ends_of seat_key (workers_at true n ws)))) (sym (part-stays (λ (v : Queued). v.desk == n) k x es d at_k (turned_number x.desk n ∙ e)))

-- a request comes to its desk
pub desks-request_in : (old new : Rows Desk) (names : Index) (es : List (Seat Queued)) (ws : List (Seat Worker)) (k : ℕ) (x : Queued) → Desks old names es ws → has_key seat_key k es ≡ false → key_of names x.request.service ≡ Some x.desk
    → LineJoined Requests x.desk k old new → Desks new names (es ++ record { key = k; value = x } ∷ []) ws
desks-request_in old new names es ws k x are none named changed = record {
  each = λ q n e. changed n ∙ ap (λ (o : Option Desk). cond (n == x.desk) (option_map (λ desk. with_line Requests (prolonged k (line_of Requests desk)) desk) o) o) (are.each q n e) ∙ of n (n == x.desk) refl;
  one = are.one;
  asked = λ j e f. asked j e (j == k) (sym (found-append j k x es none) ∙ f);
  served = are.served;
}
  where
    of : (n : ℕ) (b : Bool) → (n == x.desk) ≡ b
        → cond b (Some (desk_with (prolonged k (ends_of seat_key (of_desk n es))) (ends_of seat_key (workers_at false n ws)) (ends_of seat_key (workers_at true n ws)))) (Some (desk_of n es ws)) ≡ Some (desk_of n (es ++ record { key = k; value = x } ∷ []) ws)
    of n true e = ap (λ (ends : Ends). Some (desk_with ends (ends_of seat_key (workers_at false n ws)) (ends_of seat_key (workers_at true n ws)))) (sym (part-in (λ (v : Queued). v.desk == n) k x es (turned_number x.desk n ∙ e)))
    of n false e =
        ap (λ (ys : List (Seat Queued)). Some (desk_with (ends_of seat_key ys) (ends_of seat_key (workers_at false n ws)) (ends_of seat_key (workers_at true n ws)))) (sym (part-same (λ (v : Queued). v.desk == n) k x es (turned_number x.desk n ∙ e)))

    asked : (j : ℕ) (e : Queued) (b : Bool) → cond b (Some x) (found j es) ≡ Some e → key_of names e.request.service ≡ Some e.desk
    asked j e true f =
        let same : x ≡ e = cc in
        subst (λ (v : Queued). key_of names v.request.service ≡ Some v.desk) same named
    asked j e false f = are.asked j e f

abbrev at_desk : Bool → ℕ → Worker → Bool
at_desk busy n w = same_bool busy w.busy && (w.desk == n)

own_bool : (a : Bool) → same_bool a a ≡ true
own_bool true = refl
own_bool false = refl

here_of : (busy b : Bool) (m n : ℕ) → busy ≡ b → (n == m) ≡ true → (same_bool busy b && (m == n)) ≡ true
here_of busy b m n e f = ap (λ (c : Bool). same_bool c b && (m == n)) e ∙ ap (λ (c : Bool). c && (m == n)) (own_bool b) ∙ turned_number m n ∙ f

away_of : (busy b : Bool) (m n : ℕ) → (n == m) ≡ false → (same_bool busy b && (m == n)) ≡ false
away_of busy b m n f = ap (λ (c : Bool). same_bool busy b && c) (turned_number m n ∙ f) ∙ nothing (same_bool busy b)
  where
    nothing : (c : Bool) → (c && false) ≡ false
    nothing true = refl
    nothing false = refl

-- a worker leaves its desk
pub desks-worker_out : (old new : Rows Desk) (names : Index) (es : List (Seat Queued)) (ws : List (Seat Worker)) (k : ℕ) (x : Worker) → Desks old names es ws → are_distinct seat_key ws ≡ true → found k ws ≡ Some x
    → LineLeft (worker_line x.busy) x.desk (link_in seat_key k (workers_at x.busy x.desk ws)) old new → Desks new names es (take_out seat_key k ws)
desks-worker_out old new names es ws k x are d at_k changed = record {
  each = λ q n e. changed n ∙ ap (λ (o : Option Desk). cond (n == x.desk) (option_map (λ desk. with_line (worker_line x.busy) (unended (link_in seat_key k (workers_at x.busy x.desk ws)) (line_of (worker_line x.busy) desk)) desk) o) o) (are.each q n e) ∙ of n (n == x.desk) refl x.busy refl;
  one = are.one;
  asked = are.asked;
  served = λ j e f. are.served j e (still_found j k e ws f);
}
  where
    other : (busy : Bool) (n : ℕ) → at_desk busy n x ≡ false → workers_at busy n (take_out seat_key k ws) ≡ workers_at busy n ws
    other busy n e = part-stays (at_desk busy n) k x ws d at_k e

    of : (n : ℕ) (b : Bool) → (n == x.desk) ≡ b → (busy : Bool) → x.busy ≡ busy
        → cond b (Some (with_line (worker_line busy) (unended (link_in seat_key k (workers_at busy x.desk ws)) (line_of (worker_line busy) (desk_of n es ws))) (desk_of n es ws))) (Some (desk_of n es ws)) ≡ Some (desk_of n es (take_out seat_key k ws))
    of n true e true f =
        let same : n ≡ x.desk = number_is n x.desk e in
        let left : ends_of seat_key (workers_at true n (take_out seat_key k ws)) ≡ unended (link_in seat_key k (workers_at true n ws)) (ends_of seat_key (workers_at true n ws)) = part-out (at_desk true n) k x ws d at_k (here_of true x.busy x.desk n (sym f) e) in
        let stays : workers_at false n (take_out seat_key k ws) ≡ workers_at false n ws = other false n (ap (λ (c : Bool). same_bool false c && (x.desk == n)) f) in
        ap (λ (m : ℕ). Some (desk_with (ends_of seat_key (of_desk n es)) (ends_of seat_key (workers_at false n ws)) (unended (link_in seat_key k (workers_at true m ws)) (ends_of seat_key (workers_at true n ws))))) (sym same)
        ∙ ap (λ (ends : Ends). Some (desk_with (ends_of seat_key (of_desk n es)) (ends_of seat_key (workers_at false n ws)) ends)) (sym left)
        ∙ ap (λ (ys : List (Seat Worker)). Some (desk_with (ends_of seat_key (of_desk n es)) (ends_of seat_key ys) (ends_of seat_key (workers_at true n (take_out seat_key k ws))))) (sym stays)
    of n true e false f =
        let same : n ≡ x.desk = number_is n x.desk e in
        let left : ends_of seat_key (workers_at false n (take_out seat_key k ws)) ≡ unended (link_in seat_key k (workers_at false n ws)) (ends_of seat_key (workers_at false n ws)) = part-out (at_desk false n) k x ws d at_k (here_of false x.busy x.desk n (sym f) e) in
        let stays : workers_at true n (take_out seat_key k ws) ≡ workers_at true n ws = other true n (ap (λ (c : Bool). same_bool true c && (x.desk == n)) f) in
        ap (λ (m : ℕ). Some (desk_with (ends_of seat_key (of_desk n es)) (unended (link_in seat_key k (workers_at false m ws)) (ends_of seat_key (workers_at false n ws))) (ends_of seat_key (workers_at true n ws)))) (sym same)
        ∙ ap (λ (ends : Ends). Some (desk_with (ends_of seat_key (of_desk n es)) ends (ends_of seat_key (workers_at true n ws)))) (sym left)
        ∙ ap (λ (ys : List (Seat Worker)). Some (desk_with (ends_of seat_key (of_desk n es)) (ends_of seat_key (workers_at false n (take_out seat_key k ws))) (ends_of seat_key ys))) (sym stays)
    of n false e busy f =
        ap (λ (ys : List (Seat Worker)). Some (desk_with (ends_of seat_key (of_desk n es)) (ends_of seat_key ys) (ends_of seat_key (workers_at true n ws)))) (sym (other false n (away_of false x.busy x.desk n e)))
        ∙ ap (λ (ys : List (Seat Worker)). Some (desk_with (ends_of seat_key (of_desk n es)) (ends_of seat_key (workers_at false n (take_out seat_key k ws))) (ends_of seat_key ys))) (sym (other true n (away_of true x.busy x.desk n e)))

-- a worker comes to its desk
pub desks-worker_in : (old new : Rows Desk) (names : Index) (es : List (Seat Queued)) (ws : List (Seat Worker)) (k : ℕ) (x : Worker) → Desks old names es ws → has_key seat_key k ws ≡ false → key_of names x.waiter.service ≡ Some x.desk
    → LineJoined (worker_line x.busy) x.desk k old new → Desks new names es (ws ++ record { key = k; value = x } ∷ [])
desks-worker_in old new names es ws k x are none named changed = record {
  each = λ q n e. changed n ∙ ap (λ (o : Option Desk). cond (n == x.desk) (option_map (λ desk. with_line (worker_line x.busy) (prolonged k (line_of (worker_line x.busy) desk)) desk) o) o) (are.each q n e) ∙ of n (n == x.desk) refl x.busy refl;
  one = are.one;
  asked = are.asked;
  served = λ j e f. served j e (j == k) (sym (found-append j k x ws none) ∙ f);
}
  where
    longer : List (Seat Worker)
    longer = ws ++ record { key = k; value = x } ∷ []

    other : (busy : Bool) (n : ℕ) → at_desk busy n x ≡ false → workers_at busy n (ws ++ record { key = k; value = x } ∷ []) ≡ workers_at busy n ws
    other busy n e = part-same (at_desk busy n) k x ws e

    of : (n : ℕ) (b : Bool) → (n == x.desk) ≡ b → (busy : Bool) → x.busy ≡ busy
        → cond b (Some (with_line (worker_line busy) (prolonged k (line_of (worker_line busy) (desk_of n es ws))) (desk_of n es ws))) (Some (desk_of n es ws)) ≡ Some (desk_of n es (ws ++ record { key = k; value = x } ∷ []))
    of n true e true f =
        ap (λ (ends : Ends). Some (desk_with (ends_of seat_key (of_desk n es)) (ends_of seat_key (workers_at false n ws)) ends)) (sym (part-in (at_desk true n) k x ws (here_of true x.busy x.desk n (sym f) e)))
        ∙ ap (λ (ys : List (Seat Worker)). Some (desk_with (ends_of seat_key (of_desk n es)) (ends_of seat_key ys) (ends_of seat_key (workers_at true n (ws ++ record { key = k; value = x } ∷ []))))) (sym (other false n (ap (λ (c : Bool). same_bool false c && (x.desk == n)) f)))
    of n true e false f =
        ap (λ (ends : Ends). Some (desk_with (ends_of seat_key (of_desk n es)) ends (ends_of seat_key (workers_at true n ws)))) (sym (part-in (at_desk false n) k x ws (here_of false x.busy x.desk n (sym f) e)))
        ∙ ap (λ (ys : List (Seat Worker)). Some (desk_with (ends_of seat_key (of_desk n es)) (ends_of seat_key (workers_at false n (ws ++ record { key = k; value = x } ∷ []))) (ends_of seat_key ys))) (sym (other true n (ap (λ (c : Bool). same_bool true c && (x.desk == n)) f)))
    of n false e busy f =
        ap (λ (ys : List (Seat Worker)). Some (desk_with (ends_of seat_key (of_desk n es)) (ends_of seat_key ys) (ends_of seat_key (workers_at true n ws)))) (sym (other false n (away_of false x.busy x.desk n e)))
        ∙ ap (λ (ys : List (Seat Worker)). Some (desk_with (ends_of seat_key (of_desk n es)) (ends_of seat_key (workers_at false n (ws ++ record { key = k; value = x } ∷ []))) (ends_of seat_key ys))) (sym (other true n (away_of true x.busy x.desk n e)))

    served : (j : ℕ) (e : Worker) (b : Bool) → cond b (Some x) (found j ws) ≡ Some e → key_of names e.waiter.service ≡ Some e.desk
    served j e true f =
        let same : x ≡ e = cc in
        subst (λ (v : Worker). key_of names v.waiter.service ≡ Some v.desk) same named
    served j e false f = are.served j e f
