-- The table of what workers hold, as a list.
use Rattle.std.proofs.Common.{◌≡◌, ◌+◌, ◌≤◌, ◌==◌, ◌||◌, nat_eq, ℕ, Bool, true, false, not, cond, List, [], ◌∷◌, ◌++◌, map, is_some, Bor, option_copied, Option, None, Some, refl, sym, ap, subst, ◌∙◌, arith}
use Rattle.std.specs.Option.{option_map}
use Rattle.std.specs.List.{filter, find, list_any}
use Rattle.std.specs.HashMap.{HashMap, IsEmpty, get, values}
use Rattle.std.specs.Map.{lookup, remove_entry, values_of}
use Rattle.std.proofs.lemmas.Bool.Decides.{nat_tests}
use Rattle.indexmap.specs.IndexMap.{insert_entry}
use Rattle.indexmap.proofs.CallerLemmas.{insert_entry-new}
use Rattle.mj_queue.specs.declared.request.Request.{Request}
use Rattle.mj_queue.specs.declared.worker.Waiter.{Waiter}
use Rattle.mj_queue.specs.Settling.{is_ticket, without_worker}
use Rattle.mj_machine.specs.StoreState.{holds_ticket}
use Rattle.mj_machine.specs.declared.held.Held.{Held}
use Rattle.mj_machine.specs.Leaving.{held_by, held_without}
use Rattle.mj_machine.specs.TickStep.{is_holding}
use Rattle.mj_machine.proofs.ConnectionLemmas.{agrees, equal}
use Rattle.mj_routing.specs.Holding.{IsOnceEach, held_in, held_of, times}

flip : (a b : ℕ) → (a == b) ≡ (b == a)
flip a b = grind (arith, nat_tests)

-- ---- what is looked up

looked-up : (n : ℕ) (es : List (ℕ × Request)) → lookup (nat_eq n) es ≡ held_by n (map held_of es)
looked-up n [] = refl
looked-up n (e ∷ es) = rw (flip e.0 n) (by (n == e.0) (looked-up n es))
  where
    by : (b : Bool) → lookup (nat_eq n) es ≡ held_by n (map held_of es)
        → cond {A = Option Request} b (Some e.1) (lookup (nat_eq n) es) ≡ option_map (λ h. h.request) (cond {A = Option Held} b (Some (held_of e)) (find (λ h. h.worker == n) (map held_of es)))
    by true rest = refl
    by false rest = rest

pub got : {S : Type 0} (m : HashMap ℕ Request S) (n : ℕ) → get nat_eq m n ≡ held_by n (held_in m)
got m n = looked-up n m.entries

holds : (n : ℕ) (held : List Held) → is_some (held_by n held) ≡ is_holding n held
holds n [] = refl
holds n (h ∷ hs) = by (h.worker == n) (holds n hs)
  where
    by : (b : Bool) → is_some (held_by n hs) ≡ is_holding n hs
        → is_some (option_map (λ (g : Held). g.request) (cond {A = Option Held} b (Some h) (find (λ g. g.worker == n) hs))) ≡ (b || list_any (λ g. g.worker == n) hs)
    by true rest = refl
    by false rest = rest

pub contained : {S : Type 0} (m : HashMap ℕ Request S) (n : ℕ) → is_some (get nat_eq m n) ≡ is_holding n (held_in m)
contained m n = ap is_some (got m n) ∙ holds n (held_in m)

-- ---- given and taken

map-append : (xs ys : List (ℕ × Request)) → map held_of (xs ++ ys) ≡ map held_of xs ++ map held_of ys
map-append [] ys = refl
map-append (x ∷ xs) ys = ap (λ (hs : List Held). held_of x ∷ hs) (map-append xs ys)

pub given : {S : Type 0} (m new : HashMap ℕ Request S) (n : ℕ) (request : Request) → held_by n (held_in m) ≡ None → new.entries ≡ insert_entry nat_eq m.entries n request
    → held_in new ≡ held_in m ++ record { worker = n; request = request } ∷ []
given m new n request none is = ap (map held_of) (is ∙ insert_entry-new nat_eq m n request (got m n ∙ none)) ∙ map-append m.entries ((n, request) ∷ [])

without-none : (n : ℕ) (held : List Held) → held_by n held ≡ None → held_without n held ≡ held
without-none n [] none = refl
without-none n (h ∷ hs) none = by (h.worker == n) none (without-none n hs)
  where
    by : (b : Bool) → option_map (λ (g : Held). g.request) (cond {A = Option Held} b (Some h) (find (λ g. g.worker == n) hs)) ≡ None → (held_by n hs ≡ None → held_without n hs ≡ hs)
        → cond {A = List Held} (not b) (h ∷ held_without n hs) (held_without n hs) ≡ h ∷ hs
    by true none rest = cc
    by false none rest = ap (λ (gs : List Held). h ∷ gs) (rest none)

removed : (n : ℕ) (es : List (ℕ × Request)) → lookup (nat_eq n) (remove_entry (nat_eq n) es) ≡ None → map held_of (remove_entry (nat_eq n) es) ≡ held_without n (map held_of es)
removed n [] none = refl
removed n (e ∷ es) none = rw (flip e.0 n) (by (n == e.0) refl none (removed n es))
  where
    by : (b : Bool) → (n == e.0) ≡ b → lookup (nat_eq n) (cond {A = List (ℕ × Request)} b es (e ∷ remove_entry (nat_eq n) es)) ≡ None
        → (lookup (nat_eq n) (remove_entry (nat_eq n) es) ≡ None → map held_of (remove_entry (nat_eq n) es) ≡ held_without n (map held_of es))
        → map held_of (cond {A = List (ℕ × Request)} b es (e ∷ remove_entry (nat_eq n) es)) ≡ cond {A = List Held} (not b) (held_of e ∷ held_without n (map held_of es)) (held_without n (map held_of es))
    by true is none rest = sym (without-none n (map held_of es) (sym (looked-up n es) ∙ none))
    by false is none rest = ap (λ (hs : List Held). held_of e ∷ hs) (rest (subst (λ (b : Bool). cond {A = Option Request} b (Some e.1) (lookup (nat_eq n) (remove_entry (nat_eq n) es)) ≡ None) is none))

pub taken-out : {S : Type 0} (m new : HashMap ℕ Request S) (n : ℕ) → new.entries ≡ remove_entry (nat_eq n) m.entries → get nat_eq new n ≡ None → held_in new ≡ held_without n (held_in m)
taken-out m new n is none = ap (map held_of) is ∙ removed n m.entries (subst (λ (es : List (ℕ × Request)). lookup (nat_eq n) es ≡ None) is none)

-- ---- how often a number stands

module _ {X : Type 0} (key : X → ℕ) where
  pub times-append : (n : ℕ) (xs ys : List X) → times key n (xs ++ ys) ≡ times key n xs + times key n ys
  times-append n [] ys = omega arith
  times-append n (x ∷ xs) ys = let rest = times-append n xs ys in by (cond (key x == n) 1 0) rest
    where
      by : (a : ℕ) → times key n (xs ++ ys) ≡ times key n xs + times key n ys → a + times key n (xs ++ ys) ≡ (a + times key n xs) + times key n ys
      by a rest = omega (arith, rest)

  pub times-without : (n : ℕ) (xs : List X) → times key n (filter (λ x. not (key x == n)) xs) ≡ 0
  times-without n [] = refl
  times-without n (x ∷ xs) = by (key x == n) refl (times-without n xs)
    where
      by : (b : Bool) → (key x == n) ≡ b → times key n (filter (λ x. not (key x == n)) xs) ≡ 0 → times key n (cond {A = List X} (not b) (x ∷ filter (λ x. not (key x == n)) xs) (filter (λ x. not (key x == n)) xs)) ≡ 0
      by true e rest = rest
      by false e rest = rw e (omega (arith, rest))

  pub times-fewer : (n m : ℕ) (xs : List X) → times key m (filter (λ x. not (key x == n)) xs) ≤ times key m xs
  times-fewer n m [] = omega arith
  times-fewer n m (x ∷ xs) = by (key x == n) (cond (key x == m) 1 0) (times-fewer n m xs)
    where
      by : (b : Bool) (a : ℕ) → times key m (filter (λ x. not (key x == n)) xs) ≤ times key m xs
          → times key m (cond {A = List X} (not b) (x ∷ filter (λ x. not (key x == n)) xs) (filter (λ x. not (key x == n)) xs)) ≤ cond (key x == m) 1 0 + times key m xs
      by true a rest = omega (arith, rest)
      by false a rest = omega (arith, rest)

none-held : (n : ℕ) (held : List Held) → times (λ h. h.worker) n held ≡ 0 → held_by n held ≡ None
none-held n [] none = refl
none-held n (h ∷ hs) none = by (h.worker == n) none (none-held n hs)
  where
    by : (b : Bool) → cond b 1 0 + times (λ g. g.worker) n hs ≡ 0 → (times (λ g. g.worker) n hs ≡ 0 → held_by n hs ≡ None) → option_map (λ (g : Held). g.request) (cond {A = Option Held} b (Some h) (find (λ g. g.worker == n) hs)) ≡ None
    by true none rest = absurd (omega (arith, none))
    by false none rest = rest (omega (arith, none))

-- ---- nobody stands twice

pub once-none : IsOnceEach [] []
once-none n = omega arith

-- one that waits holds nothing
pub free-waiting : (before after : List Waiter) (w : Waiter) (held : List Held) → IsOnceEach (before ++ w ∷ after) held → held_by w.worker held ≡ None
free-waiting before after w held once =
    let one = once w.worker in
    let parts = times-append (λ (v : Waiter). v.worker) w.worker before (w ∷ after) in
    let own : times (λ (v : Waiter). v.worker) w.worker (w ∷ after) ≡ 1 + times (λ (v : Waiter). v.worker) w.worker after = ap (λ (b : Bool). cond b 1 0 + times (λ (v : Waiter). v.worker) w.worker after) (equal w.worker) in
    none-held w.worker held (omega (arith, one, parts, own))

-- it holds from now on
pub once-taken : (before after : List Waiter) (w : Waiter) (held : List Held) (h : Held) → h.worker ≡ w.worker → IsOnceEach (before ++ w ∷ after) held → IsOnceEach (before ++ after) (held ++ h ∷ [])
once-taken before after w held h same once = λ n.
    let one = once n in
    let whole = times-append (λ (v : Waiter). v.worker) n before (w ∷ after) in
    let rest = times-append (λ (v : Waiter). v.worker) n before after in
    let more = times-append (λ (g : Held). g.worker) n held (h ∷ []) in
    let equal_parts : cond {A = ℕ} (h.worker == n) 1 0 ≡ cond {A = ℕ} (w.worker == n) 1 0 = ap (λ (k : ℕ). cond {A = ℕ} (k == n) 1 0) same in
    omega (arith, one, whole, rest, more, equal_parts)

-- it leaves
pub once-left : (n : ℕ) (waiting : List Waiter) (held : List Held) → IsOnceEach waiting held → IsOnceEach (without_worker n waiting) (held_without n held)
once-left n waiting held once = λ m.
    let one = once m in
    let fewer = times-fewer (λ (w : Waiter). w.worker) n m waiting in
    let less = times-fewer (λ (h : Held). h.worker) n m held in
    omega (arith, one, fewer, less)

-- it waits last, and holds nothing
pub once-waits : (n : ℕ) (service : List ℕ) (waiting : List Waiter) (held : List Held) → IsOnceEach waiting held → IsOnceEach (without_worker n waiting ++ record { worker = n; service = service } ∷ []) (held_without n held)
once-waits n service waiting held once = λ m. by m (n == m) refl
  where
    by : (m : ℕ) (b : Bool) → (n == m) ≡ b → times (λ (w : Waiter). w.worker) m (without_worker n waiting ++ record { worker = n; service = service } ∷ []) + times (λ (h : Held). h.worker) m (held_without n held) ≤ 1
    by m true e =
        let same = agrees n m e in
        let joined = times-append (λ (w : Waiter). w.worker) m (without_worker n waiting) (record { worker = n; service = service } ∷ []) in
        let none : times (λ (w : Waiter). w.worker) m (without_worker n waiting) ≡ 0 = subst (λ (k : ℕ). times (λ (w : Waiter). w.worker) k (without_worker n waiting) ≡ 0) same (times-without (λ (w : Waiter). w.worker) n waiting) in
        let empty : times (λ (h : Held). h.worker) m (held_without n held) ≡ 0 = subst (λ (k : ℕ). times (λ (h : Held). h.worker) k (held_without n held) ≡ 0) same (times-without (λ (h : Held). h.worker) n held) in
        let last : cond {A = ℕ} (n == m) 1 0 ≡ 1 = ap (λ (b : Bool). cond {A = ℕ} b 1 0) e in
        omega (arith, joined, none, empty, last)
    by m false e =
        let one = once m in
        let fewer = times-fewer (λ (w : Waiter). w.worker) n m waiting in
        let less = times-fewer (λ (h : Held). h.worker) n m held in
        let joined = times-append (λ (w : Waiter). w.worker) m (without_worker n waiting) (record { worker = n; service = service } ∷ []) in
        let last : cond {A = ℕ} (n == m) 1 0 ≡ 0 = ap (λ (b : Bool). cond {A = ℕ} b 1 0) e in
        omega (arith, one, fewer, less, joined, last)

-- a copy of what is looked up
pub found-none : {S : Type 0} (m : HashMap ℕ Request S) (n : ℕ) (found : Option (Bor Request)) → option_copied found ≡ get nat_eq m n → found ≡ None → held_by n (held_in m) ≡ None
found-none m n found is none = sym (got m n) ∙ sym is ∙ ap option_copied none

pub found-some : {S : Type 0} (m : HashMap ℕ Request S) (n : ℕ) (found : Option (Bor Request)) (request : Bor Request) (copy : Request) → option_copied found ≡ get nat_eq m n → found ≡ Some request → copy ≡ request.now
    → Some copy ≡ held_by n (held_in m)
found-some m n found request copy is some same = ap Some same ∙ ap option_copied (sym some) ∙ is ∙ got m n

-- a table that was made larger
pub unchanged : {S : Type 0} (m new : HashMap ℕ Request S) → new.entries ≡ m.entries → held_in new ≡ held_in m
unchanged m new same = ap (map held_of) same

-- an empty table
pub held-none : {S : Type 0} (m : HashMap ℕ Request S) → IsEmpty m → held_in m ≡ []
held-none m empty = ap (map held_of) empty

-- ---- the tickets whose requests are held

pub or-false : (b : Bool) → (b || false) ≡ b
or-false true = refl
or-false false = refl

abbrev pub asks : ℕ → List Request → Bool
asks n requests = list_any (λ r. is_ticket n r.origin) requests

all-asked : (n : ℕ) (es : List (ℕ × Request)) → asks n (values_of es) ≡ holds_ticket (map held_of es) n
all-asked n [] = refl
all-asked n (e ∷ es) = ap (λ (b : Bool). is_ticket n e.1.origin || b) (all-asked n es)

pub asked : {S : Type 0} (m : HashMap ℕ Request S) (n : ℕ) → asks n (values m) ≡ holds_ticket (held_in m) n
asked m n = all-asked n m.entries
