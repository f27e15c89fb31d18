-- What is found by a number after one connection was changed, cut off or added, and what a worker holds after that.
use Rattle.std.proofs.Common.{◌≡◌, ◌≢◌, ◌==◌, ◌||◌, ℕ, Bool, true, false, not, cond, List, [], ◌∷◌, ◌++◌, Option, None, Some, refl, sym, ap, ◌∙◌, inl, inr}
use Rattle.std.specs.Option.{option_map}
use Rattle.std.specs.List.{filter, find, list_any}
use Rattle.std.proofs.lemmas.Bool.Decides.{eqb_tells}
use Rattle.mj_machine.specs.declared.connection.Connection.{Connection}
use Rattle.mj_machine.specs.declared.held.Held.{Held}
use Rattle.mj_machine.specs.Connections.{changed, connection_of}
use Rattle.mj_machine.specs.Leaving.{connections_without, held_without}
use Rattle.mj_machine.specs.TickStep.{is_holding}

-- two numbers that differ
pub differs : (a b : ℕ) → a ≢ b → (a == b) ≡ false
differs a b apart = elim (eqb_tells a b) [ inl same ↦ absurd (apart same.1) | inr other ↦ other.0 ]

pub agrees : (a b : ℕ) → (a == b) ≡ true → a ≡ b
agrees a b e = elim (eqb_tells a b) [ inl same ↦ same.1 | inr other ↦ cc (other.0, e) ]

pub equal : (a : ℕ) → (a == a) ≡ true
equal a = elim (eqb_tells a a) [ inl same ↦ same.0 | inr other ↦ absurd (other.1 refl) ]

-- ---- first by a key

module _ {X : Type 0} (key : X → ℕ) where
  pub find-without-same : (n : ℕ) (xs : List X) → find (λ x. key x == n) (filter (λ x. not (key x == n)) xs) ≡ None
  find-without-same n [] = refl
  find-without-same n (x ∷ xs) = by (key x == n) refl (find-without-same n xs)
    where
      by : (b : Bool) → (key x == n) ≡ b → find (λ x. key x == n) (filter (λ x. not (key x == n)) xs) ≡ None
          → find (λ x. key x == n) (cond {A = List X} (not b) (x ∷ filter (λ x. not (key x == n)) xs) (filter (λ x. not (key x == n)) xs)) ≡ None
      by true e rest = rest
      by false e rest = rw e rest

  pub find-without-other : (n q : ℕ) → q ≢ n → (xs : List X) → find (λ x. key x == q) (filter (λ x. not (key x == n)) xs) ≡ find (λ x. key x == q) xs
  find-without-other n q apart [] = refl
  find-without-other n q apart (x ∷ xs) = by (key x == n) refl (find-without-other n q apart xs)
    where
      by : (b : Bool) → (key x == n) ≡ b → find (λ x. key x == q) (filter (λ x. not (key x == n)) xs) ≡ find (λ x. key x == q) xs
          → find (λ x. key x == q) (cond {A = List X} (not b) (x ∷ filter (λ x. not (key x == n)) xs) (filter (λ x. not (key x == n)) xs)) ≡ find (λ x. key x == q) (x ∷ xs)
      by true e rest = rw (differs (key x) q (λ same. apart (sym same ∙ agrees (key x) n e))) rest
      by false e rest = ap (λ (o : Option X). cond (key x == q) (Some x) o) rest

  any-without-same : (n : ℕ) (xs : List X) → list_any (λ x. key x == n) (filter (λ x. not (key x == n)) xs) ≡ false
  any-without-same n [] = refl
  any-without-same n (x ∷ xs) = by (key x == n) refl (any-without-same n xs)
    where
      by : (b : Bool) → (key x == n) ≡ b → list_any (λ x. key x == n) (filter (λ x. not (key x == n)) xs) ≡ false
          → list_any (λ x. key x == n) (cond {A = List X} (not b) (x ∷ filter (λ x. not (key x == n)) xs) (filter (λ x. not (key x == n)) xs)) ≡ false
      by true e rest = rest
      by false e rest = rw e rest

  any-without-other : (n q : ℕ) → q ≢ n → (xs : List X) → list_any (λ x. key x == q) (filter (λ x. not (key x == n)) xs) ≡ list_any (λ x. key x == q) xs
  any-without-other n q apart [] = refl
  any-without-other n q apart (x ∷ xs) = by (key x == n) refl (any-without-other n q apart xs)
    where
      by : (b : Bool) → (key x == n) ≡ b → list_any (λ x. key x == q) (filter (λ x. not (key x == n)) xs) ≡ list_any (λ x. key x == q) xs
          → list_any (λ x. key x == q) (cond {A = List X} (not b) (x ∷ filter (λ x. not (key x == n)) xs) (filter (λ x. not (key x == n)) xs)) ≡ list_any (λ x. key x == q) (x ∷ xs)
      by true e rest = rw (differs (key x) q (λ same. apart (sym same ∙ agrees (key x) n e))) rest
      by false e rest = ap (λ (o : Bool). (key x == q) || o) rest

  any-append : (q : ℕ) (xs : List X) (y : X) → list_any (λ x. key x == q) (xs ++ y ∷ []) ≡ (list_any (λ x. key x == q) xs || (key y == q))
  any-append q [] y = or_false (key y == q)
    where
      or_false : (b : Bool) → (b || false) ≡ b
      or_false true = refl
      or_false false = refl
  any-append q (x ∷ xs) y = by (key x == q) (any-append q xs y)
    where
      by : (b : Bool) → list_any (λ x. key x == q) (xs ++ y ∷ []) ≡ (list_any (λ x. key x == q) xs || (key y == q))
          → (b || list_any (λ x. key x == q) (xs ++ y ∷ [])) ≡ ((b || list_any (λ x. key x == q) xs) || (key y == q))
      by true rest = refl
      by false rest = rest

-- ---- connections

-- a change that leaves the number
abbrev pub Keeps : (Connection → Connection) → Type 0
Keeps f = (c : Connection) → (f c).number ≡ c.number

pub changed-same : (n : ℕ) (f : Connection → Connection) → Keeps f → (cs : List Connection) → connection_of n (changed n f cs) ≡ option_map f (connection_of n cs)
changed-same n f keeps [] = refl
changed-same n f keeps (c ∷ cs) = by (c.number == n) refl (changed-same n f keeps cs)
  where
    by : (b : Bool) → (c.number == n) ≡ b → connection_of n (changed n f cs) ≡ option_map f (connection_of n cs)
        → connection_of n (cond {A = List Connection} b (f c ∷ cs) (c ∷ changed n f cs)) ≡ option_map f (cond {A = Option Connection} b (Some c) (connection_of n cs))
    by true e rest = rw (keeps c) (rw e refl)
    by false e rest = rw e rest

pub changed-other : (n q : ℕ) (f : Connection → Connection) → Keeps f → q ≢ n → (cs : List Connection) → connection_of q (changed n f cs) ≡ connection_of q cs
changed-other n q f keeps apart [] = refl
changed-other n q f keeps apart (c ∷ cs) = by (c.number == n) refl (changed-other n q f keeps apart cs)
  where
    by : (b : Bool) → (c.number == n) ≡ b → connection_of q (changed n f cs) ≡ connection_of q cs
        → connection_of q (cond {A = List Connection} b (f c ∷ cs) (c ∷ changed n f cs)) ≡ connection_of q (c ∷ cs)
    by true e rest =
        let no : (c.number == q) ≡ false = differs c.number q (λ same. apart (sym same ∙ agrees c.number n e)) in
        rw (keeps c) (rw no refl)
    by false e rest = ap (λ (o : Option Connection). cond (c.number == q) (Some c) o) rest

pub cut_off-same : (n : ℕ) (cs : List Connection) → connection_of n (connections_without n cs) ≡ None
cut_off-same n cs = find-without-same (λ c. c.number) n cs

pub cut_off-other : (n q : ℕ) → q ≢ n → (cs : List Connection) → connection_of q (connections_without n cs) ≡ connection_of q cs
cut_off-other n q apart cs = find-without-other (λ c. c.number) n q apart cs

-- a connection in a list has the number by which it is found
pub found-number : (n : ℕ) (c : Connection) (cs : List Connection) → connection_of n cs ≡ Some c → c.number ≡ n
found-number n c [] e = cc
found-number n c (d ∷ cs) e = by (d.number == n) refl e (found-number n c cs)
  where
    by : (b : Bool) → (d.number == n) ≡ b → cond {A = Option Connection} b (Some d) (connection_of n cs) ≡ Some c → (connection_of n cs ≡ Some c → c.number ≡ n) → c.number ≡ n
    by true is found rest = let same : d ≡ c = cc in sym (ap (λ (x : Connection). x.number) same) ∙ agrees d.number n is
    by false is found rest = rest found

-- ---- held requests

pub holding-without-same : (n : ℕ) (held : List Held) → is_holding n (held_without n held) ≡ false
holding-without-same n held = any-without-same (λ h. h.worker) n held

pub holding-without-other : (n q : ℕ) → q ≢ n → (held : List Held) → is_holding q (held_without n held) ≡ is_holding q held
holding-without-other n q apart held = any-without-other (λ h. h.worker) n q apart held

pub holding-append : (q : ℕ) (held : List Held) (h : Held) → is_holding q (held ++ h ∷ []) ≡ (is_holding q held || (h.worker == q))
holding-append q held h = any-append (λ h. h.worker) q held h
