-- Ship does the same, however what its link gives is cut.
use Rattle.std.proofs.Common.{◌≡◌, ℕ, zero, suc, ◌+◌, ◌<◌, ◌≤◌, Bool, true, false, cond, ◌==◌, ◌||◌, List, [], ◌∷◌, ◌++◌, length, refl, sym, ap, subst, ◌∙◌, append_assoc, inl, inr, arith}
use Rattle.std.specs.Prelude.{◌⊎◌, nat_lt}
use Rattle.std.proofs.lemmas.Bool.{false≢true}
use Rattle.std.proofs.lemmas.List.Folds.{list_any-append}
use Rattle.std.specs.List.{list_any}
use Rattle.mj_base.specs.declared.link.LinkEvent.{LinkEvent}
use Rattle.mj_base.specs.declared.link.LinkEvent.TheVariants as event
use Rattle.mj_copy.specs.Messages.{Message, Base, Have, Send, End, Reading, Short, Whole, Wrong, octets_of, reading}
use Rattle.mj_copy.specs.ShipRules.{Shipping, ShipTurn, is_going, ship_all, ship_begins, ship_ends, ship_gains, ship_has, ship_meets, ship_read, ship_runs, ship_steps, ship_takes, ship_then}
use Rattle.mj_copy.specs.declared.phase.Phase.TheVariants.{Finished, GivenUp}
use Rattle.mj_copy.specs.declared.ship_act.ShipAct.{ShipAct}
use Rattle.mj_copy.specs.declared.ship_act.ShipAct.TheVariants as act
use Rattle.mj_copy_law.specs.Cuts.{ShipIgnoresCuts, ship_leaves}
use Rattle.mj_copy_law.proofs.Pieces.{Alike, IsCuttable, alike-refl, cuts-alike, then-alike}
use Rattle.mj_copy_law.proofs.Readings.{IsShorter, IsStill, reading_shorter, reading_still}

-- more bytes were read
abbrev more : List ℕ → Shipping → Shipping
more ys s = record s { kept = s.kept ++ ys }

abbrev leaves : ShipTurn → Bool
leaves t = list_any ship_leaves t.1

-- ---- a message takes no bytes in, and the first step stays done

record Keeps (s : Shipping) (t : ShipTurn) : Type 0 where
  kept : length t.0.kept ≤ length s.kept
  begun : t.0.begun ≡ s.begun

same-length : (xs : List ℕ) → length xs ≤ length xs
same-length xs = omega arith

ends-keeps : (s : Shipping) → Keeps s (ship_ends s)
ends-keeps s = of (nat_lt (s.used + 1) s.tries)
  where
    of : (b : Bool) → Keeps s (cond {A = ShipTurn} b (record s { kept = []; quiet = 0; used = s.used + 1 }, act.Reopen ∷ act.Write (octets_of (Base s.base)) ∷ []) (record s { phase = GivenUp }, act.NoAnswer ∷ []))
    of true = record { kept = omega arith; begun = refl }
    of false = record { kept = same-length s.kept; begun = refl }

takes-keeps : (m : Message) (s : Shipping) → Keeps s (ship_takes m s)
takes-keeps (Base base) s = ends-keeps s
takes-keeps (Send at payload) s = ends-keeps s
takes-keeps End s = ends-keeps s
takes-keeps (Have n) s = of (nat_lt n s.total) (n == s.total)
  where
    of : (below all : Bool)
        → Keeps s (cond {A = ShipTurn} below (ship_has n s, act.SendAt n ∷ []) (cond {A = ShipTurn} all (record (ship_has n s) { phase = Finished }, act.Write (octets_of End) ∷ act.Done ∷ []) (ship_ends s)))
    of true all = record { kept = same-length s.kept; begun = refl }
    of false true = record { kept = same-length s.kept; begun = refl }
    of false false = ends-keeps s

-- ---- enough looks

-- a look more changes nothing where what is read is looked at as often as it has bytes
read-enough : (n k : ℕ) (s : Shipping) → ((u : Shipping) → length u.kept < length s.kept → ship_all n u ≡ ship_all k u) → (r : Reading) → IsShorter (length s.kept) r
    → ship_read (ship_all n) r s ≡ ship_read (ship_all k) r s
read-enough n k s enough Short less = refl
read-enough n k s enough Wrong less = refl
read-enough n k s enough (Whole m rest) less =
    let t = ship_takes m (record s { kept = rest }) in
    let keeps = takes-keeps m (record s { kept = rest }) in
    let shorter : length t.0.kept < length s.kept = (let k = keeps.kept in omega (arith, k, less)) in
    ap (λ (u : ShipTurn). (u.0, t.1 ++ u.1)) (enough t.0 shorter)

nothing-kept : (n : ℕ) (s : Shipping) → s.kept ≡ [] → ship_all n s ≡ (s, [])
nothing-kept zero s e = refl
nothing-kept (suc n) s e = of (is_going s.phase)
  where
    of : (b : Bool) → cond {A = ShipTurn} b (ship_read (ship_all n) (reading s.kept) s) (s, []) ≡ (s, [])
    of true = ap (λ (x : List ℕ). ship_read (ship_all n) (reading x) s) e
    of false = refl

empty : (xs : List ℕ) → length xs ≤ 0 → xs ≡ []
empty [] e = refl
empty (x ∷ xs) e = absurd (omega (arith, e))

enough : (n k : ℕ) (s : Shipping) → length s.kept ≤ n → length s.kept ≤ k → ship_all n s ≡ ship_all k s
enough zero k s a b = sym (nothing-kept k s (empty s.kept a))
enough (suc n) zero s a b = nothing-kept (suc n) s (empty s.kept b)
enough (suc n) (suc k) s a b = of (is_going s.phase) (λ u c d. enough n k u c d)
  where
    of : (g : Bool) → ((u : Shipping) → length u.kept ≤ n → length u.kept ≤ k → ship_all n u ≡ ship_all k u) → cond {A = ShipTurn} g (ship_read (ship_all n) (reading s.kept) s) (s, []) ≡ cond {A = ShipTurn} g (ship_read (ship_all k) (reading s.kept) s) (s, [])
    of false next = refl
    of true next =
        read-enough n k s
        (λ u less. next u (omega (arith, less, a)) (omega (arith, less, b)))
        (reading s.kept) (reading_shorter s.kept)

read-gains : (n : ℕ) (s : Shipping) → length s.kept ≤ n → (r : Reading) → IsShorter (length s.kept) r → ship_read (ship_all n) r s ≡ ship_read ship_gains r s
read-gains n s long Short less = refl
read-gains n s long Wrong less = refl
read-gains n s long (Whole m rest) less =
    let t = ship_takes m (record s { kept = rest }) in
    let keeps = takes-keeps m (record s { kept = rest }) in
    let shorter : length t.0.kept ≤ n = (let k = keeps.kept in omega (arith, k, less, long)) in
    ap (λ (u : ShipTurn). (u.0, t.1 ++ u.1)) (enough n (length t.0.kept) t.0 shorter (same-length t.0.kept))

-- all messages that it has are the first one and all that it has then
gains-is : (s : Shipping) → ship_gains s ≡ cond {A = ShipTurn} (is_going s.phase) (ship_read ship_gains (reading s.kept) s) (s, [])
gains-is s =
    enough (length s.kept) (suc (length s.kept)) s (same-length s.kept) (omega arith) ∙ of (is_going s.phase)
  where
    of : (g : Bool) → cond {A = ShipTurn} g (ship_read (ship_all (length s.kept)) (reading s.kept) s) (s, []) ≡ cond {A = ShipTurn} g (ship_read ship_gains (reading s.kept) s) (s, [])
    of false = refl
    of true = read-gains (length s.kept) s (same-length s.kept) (reading s.kept) (reading_shorter s.kept)

gains-over : (s : Shipping) → is_going s.phase ≡ false → ship_gains s ≡ (s, [])
gains-over s over = gains-is s ∙ ap (λ (b : Bool). cond {A = ShipTurn} b (ship_read ship_gains (reading s.kept) s) (s, [])) over

-- the first step stays done
all-begun : (n : ℕ) (s : Shipping) → (ship_all n s).0.begun ≡ s.begun
all-begun zero s = refl
all-begun (suc n) s = of (is_going s.phase) (reading s.kept) (λ u. all-begun n u)
  where
    of : (g : Bool) (r : Reading) → ((u : Shipping) → (ship_all n u).0.begun ≡ u.begun) → (cond {A = ShipTurn} g (ship_read (ship_all n) r s) (s, [])).0.begun ≡ s.begun
    of false r next = refl
    of true Short next = refl
    of true Wrong next = (ends-keeps s).begun
    of true (Whole m rest) next = next (ship_takes m (record s { kept = rest })).0 ∙ (takes-keeps m (record s { kept = rest })).begun

-- ---- a turn, and what it is where more bytes were read before

abbrev Stretches : List ℕ → ShipTurn → ShipTurn → Type 0
Stretches ys t u = ((leaves t ≡ true) × (u ≡ t)) ⊎ ((leaves t ≡ false) × (u ≡ (more ys t.0, t.1)))

ends-stretches : (ys : List ℕ) (s : Shipping) → Stretches ys (ship_ends s) (ship_ends (more ys s))
ends-stretches ys s = of (nat_lt (s.used + 1) s.tries)
  where
    of : (b : Bool)
        → Stretches ys (cond {A = ShipTurn} b (record s { kept = []; quiet = 0; used = s.used + 1 }, act.Reopen ∷ act.Write (octets_of (Base s.base)) ∷ []) (record s { phase = GivenUp }, act.NoAnswer ∷ []))
        (cond {A = ShipTurn} b (record (more ys s) { kept = []; quiet = 0; used = s.used + 1 }, act.Reopen ∷ act.Write (octets_of (Base s.base)) ∷ []) (record (more ys s) { phase = GivenUp }, act.NoAnswer ∷ []))
    of true = inl (refl, refl)
    of false = inr (refl, refl)

takes-stretches : (ys : List ℕ) (m : Message) (s : Shipping) → Stretches ys (ship_takes m s) (ship_takes m (more ys s))
takes-stretches ys (Base base) s = ends-stretches ys s
takes-stretches ys (Send at payload) s = ends-stretches ys s
takes-stretches ys End s = ends-stretches ys s
takes-stretches ys (Have n) s = of (nat_lt n s.total) (n == s.total)
  where
    of : (below all : Bool)
        → Stretches ys
        (cond {A = ShipTurn} below (ship_has n s, act.SendAt n ∷ []) (cond {A = ShipTurn} all (record (ship_has n s) { phase = Finished }, act.Write (octets_of End) ∷ act.Done ∷ []) (ship_ends s)))
        (cond {A = ShipTurn} below (ship_has n (more ys s), act.SendAt n ∷ []) (cond {A = ShipTurn} all (record (ship_has n (more ys s)) { phase = Finished }, act.Write (octets_of End) ∷ act.Done ∷ []) (ship_ends (more ys s))))
    of true all = inr (refl, refl)
    of false true = inr (refl, refl)
    of false false = ends-stretches ys s

-- all messages of what was read, and of it with more
record Carries (ys : List ℕ) (t u : ShipTurn) : Type 0 where
  left : leaves t ≡ true → u ≡ t
  stays : leaves t ≡ false → u ≡ ship_then (λ g. ship_gains (more ys g)) t

-- nothing was done
none-carries : (ys : List ℕ) (s : Shipping) (u : ShipTurn) → u ≡ ship_gains (more ys s) → Carries ys (s, []) u
none-carries ys s u e = record { left = λ l. absurd (false≢true l); stays = λ l. e }

ends-carries : (ys : List ℕ) (s : Shipping) (u : ShipTurn) → u ≡ ship_ends (more ys s) → Carries ys (ship_ends s) u
ends-carries ys s u e = of (nat_lt (s.used + 1) s.tries) e
  where
    of : (b : Bool)
        → u ≡ cond {A = ShipTurn} b (record (more ys s) { kept = []; quiet = 0; used = s.used + 1 }, act.Reopen ∷ act.Write (octets_of (Base s.base)) ∷ []) (record (more ys s) { phase = GivenUp }, act.NoAnswer ∷ [])
        → Carries ys (cond {A = ShipTurn} b (record s { kept = []; quiet = 0; used = s.used + 1 }, act.Reopen ∷ act.Write (octets_of (Base s.base)) ∷ []) (record s { phase = GivenUp }, act.NoAnswer ∷ [])) u
    of true e = record { left = λ l. e; stays = λ l. absurd (false≢true (sym l)) }
    of false e = record {
      left = λ l. absurd (false≢true l);
      stays = λ l. e ∙ sym (ap (λ (x : ShipTurn). (x.0, act.NoAnswer ∷ x.1)) (gains-over (record (more ys s) { phase = GivenUp }) refl));
    }

-- a message, and what comes behind it
then-carries : (ys : List ℕ) (t v u : ShipTurn) → Stretches ys t v → u ≡ ship_then ship_gains v → Carries ys (ship_gains t.0) (ship_gains (more ys t.0)) → Carries ys (ship_then ship_gains t) u
then-carries ys t v u (inl (l, same)) e c = record {
  left = λ x. e ∙ ap (ship_then ship_gains) same;
  stays = λ x. absurd (false≢true (sym x ∙ list_any-append ship_leaves t.1 (ship_gains t.0).1 ∙ ap (λ (b : Bool). b || leaves (ship_gains t.0)) l));
}
then-carries ys t v u (inr (l, same)) e c =
    let rest : leaves (ship_then ship_gains t) ≡ leaves (ship_gains t.0) = list_any-append ship_leaves t.1 (ship_gains t.0).1 ∙ ap (λ (b : Bool). b || leaves (ship_gains t.0)) l in
    let whole : u ≡ ship_then ship_gains (more ys t.0, t.1) = e ∙ ap (ship_then ship_gains) same in
    record {
      left = λ x. whole ∙ ap (λ (y : ShipTurn). (y.0, t.1 ++ y.1)) (c.left (sym rest ∙ x));
      stays = λ x. whole ∙ ap (λ (y : ShipTurn). (y.0, t.1 ++ y.1)) (c.stays (sym rest ∙ x))
          ∙ ap (λ (l : List ShipAct). ((ship_gains (more ys (ship_gains t.0).0)).0, l)) (sym (append_assoc t.1 (ship_gains t.0).1 (ship_gains (more ys (ship_gains t.0).0)).1));
    }

carries : (n : ℕ) (ys : List ℕ) (s : Shipping) → length s.kept < n → Carries ys (ship_gains s) (ship_gains (more ys s))
carries zero ys s less = absurd (omega (arith, less))
carries (suc n) ys s less =
    subst (λ (t : ShipTurn). Carries ys t (ship_gains (more ys s))) (sym (gains-is s))
    (of (is_going s.phase) (reading s.kept) (gains-is (more ys s)) (reading_shorter s.kept) (reading_still s.kept ys) (λ u c. carries n ys u c))
  where
    of : (g : Bool) (r : Reading) → ship_gains (more ys s) ≡ cond {A = ShipTurn} g (ship_read ship_gains (reading (s.kept ++ ys)) (more ys s)) (more ys s, []) → IsShorter (length s.kept) r
        → IsStill ys r (reading (s.kept ++ ys)) → ((u : Shipping) → length u.kept < n → Carries ys (ship_gains u) (ship_gains (more ys u))) → Carries ys (cond {A = ShipTurn} g (ship_read ship_gains r s) (s, [])) (ship_gains (more ys s))
    of false r e shorter still next = none-carries ys s (ship_gains (more ys s)) refl
    of true Short e shorter still next = none-carries ys s (ship_gains (more ys s)) refl
    of true Wrong e shorter still next = ends-carries ys s (ship_gains (more ys s)) (e ∙ ap (λ (r : Reading). ship_read ship_gains r (more ys s)) still)
    of true (Whole m rest) e shorter still next =
        let t = ship_takes m (record s { kept = rest }) in
        let v = ship_takes m (more ys (record s { kept = rest })) in
        let keeps = takes-keeps m (record s { kept = rest }) in
        then-carries ys t v (ship_gains (more ys s)) (takes-stretches ys m (record s { kept = rest })) (e ∙ ap (λ (r : Reading). ship_read ship_gains r (more ys s)) still)
        (next t.0 (let k = keeps.kept in omega (arith, k, shorter, less)))

-- ---- steps

abbrev Over : Shipping → Type 0
Over s = is_going s.phase ≡ false

abbrev step : List ℕ → Shipping → ShipTurn
step piece s = ship_steps (event.Given piece) s

steps-over : (e : LinkEvent) (s : Shipping) → Over s → ship_steps e s ≡ (s, [])
steps-over e s over = ap (λ (b : Bool). cond {A = ShipTurn} b (ship_begins e s) (s, [])) over

runs-over : (events : List LinkEvent) (s : Shipping) → Over s → ship_runs events s ≡ (s, [])
runs-over [] s over = refl
runs-over (e ∷ events) s over = ap (λ (t : ShipTurn). ship_then (ship_runs events) t) (steps-over e s over) ∙ runs-over events s over

-- two pieces, of an end whose first step is done
gains-two : (xs ys : List ℕ) (s : Shipping) → ship_gains (more (xs ++ ys) s) ≡ ship_gains (more ys (more xs s))
gains-two xs ys s = ap (λ (x : List ℕ). ship_gains (record s { kept = x })) (sym (append_assoc s.kept xs ys))

-- behind the first piece
next-alike : (ys : List ℕ) (v : Shipping) (before : List ShipAct) → v.begun ≡ true
    → Alike Shipping ShipAct Over (ship_then (λ g. ship_gains (more ys g)) (v, before)) (ship_then (step ys) (v, before))
next-alike ys v before begun = of (is_going v.phase) refl
  where
    of : (g : Bool) → is_going v.phase ≡ g
        → Alike Shipping ShipAct Over (ship_then (λ g. ship_gains (more ys g)) (v, before)) (ship_then (λ u. cond {A = ShipTurn} g (ship_begins (event.Given ys) v) (v, [])) (v, before))
    of true e =
        alike-refl Shipping ShipAct Over _ _
        (ap (λ (x : ShipTurn). (x.0, before ++ x.1))
        (sym (ap (λ (b : Bool). cond {A = ShipTurn} b (ship_meets (event.Given ys) v) ((ship_meets (event.Given ys) (record v { begun = true })).0, act.Write (octets_of (Base v.base)) ∷ (ship_meets (event.Given ys) (record v { begun = true })).1)) begun)))
    of false e =
        let nothing = gains-over (more ys v) e in
        record {
          acts = ap (λ (x : ShipTurn). before ++ x.1) nothing;
          states = inr (ap (λ (x : ShipTurn). is_going x.0.phase) nothing ∙ e, e);
        }

abbrev Cuts : (xs ys : List ℕ) (t u : ShipTurn) → Type 0
Cuts xs ys t u = (leaves t ≡ true → u ≡ t) × (leaves t ≡ false → Alike Shipping ShipAct Over u (ship_then (step ys) t))

begun-cuts : (xs ys : List ℕ) (s : Shipping) → s.begun ≡ true → Cuts xs ys (ship_gains (more xs s)) (ship_gains (more (xs ++ ys) s))
begun-cuts xs ys s begun =
    let c = carries (suc (length (s.kept ++ xs))) ys (more xs s) (omega arith) in
    let t = ship_gains (more xs s) in
    let done : t.0.begun ≡ true = all-begun (length (s.kept ++ xs)) (more xs s) ∙ begun in (
      (λ l. gains-two xs ys s ∙ c.left l),
      (λ l. subst (λ (u : ShipTurn). Alike Shipping ShipAct Over u (ship_then (step ys) t)) (sym (gains-two xs ys s ∙ c.stays l)) (next-alike ys t.0 t.1 done)),
    )

-- the first step writes Base, and then does the same
first-cuts : (xs ys : List ℕ) (s : Shipping) (text : List ℕ) (t u : ShipTurn) → Cuts xs ys t u → Cuts xs ys (t.0, act.Write text ∷ t.1) (u.0, act.Write text ∷ u.1)
first-cuts xs ys s text t u c = (
  (λ l. ap (λ (x : ShipTurn). (x.0, act.Write text ∷ x.1)) (c.0 l)),
  (λ l. let a = c.1 l in record { acts = ap (λ (x : List ShipAct). act.Write text ∷ x) a.acts; states = a.states }),
)

step-cuts : (xs ys : List ℕ) (s : Shipping) → Cuts xs ys (step xs s) (step (xs ++ ys) s)
step-cuts xs ys s = of (is_going s.phase) refl
  where
    begins : (b : Bool) → s.begun ≡ b
        → Cuts xs ys (cond {A = ShipTurn} b (ship_meets (event.Given xs) s) ((ship_meets (event.Given xs) (record s { begun = true })).0, act.Write (octets_of (Base s.base)) ∷ (ship_meets (event.Given xs) (record s { begun = true })).1))
        (cond {A = ShipTurn} b (ship_meets (event.Given (xs ++ ys)) s) ((ship_meets (event.Given (xs ++ ys)) (record s { begun = true })).0, act.Write (octets_of (Base s.base)) ∷ (ship_meets (event.Given (xs ++ ys)) (record s { begun = true })).1))
    begins true e = begun-cuts xs ys s e
    begins false e =
        first-cuts xs ys s (octets_of (Base s.base)) (ship_gains (more xs (record s { begun = true }))) (ship_gains (more (xs ++ ys) (record s { begun = true })))
        (begun-cuts xs ys (record s { begun = true }) refl)

    of : (g : Bool) → is_going s.phase ≡ g → Cuts xs ys (cond {A = ShipTurn} g (ship_begins (event.Given xs) s) (s, [])) (cond {A = ShipTurn} g (ship_begins (event.Given (xs ++ ys)) s) (s, []))
    of true e = begins s.begun refl
    of false e = (
      (λ l. absurd (false≢true l)),
      (λ l. alike-refl Shipping ShipAct Over _ _ (sym (steps-over (event.Given ys) s e))),
    )

cuttable : IsCuttable Shipping ShipAct ship_leaves (λ piece. ship_steps (event.Given piece)) Over
cuttable = record {
  still = λ piece s over. steps-over (event.Given piece) s over;
  left = λ xs ys s l. (step-cuts xs ys s).0 l;
  stays = λ xs ys s l. (step-cuts xs ys s).1 l;
}

pub ship_ignores_cuts : ShipIgnoresCuts
ship_ignores_cuts s p q pieces others behind e =
    (then-alike Shipping ShipAct Over (ship_runs behind) (runs-over behind) _ _ (cuts-alike Shipping ShipAct ship_leaves (λ piece. ship_steps (event.Given piece)) Over cuttable p q pieces others s e)).acts
