-- A run of ship, step by step.
use Rattle.std.proofs.Common.{◌≡◌, ℕ, zero, suc, ◌+◌, ◌<◌, ◌⊎◌, Bool, true, false, cond, ◌==◌, nat_lt, List, [], ◌∷◌, ◌++◌, take, length, get_or, refl, sym, ap, subst, ◌∙◌, inl, inr, arith, append_assoc, append-nil, ltb-true, Option}
use Rattle.std.proofs.lemmas.List.{take_more}
use Rattle.std.specs.List.{AllByRecursion}
use Rattle.mj_base.specs.Linking.{Tells}
use Rattle.mj_base.specs.declared.link.LinkEntry.{LinkEntry}
use Rattle.mj_base.specs.declared.link.LinkEvent.{LinkEvent}
use Rattle.mj_base.specs.declared.link.LinkEvent.TheVariants as event
use Rattle.mj_copy.specs.Messages.{Message, Base, Have, Send, End, Reading, Short, Whole, Wrong, reading}
use Rattle.mj_copy.specs.ShipRules.{ShipTurn, Shipping, is_going, ship_all, ship_begins, ship_ends, ship_idles, ship_meets, ship_read, ship_runs, ship_steps, ship_takes, ship_then}
use Rattle.mj_copy.specs.declared.ship_act.ShipAct.{ShipAct}
use Rattle.mj_copying.specs.Passing.{entry_of}
use Rattle.mj_copying.specs.ShipRun.{Breaks, BrokeOff, IsCut, IsInside, Met, PartMet, Performs, Ran, entries, entries_of, round, tale}
use Rattle.mj_copying.proofs.LinkLemmas.{tells_alike, tells_more, tells_same, tells_still}

-- ---- the commands that are sent are there

pub record Inside (total : ℕ) (turn : ShipTurn) : Type 0 where
  pub total_is : turn.0.total ≡ total
  pub acts : AllByRecursion (IsInside total) turn.1

pick : {A : Type 0} (P : A → Type 0) (b : Bool) (x y : A) → (b ≡ true → P x) → (b ≡ false → P y) → P (cond {A = A} b x y)
pick P true x y one other = one refl
pick P false x y one other = other refl

all_join : (total : ℕ) (a b : List ShipAct) → AllByRecursion (IsInside total) a → AllByRecursion (IsInside total) b → AllByRecursion (IsInside total) (a ++ b)
all_join total [] b all more = more
all_join total (x ∷ a) b all more = (all.0, all_join total a b all.1 more)

module _ (total : ℕ) where
  still : (s : Shipping) → s.total ≡ total → Inside total (s, [])
  still s is = record { total_is = is; acts = tt }

  ends : (s : Shipping) → s.total ≡ total → Inside total (ship_ends s)
  ends s is = pick (Inside total) (nat_lt (s.used + 1) s.tries) _ _ (λ more. record { total_is = is; acts = (tt, (tt, tt)) }) (λ last. record { total_is = is; acts = (tt, tt) })

  idles : (s : Shipping) → s.total ≡ total → Inside total (ship_idles s)
  idles s is = pick (Inside total) (nat_lt (s.quiet + 1) 75) _ _ (λ more. record { total_is = is; acts = tt }) (λ last. ends s is)

  takes : (m : Message) (s : Shipping) → s.total ≡ total → Inside total (ship_takes m s)
  takes (Base base) s is = ends s is
  takes (Send at payload) s is = ends s is
  takes End s is = ends s is
  takes (Have n) s is =
      pick (Inside total) (nat_lt n s.total) _ _
      (λ less. let inside : n < total = omega (arith, ltb-true n s.total less, is) in record { total_is = is; acts = (inside, tt) })
      (λ beyond. pick (Inside total) (n == s.total) _ _ (λ same. record { total_is = is; acts = (tt, (tt, tt)) }) (λ other. ends s is))

  joins : (most : ℕ) (turn : ShipTurn) → Inside total turn → ((s : Shipping) → s.total ≡ total → Inside total (ship_all most s)) → Inside total (ship_then (ship_all most) turn)
  joins most turn first rest =
      let next = rest turn.0 first.total_is in
      record { total_is = next.total_is; acts = all_join total turn.1 (ship_all most turn.0).1 first.acts next.acts }

  read : (most : ℕ) (r : Reading) (s : Shipping) → s.total ≡ total → ((t : Shipping) → t.total ≡ total → Inside total (ship_all most t)) → Inside total (ship_read (ship_all most) r s)
  read most Short s is rest = still s is
  read most Wrong s is rest = ends s is
  read most (Whole m left) s is rest = joins most (ship_takes m (record s { kept = left })) (takes m (record s { kept = left }) is) rest

  all : (most : ℕ) (s : Shipping) → s.total ≡ total → Inside total (ship_all most s)
  all zero s is = still s is
  all (suc most) s is = pick (Inside total) (is_going s.phase) _ _ (λ going. read most (reading s.kept) s is (all most)) (λ over. still s is)

  meets : (e : LinkEvent) (s : Shipping) → s.total ≡ total → Inside total (ship_meets e s)
  meets (event.Given octets) s is = all (length (s.kept ++ octets)) (record s { kept = s.kept ++ octets }) is
  meets event.Idle s is = idles s is
  meets event.End s is = ends s is

  begins : (e : LinkEvent) (s : Shipping) → s.total ≡ total → Inside total (ship_begins e s)
  begins e s is =
      pick (Inside total) s.begun _ _ (λ already. meets e s is)
      (λ first. let m = meets e (record s { begun = true }) is in record { total_is = m.total_is; acts = (tt, m.acts) })

  pub steps_inside : (e : LinkEvent) (s : Shipping) → s.total ≡ total → Inside total (ship_steps e s)
  steps_inside e s is = pick (Inside total) (is_going s.phase) _ _ (λ going. begins e s is) (λ over. still s is)

-- ---- acts

entries_append : (payloads : List (List ℕ)) (xs ys : List ShipAct) → entries payloads (xs ++ ys) ≡ entries payloads xs ++ entries payloads ys
entries_append payloads [] ys = refl
entries_append payloads (x ∷ xs) ys = ap (λ (l : List LinkEntry). entries_of payloads x ++ l) (entries_append payloads xs ys) ∙ sym (append_assoc (entries_of payloads x) (entries payloads xs) (entries payloads ys))

pub performs_more : (payloads : List (List ℕ)) (old mid now : Option (List LinkEntry)) (done : List ShipAct) (a : ShipAct) → Performs payloads old mid done → Tells mid now (entries_of payloads a) → Performs payloads old now (done ++ a ∷ [])
performs_more payloads old mid now done a p m =
    tells_alike old now _ _
    (sym (entries_append payloads done (a ∷ []) ∙ ap (λ (l : List LinkEntry). entries payloads done ++ l) (append-nil (entries_of payloads a))))
    (tells_more old mid now (entries payloads done) (entries_of payloads a) p m)

pub performs_breaks : (payloads : List (List ℕ)) (old mid now : Option (List LinkEntry)) (acts done rest : List ShipAct) → acts ≡ done ++ rest → Performs payloads old mid done → now ≡ mid → Breaks payloads old now acts
performs_breaks payloads old mid now acts done rest whole p same = record { done = done; rest = rest; whole = whole; told = tells_still old mid now (entries payloads done) p same }

pub taken_more : (acts : List ShipAct) (i : ℕ) (a : ShipAct) → i < length acts → a ≡ get_or acts i a → take (i + 1) acts ≡ take i acts ++ a ∷ []
taken_more acts i a inside is = take_more acts i a inside ∙ ap (λ (x : ShipAct). take i acts ++ x ∷ []) (sym is)

pub all_at : (total : ℕ) (acts : List ShipAct) (i : ℕ) (a : ShipAct) → AllByRecursion (IsInside total) acts → i < length acts → a ≡ get_or acts i a → IsInside total a
all_at total [] i a all inside is = absurd (omega arith)
all_at total (x ∷ acts) zero a all inside is = subst (IsInside total) (sym is) all.0
all_at total (x ∷ acts) (suc i) a all inside is = all_at total acts i a all.1 (omega arith) is

-- ---- steps

pub met : (payloads : List (List ℕ)) (e : LinkEvent) (s after : Shipping) (acts : List ShipAct) (old mid now : Option (List LinkEntry)) → after ≡ (ship_steps e s).0 → acts ≡ (ship_steps e s).1 → Tells old mid (entry_of e ∷ []) → Performs payloads mid now acts → Met payloads s old now after
met payloads e s after acts old mid now after_is acts_are read p = record {
  last = e;
  after_is = after_is;
  told = tells_more old mid now (entry_of e ∷ []) (entries payloads (ship_steps e s).1) read (tells_alike mid now _ _ (ap (entries payloads) acts_are) p);
}

pub part_met : (payloads : List (List ℕ)) (e : LinkEvent) (s : Shipping) (acts : List ShipAct) (old mid now : Option (List LinkEntry)) → acts ≡ (ship_steps e s).1 → Tells old mid (entry_of e ∷ []) → Breaks payloads mid now acts → PartMet payloads s old now
part_met payloads e s acts old mid now acts_are read b = record {
  cut = entry_of e ∷ entries payloads b.done;
  part = inr (record { last = e; done = b.done; rest = b.rest; whole = sym acts_are ∙ b.whole; cut_is = refl });
  told = tells_more old mid now (entry_of e ∷ []) (entries payloads b.done) read b.told;
}

pub unmet : (payloads : List (List ℕ)) (s : Shipping) (old now : Option (List LinkEntry)) → now ≡ old → PartMet payloads s old now
unmet payloads s old now same = record { cut = []; part = inl refl; told = tells_same old now same }

-- the step that was begun, when nothing of it was done
pub only_read : (payloads : List (List ℕ)) (e : LinkEvent) (s : Shipping) (old now : Option (List LinkEntry)) → Tells old now (entry_of e ∷ []) → PartMet payloads s old now
only_read payloads e s old now read = record {
  cut = entry_of e ∷ [];
  part = inr (record { last = e; done = []; rest = (ship_steps e s).1; whole = refl; cut_is = refl });
  told = read;
}

-- ---- runs

runs_more : (events : List LinkEvent) (e : LinkEvent) (s : Shipping) → (ship_runs (events ++ e ∷ []) s).0 ≡ (ship_steps e (ship_runs events s).0).0
runs_more [] e s = refl
runs_more (x ∷ events) e s = runs_more events e (ship_steps x s).0

tale_more : (payloads : List (List ℕ)) (events : List LinkEvent) (e : LinkEvent) (s : Shipping) → tale payloads (events ++ e ∷ []) s ≡ tale payloads events s ++ round payloads e (ship_runs events s).0
tale_more payloads [] e s = append-nil (round payloads e s)
tale_more payloads (x ∷ events) e s =
    ap (λ (l : List LinkEntry). round payloads x s ++ l) (tale_more payloads events e (ship_steps x s).0)
    ∙ sym (append_assoc (round payloads x s) (tale payloads events (ship_steps x s).0) (round payloads e (ship_runs events (ship_steps x s).0).0))

pub ran_not : (payloads : List (List ℕ)) (first : Shipping) (old : Option (List LinkEntry)) → Ran payloads first old old first
ran_not payloads first old = record { events = []; last_is = refl; told = tells_same old old refl }

pub ran_more : (payloads : List (List ℕ)) (first s after : Shipping) (old mid now : Option (List LinkEntry)) → Ran payloads first old mid s → Met payloads s mid now after → Ran payloads first old now after
ran_more payloads first s after old mid now ran met = record {
  events = ran.events ++ met.last ∷ [];
  last_is = met.after_is ∙ ap (λ (t : Shipping). (ship_steps met.last t).0) ran.last_is ∙ sym (runs_more ran.events met.last first);
  told = tells_alike old now _ _
      (ap (λ (t : Shipping). tale payloads ran.events first ++ round payloads met.last t) ran.last_is ∙ sym (tale_more payloads ran.events met.last first))
      (tells_more old mid now (tale payloads ran.events first) (round payloads met.last s) ran.told met.told);
}

pub broke_off : (payloads : List (List ℕ)) (first s : Shipping) (old mid now : Option (List LinkEntry)) → Ran payloads first old mid s → PartMet payloads s mid now → BrokeOff payloads first old now
broke_off payloads first s old mid now ran part = record {
  events = ran.events;
  cut = part.cut;
  part = subst (λ (t : Shipping). (part.cut ≡ []) ⊎ IsCut payloads t part.cut) ran.last_is part.part;
  told = tells_more old mid now (tale payloads ran.events first) part.cut ran.told part.told;
}
