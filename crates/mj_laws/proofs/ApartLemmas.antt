-- Numbers and lanes of connections, and what is on its way to them.
use Rattle.std.proofs.Common.{◌≡◌, ◌≢◌, ◌+◌, ◌<◌, ◌≤◌, ◌==◌, ◌||◌, nat_le, nat_lt, ℕ, suc, Bool, true, false, not, cond, List, [], ◌∷◌, ◌++◌, length, sum, Option, None, Some, refl, sym, ap, subst, ◌∙◌, inl, inr, arith, length-append, length-drop}
use Rattle.std.specs.Option.{option_map}
use Rattle.std.specs.List.{AllByRecursion, filter}
use Rattle.std.proofs.lemmas.Bool.Decides.{leb_tells}
use Rattle.std.proofs.lemmas.List.Sums.{sum_by-append, sum_by-take-drop}
use Rattle.mj_base.specs.declared.limits.Limits.{Limits}
use Rattle.mj_machine.specs.declared.connection.Connection.{Connection}
use Rattle.mj_machine.specs.declared.connection.Role.TheVariants.{Fresh, Gone}
use Rattle.mj_machine.specs.StoreState.{Told}
use Rattle.mj_machine.specs.MachineState.{State}
use Rattle.mj_machine.specs.Connections.{changed, connection_of, connection_on, number_on, with_role}
use Rattle.mj_machine.specs.Leaving.{connections_without, removed}
use Rattle.mj_machine.specs.Sending.{is_slow, sent}
use Rattle.mj_machine.specs.Pairing.{mark_set}
use Rattle.mj_machine.specs.EventStep.{closes, delivered, opened}
use Rattle.mj_machine.specs.Steps.{Cause}
use Rattle.mj_machine.proofs.ConnectionLemmas.{Keeps, agrees, equal}
use Rattle.mj_machine.proofs.StepWalk.{MayBegin}
use Rattle.mj_laws.specs.Soundness.{IsApart, LanesAreApart, NumbersAreFresh, PiecesFit}
use Rattle.mj_machine.proofs.ListLemmas.{all-append, all-filter, all-map}
use Rattle.mj_machine.proofs.Changes.{IsKept}

-- ---- lists of connections

-- the changed connection is the one that is found
all-found : (P : Connection → Type 0) (n : ℕ) (f : Connection → Connection) (cs : List Connection) → ((c : Connection) → connection_of n cs ≡ Some c → P c → P (f c))
    → AllByRecursion P cs → AllByRecursion P (changed n f cs)
all-found P n f [] step all = tt
all-found P n f (c ∷ cs) step all = by (c.number == n) step (λ s. all-found P n f cs s all.1)
  where
    by : (b : Bool) → ((d : Connection) → cond {A = Option Connection} b (Some c) (connection_of n cs) ≡ Some d → P d → P (f d))
        → (((d : Connection) → connection_of n cs ≡ Some d → P d → P (f d)) → AllByRecursion P (changed n f cs))
        → AllByRecursion P (cond {A = List Connection} b (f c ∷ cs) (c ∷ changed n f cs))
    by true step rest = (step c refl all.0, all.1)
    by false step rest = (all.0, rest step)

pub all-changed : (P : Connection → Type 0) (n : ℕ) (f : Connection → Connection) → ((c : Connection) → P c → P (f c)) → (cs : List Connection)
    → AllByRecursion P cs → AllByRecursion P (changed n f cs)
all-changed P n f step cs all = all-found P n f cs (λ c is p. step c p) all

module _ (key : Connection → ℕ) where
  apart-changed : (n : ℕ) (f : Connection → Connection) → ((c : Connection) → key (f c) ≡ key c) → (cs : List Connection) → IsApart key cs → IsApart key (changed n f cs)
  apart-changed n f keeps [] apart = tt
  apart-changed n f keeps (c ∷ cs) apart = by (c.number == n) (apart-changed n f keeps cs apart.1)
    where
      by : (b : Bool) → IsApart key (changed n f cs) → IsApart key (cond {A = List Connection} b (f c ∷ cs) (c ∷ changed n f cs))
      by true rest = (all-map _ _ (λ d other same. other (same ∙ keeps c)) cs apart.0, apart.1)
      by false rest = (all-changed (λ d. key d ≢ key c) n f (λ d other same. other (sym (keeps d) ∙ same)) cs apart.0, rest)

  pub apart-filter : (p : Connection → Bool) (cs : List Connection) → IsApart key cs → IsApart key (filter p cs)
  apart-filter p [] apart = tt
  apart-filter p (c ∷ cs) apart = by (p c) (apart-filter p cs apart.1)
    where
      by : (b : Bool) → IsApart key (filter p cs) → IsApart key (cond {A = List Connection} b (c ∷ filter p cs) (filter p cs))
      by true rest = (all-filter (λ d. key d ≢ key c) p cs apart.0, rest)
      by false rest = rest

  apart-added : (cs : List Connection) (new : Connection) → IsApart key cs → AllByRecursion (λ d. key d ≢ key new) cs → IsApart key (cs ++ new ∷ [])
  apart-added [] new apart others = (tt, tt)
  apart-added (c ∷ cs) new apart others =
      (all-append _ cs (new ∷ []) apart.0 ((λ same. others.0 (sym same)), tt), apart-added cs new apart.1 others.1)

-- ---- numbers

numbers-changed : (n : ℕ) (f : Connection → Connection) → Keeps f → (s : State) → NumbersAreFresh s → NumbersAreFresh (record s { connections = changed n f s.connections })
numbers-changed n f keeps s fresh = (
  all-changed (λ c. c.number < s.next) n f (λ c below. subst (λ (x : ℕ). x < s.next) (sym (keeps c)) below) s.connections fresh.0,
  apart-changed (λ c. c.number) n f keeps s.connections fresh.1,
)

numbers-without : (n : ℕ) (told : Told) (s : State) → NumbersAreFresh s → NumbersAreFresh (removed n told s)
numbers-without n told s fresh = (all-filter _ _ s.connections fresh.0, apart-filter (λ c. c.number) _ s.connections fresh.1)

numbers-opened : (lane : ℕ) (s : State) → NumbersAreFresh s → NumbersAreFresh (opened lane s)
numbers-opened lane s fresh = (
  all-append (λ c. c.number < s.next + 1) s.connections _ (all-map _ _ (λ c below. omega (arith, below)) s.connections fresh.0) (omega arith, tt),
  apart-added (λ c. c.number) s.connections _ fresh.1 (all-map _ _ (λ c below same. omega (arith, below, same)) s.connections fresh.0),
)

pub numbers-kept : (cause : Cause) (s0 : State) → IsKept cause s0 NumbersAreFresh
numbers-kept cause s0 = record {
  keeps_marked = λ q s p. numbers-changed q (mark_set s.now) (λ c. refl) s p;
  keeps_sent = λ q octets c s is slow p. numbers-changed q (sent s.now octets) (λ d. refl) s p;
  keeps_reported = λ q s p. numbers-changed q delivered (λ c. refl) s p;
  keeps_removed = λ q told s p. numbers-without q told s p;
  keeps_gone = λ q told s p. numbers-changed q (with_role Gone) (λ c. refl) s p;
  keeps_expired = λ q told s is p. numbers-changed q (with_role Fresh) (λ c. refl) s p;
  keeps_asking = λ q c is plain p. numbers-changed q (with_role _) (λ d. refl) s0 p;
  keeps_queued = λ q c message request told is origin p. p;
  keeps_registered = λ q c message voice service told is fresh p. numbers-changed q (with_role _) (λ d. refl) s0 p;
  keeps_rested = λ q service s final works p. p;
  keeps_given = λ p by is all. all;
  keeps_passed = λ p by is all. all;
  keeps_opened = λ lane is p. numbers-opened lane s0 p;
  keeps_time = λ ms s p. p;
  keeps_emptied = λ s p. p;
  keeps_refilled = λ store s p. p;
  keeps_submitted = λ number service s p. p;
  keeps_dropped = λ number s p. p;
}

-- ---- lanes

lanes-changed : (n : ℕ) (f : Connection → Connection) → ((c : Connection) → (f c).lane ≡ c.lane) → (s : State) → LanesAreApart s
    → LanesAreApart (record s { connections = changed n f s.connections })
lanes-changed n f keeps s apart = apart-changed (λ c. c.lane) n f keeps s.connections apart

abbrev pub IsFree : State → ℕ → Type 0
IsFree s lane = number_on lane s.connections ≡ None

-- nobody is on this lane
on-none : (lane : ℕ) (cs : List Connection) → connection_on lane cs ≡ None → AllByRecursion (λ d. d.lane ≢ lane) cs
on-none lane [] none = tt
on-none lane (c ∷ cs) none = by (c.lane == lane) refl none (on-none lane cs)
  where
    by : (b : Bool) → (c.lane == lane) ≡ b → cond {A = Option Connection} b (Some c) (connection_on lane cs) ≡ None
        → (connection_on lane cs ≡ None → AllByRecursion (λ d. d.lane ≢ lane) cs) → (c.lane ≢ lane) × AllByRecursion (λ d. d.lane ≢ lane) cs
    by true e found rest = absurd (cc found)
    by false e found rest = ((λ same. cc (e, equal-lane same)), rest found)
      where
        equal-lane : c.lane ≡ lane → (c.lane == lane) ≡ true
        equal-lane same = ap (λ (x : ℕ). x == lane) same ∙ equal lane

none-on : (lane : ℕ) (cs : List Connection) → AllByRecursion (λ d. d.lane ≢ lane) cs → connection_on lane cs ≡ None
none-on lane [] all = refl
none-on lane (c ∷ cs) all = by (c.lane == lane) refl (none-on lane cs all.1)
  where
    by : (b : Bool) → (c.lane == lane) ≡ b → connection_on lane cs ≡ None → cond {A = Option Connection} b (Some c) (connection_on lane cs) ≡ None
    by true e rest = absurd (all.0 (agrees c.lane lane e))
    by false e rest = rest

pub no-number : (o : Option Connection) → option_map (λ c. c.number) o ≡ None → o ≡ None
no-number None none = refl
no-number (Some c) none = absurd (cc none)

free-lane : (lane : ℕ) (s : State) → IsFree s lane → AllByRecursion (λ d. d.lane ≢ lane) s.connections
free-lane lane s free = on-none lane s.connections (no-number (connection_on lane s.connections) free)

-- once a lane's connection is cut off nobody is on it
on-cut : (lane : ℕ) (c : Connection) (cs : List Connection) → connection_on lane cs ≡ Some c → IsApart (λ d. d.lane) cs → AllByRecursion (λ d. d.lane ≢ lane) (connections_without c.number cs)
on-cut lane c [] is apart = tt
on-cut lane c (d ∷ cs) is apart = by (d.lane == lane) refl is (on-cut lane c cs)
  where
    Without : Bool → Type 0
    Without b = AllByRecursion (λ e. e.lane ≢ lane) (cond {A = List Connection} (not b) (d ∷ connections_without c.number cs) (connections_without c.number cs))

    here : d ≡ c → d.lane ≡ lane → Without (d.number == c.number)
    here same on =
        let number : (d.number == c.number) ≡ true = ap (λ (x : Connection). d.number == x.number) (sym same) ∙ equal d.number in
        subst Without (sym number) (all-filter (λ e. e.lane ≢ lane) _ cs (all-map _ _ (λ e other on_it. other (on_it ∙ sym on)) cs apart.0))

    there : (b : Bool) → d.lane ≢ lane → AllByRecursion (λ e. e.lane ≢ lane) (connections_without c.number cs) → Without b
    there true other rest = rest
    there false other rest = (other, rest)

    same-some : (x y : Connection) → Some x ≡ Some y → x ≡ y
    same-some x y e = cc e

    by : (b : Bool) → (d.lane == lane) ≡ b → cond {A = Option Connection} b (Some d) (connection_on lane cs) ≡ Some c
        → (connection_on lane cs ≡ Some c → IsApart (λ e. e.lane) cs → AllByRecursion (λ e. e.lane ≢ lane) (connections_without c.number cs)) → Without (d.number == c.number)
    by true e found rest = here (same-some d c found) (agrees d.lane lane e)
    by false e found rest = there (d.number == c.number) (λ same. cc (e, ap (λ (x : ℕ). x == lane) same ∙ equal lane)) (rest found apart.1)

vacated : (told : Told) (s : State) (o : Option Connection) (lane : ℕ) → connection_on lane s.connections ≡ o → LanesAreApart s
    → AllByRecursion (λ d. d.lane ≢ lane) (closes (option_map (λ c. c.number) o) told s).connections
vacated told s None lane is apart = on-none lane s.connections is
vacated told s (Some c) lane is apart = on-cut lane c s.connections is apart

pub lane-vacated : (told : Told) (s : State) → LanesAreApart s → (lane : ℕ) → IsFree (closes (number_on lane s.connections) told s) lane
lane-vacated told s apart lane =
    ap (λ (o : Option Connection). option_map (λ c. c.number) o) (none-on lane (closes (number_on lane s.connections) told s).connections (vacated told s (connection_on lane s.connections) lane refl apart))

pub lanes-kept : (cause : Cause) (s0 : State) → MayBegin IsFree cause s0 → IsKept cause s0 LanesAreApart
lanes-kept cause s0 free = record {
  keeps_marked = λ q s p. lanes-changed q (mark_set s.now) (λ c. refl) s p;
  keeps_sent = λ q octets c s is slow p. lanes-changed q (sent s.now octets) (λ d. refl) s p;
  keeps_reported = λ q s p. lanes-changed q delivered (λ c. refl) s p;
  keeps_removed = λ q told s p. apart-filter (λ c. c.lane) _ s.connections p;
  keeps_gone = λ q told s p. lanes-changed q (with_role Gone) (λ c. refl) s p;
  keeps_expired = λ q told s is p. lanes-changed q (with_role Fresh) (λ c. refl) s p;
  keeps_asking = λ q c is plain p. lanes-changed q (with_role _) (λ d. refl) s0 p;
  keeps_queued = λ q c message request told is origin p. p;
  keeps_registered = λ q c message voice service told is fresh p. lanes-changed q (with_role _) (λ d. refl) s0 p;
  keeps_rested = λ q service s final works p. p;
  keeps_given = λ p by is all. all;
  keeps_passed = λ p by is all. all;
  keeps_opened = λ lane is p. apart-added (λ c. c.lane) s0.connections _ p (free-lane lane s0 (free lane is));
  keeps_time = λ ms s p. p;
  keeps_emptied = λ s p. p;
  keeps_refilled = λ store s p. p;
  keeps_submitted = λ number service s p. p;
  keeps_dropped = λ number s p. p;
}

-- ---- pieces

abbrev Fits : Limits → Connection → Type 0
Fits limits c = (length c.outstanding ≤ limits.out_pieces) × (sum c.outstanding ≤ limits.out_octets)

room : (limits : Limits) (pieces total octets : ℕ) → (nat_le limits.out_pieces pieces || nat_lt limits.out_octets (total + octets)) ≡ false
    → (pieces < limits.out_pieces) × (total + octets ≤ limits.out_octets)
room limits pieces total octets slow =
    elim (leb_tells limits.out_pieces pieces) [
      | inl many ↦ absurd (by many.0)
      | inr few ↦ elim (leb_tells (suc limits.out_octets) (total + octets)) [ inl much ↦ absurd (by_octets few.0 much.0) | inr little ↦ (few.1, omega (arith, little.1)) ]
    ]
  where
    by : nat_le limits.out_pieces pieces ≡ true → ⊥
    by many = let e = ap (λ (b : Bool). b || nat_lt limits.out_octets (total + octets)) many in cc (e, slow)

    by_octets : nat_le limits.out_pieces pieces ≡ false → nat_lt limits.out_octets (total + octets) ≡ true → ⊥
    by_octets few much =
        let e = ap (λ (b : Bool). b || nat_lt limits.out_octets (total + octets)) few in
        cc (e, much, slow)

fits-sent : (limits : Limits) (now octets : ℕ) (c : Connection) → is_slow limits c octets ≡ false → Fits limits (sent now octets c)
fits-sent limits now octets c slow =
    let free = room limits (length c.outstanding) (sum c.outstanding) octets slow in
    let more = length-append c.outstanding (octets ∷ []) in
    let total = sum_by-append (λ (x : ℕ). x) c.outstanding (octets ∷ []) in
    (omega (arith, free.0, more), omega (arith, free.1, total))

fits-delivered : (limits : Limits) (c : Connection) → Fits limits c → Fits limits (delivered c)
fits-delivered limits c fits =
    let fewer = length-drop 1 c.outstanding in
    let total = sum_by-take-drop (λ (x : ℕ). x) c.outstanding 1 in
    (omega (arith, fits.0, fewer), omega (arith, fits.1, total))

module _ (limits : Limits) where
  pieces-same : (n : ℕ) (f : Connection → Connection) → ((c : Connection) → (f c).outstanding ≡ c.outstanding) → (s : State) → PiecesFit limits s
      → PiecesFit limits (record s { connections = changed n f s.connections })
  pieces-same n f keeps s p =
      (p.0, all-changed (Fits limits) n f (λ c fits. subst (λ (xs : List ℕ). (length xs ≤ limits.out_pieces) × (sum xs ≤ limits.out_octets)) (sym (keeps c)) fits) s.connections p.1)

  pieces-sent : (n octets : ℕ) (c : Connection) (s : State) → connection_of n s.connections ≡ Some c → is_slow s.limits c octets ≡ false → PiecesFit limits s
      → PiecesFit limits (record s { connections = changed n (sent s.now octets) s.connections })
  pieces-sent n octets c s is slow p =
      (p.0, all-found (Fits limits) n (sent s.now octets) s.connections (λ d found fits. new d found) p.1)
    where
      same-some : (x y : Connection) → Some x ≡ Some y → x ≡ y
      same-some x y e = cc e

      new : (d : Connection) → connection_of n s.connections ≡ Some d → Fits limits (sent s.now octets d)
      new d found =
          let same : c ≡ d = same-some c d (sym is ∙ found) in
          fits-sent limits s.now octets d (subst (λ (x : Connection). is_slow limits x octets ≡ false) same (subst (λ (x : Limits). is_slow x c octets ≡ false) p.0 slow))

  pub pieces-kept : (cause : Cause) (s0 : State) → IsKept cause s0 (PiecesFit limits)
  pieces-kept cause s0 = record {
    keeps_marked = λ q s p. pieces-same q (mark_set s.now) (λ c. refl) s p;
    keeps_sent = λ q octets c s is slow p. pieces-sent q octets c s is slow p;
    keeps_reported = λ q s p. (p.0, all-changed (Fits limits) q delivered (λ c fits. fits-delivered limits c fits) s.connections p.1);
    keeps_removed = λ q told s p. (p.0, all-filter (Fits limits) _ s.connections p.1);
    keeps_gone = λ q told s p. pieces-same q (with_role Gone) (λ c. refl) s p;
    keeps_expired = λ q told s is p. pieces-same q (with_role Fresh) (λ c. refl) s p;
    keeps_asking = λ q c is plain p. pieces-same q (with_role _) (λ d. refl) s0 p;
    keeps_queued = λ q c message request told is origin p. p;
    keeps_registered = λ q c message voice service told is fresh p. pieces-same q (with_role _) (λ d. refl) s0 p;
    keeps_rested = λ q service s final works p. p;
    keeps_given = λ p by is all. all;
    keeps_passed = λ p by is all. all;
    keeps_opened = λ lane is p. (p.0, all-append (Fits limits) s0.connections _ p.1 ((omega arith, omega arith), tt));
    keeps_time = λ ms s p. p;
    keeps_emptied = λ s p. p;
    keeps_refilled = λ store s p. p;
    keeps_submitted = λ number service s p. p;
    keeps_dropped = λ number s p. p;
  }
