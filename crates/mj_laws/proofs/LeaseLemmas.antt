-- A lease ends only once it has passed.
use Rattle.std.proofs.Common.{◌≡◌, ◌≢◌, ◌+◌, ◌==◌, ℕ, Bool, true, false, cond, List, [], ◌∷◌, Option, Some, refl, sym, ap, subst, ◌∙◌}
use Rattle.std.specs.List.{AllByRecursion, filter}
use Rattle.mj_base.specs.declared.limits.Limits.{Limits}
use Rattle.mj_machine.specs.declared.connection.Connection.{Connection}
use Rattle.mj_machine.specs.declared.connection.Role.{Role}
use Rattle.mj_machine.specs.declared.connection.Role.TheVariants.{Client, Fresh, Gone, Worker}
use Rattle.mj_machine.specs.declared.held.Held.{Held}
use Rattle.mj_machine.specs.StoreState.{Store, Told, told_by}
use Rattle.mj_machine.specs.MachineState.{State, Whole, start_with}
use Rattle.mj_machine.specs.EventStep.{Noted}
use Rattle.mj_machine.specs.Connections.{connection_of, with_role}
use Rattle.mj_machine.specs.Acts.{each}
use Rattle.mj_machine.specs.Leaving.{held_without}
use Rattle.mj_machine.specs.TickStep.{deadline_of, due_numbers, expires, has_passed, is_due, is_holding, numbers}
use Rattle.mj_machine.specs.Steps.{Expiry, Step, acts, expiry_step, lease_steps, run_steps}
use Rattle.mj_machine.proofs.ConnectionLemmas.{changed-other, differs, equal, found-number, holding-without-other}
use Rattle.mj_laws.specs.Requests.{LeaseHasPassed}
use Rattle.mj_laws.specs.Soundness.{IsApart, NumbersAreFresh}
use Rattle.mj_machine.proofs.ListLemmas.{all-map, all-passed}
use Rattle.mj_machine.proofs.StepWalk.{AnyLane, IsPlain, IsWalked, carried-on, stays-run, walked-kept}
use Rattle.mj_laws.proofs.ApartLemmas.{apart-filter, numbers-kept}
use Rattle.mj_laws.proofs.SoundLemmas.{sound-start}

-- ---- who is due

abbrev IsDue : State → ℕ → Type 0
IsDue s n = (c : Connection) × (connection_of n s.connections ≡ Some c) × (is_due s c ≡ true)

abbrev Distinct : List ℕ → Type 0
Distinct [] = Unit {0}
Distinct (n ∷ ns) = AllByRecursion (λ m. m ≢ n) ns × Distinct ns

all-mapped : (P : ℕ → Type 0) (cs : List Connection) → AllByRecursion (λ c. P c.number) cs → AllByRecursion P (numbers cs)
all-mapped P [] all = tt
all-mapped P (c ∷ cs) all = (all.0, all-mapped P cs all.1)

distinct-numbers : (cs : List Connection) → IsApart (λ c. c.number) cs → Distinct (numbers cs)
distinct-numbers [] apart = tt
distinct-numbers (c ∷ cs) apart = (all-mapped (λ m. m ≢ c.number) cs apart.0, distinct-numbers cs apart.1)

-- each is found behind one that has another number
found-behind : (c : Connection) (cs ds : List Connection) → AllByRecursion (λ d. d.number ≢ c.number) ds → AllByRecursion (λ d. connection_of d.number cs ≡ Some d) ds
    → AllByRecursion (λ d. connection_of d.number (c ∷ cs) ≡ Some d) ds
found-behind c cs [] others all = tt
found-behind c cs (d ∷ ds) others all =
    let no : (c.number == d.number) ≡ false = differs c.number d.number (λ same. others.0 (sym same)) in
    (ap (λ (b : Bool). cond {A = Option Connection} b (Some c) (connection_of d.number cs)) no ∙ all.0, found-behind c cs ds others.1 all.1)

-- where no two share a number each connection is found by its own
all-found : (cs : List Connection) → IsApart (λ c. c.number) cs → AllByRecursion (λ c. connection_of c.number cs ≡ Some c) cs
all-found [] apart = tt
all-found (c ∷ cs) apart = (
  ap (λ (b : Bool). cond {A = Option Connection} b (Some c) (connection_of c.number cs)) (equal c.number),
  found-behind c cs cs apart.0 (all-found cs apart.1),
)

all-due : (s : State) → IsApart (λ c. c.number) s.connections → AllByRecursion (IsDue s) (due_numbers s)
all-due s apart =
    all-mapped (IsDue s) (filter (is_due s) s.connections)
    (all-map _ _ (λ c both. (c, both.0, both.1)) (filter (is_due s) s.connections) (all-passed _ (is_due s) s.connections (all-found s.connections apart)))

-- ---- another's lease ends

deadline-same : (limits : Limits) (held others : List Held) (n : ℕ) (role : Role) → is_holding n others ≡ is_holding n held → deadline_of limits others n role ≡ deadline_of limits held n role
deadline-same limits held others n Fresh same = refl
deadline-same limits held others n Client same = refl
deadline-same limits held others n (Worker r) same = ap (λ (b : Bool). Some (r.mark + cond b limits.busy_lease limits.lease)) same
deadline-same limits held others n Gone same = refl

due-stays : (n q : ℕ) (told : Told) (s : State) → n ≢ q → IsDue s n → IsDue (expires q told s) n
due-stays n q told s apart due =
    let c = due.0 in
    let number : c.number ≡ n = found-number n c s.connections due.1 in
    let same = deadline-same s.limits s.held (held_without q s.held) c.number c.role (holding-without-other q c.number (λ is. apart (sym number ∙ is)) s.held) in (
      c,
      changed-other q n (with_role Fresh) (λ d. refl) apart s.connections ∙ due.1,
      ap (λ (o : Option ℕ). has_passed s.now o) same ∙ due.2,
    )

-- ---- steps

abbrev InTime : List Step → Type 0
InTime steps = AllByRecursion LeaseHasPassed steps

same-expiry : (n m : ℕ) → Expiry n ≡ Expiry m → n ≡ m
same-expiry n m same = cc same

in-expiries : (ns : List ℕ) (w : Whole) → Distinct ns → AllByRecursion (IsDue w.routing) ns → InTime (each expiry_step ns w).1
in-expiries [] w apart due = tt
in-expiries (n ∷ ns) w apart due = (
  (λ m is. subst (IsDue w.routing) (same-expiry n m is) due.0),
  in-expiries ns (acts (Expiry n) w).0 apart.1 (still ns apart.0 due.1),
)
  where
    still : (ms : List ℕ) → AllByRecursion (λ m. m ≢ n) ms → AllByRecursion (IsDue w.routing) ms → AllByRecursion (IsDue (expires n (told_by w.store) w.routing)) ms
    still [] others all = tt
    still (m ∷ ms) others all = (due-stays m n (told_by w.store) w.routing others.0 all.0, still ms others.1 all.1)

in-leases : (w : Whole) → IsApart (λ c. c.number) w.routing.connections → InTime (lease_steps w).1
in-leases w apart =
    let s = w.routing in
    in-expiries (due_numbers s) w (distinct-numbers (filter (is_due s) s.connections) (apart-filter (λ c. c.number) (is_due s) s.connections apart)) (all-due s apart)

-- ---- runs

lease-walked : IsWalked AnyLane (λ w. NumbersAreFresh w.routing) (λ w. NumbersAreFresh w.routing) LeaseHasPassed
lease-walked =
    let kept = walked-kept AnyLane (λ w. NumbersAreFresh w.routing) (carried-on AnyLane NumbersAreFresh (λ cause s free. numbers-kept cause s)) in record {
      plain = λ cause w plain p. ((λ n is. absurd (subst IsPlain is plain)), (kept.plain cause w plain p).1);
      opens = λ lane w free p. ((λ n is. absurd (cc is)), (kept.opens lane w free p).1);
      leases = λ w p. (in-leases w p.1, (kept.leases w p).1);
      message = λ n message w p. ((λ m is. absurd (cc is)), (kept.message n message w p).1);
      pairs = λ q w is p. ((λ n other. absurd (cc other)), (kept.pairs q w is p).1);
      eases = λ w p. p;
      settled = λ w none p. p;
    }

pub leases_end_in_time : (limits : Limits) (store : Store) (events : List Noted) → AllByRecursion LeaseHasPassed (run_steps limits (start_with limits store) events)
leases_end_in_time limits store events =
    (stays-run AnyLane (λ s c. NumbersAreFresh s) (λ w. NumbersAreFresh w.routing) LeaseHasPassed lease-walked (λ s c p lane. tt) limits (start_with limits store) events
    (sound-start limits store).numbers).0
