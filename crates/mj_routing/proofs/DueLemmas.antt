-- The workers that the table of deadlines names are those whose lease has ended, by number.
use Rattle.std.proofs.Common.{◌≡◌, ◌+◌, ◌<◌, ◌≤◌, ◌==◌, ◌&&◌, ◌||◌, length, nat_le, ℕ, Bool, true, false, cond, T, List, [], ◌∷◌, map, Option, None, Some, refl, sym, ap, subst, ◌∙◌, arith, append-nil}
use Rattle.std.specs.Option.{option_map}
use Rattle.std.specs.List.{filter, list_any}
use Rattle.std.specs.Cmp.{nat_cmp_total}
use Rattle.std.specs.FinMap as leases_by
use Rattle.std.specs.FinMap.{FinMap, entries_sorted, get-entries}
use Rattle.std.specs.FinMap.Entries.{below_all, find, is_sorted, same_entries}
use Rattle.std.specs.Ordering.{nat_cmp, is_lt}
use Rattle.std.specs.declared.cmp.Ordering.TheVariants.{Less, Equal}
use Rattle.std.proofs.lemmas.Bool.Decides.{nat_tests}
use Rattle.mj_base.specs.declared.limits.Limits.{Limits}
use Rattle.mj_lease.specs.LeaseMap.{due_of}
use Rattle.mj_lease.proofs.EntryLemmas.{tie}
use Rattle.mj_machine.specs.declared.connection.Connection.{Connection}
use Rattle.mj_machine.specs.declared.held.Held.{Held}
use Rattle.mj_base.specs.declared.event.Out.{Out}
use Rattle.mj_machine.specs.StoreState.{Told}
use Rattle.mj_machine.specs.MachineState.{State}
use Rattle.mj_machine.specs.Acts.{each}
use Rattle.mj_machine.specs.Connections.{connection_of}
use Rattle.mj_machine.specs.TickStep.{all_beat, beats, deadline_of, due_numbers, has_passed, is_due, is_unspoken, numbers, silent_numbers}
use Rattle.mj_machine.proofs.ConnectionLemmas.{agrees, differs}
use Rattle.mj_queue.specs.HallState.{HallState}
use Rattle.mj_routing.specs.Lanes.{AllAbove, Rise}
use Rattle.mj_routing.specs.RoutingState.{AreKept, Does, seen}
use Rattle.mj_routing.specs.Deadlines.{LeasesStand, deadline_at, deadline_on, kept}

-- ---- the deadlines of a list of connections, as entries

abbrev entry : ℕ → Option ℕ → List (ℕ × ℕ) → List (ℕ × ℕ)
entry n None rest = rest
entry n (Some deadline) rest = (n, kept deadline) ∷ rest

abbrev entries_of : Limits → List Held → List Connection → List (ℕ × ℕ)
entries_of limits held [] = []
entries_of limits held (c ∷ cs) = entry c.number (deadline_of limits held c.number c.role) (entries_of limits held cs)

both : (a b : Bool) → T a → T b → T (a && b)
both true b x y = y
both false b x y = absurd x

less : (m n : ℕ) → m < n → nat_cmp m n ≡ Less
less m n below = grind (arith, nat_tests)

is-less : (m n : ℕ) → m < n → T (is_lt (nat_cmp m n))
is-less m n below = rw (less m n below) tt

above-entry : (m n : ℕ) (deadline : Option ℕ) (rest : List (ℕ × ℕ)) → m < n → T (below_all nat_cmp m rest) → T (below_all nat_cmp m (entry n deadline rest))
above-entry m n None rest below is = is
above-entry m n (Some deadline) rest below is = both (is_lt (nat_cmp m n)) (below_all nat_cmp m rest) (is-less m n below) is

above-entries : (limits : Limits) (held : List Held) (m : ℕ) (cs : List Connection) → AllAbove m cs → T (below_all nat_cmp m (entries_of limits held cs))
above-entries limits held m [] above = tt
above-entries limits held m (c ∷ cs) above = above-entry m c.number (deadline_of limits held c.number c.role) (entries_of limits held cs) above.0 (above-entries limits held m cs above.1)

sorted-entry : (n : ℕ) (deadline : Option ℕ) (rest : List (ℕ × ℕ)) → T (below_all nat_cmp n rest) → T (is_sorted nat_cmp rest) → T (is_sorted nat_cmp (entry n deadline rest))
sorted-entry n None rest above is = is
sorted-entry n (Some deadline) rest above is = both (below_all nat_cmp n rest) (is_sorted nat_cmp rest) above is

sorted-entries : (limits : Limits) (held : List Held) (cs : List Connection) → Rise cs → T (is_sorted nat_cmp (entries_of limits held cs))
sorted-entries limits held [] rise = tt
sorted-entries limits held (c ∷ cs) rise =
    sorted-entry c.number (deadline_of limits held c.number c.role) (entries_of limits held cs) (above-entries limits held c.number cs rise.0) (sorted-entries limits held cs rise.1)

-- ---- what is found in them

not-above : (m : ℕ) (cs : List Connection) → AllAbove m cs → connection_of m cs ≡ None
not-above m [] above = refl
not-above m (c ∷ cs) above =
    let apart : (c.number == m) ≡ false = differs c.number m (λ e. let lt : m < c.number = above.0 in absurd (omega (arith, lt, e))) in
    rw apart (not-above m cs above.1)

found-none : (limits : Limits) (held : List Held) (c : Connection) (cs : List Connection) (q : ℕ) → AllAbove c.number cs → deadline_of limits held c.number c.role ≡ None
    → deadline_on limits cs held q ≡ deadline_on limits (c ∷ cs) held q
found-none limits held c cs q above none = by (c.number == q) refl
  where
    by : (b : Bool) → (c.number == q) ≡ b → deadline_on limits cs held q ≡ deadline_at limits held q (cond {A = Option Connection} b (Some c) (connection_of q cs))
    by true e =
        let same : c.number ≡ q = agrees c.number q e in
        subst (λ (k : ℕ). deadline_on limits cs held k ≡ deadline_of limits held k c.role) same (ap (deadline_at limits held c.number) (not-above c.number cs above) ∙ sym none)
    by false e = refl

found-some : (limits : Limits) (held : List Held) (c : Connection) (cs : List Connection) (q deadline : ℕ) → deadline_of limits held c.number c.role ≡ Some deadline
    → find nat_cmp q (entries_of limits held cs) ≡ option_map kept (deadline_on limits cs held q)
    → find nat_cmp q ((c.number, kept deadline) ∷ entries_of limits held cs) ≡ option_map kept (deadline_on limits (c ∷ cs) held q)
found-some limits held c cs q deadline some rest =
    ap (λ (b : Bool). cond b (Some (kept deadline)) (find nat_cmp q (entries_of limits held cs))) (tie q c.number) ∙ by (c.number == q) refl
  where
    by : (b : Bool) → (c.number == q) ≡ b
        → cond b (Some (kept deadline)) (find nat_cmp q (entries_of limits held cs)) ≡ option_map kept (deadline_at limits held q (cond {A = Option Connection} b (Some c) (connection_of q cs)))
    by true e =
        let same : c.number ≡ q = agrees c.number q e in
        subst (λ (k : ℕ). Some (kept deadline) ≡ option_map kept (deadline_of limits held k c.role)) same (ap (option_map kept) (sym some))
    by false e = rest

found : (limits : Limits) (held : List Held) (cs : List Connection) (q : ℕ) → Rise cs → find nat_cmp q (entries_of limits held cs) ≡ option_map kept (deadline_on limits cs held q)
found limits held [] q rise = refl
found limits held (c ∷ cs) q rise = by (deadline_of limits held c.number c.role) refl (found limits held cs q rise.1)
  where
    by : (d : Option ℕ) → deadline_of limits held c.number c.role ≡ d → find nat_cmp q (entries_of limits held cs) ≡ option_map kept (deadline_on limits cs held q)
        → find nat_cmp q (entry c.number d (entries_of limits held cs)) ≡ option_map kept (deadline_on limits (c ∷ cs) held q)
    by None e rest = rest ∙ ap (option_map kept) (found-none limits held c cs q rise.0 e)
    by (Some deadline) e rest = found-some limits held c cs q deadline e rest

-- ---- those that are due

kept-due : (deadline moment : ℕ) → moment ≤ 1000000000000000 → nat_le (kept deadline) moment ≡ nat_le deadline moment
kept-due deadline moment small = grind (arith, nat_tests)

due-entry : (moment n : ℕ) → moment ≤ 1000000000000000 → (deadline : Option ℕ) (rest : List (ℕ × ℕ)) (c : Connection) (due : List Connection) → c.number ≡ n
    → map (λ l. l.0) (filter (λ l. nat_le l.1 moment) rest) ≡ numbers due
    → map (λ l. l.0) (filter (λ l. nat_le l.1 moment) (entry n deadline rest)) ≡ numbers (cond {A = List Connection} (has_passed moment deadline) (c ∷ due) due)
due-entry moment n small None rest c due is same = same
due-entry moment n small (Some deadline) rest c due is same = rw (kept-due deadline moment small) (by (nat_le deadline moment))
  where
    by : (b : Bool) → map (λ l. l.0) (cond {A = List (ℕ × ℕ)} b ((n, kept deadline) ∷ filter (λ l. nat_le l.1 moment) rest) (filter (λ l. nat_le l.1 moment) rest))
        ≡ numbers (cond {A = List Connection} b (c ∷ due) due)
    by true = ap (λ (k : ℕ). k ∷ map (λ l. l.0) (filter (λ l. nat_le l.1 moment) rest)) (sym is) ∙ ap (λ (ks : List ℕ). c.number ∷ ks) same
    by false = same

due-entries : (s : State) → s.now ≤ 1000000000000000 → (cs : List Connection) → map (λ l. l.0) (filter (λ l. nat_le l.1 s.now) (entries_of s.limits s.held cs)) ≡ numbers (filter (is_due s) cs)
due-entries s small [] = refl
due-entries s small (c ∷ cs) =
    due-entry s.now c.number small (deadline_of s.limits s.held c.number c.role) (entries_of s.limits s.held cs) c (filter (is_due s) cs) refl (due-entries s small cs)

pub due-is : (s : State) (leases : FinMap nat_cmp ℕ) → s.now ≤ 1000000000000000 → Rise s.connections → LeasesStand s.limits s.connections s.held leases → due_of s.now leases ≡ due_numbers s
due-is s leases small rise stands =
    let same : leases_by.entries leases ≡ entries_of s.limits s.held s.connections =
    same_entries nat_cmp nat_cmp_total (λ x y e. tied x y e) (leases_by.entries leases) (entries_of s.limits s.held s.connections) (entries_sorted leases) (sorted-entries s.limits s.held s.connections rise)
    (λ q. sym (get-entries leases q) ∙ stands q ∙ sym (found s.limits s.held s.connections q rise)) in
    ap (λ (es : List (ℕ × ℕ)). map (λ l. l.0) (filter (λ l. nat_le l.1 s.now) es)) same ∙ due-entries s small s.connections
  where
    tied : (x y : ℕ) → nat_cmp x y ≡ Equal → x ≡ y
    tied x y e = grind (arith, nat_tests)

-- the same of a state that is seen
pub due-seen : (limits : Limits) (moment next : ℕ) (cs : List Connection) (hall : HallState) (held : List Held) (leases : FinMap nat_cmp ℕ) (s : State)
    → AreKept limits moment next cs hall held leases → seen limits moment next cs hall held ≡ s → due_of moment leases ≡ due_numbers s
due-seen limits moment next cs hall held leases s k is =
    subst (λ (t : State). due_of moment leases ≡ due_numbers t) is (due-is (seen limits moment next cs hall held) leases k.clock k.rising.0 k.deadlines)

-- where no number is due there is room for all
pub room-for-none : (due numbers : List ℕ) (used room : ℕ) → due ≡ numbers → numbers ≡ [] → used ≤ room → used + length due ≤ room
room-for-none due numbers used room is none enough = let empty = ap length (is ∙ none) in omega (arith, empty, enough)

-- nobody is silent
pub nobody-silent : (p : Connection → Bool) (cs : List Connection) → list_any p cs ≡ false → numbers (filter p cs) ≡ []
nobody-silent p [] e = refl
nobody-silent p (c ∷ cs) e = by (p c) refl e (nobody-silent p cs)
  where
    by : (b : Bool) → p c ≡ b → (b || list_any p cs) ≡ false → (list_any p cs ≡ false → numbers (filter p cs) ≡ []) → numbers (cond {A = List Connection} b (c ∷ filter p cs) (filter p cs)) ≡ []
    by true is none rest = cc
    by false is none rest = rest none

pub silent-somebody : (p : Connection → Bool) (cs : List Connection) → numbers (filter p cs) ≡ [] → list_any p cs ≡ false
silent-somebody p [] e = refl
silent-somebody p (c ∷ cs) e = by (p c) refl e (silent-somebody p cs)
  where
    by : (b : Bool) → p c ≡ b → numbers (cond {A = List Connection} b (c ∷ filter p cs) (filter p cs)) ≡ [] → (numbers (filter p cs) ≡ [] → list_any p cs ≡ false) → (b || list_any p cs) ≡ false
    by true is none rest = cc
    by false is none rest = rest none

pub nobody-beats : (told : Told) (s : State) (before : List Out) → list_any (λ c. is_unspoken s.limits s.now c.role) s.connections ≡ false → Does s before before (all_beat told s)
nobody-beats told s before e =
    let none : silent_numbers s ≡ [] = nobody-silent (λ c. is_unspoken s.limits s.now c.role) s.connections e in
    subst (λ (ns : List ℕ). Does s before before (each (λ n t. beats n told t) ns s)) (sym none) (record { state = refl; outs = sym (append-nil before) })
