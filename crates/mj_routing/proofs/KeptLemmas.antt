-- What holds of the broker's lists between two calls holds after each change of them.
use Rattle.std.proofs.Common.{◌≡◌, ◌≢◌, ◌⊎◌, ◌+◌, ◌≤◌, ◌==◌, ◌||◌, ℕ, Bool, true, false, not, cond, List, [], ◌∷◌, ◌++◌, map, Option, None, Some, MatchOption, refl, sym, ap, subst, ◌∙◌, inl, inr, arith}
use Rattle.std.specs.Option.{option_map, option_or}
use Rattle.std.specs.List.{list_any}
use Rattle.std.specs.FinMap as leases_by
use Rattle.std.specs.FinMap.{FinMap, get-empty}
use Rattle.std.specs.Ordering.{nat_cmp}
use Rattle.std.proofs.lemmas.Bool.Decides.{eqb_tells}
use Rattle.std.proofs.lemmas.List.Folds.{find-append}
use Rattle.std.proofs.lemmas.Slice.Eq.{bytes_eq-Decides}
use Rattle.mj_base.specs.declared.limits.Limits.{Limits}
use Rattle.mj_queue.specs.HallState.{HallState}
use Rattle.mj_queue.specs.HallSteps.{taken, waits}
use Rattle.mj_queue.specs.PairLaw.{IsPair}
use Rattle.mj_queue.specs.Settling.{Pair, has_waiter, pair, without_client, without_worker}
use Rattle.mj_queue.specs.declared.request.Request.{Request}
use Rattle.mj_queue.proofs.LawLemmas.{pair-is-first}
use Rattle.mj_queue.specs.declared.worker.Waiter.{Waiter}
use Rattle.mj_machine.specs.declared.connection.Connection.{Connection}
use Rattle.mj_machine.specs.declared.connection.Role.{Role}
use Rattle.mj_machine.specs.declared.connection.Role.TheVariants.{Fresh, Client, Worker, Gone}
use Rattle.mj_machine.specs.declared.held.Held.{Held}
use Rattle.mj_machine.specs.Connections.{changed, connection_of, spoken_to, with_role}
use Rattle.mj_machine.specs.EventStep.{delivered}
use Rattle.mj_machine.specs.Leaving.{connections_without, held_by, held_without}
use Rattle.mj_machine.specs.MessageStep.{busy_of}
use Rattle.mj_machine.specs.Pairing.{held_by_pair, mark_set}
use Rattle.mj_machine.specs.Sending.{sent}
use Rattle.mj_machine.specs.TickStep.{deadline_of, is_holding}
use Rattle.mj_machine.proofs.ConnectionLemmas.{Keeps, changed-other, changed-same, cut_off-other, cut_off-same, holding-append, holding-without-other}
use Rattle.mj_routing.specs.RoutingState.{AreKept}
use Rattle.mj_routing.specs.Holding.{IsOnceEach}
use Rattle.mj_routing.specs.Lanes.{AreRising}
use Rattle.mj_routing.proofs.HoldingLemmas.{free-waiting, once-left, once-none, once-taken, once-waits}
use Rattle.mj_routing.proofs.LaneLemmas.{rising-added, rising-changed, rising-without}
use Rattle.mj_routing.specs.Deadlines.{LeasesStand, SameBut, deadline_at, deadline_on, kept}

-- ---- busy workers

busy-without : (n : ℕ) (held : List Held) → map busy_of (held_without n held) ≡ without_worker n (map busy_of held)
busy-without n [] = refl
busy-without n (h ∷ hs) = by (h.worker == n) (busy-without n hs)
  where
    by : (b : Bool) → map busy_of (held_without n hs) ≡ without_worker n (map busy_of hs)
        → map busy_of (cond {A = List Held} (not b) (h ∷ held_without n hs) (held_without n hs)) ≡ cond {A = List Waiter} (not b) (busy_of h ∷ without_worker n (map busy_of hs)) (without_worker n (map busy_of hs))
    by true rest = rest
    by false rest = ap (λ (ws : List Waiter). busy_of h ∷ ws) rest

pub busy-added : (held : List Held) (h : Held) → map busy_of (held ++ h ∷ []) ≡ map busy_of held ++ busy_of h ∷ []
busy-added [] h = refl
busy-added (x ∷ xs) h = ap (λ (ws : List Waiter). busy_of x ∷ ws) (busy-added xs h)

-- a pair's worker serves what is asked
pair-service : (waiting : List Waiter) (requests : List Request) (p : Pair) → pair waiting requests ≡ Some p → p.waiter ≡ busy_of (held_by_pair p)
pair-service waiting requests p e =
    let is : IsPair waiting requests p = subst (λ (o : Option Pair). MatchOption o (list_any (has_waiter waiting) requests ≡ false) (IsPair waiting requests)) e (pair-is-first waiting requests) in
    let same : p.waiter.service ≡ p.request.service = (bytes_eq-Decides p.waiter.service p.request.service).0 is.found.passes in
    ap (λ (service : List ℕ). record { worker = p.waiter.worker; service = service }) same

-- the worker of a pair holds nothing
pub free-pair : (waiting : List Waiter) (requests : List Request) (held : List Held) (p : Pair) → pair waiting requests ≡ Some p → IsOnceEach waiting held → held_by p.waiter.worker held ≡ None
free-pair waiting requests held p e once =
    let is : IsPair waiting requests p = subst (λ (o : Option Pair). MatchOption o (list_any (has_waiter waiting) requests ≡ false) (IsPair waiting requests)) e (pair-is-first waiting requests) in
    free-waiting is.found.before is.found.after p.waiter held (subst (λ (ws : List Waiter). IsOnceEach ws held) is.found.whole once)

once-pair : (waiting : List Waiter) (requests : List Request) (held : List Held) (p : Pair) → pair waiting requests ≡ Some p → IsOnceEach waiting held → IsOnceEach p.waiting (held ++ held_by_pair p ∷ [])
once-pair waiting requests held p e once =
    let is : IsPair waiting requests p = subst (λ (o : Option Pair). MatchOption o (list_any (has_waiter waiting) requests ≡ false) (IsPair waiting requests)) e (pair-is-first waiting requests) in
    subst (λ (ws : List Waiter). IsOnceEach ws (held ++ held_by_pair p ∷ [])) (sym is.found.rest_is)
    (once-taken is.found.before is.found.after p.waiter held (held_by_pair p) refl (subst (λ (ws : List Waiter). IsOnceEach ws held) is.found.whole once))

-- ---- deadlines

role-held : (limits : Limits) (before now : List Held) (n : ℕ) → is_holding n now ≡ is_holding n before → (role : Role) → deadline_of limits now n role ≡ deadline_of limits before n role
role-held limits before now n same Fresh = refl
role-held limits before now n same Client = refl
role-held limits before now n same (Worker r) = ap (λ (b : Bool). Some (r.mark + cond b limits.busy_lease limits.lease)) same
role-held limits before now n same Gone = refl

deadline-held : (limits : Limits) (before now : List Held) (n : ℕ) → is_holding n now ≡ is_holding n before → (found : Option Connection) → deadline_at limits now n found ≡ deadline_at limits before n found
deadline-held limits before now n same None = refl
deadline-held limits before now n same (Some c) = role-held limits before now n same c.role

-- another connection changed, and what it holds
same-changed : (limits : Limits) (n : ℕ) (f : Connection → Connection) → Keeps f → (cs : List Connection) (held : List Held) → SameBut n limits cs held (changed n f cs) held
same-changed limits n f keeps cs held = λ q apart. ap (deadline_at limits held q) (changed-other n q f keeps apart cs)

same-held : (limits : Limits) (n : ℕ) (cs : List Connection) (held : List Held) → SameBut n limits cs held cs (held_without n held)
same-held limits n cs held = λ q apart. deadline-held limits held (held_without n held) q (holding-without-other n q apart held) (connection_of q cs)

pub same-added : (limits : Limits) (cs : List Connection) (held : List Held) (h : Held) → SameBut h.worker limits cs held cs (held ++ h ∷ [])
same-added limits cs held h = λ q apart. deadline-held limits held (held ++ h ∷ []) q (holding-append q held h ∙ else (h.worker == q) q apart (is_holding q held) refl) (connection_of q cs)
  where
    false-or : (b : Bool) → (b || false) ≡ b
    false-or true = refl
    false-or false = refl

    else : (same : Bool) (q : ℕ) → q ≢ h.worker → (b : Bool) → (h.worker == q) ≡ same → (b || (h.worker == q)) ≡ b
    else true q apart b e = absurd (apart (of (eqb_tells h.worker q)))
      where
        of : ((h.worker == q) ≡ true × (h.worker ≡ q)) ⊎ ((h.worker == q) ≡ false × (h.worker ≢ q)) → q ≡ h.worker
        of (inl agree) = sym agree.1
        of (inr other) = cc (other.0, e)
    else false q apart b e = rw e (false-or b)

same-then : (limits : Limits) (n : ℕ) (first second third : List Connection) (held_first held_second held_third : List Held)
    → SameBut n limits first held_first second held_second → SameBut n limits second held_second third held_third → SameBut n limits first held_first third held_third
same-then limits n first second third held_first held_second held_third one two = λ q apart. two q apart ∙ one q apart

same-cut_off : (limits : Limits) (n : ℕ) (cs : List Connection) (held : List Held) → SameBut n limits cs held (connections_without n cs) held
same-cut_off limits n cs held = λ q apart. ap (deadline_at limits held q) (cut_off-other n q apart cs)

none-role : (limits : Limits) (n : ℕ) (role : Role) (held : List Held) → deadline_of limits held n role ≡ None → (found : Option Connection) → deadline_at limits held n (option_map (with_role role) found) ≡ None
none-role limits n role held none None = refl
none-role limits n role held none (Some c) = none

-- a change that leaves deadlines
unmoved : (limits : Limits) (held : List Held) (n : ℕ) (f : Connection → Connection) → Keeps f → ((q : ℕ) (c : Connection) → deadline_of limits held q (f c).role ≡ deadline_of limits held q c.role)
    → (cs : List Connection) (q : ℕ) → deadline_on limits (changed n f cs) held q ≡ deadline_on limits cs held q
unmoved limits held n f keeps still cs q = at (eqb_tells n q)
  where
    on : (found : Option Connection) → deadline_at limits held q (option_map f found) ≡ deadline_at limits held q found
    on None = refl
    on (Some c) = still q c

    at : ((n == q) ≡ true × (n ≡ q)) ⊎ ((n == q) ≡ false × (n ≢ q)) → deadline_on limits (changed n f cs) held q ≡ deadline_on limits cs held q
    at (inl agree) =
        subst (λ (k : ℕ). deadline_on limits (changed k f cs) held q ≡ deadline_on limits cs held q) (sym agree.1)
        (ap (deadline_at limits held q) (changed-same q f keeps cs) ∙ on (connection_of q cs))
    at (inr apart) = ap (deadline_at limits held q) (changed-other n q f keeps (λ e. apart.1 (sym e)) cs)

spoken-still : (limits : Limits) (held : List Held) (q now : ℕ) (role : Role) → deadline_of limits held q (spoken_to now role) ≡ deadline_of limits held q role
spoken-still limits held q now Fresh = refl
spoken-still limits held q now Client = refl
spoken-still limits held q now (Worker r) = refl
spoken-still limits held q now Gone = refl

-- ---- the whole

pub kept-none : (limits : Limits) (cs : List Connection) (hall : HallState) (held : List Held) (leases : FinMap nat_cmp ℕ) → hall.limits ≡ limits → hall.waiting ≡ [] → hall.busy ≡ [] → cs ≡ [] → held ≡ [] → leases ≡ leases_by.empty
    → AreKept limits 0 1 cs hall held leases
kept-none limits cs hall held leases limited waiting busy cs_is held_is leases_is = rw cs_is (rw held_is (rw leases_is (record {
  limited = limited;
  busy = busy;
  once = rw waiting once-none;
  rising = (tt, tt);
  deadlines = λ q. get-empty nat_cmp q;
  clock = omega arith;
})))

-- what taking a number out of the table does
abbrev pub Forgets : ℕ → FinMap nat_cmp ℕ → FinMap nat_cmp ℕ → Type 0
Forgets n leases new =
    (limits : Limits) (before now : List Connection) (held_before held_now : List Held) → LeasesStand limits before held_before leases
    → SameBut n limits before held_before now held_now → deadline_on limits now held_now n ≡ None → LeasesStand limits now held_now new

-- what setting it anew does
abbrev pub Renews : ℕ → Limits → FinMap nat_cmp ℕ → List Connection → List Held → FinMap nat_cmp ℕ → Type 0
Renews n limits leases now held_now new =
    (before : List Connection) (held_before : List Held) → LeasesStand limits before held_before leases
    → SameBut n limits before held_before now held_now → LeasesStand limits now held_now new

-- a worker and a client were dropped
abbrev pub LeftHall : ℕ → HallState → HallState → HallState → Type 0
LeftHall n hall worker new =
    (worker ≡ record hall { waiting = without_worker n hall.waiting; busy = without_worker n hall.busy }) × (new ≡ record worker { requests = without_client n worker.requests })

left-limits : (n : ℕ) (hall worker new : HallState) → LeftHall n hall worker new → new.limits ≡ hall.limits
left-limits n hall worker new is = ap (λ (h : HallState). h.limits) is.1 ∙ ap (λ (h : HallState). h.limits) is.0

left-waiting : (n : ℕ) (hall worker new : HallState) → LeftHall n hall worker new → new.waiting ≡ without_worker n hall.waiting
left-waiting n hall worker new is = ap (λ (h : HallState). h.waiting) is.1 ∙ ap (λ (h : HallState). h.waiting) is.0

left-busy : (n : ℕ) (hall worker new : HallState) → LeftHall n hall worker new → new.busy ≡ without_worker n hall.busy
left-busy n hall worker new is = ap (λ (h : HallState). h.busy) is.1 ∙ ap (λ (h : HallState). h.busy) is.0

module _ (limits : Limits) (moment next : ℕ) (cs : List Connection) (hall : HallState) (held : List Held) (leases : FinMap nat_cmp ℕ) (k : AreKept limits moment next cs hall held leases) where
  -- it left, and has a role without a lease
  pub kept-left : (cs_new : List Connection) (worker new : HallState) (held_new : List Held) (leases_new : FinMap nat_cmp ℕ) (n : ℕ) (role : Role)
      → ((h : List Held) → deadline_of limits h n role ≡ None) → LeftHall n hall worker new → held_new ≡ held_without n held → cs_new ≡ changed n (with_role role) cs
      → Forgets n leases leases_new → AreKept limits moment next cs_new new held_new leases_new
  kept-left cs_new worker new held_new leases_new n role none left held_is cs_is forgets = rw held_is (rw cs_is (record {
    limited = left-limits n hall worker new left ∙ k.limited;
    busy = left-busy n hall worker new left ∙ ap (without_worker n) k.busy ∙ sym (busy-without n held);
    once = rw (left-waiting n hall worker new left) (once-left n hall.waiting held k.once);
    rising = rising-changed next n (with_role role) (λ c. refl) cs k.rising;
    deadlines = forgets limits cs (changed n (with_role role) cs) held (held_without n held) k.deadlines
        (same-then limits n cs cs (changed n (with_role role) cs) held (held_without n held) (held_without n held) (same-held limits n cs held) (same-changed limits n (with_role role) (λ c. refl) cs (held_without n held)))
        (ap (deadline_at limits (held_without n held) n) (changed-same n (with_role role) (λ c. refl) cs) ∙ none-role limits n role (held_without n held) (none (held_without n held)) (connection_of n cs));
    clock = k.clock;
  }))

  -- it left and is there no more
  pub kept-removed : (cs_new : List Connection) (worker new : HallState) (held_new : List Held) (leases_new : FinMap nat_cmp ℕ) (n : ℕ)
      → LeftHall n hall worker new → held_new ≡ held_without n held → cs_new ≡ connections_without n cs
      → Forgets n leases leases_new → AreKept limits moment next cs_new new held_new leases_new
  kept-removed cs_new worker new held_new leases_new n left held_is cs_is forgets = rw held_is (rw cs_is (record {
    limited = left-limits n hall worker new left ∙ k.limited;
    busy = left-busy n hall worker new left ∙ ap (without_worker n) k.busy ∙ sym (busy-without n held);
    once = rw (left-waiting n hall worker new left) (once-left n hall.waiting held k.once);
    rising = rising-without next n cs k.rising;
    deadlines = forgets limits cs (connections_without n cs) held (held_without n held) k.deadlines
        (same-then limits n cs cs (connections_without n cs) held (held_without n held) (held_without n held) (same-held limits n cs held) (same-cut_off limits n cs (held_without n held)))
        (ap (deadline_at limits (held_without n held) n) (cut_off-same n cs));
    clock = k.clock;
  }))

  -- its role alone changed, to one without a lease
  pub kept-role : (cs_new : List Connection) (leases_new : FinMap nat_cmp ℕ) (n : ℕ) (role : Role) → ((h : List Held) → deadline_of limits h n role ≡ None)
      → cs_new ≡ changed n (with_role role) cs → Forgets n leases leases_new → AreKept limits moment next cs_new hall held leases_new
  kept-role cs_new leases_new n role none cs_is forgets = rw cs_is (record {
    limited = k.limited;
    busy = k.busy;
    once = k.once;
    rising = rising-changed next n (with_role role) (λ c. refl) cs k.rising;
    deadlines = forgets limits cs (changed n (with_role role) cs) held held k.deadlines (same-changed limits n (with_role role) (λ c. refl) cs held)
        (ap (deadline_at limits held n) (changed-same n (with_role role) (λ c. refl) cs) ∙ none-role limits n role held (none held) (connection_of n cs));
    clock = k.clock;
  })

  -- its lease began anew
  pub kept-renewed : (cs_new : List Connection) (new : HallState) (held_new : List Held) (reserved leases_new : FinMap nat_cmp ℕ) (n : ℕ)
      → new.limits ≡ hall.limits → new.busy ≡ map busy_of held_new → IsOnceEach new.waiting held_new → AreRising next cs_new → SameBut n limits cs held cs_new held_new
      → reserved ≡ leases → Renews n limits reserved cs_new held_new leases_new → AreKept limits moment next cs_new new held_new leases_new
  kept-renewed cs_new new held_new reserved leases_new n limited busy once rising same reserved_is renews = record {
    limited = limited ∙ k.limited;
    busy = busy;
    once = once;
    rising = rising;
    deadlines = renews cs held (rw reserved_is k.deadlines) same;
    clock = k.clock;
  }

  pub kept-marked : (cs_new : List Connection) (reserved leases_new : FinMap nat_cmp ℕ) (n : ℕ) → cs_new ≡ changed n (mark_set moment) cs
      → reserved ≡ leases → Renews n limits reserved cs_new held leases_new → AreKept limits moment next cs_new hall held leases_new
  kept-marked cs_new reserved leases_new n cs_is reserved_is renews =
      kept-renewed cs_new hall held reserved leases_new n refl k.busy k.once (rw cs_is (rising-changed next n (mark_set moment) (λ c. refl) cs k.rising))
      (rw cs_is (same-changed limits n (mark_set moment) (λ c. refl) cs held)) reserved_is renews

  pub kept-waiting : (new : HallState) (held_new : List Held) (reserved leases_new : FinMap nat_cmp ℕ) (n : ℕ) (service : List ℕ)
      → new ≡ waits n service hall → held_new ≡ held_without n held → reserved ≡ leases → Renews n limits reserved cs held_new leases_new
      → AreKept limits moment next cs new held_new leases_new
  kept-waiting new held_new reserved leases_new n service new_is held_is reserved_is renews =
      kept-renewed cs new held_new reserved leases_new n (ap (λ (h : HallState). h.limits) new_is)
      (ap (λ (h : HallState). h.busy) new_is ∙ ap (without_worker n) k.busy ∙ sym (busy-without n held) ∙ ap (map busy_of) (sym held_is))
      (rw held_is (rw (ap (λ (h : HallState). h.waiting) new_is) (once-waits n service hall.waiting held k.once)))
      k.rising
      (rw held_is (same-held limits n cs held)) reserved_is renews

  -- a worker registered
  pub kept-registered : (cs_new : List Connection) (new : HallState) (held_new : List Held) (reserved leases_new : FinMap nat_cmp ℕ) (n : ℕ) (service : List ℕ) (role : Role)
      → new ≡ waits n service hall → held_new ≡ held_without n held → cs_new ≡ changed n (with_role role) cs
      → reserved ≡ leases → Renews n limits reserved cs_new held_new leases_new
      → AreKept limits moment next cs_new new held_new leases_new
  kept-registered cs_new new held_new reserved leases_new n service role new_is held_is cs_is reserved_is renews =
      kept-renewed cs_new new held_new reserved leases_new n (ap (λ (h : HallState). h.limits) new_is)
      (ap (λ (h : HallState). h.busy) new_is ∙ ap (without_worker n) k.busy ∙ sym (busy-without n held) ∙ ap (map busy_of) (sym held_is))
      (rw held_is (rw (ap (λ (h : HallState). h.waiting) new_is) (once-waits n service hall.waiting held k.once)))
      (rw cs_is (rising-changed next n (with_role role) (λ c. refl) cs k.rising))
      (rw held_is (rw cs_is (same-then limits n cs cs (changed n (with_role role) cs) held (held_without n held) (held_without n held) (same-held limits n cs held) (same-changed limits n (with_role role) (λ c. refl) cs (held_without n held)))))
      reserved_is renews

  -- a request was handed over to its worker
  pub kept-handed : (cs_new : List Connection) (new : HallState) (held_new : List Held) (reserved leases_new : FinMap nat_cmp ℕ) (p : Pair) (n : ℕ)
      → n ≡ p.waiter.worker → pair hall.waiting hall.requests ≡ Some p → new ≡ taken p hall → held_new ≡ held ++ held_by_pair p ∷ [] → cs_new ≡ changed n (mark_set moment) cs
      → reserved ≡ leases → Renews n limits reserved cs_new held_new leases_new
      → AreKept limits moment next cs_new new held_new leases_new
  kept-handed cs_new new held_new reserved leases_new p n n_is pair_is new_is held_is cs_is reserved_is renews =
      kept-renewed cs_new new held_new reserved leases_new n (ap (λ (h : HallState). h.limits) new_is)
      (ap (λ (h : HallState). h.busy) new_is ∙ ap (λ (ws : List Waiter). ws ++ p.waiter ∷ []) k.busy ∙ ap (λ (w : Waiter). map busy_of held ++ w ∷ []) (pair-service hall.waiting hall.requests p pair_is)
      ∙ sym (busy-added held (held_by_pair p)) ∙ ap (map busy_of) (sym held_is))
      (rw held_is (rw (ap (λ (h : HallState). h.waiting) new_is) (once-pair hall.waiting hall.requests held p pair_is k.once)))
      (rw cs_is (rising-changed next n (mark_set moment) (λ c. refl) cs k.rising))
      (rw held_is (rw cs_is (rw n_is (same-then limits p.waiter.worker cs cs (changed p.waiter.worker (mark_set moment) cs) held (held ++ held_by_pair p ∷ []) (held ++ held_by_pair p ∷ [])
      (same-added limits cs held (held_by_pair p)) (same-changed limits p.waiter.worker (mark_set moment) (λ c. refl) cs (held ++ held_by_pair p ∷ []))))))
      reserved_is renews

  -- deadlines stayed
  kept-still : (n : ℕ) (f : Connection → Connection) (cs_new : List Connection) → Keeps f → ((q : ℕ) (c : Connection) → deadline_of limits held q (f c).role ≡ deadline_of limits held q c.role)
      → cs_new ≡ changed n f cs → AreKept limits moment next cs_new hall held leases
  kept-still n f cs_new keeps still cs_is = rw cs_is (record {
    limited = k.limited;
    busy = k.busy;
    once = k.once;
    rising = rising-changed next n f keeps cs k.rising;
    deadlines = λ q. k.deadlines q ∙ ap (option_map kept) (sym (unmoved limits held n f keeps still cs q));
    clock = k.clock;
  })

  pub kept-sent : (n octets now : ℕ) (cs_new : List Connection) → cs_new ≡ changed n (sent now octets) cs → AreKept limits moment next cs_new hall held leases
  kept-sent n octets now cs_new cs_is = kept-still n (sent now octets) cs_new (λ c. refl) (λ q c. spoken-still limits held q now c.role) cs_is

  pub kept-delivered : (n : ℕ) (cs_new : List Connection) → cs_new ≡ changed n delivered cs → AreKept limits moment next cs_new hall held leases
  kept-delivered n cs_new cs_is = kept-still n delivered cs_new (λ c. refl) (λ q c. refl) cs_is

  -- a fresh connection was added
  pub kept-added : (c : Connection) (cs_new : List Connection) → c.number ≡ next → c.role ≡ Fresh → cs_new ≡ cs ++ c ∷ [] → AreKept limits moment (next + 1) cs_new hall held leases
  kept-added c cs_new number_is role_is cs_is = rw cs_is (record {
    limited = k.limited;
    busy = k.busy;
    once = k.once;
    rising = rising-added next c cs number_is k.rising;
    deadlines = λ q. k.deadlines q ∙ ap (option_map kept) (sym (ap (deadline_at limits held q) (find-append (λ d. d.number == q) cs (c ∷ [])) ∙ at q (connection_of q cs) (c.number == q)));
    clock = k.clock;
  })
    where
      last : (q : ℕ) (b : Bool) → deadline_at limits held q (cond {A = Option Connection} b (Some c) None) ≡ None
      last q true = ap (deadline_of limits held q) role_is
      last q false = refl

      at : (q : ℕ) (found : Option Connection) (b : Bool) → deadline_at limits held q (option_or found (cond {A = Option Connection} b (Some c) None)) ≡ deadline_at limits held q found
      at q None b = last q b
      at q (Some d) b = refl

  -- time went on
  pub kept-moment : (now : ℕ) → now ≤ 1000000000000000 → AreKept limits now next cs hall held leases
  kept-moment now small = record { limited = k.limited; busy = k.busy; once = k.once; rising = k.rising; deadlines = k.deadlines; clock = small }

  -- what is queued alone changed
  pub kept-queue : (new : HallState) → new.limits ≡ hall.limits → new.waiting ≡ hall.waiting → new.busy ≡ hall.busy → AreKept limits moment next cs new held leases
  kept-queue new limits_is waiting_is busy_is = record { limited = limits_is ∙ k.limited; busy = busy_is ∙ k.busy; once = rw waiting_is k.once; rising = k.rising; deadlines = k.deadlines; clock = k.clock }
