-- A request that is one too many, and the pairs behind a leaving.
use Rattle.std.proofs.Common.{◌≡◌, ◌==◌, ◌||◌, not, ℕ, Bool, true, false, List, [], ◌∷◌, is_some, Option, None, Some, refl, sym, ap, subst, ◌∙◌, cond}
use Rattle.mj_base.specs.declared.event.Out.{Out}
use Rattle.mj_base.specs.declared.limits.Limits.{Limits}
use Rattle.mj_base.specs.declared.reason.Reason.TheVariants.{QueueFull}
use Rattle.mj_queue.specs.HallState.{HallState}
use Rattle.mj_queue.specs.Settling.{Pair, has_waiter, is_client, is_too_much, pair, queued, serves, without_client, without_worker}
use Rattle.mj_queue.proofs.LawLemmas.{some-pair}
use Rattle.std.specs.List.{filter, list_any}
use Rattle.mj_queue.specs.declared.request.Request.{Request}
use Rattle.mj_queue.specs.declared.worker.Waiter.{Waiter}
use Rattle.mj_machine.specs.declared.connection.Connection.{Connection}
use Rattle.mj_machine.specs.declared.held.Held.{Held}
use Rattle.mj_machine.specs.StoreState.{Told}
use Rattle.mj_machine.specs.MachineState.{Done, State}
use Rattle.mj_machine.specs.Acts.{quiet}
use Rattle.mj_machine.specs.Leaving.{ends, given_back, held_by, left}
use Rattle.mj_machine.specs.MessageStep.{enqueues, queues}
use Rattle.mj_routing.specs.RoutingState.{Does, seen}
use Rattle.mj_routing.specs.Returning.{BringsNothing, coming_back, put_last}
use Rattle.mj_routing.proofs.KeptLemmas.{LeftHall}
use Rattle.mj_routing.proofs.ReturningLemmas.{given-last}

no-pair : (found : Option Pair) → is_some found ≡ false → found ≡ None
no-pair None e = refl
no-pair (Some p) e = cc

-- one client request too many
pub full-seen : (limits : Limits) (moment next : ℕ) (cs : List Connection) (hall new : HallState) (held : List Held) (old now : State) (lane n count : ℕ) (request : Request) (told : Told) (before after : List Out)
    → seen limits moment next cs hall held ≡ old → hall.limits ≡ limits → is_too_much hall.limits hall.waiting hall.requests request ≡ true → new ≡ hall → count ≡ queued new.requests
    → Does now before after (ends lane n QueueFull count told (seen limits moment next cs new held)) → Does now before after (queues lane n request told old)
full-seen limits moment next cs hall new held old now lane n count request told before after old_is limited full new_is count_is d =
    subst (λ (s : State). Does now before after (queues lane n request told s)) old_is
    (subst (λ (b : Bool). Does now before after (cond {A = Done Out} b (ends lane n QueueFull (queued hall.requests) told (seen limits moment next cs hall held)) (quiet (enqueues n request (seen limits moment next cs hall held)))))
    (sym (ap (λ (l : Limits). is_too_much l hall.waiting hall.requests request) (sym limited) ∙ full))
    (subst (λ (h : HallState). Does now before after (ends lane n QueueFull (queued h.requests) told (seen limits moment next cs h held))) new_is
    (subst (λ (k : ℕ). Does now before after (ends lane n QueueFull k told (seen limits moment next cs new held))) count_is d)))

-- ---- fewer workers and fewer requests make no pair

any-filter : {X : Type 0} (test p : X → Bool) (xs : List X) → list_any test xs ≡ false → list_any test (filter p xs) ≡ false
any-filter test p [] e = refl
any-filter {X} test p (x ∷ xs) e = by (test x) refl e (any-filter test p xs)
  where
    keep : (b : Bool) → test x ≡ false → list_any test (filter p xs) ≡ false → list_any test (cond {A = List X} b (x ∷ filter p xs) (filter p xs)) ≡ false
    keep true fails rest = rw fails rest
    keep false fails rest = rest

    by : (b : Bool) → test x ≡ b → (b || list_any test xs) ≡ false → (list_any test xs ≡ false → list_any test (filter p xs) ≡ false)
        → list_any test (cond {A = List X} (p x) (x ∷ filter p xs) (filter p xs)) ≡ false
    by true is none rest = cc
    by false is none rest = keep (p x) is (rest none)

any-weaker : {X : Type 0} (test less : X → Bool) → ((x : X) → test x ≡ false → less x ≡ false) → (xs : List X) → list_any test xs ≡ false → list_any less xs ≡ false
any-weaker test less weaker [] e = refl
any-weaker test less weaker (x ∷ xs) e = by (test x) refl e (any-weaker test less weaker xs)
  where
    by : (b : Bool) → test x ≡ b → (b || list_any test xs) ≡ false → (list_any test xs ≡ false → list_any less xs ≡ false) → (less x || list_any less xs) ≡ false
    by true is none rest = cc
    by false is none rest = rw (weaker x is) (rest none)

-- behind one that leaves, where nothing comes back from it
pub left-none : (told : Told) (n : ℕ) (s : State) → BringsNothing told n s → pair s.waiting s.queue ≡ None → pair (left n told s).waiting (left n told s).queue ≡ None
left-none told n s nothing none =
    let waiting = without_worker n s.waiting in
    let queue = without_client n s.queue in
    let nobody : list_any (has_waiter s.waiting) s.queue ≡ false = some-pair s.waiting s.queue ∙ ap is_some none in
    let fewer : list_any (has_waiter s.waiting) queue ≡ false = any-filter (has_waiter s.waiting) (λ r. not (is_client n r.origin)) s.queue nobody in
    let back : given_back told (held_by n s.held) queue ≡ queue = given-last told (held_by n s.held) queue ∙ ap (λ (o : Option Request). put_last o queue) nothing in
    subst (λ (q : List Request). pair waiting q ≡ None) (sym back)
    (no-pair (pair waiting queue)
    (sym (some-pair waiting queue) ∙ any-weaker (has_waiter s.waiting) (has_waiter waiting) (λ r e. any-filter (serves r.service) (λ w. not (w.worker == n)) s.waiting e) queue fewer))

-- the same of the hall
pub settled-left : (limits : Limits) (moment next : ℕ) (cs : List Connection) (hall worker new : HallState) (held : List Held) (s : State) (told : Told) (n : ℕ) (back : Option Request)
    → seen limits moment next cs hall held ≡ s → LeftHall n hall worker new → back ≡ coming_back told (held_by n held)
    → BringsNothing told n s → pair s.waiting s.queue ≡ None → pair new.waiting (put_last back new.requests) ≡ None
settled-left limits moment next cs hall worker new held s told n back is left back_is nothing none =
    let old = seen limits moment next cs hall held in
    let waiting_is : new.waiting ≡ without_worker n hall.waiting = ap (λ (h : HallState). h.waiting) left.1 ∙ ap (λ (h : HallState). h.waiting) left.0 in
    let requests_is : new.requests ≡ without_client n hall.requests = ap (λ (h : HallState). h.requests) left.1 ∙ ap (λ (h : HallState). without_client n h.requests) left.0 in
    let queue_is : put_last back new.requests ≡ given_back told (held_by n held) (without_client n hall.requests) =
    ap (put_last back) requests_is ∙ ap (λ (o : Option Request). put_last o (without_client n hall.requests)) back_is ∙ sym (given-last told (held_by n held) (without_client n hall.requests)) in
    ap (λ (ws : List Waiter). pair ws (put_last back new.requests)) waiting_is ∙ ap (pair (without_worker n hall.waiting)) queue_is
    ∙ left-none told n old (subst (λ (t : State). BringsNothing told n t) (sym is) nothing) (ap (λ (t : State). pair t.waiting t.queue) is ∙ none)
