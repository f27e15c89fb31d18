-- Between two REQUESTs to one connection stands what frees it.
use Rattle.std.proofs.Common.{◌≡◌, ◌≢◌, ◌==◌, ◌⊎◌, ℕ, Bool, true, false, List, [], ◌∷◌, ◌++◌, length, Option, None, Some, refl, sym, ap, subst, ◌∙◌, inl, inr, arith}
use Rattle.std.specs.List.{AllByRecursion}
use Rattle.std.proofs.lemmas.Bool.Decides.{eqb_tells}
use Rattle.mj_base.specs.declared.event.Out.TheVariants.{Piece}
use Rattle.mj_base.specs.declared.limits.Limits.{Limits}
use Rattle.mj_queue.specs.Settling.{Pair, pair, serves}
use Rattle.mj_queue.specs.declared.request.Request.{Request}
use Rattle.mj_queue.specs.declared.worker.Waiter.{Waiter}
use Rattle.mj_machine.specs.declared.connection.Connection.{Connection}
use Rattle.mj_machine.specs.declared.connection.Role.{Role}
use Rattle.mj_machine.specs.declared.connection.Role.TheVariants.{Client, Fresh, Gone, Worker}
use Rattle.mj_machine.specs.declared.connection.Voice.{Voice}
use Rattle.mj_machine.specs.StoreState.{Store, Told, ticket_body, told_by}
use Rattle.mj_machine.specs.MachineState.{State, Whole, between, start_with}
use Rattle.mj_machine.specs.DiskActs.{attempted, counted, fails, routes}
use Rattle.mj_queue.specs.declared.request.Origin.{Origin}
use Rattle.mj_queue.specs.declared.request.Origin.TheVariants as origins
use Rattle.mj_machine.specs.Connections.{connection_of, service_in, service_of, voice_of, with_role}
use Rattle.mj_machine.specs.Leaving.{becomes, goes, held_by, held_without, left, removed}
use Rattle.mj_machine.specs.Sending.{is_slow, sends_if, sends_to, sent}
use Rattle.mj_machine.specs.Pairing.{bodiless, dispatched, handed, hands, held_by_pair, mark_set, passes, request_text, waits, with_body}
use Rattle.mj_machine.specs.TickStep.{expires}
use Rattle.mj_machine.specs.EventStep.{Noted, delivered, opened}
use Rattle.mj_machine.specs.MessageStep.{registration, said_in}
use Rattle.mj_machine.specs.MachineRun.{run_state}
use Rattle.mj_machine.specs.Steps.{Cause, Expiry, IsAllowed, IsChain, IsStep, Paired, Step, acts, run_steps, step_of}
use Rattle.mj_machine.proofs.ConnectionLemmas.{changed-other, cut_off-other, cut_off-same, equal}
use Rattle.mj_machine.proofs.ListLemmas.{all-front, all-map, all-rest}
use Rattle.mj_machine.proofs.LookLemmas.{look-changed}
use Rattle.mj_machine.proofs.StepLemmas.{step-acts, steps-lead}
use Rattle.mj_machine.proofs.Changes.{Finishes, IsKept, IsNoServer, given_over, passed_over, registered}
use Rattle.mj_machine.proofs.Walk.{kept-acts}
use Rattle.mj_laws.specs.Requests.{IsFinalReply, IsFreeing, IsRequestTo, OneFrees, has_left}
use Rattle.mj_laws.specs.Soundness.{ServicesAgree, WorkersStandOnce, holdings, one_if, places}
use Rattle.mj_laws.proofs.CountLemmas.{times-first}
use Rattle.mj_laws.proofs.HeldLemmas.{held-append, held-counts, held-last, held-without-other, replies-of}
use Rattle.mj_laws.proofs.LeftLemmas.{heard-gone, left-given, left-idle, spoken-gone}
use Rattle.mj_laws.proofs.SoundLemmas.{stays-sound-with}
use Rattle.mj_laws.proofs.WorkerLemmas.{is-pair, no-server, places-few}

-- n holds this request
abbrev Holds : ℕ → Request → State → Type 0
Holds n request s = held_by n s.held ≡ Some request

abbrev HasLeft : ℕ → State → Type 0
HasLeft n s = has_left (connection_of n s.connections) ≡ true

-- ---- one step

-- n holds on, or has left, or has given its final reply in this act, or its lease ends by it
module _ (n : ℕ) (request : Request) (cause : Cause) (w0 : Whole) (once : WorkersStandOnce w0.routing) (agree : ServicesAgree w0.routing) (holds : Holds n request w0.routing) where
  abbrev s0 : State
  s0 = w0.routing

  abbrev Answered : Type 0
  Answered = IsFinalReply n request (step_of cause w0 (acts cause w0))

  abbrev OrFreed : State → Type 0
  OrFreed s = Holds n request s ⊎ (HasLeft n s ⊎ (Answered ⊎ (cause ≡ Expiry n)))

  goes-on : (s t : State) → (Holds n request s → Holds n request t) → (HasLeft n s → HasLeft n t) → OrFreed s → OrFreed t
  goes-on s t on gone p =
      elim p [ inl held ↦ inl (on held) | inr freed ↦ elim freed [ inl away ↦ inr (inl (gone away)) | inr by_this ↦ inr (inr by_this) ] ]

  -- the connections alone change
  same-places : (s : State) (cs : List Connection) → (HasLeft n s → has_left (connection_of n cs) ≡ true) → OrFreed s → OrFreed (record s { connections = cs })
  same-places s cs gone p = goes-on s (record s { connections = cs }) (λ held. held) gone p

  -- the others hold on when q holds nothing any more
  others-hold : (q : ℕ) → n ≢ q → (s : State) → Holds n request s → held_by n (held_without q s.held) ≡ Some request
  others-hold q apart s held = held-without-other n q apart s.held ∙ held

  -- whoever holds a request is a worker
  no-idle : service_of (connection_of n s0.connections) ≡ None → ⊥
  no-idle idle =
      let now = once n in
      let none = ap places idle in
      let some = held-counts n s0.held request holds in
      omega (arith, now, none, some)

  no-leaver : HasLeft n s0 → ⊥
  no-leaver gone = no-idle (left-idle (connection_of n s0.connections) gone)

  idle-at : (q : ℕ) (c : Connection) → n ≡ q → connection_of q s0.connections ≡ Some c → service_in c.role ≡ None → service_of (connection_of n s0.connections) ≡ None
  idle-at q c same is idle = ap (λ (x : ℕ). service_of (connection_of x s0.connections)) same ∙ ap service_of is ∙ idle

  freed-removed : (q : ℕ) (told : Told) (s : State) → OrFreed s → OrFreed (removed q told s)
  freed-removed q told s p =
      elim (eqb_tells n q) [
        | inl agree ↦ inr (inl (subst (λ (x : ℕ). has_left (connection_of x (removed q told s).connections) ≡ true) (sym agree.1) (ap has_left (cut_off-same q s.connections))))
        | inr other ↦ goes-on s (removed q told s) (others-hold q other.1 s) (λ gone. ap has_left (cut_off-other q n other.1 s.connections) ∙ gone) p
      ]

  freed-others : (q : ℕ) (role : Role) (told : Told) (s : State) → n ≢ q → OrFreed s → OrFreed (becomes q role (left q told s))
  freed-others q role told s apart p =
      goes-on s (becomes q role (left q told s)) (others-hold q apart s) (λ gone. ap has_left (changed-other q n (with_role role) (λ c. refl) apart s.connections) ∙ gone) p

  freed-gone : (q : ℕ) (told : Told) (s : State) → OrFreed s → OrFreed (goes q told s)
  freed-gone q told s p =
      elim (eqb_tells n q) [
        | inl agree ↦ inr (inl (subst (λ (x : ℕ). has_left (connection_of x (goes q told s).connections) ≡ true) (sym agree.1) (left-given q s.connections)))
        | inr other ↦ freed-others q Gone told s other.1 p
      ]

  freed-expired : (q : ℕ) (told : Told) (s : State) → cause ≡ Expiry q → OrFreed s → OrFreed (expires q told s)
  freed-expired q told s ends p =
      elim (eqb_tells n q) [ inl same ↦ inr (inr (inr (ends ∙ ap (λ (x : ℕ). Expiry x) (sym same.1)))) | inr other ↦ freed-others q Fresh told s other.1 p ]

  freed-asking : (q : ℕ) (c : Connection) → connection_of q s0.connections ≡ Some c → IsNoServer c.role → OrFreed s0 → OrFreed (becomes q Client s0)
  freed-asking q c is plain p =
      elim (eqb_tells n q) [
        | inl agree ↦ absurd (no-idle (idle-at q c agree.1 is (no-server c.role plain)))
        | inr other ↦ same-places s0 (becomes q Client s0).connections (λ gone. ap has_left (changed-other q n (with_role Client) (λ d. refl) other.1 s0.connections) ∙ gone) p
      ]

  freed-registered : (q : ℕ) (c : Connection) (voice : Voice) (service : List ℕ) → connection_of q s0.connections ≡ Some c → c.role ≡ Fresh → OrFreed s0
      → OrFreed (registered q voice service s0)
  freed-registered q c voice service is fresh p =
      elim (eqb_tells n q) [
        | inl agree ↦ absurd (no-idle (idle-at q c agree.1 is (ap service_in fresh)))
        | inr other ↦ goes-on s0 (registered q voice service s0) (others-hold q other.1 s0)
            (λ gone. ap has_left (changed-other q n (with_role (Worker (registration voice service s0))) (λ d. refl) other.1 s0.connections) ∙ gone) p
      ]

  same-some : (x y : Request) → Some x ≡ Some y → x ≡ y
  same-some x y e = cc e

  answered : (q : ℕ) → n ≡ q → Finishes cause s0 q → Answered
  unfolding replies-of
  answered q same final =
      subst (λ (x : ℕ). IsFinalReply x request (step_of cause w0 (acts cause w0))) (sym same)
      (record {
        message = final.message;
        cause = final.cause_is;
        says = replies-of true q (said_in final.message) s0 agree final.reply;
        answers = same-some final.reply.request request (sym final.reply.holds ∙ ap (λ (x : ℕ). held_by x s0.held) (sym same) ∙ holds);
      })

  freed-rested : (q : ℕ) (service : List ℕ) (s : State) → Finishes cause s0 q → OrFreed s → OrFreed (waits q service s)
  freed-rested q service s final p =
      elim (eqb_tells n q) [
        | inl same ↦ inr (inr (inl (answered q same.1 final)))
        | inr other ↦ goes-on s (waits q service s) (others-hold q other.1 s) (λ gone. gone) p
      ]

  freed-given : (q : Pair) → OrFreed s0 → OrFreed (given_over q s0)
  freed-given q p = goes-on s0 (given_over q s0) (λ held. held-append n s0.held (held_by_pair q ∷ []) request held) (λ gone. gone) p

  -- a worker that was to get a ticket holds nothing
  freed-passed : (q : Pair) → pair s0.waiting s0.queue ≡ Some q → OrFreed s0 → OrFreed (passed_over q s0)
  freed-passed q is p =
      elim (eqb_tells n q.waiter.worker) [
        | inl same ↦ (
            let waiting = times-first (λ (x : Waiter). x.worker == n) (serves q.request.service) s0.waiting q.waiter q.waiting (is-pair s0.waiting s0.queue q is).found in
            let one = ap one_if (ap (λ (x : ℕ). x == n) (sym same.1) ∙ equal n) in
            let now = once n in
            let few = places-few (service_of (connection_of n s0.connections)) in
            let some = held-counts n s0.held request holds in
            absurd (omega (arith, waiting, one, now, few, some))
            )
        | inr other ↦ goes-on s0 (passed_over q s0) (others-hold q.waiter.worker other.1 s0) (λ gone. gone) p
      ]

  freed-kept : IsKept cause s0 OrFreed
  freed-kept = record {
    keeps_marked = λ q s p. same-places s _ (λ gone. look-changed has_left n q (mark_set s.now) (λ c. refl) (λ c. heard-gone s.now c.role) s.connections ∙ gone) p;
    keeps_sent = λ q octets c s is slow p. same-places s _
        (λ gone. look-changed has_left n q (sent s.now octets) (λ d. refl) (λ d. spoken-gone s.now d.role) s.connections ∙ gone) p;
    keeps_reported = λ q s p. same-places s _ (λ gone. look-changed has_left n q delivered (λ c. refl) (λ c. refl) s.connections ∙ gone) p;
    keeps_removed = λ q told s p. freed-removed q told s p;
    keeps_gone = λ q told s p. freed-gone q told s p;
    keeps_expired = λ q told s ends p. freed-expired q told s ends p;
    keeps_asking = λ q c is plain p. freed-asking q c is plain p;
    keeps_queued = λ q c message asked told is origin p. p;
    keeps_registered = λ q c message voice service told is fresh p. freed-registered q c voice service is fresh p;
    keeps_rested = λ q service s final works p. freed-rested q service s final p;
    keeps_given = λ q by is p. freed-given q p;
    keeps_passed = λ q by is p. freed-passed q is p;
    keeps_opened = λ lane is p. goes-on s0 (opened lane s0) (λ held. held) (λ gone. absurd (no-leaver gone)) p;
    keeps_time = λ ms s p. p;
    keeps_emptied = λ s p. p;
    keeps_refilled = λ store s p. p;
    keeps_submitted = λ number service s p. p;
    keeps_dropped = λ number s p. p;
  }

step-holds : (n : ℕ) (request : Request) (w : Whole) (t : Step) → IsStep w t → WorkersStandOnce t.before.routing → ServicesAgree t.before.routing → Holds n request t.before.routing
    → IsFreeing n request t ⊎ Holds n request t.after.routing
step-holds n request w t is once agree holds =
    elim (kept-acts t.cause t.before (OrFreed n request t.cause t.before once agree holds) (freed-kept n request t.cause t.before once agree holds) is.allowed (inl holds)) [
      | inl held ↦ inr (subst (λ (v : Whole). Holds n request v.routing) (sym is.after) held)
      | inr freed ↦ elim freed [
        | inl gone ↦ inl (inr (inr (subst (λ (v : Whole). HasLeft n v.routing) (sym is.after) gone)))
        | inr by_this ↦ elim by_this [
          | inl final ↦ inl (inl (subst (IsFinalReply n request) (sym (step-acts w t is).is) final))
          | inr ends ↦ inl (inr (inl ends))
        ]
      ]
    ]

-- ---- steps in a row

chain-split : (w end : Whole) (xs ys : List Step) → IsChain w (xs ++ ys) end → (middle : Whole) × IsChain w xs middle × IsChain middle ys end
chain-split w end [] ys chain = (w, record { routing = refl; store = refl }, chain)
chain-split w end (t ∷ xs) ys chain = let rest = chain-split t.after end xs ys chain.1 in (rest.0, (chain.0, rest.1), rest.2)

abbrev Stands : State → Type 0
Stands s = WorkersStandOnce s × ServicesAgree s

holds-on : (n : ℕ) (request : Request) (w end : Whole) (steps : List Step) → IsChain w steps end → AllByRecursion (λ t. Stands t.before.routing) steps → Holds n request w.routing
    → OneFrees n request steps ⊎ Holds n request end.routing
holds-on n request w end [] chain all holds = inr (subst (Holds n request) (sym chain.routing) holds)
holds-on n request w end (t ∷ steps) chain all holds =
    elim (step-holds n request w t chain.0 all.0.0 all.0.1 (subst (Holds n request) (sym chain.0.before.routing) holds)) [
      | inl frees ↦ inl (inl frees)
      | inr held ↦ elim (holds-on n request t.after end steps chain.1 all.1 held) [ inl later ↦ inl (inr later) | inr still ↦ inr still ]
    ]

-- ---- a REQUEST

-- where a piece was put nobody was cut off
put-held_if : (b : Bool) (n : ℕ) (piece : List ℕ) (c : Connection) (told : Told) (s : State) (lane : ℕ) (octets : List ℕ) → (sends_if b n piece c told s).1 ≡ Piece lane octets ∷ []
    → (sends_if b n piece c told s).0.held ≡ s.held
put-held_if true n piece c told s lane octets put = absurd (cc put)
put-held_if false n piece c told s lane octets put = refl

put-held : (n : ℕ) (piece : List ℕ) (o : Option Connection) (told : Told) (s : State) (lane : ℕ) (octets : List ℕ) → (sends_to n piece o told s).1 ≡ Piece lane octets ∷ []
    → (sends_to n piece o told s).0.held ≡ s.held
put-held n piece None told s lane octets put = absurd (cc put)
put-held n piece (Some c) told s lane octets put = put-held_if (is_slow s.limits c (length piece)) n piece c told s lane octets put

hands-held : (body : List (List ℕ)) (p : Pair) (w : Whole) (lane : ℕ) (octets : List ℕ) → (routes (hands body p) w).1 ≡ Piece lane octets ∷ []
    → (routes (hands body p) w).0.routing.held ≡ w.routing.held ++ held_by_pair p ∷ []
hands-held body p w lane octets put =
    put-held p.waiter.worker (request_text (voice_of (connection_of p.waiter.worker w.routing.connections)) (with_body body p.request))
    (connection_of p.waiter.worker (handed p w.routing).connections) (told_by w.store) (handed p w.routing) lane octets put

dispatched-held : (origin : Origin) (p : Pair) (w : Whole) (lane : ℕ) (octets : List ℕ) → (dispatched origin p w).1 ≡ Piece lane octets ∷ []
    → (dispatched origin p w).0.routing.held ≡ w.routing.held ++ held_by_pair p ∷ []
dispatched-held (origins.Client n) p w lane octets put = hands-held p.request.body p w lane octets put
dispatched-held (origins.Ticket n) p w lane octets put = by (fails w) put
  where
    by : (b : Bool) → (attempted b None (routes (passes p)) (routes (hands (ticket_body n w.store) p)) w).1 ≡ Piece lane octets ∷ []
        → (attempted b None (routes (passes p)) (routes (hands (ticket_body n w.store) p)) w).0.routing.held ≡ w.routing.held ++ held_by_pair p ∷ []
    by true put = absurd (cc put)
    by false put = hands-held (ticket_body n w.store) p (counted w) lane octets put

-- who is given a request held none
request-free : (n : ℕ) (w : Whole) (u : Step) → IsStep w u → IsRequestTo n u → WorkersStandOnce u.before.routing → holdings n u.before.routing.held ≡ 0
request-free n w u is request once =
    let p = request.chosen in
    let s = u.before.routing in
    let found : pair s.waiting s.queue ≡ Some p = subst (λ (c : Cause). IsAllowed c s) request.cause is.allowed in
    let waiting = times-first (λ (x : Waiter). x.worker == n) (serves p.request.service) s.waiting p.waiter p.waiting (is-pair s.waiting s.queue p found).found in
    let one = ap one_if (ap (λ (x : ℕ). x == n) request.worker ∙ equal n) in
    let now = once n in
    let few = places-few (service_of (connection_of n s.connections)) in
    omega (arith, waiting, one, now, few)

-- and holds it from then on
request-holds : (n : ℕ) (w : Whole) (t : Step) → IsStep w t → (request : IsRequestTo n t) → WorkersStandOnce t.before.routing → Holds n (bodiless request.chosen.request) t.after.routing
request-holds n w t is request once =
    let p = request.chosen in
    let put : (acts (Paired p) t.before).1 ≡ Piece request.lane request.octets ∷ [] =
    ap (λ (c : Cause). (acts c t.before).1) (sym request.cause) ∙ sym is.outs ∙ request.put in
    let held : t.after.routing.held ≡ t.before.routing.held ++ held_by_pair p ∷ [] =
    ap (λ (x : Whole). x.routing.held) is.after ∙ ap (λ (c : Cause). (acts c t.before).0.routing.held) request.cause
    ∙ dispatched-held p.request.origin p t.before request.lane request.octets put in
    ap (held_by n) held ∙ held-last n t.before.routing.held (held_by_pair p) request.worker (request-free n w t is request once)

-- ---- runs

pub one_request_at_a_time : (limits : Limits) (store : Store) (events : List Noted) (n : ℕ) (front between rest : List Step) (t u : Step)
    → run_steps limits (start_with limits store) events ≡ front ++ (t ∷ (between ++ (u ∷ rest))) → (first : IsRequestTo n t) → IsRequestTo n u
    → OneFrees n (bodiless first.chosen.request) between
one_request_at_a_time limits store events n front middle rest t u whole first second =
    let request = bodiless first.chosen.request in
    let m = start_with limits store in
    let end = between (run_state limits m events) in
    let chain : IsChain (between m) (front ++ (t ∷ (middle ++ (u ∷ rest)))) end =
    subst (λ (xs : List Step). IsChain (between m) xs end) whole (steps-lead limits m events) in
    let stand : AllByRecursion (λ x. Stands x.before.routing) (front ++ (t ∷ (middle ++ (u ∷ rest)))) =
    subst (AllByRecursion (λ (x : Step). Stands x.before.routing)) whole
    (all-map _ _ (λ x sound. (sound.0.once, sound.0.services)) (run_steps limits m events) (stays-sound-with limits store events).0) in
    let at_t = chain-split (between m) end front (t ∷ (middle ++ (u ∷ rest))) chain in
    let stand_t = all-rest (λ (x : Step). Stands x.before.routing) front (t ∷ (middle ++ (u ∷ rest))) stand in
    let at_u = chain-split t.after end middle (u ∷ rest) at_t.2.1 in
    let stand_u = all-rest (λ (x : Step). Stands x.before.routing) middle (u ∷ rest) stand_t.1 in
    let holds = request-holds n at_t.0 t at_t.2.0 first stand_t.0.0 in
    elim (holds-on n request t.after at_u.0 middle at_u.1 (all-front (λ (x : Step). Stands x.before.routing) middle (u ∷ rest) stand_t.1) holds) [
      | inl freed ↦ freed
      | inr still ↦ (
          let some = held-counts n u.before.routing.held request (subst (Holds n request) (sym at_u.2.0.before.routing) still) in
          let none = request-free n at_u.0 u at_u.2.0 second stand_u.0.0 in
          absurd (omega (arith, some, none))
          )
    ]
