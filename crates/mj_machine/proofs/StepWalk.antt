-- What every act keeps holds around each step of a run, and what settling brings back where a message breaks it.
use Rattle.std.proofs.Common.{◌≡◌, ℕ, zero, suc, List, [], ◌∷◌, length, Option, None, Some, refl, sym, subst}
use Rattle.std.specs.List.{AllByRecursion}
use Rattle.mj_base.specs.declared.limits.Limits.{Limits}
use Rattle.mj_wire.specs.declared.item.WireItem.{WireItem}
use Rattle.mj_wire.specs.declared.item.WireItem.TheVariants as items
use Rattle.mj_queue.specs.Settling.{Pair, pair}
use Rattle.mj_machine.specs.StoreState.{Store, told_by}
use Rattle.mj_machine.specs.MachineState.{Machine, State, Whole, entered}
use Rattle.mj_machine.specs.Connections.{number_on}
use Rattle.mj_machine.specs.Acts.{Doing, each, quiet, ◌then◌}
use Rattle.mj_machine.specs.Pairing.{settles}
use Rattle.mj_machine.specs.TickStep.{due_numbers, silent_numbers}
use Rattle.mj_machine.specs.EventStep.{Closes, Gains, Happening, Noted, Opens, Reports, Stops, Ticks, closes, effect, happening, happens, state_after}
use Rattle.mj_machine.specs.MachineRun.{run_state}
use Rattle.mj_machine.specs.Steps.{Beat, Cause, Closing, Expiry, IsAllowed, Item, Opening, Paired, Report, Step, Time, acts, beat_step, beat_steps, effect_steps, event_steps, expiry_step, gain_steps, happening_steps, item_steps, lease_steps, pair_step, run_steps, settle_steps, step, step_of, turn_steps}
use Rattle.mj_machine.proofs.ListLemmas.{all-append}
use Rattle.mj_machine.proofs.SettlingLemmas.{settles-end}
use Rattle.mj_machine.proofs.StepLemmas.{reads-effect, reads-happens, reads-settles}
use Rattle.mj_machine.proofs.Changes.{IsCarried, IsKept, kept-carried}
use Rattle.mj_machine.proofs.Walk.{walk-acts}

-- no message, no opening, no lease's end, no pair
abbrev pub IsPlain : Cause → Type 0
IsPlain (Closing lane) = Unit {0}
IsPlain (Opening lane) = ⊥
IsPlain (Report lane) = Unit {0}
IsPlain (Item n items.Accepted) = Unit {0}
IsPlain (Item n (items.Ready kind)) = Unit {0}
IsPlain (Item n (items.Message message)) = ⊥
IsPlain (Item n (items.Ended reason at)) = Unit {0}
IsPlain (Time ms) = Unit {0}
IsPlain (Expiry n) = ⊥
IsPlain (Beat n) = Unit {0}
IsPlain (Paired p) = ⊥

pub plain-allowed : (cause : Cause) (s : State) → IsPlain cause → IsAllowed cause s
plain-allowed (Closing lane) s plain = tt
plain-allowed (Opening lane) s plain = tt
plain-allowed (Report lane) s plain = tt
plain-allowed (Item n item) s plain = tt
plain-allowed (Time ms) s plain = tt
plain-allowed (Expiry n) s plain = tt
plain-allowed (Beat n) s plain = tt
plain-allowed (Paired p) s plain = absurd plain

-- P holds between the steps, or Q behind a message until all is settled, and Around of each step. Free is what an opening
-- asks for
pub record IsWalked (Free : State → ℕ → Type 0) (P Q : Whole → Type 0) (Around : Step → Type 0) : Type 0 where
  pub plain : (cause : Cause) (w : Whole) → IsPlain cause → P w → Around (step_of cause w (acts cause w)) × P (acts cause w).0
  pub opens : (lane : ℕ) (w : Whole) → Free w.routing lane → P w → Around (step_of (Opening lane) w (acts (Opening lane) w)) × P (acts (Opening lane) w).0
  pub leases : (w : Whole) → P w → AllByRecursion Around (lease_steps w).1 × P (lease_steps w).0
  pub message : (n : ℕ) (message : List (List ℕ)) (w : Whole) → P w
      → Around (step_of (Item n (items.Message message)) w (acts (Item n (items.Message message)) w)) × Q (acts (Item n (items.Message message)) w).0
  pub pairs : (p : Pair) (w : Whole) → pair w.routing.waiting w.routing.queue ≡ Some p → Q w → Around (step_of (Paired p) w (acts (Paired p) w)) × Q (acts (Paired p) w).0
  pub eases : (w : Whole) → P w → Q w
  pub settled : (w : Whole) → pair w.routing.waiting w.routing.queue ≡ None → Q w → P w

-- what the opening of a lane asks for, where its connection has left
abbrev pub MayOpen : (State → ℕ → Type 0) → Happening → Whole → Type 0
MayOpen Free h w = (lane : ℕ) → h ≡ Opens lane → Free (closes (number_on lane w.routing.connections) (told_by w.store) w.routing) lane

module _ (Around : Step → Type 0) where
  pub record Stays (R : Whole → Type 0) (d : Doing Whole Step) : Type 0 where
    pub steps : AllByRecursion Around d.1
    pub end : R d.0

  stays-quiet : (R : Whole → Type 0) (w : Whole) → R w → Stays R (quiet w)
  stays-quiet R w p = record { steps = tt; end = p }

  stays-step : (R : Whole → Type 0) (cause : Cause) (w : Whole) → Around (step_of cause w (acts cause w)) × R (acts cause w).0 → Stays R (step cause w)
  stays-step R cause w both = record { steps = (both.0, tt); end = both.1 }

  stays-then : (R S : Whole → Type 0) (d : Doing Whole Step) (f : Whole → Doing Whole Step) → Stays R d → ((w : Whole) → R w → Stays S (f w)) → Stays S (d then f)
  stays-then R S d f first second =
      let rest = second d.0 first.end in
      record { steps = all-append Around d.1 (f d.0).1 first.steps rest.steps; end = rest.end }

  pub stays-each : {X : Type 0} (R : Whole → Type 0) (f : X → Whole → Doing Whole Step) → ((x : X) (w : Whole) → R w → Stays R (f x w)) → (xs : List X) (w : Whole) → R w → Stays R (each f xs w)
  stays-each R f one [] w p = stays-quiet R w p
  stays-each R f one (x ∷ xs) w p = stays-then R R (f x w) (each f xs) (one x w p) (λ v q. stays-each R f one xs v q)

module _ (Free : State → ℕ → Type 0) (P Q : Whole → Type 0) (Around : Step → Type 0) (walked : IsWalked Free P Q Around) where
  abbrev Keeps : Doing Whole Step → Type 0
  Keeps d = Stays Around P d

  -- ---- settling

  stays-pair : (o : Option Pair) (w : Whole) → pair w.routing.waiting w.routing.queue ≡ o → Q w → Stays Around Q (pair_step o w)
  stays-pair None w is q = stays-quiet Around Q w q
  stays-pair (Some p) w is q = stays-step Around Q (Paired p) w (walked.pairs p w is q)

  stays-turns : (n : ℕ) (w : Whole) → Q w → Stays Around Q (turn_steps n w)
  stays-turns zero w q = stays-quiet Around Q w q
  stays-turns (suc n) w q =
      let o = pair w.routing.waiting w.routing.queue in
      stays-then Around Q Q (pair_step o w) (turn_steps n) (stays-pair o w refl q) (λ v r. stays-turns n v r)

  pub stays-settling : (w : Whole) → Q w → Keeps (settle_steps w)
  unfolding settle_steps
  stays-settling w q =
      let turns = stays-turns (suc (length w.routing.waiting)) w q in
      let none = subst (λ (v : Whole). pair v.routing.waiting v.routing.queue ≡ None) (sym (reads-settles w).state) (settles-end w) in
      record { steps = turns.steps; end = walked.settled (settle_steps w).0 none turns.end }

  -- ---- happenings

  stays-plain : (cause : Cause) → IsPlain cause → (w : Whole) → P w → Keeps (step cause w)
  stays-plain cause plain w p = stays-step Around P cause w (walked.plain cause w plain p)

  stays-item : (n : ℕ) (item : WireItem) (w : Whole) → P w → Keeps (item_steps n item w)
  stays-item n items.Accepted w p = stays-plain (Item n items.Accepted) tt w p
  stays-item n (items.Ready kind) w p = stays-plain (Item n (items.Ready kind)) tt w p
  stays-item n (items.Message message) w p =
      stays-then Around Q P (step (Item n (items.Message message)) w) settle_steps (stays-step Around Q (Item n (items.Message message)) w (walked.message n message w p)) stays-settling
  stays-item n (items.Ended reason at) w p = stays-plain (Item n (items.Ended reason at)) tt w p

  stays-gains : (o : Option ℕ) (gain : List WireItem) (w : Whole) → P w → Keeps (gain_steps o gain w)
  stays-gains None gain w p = stays-quiet Around P w p
  stays-gains (Some n) gain w p = stays-each Around P (item_steps n) (λ item v q. stays-item n item v q) gain w p

  stays-leases : (w : Whole) → P w → Keeps (lease_steps w)
  stays-leases w p = let both = walked.leases w p in record { steps = both.0; end = both.1 }

  stays-beats : (w : Whole) → P w → Keeps (beat_steps w)
  stays-beats w p = stays-each Around P beat_step (λ n v q. stays-plain (Beat n) tt v q) (silent_numbers w.routing) w p

  pub stays-effect : (h : Happening) (w : Whole) → MayOpen Free h w → P w → Keeps (effect_steps h w)
  stays-effect (Opens lane) w free p =
      let closed = stays-plain (Closing lane) tt w p in
      let v = (acts (Closing lane) w).0 in
      let opened = stays-step Around P (Opening lane) v (walked.opens lane v (free lane refl) closed.end) in
      record { steps = all-append Around (step (Closing lane) w).1 (step (Opening lane) v).1 closed.steps opened.steps; end = opened.end }
  stays-effect (Gains lane gain) w free p = stays-gains (number_on lane w.routing.connections) gain w p
  stays-effect (Reports lane) w free p = stays-plain (Report lane) tt w p
  stays-effect (Closes lane) w free p = stays-plain (Closing lane) tt w p
  stays-effect (Ticks ms) w free p =
      stays-then Around P P (step (Time ms) w then lease_steps) beat_steps (stays-then Around P P (step (Time ms) w) lease_steps (stays-plain (Time ms) tt w p) stays-leases) stays-beats
  stays-effect Stops w free p = stays-quiet Around P w p

  pub stays-happens : (h : Happening) (w : Whole) → MayOpen Free h w → P w → Keeps (happening_steps h w)
  stays-happens h w free p = stays-then Around P P (effect_steps h w) settle_steps (stays-effect h w free p) (λ v q. stays-settling v (walked.eases v q))

-- ---- runs, of what is routed and of the store

abbrev pub Of : (State → Store → Type 0) → Whole → Type 0
Of R w = R w.routing w.store

abbrev pub Vacates : (State → ℕ → Type 0) → (State → Store → Type 0) → Type 0
Vacates Free R = (s : State) (store : Store) → R s store → (lane : ℕ) → Free (closes (number_on lane s.connections) (told_by store) s) lane

module _ (Free : State → ℕ → Type 0) (R : State → Store → Type 0) (Q : Whole → Type 0) (Around : Step → Type 0) (walked : IsWalked Free (Of R) Q Around) (vacates : Vacates Free R) where
  pub stays-event : (limits : Limits) (m : Machine) (e : Noted) → R m.state m.store
      → AllByRecursion Around (event_steps limits m e) × R (state_after limits m e).state (state_after limits m e).store
  stays-event limits m e p =
      let h = happening limits m e.event in
      let w = entered m.state m.store e.notes in
      let now = stays-happens Free (Of R) Q Around walked h w (λ lane is. vacates m.state m.store p lane) p in
      (now.steps, subst (Of R) (reads-happens h w).state now.end)

  pub stays-run : (limits : Limits) (m : Machine) (events : List Noted) → R m.state m.store
      → AllByRecursion Around (run_steps limits m events) × R (run_state limits m events).state (run_state limits m events).store
  stays-run limits m [] p = (tt, p)
  stays-run limits m (e ∷ events) p =
      let now = stays-event limits m e p in
      let rest = stays-run limits (state_after limits m e) events now.1 in
      (all-append Around (event_steps limits m e) (run_steps limits (state_after limits m e) events) now.0 rest.0, rest.1)

-- ---- what each act keeps

-- where the act is an opening, it has what it asks for
abbrev pub MayBegin : (State → ℕ → Type 0) → Cause → State → Type 0
MayBegin Free cause s = (lane : ℕ) → cause ≡ Opening lane → Free s lane

abbrev pub IsCarriedOn : (State → ℕ → Type 0) → (Whole → Type 0) → Type 0
IsCarriedOn Free P = (cause : Cause) (w : Whole) → MayBegin Free cause w.routing → IsCarried cause w (λ d. P d.0)

-- nothing is asked for
abbrev pub AnyLane : State → ℕ → Type 0
AnyLane s lane = Unit {0}

-- each act by itself
module _ (Free : State → ℕ → Type 0) (P : Whole → Type 0) (Around : Step → Type 0)
    (one : (cause : Cause) (w : Whole) → IsAllowed cause w.routing → MayBegin Free cause w.routing → P w → Around (step_of cause w (acts cause w)) × P (acts cause w).0) where
  expiry : (n : ℕ) (w : Whole) → P w → Stays Around P (expiry_step n w)
  expiry n w p = let both = one (Expiry n) w tt (λ lane is. absurd (cc is)) p in record { steps = (both.0, tt); end = both.1 }

  same-lane : (lane other : ℕ) → Opening lane ≡ Opening other → lane ≡ other
  same-lane lane other same = cc same

  pub walked-by : IsWalked Free P P Around
  walked-by = record {
    plain = λ cause w plain p. one cause w (plain-allowed cause w.routing plain) (λ lane is. absurd (subst IsPlain is plain)) p;
    opens = λ lane w free p. one (Opening lane) w tt (λ other is. subst (Free w.routing) (same-lane lane other is) free) p;
    leases = λ w p. let all = stays-each Around P expiry_step expiry (due_numbers w.routing) w p in (all.steps, all.end);
    message = λ n message w p. one (Item n (items.Message message)) w tt (λ lane is. absurd (cc is)) p;
    pairs = λ q w is p. one (Paired q) w is (λ lane other. absurd (cc other)) p;
    eases = λ w p. p;
    settled = λ w none p. p;
  }

module _ (Free : State → ℕ → Type 0) (P : Whole → Type 0) (invariant : IsCarriedOn Free P) where
  abbrev pub OnBothSides : Step → Type 0
  OnBothSides t = P t.before × P t.after

  around : (cause : Cause) (w : Whole) → IsAllowed cause w.routing → MayBegin Free cause w.routing → P w → OnBothSides (step_of cause w (acts cause w)) × P (acts cause w).0
  around cause w allowed free p = let now = walk-acts cause w (λ d. P d.0) (invariant cause w free) allowed p in ((p, now), now)

  pub walked-kept : IsWalked Free P P OnBothSides
  walked-kept = walked-by Free P OnBothSides around

  pub carried-settles : (w : Whole) → P w → P (settles w).0
  carried-settles w p = subst P (reads-settles w).state (stays-settling Free P P OnBothSides walked-kept w p).end

  pub carried-effect : (h : Happening) (w : Whole) → MayOpen Free h w → P w → P (effect h w).0
  carried-effect h w free p = subst P (reads-effect h w).state (stays-effect Free P P OnBothSides walked-kept h w free p).end

  pub carried-happens : (h : Happening) (w : Whole) → MayOpen Free h w → P w → P (happens h w).0
  carried-happens h w free p = subst P (reads-happens h w).state (stays-happens Free P P OnBothSides walked-kept h w free p).end

-- ---- of what is routed alone

abbrev pub IsInvariant : (State → ℕ → Type 0) → (State → Type 0) → Type 0
IsInvariant Free P = (cause : Cause) (s : State) → MayBegin Free cause s → IsKept cause s P

module _ (Free : State → ℕ → Type 0) (P : State → Type 0) (invariant : IsInvariant Free P) where
  pub carried-on : IsCarriedOn Free (λ w. P w.routing)
  carried-on cause w free = kept-carried cause w P (invariant cause w.routing free)

  pub kept-settles : (w : Whole) → P w.routing → P (settles w).0.routing
  kept-settles w p = carried-settles Free (λ v. P v.routing) carried-on w p

  pub kept-effect : (h : Happening) (w : Whole) → MayOpen Free h w → P w.routing → P (effect h w).0.routing
  kept-effect h w free p = carried-effect Free (λ v. P v.routing) carried-on h w free p

  pub kept-happens : (h : Happening) (w : Whole) → MayOpen Free h w → P w.routing → P (happens h w).0.routing
  kept-happens h w free p = carried-happens Free (λ v. P v.routing) carried-on h w free p
