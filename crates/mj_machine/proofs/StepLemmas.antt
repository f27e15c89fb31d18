-- The steps of a run are the run: they lead from its first state to its last, and do what it does.
use Rattle.std.proofs.Common.{◌≡◌, ℕ, zero, suc, List, [], ◌∷◌, ◌++◌, length, Option, None, Some, refl, sym, ap, ◌∙◌, append-nil, append_assoc}
use Rattle.std.specs.List.{AllByRecursion}
use Rattle.std.proofs.lemmas.Grind.{flat_map-append}
use Rattle.mj_base.specs.declared.event.Out.{Out}
use Rattle.mj_base.specs.declared.limits.Limits.{Limits}
use Rattle.mj_wire.specs.declared.item.WireItem.{WireItem}
use Rattle.mj_wire.specs.declared.item.WireItem.TheVariants as items
use Rattle.mj_queue.specs.Settling.{Pair, pair}
use Rattle.mj_machine.specs.MachineState.{Machine, Whole, between, entered}
use Rattle.mj_machine.specs.Connections.{number_on}
use Rattle.mj_machine.specs.Acts.{Doing, each, quiet, ◌then◌}
use Rattle.mj_machine.specs.DiskActs.{routes}
use Rattle.mj_machine.specs.Pairing.{dispatches, settles, turns}
use Rattle.mj_machine.specs.TickStep.{all_beat, all_expire, beats, due_numbers, leases_end, silent_numbers}
use Rattle.mj_machine.specs.EventStep.{Closes, Gains, Happening, Noted, Opens, Reports, Stops, Ticks, effect, gains, happening, happens, item_step, outs_of, state_after}
use Rattle.mj_machine.specs.MachineRun.{run_outs, run_state}
use Rattle.mj_machine.specs.Steps.{Beat, Cause, Closing, Expiry, IsAllowed, IsChain, IsStep, Item, Meets, Opening, Paired, Report, Step, Time, acts, beat_step, beat_steps, effect_steps, event_steps, expiry_step, gain_steps, happening_steps, item_steps, lease_steps, outs_in, pair_step, run_steps, settle_steps, step, step_of, turn_steps}

-- ---- chains

meets : (w : Whole) → Meets w w
meets w = record { routing = refl; store = refl }

meets-then : (w v u : Whole) → Meets w v → Meets v u → Meets w u
meets-then w v u first second = record { routing = second.routing ∙ first.routing; store = second.store ∙ first.store }

-- a chain may begin and end wherever the same is routed over the same store
pub chain-from : (w v end : Whole) (steps : List Step) → Meets w v → IsChain v steps end → IsChain w steps end
chain-from w v end [] meet chain = meets-then w v end meet chain
chain-from w v end (t ∷ steps) meet chain =
    (record { before = meets-then w v t.before meet chain.0.before; allowed = chain.0.allowed; after = chain.0.after; outs = chain.0.outs }, chain.1)

pub chain-to : (w end other : Whole) (steps : List Step) → IsChain w steps end → Meets end other → IsChain w steps other
chain-to w end other [] chain meet = meets-then w end other chain meet
chain-to w end other (t ∷ steps) chain meet = (chain.0, chain-to t.after end other steps chain.1 meet)

pub chain-append : (w middle end : Whole) (xs ys : List Step) → IsChain w xs middle → IsChain middle ys end → IsChain w (xs ++ ys) end
chain-append w middle end [] ys first second = chain-from w middle end ys first second
chain-append w middle end (t ∷ xs) ys first second = (first.0, chain-append t.after middle end xs ys first.1 second)

-- the step is an act that may be done
pub record IsAct (t : Step) : Type 0 where
  pub is : t ≡ step_of t.cause t.before (acts t.cause t.before)
  pub allowed : IsAllowed t.cause t.before.routing

pub step-acts : (w : Whole) (t : Step) → IsStep w t → IsAct t
step-acts w t is = record {
  is =
      ap (λ (x : Whole). record { cause = t.cause; before = t.before; after = x; outs = t.outs }) is.after
      ∙ ap (λ (x : List Out). record { cause = t.cause; before = t.before; after = (acts t.cause t.before).0; outs = x }) is.outs;
  allowed = is.allowed;
}

chain-acts : (w end : Whole) (steps : List Step) → IsChain w steps end → AllByRecursion IsAct steps
chain-acts w end [] chain = tt
chain-acts w end (t ∷ steps) chain = (step-acts w t chain.0, chain-acts t.after end steps chain.1)

-- ---- steps that are an act

-- these steps lead from w to where the act ends, and do what it does
pub record Reads (w : Whole) (d : Doing Whole Step) (e : Doing Whole Out) : Type 0 where
  pub state : d.0 ≡ e.0
  pub chain : IsChain w d.1 d.0
  pub outs : outs_in d.1 ≡ e.1

reads-quiet : (w : Whole) → Reads w (quiet w) (quiet w)
reads-quiet w = record { state = refl; chain = meets w; outs = refl }

reads-step : (cause : Cause) (w : Whole) → IsAllowed cause w.routing → Reads w (step cause w) (acts cause w)
reads-step cause w allowed = record {
  state = refl;
  chain = (record { before = meets w; allowed = allowed; after = refl; outs = refl }, meets (acts cause w).0);
  outs = append-nil (acts cause w).1;
}

pub reads-then : (w : Whole) (d : Doing Whole Step) (e : Doing Whole Out) (f : Whole → Doing Whole Step) (g : Whole → Doing Whole Out)
    → Reads w d e → ((v : Whole) → Reads v (f v) (g v)) → Reads w (d then f) (e then g)
reads-then w d e f g first second =
    let rest = second d.0 in record {
      state = rest.state ∙ ap (λ (v : Whole). (g v).0) first.state;
      chain = chain-append w d.0 (f d.0).0 d.1 (f d.0).1 first.chain rest.chain;
      outs = flat_map-append (λ (t : Step). t.outs) d.1 (f d.0).1
          ∙ ap (λ (xs : List Out). xs ++ outs_in (f d.0).1) first.outs
          ∙ ap (λ (xs : List Out). e.1 ++ xs) (rest.outs ∙ ap (λ (v : Whole). (g v).1) first.state);
    }

pub reads-each : {X : Type 0} (f : X → Whole → Doing Whole Step) (g : X → Whole → Doing Whole Out) → ((x : X) (w : Whole) → Reads w (f x w) (g x w))
    → (xs : List X) (w : Whole) → Reads w (each f xs w) (each g xs w)
reads-each f g reads [] w = reads-quiet w
reads-each f g reads (x ∷ xs) w = reads-then w (f x w) (g x w) (each f xs) (each g xs) (reads x w) (λ v. reads-each f g reads xs v)

-- ---- settling

reads-pair : (o : Option Pair) (w : Whole) → pair w.routing.waiting w.routing.queue ≡ o → Reads w (pair_step o w) (dispatches o w)
reads-pair None w is = reads-quiet w
reads-pair (Some p) w is = reads-step (Paired p) w is

reads-turns : (n : ℕ) (w : Whole) → Reads w (turn_steps n w) (turns n w)
reads-turns zero w = reads-quiet w
reads-turns (suc n) w =
    let o = pair w.routing.waiting w.routing.queue in
    reads-then w (pair_step o w) (dispatches o w) (turn_steps n) (turns n) (reads-pair o w refl) (λ v. reads-turns n v)

pub reads-settles : (w : Whole) → Reads w (settle_steps w) (settles w)
unfolding settle_steps settles
reads-settles w = reads-turns (suc (length w.routing.waiting)) w

-- ---- happenings

pub reads-item : (n : ℕ) (item : WireItem) (w : Whole) → Reads w (item_steps n item w) (item_step n item w)
reads-item n items.Accepted w = reads-step (Item n items.Accepted) w tt
reads-item n (items.Ready kind) w = reads-step (Item n (items.Ready kind)) w tt
reads-item n (items.Message message) w =
    reads-then w (step (Item n (items.Message message)) w) (acts (Item n (items.Message message)) w) settle_steps settles
    (reads-step (Item n (items.Message message)) w tt) (λ v. reads-settles v)
reads-item n (items.Ended reason at) w = reads-step (Item n (items.Ended reason at)) w tt

reads-gains : (o : Option ℕ) (gain : List WireItem) (w : Whole) → Reads w (gain_steps o gain w) (gains o gain w)
reads-gains None gain w = reads-quiet w
reads-gains (Some n) gain w = reads-each (item_steps n) (item_step n) (λ item v. reads-item n item v) gain w

reads-expiries : (ns : List ℕ) (w : Whole) → Reads w (each expiry_step ns w) (routes (λ told s. quiet (all_expire ns told s)) w)
reads-expiries [] w = reads-quiet w
reads-expiries (n ∷ ns) w =
    reads-then w (step (Expiry n) w) (acts (Expiry n) w) (each expiry_step ns) (routes (λ told s. quiet (all_expire ns told s))) (reads-step (Expiry n) w tt) (λ v. reads-expiries ns v)

reads-beats : (ns : List ℕ) (w : Whole) → Reads w (each beat_step ns w) (routes (λ told s. each (λ n t. beats n told t) ns s) w)
reads-beats [] w = reads-quiet w
reads-beats (n ∷ ns) w =
    reads-then w (step (Beat n) w) (acts (Beat n) w) (each beat_step ns) (routes (λ told s. each (λ q t. beats q told t) ns s)) (reads-step (Beat n) w tt) (λ v. reads-beats ns v)

reads-ticks : (ms : ℕ) (w : Whole) → Reads w (effect_steps (Ticks ms) w) (effect (Ticks ms) w)
reads-ticks ms w =
    reads-then w (step (Time ms) w then lease_steps) (acts (Time ms) w then routes (λ told s. quiet (leases_end told s))) beat_steps (routes all_beat)
    (reads-then w (step (Time ms) w) (acts (Time ms) w) lease_steps (routes (λ told s. quiet (leases_end told s))) (reads-step (Time ms) w tt)
    (λ v. reads-expiries (due_numbers v.routing) v))
    (λ v. reads-beats (silent_numbers v.routing) v)

pub reads-effect : (h : Happening) (w : Whole) → Reads w (effect_steps h w) (effect h w)
reads-effect (Opens lane) w =
    reads-then w (step (Closing lane) w) (acts (Closing lane) w) (step (Opening lane)) (acts (Opening lane))
    (reads-step (Closing lane) w tt) (λ v. reads-step (Opening lane) v tt)
reads-effect (Gains lane gain) w = reads-gains (number_on lane w.routing.connections) gain w
reads-effect (Reports lane) w = reads-step (Report lane) w tt
reads-effect (Closes lane) w = reads-step (Closing lane) w tt
reads-effect (Ticks ms) w = reads-ticks ms w
reads-effect Stops w = reads-quiet w

pub reads-happens : (h : Happening) (w : Whole) → Reads w (happening_steps h w) (happens h w)
reads-happens h w = reads-then w (effect_steps h w) (effect h w) settle_steps settles (reads-effect h w) (λ v. reads-settles v)

-- ---- runs

-- the steps of one event
pub event-chain : (limits : Limits) (m : Machine) (e : Noted) → IsChain (between m) (event_steps limits m e) (between (state_after limits m e))
event-chain limits m e =
    let w = entered m.state m.store e.notes in
    let reads = reads-happens (happening limits m e.event) w in
    let d = happening_steps (happening limits m e.event) w in
    let met : Meets d.0 (between (state_after limits m e)) =
    record { routing = ap (λ (v : Whole). v.routing) (sym reads.state); store = ap (λ (v : Whole). v.store) (sym reads.state) } in
    let begun : Meets (between m) w = record { routing = refl; store = refl } in
    chain-to (between m) d.0 (between (state_after limits m e)) d.1 (chain-from (between m) w d.0 d.1 begun reads.chain) met

pub steps-lead : (limits : Limits) (m : Machine) (events : List Noted) → IsChain (between m) (run_steps limits m events) (between (run_state limits m events))
steps-lead limits m [] = meets (between m)
steps-lead limits m (e ∷ events) =
    let after = state_after limits m e in
    chain-append (between m) (between after) (between (run_state limits after events)) (event_steps limits m e)
    (run_steps limits after events) (event-chain limits m e) (steps-lead limits after events)

-- each step of a run is an act
pub steps-act : (limits : Limits) (m : Machine) (events : List Noted) → AllByRecursion IsAct (run_steps limits m events)
steps-act limits m events = chain-acts (between m) (between (run_state limits m events)) (run_steps limits m events) (steps-lead limits m events)

pub event-outs : (limits : Limits) (m : Machine) (e : Noted) → outs_in (event_steps limits m e) ≡ outs_of limits m e
event-outs limits m e = (reads-happens (happening limits m e.event) (entered m.state m.store e.notes)).outs

pub steps-do : (limits : Limits) (m : Machine) (events : List Noted) → outs_in (run_steps limits m events) ≡ run_outs limits m events
steps-do limits m [] = refl
steps-do limits m (e ∷ events) =
    let after = state_after limits m e in
    flat_map-append (λ (t : Step). t.outs) (event_steps limits m e) (run_steps limits after events)
    ∙ ap (λ (xs : List Out). xs ++ outs_in (run_steps limits after events)) (event-outs limits m e)
    ∙ ap (λ (xs : List Out). outs_of limits m e ++ xs) (steps-do limits after events)

pub run_steps-append : (limits : Limits) (m : Machine) (first second : List Noted)
    → run_steps limits m (first ++ second) ≡ run_steps limits m first ++ run_steps limits (run_state limits m first) second
run_steps-append limits m [] second = refl
run_steps-append limits m (e ∷ first) second =
    ap (λ (xs : List Step). event_steps limits m e ++ xs) (run_steps-append limits (state_after limits m e) first second)
    ∙ sym (append_assoc (event_steps limits m e) _ _)
