-- The steps of a run: its single acts in order, each with its cause, the states around it and what it does to the lanes.
use Rattle.std.specs.Prelude.{ℕ, zero, suc, ◌≡◌, List, [], ◌∷◌, ◌++◌, length, flat_map, Option, None, Some}
use Rattle.mj_base.specs.declared.event.Out.{Out}
use Rattle.mj_base.specs.declared.limits.Limits.{Limits}
use Rattle.mj_wire.specs.declared.item.WireItem.{WireItem}
use Rattle.mj_wire.specs.declared.item.WireItem.TheVariants as items
use Rattle.mj_queue.specs.Settling.{Pair, pair}
use Rattle.mj_tickets.specs.declared.command.TicketCmd.{TicketCmd}
use Rattle.mj_machine.specs.StoreState.{Store, Told, doubted}
use Rattle.mj_machine.specs.MachineState.{Act, Done, Machine, State, Whole, entered}
use Rattle.mj_machine.specs.Connections.{connection_of, number_on}
use Rattle.mj_machine.specs.Acts.{Doing, each, quiet, ◌then◌}
use Rattle.mj_machine.specs.DiskActs.{routes}
use Rattle.mj_machine.specs.Pairing.{dispatches}
use Rattle.mj_machine.specs.MessageStep.{said_in, says_by}
use Rattle.mj_machine.specs.TickStep.{at_moment, beats, due_numbers, expires, silent_numbers}
use Rattle.mj_machine.specs.EventStep.{Closes, Gains, Happening, Noted, Opens, Reports, Stops, Ticks, closes_on, happening, item_step, opens, reports_on, state_after}

-- why a single act is done: a connection of a lane leaves, opens or has sent a piece; an item of a stream, its fault
-- among them; the moment changes; a worker's lease ends, or it is sent a heartbeat; a pair
pub data Cause : Type 0 where
  Closing : (lane : ℕ) → Cause
  Opening : (lane : ℕ) → Cause
  Report : (lane : ℕ) → Cause
  Item : (number : ℕ) (item : WireItem) → Cause
  Time : (ms : ℕ) → Cause
  Expiry : (number : ℕ) → Cause
  Beat : (number : ℕ) → Cause
  Paired : (chosen : Pair) → Cause

-- an item without the settling behind a message
abbrev pub item_act : ℕ → WireItem → Act
item_act n items.Accepted w = item_step n items.Accepted w
item_act n (items.Ready kind) w = item_step n (items.Ready kind) w
item_act n (items.Message message) w = says_by n (connection_of n w.routing.connections) (said_in message) w
item_act n (items.Ended reason at) w = item_step n (items.Ended reason at) w

abbrev pub time_on : ℕ → Told → State → Done Out
time_on ms told s = quiet (at_moment ms s)

abbrev pub expires_on : ℕ → Told → State → Done Out
expires_on n told s = quiet (expires n told s)

-- what a cause does
abbrev pub acts : Cause → Act
acts (Closing lane) w = routes (closes_on lane) w
acts (Opening lane) w = routes (opens lane) w
acts (Report lane) w = routes (reports_on lane) w
acts (Item n item) w = item_act n item w
acts (Time ms) w = routes (time_on ms) w
acts (Expiry n) w = routes (expires_on n) w
acts (Beat n) w = routes (beats n) w
acts (Paired p) w = dispatches (Some p) w

pub record Step : Type 0 where
  pub cause : Cause
  pub before : Whole
  pub after : Whole
  pub outs : List Out

abbrev pub step_of : Cause → Whole → Doing Whole Out → Step
step_of cause w d = record { cause = cause; before = w; after = d.0; outs = d.1 }

abbrev pub step_by : Cause → Whole → Doing Whole Out → Doing Whole Step
step_by cause w d = (d.0, step_of cause w d ∷ [])

abbrev pub step : Cause → Whole → Doing Whole Step
step cause w = step_by cause w (acts cause w)

-- ---- settling

abbrev pub pair_step : Option Pair → Whole → Doing Whole Step
pair_step None w = quiet w
pair_step (Some p) w = step (Paired p) w

abbrev pub turn_steps : ℕ → Whole → Doing Whole Step
turn_steps zero w = quiet w
turn_steps (suc n) w = pair_step (pair w.routing.waiting w.routing.queue) w then turn_steps n

unfoldable pub settle_steps : Whole → Doing Whole Step
settle_steps w = turn_steps (suc (length w.routing.waiting)) w

-- ---- an event

-- settling follows each message
abbrev pub item_steps : ℕ → WireItem → Whole → Doing Whole Step
item_steps n items.Accepted w = step (Item n items.Accepted) w
item_steps n (items.Ready kind) w = step (Item n (items.Ready kind)) w
item_steps n (items.Message message) w = step (Item n (items.Message message)) w then settle_steps
item_steps n (items.Ended reason at) w = step (Item n (items.Ended reason at)) w

abbrev pub gain_steps : Option ℕ → List WireItem → Whole → Doing Whole Step
gain_steps None gain w = quiet w
gain_steps (Some n) gain w = each (item_steps n) gain w

abbrev pub expiry_step : ℕ → Whole → Doing Whole Step
expiry_step n w = step (Expiry n) w

abbrev pub beat_step : ℕ → Whole → Doing Whole Step
beat_step n w = step (Beat n) w

abbrev pub lease_steps : Whole → Doing Whole Step
lease_steps w = each expiry_step (due_numbers w.routing) w

abbrev pub beat_steps : Whole → Doing Whole Step
beat_steps w = each beat_step (silent_numbers w.routing) w

abbrev pub effect_steps : Happening → Whole → Doing Whole Step
effect_steps (Opens lane) w = step (Closing lane) w then step (Opening lane)
effect_steps (Gains lane gain) w = gain_steps (number_on lane w.routing.connections) gain w
effect_steps (Reports lane) w = step (Report lane) w
effect_steps (Closes lane) w = step (Closing lane) w
effect_steps (Ticks ms) w = (step (Time ms) w then lease_steps) then beat_steps
effect_steps Stops w = quiet w

-- settling comes last
abbrev pub happening_steps : Happening → Whole → Doing Whole Step
happening_steps h w = effect_steps h w then settle_steps

abbrev pub event_steps : Limits → Machine → Noted → List Step
event_steps limits m e = (happening_steps (happening limits m e.event) (entered m.state m.store e.notes)).1

-- ---- a run

abbrev pub run_steps : Limits → Machine → List Noted → List Step
run_steps limits m [] = []
run_steps limits m (e ∷ events) = event_steps limits m e ++ run_steps limits (state_after limits m e) events

-- what the steps do to the lanes, in order
abbrev pub outs_in : List Step → List Out
outs_in steps = flat_map (λ t. t.outs) steps

-- a pair is the one that settling finds
abbrev pub IsAllowed : Cause → State → Type 0
IsAllowed (Closing lane) s = Unit {0}
IsAllowed (Opening lane) s = Unit {0}
IsAllowed (Report lane) s = Unit {0}
IsAllowed (Item n item) s = Unit {0}
IsAllowed (Time ms) s = Unit {0}
IsAllowed (Expiry n) s = Unit {0}
IsAllowed (Beat n) s = Unit {0}
IsAllowed (Paired p) s = pair s.waiting s.queue ≡ Some p

-- the same is routed, over the same store; the count of acts and the notes begin anew with each event
pub record Meets (w v : Whole) : Type 0 where
  pub routing : v.routing ≡ w.routing
  pub store : v.store ≡ w.store

-- a step from here does what its cause does
pub record IsStep (w : Whole) (t : Step) : Type 0 where
  pub before : Meets w t.before
  pub allowed : IsAllowed t.cause t.before.routing
  pub after : t.after ≡ (acts t.cause t.before).0
  pub outs : t.outs ≡ (acts t.cause t.before).1

-- steps that lead from one to another, each from where the one before it ended
abbrev pub IsChain : Whole → List Step → Whole → Type 0
IsChain w [] end = Meets w end
IsChain w (t ∷ steps) end = IsStep w t × IsChain t.after steps end

-- ---- what a crash may leave

-- the commands that were kept, or these with the one in doubt
abbrev pub lists_at : Store → List (List TicketCmd)
lists_at store = store.commands ∷ (store.commands ++ doubted store.access) ∷ []

abbrev pub lists_in : List Step → List (List TicketCmd)
lists_in steps = flat_map (λ t. lists_at t.before.store ++ lists_at t.after.store) steps

-- the stores around steps
abbrev pub stores_in : List Step → List Store
stores_in [] = []
stores_in (t ∷ steps) = t.before.store ∷ t.after.store ∷ stores_in steps

-- the stores of an event, from the first on
abbrev pub stores_of : Limits → Machine → Noted → List Store
stores_of limits m e = m.store ∷ stores_in (event_steps limits m e)
