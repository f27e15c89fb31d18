-- Commands are only added to.
use Rattle.std.proofs.Common.{List, [], ◌∷◌, ◌++◌, Option, None, Some, refl, sym, ap, ◌∙◌, append-nil, append_assoc}
use Rattle.std.specs.List.{AllByRecursion}
use Rattle.mj_base.specs.declared.limits.Limits.{Limits}
use Rattle.mj_tickets.specs.declared.command.TicketCmd.{TicketCmd}
use Rattle.mj_tickets.specs.declared.command.TicketCmd.TheVariants as cmds
use Rattle.mj_machine.specs.StoreState.{Access, Store}
use Rattle.mj_machine.specs.MachineState.{Machine, State, Whole}
use Rattle.mj_machine.specs.DiskActs.{finds, found_in, reopened}
use Rattle.mj_machine.specs.EventStep.{Noted}
use Rattle.mj_machine.specs.MachineRun.{run_state}
use Rattle.mj_machine.specs.Steps.{Cause, IsAllowed, Step, acts, event_steps, run_steps, step_of, stores_in}
use Rattle.mj_machine.proofs.Changes.{IsCarried, accepts_next}
use Rattle.mj_machine.proofs.StepWalk.{AnyLane, IsWalked, MayBegin, Of, stays-event, stays-run, walked-by}
use Rattle.mj_machine.proofs.Walk.{walk-acts}
use Rattle.mj_laws.specs.Kept.{CommandsGrow, GoesFrom, StoresGoOn}

pub goes-same : (store : Store) → GoesFrom store store
goes-same store = record { stored = refl; seed = refl; base = refl; commands = ([], sym (append-nil store.commands)) }

pub goes-then : (one two three : Store) → GoesFrom one two → GoesFrom two three → GoesFrom one three
goes-then one two three first second = record {
  stored = second.stored ∙ first.stored;
  seed = second.seed ∙ first.seed;
  base = second.base ∙ first.base;
  commands = (
    first.commands.0 ++ second.commands.0,
    second.commands.1 ∙ ap (λ (xs : List TicketCmd). xs ++ second.commands.0) first.commands.1 ∙ append_assoc one.commands first.commands.0 second.commands.0,
  );
}

goes-shut : (store : Store) (access : Access) → GoesFrom store (record store { access = access })
goes-shut store access = record { stored = refl; seed = refl; base = refl; commands = ([], sym (append-nil store.commands)) }

goes-found : (store : Store) (found : Option TicketCmd) → GoesFrom store (reopened found store)
goes-found store None = record { stored = refl; seed = refl; base = refl; commands = ([], sym (append-nil store.commands)) }
goes-found store (Some cmd) = record { stored = refl; seed = refl; base = refl; commands = (cmd ∷ [], refl) }

goes-more : (store : Store) (cmd : TicketCmd) → GoesFrom store (record store { commands = store.commands ++ cmd ∷ [] })
goes-more store cmd = record { stored = refl; seed = refl; base = refl; commands = (cmd ∷ [], refl) }

-- ---- acts

goes-carried : (cause : Cause) (w0 : Whole) → IsCarried cause w0 (λ d. GoesFrom w0.store d.0.store)
goes-carried cause w0 = record {
  marked = λ n w o p. p;
  sends = λ n piece c w o why is slow p. p;
  reported = λ n w o p. p;
  removes = λ n w o p. p;
  ends = λ lane n reason at w o p. p;
  gone = λ n w o p. p;
  expired = λ n w o is p. p;
  asking = λ n c o is plain p. p;
  queued = λ n c message request o told is origin p. p;
  registers = λ n c message voice service o told is fresh p. p;
  rested = λ n service w o final serves nothing p. p;
  given = λ q w o by is same p. p;
  opens = λ lane o is p. p;
  time = λ ms w o p. p;
  counts = λ w o read works p. p;
  shuts = λ doubt w o in_doubt fault only p. goes-then w0.store w.store _ p (goes-shut w.store _);
  reopens = λ doubt w o shut works only p. goes-then w0.store w.store (reopened (found_in (finds w) doubt) w.store) p (goes-found w.store (found_in (finds w) doubt));
  accepts = λ service body w o ready stored room works only p. goes-then w0.store w.store _ p (goes-more w.store (accepts_next service body w));
  stores = λ n number body w o ready pending holds works only p. goes-then w0.store w.store _ p (goes-more w.store (cmds.Store number body));
  closes = λ ticket id w o ready found works only p. goes-then w0.store w.store _ p (goes-more w.store (cmds.Close ticket.number));
  passes = λ q number is found origin fault p. goes-then w0.store w0.store _ p (goes-shut w0.store _);
}

pub act-goes : (cause : Cause) (w : Whole) → IsAllowed cause w.routing → GoesFrom w.store (acts cause w).0.store
act-goes cause w allowed = walk-acts cause w (λ d. GoesFrom w.store d.0.store) (goes-carried cause w) allowed (goes-same w.store)

-- ---- runs

-- each store is later than this one
abbrev Later : Store → State → Store → Type 0
Later first s store = GoesFrom first store

abbrev StepGoes : Store → Step → Type 0
StepGoes first t = GoesFrom first t.before.store × GoesFrom first t.after.store × GoesFrom t.before.store t.after.store

goes-one : (first : Store) (cause : Cause) (w : Whole) → IsAllowed cause w.routing → MayBegin AnyLane cause w.routing → Of (Later first) w
    → StepGoes first (step_of cause w (acts cause w)) × Of (Later first) (acts cause w).0
goes-one first cause w allowed free p =
    let now = act-goes cause w allowed in
    let later = goes-then first w.store (acts cause w).0.store p now in
    ((p, later, now), later)

goes-walked : (first : Store) → IsWalked AnyLane (Of (Later first)) (Of (Later first)) (StepGoes first)
goes-walked first = walked-by AnyLane (Of (Later first)) (StepGoes first) (goes-one first)

steps-go : (first : Store) (steps : List Step) → AllByRecursion (StepGoes first) steps → AllByRecursion (λ t. GoesFrom t.before.store t.after.store) steps
steps-go first [] all = tt
steps-go first (t ∷ steps) all = (all.0.2, steps-go first steps all.1)

in-stores : (first : Store) (steps : List Step) → AllByRecursion (StepGoes first) steps → AllByRecursion (GoesFrom first) (stores_in steps)
in-stores first [] all = tt
in-stores first (t ∷ steps) all = (all.0.0, (all.0.1, in-stores first steps all.1))

around-stores : (first : Store) (steps : List Step) → AllByRecursion (StepGoes first) steps → AllByRecursion (λ t. GoesFrom first t.before.store × GoesFrom first t.after.store) steps
around-stores first [] all = tt
around-stores first (t ∷ steps) all = ((all.0.0, all.0.1), around-stores first steps all.1)

-- the stores around each step go on from the first
pub later-stores : (limits : Limits) (m : Machine) (events : List Noted)
    → AllByRecursion (λ t. GoesFrom m.store t.before.store × GoesFrom m.store t.after.store) (run_steps limits m events) × GoesFrom m.store (run_state limits m events).store
later-stores limits m events =
    let all = stays-run AnyLane (Later m.store) (Of (Later m.store)) (StepGoes m.store) (goes-walked m.store) (λ s store p lane. tt) limits m events (goes-same m.store) in
    (around-stores m.store (run_steps limits m events) all.0, all.1)

pub commands_grow : (limits : Limits) (m : Machine) (events : List Noted) → CommandsGrow limits m events
commands_grow limits m events =
    let all = stays-run AnyLane (Later m.store) (Of (Later m.store)) (StepGoes m.store) (goes-walked m.store) (λ s store p lane. tt) limits m events (goes-same m.store) in
    (steps-go m.store (run_steps limits m events) all.0, all.1)

pub stores_go_on : (limits : Limits) (m : Machine) (e : Noted) → StoresGoOn limits m e
stores_go_on limits m e =
    let all = stays-event AnyLane (Later m.store) (Of (Later m.store)) (StepGoes m.store) (goes-walked m.store) (λ s store p lane. tt) limits m e (goes-same m.store) in
    ((goes-same m.store, in-stores m.store (event_steps limits m e) all.0), all.1)
