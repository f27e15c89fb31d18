-- Acts other than a message keep what is settled, and settling comes behind each message and each event.
use Rattle.std.proofs.Common.{◌≡◌, ◌≢◌, ◌||◌, ℕ, Bool, true, false, is_some, List, [], ◌∷◌, Option, None, Some, refl, sym, ap, subst, ◌∙◌, inl, inr}
use Rattle.std.specs.List.{AllByRecursion, list_any}
use Rattle.std.specs.Str.{bytes_eq}
use Rattle.std.proofs.lemmas.Slice.Eq.{bytes_eq-Decides}
use Rattle.mj_base.specs.declared.limits.Limits.{Limits}
use Rattle.mj_wire.specs.declared.item.WireItem.TheVariants.{Message}
use Rattle.mj_queue.specs.Settling.{Pair, has_waiter, pair, without_client}
use Rattle.mj_queue.specs.declared.request.Request.{Request}
use Rattle.mj_queue.specs.declared.worker.Waiter.{Waiter}
use Rattle.mj_queue.proofs.LawLemmas.{some-pair}
use Rattle.mj_machine.specs.StoreState.{Store, Told, told_by}
use Rattle.mj_machine.specs.MachineState.{State, Whole, start}
use Rattle.mj_machine.specs.MessageStep.{message_step, said_in, says_by}
use Rattle.mj_machine.specs.Connections.{connection_of}
use Rattle.mj_machine.specs.EventStep.{Noted, effect, happening, state_after}
use Rattle.mj_machine.specs.MachineState.{entered}
use Rattle.mj_machine.specs.Leaving.{left}
use Rattle.mj_machine.specs.TickStep.{due_numbers}
use Rattle.mj_machine.specs.MachineRun.{run_state}
use Rattle.mj_machine.specs.Steps.{Cause, Expiry, IsAllowed, Item, Opening, Paired, acts, expiry_step, run_steps, step_of}
use Rattle.mj_machine.proofs.ListLemmas.{all-failed, all-filter, all-map}
use Rattle.mj_machine.proofs.StepWalk.{AnyLane, IsPlain, IsWalked, Of, Stays, plain-allowed, stays-each, stays-run}
use Rattle.mj_machine.proofs.Changes.{IsCarried}
use Rattle.mj_machine.proofs.SettlingLemmas.{settles-end}
use Rattle.mj_machine.proofs.Walk.{walk-acts}
use Rattle.mj_laws.specs.NobodyWaits.{BeginsSettled, EventsSettle, IsSettled, MessagesSettle}
use Rattle.mj_laws.specs.Storeless.{HasNoTickets, IsStoreless}
use Rattle.mj_laws.proofs.StorelessLemmas.{IsIdle, idle-acts, idle-carried, none-back, not-shut, not-stored, storeless-start}

-- ---- no pair

apart : (a b : List ℕ) → bytes_eq a b ≡ false → a ≢ b
apart a b differ same = cc ((bytes_eq-Decides a b).1 same, differ)

pub settled-pair : (s : State) → pair s.waiting s.queue ≡ None → IsSettled s
settled-pair s none =
    let nowhere : list_any (has_waiter s.waiting) s.queue ≡ false = some-pair s.waiting s.queue ∙ ap (λ (o : Option Pair). is_some o) none in
    all-map _ _ (λ r free. all-map _ _ (λ w e. apart w.service r.service e) s.waiting (all-failed _ s.waiting free)) s.queue (all-failed (has_waiter s.waiting) s.queue nowhere)

any-failed : {X : Type 0} (p : X → Bool) (xs : List X) → AllByRecursion (λ x. p x ≡ false) xs → list_any p xs ≡ false
any-failed p [] all = refl
any-failed p (x ∷ xs) all = ap (λ (b : Bool). b || list_any p xs) all.0 ∙ any-failed p xs all.1

-- and where all is settled there is no pair
pub pair-settled : (s : State) → IsSettled s → pair s.waiting s.queue ≡ None
pair-settled s settled = none (pair s.waiting s.queue) (sym (some-pair s.waiting s.queue) ∙ nowhere)
  where
    differs : (a b : List ℕ) → a ≢ b → bytes_eq a b ≡ false
    differs a b apart = by (bytes_eq a b) refl
      where
        by : (t : Bool) → bytes_eq a b ≡ t → t ≡ false
        by true same = absurd (apart ((bytes_eq-Decides a b).0 same))
        by false other = refl

    nowhere : list_any (has_waiter s.waiting) s.queue ≡ false
    nowhere =
        any-failed (has_waiter s.waiting) s.queue
        (all-map _ _ (λ r free. any-failed _ s.waiting (all-map _ _ (λ w other. differs w.service r.service other) s.waiting free)) s.queue settled)

    none : (o : Option Pair) → is_some o ≡ false → o ≡ None
    none None empty = refl
    none (Some p) full = absurd (cc full)

-- ---- with a store or without one

pub events_settle : EventsSettle
events_settle limits m e = settled-pair (state_after limits m e).state (settles-end (effect (happening limits m e.event) (entered m.state m.store e.notes)).0)

pub messages_settle : MessagesSettle
messages_settle n message w = settled-pair (message_step n message w).0.routing (settles-end (says_by n (connection_of n w.routing.connections) (said_in message) w).0)

-- ---- acts without a store

settled-left : (n : ℕ) (told : Told) (s : State) → HasNoTickets s → IsSettled s → IsSettled (left n told s)
settled-left n told s none settled =
    subst (λ (queue : List Request). AllByRecursion (λ r. AllByRecursion (λ (w : Waiter). w.service ≢ r.service) (left n told s).waiting) queue) (sym (none-back told n s.held (without_client n s.queue) none.held))
    (all-filter _ _ s.queue (all-map _ _ (λ r free. all-filter (λ (w : Waiter). w.service ≢ r.service) _ s.waiting free) s.queue settled))

-- an act of this cause queues nothing, and lets nobody wait
abbrev IsCalm : Cause → Type 0
IsCalm cause = ((n : ℕ) (message : List (List ℕ)) → cause ≡ Item n (Message message) → ⊥) × ((p : Pair) → cause ≡ Paired p → ⊥)

settled-carried : (cause : Cause) (w0 : Whole) → IsCalm cause → IsCarried cause w0 (λ d. IsIdle w0 d × IsSettled d.0.routing)
settled-carried cause w0 calm =
    let idle = idle-carried cause w0 in record {
      marked = λ q w o p. (idle.marked q w o p.0, p.1);
      sends = λ q piece c w o why is slow p. (idle.sends q piece c w o why is slow p.0, p.1);
      reported = λ q w o p. (idle.reported q w o p.0, p.1);
      removes = λ q w o p. (idle.removes q w o p.0, settled-left q (told_by w.store) w.routing p.0.tickets p.1);
      ends = λ lane q reason at w o p. (idle.ends lane q reason at w o p.0, settled-left q (told_by w.store) w.routing p.0.tickets p.1);
      gone = λ q w o p. (idle.gone q w o p.0, settled-left q (told_by w.store) w.routing p.0.tickets p.1);
      expired = λ q w o is p. (idle.expired q w o is p.0, settled-left q (told_by w.store) w.routing p.0.tickets p.1);
      asking = λ q c o is plain p. (idle.asking q c o is plain p.0, p.1);
      queued = λ q c message request o told is origin p. absurd (calm.0 q message told);
      registers = λ q c message voice service o told is fresh p. absurd (calm.0 q message told);
      rested = λ q service w o final works nothing p. absurd (calm.0 q final.message final.cause_is);
      given = λ p w o by is same settled. absurd (calm.1 p by);
      opens = λ lane o is p. (idle.opens lane o is p.0, p.1);
      time = λ ms w o p. (idle.time ms w o p.0, p.1);
      counts = λ w o read works p. (idle.counts w o read works p.0, p.1);
      shuts = λ doubt w o in_doubt fault only p. (idle.shuts doubt w o in_doubt fault only p.0, all-filter _ _ w.routing.queue p.1);
      reopens = λ doubt w o shut works only p. absurd (not-shut w.store doubt p.0.store shut);
      accepts = λ service body w o usable stored room works only p. absurd (not-stored w.store p.0.store stored);
      stores = λ n number body w o usable pending holds works only p. (idle.stores n number body w o usable pending holds works only p.0, p.1);
      closes = λ ticket id w o usable found works only p. (idle.closes ticket id w o usable found works only p.0, all-filter _ _ w.routing.queue p.1);
      passes = λ p number by found origin fault settled. absurd (calm.1 p by);
    }

-- ---- runs without a store

abbrev pub IsCalmly : State → Store → Type 0
IsCalmly s store = IsStoreless s store × IsSettled s

begun : (cause : Cause) (w : Whole) → IsAllowed cause w.routing → IsCalm cause → Of IsCalmly w → BeginsSettled (step_of cause w (acts cause w)) × Of IsCalmly (acts cause w).0
begun cause w allowed calm p =
    let now =
    walk-acts cause w (λ d. IsIdle w d × IsSettled d.0.routing) (settled-carried cause w calm) allowed (record { store = p.0.0; tickets = p.0.1; acts = refl; notes = refl; silent = refl }, p.1) in
    (inr p.1, ((now.0.store, now.0.tickets), now.1))

expiry : (n : ℕ) (w : Whole) → Of IsCalmly w → Stays BeginsSettled (Of IsCalmly) (expiry_step n w)
expiry n w settled =
    let both = begun (Expiry n) w tt ((λ q message is. cc is), (λ p is. cc is)) settled in record { steps = (both.0, tt); end = both.1 }

still-idle : (cause : Cause) (w : Whole) → IsAllowed cause w.routing → Of IsStoreless w → Of IsStoreless (acts cause w).0
still-idle cause w allowed p = let now = idle-acts cause w allowed p in (now.store, now.tickets)

pub settled-walked : IsWalked AnyLane (Of IsCalmly) (Of IsStoreless) BeginsSettled
settled-walked = record {
  plain = λ cause w plain p. begun cause w (plain-allowed cause w.routing plain) ((λ q message is. subst IsPlain is plain), (λ q is. subst IsPlain is plain)) p;
  opens = λ lane w free p. begun (Opening lane) w tt ((λ q message is. cc is), (λ q is. cc is)) p;
  leases = λ w p. let all = stays-each BeginsSettled (Of IsCalmly) expiry_step expiry (due_numbers w.routing) w p in (all.steps, all.end);
  message = λ n message w p. (inr p.1, still-idle (Item n (Message message)) w tt p.0);
  pairs = λ p w is q. (inl (p, refl), still-idle (Paired p) w is q);
  eases = λ w p. p.0;
  settled = λ w none q. (q, settled-pair w.routing none);
}

pub nobody_waits : (limits : Limits) (events : List Noted) → AllByRecursion BeginsSettled (run_steps limits (start limits) events) × IsSettled (run_state limits (start limits) events).state
nobody_waits limits events =
    let all = stays-run AnyLane IsCalmly (Of IsStoreless) BeginsSettled settled-walked (λ s store p lane. tt) limits (start limits) events (storeless-start limits, tt) in
    (all.0, all.1.1)
