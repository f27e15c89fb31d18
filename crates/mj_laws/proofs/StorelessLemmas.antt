-- Without a store no ticket is kept.
use Rattle.std.proofs.Common.{◌≡◌, ◌==◌, ℕ, Bool, true, false, cond, List, [], ◌∷◌, ◌++◌, Option, None, Some, refl, sym, ap, subst, ◌∙◌}
use Rattle.std.specs.Option.{option_map}
use Rattle.std.specs.List.{AllByRecursion, find}
use Rattle.mj_base.specs.declared.event.Note.{Note as AnyNote}
use Rattle.mj_base.specs.declared.event.Out.{Out}
use Rattle.mj_base.specs.declared.limits.Limits.{Limits}
use Rattle.mj_queue.specs.Settling.{Pair, has_waiter, is_of_client, pair, without_client}
use Rattle.mj_queue.specs.declared.request.Origin.{Origin}
use Rattle.mj_queue.specs.declared.request.Origin.TheVariants as origins
use Rattle.mj_queue.specs.declared.request.Request.{Request}
use Rattle.mj_tickets.specs.declared.command.TicketCmd.{TicketCmd}
use Rattle.mj_tickets.specs.Fold.{Ticket, known}
use Rattle.mj_machine.specs.declared.held.Held.{Held}
use Rattle.mj_machine.specs.StoreState.{Shut, Store, Told, no_store, pends, tickets_of, told_by}
use Rattle.mj_machine.specs.MachineState.{Machine, State, Whole, start}
use Rattle.mj_machine.specs.Acts.{Doing}
use Rattle.mj_machine.specs.Leaving.{comes_back, given_back, held_by, left}
use Rattle.mj_machine.specs.DiskActs.{notes_in}
use Rattle.mj_machine.specs.Pairing.{held_by_pair}
use Rattle.mj_machine.specs.EventStep.{Noted}
use Rattle.mj_machine.specs.MachineRun.{run_state}
use Rattle.mj_machine.specs.Steps.{Cause, IsAllowed, acts, run_steps, step_of}
use Rattle.mj_machine.proofs.Changes.{Accepting, Closing, IsCarried, IsDoubt, IsMade, IsRead, NoDoubt, ReadsReply, ReadsTicket, Remains, Storing, Tried}
use Rattle.mj_machine.proofs.ListLemmas.{all-append, all-filter}
use Rattle.mj_machine.proofs.StepWalk.{AnyLane, IsWalked, MayBegin, Of, stays-run, walked-by}
use Rattle.mj_machine.proofs.Walk.{walk-acts}
use Rattle.mj_laws.specs.Storeless.{HasNoTickets, IsStoreless, StaysStoreless}
use Rattle.mj_laws.proofs.CountLemmas.{all-first}
use Rattle.mj_laws.proofs.NoteLemmas.{notes-append}
use Rattle.mj_laws.proofs.WorkerLemmas.{is-pair}

-- ---- tickets

-- no ticket is given back where none is held
held-client : (n : ℕ) (held : List Held) (request : Request) → AllByRecursion (λ h. is_of_client h.request.origin ≡ true) held → held_by n held ≡ Some request → is_of_client request.origin ≡ true
held-client n [] request all is = absurd (cc is)
held-client n (h ∷ held) request all is = by (h.worker == n) is (held-client n held request all.1)
  where
    same-some : (x y : Request) → Some x ≡ Some y → x ≡ y
    same-some x y e = cc e

    by : (b : Bool) → option_map (λ x. x.request) (cond {A = Option Held} b (Some h) (find (λ x. x.worker == n) held)) ≡ Some request
        → (held_by n held ≡ Some request → is_of_client request.origin ≡ true) → is_of_client request.origin ≡ true
    by true is rest = ap (λ (r : Request). is_of_client r.origin) (sym (same-some h.request request is)) ∙ all.0
    by false is rest = rest is

pub none-back : (told : Told) (n : ℕ) (held : List Held) (queue : List Request) → AllByRecursion (λ h. is_of_client h.request.origin ≡ true) held → given_back told (held_by n held) queue ≡ queue
none-back told n held queue all = by (held_by n held) refl
  where
    client : (r : Request) (o : Origin) → is_of_client o ≡ true → cond {A = List Request} (comes_back told o) (queue ++ r ∷ []) queue ≡ queue
    client r (origins.Client q) is = refl
    client r (origins.Ticket q) is = absurd (cc is)

    by : (o : Option Request) → held_by n held ≡ o → given_back told o queue ≡ queue
    by None is = refl
    by (Some r) is = client r r.origin (held-client n held r all is)

none-left : (n : ℕ) (told : Told) (s : State) → HasNoTickets s → HasNoTickets (left n told s)
none-left n told s none = record {
  queue = subst (AllByRecursion (λ (r : Request). is_of_client r.origin ≡ true)) (sym (none-back told n s.held (without_client n s.queue) none.held)) (all-filter _ _ s.queue none.queue);
  held = all-filter _ _ s.held none.held;
}

-- a pair's request is a client's
pair-client : (p : Pair) (s : State) (n : ℕ) → HasNoTickets s → pair s.waiting s.queue ≡ Some p → p.request.origin ≡ origins.Ticket n → ⊥
pair-client p s n none is of =
    let first = all-first _ (has_waiter s.waiting) s.queue p.request p.requests (is-pair s.waiting s.queue p is).asked none.queue in
    let ticket : is_of_client p.request.origin ≡ false = ap is_of_client of in
    cc (first.0, ticket)

none-given : (p : Pair) (s : State) → HasNoTickets s → pair s.waiting s.queue ≡ Some p → AllByRecursion (λ h. is_of_client h.request.origin ≡ true) (s.held ++ held_by_pair p ∷ [])
    × AllByRecursion (λ r. is_of_client r.origin ≡ true) p.requests
none-given p s none is =
    let first = all-first _ (has_waiter s.waiting) s.queue p.request p.requests (is-pair s.waiting s.queue p is).asked none.queue in
    (all-append _ s.held (held_by_pair p ∷ []) none.held (first.0, tt), first.1)

-- ---- acts

-- nothing was kept by what began at w0
pub record IsIdle (w0 : Whole) (d : Doing Whole Out) : Type 0 where
  pub store : d.0.store ≡ no_store
  pub tickets : HasNoTickets d.0.routing
  pub acts : d.0.acts ≡ w0.acts
  pub notes : d.0.notes ≡ w0.notes
  pub silent : notes_in d.1 ≡ []

unknown : (store : Store) (id : List ℕ) (ticket : Ticket (List (List ℕ))) → store ≡ no_store → known id (tickets_of store) ≡ Some ticket → ⊥
unknown store id ticket is found = let none = ap (λ (x : Store). known id (tickets_of x)) (sym is) ∙ found in cc none

not-pending : (store : Store) (n : ℕ) → store ≡ no_store → pends n (tickets_of store) ≡ true → ⊥
not-pending store n is pending = let none = ap (λ (x : Store). pends n (tickets_of x)) (sym is) ∙ pending in cc none

pub not-shut : (store : Store) (doubt : Option TicketCmd) → store ≡ no_store → store.access ≡ Shut doubt → ⊥
not-shut store doubt is shut = let now = ap (λ (x : Store). x.access) (sym is) ∙ shut in cc now

pub not-stored : (store : Store) → store ≡ no_store → store.stored ≡ true → ⊥
not-stored store is stored = let now = ap (λ (x : Store). x.stored) (sym is) ∙ stored in cc now

module _ (cause : Cause) (w0 : Whole) where
  not-made : (cmd : TicketCmd) (w : Whole) → w.store ≡ no_store → IsMade cmd w → ⊥
  not-made cmd w is (Accepting service body cmd_is stored room) = not-stored w.store is stored
  not-made cmd w is (Storing number body cmd_is pending) = not-pending w.store number is pending
  not-made cmd w is (Closing ticket id cmd_is found) = unknown w.store id ticket is found

  no-doubt : (doubt : Option TicketCmd) (w : Whole) → w.store ≡ no_store → IsDoubt doubt w → ⊥
  no-doubt doubt w is (NoDoubt ticket id none usable found) = unknown w.store id ticket is found
  no-doubt doubt w is (Tried cmd some usable made) = not-made cmd w is made
  no-doubt doubt w is (Remains shut) = not-shut w.store doubt is shut

  not-read : (w : Whole) → w.store ≡ no_store → HasNoTickets w.routing → IsRead cause w → ⊥
  not-read w is none (ReadsReply ticket id usable found) = unknown w.store id ticket is found
  not-read w is none (ReadsTicket p number by found origin) = pair-client p w.routing number none found origin

  -- only what is routed changes, and only pieces and ends are added
  idle-routed : (w : Whole) (o more : List Out) (s : State) → IsIdle w0 (w, o) → HasNoTickets s → notes_in more ≡ [] → IsIdle w0 (record w { routing = s }, o ++ more)
  idle-routed w o more s p none silent = record {
    store = p.store;
    tickets = none;
    acts = p.acts;
    notes = p.notes;
    silent = notes-append o more ∙ ap (λ (xs : List AnyNote). xs ++ notes_in more) p.silent ∙ silent;
  }

  idle-state : (w : Whole) (o : List Out) (s : State) → IsIdle w0 (w, o) → HasNoTickets s → IsIdle w0 (record w { routing = s }, o)
  idle-state w o s p none = record { store = p.store; tickets = none; acts = p.acts; notes = p.notes; silent = p.silent }

  same-tickets : (s t : State) → HasNoTickets s → t.queue ≡ s.queue → t.held ≡ s.held → HasNoTickets t
  same-tickets s t none queue held = record {
    queue = subst (AllByRecursion (λ (r : Request). is_of_client r.origin ≡ true)) (sym queue) none.queue;
    held = subst (AllByRecursion (λ (h : Held). is_of_client h.request.origin ≡ true)) (sym held) none.held;
  }

  pub idle-carried : IsCarried cause w0 (IsIdle w0)
  idle-carried = record {
    marked = λ n w o p. idle-state w o _ p (same-tickets w.routing _ p.tickets refl refl);
    sends = λ n piece c w o why is slow p. idle-routed w o _ _ p (same-tickets w.routing _ p.tickets refl refl) refl;
    reported = λ n w o p. idle-state w o _ p (same-tickets w.routing _ p.tickets refl refl);
    removes = λ n w o p. idle-state w o _ p (same-tickets (left n (told_by w.store) w.routing) _ (none-left n (told_by w.store) w.routing p.tickets) refl refl);
    ends = λ lane n reason at w o p. idle-routed w o _ _ p (same-tickets (left n (told_by w.store) w.routing) _ (none-left n (told_by w.store) w.routing p.tickets) refl refl) refl;
    gone = λ n w o p. idle-state w o _ p (same-tickets (left n (told_by w.store) w.routing) _ (none-left n (told_by w.store) w.routing p.tickets) refl refl);
    expired = λ n w o is p. idle-state w o _ p (same-tickets (left n (told_by w.store) w.routing) _ (none-left n (told_by w.store) w.routing p.tickets) refl refl);
    asking = λ n c o is plain p. idle-state w0 o _ p (same-tickets w0.routing _ p.tickets refl refl);
    queued = λ n c message request o told is origin p. record {
      store = p.store;
      tickets = record { queue = all-append _ w0.routing.queue (request ∷ []) p.tickets.queue (ap is_of_client origin, tt); held = p.tickets.held };
      acts = p.acts;
      notes = p.notes;
      silent = p.silent;
    };
    registers = λ n c message voice service o told is fresh p. idle-state w0 o _ p (record { queue = p.tickets.queue; held = all-filter _ _ w0.routing.held p.tickets.held });
    rested = λ n service w o final serves nothing p. idle-state w o _ p (record { queue = p.tickets.queue; held = all-filter _ _ w.routing.held p.tickets.held });
    given = λ q w o is found same p. let both = none-given q w.routing p.tickets found in idle-state w o _ p (record { queue = both.1; held = both.0 });
    opens = λ lane o is p. idle-state w0 o _ p (same-tickets w0.routing _ p.tickets refl refl);
    time = λ ms w o p. idle-state w o _ p (same-tickets w.routing _ p.tickets refl refl);
    counts = λ w o read works p. absurd (not-read w p.store p.tickets read);
    shuts = λ doubt w o in_doubt fault only p. absurd (no-doubt doubt w p.store in_doubt);
    reopens = λ doubt w o shut works only p. absurd (not-shut w.store doubt p.store shut);
    accepts = λ service body w o usable stored room works only p. absurd (not-stored w.store p.store stored);
    stores = λ n number body w o usable pending holds works only p. absurd (not-pending w.store number p.store pending);
    closes = λ ticket id w o usable found works only p. absurd (unknown w.store id ticket p.store found);
    passes = λ q number is found origin fault p. absurd (pair-client q w0.routing number p.tickets found origin);
  }

pub idle-acts : (cause : Cause) (w : Whole) → IsAllowed cause w.routing → IsStoreless w.routing w.store → IsIdle w (acts cause w)
idle-acts cause w allowed p =
    walk-acts cause w (IsIdle w) (idle-carried cause w) allowed (record { store = p.0; tickets = p.1; acts = refl; notes = refl; silent = refl })

-- ---- runs

idle-one : (cause : Cause) (w : Whole) → IsAllowed cause w.routing → MayBegin AnyLane cause w.routing → Of IsStoreless w
    → StaysStoreless (step_of cause w (acts cause w)) × Of IsStoreless (acts cause w).0
idle-one cause w allowed free p = let now = idle-acts cause w allowed p in ((p, (now.store, now.tickets), now.silent), (now.store, now.tickets))

pub idle-walked : IsWalked AnyLane (Of IsStoreless) (Of IsStoreless) StaysStoreless
idle-walked = walked-by AnyLane (Of IsStoreless) StaysStoreless idle-one

pub storeless-start : (limits : Limits) → IsStoreless (start limits).state (start limits).store
storeless-start limits = (refl, record { queue = tt; held = tt })

pub storeless-run : (limits : Limits) (m : Machine) (events : List Noted) → IsStoreless m.state m.store
    → AllByRecursion StaysStoreless (run_steps limits m events) × IsStoreless (run_state limits m events).state (run_state limits m events).store
storeless-run limits m events p = stays-run AnyLane IsStoreless (Of IsStoreless) StaysStoreless idle-walked (λ s store q lane. tt) limits m events p

pub nothing_is_kept : (limits : Limits) (events : List Noted) → AllByRecursion StaysStoreless (run_steps limits (start limits) events)
    × IsStoreless (run_state limits (start limits) events).state (run_state limits (start limits) events).store
nothing_is_kept limits events = storeless-run limits (start limits) events (storeless-start limits)
