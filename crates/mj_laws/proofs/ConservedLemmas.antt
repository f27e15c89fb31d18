-- Tickets are conserved: each pending one stands once in the queue and with the workers.
use Rattle.std.proofs.Common.{◌≡◌, ◌≤◌, ◌<◌, ◌+◌, ◌==◌, ◌^◌, ◌&&◌, ℕ, Bool, true, false, not, map, List, [], ◌∷◌, ◌++◌, Option, None, Some, refl, sym, ap, subst, ◌∙◌, inl, inr, arith, append-nil}
use Rattle.std.specs.Prelude.{option_and_then}
use Rattle.std.specs.List.{AllByRecursion, filter}
use Rattle.std.proofs.lemmas.Bool.Decides.{eqb_tells}
use Rattle.mj_base.specs.declared.limits.Limits.{Limits}
use Rattle.mj_ids.specs.Ids.{id_of, number_of}
use Rattle.mj_ids.proofs.NumberLemmas.{number-id_of}
use Rattle.mj_queue.specs.Settling.{Pair, has_waiter, is_of_client, is_ticket, pair, serves, without_client, without_ticket}
use Rattle.mj_queue.specs.declared.request.Origin.{Origin}
use Rattle.mj_queue.specs.declared.request.Origin.TheVariants as origins
use Rattle.mj_queue.specs.declared.request.Request.{Request}
use Rattle.mj_queue.specs.declared.worker.Waiter.{Waiter}
use Rattle.mj_tickets.specs.declared.command.TicketCmd.{TicketCmd}
use Rattle.mj_tickets.specs.declared.command.TicketCmd.TheVariants as cmds
use Rattle.mj_tickets.specs.Payload.{body_of}
use Rattle.mj_tickets.specs.Fold.{Fold, RisesTo, Ticket, accepted, applied, closed, number_in, fold_of, known, stored, ticket_of}
use Rattle.mj_tickets.proofs.FoldLemmas.{new_ticket}
use Rattle.mj_machine.specs.declared.held.Held.{Held}
use Rattle.mj_machine.specs.StoreState.{Access, IsShut, Open, Shut, Store, doubted, holds_ticket, opened_store, pends, pends_while, ticket_request, tickets_of, told_by, usable, waiting_tickets}
use Rattle.mj_machine.specs.MachineState.{Machine, State, Whole, start_with}
use Rattle.mj_machine.specs.Connections.{connection_of, service_in, service_of}
use Rattle.mj_machine.specs.Leaving.{given_back, held_by, held_without, left}
use Rattle.mj_machine.specs.DiskActs.{finds, found_in, reopened}
use Rattle.mj_machine.specs.Pairing.{held_by_pair}
use Rattle.mj_machine.specs.TitanicStep.{is_full}
use Rattle.mj_machine.specs.EventStep.{Noted}
use Rattle.mj_machine.specs.MachineRun.{run_state}
use Rattle.mj_machine.specs.Steps.{Cause, lists_at, lists_in, run_steps, Step}
use Rattle.mj_machine.proofs.Changes.{IsCarried, IsHeldBy, accepts_next, kept-carried}
use Rattle.mj_machine.proofs.ListLemmas.{all-append, all-map}
use Rattle.mj_machine.proofs.StepWalk.{AnyLane, Of, stays-run, walked-kept}
use Rattle.mj_laws.specs.Kept.{GoesFrom, IsLawfulList, IsOpenable, ListsAreLawful}
use Rattle.mj_laws.specs.Soundness.{WorkersStandOnce, holdings, one_if, places}
use Rattle.mj_laws.specs.Tickets.{TicketsAreConserved, TicketsStandOnce, queuings, ticket_holdings}
use Rattle.mj_laws.proofs.CommandLemmas.{later-stores}
use Rattle.mj_laws.proofs.CountLemmas.{times-append, times-first}
use Rattle.mj_laws.proofs.FileLemmas.{IsFiled, accept-applies, filed-again, filed-more, filed-numbered, filed-plain, filed-shut, known-numbered, next-small, tickets-are}
use Rattle.mj_laws.proofs.PendingLemmas.{accepted-next, accepted-pends, closed-others, closed-pends, later-pends, next-grows, stored-others}
use Rattle.mj_laws.proofs.TicketCounts.{gives-back, held-released, held-same, is_it, none-held, not-back, one_at_most, queue-clients, queue-dropped, queue-other, queue-without, some-held, waiting-once}
use Rattle.mj_laws.proofs.WorkerLemmas.{is-pair, once-kept, places-few}
use Rattle.mj_machine.proofs.ConnectionLemmas.{differs, equal}
use Rattle.mj_machine.proofs.FoldLemmas.{Bodies, close-applies, fold-append, fold-more, store-applies, stored-pends}
use Rattle.mj_tickets.specs.Laws.{AreNumbered}

-- ---- the counts

-- of each ticket: how often it is queued and held together; while the store is open only pending ones are queued, and each
-- pending one is queued or held; while it is shut none is queued; and none of a later number stands anywhere
pub record Counted (store : Store) (queue : List Request) (held : List Held) : Type 0 where
  pub few : (k : ℕ) → queuings k queue + ticket_holdings k held ≤ 1
  pub queued : store.access ≡ usable → (k : ℕ) → queuings k queue ≤ one_if (pends k (tickets_of store))
  pub stands : store.access ≡ usable → (k : ℕ) → one_if (pends k (tickets_of store)) ≤ queuings k queue + ticket_holdings k held
  pub shut : IsShut store.access → (k : ℕ) → queuings k queue ≡ 0
  pub later : (k : ℕ) → (tickets_of store).next ≤ k → queuings k queue + ticket_holdings k held ≡ 0

-- the same counts
counted-same : (store : Store) (queue more : List Request) (held others : List Held) → Counted store queue held → ((k : ℕ) → queuings k more ≡ queuings k queue)
    → ((k : ℕ) → ticket_holdings k others ≡ ticket_holdings k held) → Counted store more others
counted-same store queue more held others p q h = record {
  few = λ k. let a = p.few k in let b = q k in let c = h k in omega (arith, a, b, c);
  queued = λ ready k. let a = p.queued ready k in let b = q k in omega (arith, a, b);
  stands = λ ready k. let a = p.stands ready k in let b = q k in let c = h k in omega (arith, a, b, c);
  shut = λ off k. q k ∙ p.shut off k;
  later = λ k past. let a = p.later k past in let b = q k in let c = h k in omega (arith, a, b, c);
}

-- what an open store tells
told-open : (store : Store) (k : ℕ) → store.access ≡ usable → (told_by store).pends k ≡ pends k (tickets_of store)
told-open store k ready = ap (λ (a : Access). pends_while a (tickets_of store) k) ready

told-shut : (store : Store) (k : ℕ) → IsShut store.access → one_if ((told_by store).pends k) ≡ 0
told-shut store k = by store.access
  where
    by : (a : Access) → IsShut a → one_if (pends_while a (tickets_of store) k) ≡ 0
    by Open off = absurd off
    by (Shut doubt) off = refl

-- whoever leaves gives its ticket back, or not
counted-left : (n : ℕ) (store : Store) (queue : List Request) (held : List Held) → holdings n held ≤ 1 → Counted store queue held
    → Counted store (given_back (told_by store) (held_by n held) (without_client n queue)) (held_without n held)
counted-left n store queue held one p =
    let told = told_by store in
    let back = λ (k : ℕ). gives-back told k (held_by n held) (without_client n queue) in
    record {
      few = λ k.
          let a = p.few k in let b = queue-without n k queue in let c = held-released n k held one in
          let g = back k in let is = g.queue_is in let less = g.no_more in
          omega (arith, a, b, c, is, less);
      queued = λ ready k.
          let a = p.few k in let low = p.queued ready k in let b = queue-without n k queue in let c = held-released n k held one in
          let g = back k in let is = g.queue_is in let less = g.no_more in let pending = g.pending in let tells = ap one_if (told-open store k ready) in
          let most = one_at_most (pends k (tickets_of store)) in
          omega (arith, a, low, b, c, is, less, pending, tells, most);
      stands = λ ready k.
          let a = p.stands ready k in let b = queue-without n k queue in let c = held-released n k held one in
          let g = back k in let is = g.queue_is in let all = g.all in let tells = ap one_if (told-open store k ready) in let most = one_at_most (pends k (tickets_of store)) in
          omega (arith, a, b, c, is, all, tells, most);
      shut = λ off k.
          let a = p.shut off k in let b = queue-without n k queue in
          let g = back k in let is = g.queue_is in let pending = g.pending in let tells = told-shut store k off in
          omega (arith, a, b, is, pending, tells);
      later = λ k past.
          let a = p.later k past in let b = queue-without n k queue in let c = held-released n k held one in
          let g = back k in let is = g.queue_is in let less = g.no_more in
          omega (arith, a, b, c, is, less);
    }

-- a worker gives up what isn't pending
counted-rested : (n : ℕ) (store : Store) (queue : List Request) (held : List Held) → holdings n held ≤ 1 → ((k : ℕ) → is_it k (held_by n held) + one_if ((told_by store).pends k) ≤ 1)
    → Counted store queue held → Counted store queue (held_without n held)
counted-rested n store queue held one none p = record {
  few = λ k. let a = p.few k in let c = held-released n k held one in omega (arith, a, c);
  queued = λ ready k. p.queued ready k;
  stands = λ ready k.
      let a = p.stands ready k in let low = p.few k in let c = held-released n k held one in let nothing = none k in let tells = ap one_if (told-open store k ready) in
      let most = one_at_most (pends k (tickets_of store)) in
      omega (arith, a, low, c, nothing, tells, most);
  shut = λ off k. p.shut off k;
  later = λ k past. let a = p.later k past in let c = held-released n k held one in omega (arith, a, c);
}

-- a pair's request goes from the queue to its worker
counted-given : (p : Pair) (s : State) (store : Store) → pair s.waiting s.queue ≡ Some p → Counted store s.queue s.held → Counted store p.requests (s.held ++ held_by_pair p ∷ [])
counted-given p s store is c =
    let asked = (is-pair s.waiting s.queue p is).asked in
    let q = λ (k : ℕ). times-first (λ (r : Request). is_ticket k r.origin) (has_waiter s.waiting) s.queue p.request p.requests asked in
    let h = λ (k : ℕ). times-append (λ (x : Held). is_ticket k x.request.origin) s.held (held_by_pair p ∷ []) in
    record {
      few = λ k. let a = c.few k in let b = q k in let d = h k in omega (arith, a, b, d);
      queued = λ ready k. let a = c.queued ready k in let b = q k in omega (arith, a, b);
      stands = λ ready k. let a = c.stands ready k in let b = q k in let d = h k in omega (arith, a, b, d);
      shut = λ off k. let a = c.shut off k in let b = q k in omega (arith, a, b);
      later = λ k past. let a = c.later k past in let b = q k in let d = h k in omega (arith, a, b, d);
    }

-- ---- changes of the store

not-shut : (store : Store) → store.access ≡ usable → IsShut store.access → ⊥
not-shut store ready off = subst IsShut ready off

counted-shut : (store : Store) (doubt : Option TicketCmd) (queue : List Request) (held : List Held) → Counted store queue held
    → Counted (record store { access = Shut doubt }) (filter (λ r. is_of_client r.origin) queue) held
counted-shut store doubt queue held p = record {
  few = λ k. let a = p.few k in let b = queue-clients k queue in omega (arith, a, b);
  queued = λ ready k. absurd (cc ready);
  stands = λ ready k. absurd (cc ready);
  shut = λ off k. queue-clients k queue;
  later = λ k past. let a = p.later k past in let b = queue-clients k queue in omega (arith, a, b);
}

-- the tickets that wait, where none was queued
counted-queued : (store : Store) (filed : IsFiled store) (queue : List Request) (held : List Held) → store.access ≡ usable → ((k : ℕ) → queuings k queue ≡ 0)
    → ((k : ℕ) → ticket_holdings k held ≤ 1) → ((k : ℕ) → (tickets_of store).next ≤ k → ticket_holdings k held ≡ 0)
    → Counted store (queue ++ waiting_tickets held (tickets_of store)) held
counted-queued store filed queue held ready none once later = record {
  few = λ k. let q = now k in let h = once k in let cases = both k in omega (arith, q, h, cases.0, cases.1);
  queued = λ open_now k. let q = now k in let cases = both k in omega (arith, q, cases.2);
  stands = λ open_now k. let q = now k in let cases = both k in omega (arith, q, cases.1, cases.3);
  shut = λ off k. absurd (not-shut store ready off);
  later = λ k past.
      let q = now k in let h = later k past in let cases = both k in
      let tells : one_if (pends k (tickets_of store)) ≡ 0 = ap one_if (ap (λ (f : Fold Bodies). pends k f) (tickets-are store filed.fold filed.is) ∙ later-pends k filed.fold numbers (subst (λ (f : Fold Bodies). f.next ≤ k) (tickets-are store filed.fold filed.is) past)) in
      omega (arith, q, h, cases.2, tells);
}
  where
    numbers : AreNumbered filed.fold
    numbers = filed-numbered store filed

    now : (k : ℕ) → queuings k (queue ++ waiting_tickets held (tickets_of store)) ≡ one_if (pends k (tickets_of store) && not (holds_ticket held k))
    now k =
        let parts = times-append (λ (r : Request). is_ticket k r.origin) queue (waiting_tickets held (tickets_of store)) in
        let was = none k in
        let rise = subst (λ (f : Fold Bodies). RisesTo 0 (map number_in f.tickets) f.highest) (sym (tickets-are store filed.fold filed.is)) numbers.rise in
        let some = waiting-once held k 0 (tickets_of store).tickets (tickets_of store).highest rise in
        omega (arith, parts, was, some)

    both : (k : ℕ) → (one_if (pends k (tickets_of store) && not (holds_ticket held k)) + ticket_holdings k held ≤ 1)
        × (one_if (pends k (tickets_of store)) ≤ one_if (pends k (tickets_of store) && not (holds_ticket held k)) + ticket_holdings k held)
        × (one_if (pends k (tickets_of store) && not (holds_ticket held k)) ≤ one_if (pends k (tickets_of store)))
        × (one_if (pends k (tickets_of store)) ≤ 1)
    both k = of (pends k (tickets_of store)) (holds_ticket held k) refl
      where
        of : (p h : Bool) → holds_ticket held k ≡ h
            → (one_if (p && not h) + ticket_holdings k held ≤ 1) × (one_if p ≤ one_if (p && not h) + ticket_holdings k held) × (one_if (p && not h) ≤ one_if p) × (one_if p ≤ 1)
        of true true is = let some = some-held k held is in let few = once k in (omega (arith, few), omega (arith, some), omega arith, omega arith)
        of true false is = let zero_held = none-held k held is in (omega (arith, zero_held), omega arith, omega arith, omega arith)
        of false true is = let few = once k in (omega (arith, few), omega arith, omega arith, omega arith)
        of false false is = let few = once k in (omega (arith, few), omega arith, omega arith, omega arith)

-- one command more in the file of an open store, behind which the next number is at least what it was
more-tickets : (store : Store) (filed : IsFiled store) (cmd : TicketCmd) (after : Fold Bodies) → applied cmd (body_of cmd) filed.fold ≡ Some after
    → tickets_of (record store { commands = store.commands ++ cmd ∷ [] }) ≡ after
more-tickets store filed cmd after applies =
    tickets-are (record store { commands = store.commands ++ cmd ∷ [] }) after (fold-more store.base store.commands cmd filed.fold after filed.is applies)

module _ (store : Store) (filed : IsFiled store) (queue : List Request) (held : List Held) (ready : store.access ≡ usable) (p : Counted store queue held) where
  tickets : tickets_of store ≡ filed.fold
  tickets = tickets-are store filed.fold filed.is

  -- which of them pend
  pending-are : (k : ℕ) → one_if (pends k (tickets_of store)) ≡ one_if (pends k filed.fold)
  pending-are k = ap (λ (f : Fold Bodies). one_if (pends k f)) tickets

  counted-accepted : (id service : List ℕ) (body : Bodies) → number_of id ≡ filed.fold.next
      → Counted (record store { commands = store.commands ++ cmds.Accept id service body ∷ [] }) (queue ++ ticket_request (tickets_of store).next service ∷ []) held
  counted-accepted id service body number = record {
    few = λ k. let a = p.few k in let b = q k in let c = at k in omega (arith, a, b, c);
    queued = λ open_now k. let a = p.queued ready k in let b = q k in let c = pending k in omega (arith, a, b, c);
    stands = λ open_now k. let a = p.stands ready k in let b = q k in let c = pending k in omega (arith, a, b, c);
    shut = λ off k. absurd (not-shut store ready off);
    later = λ k past. let b = q k in let c = behind k (subst (λ (f : Fold Bodies). f.next ≤ k) after past) in omega (arith, b, c.0, c.1);
  }
    where
      same : (tickets_of store).next ≡ filed.fold.next
      same = ap (λ (f : Fold Bodies). f.next) tickets

      after : tickets_of (record store { commands = store.commands ++ cmds.Accept id service body ∷ [] }) ≡ accepted (new_ticket id service body) filed.fold
      after = more-tickets store filed (cmds.Accept id service body) (accepted (new_ticket id service body) filed.fold) (accept-applies id service body filed.fold (filed-numbered store filed) number)

      q : (k : ℕ) → queuings k (queue ++ ticket_request (tickets_of store).next service ∷ []) ≡ queuings k queue + one_if ((tickets_of store).next == k)
      q k = let parts = times-append (λ (r : Request). is_ticket k r.origin) queue (ticket_request (tickets_of store).next service ∷ []) in omega (arith, parts)

      pending : (k : ℕ) → one_if (pends k (tickets_of (record store { commands = store.commands ++ cmds.Accept id service body ∷ [] }))) ≡ one_if (pends k (tickets_of store)) + one_if ((tickets_of store).next == k)
      pending k =
          let now = ap (λ (f : Fold Bodies). one_if (pends k f)) after in
          let more = accepted-pends k id service body filed.fold (filed-numbered store filed) number in
          let was = pending-are k in
          let it = ap (λ (n : ℕ). one_if (n == k)) same in
          omega (arith, now, more, was, it)

      -- the next number stood nowhere
      at : (k : ℕ) → queuings k queue + ticket_holdings k held + one_if ((tickets_of store).next == k) ≤ 1
      at k =
          elim (eqb_tells (tickets_of store).next k) [
            | inl here ↦ (let its = here.1 in let none = p.later k (omega (arith, its)) in let one = one_at_most ((tickets_of store).next == k) in omega (arith, none, one))
            | inr other ↦ (let few = p.few k in let zero_if = ap one_if other.0 in omega (arith, few, zero_if))
          ]

      behind : (k : ℕ) → (accepted (new_ticket id service body) filed.fold).next ≤ k → (queuings k queue + ticket_holdings k held ≡ 0) × (one_if ((tickets_of store).next == k) ≡ 0)
      behind k past =
          let rises = accepted-next id service body filed.fold number in
          (p.later k (omega (arith, past, rises, same)), ap one_if (differs (tickets_of store).next k (λ it. omega (arith, past, rises, same, it))))

  counted-stored : (number : ℕ) (body : Bodies) → pends number (tickets_of store) ≡ true → 1 ≤ ticket_holdings number held
      → Counted (record store { commands = store.commands ++ cmds.Store number body ∷ [] }) queue held
  counted-stored number body pends_now holds = record {
    few = λ k. p.few k;
    queued = λ open_now k. (at k).0;
    stands = λ open_now k. (at k).1;
    shut = λ off k. absurd (not-shut store ready off);
    later = λ k past. p.later k (subst (λ (f : Fold Bodies). f.next ≤ k) (sym tickets) (subst (λ (f : Fold Bodies). f.next ≤ k) after past));
  }
    where
      after : tickets_of (record store { commands = store.commands ++ cmds.Store number body ∷ [] }) ≡ stored number body filed.fold
      after = more-tickets store filed (cmds.Store number body) (stored number body filed.fold) (store-applies number body filed.fold (subst (λ (f : Fold Bodies). pends number f ≡ true) tickets pends_now))

      at : (k : ℕ) → (queuings k queue ≤ one_if (pends k (tickets_of (record store { commands = store.commands ++ cmds.Store number body ∷ [] }))))
          × (one_if (pends k (tickets_of (record store { commands = store.commands ++ cmds.Store number body ∷ [] }))) ≤ queuings k queue + ticket_holdings k held)
      at k =
          let now = ap (λ (f : Fold Bodies). one_if (pends k f)) after in
          let few = p.few k in
          elim (eqb_tells number k) [
            | inl here ↦ (
                let none = ap one_if (subst (λ (x : ℕ). pends x (stored number body filed.fold) ≡ false) here.1 (stored-pends number body filed.fold)) in
                let some = subst (λ (x : ℕ). 1 ≤ ticket_holdings x held) here.1 holds in
                (omega (arith, few, some), omega (arith, now, none))
                )
            | inr other ↦ (
                let same = ap one_if (stored-others number k body filed.fold other.1) in
                let was = pending-are k in
                let low = p.queued ready k in
                let high = p.stands ready k in
                (omega (arith, now, same, was, low), omega (arith, now, same, was, high))
                )
          ]

  counted-closed : (ticket : Ticket Bodies) → ticket_of ticket.number filed.fold ≡ Some ticket
      → Counted (record store { commands = store.commands ++ cmds.Close ticket.number ∷ [] }) (without_ticket ticket.number queue) held
  counted-closed ticket there = record {
    few = λ k. let few = p.few k in let less = fewer k in omega (arith, few, less);
    queued = λ open_now k. (at k).0;
    stands = λ open_now k. (at k).1;
    shut = λ off k. absurd (not-shut store ready off);
    later = λ k past.
        let none = p.later k (subst (λ (f : Fold Bodies). f.next ≤ k) (sym tickets) (subst (λ (f : Fold Bodies). f.next ≤ k) after past)) in
        let less = fewer k in
        omega (arith, none, less);
  }
    where
      number : ℕ
      number = ticket.number

      after : tickets_of (record store { commands = store.commands ++ cmds.Close ticket.number ∷ [] }) ≡ closed ticket.number filed.fold
      after = more-tickets store filed (cmds.Close ticket.number) (closed ticket.number filed.fold) (close-applies ticket.number ticket filed.fold there)

      fewer : (k : ℕ) → queuings k (without_ticket ticket.number queue) ≤ queuings k queue
      fewer k =
          elim (eqb_tells ticket.number k) [
            | inl here ↦ (let none = subst (λ (x : ℕ). queuings x (without_ticket ticket.number queue) ≡ 0) here.1 (queue-dropped ticket.number queue) in omega (arith, none))
            | inr other ↦ (let same = queue-other ticket.number k queue other.1 in omega (arith, same))
          ]

      at : (k : ℕ) → (queuings k (without_ticket ticket.number queue) ≤ one_if (pends k (tickets_of (record store { commands = store.commands ++ cmds.Close ticket.number ∷ [] }))))
          × (one_if (pends k (tickets_of (record store { commands = store.commands ++ cmds.Close ticket.number ∷ [] }))) ≤ queuings k (without_ticket ticket.number queue) + ticket_holdings k held)
      at k =
          let now = ap (λ (f : Fold Bodies). one_if (pends k f)) after in
          elim (eqb_tells ticket.number k) [
            | inl here ↦ (
                let none = ap one_if (subst (λ (x : ℕ). pends x (closed ticket.number filed.fold) ≡ false) here.1 (closed-pends ticket.number filed.fold)) in
                let gone = subst (λ (x : ℕ). queuings x (without_ticket ticket.number queue) ≡ 0) here.1 (queue-dropped ticket.number queue) in
                (omega (arith, gone), omega (arith, now, none))
                )
            | inr other ↦ (
                let same = ap one_if (closed-others ticket.number k filed.fold other.1) in
                let queued = queue-other ticket.number k queue other.1 in
                let was = pending-are k in
                let low = p.queued ready k in
                let high = p.stands ready k in
                (omega (arith, now, same, was, low, queued), omega (arith, now, same, was, high, queued))
                )
          ]

-- ---- acts

-- all of it: who holds what, the file, and the counts
pub record Conserved (limits : Limits) (s : State) (store : Store) : Type 0 where
  pub once : WorkersStandOnce s
  pub limited : s.limits ≡ limits
  pub filed : IsFiled store
  pub counted : Counted store s.queue s.held

-- a worker holds one request at most
holds-few : (n : ℕ) (s : State) → WorkersStandOnce s → holdings n s.held ≤ 1
holds-few n s once = let now = once n in let few = places-few (service_of (connection_of n s.connections)) in omega (arith, now, few)

-- whoever is no worker holds nothing
idle-none : (n : ℕ) (s : State) → WorkersStandOnce s → service_of (connection_of n s.connections) ≡ None → holdings n s.held ≡ 0
idle-none n s once idle = let now = once n in let none = ap places idle in omega (arith, now, none)

-- nor does one that waits
waiter-none : (p : Pair) (s : State) → pair s.waiting s.queue ≡ Some p → WorkersStandOnce s → holdings p.waiter.worker s.held ≡ 0
waiter-none p s is once =
    let n = p.waiter.worker in
    let w = times-first (λ (x : Waiter). x.worker == n) (serves p.request.service) s.waiting p.waiter p.waiting (is-pair s.waiting s.queue p is).found in
    let one = ap one_if (equal n) in
    let now = once n in
    let few = places-few (service_of (connection_of n s.connections)) in
    omega (arith, w, one, now, few)

-- a held ticket counts
held-counts : (n number : ℕ) (s : State) → WorkersStandOnce s → IsHeldBy n number s → 1 ≤ ticket_holdings number s.held
held-counts n number s once holds =
    let released = held-released n number s.held (holds-few n s once) in
    let it : is_it number (held_by n s.held) ≡ 1 =
    ap (is_it number) holds.1 ∙ ap (λ (o : Origin). one_if (is_ticket number o)) holds.2 ∙ ap one_if (equal number) in
    omega (arith, released, it)

counted-client : (store : Store) (n : ℕ) (request : Request) (queue : List Request) (held : List Held) → request.origin ≡ origins.Client n → Counted store queue held
    → Counted store (queue ++ request ∷ []) held
counted-client store n request queue held origin p =
    counted-same store queue (queue ++ request ∷ []) held held p
    (λ k. let parts = times-append (λ (r : Request). is_ticket k r.origin) queue (request ∷ []) in let none = ap (λ (o : Origin). one_if (is_ticket k o)) origin in omega (arith, parts, none)) (λ k. refl)

module _ (limits : Limits) (sized : limits.file < 2 ^ 61) (cause : Cause) (w0 : Whole) where
  abbrev Keeps : Whole → Type 0
  Keeps w = Conserved limits w.routing w.store

  same-lists : (w : Whole) (s : State) → WorkersStandOnce s → s.limits ≡ w.routing.limits → s.queue ≡ w.routing.queue → s.held ≡ w.routing.held → Keeps w → Conserved limits s w.store
  same-lists w s once limited queue held p = record {
    once = once;
    limited = limited ∙ p.limited;
    filed = p.filed;
    counted = subst (λ (q : List Request). Counted w.store q s.held) (sym queue) (subst (λ (h : List Held). Counted w.store w.routing.queue h) (sym held) p.counted);
  }

  left-lists : (n : ℕ) (w : Whole) (s : State) → WorkersStandOnce s → s.limits ≡ w.routing.limits → s.queue ≡ (left n (told_by w.store) w.routing).queue
      → s.held ≡ (left n (told_by w.store) w.routing).held → Keeps w → Conserved limits s w.store
  left-lists n w s once limited queue held p =
      let counted = counted-left n w.store w.routing.queue w.routing.held (holds-few n w.routing p.once) p.counted in record {
        once = once;
        limited = limited ∙ p.limited;
        filed = p.filed;
        counted = subst (λ (q : List Request). Counted w.store q s.held) (sym queue)
            (subst (λ (h : List Held). Counted w.store (left n (told_by w.store) w.routing).queue h) (sym held) counted);
      }

  conserved-carried : IsCarried cause w0 (λ d. Keeps d.0)
  conserved-carried =
      let once = kept-carried cause w0 WorkersStandOnce (once-kept cause w0.routing) in record {
        marked = λ n w o p. same-lists w _ (once.marked n w o p.once) refl refl refl p;
        sends = λ n piece c w o why is slow p. same-lists w _ (once.sends n piece c w o why is slow p.once) refl refl refl p;
        reported = λ n w o p. same-lists w _ (once.reported n w o p.once) refl refl refl p;
        removes = λ n w o p. left-lists n w _ (once.removes n w o p.once) refl refl refl p;
        ends = λ lane n reason at w o p. left-lists n w _ (once.ends lane n reason at w o p.once) refl refl refl p;
        gone = λ n w o p. left-lists n w _ (once.gone n w o p.once) refl refl refl p;
        expired = λ n w o is p. left-lists n w _ (once.expired n w o is p.once) refl refl refl p;
        asking = λ n c o is plain p. same-lists w0 _ (once.asking n c o is plain p.once) refl refl refl p;
        queued = λ n c message request o told is origin p. record {
          once = once.queued n c message request o told is origin p.once;
          limited = p.limited;
          filed = p.filed;
          counted = counted-client w0.store n request w0.routing.queue w0.routing.held origin p.counted;
        };
        registers = λ n c message voice service o told is fresh p. record {
          once = once.registers n c message voice service o told is fresh p.once;
          limited = p.limited;
          filed = p.filed;
          counted = counted-same w0.store w0.routing.queue w0.routing.queue w0.routing.held (held_without n w0.routing.held) p.counted (λ k. refl)
              (λ k. held-same n k w0.routing.held (idle-none n w0.routing p.once (ap service_of is ∙ ap service_in fresh)));
        };
        rested = λ n service w o final serves nothing p. record {
          once = once.rested n service w o final serves nothing p.once;
          limited = p.limited;
          filed = p.filed;
          counted = counted-rested n w.store w.routing.queue w.routing.held (holds-few n w.routing p.once)
              (λ k. not-back (told_by w.store) k (held_by n w.routing.held) nothing) p.counted;
        };
        given = λ q w o by is same p. record {
          once = once.given q w o by is same p.once;
          limited = p.limited;
          filed = p.filed;
          counted = counted-given q w.routing w.store is p.counted;
        };
        opens = λ lane o is p. same-lists w0 _ (once.opens lane o is p.once) refl refl refl p;
        time = λ ms w o p. same-lists w _ (once.time ms w o p.once) refl refl refl p;
        counts = λ w o read works p. p;
        shuts = λ doubt w o in_doubt fault only p. record {
          once = p.once;
          limited = p.limited;
          filed = filed-shut limits doubt w p.limited sized in_doubt p.filed;
          counted = counted-shut w.store doubt w.routing.queue w.routing.held p.counted;
        };
        reopens = λ doubt w o was works only p.
            let filed = filed-again (finds w) doubt w.store was p.filed in
            let store = reopened (found_in (finds w) doubt) w.store in record {
              once = p.once;
              limited = p.limited;
              filed = filed;
              counted = counted-queued store filed w.routing.queue w.routing.held refl (λ k. p.counted.shut (subst IsShut (sym was) tt) k)
                  (λ k. let few = p.counted.few k in omega (arith, few))
                  (λ k past. let none = p.counted.later k (grown w doubt p.filed filed k past) in omega (arith, none));
            };
        accepts = λ service body w o ready stored room works only p.
            let number = numbered-next w p service body room in record {
              once = p.once;
              limited = p.limited;
              filed = filed-more (accepts_next service body w) w.store _ p.filed ready (accept-applies (id_of w.store.seed (tickets_of w.store).next) service body p.filed.fold (filed-numbered w.store p.filed) number);
              counted = counted-accepted w.store p.filed w.routing.queue w.routing.held ready p.counted (id_of w.store.seed (tickets_of w.store).next) service body number;
            };
        stores = λ n number body w o ready pending holds works only p. record {
          once = p.once;
          limited = p.limited;
          filed = filed-more (cmds.Store number body) w.store _ p.filed ready
              (store-applies number body p.filed.fold (subst (λ (f : Fold Bodies). pends number f ≡ true) (tickets-are w.store p.filed.fold p.filed.is) pending));
          counted = counted-stored w.store p.filed w.routing.queue w.routing.held ready p.counted number body pending (held-counts n number w.routing p.once holds);
        };
        closes = λ ticket id w o ready found works only p.
            let there = known-numbered p.filed.fold id ticket (filed-numbered w.store p.filed)
            (subst (λ (f : Fold Bodies). known id f ≡ Some ticket) (tickets-are w.store p.filed.fold p.filed.is) found) in record {
              once = p.once;
              limited = p.limited;
              filed = filed-more (cmds.Close ticket.number) w.store _ p.filed ready (close-applies ticket.number ticket p.filed.fold there);
              counted = counted-closed w.store p.filed w.routing.queue w.routing.held ready p.counted ticket there;
            };
        passes = λ q number by is origin fault p. record {
          once = once.passes q number by is origin fault p.once;
          limited = p.limited;
          filed = filed-plain w0.store p.filed;
          counted = counted-same (record w0.store { access = Shut None }) (filter (λ r. is_of_client r.origin) w0.routing.queue) (filter (λ r. is_of_client r.origin) w0.routing.queue)
              w0.routing.held (held_without q.waiter.worker w0.routing.held) (counted-shut w0.store None w0.routing.queue w0.routing.held p.counted) (λ k. refl)
              (λ k. held-same q.waiter.worker k w0.routing.held (waiter-none q w0.routing is p.once));
        };
      }
    where
      -- the next number fits an id
      numbered-next : (w : Whole) (p : Keeps w) (service : List ℕ) (body : Bodies) → is_full w.routing.limits w.store (accepts_next service body w) ≡ false
          → number_of (id_of w.store.seed (tickets_of w.store).next) ≡ p.filed.fold.next
      numbered-next w p service body room =
          let small = next-small w.routing.limits w.store p.filed (accepts_next service body w) (subst (λ (x : Limits). x.file < 2 ^ 61) (sym p.limited) sized) room in
          let same : (tickets_of w.store).next ≡ p.filed.fold.next = ap (λ (f : Fold Bodies). f.next) (tickets-are w.store p.filed.fold p.filed.is) in
          number-id_of w.store.seed (tickets_of w.store).next (subst (λ (n : ℕ). n < 2 ^ 62) (sym same) small) ∙ same

      -- a found command leaves no lower next number
      grown : (w : Whole) (doubt : Option TicketCmd) (filed : IsFiled w.store) → IsFiled (reopened (found_in (finds w) doubt) w.store) → (k : ℕ)
          → (tickets_of (reopened (found_in (finds w) doubt) w.store)).next ≤ k → (tickets_of w.store).next ≤ k
      grown w doubt filed now k past = by (found_in (finds w) doubt) now past
        where
          by : (found : Option TicketCmd) → IsFiled (reopened found w.store) → (tickets_of (reopened found w.store)).next ≤ k → (tickets_of w.store).next ≤ k
          by None now past = past
          by (Some cmd) now past =
              let applies : applied cmd (body_of cmd) filed.fold ≡ Some now.fold =
              sym (ap (λ (o : Option (Fold Bodies)). option_and_then (applied cmd (body_of cmd)) o) filed.is) ∙ sym (fold-append w.store.base w.store.commands cmd) ∙ now.is in
              let more = next-grows cmd (body_of cmd) filed.fold now.fold applies in
              let was = ap (λ (f : Fold Bodies). f.next) (tickets-are w.store filed.fold filed.is) in
              let is = ap (λ (f : Fold Bodies). f.next) (tickets-are (reopened (Some cmd) w.store) now.fold now.is) in
              omega (arith, past, more, was, is)

-- ---- runs

stands-once : (limits : Limits) (s : State) (store : Store) → Conserved limits s store → TicketsStandOnce store s
stands-once limits s store p = record {
  pending = λ ready n is.
      let low = p.counted.stands ready n in let few = p.counted.few n in let one = ap one_if is in
      omega (arith, low, few, one);
  others = λ ready n is. let low = p.counted.queued ready n in let none = ap one_if is in omega (arith, low, none);
  shut = λ off n. let few = p.counted.few n in (p.counted.shut off n, omega (arith, few));
}

conserved-start : (limits : Limits) (seed : List ℕ) (base : ℕ) (commands : List TicketCmd) → IsOpenable limits base commands
    → Conserved limits (start_with limits (opened_store seed base commands)).state (opened_store seed base commands)
conserved-start limits seed base commands openable =
    let store = opened_store seed base commands in
    let filed : IsFiled store =
    record { fold = openable.lawful.0; is = openable.lawful.1; doubt = (openable.lawful.0, ap (fold_of base) (append-nil commands) ∙ openable.lawful.1); from_one = openable.from_one; based = openable.based } in
    record { once = λ n. refl; limited = refl; filed = filed; counted = counted-queued store filed [] [] refl (λ k. refl) (λ k. omega arith) (λ k past. refl) }

conserved-run : (limits : Limits) (m : Machine) (events : List Noted) → limits.file < 2 ^ 61 → Conserved limits m.state m.store
    → AllByRecursion (λ t. Of (Conserved limits) t.before × Of (Conserved limits) t.after) (run_steps limits m events) × Conserved limits (run_state limits m events).state (run_state limits m events).store
conserved-run limits m events sized p =
    stays-run AnyLane (Conserved limits) (Of (Conserved limits)) (λ t. Of (Conserved limits) t.before × Of (Conserved limits) t.after)
    (walked-kept AnyLane (Of (Conserved limits)) (λ cause w free. conserved-carried limits sized cause w)) (λ s store q lane. tt) limits m events p

pub tickets_are_conserved : (limits : Limits) (seed : List ℕ) (base : ℕ) (commands : List TicketCmd) (events : List Noted) → IsOpenable limits base commands
    → TicketsAreConserved limits (start_with limits (opened_store seed base commands)) events
tickets_are_conserved limits seed base commands events openable =
    let m = start_with limits (opened_store seed base commands) in
    let all = conserved-run limits m events openable.sized (conserved-start limits seed base commands openable) in (
      all-map _ _ (λ t both. (stands-once limits t.before.routing t.before.store both.0, stands-once limits t.after.routing t.after.store both.1)) (run_steps limits m events) all.0,
      stands-once limits (run_state limits m events).state (run_state limits m events).store all.1,
    )

-- ---- what a crash may leave

lawful-at : (base : ℕ) (store : Store) → store.base ≡ base → IsFiled store → AllByRecursion (IsLawfulList base) (lists_at store)
lawful-at base store same filed =
    (subst (λ (b : ℕ). IsLawfulList b store.commands) same (filed.fold, filed.is), (subst (λ (b : ℕ). IsLawfulList b (store.commands ++ doubted store.access)) same filed.doubt, tt))

lawful-in : (limits : Limits) (first : Store) (steps : List Step) → AllByRecursion (λ t. GoesFrom first t.before.store × GoesFrom first t.after.store) steps
    → AllByRecursion (λ t. Of (Conserved limits) t.before × Of (Conserved limits) t.after) steps → AllByRecursion (IsLawfulList first.base) (lists_in steps)
lawful-in limits first [] goes all = tt
lawful-in limits first (t ∷ steps) goes all =
    all-append (IsLawfulList first.base) (lists_at t.before.store ++ lists_at t.after.store) (lists_in steps)
    (all-append (IsLawfulList first.base) (lists_at t.before.store) (lists_at t.after.store)
    (lawful-at first.base t.before.store goes.0.0.base all.0.0.filed) (lawful-at first.base t.after.store goes.0.1.base all.0.1.filed))
    (lawful-in limits first steps goes.1 all.1)

pub lists_are_lawful : (limits : Limits) (seed : List ℕ) (base : ℕ) (commands : List TicketCmd) (events : List Noted) → IsOpenable limits base commands
    → ListsAreLawful limits seed base commands events
lists_are_lawful limits seed base commands events openable =
    let m = start_with limits (opened_store seed base commands) in
    let all = conserved-run limits m events openable.sized (conserved-start limits seed base commands openable) in
    let goes = later-stores limits m events in
    (lawful-in limits m.store (run_steps limits m events) goes.0 all.0, lawful-at base (run_state limits m events).store goes.1.base all.1.filed)
