-- The waiting tickets, one by one, by number.
use Rattle.std.proofs.Common.{◌≡◌, ◌<◌, ◌≤◌, ℕ, Bool, true, false, not, ◌&&◌, nat_lt, cond, List, [], ◌∷◌, ◌++◌, map, Option, None, Some, refl, sym, ap, subst, ◌∙◌, arith, append_assoc, append-nil}
use Rattle.std.specs.Option.{option_map}
use Rattle.std.specs.List.{filter, find}
use Rattle.std.proofs.lemmas.Bool.Decides.{nat_tests}
use Rattle.mj_queue.specs.declared.request.Request.{Request}
use Rattle.mj_tickets.specs.Fold.{Fold, RisesTo, Ticket, is_pending, number_in, pending_above}
use Rattle.mj_tickets.specs.Index.{pending_as}
use Rattle.mj_tickets.specs.Laws.{AreNumbered}
use Rattle.mj_machine.specs.declared.held.Held.{Held}
use Rattle.mj_machine.specs.StoreState.{holds_ticket, ticket_request, waiting_tickets}
use Rattle.mj_machine.specs.MachineState.{State}
use Rattle.mj_routing.specs.Returning.{free_request, put_last}

module _ {B : Type 0} (held : List Held) where
  abbrev pub above : ℕ → List (Ticket B) → List (Ticket B)
  above n ts = filter (λ t. nat_lt n t.number) ts

  abbrev pub requests : List (Ticket B) → List Request
  requests ts = map (λ t. ticket_request t.number t.service) (filter (λ t. is_pending t && not (holds_ticket held t.number)) ts)

  abbrev test : ℕ → Ticket B → Bool
  test n t = nat_lt n t.number && is_pending t

  -- what goes to the queue for a pending ticket
  abbrev one : Ticket B → List Request
  one t = put_last (free_request held t.number t.service) []

  all-above : (n low high : ℕ) (ts : List (Ticket B)) → RisesTo low (map number_in ts) high → n ≤ low → above n ts ≡ ts
  all-above n low high [] rises least = refl
  all-above n low high (t ∷ ts) rises least =
      let more : low < t.number = rises.0 in
      let is : nat_lt n t.number ≡ true = grind (arith, nat_tests) in
      rw is (ap (λ (us : List (Ticket B)). t ∷ us) (all-above n t.number high ts rises.1 (omega (arith, more, least))))

  none-above : (n low high : ℕ) (ts : List (Ticket B)) → RisesTo low (map number_in ts) high → high ≤ n → above n ts ≡ []
  none-above n low high [] rises most = refl
  none-above n low high (t ∷ ts) rises most =
      let up = up-to t.number high (map number_in ts) rises.1 in
      let is : nat_lt n t.number ≡ false = grind (arith, nat_tests) in
      rw is (none-above n t.number high ts rises.1 most)
    where
      up-to : (low high : ℕ) (ns : List ℕ) → RisesTo low ns high → low ≤ high
      up-to low high [] rises = rises
      up-to low high (n ∷ ns) rises = let less : low < n = rises.0 in let rest = up-to n high ns rises.1 in omega (arith, less, rest)

  record IsFound (after low : ℕ) (t : Ticket B) : Type 0 where
    over : after < t.number
    higher : low < t.number
    pending : is_pending t ≡ true

  found-in : (after low high : ℕ) (ts : List (Ticket B)) (t : Ticket B) → RisesTo low (map number_in ts) high → find (test after) ts ≡ Some t → IsFound after low t
  found-in after low high [] t rises e = cc
  found-in after low high (u ∷ us) t rises e = by (nat_lt after u.number) (is_pending u) refl refl e (λ rest. found-in after u.number high us t rises.1 rest)
    where
      later : IsFound after u.number t → IsFound after low t
      later is =
          let less : low < u.number = rises.0 in
          let more = is.higher in
          record { over = is.over; higher = omega (arith, less, more); pending = is.pending }

      by : (b p : Bool) → nat_lt after u.number ≡ b → is_pending u ≡ p → cond {A = Option (Ticket B)} (b && p) (Some u) (find (test after) us) ≡ Some t → (find (test after) us ≡ Some t → IsFound after u.number t) → IsFound after low t
      by true true over pends is rest =
          let same : u ≡ t = cc in
          let less : after < u.number = grind (arith, nat_tests) in
          subst (IsFound after low) same (record { over = less; higher = rises.0; pending = pends })
      by true false over pends is rest = later (rest is)
      by false p over pends is rest = later (rest is)

  requests-first : (t : Ticket B) (ts : List (Ticket B)) → is_pending t ≡ true → requests (t ∷ ts) ≡ one t ++ requests ts
  requests-first t ts pends = rw pends (by (holds_ticket held t.number))
    where
      by : (b : Bool) → map (λ t. ticket_request t.number t.service) (cond {A = List (Ticket B)} (not b) (t ∷ filter (λ t. is_pending t && not (holds_ticket held t.number)) ts) (filter (λ t. is_pending t && not (holds_ticket held t.number)) ts))
          ≡ put_last (cond {A = Option Request} b None (Some (ticket_request t.number t.service))) [] ++ requests ts
      by true = refl
      by false = refl

  next-one : (after low high : ℕ) (ts : List (Ticket B)) (t : Ticket B) → RisesTo low (map number_in ts) high → find (test after) ts ≡ Some t
      → requests (above after ts) ≡ one t ++ requests (above t.number ts)
  next-one after low high [] t rises e = cc
  next-one after low high (u ∷ us) t rises e = by (nat_lt after u.number) (is_pending u) refl refl e (λ rest. next-one after u.number high us t rises.1 rest)
    where
      behind : find (test after) us ≡ Some t → requests (above after us) ≡ one t ++ requests (above t.number us) → requests (above after us) ≡ one t ++ requests (above t.number (u ∷ us))
      behind found rest =
          let is = found-in after u.number high us t rises.1 found in
          let more = is.higher in
          let lower : nat_lt t.number u.number ≡ false = grind (arith, nat_tests) in
          rw lower rest

      by : (b p : Bool) → nat_lt after u.number ≡ b → is_pending u ≡ p → cond {A = Option (Ticket B)} (b && p) (Some u) (find (test after) us) ≡ Some t
          → (find (test after) us ≡ Some t → requests (above after us) ≡ one t ++ requests (above t.number us))
          → requests (cond {A = List (Ticket B)} b (u ∷ above after us) (above after us)) ≡ one t ++ requests (above t.number (u ∷ us))
      by true true over pends is rest_is =
          let same : u ≡ t = cc in
          let less : after < u.number = grind (arith, nat_tests) in
          let own : nat_lt u.number u.number ≡ false = grind (arith, nat_tests) in
          let all : above after us ≡ us = all-above after u.number high us rises.1 (omega (arith, less)) in
          let rest : above u.number (u ∷ us) ≡ us = rw own (all-above u.number u.number high us rises.1 (omega arith)) in
          subst (λ (v : Ticket B). requests (u ∷ above after us) ≡ one v ++ requests (above v.number (u ∷ us))) same
          (requests-first u (above after us) pends ∙ ap (λ (vs : List (Ticket B)). one u ++ requests vs) (all ∙ sym rest))
      by true false over pends is rest = rw pends (behind is (rest is))
      by false p over pends is rest = behind is (rest is)

  no-more : (after : ℕ) (ts : List (Ticket B)) → find (test after) ts ≡ None → requests (above after ts) ≡ []
  no-more after [] e = refl
  no-more after (u ∷ us) e = by (nat_lt after u.number) (is_pending u) refl refl e (λ none. no-more after us none)
    where
      by : (b p : Bool) → nat_lt after u.number ≡ b → is_pending u ≡ p → cond {A = Option (Ticket B)} (b && p) (Some u) (find (test after) us) ≡ None → (find (test after) us ≡ None → requests (above after us) ≡ [])
          → requests (cond {A = List (Ticket B)} b (u ∷ above after us) (above after us)) ≡ []
      by true true over pends is rest = cc
      by true false over pends is rest = rw pends (rest is)
      by false p over pends is rest = rest is

-- the same of the tickets in memory
abbrev pub with_queue : State → List Request → State
with_queue s queue = record s { queue = queue }

abbrev pub rest_above : {B : Type 0} → ℕ → Fold B → State → State
rest_above after f s = with_queue s (s.queue ++ requests s.held (above s.held after f.tickets))

module _ {B : Type 0} (f : Fold B) (numbered : AreNumbered f) where
  pub none-queued : (s : State) → rest_above 0 f s ≡ with_queue s (s.queue ++ waiting_tickets s.held f)
  none-queued s = ap (λ (ts : List (Ticket B)). with_queue s (s.queue ++ requests s.held ts)) (all-above s.held 0 0 f.highest f.tickets numbered.rise (omega arith))

  last-one : (s : State) (after : ℕ) → requests s.held (above s.held after f.tickets) ≡ [] → rest_above after f s ≡ s
  last-one s after none = ap (λ (q : List Request). with_queue s (s.queue ++ q)) none ∙ ap (with_queue s) (append-nil s.queue)

  pub all-queued : (s : State) (after : ℕ) → f.next ≤ after → rest_above after f s ≡ s
  all-queued s after over =
      let below = numbered.above in
      last-one s after (ap (requests s.held) (none-above s.held after 0 f.highest f.tickets numbered.rise (omega (arith, over, below))))

  pub none-pending : (s : State) (after : ℕ) → option_map pending_as (pending_above after f) ≡ None → rest_above after f s ≡ s
  none-pending s after none = of (pending_above after f) refl none
    where
      of : (o : Option (Ticket B)) → pending_above after f ≡ o → option_map pending_as o ≡ None → rest_above after f s ≡ s
      of None is e = last-one s after (no-more s.held after f.tickets is)
      of (Some t) is e = cc

  last-then : (o : Option Request) (queue rest : List Request) → queue ++ (put_last o [] ++ rest) ≡ put_last o queue ++ rest
  last-then None queue rest = refl
  last-then (Some r) queue rest = sym (append_assoc queue (r ∷ []) rest)

  pub record IsNext (s : State) (after number : ℕ) (service : List ℕ) : Type 0 where
    pub more : after < number
    pub same : rest_above after f s ≡ rest_above number f (with_queue s (put_last (free_request s.held number service) s.queue))

  pub one-queued : (s : State) (after number : ℕ) (service : List ℕ) → option_map pending_as (pending_above after f) ≡ Some (number, service) → IsNext s after number service
  one-queued s after number service e = of (pending_above after f) refl e
    where
      of : (o : Option (Ticket B)) → pending_above after f ≡ o → option_map pending_as o ≡ Some (number, service) → IsNext s after number service
      of None is e = cc
      of (Some t) is e =
          let both : pending_as t ≡ (number, service) = cc in
          let n : t.number ≡ number = ap (λ (p : ℕ × List ℕ). p.0) both in
          let name : t.service ≡ service = ap (λ (p : ℕ × List ℕ). p.1) both in
          let found = found-in s.held after 0 f.highest f.tickets t numbered.rise is in
          let over = found.over in
          let next = next-one s.held after 0 f.highest f.tickets t numbered.rise is in
          rw (sym n) (rw (sym name) (record {
            more = over;
            same = ap (λ (q : List Request). with_queue s (s.queue ++ q)) next
                ∙ ap (with_queue s) (last-then (free_request s.held t.number t.service) s.queue (requests s.held (above s.held t.number f.tickets)));
          }))
