-- Which tickets are pending behind a command more.
use Rattle.std.proofs.Common.{◌≡◌, ◌≢◌, ◌≤◌, ◌<◌, ◌+◌, ◌==◌, ℕ, Bool, true, false, cond, map, List, [], ◌∷◌, ◌++◌, Option, None, Some, refl, sym, ap, subst, ◌∙◌, inl, inr, arith}
use Rattle.std.specs.List.{find}
use Rattle.std.proofs.lemmas.Bool.Decides.{eqb_tells}
use Rattle.mj_ids.specs.Ids.{number_of}
use Rattle.mj_tickets.specs.Fold.{Fold, Ticket, RisesTo, accepted, applied, changed_first, closed, number_in, numbered, replied, stored, ticket_of}
use Rattle.mj_tickets.specs.Laws.{AreNumbered}
use Rattle.mj_tickets.specs.declared.command.TicketCmd.{TicketCmd}
use Rattle.mj_tickets.specs.declared.command.TicketCmd.TheVariants as cmds
use Rattle.mj_tickets.proofs.FoldLemmas.{Does, does, new_ticket}
use Rattle.mj_tickets.proofs.RisingLemmas.{rises_bound}
use Rattle.mj_machine.specs.StoreState.{is_pending_one, pends}
use Rattle.mj_machine.proofs.ConnectionLemmas.{agrees, differs, equal, find-without-other, find-without-same}
use Rattle.mj_machine.proofs.FoldLemmas.{Bodies}
use Rattle.mj_laws.specs.Soundness.{one_if}

-- no ticket has a number above the highest
none-above : (low : ℕ) (ts : List (Ticket Bodies)) (high n : ℕ) → RisesTo low (map number_in ts) high → high < n → find (numbered n) ts ≡ None
none-above low [] high n rise above = refl
none-above low (t ∷ ts) high n rise above =
    let bound = rises_bound t.number (map number_in ts) high rise.1 in
    rw (differs t.number n (λ same. omega (arith, bound, above, same))) (none-above t.number ts high n rise.1 above)

find-push : (n : ℕ) (ts : List (Ticket Bodies)) (t : Ticket Bodies) → find (numbered n) ts ≡ None → find (numbered n) (ts ++ t ∷ []) ≡ cond {A = Option (Ticket Bodies)} (numbered n t) (Some t) None
find-push n [] t none = refl
find-push n (u ∷ ts) t none = by (numbered n u) none (find-push n ts t)
  where
    by : (b : Bool) → cond {A = Option (Ticket Bodies)} b (Some u) (find (numbered n) ts) ≡ None
        → (find (numbered n) ts ≡ None → find (numbered n) (ts ++ t ∷ []) ≡ cond {A = Option (Ticket Bodies)} (numbered n t) (Some t) None)
        → cond {A = Option (Ticket Bodies)} b (Some u) (find (numbered n) (ts ++ t ∷ [])) ≡ cond {A = Option (Ticket Bodies)} (numbered n t) (Some t) None
    by true none rest = absurd (cc none)
    by false none rest = rest none

find-before : (n : ℕ) (ts : List (Ticket Bodies)) (t : Ticket Bodies) → numbered n t ≡ false → find (numbered n) (ts ++ t ∷ []) ≡ find (numbered n) ts
find-before n [] t other = rw other refl
find-before n (u ∷ ts) t other = ap (λ (o : Option (Ticket Bodies)). cond {A = Option (Ticket Bodies)} (numbered n u) (Some u) o) (find-before n ts t other)

-- ---- accepted

-- a new ticket pends, and the others as they did
pub accepted-pends : (k : ℕ) (id service : List ℕ) (body : Bodies) (f : Fold Bodies) → AreNumbered f → number_of id ≡ f.next
    → one_if (pends k (accepted (new_ticket id service body) f)) ≡ one_if (pends k f) + one_if (f.next == k)
accepted-pends k id service body f numbers same =
    let t = new_ticket id service body in
    elim (eqb_tells f.next k) [
      | inl here ↦ (
          let above = numbers.above in
          let its = here.1 in
          let none : ticket_of k f ≡ None = none-above 0 f.tickets f.highest k numbers.rise (omega (arith, above, its)) in
          let it : numbered k t ≡ true = ap (λ (n : ℕ). n == k) same ∙ here.0 in
          let found : ticket_of k (accepted t f) ≡ Some t = find-push k f.tickets t none ∙ ap (λ (b : Bool). cond {A = Option (Ticket Bodies)} b (Some t) None) it in
          let now = ap (λ (o : Option (Ticket Bodies)). one_if (is_pending_one o)) found in
          let before = ap (λ (o : Option (Ticket Bodies)). one_if (is_pending_one o)) none in
          let one = ap one_if here.0 in
          omega (arith, now, before, one)
          )
      | inr other ↦ (
          let it : numbered k t ≡ false = ap (λ (n : ℕ). n == k) same ∙ other.0 in
          let now = ap (λ (o : Option (Ticket Bodies)). one_if (is_pending_one o)) (find-before k f.tickets t it) in
          let one = ap one_if other.0 in
          omega (arith, now, one)
          )
    ]

pub accepted-next : (id service : List ℕ) (body : Bodies) (f : Fold Bodies) → number_of id ≡ f.next → (accepted (new_ticket id service body) f).next ≡ f.next + 1
accepted-next id service body f same =
    let it : (number_of id == f.next) ≡ true = ap (λ (n : ℕ). n == f.next) same ∙ equal f.next in rw it refl

-- ---- stored

find-changed-other : (n k : ℕ) (body : Bodies) (ts : List (Ticket Bodies)) → n ≢ k → find (numbered k) (changed_first (numbered n) (replied body) ts) ≡ find (numbered k) ts
find-changed-other n k body [] apart = refl
find-changed-other n k body (t ∷ ts) apart = by (t.number == n) refl (find-changed-other n k body ts apart)
  where
    by : (b : Bool) → (t.number == n) ≡ b → find (numbered k) (changed_first (numbered n) (replied body) ts) ≡ find (numbered k) ts
        → find (numbered k) (cond {A = List (Ticket Bodies)} b (replied body t ∷ ts) (t ∷ changed_first (numbered n) (replied body) ts)) ≡ find (numbered k) (t ∷ ts)
    by true is rest =
        let other : (t.number == k) ≡ false = differs t.number k (λ same. apart (sym (agrees t.number n is) ∙ same)) in rw other refl
    by false is rest = ap (λ (o : Option (Ticket Bodies)). cond {A = Option (Ticket Bodies)} (t.number == k) (Some t) o) rest

pub stored-others : (n k : ℕ) (body : Bodies) (f : Fold Bodies) → n ≢ k → pends k (stored n body f) ≡ pends k f
stored-others n k body f apart = ap is_pending_one (find-changed-other n k body f.tickets apart)

-- ---- closed

pub closed-pends : (n : ℕ) (f : Fold Bodies) → pends n (closed n f) ≡ false
closed-pends n f = ap is_pending_one (find-without-same (λ (t : Ticket Bodies). t.number) n f.tickets)

pub closed-others : (n k : ℕ) (f : Fold Bodies) → n ≢ k → pends k (closed n f) ≡ pends k f
closed-others n k f apart = ap is_pending_one (find-without-other (λ (t : Ticket Bodies). t.number) n k (λ same. apart (sym same)) f.tickets)

-- a later ticket isn't there
pub later-pends : (k : ℕ) (f : Fold Bodies) → AreNumbered f → f.next ≤ k → pends k f ≡ false
later-pends k f numbers past =
    let above = numbers.above in ap is_pending_one (none-above 0 f.tickets f.highest k numbers.rise (omega (arith, above, past)))

-- the next number never falls
pub next-grows : (cmd : TicketCmd) (value : Bodies) (f g : Fold Bodies) → applied cmd value f ≡ Some g → f.next ≤ g.next
next-grows cmd value f g is = by cmd (does cmd value f g is)
  where
    by : (c : TicketCmd) → Does c value f g → f.next ≤ g.next
    by (cmds.Accept id service body) d = subst (λ (h : Fold Bodies). f.next ≤ h.next) d.2 (more (number_of id == f.next))
      where
        more : (b : Bool) → f.next ≤ cond b (f.next + 1) f.next
        more true = omega arith
        more false = omega arith
    by (cmds.Store number body) d = subst (λ (h : Fold Bodies). f.next ≤ h.next) d (omega arith)
    by (cmds.Close number) d = subst (λ (h : Fold Bodies). f.next ≤ h.next) d (omega arith)
