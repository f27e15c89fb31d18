-- The next connection's number stays, but at an opening.
use Rattle.std.proofs.Common.{◌≡◌, ◌+◌, ℕ, [], refl, ap, subst}
use Rattle.mj_greeting.specs.GreetingGrammar.{broker_greeting}
use Rattle.mj_machine.specs.StoreState.{told_by}
use Rattle.mj_machine.specs.MachineState.{State, Whole}
use Rattle.mj_machine.specs.Connections.{number_on}
use Rattle.mj_machine.specs.EventStep.{Happening, Opens, happens, opened}
use Rattle.mj_machine.specs.Steps.{Cause, Closing, Opening, acts}
use Rattle.mj_machine.proofs.AbsentLemmas.{IsNoOpening, closes-next}
use Rattle.mj_machine.proofs.Changes.{Greets, IsKept, kept-carried, on}
use Rattle.mj_machine.proofs.SendWalk.{walk-sends}
use Rattle.mj_machine.proofs.StepWalk.{MayBegin, kept-happens, kept-settles}

-- this is the next number
abbrev At : ℕ → State → Type 0
At n s = s.next ≡ n

-- nothing is opened
abbrev Never : State → ℕ → Type 0
Never s lane = ⊥

next-kept : (n : ℕ) (cause : Cause) (s0 : State) → MayBegin Never cause s0 → IsKept cause s0 (At n)
next-kept n cause s0 never = record {
  keeps_marked = λ q s p. p;
  keeps_sent = λ q octets c s is slow p. p;
  keeps_reported = λ q s p. p;
  keeps_removed = λ q told s p. p;
  keeps_gone = λ q told s p. p;
  keeps_expired = λ q told s is p. p;
  keeps_asking = λ q c is plain p. p;
  keeps_queued = λ q c message request told is origin p. p;
  keeps_registered = λ q c message voice service told is fresh p. p;
  keeps_rested = λ q service s final serves p. p;
  keeps_given = λ q is found p. p;
  keeps_passed = λ q is found p. p;
  keeps_opened = λ lane is p. absurd (never lane is);
  keeps_time = λ ms s p. p;
  keeps_emptied = λ s p. p;
  keeps_refilled = λ store s p. p;
  keeps_submitted = λ number service s p. p;
  keeps_dropped = λ number s p. p;
}

-- after anything but an opening
pub next-happens : (h : Happening) → IsNoOpening h → (w : Whole) → (happens h w).0.routing.next ≡ w.routing.next
next-happens h quietly w = kept-happens Never (At w.routing.next) (next-kept w.routing.next) h w (λ lane is. subst IsNoOpening is quietly) refl

-- after an opening
pub next-opens : (lane : ℕ) (w : Whole) → (happens (Opens lane) w).0.routing.next ≡ w.routing.next + 1
next-opens lane w =
    let v = (acts (Closing lane) w).0 in
    let n = w.routing.next + 1 in
    let kept = next-kept n (Closing lane) v.routing (λ other is. cc is) in
    let greeted : At n (acts (Opening lane) v).0.routing =
    walk-sends (Closing lane) v (λ d. At n d.0.routing) (kept-carried (Closing lane) v (At n) kept) v.routing.next broker_greeting (on v (opened lane v.routing)) [] (Greets refl)
    (ap (λ (q : ℕ). q + 1) (closes-next (number_on lane w.routing.connections) (told_by w.store) w.routing)) in
    kept-settles Never (At n) (next-kept n) (acts (Opening lane) v).0 greeted
