-- Runs over lists that are joined.
use Rattle.std.proofs.Common.{◌≡◌, List, [], ◌∷◌, ◌++◌, refl, ap, sym, ◌∙◌, append_assoc}
use Rattle.mj_base.specs.declared.limits.Limits.{Limits}
use Rattle.mj_base.specs.declared.event.Out.{Out}
use Rattle.mj_machine.specs.MachineState.{Machine}
use Rattle.mj_machine.specs.Acts.{Doing, behind, each, ◌then◌}
use Rattle.mj_machine.specs.EventStep.{Noted, state_after, outs_of}
use Rattle.mj_machine.specs.MachineRun.{run_state, run_outs}

-- the machine after two lists of events, one behind the other
pub run_state-append : (limits : Limits) (m : Machine) (first second : List Noted)
    → run_state limits m (first ++ second) ≡ run_state limits (run_state limits m first) second
run_state-append limits m [] second = refl
run_state-append limits m (e ∷ first) second = run_state-append limits (state_after limits m e) first second

-- what two lists of events give, one behind the other
pub run_outs-append : (limits : Limits) (m : Machine) (first second : List Noted)
    → run_outs limits m (first ++ second) ≡ run_outs limits m first ++ run_outs limits (run_state limits m first) second
run_outs-append limits m [] second = refl
run_outs-append limits m (e ∷ first) second =
    ap (λ (xs : List Out). outs_of limits m e ++ xs) (run_outs-append limits (state_after limits m e) first second)
    ∙ sym (append_assoc (outs_of limits m e) _ _)

-- one act behind two
pub then-assoc : {S A : Type 0} (d : Doing S A) (f g : S → Doing S A) → ((d then f) then g) ≡ (d then (λ s. f s then g))
then-assoc {A = A} d f g = ap (λ (xs : List A). ((g (f d.0).0).0, xs)) (append_assoc d.1 (f d.0).1 (g (f d.0).0).1)

-- an act for each of two lists, one behind the other
pub each-append : {S A X : Type 0} (act : X → S → Doing S A) (xs ys : List X) (s : S) → each act (xs ++ ys) s ≡ (each act xs s then each act ys)
each-append act [] ys s = refl
each-append {S = S} {A = A} act (x ∷ xs) ys s =
    ap (λ (d : Doing S A). behind (act x s).1 d) (each-append act xs ys (act x s).0) ∙ sym (then-assoc (act x s) (each act xs) (each act ys))
