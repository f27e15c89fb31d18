-- All parts of what holds at every moment, together.
use Rattle.std.proofs.Common.{◌≡◌, true, false, List, [], ◌∷◌, refl, sym, subst, inl, inr}
use Rattle.std.specs.List.{AllByRecursion}
use Rattle.mj_base.specs.declared.limits.Limits.{Limits}
use Rattle.mj_queue.specs.Settling.{is_of_client}
use Rattle.mj_queue.specs.declared.request.Origin.{Origin}
use Rattle.mj_queue.specs.declared.request.Origin.TheVariants as origins
use Rattle.mj_machine.specs.declared.connection.Connection.{Connection}
use Rattle.mj_machine.specs.StoreState.{Store, no_store, opened_store, told_by}
use Rattle.mj_machine.specs.MachineState.{Machine, State, start, start_with}
use Rattle.mj_machine.specs.EventStep.{Noted, state_after}
use Rattle.mj_machine.specs.MachineRun.{run_state}
use Rattle.mj_machine.specs.Steps.{Cause, run_steps}
use Rattle.mj_machine.proofs.Changes.{IsKept, both}
use Rattle.mj_machine.proofs.ListLemmas.{all-both, all-map}
use Rattle.mj_machine.proofs.StepWalk.{MayBegin, carried-on, stays-run, walked-kept}
use Rattle.mj_laws.specs.Soundness.{AskersAreThere, IsBegun, IsSound, IsThere, LanesAreApart, NumbersAreFresh, PiecesFit, ServicesAgree, StaysSound, WorkersStandOnce}
use Rattle.mj_laws.specs.Storeless.{HasNoTickets}
use Rattle.mj_laws.proofs.ApartLemmas.{IsFree, lane-vacated, lanes-kept, numbers-kept, pieces-kept}
use Rattle.mj_laws.proofs.AskerLemmas.{askers-kept, there-tickets}
use Rattle.mj_laws.proofs.StorelessLemmas.{storeless-run, storeless-start}
use Rattle.mj_laws.proofs.WorkerLemmas.{once-kept, services-kept}

abbrev pub AllOf : Limits → State → Type 0
AllOf limits s = WorkersStandOnce s × (ServicesAgree s × (AskersAreThere true s × (NumbersAreFresh s × (LanesAreApart s × PiecesFit limits s))))

pub all-kept : (limits : Limits) (cause : Cause) (s0 : State) → MayBegin IsFree cause s0 → IsKept cause s0 (AllOf limits)
all-kept limits cause s0 free =
    both cause s0 WorkersStandOnce _ (once-kept cause s0)
    (both cause s0 ServicesAgree _ (services-kept cause s0)
    (both cause s0 (AskersAreThere true) _ (askers-kept cause s0)
    (both cause s0 NumbersAreFresh _ (numbers-kept cause s0) (both cause s0 LanesAreApart (PiecesFit limits) (lanes-kept cause s0 free) (pieces-kept limits cause s0)))))

pub all-sound : (limits : Limits) (s : State) → AllOf limits s → IsSound limits true s
all-sound limits s p = record { once = p.0; services = p.1.0; askers = p.1.1.0; numbers = p.1.1.1.0; lanes = p.1.1.1.1.0; pieces = p.1.1.1.1.1 }

pub sound-all : (limits : Limits) (s : State) → IsSound limits true s → AllOf limits s
sound-all limits s sound = (sound.once, (sound.services, (sound.askers, (sound.numbers, (sound.lanes, sound.pieces)))))

-- without a store, where no ticket is queued
there-alone : (cs : List Connection) (o : Origin) → is_of_client o ≡ true → IsThere true cs o → IsThere false cs o
there-alone cs (origins.Client n) client there = there
there-alone cs (origins.Ticket n) client there = absurd (cc client)

clients-alone : (limits : Limits) (s : State) → HasNoTickets s → IsSound limits true s → IsSound limits false s
clients-alone limits s none sound = record {
  once = sound.once;
  services = sound.services;
  askers = all-map _ _ (λ r both. there-alone s.connections r.origin both.0 both.1) s.queue (all-both _ _ s.queue none.queue sound.askers);
  numbers = sound.numbers;
  lanes = sound.lanes;
  pieces = sound.pieces;
}

-- ---- runs

pub sound-start : (limits : Limits) (store : Store) → IsSound limits true (start_with limits store).state
sound-start limits store =
    all-sound limits (start_with limits store).state ((λ n. refl), ((tt, tt), (there-tickets [] _, ((tt, tt), (tt, (refl, tt))))))

pub sound-run : (limits : Limits) (m : Machine) (events : List Noted) → IsSound limits true m.state
    → AllByRecursion (λ t. IsSound limits true t.before.routing × IsSound limits true t.after.routing) (run_steps limits m events) × IsSound limits true (run_state limits m events).state
sound-run limits m events sound =
    let run =
    stays-run IsFree (λ s store. AllOf limits s) (λ w. AllOf limits w.routing) (λ t. AllOf limits t.before.routing × AllOf limits t.after.routing)
    (walked-kept IsFree (λ w. AllOf limits w.routing) (carried-on IsFree (AllOf limits) (all-kept limits)))
    (λ s store p lane. lane-vacated (told_by store) s p.1.1.1.1.0 lane) limits m events (sound-all limits m.state sound) in (
      all-map _ _ (λ t p. (all-sound limits t.before.routing p.0, all-sound limits t.after.routing p.1)) (run_steps limits m events) run.0,
      all-sound limits (run_state limits m events).state run.1,
    )

pub sound-after : (limits : Limits) (m : Machine) (e : Noted) → IsSound limits true m.state → IsSound limits true (state_after limits m e).state
sound-after limits m e sound = (sound-run limits m (e ∷ []) sound).1

-- of a run over any store tickets may be queued, and of one without a store none is
pub stays-sound-with : (limits : Limits) (store : Store) (events : List Noted)
    → AllByRecursion (λ t. IsSound limits true t.before.routing × IsSound limits true t.after.routing) (run_steps limits (start_with limits store) events)
    × IsSound limits true (run_state limits (start_with limits store) events).state
stays-sound-with limits store events = sound-run limits (start_with limits store) events (sound-start limits store)

stays-sound-without : (limits : Limits) (events : List Noted) → StaysSound limits (start limits) events
stays-sound-without limits events =
    let sound = stays-sound-with limits no_store events in
    let none = storeless-run limits (start limits) events (storeless-start limits) in (
      all-map _ _ (λ t p. (clients-alone limits t.before.routing p.0.0.1 p.1.0, clients-alone limits t.after.routing p.0.1.1 p.1.1)) (run_steps limits (start limits) events)
          (all-both _ _ (run_steps limits (start limits) events) none.0 sound.0),
      clients-alone limits (run_state limits (start limits) events).state none.1.1 sound.1,
    )

pub stays-sound : (limits : Limits) (store : Store) (events : List Noted) → IsBegun store → StaysSound limits (start_with limits store) events
stays-sound limits store events begun =
    elim begun [
      | inl none ↦ subst (λ (x : Store). StaysSound limits (start_with limits x) events) (sym none) (stays-sound-without limits events)
      | inr over ↦ subst (λ (x : Store). StaysSound limits (start_with limits x) events) (sym over.3) (stays-sound-with limits (opened_store over.0 over.1 over.2) events)
    ]
