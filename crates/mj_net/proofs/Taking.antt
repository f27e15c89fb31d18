-- What the next entry makes of what the ports stand for.
use Rattle.std.proofs.Common.{◌≡◌, ◌≤◌, ◌<◌, ◌+◌, ◌-◌, ◌⊎◌, ◌||◌, Bool, true, false, List, [], ◌∷◌, ◌++◌, length, inl, inr, refl, sym, ap, ◌∙◌, arith, length-append}
use Rattle.std.proofs.lemmas.Bool.{cases_lt}
use Rattle.mj_base.specs.declared.event.Event.{Event}
use Rattle.mj_base.specs.declared.event.Event.TheVariants as events
use Rattle.mj_serve.specs.Given.{Entry, is_stop, taken_as}
use Rattle.mj_net.specs.Passing.{Took, PortsState, most_entries, passes}
use Rattle.mj_net.specs.Standing.{Stands}
use Rattle.mj_net.proofs.Passing.{stands-took, stands-full}

abbrev IsFull : PortsState → PortsState → Event → Type 0
IsFull old new e = (most_entries ≤ length old.taken) × (e ≡ events.Stop) × (new ≡ record old { stopped = true })

abbrev IsTaken : PortsState → PortsState → Event → Type 0
IsTaken old new e = (length old.taken < most_entries) × (new ≡ record { taken = old.taken ++ e ∷ []; lanes = passes old.lanes (Took e); stopped = old.stopped || is_stop e })

side : (old new : PortsState) (e : Event) → (length old.taken < most_entries) ⊎ (most_entries ≤ length old.taken) → (most_entries ≤ length old.taken → (e ≡ events.Stop) × (new ≡ record old { stopped = true }))
    → (length old.taken < most_entries → new ≡ record { taken = old.taken ++ e ∷ []; lanes = passes old.lanes (Took e); stopped = old.stopped || is_stop e })
    → IsTaken old new e ⊎ IsFull old new e
side old new e (inl some) full takes = inl (some, takes some)
side old new e (inr none) full takes = let f = full none in inr (none, f.0, f.1)

-- what a take of the ports' next entry says
abbrev pub Takes : PortsState → PortsState → Event → Type 0
Takes old new e =
    (most_entries ≤ length old.taken → (e ≡ events.Stop) × (new ≡ record old { stopped = true }))
    × (length old.taken < most_entries → new ≡ record { taken = old.taken ++ e ∷ []; lanes = passes old.lanes (Took e); stopped = old.stopped || is_stop e })

sides : (old new : PortsState) (e : Event) → Takes old new e → IsTaken old new e ⊎ IsFull old new e
sides old new e t = side old new e (cases_lt (length old.taken) most_entries) t.0 t.1

stands-side : (origin old new : PortsState) (e : Event) (taken : List Event) (given : List Entry) → old.stopped ≡ false → IsTaken old new e ⊎ IsFull old new e → Stands origin old taken given → Stands origin new (taken ++ taken_as e) given
stands-side origin old new e taken given none (inl t) s = stands-took origin old new e taken given none t.1 s
stands-side origin old new e taken given none (inr f) s = stands-full origin old new e taken given none f.0 f.1 f.2 s

pub stands-next : (origin old new : PortsState) (e : Event) (taken : List Event) (given : List Entry) → old.stopped ≡ false → Takes old new e → Stands origin old taken given → Stands origin new (taken ++ taken_as e) given
stands-next origin old new e taken given none t s = stands-side origin old new e taken given none (sides old new e t) s

after-going : (stopped b : Bool) → stopped ≡ false → (stopped || b) ≡ b
after-going true b none = cc
after-going false b none = refl

stopped-side : (old new : PortsState) (e : Event) → old.stopped ≡ false → IsTaken old new e ⊎ IsFull old new e → new.stopped ≡ is_stop e
stopped-side old new e none (inl t) = ap (λ (p : PortsState). p.stopped) t.1 ∙ after-going old.stopped (is_stop e) none
stopped-side old new e none (inr f) = ap (λ (p : PortsState). p.stopped) f.2 ∙ sym (ap is_stop f.1)

pub stopped-next : (old new : PortsState) (e : Event) → old.stopped ≡ false → Takes old new e → new.stopped ≡ is_stop e
stopped-next old new e none t = stopped-side old new e none (sides old new e t)

no-end : false ≡ true → ⊥
no-end e = cc

fewer-side : (old new : PortsState) (e : Event) → IsTaken old new e ⊎ IsFull old new e → is_stop e ≡ false → most_entries - length new.taken < most_entries - length old.taken
fewer-side old new e (inl t) going =
    let size : length new.taken ≡ length old.taken + 1 = ap (λ (p : PortsState). length p.taken) t.1 ∙ length-append old.taken (e ∷ []) in
    let some : length old.taken < most_entries = t.0 in omega arith
fewer-side old new e (inr f) going = absurd (no-end (sym going ∙ ap is_stop f.1))

pub fewer-next : (old new : PortsState) (e : Event) → Takes old new e → is_stop e ≡ false → most_entries - length new.taken < most_entries - length old.taken
fewer-next old new e t going = fewer-side old new e (sides old new e t) going

most-side : (old new : PortsState) (e : Event) → IsTaken old new e ⊎ IsFull old new e → most_entries - length new.taken ≤ most_entries - length old.taken
most-side old new e (inl t) =
    let size : length new.taken ≡ length old.taken + 1 = ap (λ (p : PortsState). length p.taken) t.1 ∙ length-append old.taken (e ∷ []) in omega arith
most-side old new e (inr f) = let size : length new.taken ≡ length old.taken = ap (λ (p : PortsState). length p.taken) f.2 in omega arith

pub most-next : (old new : PortsState) (e : Event) → Takes old new e → most_entries - length new.taken ≤ most_entries - length old.taken
most-next old new e t = most-side old new e (sides old new e t)
