-- Machines that differ in the streams of connections that have left go on alike.
use Rattle.std.proofs.Common.{◌≡◌, ◌⊎◌, ◌==◌, ℕ, Bool, true, false, cond, List, [], ◌∷◌, ◌++◌, Option, None, Some, refl, sym, ap, subst, ◌∙◌, inl, inr}
use Rattle.std.specs.Option.{option_map, unwrap_or}
use Rattle.std.proofs.lemmas.Bool.Decides.{eqb_tells}
use Rattle.mj_base.specs.declared.event.Event.{Event}
use Rattle.mj_base.specs.declared.event.Event.TheVariants as events
use Rattle.mj_base.specs.declared.event.Out.{Out}
use Rattle.mj_base.specs.declared.limits.Limits.{Limits}
use Rattle.mj_wire.specs.StreamItems.{gained}
use Rattle.mj_wire.specs.declared.item.WireItem.{WireItem}
use Rattle.mj_machine.specs.StoreState.{Store}
use Rattle.mj_machine.specs.MachineState.{Machine, State, Stream, Whole, entered}
use Rattle.mj_machine.specs.Connections.{connection_of, number_on}
use Rattle.mj_machine.specs.EventStep.{Gains, Happening, Noted, Opens, fed, fed_by, gain_of, happening, happens, longer, outs_of, state_after, streams_after}
use Rattle.mj_machine.specs.MachineRun.{run_outs, run_state}
use Rattle.mj_machine.proofs.AbsentLemmas.{IsNoOpening, absent-happens, absent-opens}
use Rattle.mj_machine.proofs.StreamLemmas.{fed-other, fed-same, found_stream, there-on}

-- the same streams, but for those of connections that aren't there
abbrev pub SameStreams : State → List Stream → List Stream → Type 0
SameStreams s streams others = (n : ℕ) → (connection_of n s.connections ≡ None) ⊎ (found_stream n streams ≡ found_stream n others)

pub record AreAlike (m k : Machine) : Type 0 where
  pub state : m.state ≡ k.state
  pub store : m.store ≡ k.store
  pub streams : SameStreams m.state m.streams k.streams

pub alike-same : (m : Machine) → AreAlike m m
alike-same m = record { state = refl; store = refl; streams = λ n. inr refl }

pub alike-then : (m k l : Machine) → AreAlike m k → AreAlike k l → AreAlike m l
alike-then m k l one two = record {
  state = one.state ∙ two.state;
  store = one.store ∙ two.store;
  streams = λ n. elim (one.streams n) [
    | inl gone ↦ inl gone
    | inr same ↦ elim (two.streams n) [ inl gone ↦ inl (ap (λ (s : State). connection_of n s.connections) one.state ∙ gone) | inr again ↦ inr (same ∙ again) ]
  ];
}

-- a machine in parts
abbrev machine : State → Store → List Stream → Machine
machine s store streams = record { state = s; store = store; streams = streams }

-- ---- what happens

gain-same : (limits : Limits) (o : Option ℕ) (lane : ℕ) (piece : List ℕ) (s : State) (streams others : List Stream) → number_on lane s.connections ≡ o
    → SameStreams s streams others → gain_of limits o piece streams ≡ gain_of limits o piece others
gain-same limits None lane piece s streams others on same = refl
gain-same limits (Some n) lane piece s streams others on same =
    elim (same n) [
      | inl gone ↦ absurd (there-on lane n s.connections on gone)
      | inr agree ↦ ap (λ (o : Option Stream). gained limits (unwrap_or (option_map (λ t. t.octets) o) []) piece) agree
    ]

happening-same : (limits : Limits) (s : State) (store : Store) (streams others : List Stream) (event : Event) → SameStreams s streams others
    → happening limits (machine s store streams) event ≡ happening limits (machine s store others) event
happening-same limits s store streams others (events.Open lane) same = refl
happening-same limits s store streams others (events.Bytes lane piece) same =
    ap (λ (gain : List WireItem). Gains lane gain) (gain-same limits (number_on lane s.connections) lane piece s streams others refl same)
happening-same limits s store streams others (events.Sent lane) same = refl
happening-same limits s store streams others (events.Close lane) same = refl
happening-same limits s store streams others (events.Tick ms) same = refl
happening-same limits s store streams others events.Stop same = refl

-- ---- streams after it

still-same : (h : Happening) → IsNoOpening h → (w : Whole) (streams others : List Stream) → SameStreams w.routing streams others → SameStreams (happens h w).0.routing streams others
still-same h quietly w streams others same n = elim (same n) [ inl gone ↦ inl (absent-happens h quietly w n gone) | inr agree ↦ inr agree ]

fed-alike : (o : Option ℕ) (piece : List ℕ) (n : ℕ) (streams others : List Stream) → found_stream n streams ≡ found_stream n others
    → found_stream n (fed_by o piece streams) ≡ found_stream n (fed_by o piece others)
fed-alike None piece n streams others same = same
fed-alike (Some q) piece n streams others same =
    elim (eqb_tells n q) [
      | inl is ↦ subst (λ (x : ℕ). found_stream n (fed x piece streams) ≡ found_stream n (fed x piece others)) is.1
          (fed-same n piece streams ∙ ap (λ (o : Option Stream). option_map (longer piece) o) same ∙ sym (fed-same n piece others))
      | inr other ↦ fed-other q n piece other.1 streams ∙ same ∙ sym (fed-other q n piece other.1 others)
    ]

streams-by : (limits : Limits) (w : Whole) (streams others : List Stream) (event : Event) → SameStreams w.routing streams others
    → SameStreams (happens (happening limits (machine w.routing w.store streams) event) w).0.routing (streams_after (machine w.routing w.store streams) event)
    (streams_after (machine w.routing w.store others) event)
streams-by limits w streams others (events.Open lane) same n = by (w.routing.next == n) refl
  where
    by : (b : Bool) → (w.routing.next == n) ≡ b → (connection_of n (happens (Opens lane) w).0.routing.connections ≡ None)
        ⊎ (cond {A = Option Stream} b (Some (record { number = w.routing.next; octets = [] })) (found_stream n streams)
        ≡ cond {A = Option Stream} b (Some (record { number = w.routing.next; octets = [] })) (found_stream n others))
    by true is = inr refl
    by false is =
        elim (same n) [
          | inl gone ↦ inl (absent-opens lane w n (λ next. cc (is, equal-next next)) gone)
          | inr agree ↦ inr agree
        ]
      where
        equal-next : n ≡ w.routing.next → (w.routing.next == n) ≡ true
        equal-next next = elim (eqb_tells w.routing.next n) [ inl same ↦ same.0 | inr other ↦ absurd (other.1 (sym next)) ]
streams-by limits w streams others (events.Bytes lane piece) same n =
    elim (same n) [
      | inl gone ↦ inl (absent-happens (happening limits (machine w.routing w.store streams) (events.Bytes lane piece)) tt w n gone)
      | inr agree ↦ inr (fed-alike (number_on lane w.routing.connections) piece n streams others agree)
    ]
streams-by limits w streams others (events.Sent lane) same n = still-same (happening limits (machine w.routing w.store streams) (events.Sent lane)) tt w streams others same n
streams-by limits w streams others (events.Close lane) same n = still-same (happening limits (machine w.routing w.store streams) (events.Close lane)) tt w streams others same n
streams-by limits w streams others (events.Tick ms) same n = still-same (happening limits (machine w.routing w.store streams) (events.Tick ms)) tt w streams others same n
streams-by limits w streams others events.Stop same n = still-same (happening limits (machine w.routing w.store streams) events.Stop) tt w streams others same n

-- ---- runs

alike-event : (limits : Limits) (s : State) (store : Store) (streams others : List Stream) (e : Noted) → SameStreams s streams others
    → AreAlike (state_after limits (machine s store streams) e) (state_after limits (machine s store others) e)
    × (outs_of limits (machine s store streams) e ≡ outs_of limits (machine s store others) e)
alike-event limits s store streams others e same =
    let h = happening-same limits s store streams others e.event same in
    let w = entered s store e.notes in (
      record {
        state = ap (λ (x : Happening). (happens x w).0.routing) h;
        store = ap (λ (x : Happening). (happens x w).0.store) h;
        streams = streams-by limits w streams others e.event same;
      },
      ap (λ (x : Happening). (happens x w).1) h,
    )

pub alike-after : (limits : Limits) (m k : Machine) (e : Noted) → AreAlike m k
    → AreAlike (state_after limits m e) (state_after limits k e) × (outs_of limits m e ≡ outs_of limits k e)
alike-after limits m k e alike =
    subst
    (λ (c : Store). AreAlike (state_after limits m e) (state_after limits (machine k.state c k.streams) e) × (outs_of limits m e ≡ outs_of limits (machine k.state c k.streams) e))
    alike.store
    (subst
    (λ (s : State). AreAlike (state_after limits m e) (state_after limits (machine s m.store k.streams) e) × (outs_of limits m e ≡ outs_of limits (machine s m.store k.streams) e))
    alike.state (alike-event limits m.state m.store m.streams k.streams e alike.streams))

pub alike-run : (limits : Limits) (m k : Machine) (rest : List Noted) → AreAlike m k
    → (run_outs limits m rest ≡ run_outs limits k rest) × ((run_state limits m rest).state ≡ (run_state limits k rest).state)
alike-run limits m k [] alike = (refl, alike.state)
alike-run limits m k (e ∷ rest) alike =
    let now = alike-after limits m k e alike in
    let then_on = alike-run limits (state_after limits m e) (state_after limits k e) rest now.0 in (
      ap (λ (xs : List Out). xs ++ run_outs limits (state_after limits m e) rest) now.1 ∙ ap (λ (xs : List Out). outs_of limits k e ++ xs) then_on.0,
      then_on.1,
    )
