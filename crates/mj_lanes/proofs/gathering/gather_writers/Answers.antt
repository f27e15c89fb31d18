use Rattle.std.proofs.Common.{◌≡◌, ℕ, ◌-◌, take, ap, append-nil, [], ◌∷◌, ◌++◌, Some, subst, sym, ◌∙◌}
use Rattle.std.proofs.lemmas.List.Elements.{All-pop}
use Rattle.mj_base.specs.declared.event.Event.{Event}
use Rattle.mj_lanes.specs.Rule.{of, Begins}
use Rattle.mj_lanes.specs.Senders.{sender_of, writer}
use Rattle.mj_lanes.specs.Ends.{TakeState}
use Rattle.mj_lanes.specs.Passes.{WriterState, OutletState}
use Rattle.mj_lanes.proofs.Families.{all-last, zip-last, zip-with-last, zip-too-short}
use Rattle.mj_lanes.proofs.gathering.gather_writers.Goals as goal

abbrev IsOf : WriterState → OutletState → Type 0
IsOf w o = w.outlet ≡ o.name

pub unreachable-requires : goal.unreachable-requires
unreachable-requires g c =
    let none = c.in_default-pop.ensures in
    let empty : c.loop-pass.outlets.items ≡ [] = none.items ∙ append-nil c.pop-in-Some.new.self.items ∙ none.rest ∙ ap (λ (n : ℕ). take (n - 1) c.loop-pass.outlets.items) none.cases.0 in
    zip-too-short IsOf c.loop-pass.writers.items _ c.loop-pass.outlets.items c.in-Some.pass c.in-Some.ensures.items empty c.loop-pass.invariant.2

pub gather_writer-requires-clause-inbox : goal.gather_writer-requires-clause-inbox
gather_writer-requires-clause-inbox g c =
    let i = c.loop-pass.invariant in
    (All-pop (λ (w : WriterState). w.inbox ≡ c.args.inbox.now.name) _ _ (Some c.in-Some.pass) c.in-Some.ensures.items i.1).1 ∙ sym (ap (λ (t : TakeState Event). t.name) i.0)

pub gather_writer-requires-clause-outlet : goal.gather_writer-requires-clause-outlet
gather_writer-requires-clause-outlet g c = (zip-last IsOf _ _ _ _ c.in-Some.pass c.in-Some-pop.outlet c.in-Some.ensures.items c.in-Some-pop.ensures.items c.loop-pass.invariant.2).1

pub loop-pass-preserved : goal.loop-pass-preserved
loop-pass-preserved g c =
    let i = c.loop-pass.invariant in
    let Q : WriterState → Type 0 = λ w. Begins (of sender_of (writer w.lane) c.args.inbox.now.taken) w.sent in
    let P : WriterState → OutletState → Type 0 = λ w o. Begins w.taken o.put in
    let last : c.loop-pass.writers.items ≡ c.pop.new.self.items ++ c.in-Some.pass ∷ [] = c.in-Some.ensures.items in
    let last_outlet : c.loop-pass.outlets.items ≡ c.pop-in-Some.new.self.items ++ c.in-Some-pop.outlet ∷ [] = c.in-Some-pop.ensures.items in
    let here : Q c.in-Some.pass = subst (λ (t : TakeState Event). Begins (of sender_of (writer c.in-Some.pass.lane) t.taken) c.in-Some.pass.sent) i.0 c.gather_writer.ensures.sent in (
      c.gather_writer.ensures.same ∙ i.0,
      (All-pop (λ (w : WriterState). w.inbox ≡ c.args.inbox.now.name) _ _ (Some c.in-Some.pass) last i.1).0,
      (zip-last IsOf _ _ _ _ c.in-Some.pass c.in-Some-pop.outlet last last_outlet i.2).0,
      λ others. i.3 (all-last Q _ _ _ last here others),
      λ others. i.4 (zip-with-last P _ _ _ _ c.in-Some.pass c.in-Some-pop.outlet last last_outlet c.gather_writer.ensures.taken others),
    )
