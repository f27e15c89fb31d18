use Rattle.std.proofs.Common.{◌≡◌, [], ◌∷◌, ◌++◌, Some, subst, ◌∙◌}
use Rattle.std.proofs.lemmas.List.Elements.{All-pop}
use Rattle.mj_base.specs.declared.event.Event.{Event}
use Rattle.mj_lanes.specs.Rule.{of, Begins}
use Rattle.mj_lanes.specs.Senders.{sender_of, reader}
use Rattle.mj_lanes.specs.Ends.{TakeState}
use Rattle.mj_lanes.specs.Passes.{ReaderState}
use Rattle.mj_lanes.proofs.Families.{all-last}
use Rattle.mj_lanes.proofs.gathering.gather_readers.Goals as goal

pub loop-pass-preserved : goal.loop-pass-preserved
loop-pass-preserved g c =
    let i = c.loop-pass.invariant in
    let Q : ReaderState → Type 0 = λ p. Begins (of sender_of (reader p.lane) c.args.inbox.now.taken) p.sent in
    let last : c.loop-pass.lanes.items ≡ c.pop.new.self.items ++ c.in-Some.pass ∷ [] = c.in-Some.ensures.items in
    let here : Q c.in-Some.pass = subst (λ (t : TakeState Event). Begins (of sender_of (reader c.in-Some.pass.lane) t.taken) c.in-Some.pass.sent) i.0 c.gather_reader.ensures.begins in (
      c.gather_reader.ensures.same ∙ i.0,
      (All-pop (λ (p : ReaderState). p.inbox ≡ c.args.inbox.now.name) _ _ (Some c.in-Some.pass) last i.1).0,
      λ others. i.2 (all-last Q _ _ _ last here others),
    )
