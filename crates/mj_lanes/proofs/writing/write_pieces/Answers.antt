use Rattle.std.proofs.Common.{◌≡◌, ℕ, [], ◌∷◌, ◌++◌, append-nil, ap, ◌∙◌}
use Rattle.std.proofs.Math.Nat.{le_trans}
use Rattle.mj_base.specs.declared.event.Event.TheVariants.{Sent}
use Rattle.mj_lanes.specs.Passes.{WriterState}
use Rattle.mj_lanes.proofs.Loops.{wrote_one, wrote_front, nothing_added}
use Rattle.mj_lanes.proofs.writing.write_pieces.Goals as goal

pub returns-in-NoMemory-clause-writes : goal.returns-in-NoMemory-clause-writes
returns-in-NoMemory-clause-writes g c =
    let some = c.in-Some-take_piece.ensures.some in
    let made = c.in-NoMemory.ensures in
    wrote_front _ _ _ _ _ _ _ _ _ _ c.in-Some-take_piece.piece c.loop.invariant.5 (ap (λ (w : WriterState). w.taken) made.sent ∙ ap (λ (w : WriterState). w.taken) some)
    (ap (λ (w : WriterState). w.sent) made.sent ∙ append-nil c.take_piece.new.self.sent ∙ ap (λ (w : WriterState). w.sent) some) (nothing_added c.args.pass.now.lane _ _ c.in-Some-take_piece.piece made.octets)

pub returns-in-Failed-clause-writes : goal.returns-in-Failed-clause-writes
returns-in-Failed-clause-writes g c =
    let some = c.in-Some-take_piece.ensures.some in
    let made = c.in-Failed.ensures in
    wrote_front _ _ _ _ _ _ _ _ _ _ c.in-Some-take_piece.piece c.loop.invariant.5 (ap (λ (w : WriterState). w.taken) made.sent ∙ ap (λ (w : WriterState). w.taken) some)
    (ap (λ (w : WriterState). w.sent) made.sent ∙ append-nil c.take_piece.new.self.sent ∙ ap (λ (w : WriterState). w.sent) some) made.octets

pub loop-preserved : goal.loop-preserved
loop-preserved g c =
    let i = c.loop.invariant in
    let some = c.in-Some-take_piece.ensures.some in
    let made = c.in-Done.ensures in
    let sends : c.write_piece.new.pass.sent ≡ c.loop.pass.sent ++ Sent c.args.pass.now.lane ∷ []
    = ap (λ (w : WriterState). w.sent) made.sent ∙ ap (λ (w : WriterState). w.sent ++ Sent w.lane ∷ []) some ∙ ap (λ (n : ℕ). c.loop.pass.sent ++ Sent n ∷ []) i.3 in (
      tt,
      tt,
      ap (λ (w : WriterState). w.inbox) made.sent ∙ ap (λ (w : WriterState). w.inbox) some ∙ i.2,
      ap (λ (w : WriterState). w.lane) made.sent ∙ ap (λ (w : WriterState). w.lane) some ∙ i.3,
      ap (λ (w : WriterState). w.outlet) made.sent ∙ ap (λ (w : WriterState). w.outlet) some ∙ i.4,
      wrote_one _ _ _ _ _ _ _ _ _ _ c.in-Some-take_piece.piece i.5 (ap (λ (w : WriterState). w.taken) made.sent ∙ ap (λ (w : WriterState). w.taken) some) sends made.octets,
      le_trans i.6 made.later,
    )
