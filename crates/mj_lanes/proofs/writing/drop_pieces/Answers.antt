use Rattle.std.proofs.Common.{[], ◌∷◌, ◌++◌, ap, ◌∙◌}
use Rattle.mj_lanes.specs.Passes.{WriterState}
use Rattle.mj_lanes.proofs.Loops.{dropped_more}
use Rattle.mj_lanes.proofs.writing.drop_pieces.Goals as goal

pub loop-preserved : goal.loop-preserved
loop-preserved g c =
    let i = c.loop.invariant in
    let some = c.in-Some-take_piece.ensures.some in (
      tt,
      tt,
      ap (λ (w : WriterState). w.inbox) some ∙ i.2,
      ap (λ (w : WriterState). w.lane) some ∙ i.3,
      ap (λ (w : WriterState). w.outlet) some ∙ i.4,
      ap (λ (w : WriterState). w.sent) some ∙ i.5,
      (i.6.0 ++ c.in-Some-take_piece._piece ∷ [], dropped_more _ _ _ i.6.0 c.in-Some-take_piece._piece i.6.1 (ap (λ (w : WriterState). w.taken) some)),
    )
