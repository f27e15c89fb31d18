use Rattle.std.proofs.Common.{[], ◌∷◌, ◌++◌, ap, ◌∙◌}
use Rattle.mj_base.specs.declared.event.Event.TheVariants.{Close}
use Rattle.mj_lanes.specs.Passes.{ReaderState}
use Rattle.mj_lanes.proofs.Loops.{reads_all}
use Rattle.mj_lanes.proofs.reading.read_loop.Goals as goal

pub returns-clause-sent : goal.returns-clause-sent
returns-clause-sent g c =
    reads_all _ _ _ _ _ _ c.read_with_room-result.ensures.sent (ap (λ (p : ReaderState). p.sent) c.send.ensures ∙ ap (λ n. c.read_with_room-result.new.pass.sent ++ Close n ∷ []) (c.lane.ensures ∙ c.read_with_room-result.ensures.pass.1))
