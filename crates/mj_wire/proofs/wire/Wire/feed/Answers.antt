use Rattle.std.proofs.Common.{refl}
use Rattle.mj_wire.proofs.WireLemmas.{fed_stands, fed_items, fed_part}
use Rattle.mj_wire.proofs.SmallLemmas.{adds_small}
use Rattle.mj_wire.proofs.wire.Wire.feed.Goals as goal

pub returns-in-Err-clause-part : goal.returns-in-Err-clause-part
returns-in-Err-clause-part c =
    λ limits stream s. fed_part limits _ stream _ _ _ (rw (← c.self.view_is) at s) c.in-Err.ensures.part

pub returns-in-Ok-clause-stream : goal.returns-in-Ok-clause-stream
returns-in-Ok-clause-stream c = λ limits stream s.
    fed_stands limits _ _ stream _ _ _ (rw (← c.self.view_is) at s) c.in-Ok.ensures.read refl c.saturating_add-self-inside.ensures

pub returns-in-Ok-clause-items : goal.returns-in-Ok-clause-items
returns-in-Ok-clause-items c = λ limits stream s.
    fed_items limits _ _ stream _ _ _ _ (rw (← c.self.view_is) at s) c.in-Ok.ensures.read

pub returns-in-Ok-clause-small : goal.returns-in-Ok-clause-small
returns-in-Ok-clause-small c = rw (← c.self.view_is) (adds_small _ _ _ _ _ _ _ c.in-Ok.ensures.read)
