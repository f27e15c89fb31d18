use Rattle.std.proofs.Common.{sym, ap, ◌∙◌}
use Rattle.mj_lanes.proofs.Steps.{sends}
use Rattle.mj_lanes.proofs.ends.SendEnd.send_slowly.Goals as goal

pub send_as-requires-clause-rule : goal.send_as-requires-clause-rule
send_as-requires-clause-rule g c = (sends g.K.Keyed.from _ _ _ _ c.self.invariant.1 (c.requires ∙ sym (ap (λ e. e.from) c.self.view_is)), λ _ _ _ _. tt)
