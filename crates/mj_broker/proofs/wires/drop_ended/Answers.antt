use Rattle.std.proofs.Common.{rules}
use Rattle.std.proofs.lemmas.Fn.{filter_same}
use Rattle.mj_broker.proofs.wires.drop_ended.Goals as goal

pub returns-then-not-are_there : goal.returns-then-not-are_there
returns-then-not-are_there c = filter_same _ _ _ (λ x b f' k. search rules) _ _ c.retain.ensures.filtered
