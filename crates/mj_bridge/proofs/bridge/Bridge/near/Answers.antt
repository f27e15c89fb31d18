use Rattle.std.proofs.Common.{sym, ◌∙◌}
use Rattle.mj_bridge.specs.BridgeRules.{NearGave}
use Rattle.mj_bridge.proofs.DeckLemmas.{near-run, run-is-over}
use Rattle.mj_bridge.proofs.bridge.Bridge.near.Goals as goal

pub returns-then-is_over-clause-run : goal.returns-then-is_over-clause-run
returns-then-is_over-clause-run c = run-is-over c.args.self.now.deck c.new-acts.result (NearGave c.args.event) (sym c.is_over.ensures ∙ c.if-is_over.true) c.new-acts.ensures

pub returns-clause-run : goal.returns-clause-run
returns-clause-run c = near-run c.args.self.now.deck c.near_happen.new.self c.new-acts.result c.near_happen.new.out c.args.event (sym c.is_over.ensures ∙ c.if-is_over.false) c.new-acts.ensures c.in_ok-near_happen.ensures.turn
