use Rattle.std.proofs.Common.{sym, ◌∙◌}
use Rattle.mj_bridge.specs.BridgeRules.{Started}
use Rattle.mj_bridge.proofs.DeckLemmas.{run-is-over, started-run}
use Rattle.mj_bridge.proofs.bridge.Bridge.start.Goals as goal

pub returns-then-is_over-clause-run : goal.returns-then-is_over-clause-run
returns-then-is_over-clause-run c = run-is-over c.args.self.now.deck c.new-acts.result Started (sym c.is_over.ensures ∙ c.if-is_over.true) c.new-acts.ensures

pub returns-clause-run : goal.returns-clause-run
returns-clause-run c = started-run c.args.self.now.deck c.greet.new.self c.new-acts.result c.greet.new.out (sym c.is_over.ensures ∙ c.if-is_over.false) c.new-acts.ensures c.in_ok-greet.ensures.turn
