use Rattle.mj_bridge.proofs.SightLemmas.{runs-are-right}
use Rattle.mj_bridge.proofs.laws.a_bridge_answers_each_request_on_its_link.Goals as goal

pub returns : goal.returns
returns c = runs-are-right
