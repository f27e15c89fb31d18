use Rattle.mj_peer_laws.proofs.ClientSightLemmas.{runs-are-right}
use Rattle.mj_peer_laws.proofs.laws.a_client_asks_on_ready_links_and_hands_out_its_replies.Goals as goal

pub returns : goal.returns
returns c = runs-are-right
