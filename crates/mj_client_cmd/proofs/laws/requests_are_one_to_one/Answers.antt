use Rattle.mj_client_cmd.proofs.RequestLemmas.{one_list, one_request, read_law, written_request}
use Rattle.mj_client_cmd.proofs.laws.requests_are_one_to_one.Goals as goal

pub returns : goal.returns
returns c = record { list = one_list; request = one_request; read = read_law; written = written_request }
