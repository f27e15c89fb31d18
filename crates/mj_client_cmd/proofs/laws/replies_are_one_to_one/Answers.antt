use Rattle.mj_client_cmd.proofs.ReplyLemmas.{one_list, one_reply, read_law, written_reply}
use Rattle.mj_client_cmd.proofs.laws.replies_are_one_to_one.Goals as goal

pub returns : goal.returns
returns c = record { list = one_list; reply = one_reply; read = read_law; written = written_reply }
