use Rattle.mj_worker_cmd.proofs.OrderLemmas.{one_list, one_order, read_law, written_order}
use Rattle.mj_worker_cmd.proofs.laws.orders_are_one_to_one.Goals as goal

pub returns : goal.returns
returns c = record { list = one_list; order = one_order; read = read_law; written = written_order }
