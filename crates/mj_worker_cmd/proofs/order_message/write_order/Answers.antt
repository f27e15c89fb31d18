use Rattle.std.proofs.Common.{rules}
use Rattle.mj_worker_cmd.proofs.OrderLemmas.{written_is_read}
use Rattle.mj_worker_cmd.proofs.order_message.write_order.Goals as goal

pub returns-clause-read : goal.returns-clause-read
returns-clause-read c = λ led. written_is_read c.args.order.now c.push_act.new.out led (search rules)
