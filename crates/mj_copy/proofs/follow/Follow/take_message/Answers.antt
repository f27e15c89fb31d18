use Rattle.std.proofs.Common.{rules}
use Rattle.mj_copy.proofs.follow.Follow.take_message.Goals as goal

pub returns-in-End : goal.returns-in-End
returns-in-End c = rw c.in-End.is (search rules)
