use Rattle.mj_wire.proofs.LongestLemmas.{longest_read, longest_exists, longest_is_one}
use Rattle.mj_wire.proofs.laws.longest_cut_is_read.Goals as goal

pub returns : goal.returns
returns c = record { read = longest_read; exists = longest_exists; one = longest_is_one }
