use Rattle.std.proofs.Common.{string_bytes}
use Rattle.mj_bridge_prog.proofs.WordLemmas.{few-words}
use Rattle.mj_bridge_prog.proofs.words.read_bridging.Goals as goal

pub returns-in_default-clause-exact : goal.returns-in_default-clause-exact
returns-in_default-clause-exact c = few-words string_bytes c.args.words.now c.in_default.len_below
