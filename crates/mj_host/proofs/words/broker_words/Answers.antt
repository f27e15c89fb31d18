use Rattle.std.proofs.Common.{string_bytes, arith}
use Rattle.mj_host.proofs.WordLaws.{too-few}
use Rattle.mj_host.proofs.words.broker_words.Goals as goal

pub returns-in_default-clause-exact : goal.returns-in_default-clause-exact
returns-in_default-clause-exact c = too-few string_bytes c.args.words.now (omega (arith, c.in_default.len_below))
