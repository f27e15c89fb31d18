use Rattle.std.proofs.Common.{map, string_bytes, arith}
use Rattle.std.proofs.lemmas.List.{length-map}
use Rattle.mj_prog.proofs.OptionLaws.{too-few-words}
use Rattle.mj_prog.proofs.words.read_words.Goals as goal

pub returns-in_default-clause-exact : goal.returns-in_default-clause-exact
returns-in_default-clause-exact c = too-few-words (map string_bytes c.args.words.now) (omega (arith, c.in_default.len_below, length-map c.args.words.now string_bytes))
