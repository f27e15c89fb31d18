use Rattle.std.proofs.Common.{string_bytes}
use Rattle.mj_copy_prog.proofs.WordLemmas.{few_words}
use Rattle.mj_copy_prog.proofs.words.read_tries.Goals as goal

pub returns-in_default : goal.returns-in_default
returns-in_default c = record { exact = few_words string_bytes c.args.command.now c.args.words.now c.in_default.len_below }
