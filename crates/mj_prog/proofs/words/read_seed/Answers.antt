use Rattle.std.proofs.Common.{map, string_bytes, codes, replicate}
use Rattle.mj_prog.specs.Words.{seed_of}
use Rattle.mj_words.specs.Options.{values_of}
use Rattle.mj_prog.proofs.OptionLaws.{once-twice}
use Rattle.mj_prog.proofs.words.read_seed.Goals as goal

pub returns-in-Twice : goal.returns-in-Twice
returns-in-Twice c = once-twice (replicate 32 0) seed_of (values_of (codes "--seed") (map string_bytes c.args.words.now)) c.in-Twice.ensures
