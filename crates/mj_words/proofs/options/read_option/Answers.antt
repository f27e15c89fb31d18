use Rattle.std.proofs.Common.{map, string_bytes}
use Rattle.mj_words.specs.Options.{number_between, values_of}
use Rattle.mj_words.proofs.OptionLaws.{once-twice}
use Rattle.mj_words.proofs.options.read_option.Goals as goal

pub returns-in-Twice-clause-exact : goal.returns-in-Twice-clause-exact
returns-in-Twice-clause-exact c = once-twice c.args.default (number_between c.args.least c.args.most) (values_of c.args.name.now (map string_bytes c.args.words.now)) c.in-Twice.ensures
