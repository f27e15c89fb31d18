use Rattle.std.proofs.Common.{◌≡◌, ◌*◌, map, string_bytes, drop}
use Rattle.mj_words.specs.Options.{are_options, is_among}
use Rattle.mj_words.proofs.options.are_options.Given as goal

abbrev pub invariant-loop-option : goal.invariant-loop-option
invariant-loop-option l = are_options (is_among l.one l.two l.three) (map string_bytes l.words) ≡ are_options (is_among l.one l.two l.three) (drop (2 * l.option) (map string_bytes l.words))
