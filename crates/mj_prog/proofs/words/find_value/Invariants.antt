use Rattle.std.proofs.Common.{◌*◌, map, string_bytes, drop}
use Rattle.mj_words.specs.Options.{values_of}
use Rattle.mj_prog.specs.FoundValue.{IsFound}
use Rattle.mj_prog.proofs.words.find_value.Given as goal

abbrev pub invariant-loop-option : goal.invariant-loop-option
invariant-loop-option l =
    IsFound (map string_bytes l.words) l.found (values_of l.name (drop (2 * l.option) (map string_bytes l.words))) (values_of l.name (map string_bytes l.words))
