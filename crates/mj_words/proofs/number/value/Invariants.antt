use Rattle.std.proofs.Common.{◌≡◌, ◌<◌, ◌^◌, drop}
use Rattle.mj_words.specs.Numbers.{digits_onto}
use Rattle.mj_words.proofs.number.value.Given as goal

abbrev pub invariant-loop-c : goal.invariant-loop-c
invariant-loop-c l = record {
  small : l.value < 10 ^ l.c-index;
  same : digits_onto l.value (drop l.c-index l.digits) ≡ digits_onto 0 l.digits;
}
