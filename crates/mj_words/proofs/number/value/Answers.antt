use Rattle.std.proofs.Common.{◌≡◌, ◌<◌, true, arith, rules}
use Rattle.std.specs.List.{list_all}
use Rattle.mj_words.specs.Numbers.{is_digit}
use Rattle.mj_words.proofs.Digits.{below-pow, digit-at}
use Rattle.mj_words.proofs.number.value.Goals as goal

pub overflow_mul-value : goal.overflow_mul-value
overflow_mul-value c =
    let few : c.loop-c.c-index < 19 = omega arith in
    let small = below-pow c.loop-c.value c.loop-c.c-index c.loop-c.invariant.small few in
    omega (arith, small)

pub overflow_add-value : goal.overflow_add-value
overflow_add-value c =
    let few : c.loop-c.c-index < 19 = omega arith in
    let small = below-pow c.loop-c.value c.loop-c.c-index c.loop-c.invariant.small few in
    let all : list_all is_digit c.args.digits.now ≡ true = search rules in
    let digit = digit-at c.args.digits.now c.loop-c.c-index all c.loop-c-test.true in
    omega (arith, small, digit, c.from.ensures)
