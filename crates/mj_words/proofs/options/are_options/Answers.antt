use Rattle.std.proofs.Common.{◌≡◌, ◌*◌, ◌/◌, true, false, [], length, get_or, map, string_bytes, drop, ℕ, ap, sym, ◌∙◌, arith}
use Rattle.mj_words.specs.Options.{are_options, is_among}
use Rattle.mj_words.proofs.OptionLaws.{word-at, option-inside, options-step, options-unknown, options-end}
use Rattle.mj_words.proofs.options.are_options.Goals as goal

pub returns-then-not-is_option : goal.returns-then-not-is_option
returns-then-not-is_option c =
    let known = is_among c.args.one.now c.args.two.now c.args.three.now in
    let words = map string_bytes c.args.words.now in
    let i = c.loop-option.option in
    let name = word-at string_bytes c.args.words.now (2 * i) c.index-words-option.result (omega arith) c.index-words-option.is in
    let unknown : known (get_or words (2 * i) []) ≡ false = ap known (name ∙ sym c.as_str.ensures.value) ∙ sym c.is_option.ensures ∙ c.if-not-is_option.true in
    sym (c.loop-option.invariant ∙ options-unknown known words i (option-inside string_bytes c.args.words.now i c.loop-option-test.true) unknown)

pub loop-option-preserved : goal.loop-option-preserved
loop-option-preserved c =
    let known = is_among c.args.one.now c.args.two.now c.args.three.now in
    let words = map string_bytes c.args.words.now in
    let i = c.loop-option.option in
    let name = word-at string_bytes c.args.words.now (2 * i) c.index-words-option.result (omega arith) c.index-words-option.is in
    let is : known (get_or words (2 * i) []) ≡ true = ap known (name ∙ sym c.as_str.ensures.value) ∙ sym c.is_option.ensures ∙ c.if-not-is_option.false in
    c.loop-option.invariant ∙ options-step known words i (option-inside string_bytes c.args.words.now i c.loop-option-test.true) is

pub returns : goal.returns
returns c =
    let known = is_among c.args.one.now c.args.two.now c.args.three.now in
    let words = map string_bytes c.args.words.now in
    let over : c.loop-option.option ≡ length c.args.words.now / 2 = omega arith in
    sym (c.loop-option.invariant ∙ ap (λ (i : ℕ). are_options known (drop (2 * i) words)) over ∙ options-end known string_bytes c.args.words.now)
