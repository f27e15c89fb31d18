use Rattle.std.proofs.Common.{◌≡◌, ◌+◌, ◌*◌, ◌/◌, [], length, get_or, map, string_bytes, drop, ℕ, List, ap, sym, ◌∙◌, subst, arith}
use Rattle.std.specs.Str.{bytes_eq}
use Rattle.mj_prog.specs.declared.words.Found.{Found}
use Rattle.mj_words.specs.Options.{values_of}
use Rattle.mj_prog.specs.FoundValue.{IsFound}
use Rattle.mj_prog.proofs.OptionLaws.{word-at, option-inside, found-step, found-other, found-end}
use Rattle.mj_prog.proofs.words.find_value.Goals as goal
use Rattle.mj_prog.proofs.words.find_value.Goals.{then-eq, else-eq}

pub loop-option-preserved : goal.loop-option-preserved
loop-option-preserved c =
    let words = map string_bytes c.args.words.now in
    let name = c.args.name.now in
    let i = c.loop-option.option in
    let inside = option-inside string_bytes c.args.words.now i c.loop-option-test.true in
    let word = word-at string_bytes c.args.words.now (2 * i) c.index-words-option.result (omega arith) c.index-words-option.is in
    let is_named : bytes_eq (get_or words (2 * i) []) name ≡ c.eq.result = ap (λ (text : List ℕ). bytes_eq text name) (word ∙ sym c.as_str.ensures.value) ∙ sym c.eq.ensures in
    let holds = λ (found : Found). IsFound words found (values_of name (drop (2 * (i + 1)) words)) (values_of name words) in
    elim c.if-eq.branch [
      | then-eq w ↦ subst holds (sym (w.found-is ∙ w.one_more-found.ensures)) (found-step words name i c.loop-option.found (values_of name words) inside (is_named ∙ w.if-eq.true) c.loop-option.invariant)
      | else-eq w ↦ subst holds (sym w.found-is) (found-other words name i c.loop-option.found (values_of name words) inside (is_named ∙ w.if-eq.false) c.loop-option.invariant)
    ]

pub returns : goal.returns
returns c =
    let words = map string_bytes c.args.words.now in
    let name = c.args.name.now in
    let over : c.loop-option.option ≡ length c.args.words.now / 2 = omega arith in
    found-end string_bytes c.args.words.now name c.loop-option.found (values_of name words)
    (subst (λ (i : ℕ). IsFound words c.loop-option.found (values_of name (drop (2 * i) words)) (values_of name words)) over c.loop-option.invariant)
