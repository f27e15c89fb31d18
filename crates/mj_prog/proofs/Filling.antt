-- Laws of a buffer that was grown, read into and cut.
use Rattle.std.proofs.Common.{◌≡◌, ◌≤◌, ◌+◌, ℕ, List, ◌++◌, length, take, drop, Option, sym, ap, ◌∙◌, arith, take-append-drop}
use Rattle.std.proofs.lemmas.List.{length-take-le, length-drop}
use Rattle.std.proofs.Math.Seq.{take-append-add, take-append_seam}
use Rattle.mj_prog.proofs.Lists.{take-all}
use Rattle.mj_base.specs.Reading.{ReadTakes}
use Rattle.mj_base.specs.declared.source.ReadAnswer.{ReadAnswer}
use Rattle.mj_base.specs.declared.source.ReadAnswer.TheVariants as reads
use Rattle.mj_prog.specs.ReadSoFar.{Fills, filled_of, filled_count}

-- the buffer's first bytes, and those behind them
take-more : (at n : ℕ) (xs : List ℕ) → at ≤ length xs → take (at + n) xs ≡ take at xs ++ take n (drop at xs)
take-more at n xs inside =
    let count : at + n ≡ length (take at xs) + n = omega (arith, length-take-le at xs inside) in
    ap (take (at + n)) (sym (take-append-drop at xs)) ∙ ap (λ (m : ℕ). take m (take at xs ++ drop at xs)) count ∙ take-append-add (take at xs) (drop at xs) n

kept-front : (at : ℕ) (xs : List ℕ) (old : List ℕ) → take at xs ≡ old → take (at + 0) xs ≡ old
kept-front at xs old kept = let e : at + 0 ≡ at = omega arith in rw e kept

pub fill-of : (l new : Option (List ℕ)) (most at : ℕ) (old buffer final : List ℕ) (answer : ReadAnswer) → length buffer ≡ at + most → take at buffer ≡ old
    → ReadTakes l new answer (drop at buffer) → final ≡ take (at + filled_count (filled_of answer)) buffer → Fills l new most old final (filled_of answer)
fill-of l new most at old buffer final (reads.Got n) size kept takes cut =
    let room : length (drop at buffer) ≡ most = omega (arith, length-drop at buffer) in (
      takes.0,
      omega (arith, takes.1),
      (take n (drop at buffer), cut ∙ take-more at n buffer (omega arith) ∙ ap (λ (xs : List ℕ). xs ++ take n (drop at buffer)) kept, length-take-le n (drop at buffer) takes.1, takes.2),
    )
fill-of l new most at old buffer final reads.End size kept takes cut = (cut ∙ kept-front at buffer old kept, takes.0, takes.1)
fill-of l new most at old buffer final reads.Failed size kept takes cut = (cut ∙ kept-front at buffer old kept, takes)

-- a slice that was handed out is the whole vector again
pub held : (n : ℕ) (buffer items : List ℕ) → n ≡ length buffer → take n (buffer ++ drop (length buffer) items) ≡ buffer
held n buffer items count = rw count (take-append_seam buffer (drop (length buffer) items))

-- a vector that was grown begins as before
pub grown-front : (at most : ℕ) (old items added : List ℕ) → at ≡ length old → items ≡ take (at + most) old ++ added → take at items ≡ old
grown-front at most old items added count grown =
    ap (take at) (grown ∙ ap (λ (xs : List ℕ). xs ++ added) (take-all (at + most) old (omega arith)))
    ∙ ap (λ (n : ℕ). take n (old ++ added)) count ∙ take-append_seam old added
