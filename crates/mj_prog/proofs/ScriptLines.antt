-- Laws of the lines of a text.
use Rattle.std.proofs.Common.{◌≡◌, ◌<◌, ◌+◌, ℕ, suc, Bool, true, false, cond, List, [], ◌∷◌, ◌++◌, length, take, drop, Option, Some, None, refl, sym, ap, ◌∙◌, subst, arith, nat_lt, ◌≤◌}
use Rattle.std.proofs.lemmas.Bool.Decides.{nat_tests}
use Rattle.mj_prog.proofs.Lists.{take-all}
use Rattle.std.specs.List.{position, position_or_len}
use Rattle.mj_prog.specs.Script.{is_newline, in_front, lines_of, before_end, ended_part}
use Rattle.mj_prog.specs.ReadSoFar.{HasNoNewline, IsFirstNewline}

-- a line and its newline are the first line
pub lines-newline : (line rest : List ℕ) → HasNoNewline line → lines_of (line ++ 10 ∷ rest) ≡ line ∷ lines_of rest
lines-newline [] rest none = refl
lines-newline (c ∷ cs) rest none = rw (none.0) (ap (in_front c) (lines-newline cs rest none.1))

-- bytes without a newline are one line
pub lines-last : (line : List ℕ) → HasNoNewline line → 0 < length line → lines_of line ≡ line ∷ []
lines-last [] none some = absurd (omega arith)
lines-last (c ∷ []) none some = rw (none.0) refl
lines-last (c ∷ d ∷ ds) none some = rw (none.0) (ap (in_front c) (lines-last (d ∷ ds) none.1 (omega arith)))

-- a newline behind the last line changes nothing
pub lines-ended : (xs line : List ℕ) → HasNoNewline line → 0 < length line → lines_of (xs ++ (line ++ 10 ∷ [])) ≡ lines_of (xs ++ line)
lines-ended [] line none some = lines-newline line [] none ∙ sym (lines-last line none some)
lines-ended (c ∷ cs) line none some = ap (λ (ls : List (List ℕ)). cond (is_newline c) ([] ∷ ls) (in_front c ls)) (lines-ended cs line none some)

in_front-more : (c : ℕ) (ls : List (List ℕ)) → (more : List ℕ) × (later : List (List ℕ)) × (in_front c ls ≡ (c ∷ more) ∷ later)
in_front-more c [] = ([], [], refl)
in_front-more c (l ∷ ls) = (l, ls, refl)

-- bytes without a newline are the front of the first line
pub lines-long : (line rest : List ℕ) → HasNoNewline line → 0 < length line
    → (more : List ℕ) × (later : List (List ℕ)) × (lines_of (line ++ rest) ≡ (line ++ more) ∷ later)
lines-long [] rest none some = absurd (omega arith)
lines-long (c ∷ []) rest none some =
    let h = in_front-more c (lines_of rest) in (h.0, h.1, rw (none.0) h.2)
lines-long (c ∷ d ∷ ds) rest none some =
    let h = lines-long (d ∷ ds) rest none.1 (omega arith) in (h.0, h.1, rw (none.0) (ap (in_front c) h.2))

ended-none : (p : List ℕ) → HasNoNewline p → ended_part p ≡ []
ended-none [] none = refl
ended-none (c ∷ cs) none = ap (before_end c) (ended-none cs none.1) ∙ rw (none.0) refl

before_end-more : (c : ℕ) (xs : List ℕ) → before_end c (xs ++ 10 ∷ []) ≡ c ∷ (xs ++ 10 ∷ [])
before_end-more c [] = refl
before_end-more c (d ∷ ds) = refl

-- what stands behind the last newline is no whole line
pub ended-newline : (xs p : List ℕ) → HasNoNewline p → ended_part (xs ++ 10 ∷ p) ≡ xs ++ 10 ∷ []
ended-newline [] p none = ap (before_end 10) (ended-none p none)
ended-newline (c ∷ cs) p none = ap (before_end c) (ended-newline cs p none) ∙ before_end-more c cs

pub ended-nothing : (p : List ℕ) → HasNoNewline p → ended_part p ≡ []
ended-nothing p none = ended-none p none

-- how many bytes stand before the first newline
abbrev before_newline : List ℕ → ℕ
before_newline xs = position_or_len is_newline xs

first-front_on : (b : Bool) (c : ℕ) (cs : List ℕ) → is_newline c ≡ b → HasNoNewline (take (before_newline cs) cs)
    → HasNoNewline (take (before_newline (c ∷ cs)) (c ∷ cs))
first-front_on true c cs e h = rw (e) tt
first-front_on false c cs e h =
    let one : 1 + before_newline cs ≡ suc (before_newline cs) = omega arith in
    rw (e) (rw (one) (e, h))

first-front : (xs : List ℕ) → HasNoNewline (take (before_newline xs) xs)
first-front [] = tt
first-front (c ∷ cs) = first-front_on (is_newline c) c cs refl (first-front cs)

newline-is : (c : ℕ) → is_newline c ≡ true → c ≡ 10
newline-is c e = grind (arith, nat_tests)

first-at_on : (b : Bool) (c : ℕ) (cs : List ℕ) → is_newline c ≡ b
    → (before_newline cs < length cs → cs ≡ take (before_newline cs) cs ++ 10 ∷ drop (suc (before_newline cs)) cs)
    → before_newline (c ∷ cs) < length (c ∷ cs)
    → c ∷ cs ≡ take (before_newline (c ∷ cs)) (c ∷ cs) ++ 10 ∷ drop (suc (before_newline (c ∷ cs))) (c ∷ cs)
first-at_on true c cs e h inside = rw (e) (ap (λ (n : ℕ). n ∷ cs) (newline-is c e))
first-at_on false c cs e h inside =
    let one : 1 + before_newline cs ≡ suc (before_newline cs) = omega arith in
    let count : before_newline (c ∷ cs) ≡ suc (before_newline cs) = rw (e) one in
    let less : before_newline cs < length cs = omega (arith, count) in
    rw (count) (ap (λ (xs : List ℕ). c ∷ xs) (h less))

first-at : (xs : List ℕ) → before_newline xs < length xs → xs ≡ take (before_newline xs) xs ++ 10 ∷ drop (suc (before_newline xs)) xs
first-at [] inside = absurd (omega arith)
first-at (c ∷ cs) inside = first-at_on (is_newline c) c cs refl (first-at cs) inside

first_by : (b : Bool) (xs : List ℕ) → nat_lt (before_newline xs) (length xs) ≡ b → IsFirstNewline xs (cond b (Some (before_newline xs)) None)
first_by true xs e =
    let inside : before_newline xs < length xs = grind (arith, nat_tests) in
    let next : before_newline xs + 1 ≡ suc (before_newline xs) = omega arith in
    (inside, first-front xs, rw (next) (first-at xs inside))
first_by false xs e =
    let outside : length xs ≤ before_newline xs = grind (arith, nat_tests) in
    subst HasNoNewline (take-all (before_newline xs) xs outside) (first-front xs)

-- where `position` finds the first newline
pub first-newline_is : (xs : List ℕ) → IsFirstNewline xs (position is_newline xs)
first-newline_is xs = first_by (nat_lt (before_newline xs) (length xs)) xs refl

pub first-newline_of : (xs : List ℕ) (place : Option ℕ) → place ≡ position is_newline xs → IsFirstNewline xs place
first-newline_of xs place e = subst (IsFirstNewline xs) (sym e) (first-newline_is xs)
