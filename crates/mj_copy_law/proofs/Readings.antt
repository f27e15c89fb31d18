-- What the bytes of a link begin with stays when more comes, unless it is the start of a message; and a message has a
-- byte at least.
use Rattle.std.proofs.Common.{◌≡◌, ℕ, ◌<◌, ◌≤◌, Bool, true, false, cond, ◌&&◌, ◌||◌, ◌==◌, List, [], ◌∷◌, ◌++◌, length, take, drop, Option, Some, None, refl, sym, ap, subst, ◌∙◌, arith, le-ltb, length-append, length-drop}
use Rattle.std.specs.Prelude.{nat_lt}
use Rattle.std.proofs.lemmas.Bool.{ltb-false}
use Rattle.std.proofs.lemmas.List.{take-append-le, drop-append-le}
use Rattle.mj_frame.specs.declared.head.HeadAnswer.{HeadAnswer}
use Rattle.mj_frame.specs.declared.head.HeadAnswer.TheVariants as answers
use Rattle.mj_frame.specs.HeadReading.{head_at}
use Rattle.mj_frame.proofs.HeadLemmas.{bad_stays, head_fits, head_stays}
use Rattle.mj_copy.specs.Messages.{Message, Reading, Short, Whole, Wrong, behind_head, headed, is_canonical, is_size, message_in, read_as, reading}

-- ---- more bytes

abbrev pub IsStill : List ℕ → Reading → Reading → Type 0
IsStill ys Short r = Unit {0}
IsStill ys Wrong r = r ≡ Wrong
IsStill ys (Whole m rest) r = r ≡ Whole m (rest ++ ys)

as_still : (ys rest : List ℕ) (found : Option Message) → IsStill ys (read_as found rest) (read_as found (rest ++ ys))
as_still ys rest None = refl
as_still ys rest (Some m) = refl

body_still : (size : ℕ) (octets ys : List ℕ) → IsStill ys (behind_head size octets) (behind_head size (octets ++ ys))
body_still size octets ys = of (nat_lt (length octets) size) refl
  where
    of : (b : Bool) → nat_lt (length octets) size ≡ b
        → IsStill ys (cond b Short (read_as (message_in (take size octets)) (drop size octets))) (behind_head size (octets ++ ys))
    of true e = tt
    of false e =
        let long : size ≤ length octets = (let l = ltb-false (length octets) size e in omega (arith, l)) in
        let far : nat_lt (length (octets ++ ys)) size ≡ false = le-ltb _ _ (omega (arith, length-append octets ys, long)) in
        let same : behind_head size (octets ++ ys) ≡ read_as (message_in (take size octets)) (drop size octets ++ ys) =
        ap (λ (b : Bool). cond b Short (read_as (message_in (take size (octets ++ ys))) (drop size (octets ++ ys)))) far
        ∙ ap (λ (x : List ℕ). read_as (message_in x) (drop size (octets ++ ys))) (take-append-le size octets ys long)
        ∙ ap (λ (x : List ℕ). read_as (message_in (take size octets)) x) (drop-append-le size octets ys long) in
        subst (λ (r : Reading). IsStill ys (read_as (message_in (take size octets)) (drop size octets)) r) (sym same) (as_still ys (drop size octets) (message_in (take size octets)))

sized_still : (b : Bool) (size n : ℕ) (octets ys : List ℕ) → n ≤ length octets
    → IsStill ys (cond b (behind_head size (drop n octets)) Wrong) (cond b (behind_head size (drop n (octets ++ ys))) Wrong)
sized_still false size n octets ys long = refl
sized_still true size n octets ys long =
    subst (λ (x : List ℕ). IsStill ys (behind_head size (drop n octets)) (behind_head size x)) (sym (drop-append-le n octets ys long)) (body_still size (drop n octets) ys)

head_still : (o : ℕ) (octets ys : List ℕ) (a : HeadAnswer) → head_at (o ∷ octets) ≡ a → IsStill ys (headed a (o ∷ octets)) (headed (head_at (o ∷ (octets ++ ys))) (o ∷ (octets ++ ys)))
head_still o octets ys answers.Short e = tt
head_still o octets ys answers.BadFlags e = ap (λ (a : HeadAnswer). headed a (o ∷ (octets ++ ys))) (bad_stays (o ∷ octets) ys e)
head_still o octets ys (answers.Head h n) e =
    let fits = head_fits o octets h n e in
    subst (λ (a : HeadAnswer). IsStill ys (headed (answers.Head h n) (o ∷ octets)) (headed a (o ∷ (octets ++ ys)))) (sym (head_stays (o ∷ octets) ys h n e))
    (sized_still (is_size h.size && is_canonical h.size n) h.size n (o ∷ octets) ys fits.0)

pub reading_still : (xs ys : List ℕ) → IsStill ys (reading xs) (reading (xs ++ ys))
reading_still [] ys = tt
reading_still (o ∷ octets) ys = of ((o == 0) || (o == 2))
  where
    of : (b : Bool) → IsStill ys (cond b (headed (head_at (o ∷ octets)) (o ∷ octets)) Wrong) (cond b (headed (head_at (o ∷ (octets ++ ys))) (o ∷ (octets ++ ys))) Wrong)
    of false = refl
    of true = head_still o octets ys (head_at (o ∷ octets)) refl

-- ---- a message's length

abbrev pub IsShorter : ℕ → Reading → Type 0
IsShorter n Short = Unit {0}
IsShorter n Wrong = Unit {0}
IsShorter n (Whole m rest) = length rest < n

as_shorter : (n : ℕ) (rest : List ℕ) (found : Option Message) → length rest < n → IsShorter n (read_as found rest)
as_shorter n rest None less = tt
as_shorter n rest (Some m) less = less

sized_shorter : (all : ℕ) (b : Bool) (size n : ℕ) (octets : List ℕ) → 0 < n → n ≤ length octets → length octets ≤ all → IsShorter all (cond b (behind_head size (drop n octets)) Wrong)
sized_shorter all false size n octets some long within = tt
sized_shorter all true size n octets some long within = of (nat_lt (length (drop n octets)) size)
  where
    of : (b : Bool) → IsShorter all (cond b Short (read_as (message_in (take size (drop n octets))) (drop size (drop n octets))))
    of true = tt
    of false =
        let less : length (drop size (drop n octets)) < all = omega (arith, length-drop size (drop n octets), length-drop n octets, some, long, within) in
        as_shorter all (drop size (drop n octets)) (message_in (take size (drop n octets))) less

head_shorter : (o : ℕ) (octets : List ℕ) (a : HeadAnswer) → head_at (o ∷ octets) ≡ a → IsShorter (length (o ∷ octets)) (headed a (o ∷ octets))
head_shorter o octets answers.Short e = tt
head_shorter o octets answers.BadFlags e = tt
head_shorter o octets (answers.Head h n) e =
    let fits = head_fits o octets h n e in
    sized_shorter (length (o ∷ octets)) (is_size h.size && is_canonical h.size n) h.size n (o ∷ octets) fits.1.0 fits.0 (let l : length (o ∷ octets) ≤ length (o ∷ octets) = omega arith in l)

pub reading_shorter : (xs : List ℕ) → IsShorter (length xs) (reading xs)
reading_shorter [] = tt
reading_shorter (o ∷ octets) = of ((o == 0) || (o == 2))
  where
    of : (b : Bool) → IsShorter (length (o ∷ octets)) (cond b (headed (head_at (o ∷ octets)) (o ∷ octets)) Wrong)
    of false = tt
    of true = head_shorter o octets (head_at (o ∷ octets)) refl
