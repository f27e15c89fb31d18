-- A front of a message and of what follows reads as this message, or as the start of one.
use Rattle.std.proofs.Common.{◌≡◌, ℕ, ◌<◌, ◌≤◌, ◌^◌, ◌⊎◌, Bool, true, false, cond, ◌&&◌, List, [], ◌∷◌, ◌++◌, length, take, drop, Option, Some, None, refl, ap, ◌∙◌, inl, inr, ⊎_elim, arith, eqb, ltb, lt-ltb, le-ltb, append_assoc, length-append}
use Rattle.std.specs.Int.{from_be_bytes, to_be_bytes, w64}
use Rattle.std.proofs.lemmas.Bool.{cases_lt}
use Rattle.std.proofs.lemmas.Bool.Decides.{nat_tests}
use Rattle.std.proofs.lemmas.Nat.{from_be_bytes-to_be_bytes_8}
use Rattle.std.proofs.Math.Seq.{take-append_seam, drop-append_seam}
use Rattle.mj_frame.specs.declared.head.Head.{Head}
use Rattle.mj_frame.specs.declared.head.HeadAnswer.{HeadAnswer}
use Rattle.mj_frame.specs.FrameSpelling.{IsHead, long_head, short_head}
use Rattle.mj_frame.specs.HeadReading.{head_at, head_from}
use Rattle.mj_frame.proofs.HeadLemmas.{every_head_is_read}
use Rattle.mj_copy.specs.Messages.{Message, Base, Have, Send, End, Reading, Short, Whole, Wrong, Fits, base_in, behind_head, body_of, headed, is_canonical, is_size, lettered, message_in, number, number_in, numbered, read_as, reading}
use Rattle.mj_copy_law.specs.MessageLaws.{FrontsAreRead, WrittenIsRead}

-- what follows cs, where xs is as long
pub split : (cs xs ys more : List ℕ) → length cs ≤ length xs → xs ++ ys ≡ cs ++ more → (rest : List ℕ) × (xs ≡ cs ++ rest) × (rest ++ ys ≡ more)
split [] xs ys more long e = (xs, refl, e)
split (c ∷ cs) [] ys more long e = absurd (omega arith)
split (c ∷ cs) (x ∷ xs) ys more long e =
    let same : x ≡ c = cc in
    let tail : xs ++ ys ≡ cs ++ more = cc in
    let r = split cs xs ys more (omega arith) tail in
    (r.0, ap (λ (z : ℕ). z ∷ xs) same ∙ ap (λ (z : List ℕ). c ∷ z) r.1, r.2)

-- ---- numbers

pub length-number : (n : ℕ) → length (number n) ≡ 8
unfolding number
length-number n = refl

pub number_back : (n : ℕ) (rest : List ℕ) → n < 2 ^ 64 → number_in (take 8 (number n ++ rest)) ≡ n
unfolding number number_in
number_back n rest small = from_be_bytes-to_be_bytes_8 n small

pub number_behind : (n : ℕ) (rest : List ℕ) → drop 8 (number n ++ rest) ≡ rest
unfolding number
number_behind n rest = refl

number_alone : (n : ℕ) → n < 2 ^ 64 → number_in (take 8 (number n)) ≡ n
unfolding number number_in
number_alone n small = from_be_bytes-to_be_bytes_8 n small

-- ---- bodies

eight : (letter : ℕ) (rest : List ℕ) → length rest ≡ 8 → lettered letter rest ≡ numbered letter (number_in (take 8 rest))
eight letter rest e =
    ap (λ (n : ℕ). cond (eqb n 0) (cond (eqb letter 69) (Some End) None)
    (cond (eqb n 8) (numbered letter (number_in (take 8 rest))) (cond (eqb letter 83 && ltb 8 n) (Some (Send (number_in (take 8 rest)) (drop 8 rest))) None))) e

more : (rest : List ℕ) → 8 < length rest → lettered 83 rest ≡ Some (Send (number_in (take 8 rest)) (drop 8 rest))
more rest long = grind (arith, nat_tests)

base_fits : (base : ℕ) → 1 ≤ base → base ≤ 2 ^ 61 → base_in base ≡ Some (Base base)
base_fits base from to = grind (arith, nat_tests)

small_base : (base : ℕ) → base ≤ 2 ^ 61 → base < 2 ^ 64
small_base base to = omega arith

pub body_read : (m : Message) → Fits m → message_in (body_of m) ≡ Some m
body_read (Base base) fits = eight 66 (number base) (length-number base) ∙ ap base_in (number_alone base (small_base base fits.1)) ∙ base_fits base fits.0 fits.1
body_read (Have count) fits = eight 72 (number count) (length-number count) ∙ ap (λ (n : ℕ). Some (Have n)) (number_alone count fits)
body_read (Send at payload) fits =
    let long : 8 < length (number at ++ payload) = omega (arith, length-append (number at) payload, length-number at, fits.1) in
    more (number at ++ payload) long
    ∙ ap (λ (n : ℕ). Some (Send n (drop 8 (number at ++ payload)))) (number_back at payload fits.0)
    ∙ ap (λ (p : List ℕ). Some (Send at p)) (number_behind at payload)
body_read End fits = refl

-- ---- sizes

is_nine : (n : ℕ) → n ≡ 9 → is_size n ≡ true
is_nine n e = ap is_size e

is_between : (n : ℕ) → 10 ≤ n → n ≤ 2097161 → is_size n ≡ true
is_between n from to = grind (arith, nat_tests)

pub sized : (m : Message) → Fits m → is_size (length (body_of m)) ≡ true
sized (Base base) fits = is_nine (length (body_of (Base base))) (omega (arith, length-number base))
sized (Have count) fits = is_nine (length (body_of (Have count))) (omega (arith, length-number count))
sized (Send at payload) fits =
    is_between (length (body_of (Send at payload))) (omega (arith, length-append (number at) payload, length-number at, fits.1)) (omega (arith, length-append (number at) payload, length-number at, fits.2))
sized End fits = refl

pub small_size : (m : Message) → Fits m → length (body_of m) < 2 ^ 64
small_size (Base base) fits = omega (arith, length-number base)
small_size (Have count) fits = omega (arith, length-number count)
small_size (Send at payload) fits = omega (arith, length-append (number at) payload, length-number at, fits.2)
small_size End fits = omega arith

-- ---- behind the head

abbrev pub Front : Message → List ℕ → List ℕ → Reading → Type 0
Front m ys tail r = (r ≡ Short) ⊎ ((rest : List ℕ) × (r ≡ Whole m rest) × (rest ++ ys ≡ tail))

behind_whole : (m : Message) (rest : List ℕ) → Fits m → behind_head (length (body_of m)) (body_of m ++ rest) ≡ Whole m rest
behind_whole m rest fits =
    let long : length (body_of m) ≤ length (body_of m ++ rest) = omega (arith, length-append (body_of m) rest) in
    ap (λ (b : Bool). cond b Short (read_as (message_in (take (length (body_of m)) (body_of m ++ rest))) (drop (length (body_of m)) (body_of m ++ rest)))) (le-ltb _ _ long)
    ∙ ap (λ (xs : List ℕ). read_as (message_in xs) (drop (length (body_of m)) (body_of m ++ rest))) (take-append_seam (body_of m) rest)
    ∙ ap (λ (xs : List ℕ). read_as (message_in (body_of m)) xs) (drop-append_seam (body_of m) rest)
    ∙ ap (λ (found : Option Message). read_as found rest) (body_read m fits)

behind : (m : Message) (xs ys tail : List ℕ) → Fits m → xs ++ ys ≡ body_of m ++ tail → Front m ys tail (behind_head (length (body_of m)) xs)
behind m xs ys tail fits e =
    ⊎_elim
    (λ short. inl (ap (λ (b : Bool). cond b Short (read_as (message_in (take (length (body_of m)) xs)) (drop (length (body_of m)) xs))) (lt-ltb _ _ short)))
    (λ long. let r = split (body_of m) xs ys tail long e in
    inr (r.0, ap (behind_head (length (body_of m))) r.1 ∙ behind_whole m r.0 fits, r.2))
    (cases_lt (length xs) (length (body_of m)))

-- ---- heads

abbrev pub head_of : Message → Head
head_of m = record { more = false; command = false; size = length (body_of m) }

-- behind a whole head
behind_it : (h : Head) (head xs : List ℕ) → IsHead h head → is_size h.size ≡ true → is_canonical h.size (length head) ≡ true → headed (head_at (head ++ xs)) (head ++ xs) ≡ behind_head h.size xs
behind_it h head xs is size spelling =
    ap (λ (a : HeadAnswer). headed a (head ++ xs)) (every_head_is_read h head xs is)
    ∙ ap (λ (b : Bool). cond (b && is_canonical h.size (length head)) (behind_head h.size (drop (length head) (head ++ xs))) Wrong) size
    ∙ ap (λ (b : Bool). cond b (behind_head h.size (drop (length head) (head ++ xs))) Wrong) spelling
    ∙ ap (behind_head h.size) (drop-append_seam head xs)

two : (size : ℕ) → size < 256 → is_canonical size 2 ≡ true
two size small = ap (λ (b : Bool). eqb 2 (cond b 2 9)) (lt-ltb _ _ small)

nine : (size : ℕ) → 256 ≤ size → is_canonical size 9 ≡ true
nine size large = ap (λ (b : Bool). eqb 9 (cond b 2 9)) (le-ltb _ _ large)

same_front : (m : Message) (ys tail : List ℕ) (r other : Reading) → r ≡ other → Front m ys tail other → Front m ys tail r
same_front m ys tail r other same (inl short) = inl (same ∙ short)
same_front m ys tail r other same (inr (rest, whole, left)) = inr (rest, same ∙ whole, left)

short_front : (m : Message) (xs ys tail : List ℕ) → Fits m → length (body_of m) < 256 → xs ++ ys ≡ short_head (head_of m) ++ (body_of m ++ tail) → Front m ys tail (reading xs)
unfolding head_at
short_front m [] ys tail fits small e = inl refl
short_front m (c ∷ []) ys tail fits small e =
    let flags : c ≡ 0 = cc in
    inl (ap (λ (z : ℕ). reading (z ∷ [])) flags)
short_front m (c ∷ d ∷ xs) ys tail fits small e =
    let flags : c ≡ 0 = cc in
    let size : d ≡ length (body_of m) = cc in
    let rest : xs ++ ys ≡ body_of m ++ tail = cc in
    let whole : reading (c ∷ d ∷ xs) ≡ behind_head (length (body_of m)) xs =
    ap (λ (z : ℕ). reading (z ∷ d ∷ xs)) flags ∙ ap (λ (z : ℕ). reading (0 ∷ z ∷ xs)) size
    ∙ behind_it (head_of m) (short_head (head_of m)) xs ((λ both. absurd (cc both.0)), inl (small, refl)) (sized m fits) (two (length (body_of m)) small) in
    same_front m ys tail _ _ whole (behind m xs ys tail fits rest)

long_start : (rest : List ℕ) → length rest < 8 → reading (2 ∷ rest) ≡ Short
unfolding head_at
long_start rest few = ap (λ (b : Bool). headed (head_from (record { more = false; long = true; command = false }) (cond b None (Some (from_be_bytes w64 (take 8 rest))))) (2 ∷ rest)) (lt-ltb _ _ few)

long_front : (m : Message) (xs ys tail : List ℕ) → Fits m → 256 ≤ length (body_of m) → xs ++ ys ≡ long_head (head_of m) ++ (body_of m ++ tail) → Front m ys tail (reading xs)
long_front m [] ys tail fits large e = inl refl
long_front m (c ∷ xs) ys tail fits large e =
    let flags : c ≡ 2 = cc in
    let rest : xs ++ ys ≡ to_be_bytes w64 (length (body_of m)) ++ (body_of m ++ tail) = cc in
    same_front m ys tail _ _ (ap (λ (z : ℕ). reading (z ∷ xs)) flags)
    (⊎_elim
    (λ few. inl (long_start xs few))
    (λ whole. let r = split (to_be_bytes w64 (length (body_of m))) xs ys (body_of m ++ tail) whole rest in
    same_front m ys tail _ _
    (ap (λ (z : List ℕ). reading (2 ∷ z)) r.1
    ∙ behind_it (head_of m) (long_head (head_of m)) r.0 ((λ both. absurd (cc both.0)), inr (small_size m fits, refl)) (sized m fits) (nine (length (body_of m)) large))
    (behind m r.0 ys tail fits r.2))
    (cases_lt (length xs) 8))

pub fronts_are_read : FrontsAreRead
fronts_are_read m xs ys tail fits e =
    ⊎_elim
    (λ small. short_front m xs ys tail fits small (e ∙ ap (λ (b : Bool). (cond b (short_head (head_of m)) (long_head (head_of m)) ++ body_of m) ++ tail) (lt-ltb _ _ small) ∙ append_assoc (short_head (head_of m)) (body_of m) tail))
    (λ large. long_front m xs ys tail fits large (e ∙ ap (λ (b : Bool). (cond b (short_head (head_of m)) (long_head (head_of m)) ++ body_of m) ++ tail) (le-ltb _ _ large) ∙ append_assoc (long_head (head_of m)) (body_of m) tail))
    (cases_lt (length (body_of m)) 256)

pub written_is_read : WrittenIsRead
written_is_read m rest fits =
    ⊎_elim
    (λ small. ap (λ (b : Bool). reading ((cond b (short_head (head_of m)) (long_head (head_of m)) ++ body_of m) ++ rest)) (lt-ltb _ _ small)
    ∙ ap reading (append_assoc (short_head (head_of m)) (body_of m) rest)
    ∙ behind_it (head_of m) (short_head (head_of m)) (body_of m ++ rest) ((λ both. absurd (cc both.0)), inl (small, refl)) (sized m fits) (two (length (body_of m)) small)
    ∙ behind_whole m rest fits)
    (λ large. ap (λ (b : Bool). reading ((cond b (short_head (head_of m)) (long_head (head_of m)) ++ body_of m) ++ rest)) (le-ltb _ _ large)
    ∙ ap reading (append_assoc (long_head (head_of m)) (body_of m) rest)
    ∙ behind_it (head_of m) (long_head (head_of m)) (body_of m ++ rest) ((λ both. absurd (cc both.0)), inr (small_size m fits, refl)) (sized m fits) (nine (length (body_of m)) large)
    ∙ behind_whole m rest fits)
    (cases_lt (length (body_of m)) 256)
