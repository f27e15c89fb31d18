-- Heads: what is read is spelled, what is spelled is read, and an answer that isn't Short stays.
use Rattle.std.proofs.Common.{◌≡◌, ◌≢◌, ℕ, zero, suc, ◌-◌, ◌<◌, ◌≤◌, ◌^◌, ◌↔◌, ◌⊎◌, Bool, true, false, not, ltb, IsTrue, List, [], ◌∷◌, ◌++◌, length, take, replicate, Option, Some, None, refl, sym, ap, subst, ◌∙◌, inl, inr, arith, length-append, lt-ltb, le-ltb, get_or-take, length-take}
use Rattle.std.proofs.lemmas.Bool.{cases_lt}
use Rattle.std.proofs.lemmas.List.{take-append-le, length-take-le, length-replicate, get_or_past}
use Rattle.std.proofs.Math.Seq.{take-append_seam}
use Rattle.std.proofs.lemmas.Nat.{be_bytes_8, from_be_bytes-to_be_bytes_8}
use Rattle.std.specs.Int.{from_be_bytes, to_be_bytes, w64}
use Rattle.mj_frame.specs.declared.head.Head.{Head}
use Rattle.mj_frame.specs.declared.head.Kind.{Kind}
use Rattle.mj_frame.specs.declared.head.HeadAnswer.{HeadAnswer}
use Rattle.mj_frame.specs.declared.head.HeadAnswer.TheVariants as answers
use Rattle.mj_frame.specs.FrameSpelling.{flags, IsKind, IsHead, short_head, long_head, IsBytes, StartsHead, StartsWrong}
use Rattle.mj_frame.specs.HeadReading.{IfHead, kind_of, long_size, size_of, head_from, head_behind, head_at}

-- ---- the flags byte, both ways

abbrev pub kind : Bool → Bool → Bool → Kind
kind more long command = record { more = more; long = long; command = command }

abbrev pub IsFlags : ℕ → Kind → Type 0
IsFlags o k = (o ≡ flags k.more k.long k.command) × IsKind k.more k.command

not_more : (command : Bool) → IsKind false command
not_more command = λ (p : IsTrue false × IsTrue command). let e = p.0 in cc

not_command : (more : Bool) → IsKind more false
not_command more = λ (p : IsTrue more × IsTrue false). let e = p.1 in cc

is_flags_along : (o : ℕ) (a k : Kind) → IsFlags o a → Some a ≡ Some k → IsFlags o k
is_flags_along o a k f e = let q : a ≡ k = cc in subst (λ (x : Kind). IsFlags o x) q f

pub kind_flags : (o : ℕ) (k : Kind) → kind_of o ≡ Some k → IsFlags o k
kind_flags zero k e = is_flags_along _ _ _ (refl, not_more false) e
kind_flags (suc zero) k e = is_flags_along _ _ _ (refl, not_command true) e
kind_flags (suc (suc zero)) k e = is_flags_along _ _ _ (refl, not_more false) e
kind_flags (suc (suc (suc zero))) k e = is_flags_along _ _ _ (refl, not_command true) e
kind_flags (suc (suc (suc (suc zero)))) k e = is_flags_along _ _ _ (refl, not_more true) e
kind_flags (suc (suc (suc (suc (suc zero))))) k e = cc
kind_flags (suc (suc (suc (suc (suc (suc zero)))))) k e = is_flags_along _ _ _ (refl, not_more true) e
kind_flags (suc (suc (suc (suc (suc (suc (suc o))))))) k e = cc

pub flags_kind : (more long command : Bool) → IsKind more command → kind_of (flags more long command) ≡ Some (kind more long command)
flags_kind true true true k = absurd (k (refl, refl))
flags_kind true false true k = absurd (k (refl, refl))
flags_kind true true false k = refl
flags_kind true false false k = refl
flags_kind false true true k = refl
flags_kind false false true k = refl
flags_kind false true false k = refl
flags_kind false false false k = refl

-- ---- the size

take_front : (bytes rest : List ℕ) (n : ℕ) → length bytes ≡ n → take n (bytes ++ rest) ≡ bytes
take_front bytes rest n l = subst (λ (m : ℕ). take m (bytes ++ rest) ≡ bytes) l (take-append_seam bytes rest)

long_size_of : (bytes rest : List ℕ) (n : ℕ) → length bytes ≡ 8 → from_be_bytes w64 bytes ≡ n → long_size (bytes ++ rest) ≡ Some n
long_size_of bytes rest n l e =
    let t : ltb (length (bytes ++ rest)) 8 ≡ false = le-ltb _ _ (omega (arith, length-append bytes rest)) in
    rw t (ap (λ (b : List ℕ). Some (from_be_bytes w64 b)) (take_front bytes rest 8 l) ∙ ap (λ (m : ℕ). Some m) e)

long_size_none : (rest : List ℕ) → length rest < 8 → long_size rest ≡ None
long_size_none rest l = let t : ltb (length rest) 8 ≡ true = lt-ltb _ _ l in rw t refl

long_size_some : (rest : List ℕ) → 8 ≤ length rest → long_size rest ≡ Some (from_be_bytes w64 (take 8 rest))
long_size_some rest l = let t : ltb (length rest) 8 ≡ false = le-ltb _ _ l in rw t refl

long_size_stays : (rest more : List ℕ) → 8 ≤ length rest → long_size (rest ++ more) ≡ long_size rest
long_size_stays rest more l =
    let far : 8 ≤ length (rest ++ more) = omega (arith, length-append rest more) in
    long_size_some (rest ++ more) far ∙ ap (λ (b : List ℕ). Some (from_be_bytes w64 b)) (take-append-le 8 rest more l) ∙ sym (long_size_some rest l)

-- ---- what is spelled is read

read_spelled : (h : Head) (octets rest : List ℕ) → IsKind h.more h.command
    → ((h.size < 256) × (octets ≡ short_head h)) ⊎ ((h.size < 2 ^ 64) × (octets ≡ long_head h))
    → head_at (octets ++ rest) ≡ answers.Head h (length octets)
unfolding head_at
read_spelled h octets rest k (inl (small, e)) =
    let f = flags_kind h.more false h.command k in
    subst (λ (o : List ℕ). head_at (o ++ rest) ≡ answers.Head h (length o)) (sym e) (rw f refl)
read_spelled h octets rest k (inr (small, e)) =
    let f = flags_kind h.more true h.command k in
    let s = long_size_of (to_be_bytes w64 h.size) rest h.size refl (from_be_bytes-to_be_bytes_8 h.size small) in
    subst (λ (o : List ℕ). head_at (o ++ rest) ≡ answers.Head h (length o)) (sym e) (rw f (ap (λ (n : Option ℕ). head_from (kind h.more true h.command) n) s))

pub every_head_is_read : (h : Head) (octets rest : List ℕ) → IsHead h octets → head_at (octets ++ rest) ≡ answers.Head h (length octets)
every_head_is_read h octets rest s = read_spelled h octets rest s.0 s.1

-- ---- what is read is spelled

pub bytes_take : (n : ℕ) (xs : List ℕ) → IsBytes xs → IsBytes (take n xs)
bytes_take n xs b i =
    elim (cases_lt i n) [
      | inl lt ↦ rw (get_or-take n xs i 0 lt) (b i)
      | inr le ↦ let p : length (take n xs) ≤ i = omega (arith, length-take n xs) in rw (get_or_past (take n xs) i 0 p) (omega arith)
    ]

value_bound : (bytes : List ℕ) → IsBytes bytes → from_be_bytes w64 bytes < 2 ^ 64
value_bound bytes b = omega (arith, b 0, b 1, b 2, b 3, b 4, b 5, b 6, b 7)

abbrev pub Reads : List ℕ → HeadAnswer → Type 0
Reads octets answer = IfHead answer (λ h n. (n ≤ length octets) × IsHead h (take n octets))

long_reads : (o : ℕ) (rest : List ℕ) (more command : Bool) → IsBytes rest → o ≡ flags more true command → IsKind more command
    → Reads (o ∷ rest) (head_from (kind more true command) (long_size rest))
long_reads o rest more command b e k =
    elim (cases_lt (length rest) 8) [
      | inl lt ↦ rw (long_size_none rest lt) tt
      | inr le ↦
          let size = from_be_bytes w64 (take 8 rest) in
          let cells : to_be_bytes w64 (from_be_bytes w64 (take 8 rest)) ≡ take 8 rest = be_bytes_8 (take 8 rest) _ (length-take-le 8 rest le) (bytes_take 8 rest b) refl in
          let bound : from_be_bytes w64 (take 8 rest) < 2 ^ 64 = value_bound (take 8 rest) (bytes_take 8 rest b) in
          let long : 9 ≤ length (o ∷ rest) = omega arith in
          rw (long_size_some rest le) (long, (k, inr (bound, (ap (λ (x : ℕ). x ∷ take 8 rest) e ∙ ap (λ (xs : List ℕ). flags more true command ∷ xs) (sym cells)))))
    ]

size_reads : (o : ℕ) (rest : List ℕ) (more long command : Bool) → IsBytes (o ∷ rest) → o ≡ flags more long command → IsKind more command
    → Reads (o ∷ rest) (head_from (kind more long command) (size_of long rest))
size_reads o [] more false command b e k = tt
size_reads o (size ∷ rest) more false command b e k =
    let long : 2 ≤ length (o ∷ size ∷ rest) = omega arith in
    (long, (k, inl (b 1, ap (λ (x : ℕ). x ∷ size ∷ []) e)))
size_reads o rest more true command b e k = long_reads o rest more command (λ i. b (suc i)) e k

kind_reads : (o : ℕ) (rest : List ℕ) → IsBytes (o ∷ rest) → (answer : Option Kind) → kind_of o ≡ answer → Reads (o ∷ rest) (head_behind answer rest)
kind_reads o rest b None e = tt
kind_reads o rest b (Some k) e = let f = kind_flags o k e in size_reads o rest k.more k.long k.command b f.0 f.1

pub found_is_spelled : (octets : List ℕ) → IsBytes octets → Reads octets (head_at octets)
unfolding head_at
found_is_spelled [] b = tt
found_is_spelled (o ∷ rest) b = kind_reads o rest b (kind_of o) refl

-- ---- Short: a proper front of some head

bytes_append : (xs ys : List ℕ) → IsBytes xs → IsBytes ys → IsBytes (xs ++ ys)
bytes_append [] ys a b i = b i
bytes_append (x ∷ xs) ys a b zero = a 0
bytes_append (x ∷ xs) ys a b (suc i) = bytes_append xs ys (λ j. a (suc j)) b i

zeros : (n : ℕ) → IsBytes (replicate n 0)
zeros zero i = omega arith
zeros (suc n) zero = omega arith
zeros (suc n) (suc i) = zeros n i

abbrev head_with : Bool → Bool → ℕ → Head
head_with more command size = record { more = more; command = command; size = size }

not_nil : (n : ℕ) → 0 < n → replicate {A = ℕ} n 0 ≢ []
not_nil n p e = let l : length (replicate {A = ℕ} n 0) ≡ 0 = ap length e in omega (arith, length-replicate {A = ℕ} n 0)

starts_long : (o : ℕ) (rest : List ℕ) (more command : Bool) → IsBytes rest → o ≡ flags more true command → IsKind more command → length rest < 8
    → StartsHead (o ∷ rest)
starts_long o rest more command b e k lt =
    let long : length (rest ++ replicate (8 - length rest) 0) ≡ 8 = omega (arith, length-append rest (replicate (8 - length rest) 0), length-replicate {A = ℕ} (8 - length rest) 0) in
    let small : IsBytes (rest ++ replicate (8 - length rest) 0) = bytes_append rest _ b (zeros (8 - length rest)) in
    let cells : to_be_bytes w64 (from_be_bytes w64 (rest ++ replicate (8 - length rest) 0)) ≡ rest ++ replicate (8 - length rest) 0 = be_bytes_8 _ _ long small refl in
    let bound : from_be_bytes w64 (rest ++ replicate (8 - length rest) 0) < 2 ^ 64 = value_bound _ small in
    let pos : 0 < 8 - length rest = omega arith in (
      head_with more command (from_be_bytes w64 (rest ++ replicate (8 - length rest) 0)),
      replicate (8 - length rest) 0,
      not_nil _ pos,
      (
        k,
        inr (
          bound,
          (ap (λ (x : ℕ). x ∷ (rest ++ replicate (8 - length rest) 0)) e ∙ ap (λ (xs : List ℕ). flags more true command ∷ xs) (sym cells)),
        ),
      ),
    )

starts_size : (o : ℕ) (rest : List ℕ) (more long command : Bool) → IsBytes rest → o ≡ flags more long command → IsKind more command
    → head_from (kind more long command) (size_of long rest) ≡ answers.Short → StartsHead (o ∷ rest)
starts_size o [] more false command b e k short =
    let bound : 0 < 256 = omega arith in
    (head_with more command 0, 0 ∷ [], (λ n. cc), (k, inl (bound, ap (λ (x : ℕ). x ∷ 0 ∷ []) e)))
starts_size o (size ∷ rest) more false command b e k short = cc
starts_size o rest more true command b e k short =
    elim (cases_lt (length rest) 8) [
      | inl lt ↦ starts_long o rest more command b e k lt
      | inr le ↦ let found = rw (long_size_some rest le) at short in cc
    ]

starts_kind : (o : ℕ) (rest : List ℕ) → IsBytes rest → (answer : Option Kind) → kind_of o ≡ answer → head_behind answer rest ≡ answers.Short → StartsHead (o ∷ rest)
starts_kind o rest b None e short = cc
starts_kind o rest b (Some k) e short = let f = kind_flags o k e in starts_size o rest k.more k.long k.command b f.0 f.1 short

short_starts : (octets : List ℕ) → IsBytes octets → head_at octets ≡ answers.Short → StartsHead octets
unfolding head_at
short_starts [] b e =
    let bound : 0 < 256 = omega arith in
    (head_with false false 0, 0 ∷ 0 ∷ [], (λ n. cc), (not_more false, inl (bound, refl)))
short_starts (o ∷ rest) b e = starts_kind o rest (λ i. b (suc i)) (kind_of o) refl e

nil_front : (os rest : List ℕ) (n : ℕ) → rest ≢ [] → length (os ++ rest) ≡ n → length os < n
nil_front os [] n ne l = absurd (ne refl)
nil_front os (x ∷ rest) n ne l = omega (arith, length-append os (x ∷ rest))

short_of_size : (o : ℕ) (os rest : List ℕ) (more command : Bool) (size : ℕ) → rest ≢ [] → IsKind more command
    → o ∷ (os ++ rest) ≡ flags more false command ∷ size ∷ [] → head_at (o ∷ os) ≡ answers.Short
unfolding head_at
short_of_size o [] rest more command size ne k e =
    let first : o ≡ flags more false command = cc in
    rw first (rw (flags_kind more false command k) refl)
short_of_size o (x ∷ os) rest more command size ne k e =
    let tail : (x ∷ os) ++ rest ≡ size ∷ [] = cc in
    absurd (omega (arith, nil_front (x ∷ os) rest 1 ne (ap length tail)))

short_of_long : (o : ℕ) (os rest cells : List ℕ) (more command : Bool) → rest ≢ [] → IsKind more command → length cells ≡ 8
    → o ∷ (os ++ rest) ≡ flags more true command ∷ cells → head_at (o ∷ os) ≡ answers.Short
unfolding head_at
short_of_long o os rest cells more command ne k l e =
    let first : o ≡ flags more true command = cc in
    let tail : os ++ rest ≡ cells = cc in
    let lt : length os < 8 = nil_front os rest 8 ne (ap length tail ∙ l) in
    rw first (rw (flags_kind more true command k) (rw (long_size_none os lt) refl))

starts_short : (octets : List ℕ) → StartsHead octets → head_at octets ≡ answers.Short
unfolding head_at
starts_short [] s = refl
starts_short (o ∷ os) (h, rest, ne, (k, inl (small, e))) = short_of_size o os rest h.more h.command h.size ne k e
starts_short (o ∷ os) (h, rest, ne, (k, inr (small, e))) = short_of_long o os rest (to_be_bytes w64 h.size) h.more h.command ne k refl e

pub short_exactly : (octets : List ℕ) → IsBytes octets → (head_at octets ≡ answers.Short) ↔ StartsHead octets
short_exactly octets b = (short_starts octets b, starts_short octets)

-- ---- BadFlags: the first byte is wrong

size_no_bad : (k : Kind) (size : Option ℕ) → head_from k size ≢ answers.BadFlags
size_no_bad k None e = cc
size_no_bad k (Some n) e = cc

kind_wrong : (o : ℕ) (rest : List ℕ) (answer : Option Kind) → kind_of o ≡ answer → head_behind answer rest ≡ answers.BadFlags → StartsWrong (o ∷ rest)
kind_wrong o rest None e bad = λ more long command k is. let f = flags_kind more long command k in let g : kind_of o ≡ Some (kind more long command) = rw is f in cc
kind_wrong o rest (Some k) e bad = absurd (size_no_bad k _ bad)

wrong_kind : (o : ℕ) (rest : List ℕ) (answer : Option Kind) → kind_of o ≡ answer → StartsWrong (o ∷ rest) → head_behind answer rest ≡ answers.BadFlags
wrong_kind o rest None e w = refl
wrong_kind o rest (Some k) e w = let f = kind_flags o k e in absurd (w k.more k.long k.command f.1 f.0)

bad_wrong : (octets : List ℕ) → head_at octets ≡ answers.BadFlags → StartsWrong octets
unfolding head_at
bad_wrong [] e = cc
bad_wrong (o ∷ rest) e = kind_wrong o rest (kind_of o) refl e

wrong_bad : (octets : List ℕ) → StartsWrong octets → head_at octets ≡ answers.BadFlags
unfolding head_at
wrong_bad [] w = absurd w
wrong_bad (o ∷ rest) w = wrong_kind o rest (kind_of o) refl w

pub bad_exactly : (octets : List ℕ) → (head_at octets ≡ answers.BadFlags) ↔ StartsWrong octets
bad_exactly octets = (bad_wrong octets, wrong_bad octets)

-- ---- an answer that isn't Short stays

size_stays : (more long command : Bool) (rest behind : List ℕ) (h : Head) (n : ℕ) → head_from (kind more long command) (size_of long rest) ≡ answers.Head h n
    → head_from (kind more long command) (size_of long (rest ++ behind)) ≡ answers.Head h n
size_stays more false command [] behind h n e = cc
size_stays more false command (size ∷ rest) behind h n e = e
size_stays more true command rest behind h n e =
    elim (cases_lt (length rest) 8) [
      | inl lt ↦ let none = rw (long_size_none rest lt) at e in cc
      | inr le ↦ rw (long_size_stays rest behind le) e
    ]

kind_stays : (answer : Option Kind) (rest behind : List ℕ) (h : Head) (n : ℕ) → head_behind answer rest ≡ answers.Head h n → head_behind answer (rest ++ behind) ≡ answers.Head h n
kind_stays None rest behind h n e = e
kind_stays (Some k) rest behind h n e = size_stays k.more k.long k.command rest behind h n e

pub head_stays : (octets behind : List ℕ) (h : Head) (n : ℕ) → head_at octets ≡ answers.Head h n → head_at (octets ++ behind) ≡ answers.Head h n
unfolding head_at
head_stays [] behind h n e = cc
head_stays (o ∷ rest) behind h n e = kind_stays (kind_of o) rest behind h n e

kind_bad_stays : (answer : Option Kind) (rest behind : List ℕ) → head_behind answer rest ≡ answers.BadFlags → head_behind answer (rest ++ behind) ≡ answers.BadFlags
kind_bad_stays None rest behind e = e
kind_bad_stays (Some k) rest behind e = absurd (size_no_bad k _ e)

pub bad_stays : (octets behind : List ℕ) → head_at octets ≡ answers.BadFlags → head_at (octets ++ behind) ≡ answers.BadFlags
unfolding head_at
bad_stays [] behind e = cc
bad_stays (o ∷ rest) behind e = kind_bad_stays (kind_of o) rest behind e

-- ---- a head is whole, and its first byte says whether it is a command's

abbrev Fits : ℕ → List ℕ → Head → ℕ → Type 0
Fits o rest h n = (n ≤ length (o ∷ rest)) × ((0 < n) × (ltb o 4 ≡ not h.command))

fits_along : (o : ℕ) (rest : List ℕ) (g h : Head) (m n : ℕ) → Fits o rest g m → answers.Head g m ≡ answers.Head h n → Fits o rest h n
fits_along o rest g h m n f e =
    let p : g ≡ h = cc in
    let q : m ≡ n = cc in
    subst (λ (x : Head). Fits o rest x n) p (subst (λ (x : ℕ). Fits o rest g x) q f)

first_of_kind : (more long command : Bool) → IsKind more command → ltb (flags more long command) 4 ≡ not command
first_of_kind true true true k = absurd (k (refl, refl))
first_of_kind true false true k = absurd (k (refl, refl))
first_of_kind true true false k = refl
first_of_kind true false false k = refl
first_of_kind false true true k = refl
first_of_kind false false true k = refl
first_of_kind false true false k = refl
first_of_kind false false false k = refl

size_fits : (o : ℕ) (rest : List ℕ) (more long command : Bool) (h : Head) (n : ℕ) → o ≡ flags more long command → IsKind more command
    → head_from (kind more long command) (size_of long rest) ≡ answers.Head h n → Fits o rest h n
size_fits o [] more false command h n f k e = cc
size_fits o (size ∷ rest) more false command h n f k e =
    let a : 2 ≤ length (o ∷ size ∷ rest) = omega arith in
    let b : 0 < 2 = omega arith in
    fits_along o (size ∷ rest) _ h 2 n (a, (b, (ap (λ (x : ℕ). ltb x 4) f ∙ first_of_kind more false command k))) e
size_fits o rest more true command h n f k e =
    elim (cases_lt (length rest) 8) [
      | inl lt ↦ let none = rw (long_size_none rest lt) at e in cc
      | inr le ↦
          let a : 9 ≤ length (o ∷ rest) = omega arith in
          let b : 0 < 9 = omega arith in
          fits_along o rest _ h 9 n (a, (b, (ap (λ (x : ℕ). ltb x 4) f ∙ first_of_kind more true command k))) (rw (long_size_some rest le) at e)
    ]

kind_fits : (o : ℕ) (rest : List ℕ) (answer : Option Kind) → kind_of o ≡ answer → (h : Head) (n : ℕ) → head_behind answer rest ≡ answers.Head h n → Fits o rest h n
kind_fits o rest None e h n a = cc
kind_fits o rest (Some k) e h n a = let f = kind_flags o k e in size_fits o rest k.more k.long k.command h n f.0 f.1 a

pub head_fits : (o : ℕ) (rest : List ℕ) (h : Head) (n : ℕ) → head_at (o ∷ rest) ≡ answers.Head h n → (n ≤ length (o ∷ rest)) × ((0 < n) × (ltb o 4 ≡ not h.command))
unfolding head_at
head_fits o rest h n e = kind_fits o rest (kind_of o) refl h n e
