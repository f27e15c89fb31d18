-- What is read as a message was written as it.
use Rattle.std.proofs.Common.{◌≡◌, ℕ, zero, suc, ◌<◌, ◌≤◌, ◌^◌, Bool, true, false, cond, ◌&&◌, ◌||◌, ◌==◌, List, [], ◌∷◌, ◌++◌, length, take, drop, Option, Some, None, refl, sym, ap, subst, ◌∙◌, inl, inr, arith, lt-ltb, ltb-true, eqb-true, length-drop, take-append-drop, append-nil, append_assoc}
use Rattle.std.specs.Prelude.{nat_le, nat_lt}
use Rattle.std.proofs.lemmas.Bool.{false≢true, ltb-false}
use Rattle.std.proofs.lemmas.Bool.Decides.{nat_tests}
use Rattle.std.proofs.lemmas.List.{length-take-le}
use Rattle.std.proofs.lemmas.Nat.{be_bytes_8}
use Rattle.mj_frame.specs.declared.head.Head.{Head}
use Rattle.mj_frame.specs.declared.head.HeadAnswer.{HeadAnswer}
use Rattle.mj_frame.specs.declared.head.HeadAnswer.TheVariants as answers
use Rattle.mj_frame.specs.FrameSpelling.{IsBytes, IsHead, canonical_head, flags, long_head, short_head}
use Rattle.mj_frame.specs.HeadReading.{head_at}
use Rattle.mj_frame.proofs.HeadLemmas.{Reads, bytes_take, found_is_spelled, head_fits}
use Rattle.mj_copy.specs.Messages.{Message, Base, Have, Send, End, Reading, Short, Whole, Wrong, Fits, base_in, behind_head, body_of, headed, is_canonical, is_size, lettered, message_in, number, number_in, numbered, read_as, reading}
use Rattle.mj_copy_law.specs.MessageLaws.{IsWritten, ReadIsWritten}

-- ---- numbers

-- eight bytes are the bytes of the number that they say
number_again : (octets : List ℕ) → length octets ≡ 8 → IsBytes octets → number (number_in octets) ≡ octets
unfolding number number_in
number_again octets long bytes = be_bytes_8 octets _ long bytes refl

number_bound : (octets : List ℕ) → IsBytes octets → number_in octets < 2 ^ 64
unfolding number_in
number_bound octets b = omega (arith, b 0, b 1, b 2, b 3, b 4, b 5, b 6, b 7)

bytes_drop : (n : ℕ) (xs : List ℕ) → IsBytes xs → IsBytes (drop n xs)
bytes_drop zero xs b = b
bytes_drop (suc n) [] b = b
bytes_drop (suc n) (x ∷ xs) b = bytes_drop n xs (λ i. b (suc i))

take_all : (xs : List ℕ) (n : ℕ) → length xs ≡ n → take n xs ≡ xs
take_all xs n e = let cut = take-append-drop n xs in by (drop n xs) refl cut
  where
    by : (rest : List ℕ) → drop n xs ≡ rest → take n xs ++ rest ≡ xs → take n xs ≡ xs
    by [] none cut = sym (append-nil (take n xs)) ∙ cut
    by (x ∷ rest) some cut = absurd (let l : length (drop n xs) ≡ length (x ∷ rest) = ap length some in omega (arith, length-drop n xs, l, e))

-- ---- bodies

-- a body of a lawful size is that of the message as which it is read, and can be written
record IsBody (body : List ℕ) (m : Message) : Type 0 where
  fits : Fits m
  same : body ≡ body_of m

abbrev IfBody : List ℕ → Option Message → Type 0
IfBody body None = Unit {0}
IfBody body (Some m) = IsBody body m

based : (rest : List ℕ) → length rest ≡ 8 → IsBytes rest → IfBody (66 ∷ rest) (base_in (number_in (take 8 rest)))
based rest long bytes = of (nat_le 1 (number_in (take 8 rest))) (nat_le (number_in (take 8 rest)) (2 ^ 61)) refl refl
  where
    whole : take 8 rest ≡ rest
    whole = take_all rest 8 long

    same : 66 ∷ rest ≡ 66 ∷ number (number_in (take 8 rest))
    same = ap (λ (x : List ℕ). 66 ∷ x) (sym (ap (λ (x : List ℕ). number (number_in x)) whole ∙ number_again rest long bytes))

    of : (a b : Bool) → nat_le 1 (number_in (take 8 rest)) ≡ a → nat_le (number_in (take 8 rest)) (2 ^ 61) ≡ b → IfBody (66 ∷ rest) (cond (a && b) (Some (Base (number_in (take 8 rest)))) None)
    of true true p q = record { fits = (grind (arith, nat_tests, p), grind (arith, nat_tests, q)); same = same }
    of true false p q = tt
    of false b p q = tt

numbers : (letter : ℕ) (rest : List ℕ) → length rest ≡ 8 → IsBytes rest → IfBody (letter ∷ rest) (numbered letter (number_in (take 8 rest)))
numbers letter rest long bytes = of (letter == 66) (letter == 72) refl refl
  where
    of : (b h : Bool) → (letter == 66) ≡ b → (letter == 72) ≡ h
        → IfBody (letter ∷ rest) (cond b (base_in (number_in (take 8 rest))) (cond h (Some (Have (number_in (take 8 rest)))) None))
    of true h p q = subst (λ (l : ℕ). IfBody (l ∷ rest) (base_in (number_in (take 8 rest)))) (sym (eqb-true letter 66 p)) (based rest long bytes)
    of false true p q =
        subst (λ (l : ℕ). IfBody (l ∷ rest) (Some (Have (number_in (take 8 rest))))) (sym (eqb-true letter 72 q))
        (record {
          fits = number_bound (take 8 rest) (bytes_take 8 rest bytes);
          same = ap (λ (x : List ℕ). 72 ∷ x) (sym (ap (λ (x : List ℕ). number (number_in x)) (take_all rest 8 long) ∙ number_again rest long bytes));
        })
    of false false p q = tt

sends : (rest : List ℕ) → 8 < length rest → length rest ≤ 2097160 → IsBytes rest → IsBody (83 ∷ rest) (Send (number_in (take 8 rest)) (drop 8 rest))
sends rest long few bytes =
    let eight : 8 ≤ length rest = omega (arith, long) in
    let some : 1 ≤ length (drop 8 rest) = omega (arith, length-drop 8 rest, long) in
    let most : length (drop 8 rest) ≤ 2097152 = omega (arith, length-drop 8 rest, few) in
    record {
      fits = (number_bound (take 8 rest) (bytes_take 8 rest bytes), some, most);
      same = ap (λ (x : List ℕ). 83 ∷ x)
          (sym (ap (λ (x : List ℕ). x ++ drop 8 rest) (number_again (take 8 rest) (length-take-le 8 rest eight) (bytes_take 8 rest bytes)) ∙ take-append-drop 8 rest));
    }

letters : (letter : ℕ) (rest : List ℕ) → length rest ≤ 2097160 → IsBytes rest → IfBody (letter ∷ rest) (lettered letter rest)
letters letter rest few bytes = of (length rest == 0) (letter == 69) (length rest == 8) (letter == 83) (nat_lt 8 (length rest)) refl refl refl refl refl
  where
    of : (none end eight send more : Bool) → (length rest == 0) ≡ none → (letter == 69) ≡ end → (length rest == 8) ≡ eight → (letter == 83) ≡ send → nat_lt 8 (length rest) ≡ more
        → IfBody (letter ∷ rest)
        (cond none (cond end (Some End) None) (cond eight (numbered letter (number_in (take 8 rest))) (cond (send && more) (Some (Send (number_in (take 8 rest)) (drop 8 rest))) None)))
    of true true eight send more n e g s m = record { fits = tt; same = ends rest (eqb-true (length rest) 0 n) (eqb-true letter 69 e) }
      where
        ends : (rest : List ℕ) → length rest ≡ 0 → letter ≡ 69 → letter ∷ rest ≡ 69 ∷ []
        ends [] l e = ap (λ (x : ℕ). x ∷ []) e
        ends (x ∷ rest) l e = absurd (omega (arith, l))
    of true false eight send more n e g s m = tt
    of false end true send more n e g s m = numbers letter rest (eqb-true (length rest) 8 g) bytes
    of false end false true true n e g s m =
        subst (λ (l : ℕ). IfBody (l ∷ rest) (Some (Send (number_in (take 8 rest)) (drop 8 rest)))) (sym (eqb-true letter 83 s)) (sends rest (ltb-true 8 (length rest) m) few bytes)
    of false end false true false n e g s m = tt
    of false end false false more n e g s m = tt

bodies : (body : List ℕ) → length body ≤ 2097161 → IsBytes body → IfBody body (message_in body)
bodies [] few bytes = tt
bodies (letter ∷ rest) few bytes = letters letter rest (omega (arith, few)) (λ i. bytes (suc i))

-- ---- behind the head

abbrev IfRead : List ℕ → Reading → Type 0
IfRead octets Short = Unit {0}
IfRead octets Wrong = Unit {0}
IfRead octets (Whole m rest) = IsWritten m rest octets

-- the head is the one that is written for a body of this size
abbrev IsOwnHead : ℕ → List ℕ → Type 0
IsOwnHead size head = head ≡ canonical_head (record { more = false; command = false; size = size })

as_read : (head octets : List ℕ) (size : ℕ) → size ≤ length octets → IsOwnHead size head → (found : Option Message) → IfBody (take size octets) found
    → IfRead (head ++ octets) (read_as found (drop size octets))
as_read head octets size long own None body = tt
as_read head octets size long own (Some m) body =
    let same = body.same in
    let sized : size ≡ length (body_of m) = sym (length-take-le size octets long) ∙ ap length same in
    record {
      fits = body.fits;
      octets_are = ap (λ (x : List ℕ). head ++ x) (sym (take-append-drop size octets) ∙ ap (λ (x : List ℕ). x ++ drop size octets) same)
          ∙ ap (λ (x : List ℕ). x ++ (body_of m ++ drop size octets)) (own ∙ ap (λ (n : ℕ). canonical_head (record { more = false; command = false; size = n })) sized)
          ∙ sym (append_assoc (canonical_head (record { more = false; command = false; size = length (body_of m) })) (body_of m) (drop size octets));
    }

few_of : (size : ℕ) → is_size size ≡ true → size ≤ 2097161
few_of size e = grind (arith, nat_tests, e)

body_read : (head octets : List ℕ) (size : ℕ) → IsBytes octets → is_size size ≡ true → IsOwnHead size head → IfRead (head ++ octets) (behind_head size octets)
body_read head octets size bytes lawful own = of (nat_lt (length octets) size) refl
  where
    of : (b : Bool) → nat_lt (length octets) size ≡ b → IfRead (head ++ octets) (cond b Short (read_as (message_in (take size octets)) (drop size octets)))
    of true e = tt
    of false e =
        let long : size ≤ length octets = (let l = ltb-false (length octets) size e in omega (arith, l)) in
        let few : length (take size octets) ≤ 2097161 = omega (arith, length-take-le size octets long, few_of size lawful) in
        as_read head octets size long own (message_in (take size octets)) (bodies (take size octets) few (bytes_take size octets bytes))

-- ---- the head

-- a flags byte of a message says neither that more follows nor that it is a command's
plain_short : (more command : Bool) → ((flags more false command == 0) || (flags more false command == 2)) ≡ true → (more ≡ false) × (command ≡ false)
plain_short false false e = (refl, refl)
plain_short true false e = absurd (false≢true e)
plain_short false true e = absurd (false≢true e)
plain_short true true e = absurd (false≢true e)

plain_long : (more command : Bool) → ((flags more true command == 0) || (flags more true command == 2)) ≡ true → (more ≡ false) × (command ≡ false)
plain_long false false e = (refl, refl)
plain_long true false e = absurd (false≢true e)
plain_long false true e = absurd (false≢true e)
plain_long true true e = absurd (false≢true e)

large : (size : ℕ) → is_canonical size 9 ≡ true → nat_lt size 256 ≡ false
large size e = of (nat_lt size 256) e
  where
    of : (b : Bool) → (9 == cond b 2 9) ≡ true → b ≡ false
    of true e = absurd (false≢true e)
    of false e = refl

own_short : (size : ℕ) → size < 256 → IsOwnHead size (short_head (record { more = false; command = false; size = size }))
own_short size small = sym (ap (λ (b : Bool). cond b (short_head (record { more = false; command = false; size = size })) (long_head (record { more = false; command = false; size = size }))) (lt-ltb size 256 small))

own_long : (size : ℕ) → is_canonical size 9 ≡ true → IsOwnHead size (long_head (record { more = false; command = false; size = size }))
own_long size e = sym (ap (λ (b : Bool). cond b (short_head (record { more = false; command = false; size = size })) (long_head (record { more = false; command = false; size = size }))) (large size e))

long_length : (h : Head) → length (long_head h) ≡ 9
long_length h = refl

-- the head of a message is the one that is written
own_head : (o : ℕ) (octets : List ℕ) (h : Head) (n : ℕ) → ((o == 0) || (o == 2)) ≡ true → n ≤ length (o ∷ octets) → 0 < n → IsHead h (take n (o ∷ octets)) → is_canonical h.size n ≡ true
    → IsOwnHead h.size (take n (o ∷ octets))
own_head o octets h zero plain long some spelled e = absurd (omega (arith, some))
own_head o octets h (suc n) plain long some (kind, inl (small, same)) e =
    let first : o ≡ flags h.more false h.command = cc in
    let p = plain_short h.more h.command (subst (λ (x : ℕ). ((x == 0) || (x == 2)) ≡ true) first plain) in
    let head : short_head h ≡ short_head (record { more = false; command = false; size = h.size }) =
    ap (λ (x : Bool). short_head (record { more = x; command = h.command; size = h.size })) p.0 ∙ ap (λ (x : Bool). short_head (record { more = false; command = x; size = h.size })) p.1 in
    same ∙ head ∙ own_short h.size small
own_head o octets h (suc n) plain long some (kind, inr (small, same)) e =
    let first : o ≡ flags h.more true h.command = cc in
    let p = plain_long h.more h.command (subst (λ (x : ℕ). ((x == 0) || (x == 2)) ≡ true) first plain) in
    let head : long_head h ≡ long_head (record { more = false; command = false; size = h.size }) =
    ap (λ (x : Bool). long_head (record { more = x; command = h.command; size = h.size })) p.0 ∙ ap (λ (x : Bool). long_head (record { more = false; command = x; size = h.size })) p.1 in
    let nine : suc n ≡ 9 = sym (length-take-le (suc n) (o ∷ octets) long) ∙ ap length same ∙ long_length h in
    same ∙ head ∙ own_long h.size (subst (λ (k : ℕ). is_canonical h.size k ≡ true) nine e)

head_read : (o : ℕ) (octets : List ℕ) → ((o == 0) || (o == 2)) ≡ true → IsBytes (o ∷ octets) → (a : HeadAnswer) → head_at (o ∷ octets) ≡ a → Reads (o ∷ octets) a → IfRead (o ∷ octets) (headed a (o ∷ octets))
head_read o octets plain bytes answers.Short e reads = tt
head_read o octets plain bytes answers.BadFlags e reads = tt
head_read o octets plain bytes (answers.Head h n) e (long, spelled) = of (is_size h.size) (is_canonical h.size n) refl refl
  where
    of : (a b : Bool) → is_size h.size ≡ a → is_canonical h.size n ≡ b → IfRead (o ∷ octets) (cond (a && b) (behind_head h.size (drop n (o ∷ octets))) Wrong)
    of true true p q =
        let some : 0 < n = (head_fits o octets h n e).1.0 in
        subst (λ (x : List ℕ). IfRead x (behind_head h.size (drop n (o ∷ octets)))) (take-append-drop n (o ∷ octets))
        (body_read (take n (o ∷ octets)) (drop n (o ∷ octets)) h.size (bytes_drop n (o ∷ octets) bytes) p (own_head o octets h n plain long some spelled q))
    of true false p q = tt
    of false b p q = tt

reads : (octets : List ℕ) → IsBytes octets → IfRead octets (reading octets)
reads [] bytes = tt
reads (o ∷ octets) bytes = of ((o == 0) || (o == 2)) refl
  where
    of : (b : Bool) → ((o == 0) || (o == 2)) ≡ b → IfRead (o ∷ octets) (cond b (headed (head_at (o ∷ octets)) (o ∷ octets)) Wrong)
    of true e = head_read o octets e bytes (head_at (o ∷ octets)) refl (found_is_spelled (o ∷ octets) bytes)
    of false e = tt

pub read_is_written : ReadIsWritten
read_is_written octets m rest bytes e = subst (λ (x : Reading). IfRead octets x) e (reads octets bytes)
