-- Headers: which bytes are one, with which base, and why others are none.
use Rattle.std.proofs.Common.{◌≡◌, ◌≢◌, ℕ, ◌+◌, ◌-◌, ◌<◌, ◌≤◌, ◌^◌, ◌⊎◌, List, [], ◌∷◌, ◌++◌, length, take, drop, get_or, Some, refl, sym, ◌∙◌, ap, subst, inl, inr, ⊎_elim, arith, length-append, take-append-drop}
use Rattle.std.proofs.lemmas.List.{take_at, drop_at, drop_more}
use Rattle.std.proofs.lemmas.Bool.{cases_eq, cases_lt}
use Rattle.std.proofs.lemmas.Nat.{be_bytes_8, from_be_bytes-to_be_bytes_8, be_bytes_4, from_be_bytes-to_be_bytes_4}
use Rattle.std.specs.Int.{from_be_bytes, w32, w64}
use Rattle.mj_journal.specs.declared.fault.OpenFault.{OpenFault}
use Rattle.mj_journal.specs.declared.fault.OpenFault.TheVariants.{NotAStore, Version, Damaged, DiskFault, NoMemory}
use Rattle.mj_journal.specs.FileText.{name, header_1, header_2, base_octets, length_octets, IsHeader, IsEmptyStore}
use Rattle.mj_journal.specs.Opening.{IsVersion, IsNoHeader, IsBadHeader, IsEmptyWith}
use Rattle.mj_journal.proofs.Files.{length-header}

abbrev pub HasHeader : List ℕ → Type 0
HasHeader head = (base : ℕ) × IsHeader base head

-- ---- numbers in bytes

base_in : List ℕ → ℕ
base_in octets = from_be_bytes w64 octets

base_in-octets : (base : ℕ) → base < 2 ^ 64 → base_in (base_octets base) ≡ base
unfolding base_in base_octets
base_in-octets base small = from_be_bytes-to_be_bytes_8 base small

pub base_octets_of : (tail : List ℕ) (base : ℕ) → length tail ≡ 8 → ((i : ℕ) → get_or tail i 0 < 256) → base ≡ from_be_bytes w64 tail → base_octets base ≡ tail
unfolding base_octets
base_octets_of tail base long bytes is = be_bytes_8 tail base long bytes is

pub base_octets_same : (a b : ℕ) → a < 2 ^ 64 → b < 2 ^ 64 → base_octets a ≡ base_octets b → a ≡ b
base_octets_same a b small smaller is = sym (base_in-octets a small) ∙ ap base_in is ∙ base_in-octets b smaller

length_in : List ℕ → ℕ
length_in octets = from_be_bytes w32 octets

length_in-octets : (n : ℕ) → n < 2 ^ 32 → length_in (length_octets n) ≡ n
unfolding length_in length_octets
length_in-octets n small = from_be_bytes-to_be_bytes_4 n small

pub length_octets_of : (octets : List ℕ) (n : ℕ) → length octets ≡ 4 → ((i : ℕ) → get_or octets i 0 < 256) → n ≡ from_be_bytes w32 octets → length_octets n ≡ octets
unfolding length_octets
length_octets_of octets n long bytes is = be_bytes_4 octets n long bytes is

pub length_octets_same : (a b : ℕ) → a < 2 ^ 32 → b < 2 ^ 32 → length_octets a ≡ length_octets b → a ≡ b
length_octets_same a b small smaller is = sym (length_in-octets a small) ∙ ap length_in is ∙ length_in-octets b smaller

-- ---- why bytes are no header

abbrev digit_of : List ℕ → ℕ
digit_of head = get_or head 7 0

pub no_name : (head : List ℕ) → take 7 head ≢ name → IsNoHeader head
no_name head other = (
  λ (h : HasHeader head). ⊎_elim
      (λ one. other (ap (λ (l : List ℕ). take 7 l) one.1))
      (λ two. other (ap (λ (l : List ℕ). take 7 l) two.2))
      h.1,
  λ version. other version.1.0,
)

-- a header has the digit of its format
header_digit : (head : List ℕ) → HasHeader head → (get_or head 7 0 ≡ 49) ⊎ (get_or head 7 0 ≡ 50)
header_digit head h = ⊎_elim (λ one. inl (ap (λ (l : List ℕ). get_or l 7 0) one.1)) (λ two. inr (ap (λ (l : List ℕ). get_or l 7 0) two.2)) h.1

pub version_no_header : (version : ℕ) (head : List ℕ) → IsVersion version head → HasHeader head → ⊥
version_no_header version head is h =
    ⊎_elim
    (λ (one : get_or head 7 0 ≡ 49). is.3 (omega (arith, is.1, one)))
    (λ (two : get_or head 7 0 ≡ 50). is.4 (omega (arith, is.1, two)))
    (header_digit head h)

pub bad_no_header : (fault : OpenFault) (head : List ℕ) → IsBadHeader fault head → HasHeader head → ⊥
bad_no_header NotAStore head bad h = bad.0 h
bad_no_header (Version version) head bad h = version_no_header version head bad h
bad_no_header (Damaged at) head bad h = bad
bad_no_header NoMemory head bad h = bad
bad_no_header DiskFault head bad h = bad

-- a digit that is no version's
pub no_digit : (digit : ℕ) (tail : List ℕ) → ¬ ((48 ≤ digit) × (digit ≤ 57)) → IsNoHeader (name ++ digit ∷ tail)
no_digit digit tail other = (
  λ (h : HasHeader (name ++ digit ∷ tail)). ⊎_elim
      (λ (one : digit ≡ 49). other (omega (arith, one), omega (arith, one)))
      (λ (two : digit ≡ 50). other (omega (arith, two), omega (arith, two)))
      (header_digit (name ++ digit ∷ tail) h),
  λ (v : (version : ℕ) × IsVersion version (name ++ digit ∷ tail)).
      let is : digit ≡ 48 + v.0 = v.1.1 in
      let small : v.0 ≤ 9 = v.1.2 in
      other (omega arith, omega arith),
)

pub is_version : (digit : ℕ) (tail : List ℕ) → (48 ≤ digit) × (digit ≤ 57) → digit ≢ 49 → digit ≢ 50 → IsVersion (digit - 48) (name ++ digit ∷ tail)
is_version digit tail inside one two =
    let low : 48 ≤ digit = inside.0 in
    let high : digit ≤ 57 = inside.1 in
    (refl, omega arith, omega arith, λ (e : digit - 48 ≡ 1). one (omega arith), λ (e : digit - 48 ≡ 2). two (omega arith))

no_version : (digit : ℕ) (tail : List ℕ) → (digit ≡ 49) ⊎ (digit ≡ 50) → ¬ ((version : ℕ) × IsVersion version (name ++ digit ∷ tail))
no_version digit tail known v =
    let is : digit ≡ 48 + v.0 = v.1.1 in
    ⊎_elim (λ (one : digit ≡ 49). v.1.3 (omega arith)) (λ (two : digit ≡ 50). v.1.4 (omega arith)) known

pub no_format_1 : (tail : List ℕ) → tail ≢ 0 ∷ 0 ∷ 0 ∷ 0 ∷ 0 ∷ 0 ∷ 0 ∷ 0 ∷ [] → IsNoHeader (name ++ 49 ∷ tail)
no_format_1 tail other = (
  λ (h : HasHeader (name ++ 49 ∷ tail)). ⊎_elim
      (λ one. other (ap (λ (l : List ℕ). drop 8 l) one.1))
      (λ two. let e : 49 ≡ 50 = ap digit_of two.2 in omega (arith, e))
      h.1,
  no_version 49 tail (inl refl),
)

pub no_format_2 : (tail : List ℕ) (base : ℕ) → base_octets base ≡ tail → base < 2 ^ 64 → (base < 1) ⊎ (2 ^ 61 < base) → IsNoHeader (name ++ 50 ∷ tail)
no_format_2 tail base is small outside = (
  λ (h : HasHeader (name ++ 50 ∷ tail)). ⊎_elim
      (λ one. let e : 50 ≡ 49 = ap digit_of one.1 in omega (arith, e))
      (λ two.
      let low : 1 ≤ h.0 = two.0 in
      let high : h.0 ≤ 2 ^ 61 = two.1 in
      let same : base ≡ h.0 = base_octets_same base h.0 small (omega arith) (is ∙ ap (λ (l : List ℕ). drop 8 l) two.2) in
      ⊎_elim (λ (below : base < 1). let no : ⊥ = omega arith in no) (λ (above : 2 ^ 61 < base). let no : ⊥ = omega arith in no) outside)
      h.1,
  no_version 50 tail (inr refl),
)

-- name, digit and tail
pub joined : (front tail : List ℕ) → length front ≡ 16 → take 7 front ≡ name → tail ≡ drop 8 front → front ≡ name ++ get_or front 7 0 ∷ tail
joined front tail long named is =
    sym (take-append-drop 7 front)
    ∙ ap (λ (l : List ℕ). l ++ drop 7 front) named
    ∙ ap (λ (l : List ℕ). name ++ l) (drop_more front 7 0 (omega arith) ∙ ap (λ (l : List ℕ). get_or front 7 0 ∷ l) (sym is))

-- ---- an empty store

pub empty_front : (octets : List ℕ) (store : IsEmptyStore octets) → (length octets ≡ 17) × HasHeader (take 16 octets) × (drop 16 octets ≡ 0 ∷ [])
empty_front octets store =
    let long : length store.1 ≡ 16 = length-header store.0 store.1 store.2 in
    let start : take 16 octets ≡ store.1 = ap (λ (l : List ℕ). take 16 l) store.3 ∙ take_at store.1 (0 ∷ []) 16 long in (
      ap (λ (l : List ℕ). length l) store.3 ∙ omega (arith, length-append store.1 (0 ∷ [])),
      (store.0, subst (λ (l : List ℕ). IsHeader store.0 l) (sym start) store.2),
      ap (λ (l : List ℕ). drop 16 l) store.3 ∙ drop_at store.1 (0 ∷ []) 16 long,
    )

pub empty_is : (octets : List ℕ) (base : ℕ) → IsHeader base (take 16 octets) → drop 16 octets ≡ 0 ∷ [] → IsEmptyWith (Some base) octets
empty_is octets base h rest =
    (take 16 octets, h, sym (take-append-drop 16 octets) ∙ ap (λ (l : List ℕ). take 16 octets ++ l) rest)

pub not_empty_head : (octets : List ℕ) → (HasHeader (take 16 octets) → ⊥) → ¬ IsEmptyStore octets
not_empty_head octets none store = none (empty_front octets store).1

pub not_empty_rest : (octets : List ℕ) → drop 16 octets ≢ 0 ∷ [] → ¬ IsEmptyStore octets
not_empty_rest octets other store = other (empty_front octets store).2

pub not_empty_length : (octets : List ℕ) → length octets ≢ 17 → ¬ IsEmptyStore octets
not_empty_length octets other store = other (empty_front octets store).0

-- ---- it can be told whether bytes are one

decide_list : (xs ys : List ℕ) → (xs ≡ ys) ⊎ (xs ≡ ys → ⊥)
decide_list [] [] = inl refl
decide_list [] (y ∷ ys) = inr (λ e. cc e)
decide_list (x ∷ xs) [] = inr (λ e. cc e)
decide_list (x ∷ xs) (y ∷ ys) =
    elim (cases_eq x y) [
      | inl same ↦ elim (decide_list xs ys) [ inl all ↦ inl cc | inr other ↦ inr (λ (e : x ∷ xs ≡ y ∷ ys). let rest : xs ≡ ys = cc in other rest) ]
      | inr other ↦ inr (λ (e : x ∷ xs ≡ y ∷ ys). let first : x ≡ y = cc in other first)
    ]

-- format 1, or format 2 with the base that the last eight bytes spell
second_or_first : (head : List ℕ) → HasHeader head → (head ≡ header_1) ⊎ ((1 ≤ base_in (drop 8 head)) × (base_in (drop 8 head) ≤ 2 ^ 61) × (head ≡ header_2 (base_in (drop 8 head))))
second_or_first head h =
    ⊎_elim
    (λ one. inl one.1)
    (λ two.
    let low : 1 ≤ h.0 = two.0 in
    let high : h.0 ≤ 2 ^ 61 = two.1 in
    let same : h.0 ≡ base_in (drop 8 head) = sym (base_in-octets h.0 (omega arith)) ∙ ap (λ (l : List ℕ). base_in (drop 8 l)) (sym two.2) in
    inr (omega arith, omega arith, two.2 ∙ ap header_2 same))
    h.1

decide_header : (head : List ℕ) → HasHeader head ⊎ (HasHeader head → ⊥)
decide_header head =
    elim (decide_list head header_1) [
      | inl one ↦ inl (1, inl (refl, one))
      | inr not_one ↦ elim (decide_list head (header_2 (base_in (drop 8 head)))) [
        | inl two ↦ elim (cases_lt (base_in (drop 8 head)) 1) [
          | inl low ↦ inr (λ h. ⊎_elim not_one (λ is. let le : 1 ≤ base_in (drop 8 head) = is.0 in omega (arith, low, le)) (second_or_first head h))
          | inr high ↦ elim (cases_lt (2 ^ 61) (base_in (drop 8 head))) [
            | inl above ↦ inr (λ h. ⊎_elim not_one (λ is. let le : base_in (drop 8 head) ≤ 2 ^ 61 = is.1 in omega (arith, above, le)) (second_or_first head h))
            | inr below ↦ inl (base_in (drop 8 head), inr (omega (arith, high), omega (arith, below), two))
          ]
        ]
        | inr not_two ↦ inr (λ h. ⊎_elim not_one (λ is. not_two is.2) (second_or_first head h))
      ]
    ]

pub decide_empty : (octets : List ℕ) → IsEmptyStore octets ⊎ ¬ IsEmptyStore octets
decide_empty octets =
    elim (decide_header (take 16 octets)) [
      | inl h ↦ elim (decide_list (drop 16 octets) (0 ∷ [])) [
        | inl rest ↦ inl (let e = empty_is octets h.0 h.1 rest in (h.0, e.0, e.1, e.2))
        | inr other ↦ inr (not_empty_rest octets other)
      ]
      | inr none ↦ inr (not_empty_head octets none)
    ]
