-- What is written is read back, and what is read is spelled.
use Rattle.std.proofs.Common.{◌≡◌, ℕ, suc, ◌+◌, ◌<◌, ◌≤◌, ◌^◌, Bool, true, false, cond, ◌==◌, nat_eq, IsTrue, ◌⊎◌, List, [], ◌∷◌, ◌++◌, length, take, drop, get_or, Option, Some, None, option_map, IfSome, IfNone, refl, sym, ap, subst, ◌∙◌, inl, inr, arith, get_or-take, get_or-drop}
use Rattle.std.proofs.lemmas.Bool.{eqb-true, eq-eqb, cases_eq}
use Rattle.std.proofs.lemmas.List.{length-append, length-take, length-take-le, take-append-drop, take_at, drop_at, get_or_past, take_all}
use Rattle.std.proofs.lemmas.Bool.{cases_lt}
use Rattle.std.proofs.lemmas.Option.{none-some}
use Rattle.std.proofs.lemmas.Nat.{be_bytes_8, from_be_bytes-to_be_bytes_8}
use Rattle.std.specs.Int.{from_be_bytes, to_be_bytes, w64}
use Rattle.mj_ids.specs.Ids.{IsId, has_marks, id_in}
use Rattle.mj_journal.specs.FileText.{IsPayload}
use Rattle.mj_submit.specs.Notes.{HasParts, IsNote, by_kind, closed_in, given_in, issued_in, line_octets, note_in, payload_of}
use Rattle.mj_submit.specs.declared.note.Note.{Note}
use Rattle.mj_submit.specs.declared.note.Note.TheVariants.{Issued, Given, Closed}

-- ---- written

pub length-line : (line : ℕ) → length (line_octets line) ≡ 8
unfolding line_octets
length-line line = refl

line-back : (line : ℕ) → line < 2 ^ 64 → from_be_bytes w64 (line_octets line) ≡ line
unfolding line_octets
line-back line small = from_be_bytes-to_be_bytes_8 line small

pub payload-sized : (note : Note) → HasParts note → IsPayload (payload_of note)
payload-sized (Issued line id) parts = let l = length-line line in let s = parts.1.sized in let both = length-append (line_octets line) id in (omega (arith, l, s, both), omega (arith, l, s, both))
payload-sized (Given line) parts = let l = length-line line in (omega (arith, l), omega (arith, l))
payload-sized (Closed line) parts = let l = length-line line in (omega (arith, l), omega (arith, l))

issued-back : (line : ℕ) (id : List ℕ) → line < 2 ^ 64 → IsId id → issued_in (line_octets line ++ id) ≡ Some (Issued line id)
issued-back line id small is =
    let size : length (line_octets line ++ id) ≡ 24 = omega (arith, length-append (line_octets line) id, length-line line, is.sized) in
    let marked : has_marks id ≡ true = is.marked in
    ap (λ (b : Bool). cond b (option_map (λ (i : List ℕ). Issued (from_be_bytes w64 (take 8 (line_octets line ++ id))) i) (id_in (drop 8 (line_octets line ++ id)))) None) (eq-eqb _ _ size)
    ∙ ap (λ (xs : List ℕ). option_map (λ (i : List ℕ). Issued (from_be_bytes w64 xs) i) (id_in (drop 8 (line_octets line ++ id)))) (take_at (line_octets line) id 8 (length-line line))
    ∙ ap (λ (xs : List ℕ). option_map (λ (i : List ℕ). Issued (from_be_bytes w64 (line_octets line)) i) (id_in xs)) (drop_at (line_octets line) id 8 (length-line line))
    ∙ ap (λ (n : ℕ). option_map (λ (i : List ℕ). Issued n i) (id_in id)) (line-back line small)
    ∙ ap (λ (b : Bool). option_map (λ (i : List ℕ). Issued line i) (cond b (Some id) None)) marked

given-back : (line : ℕ) → line < 2 ^ 64 → given_in (line_octets line) ≡ Some (Given line)
given-back line small =
    ap (λ (b : Bool). cond b (Some (Given (from_be_bytes w64 (line_octets line)))) None) (eq-eqb _ _ (length-line line))
    ∙ ap (λ (n : ℕ). Some (Given n)) (line-back line small)

closed-back : (line : ℕ) → line < 2 ^ 64 → closed_in (line_octets line) ≡ Some (Closed line)
closed-back line small =
    ap (λ (b : Bool). cond b (Some (Closed (from_be_bytes w64 (line_octets line)))) None) (eq-eqb _ _ (length-line line))
    ∙ ap (λ (n : ℕ). Some (Closed n)) (line-back line small)

pub note-back : (note : Note) → HasParts note → note_in (payload_of note) ≡ Some note
note-back (Issued line id) parts = issued-back line id parts.0 parts.1
note-back (Given line) parts = given-back line parts
note-back (Closed line) parts = closed-back line parts

pub note-read : (note : Note) (octets : List ℕ) → IsNote note octets → note_in octets ≡ Some note
note-read note octets is = ap note_in is.spells ∙ note-back note is.parts

-- ---- read

abbrev pub IsBytes : List ℕ → Type 0
IsBytes xs = (i : ℕ) → get_or xs i 0 < 256

bytes-take : (n : ℕ) (xs : List ℕ) → IsBytes xs → IsBytes (take n xs)
bytes-take n xs b i =
    elim (cases_lt i n) [
      | inl lt ↦ rw (get_or-take n xs i 0 lt) (b i)
      | inr le ↦ let p : length (take n xs) ≤ i = omega (arith, length-take n xs) in rw (get_or_past (take n xs) i 0 p) (omega arith)
    ]

below-64 : (bytes : List ℕ) → IsBytes bytes → from_be_bytes w64 bytes < 2 ^ 64
below-64 bytes b = omega (arith, b 0, b 1, b 2, b 3, b 4, b 5, b 6, b 7)

when : {A : Type 0} (b : Bool) (o : Option A) (y : A) → cond b o None ≡ Some y → (b ≡ true) × (o ≡ Some y)
when true o y e = (refl, e)
when false o y e = absurd (none-some y e)

mapped : {A B : Type 0} (f : A → B) (o : Option A) (y : B) → option_map f o ≡ Some y → (x : A) × (o ≡ Some x) × (f x ≡ y)
mapped f None y e = absurd (none-some y e)
mapped f (Some x) y e = (x, refl, cc)

line-spelled : (bytes : List ℕ) → length bytes ≡ 8 → IsBytes bytes → line_octets (from_be_bytes w64 bytes) ≡ bytes
unfolding line_octets
line-spelled bytes size b = be_bytes_8 bytes (from_be_bytes w64 bytes) size b refl

issued-read : (rest : List ℕ) (note : Note) → IsBytes rest → issued_in rest ≡ Some note → IsNote note (73 ∷ rest)
issued-read rest note b e =
    let w = when (length rest == 24) (option_map (λ (i : List ℕ). Issued (from_be_bytes w64 (take 8 rest)) i) (id_in (drop 8 rest))) note e in
    let size : length rest ≡ 24 = eqb-true _ _ w.0 in
    let m = mapped (λ (i : List ℕ). Issued (from_be_bytes w64 (take 8 rest)) i) (id_in (drop 8 rest)) note w.1 in
    let k = when (has_marks (drop 8 rest)) (Some (drop 8 rest)) m.0 m.1 in
    let same : drop 8 rest ≡ m.0 = let s = k.1 in cc in
    let cut = take-append-drop 8 rest in
    let eight : length (take 8 rest) ≡ 8 = length-take-le 8 rest (omega (arith, size)) in
    let sixteen : length (drop 8 rest) ≡ 16 = omega (arith, size, eight, length-append (take 8 rest) (drop 8 rest), ap length cut) in
    let front = bytes-take 8 rest b in
    subst (λ (n : Note). IsNote n (73 ∷ rest)) m.2
    (subst (λ (i : List ℕ). IsNote (Issued (from_be_bytes w64 (take 8 rest)) i) (73 ∷ rest)) same
    (record {
      parts = (below-64 (take 8 rest) front, record { sized = sixteen; marked = k.0 });
      spells = ap (λ (l : List ℕ). 73 ∷ l) (sym cut ∙ ap (λ (l : List ℕ). l ++ drop 8 rest) (sym (line-spelled (take 8 rest) eight front)));
    }))

given-read : (rest : List ℕ) (note : Note) → IsBytes rest → given_in rest ≡ Some note → IsNote note (71 ∷ rest)
given-read rest note b e =
    let w = when (length rest == 8) (Some (Given (from_be_bytes w64 rest))) note e in
    let same : Given (from_be_bytes w64 rest) ≡ note = let s = w.1 in cc in
    subst (λ (n : Note). IsNote n (71 ∷ rest)) same (record { parts = below-64 rest b; spells = ap (λ (l : List ℕ). 71 ∷ l) (sym (line-spelled rest (eqb-true _ _ w.0) b)) })

closed-read : (rest : List ℕ) (note : Note) → IsBytes rest → closed_in rest ≡ Some note → IsNote note (68 ∷ rest)
closed-read rest note b e =
    let w = when (length rest == 8) (Some (Closed (from_be_bytes w64 rest))) note e in
    let same : Closed (from_be_bytes w64 rest) ≡ note = let s = w.1 in cc in
    subst (λ (n : Note). IsNote n (68 ∷ rest)) same (record { parts = below-64 rest b; spells = ap (λ (l : List ℕ). 68 ∷ l) (sym (line-spelled rest (eqb-true _ _ w.0) b)) })

chosen : {A : Type 0} (b : Bool) (x y : Option A) (z : Option A) → cond b x y ≡ z → ((b ≡ true) × (x ≡ z)) ⊎ ((b ≡ false) × (y ≡ z))
chosen true x y z e = inl (refl, e)
chosen false x y z e = inr (refl, e)

kind-read : (kind : ℕ) (rest : List ℕ) (note : Note) → IsBytes rest → by_kind kind rest ≡ Some note → IsNote note (kind ∷ rest)
kind-read kind rest note b e =
    elim (chosen (kind == 73) (issued_in rest) (cond (kind == 71) (given_in rest) (cond (kind == 68) (closed_in rest) None)) (Some note) e) [
      | inl first ↦ subst (λ (k : ℕ). IsNote note (k ∷ rest)) (sym (eqb-true kind 73 first.0)) (issued-read rest note b first.1)
      | inr other ↦ elim (chosen (kind == 71) (given_in rest) (cond (kind == 68) (closed_in rest) None) (Some note) other.1) [
        | inl second ↦ subst (λ (k : ℕ). IsNote note (k ∷ rest)) (sym (eqb-true kind 71 second.0)) (given-read rest note b second.1)
        | inr last ↦ let w = when (kind == 68) (closed_in rest) note last.1 in subst (λ (k : ℕ). IsNote note (k ∷ rest)) (sym (eqb-true kind 68 w.0)) (closed-read rest note b w.1)
      ]
    ]

spelled : (octets : List ℕ) (note : Note) → IsBytes octets → note_in octets ≡ Some note → IsNote note octets
spelled [] note b e = absurd (none-some note e)
spelled (kind ∷ rest) note b e = kind-read kind rest note (λ i. b (suc i)) e

pub if-note : (octets : List ℕ) (o : Option Note) → IsBytes octets → o ≡ note_in octets → IfSome o (λ note. IsNote note octets)
if-note octets None b e = tt
if-note octets (Some note) b e = spelled octets note b (sym e)

pub if-no-note : (octets : List ℕ) (o : Option Note) → o ≡ note_in octets → IfNone o ((note : Note) → IsNote note octets → ⊥)
if-no-note octets None e = λ note is. none-some note (e ∙ note-read note octets is)
if-no-note octets (Some note) e = tt

-- a note's bytes are a payload, and are read back
pub is-payload : (note : Note) (octets : List ℕ) → IsNote note octets → IsPayload octets
is-payload note octets is = subst IsPayload (sym is.spells) (payload-sized note is.parts)
