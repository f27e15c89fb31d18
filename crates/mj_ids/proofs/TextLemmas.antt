-- The four forms of a text, and what is read of them.
use Rattle.std.proofs.Common.{◌≡◌, ℕ, ◌<◌, ◌==◌, inl, inr, Bool, true, false, not, ◌&&◌, cond, List, [], ◌∷◌, ◌++◌, length, take, drop, slice_index, nat_eq, Option, Some, None, IfSome, IfNone, codes, IsTrue, refl, sym, ap, subst, ◌∙◌, arith, length-append}
use Rattle.std.specs.List.{starts_with, list_all}
use Rattle.std.proofs.lemmas.Slice.Eq.{bytes_eq-Decides}
use Rattle.std.proofs.lemmas.Bool.{and_parts, and_left, and_right, and_cases, eqb-true, eqb-false, cases_eq, cases_Bool, ne_eqb, not-false, not_from_true}
use Rattle.std.proofs.lemmas.List.{take_at, get_or_push, take-append-drop, drop_more, drop_all}
use Rattle.uuid.specs.Text.{parsed, parsed_simple, parsed_hyphenated, parsed_braced, parsed_urn, is_hex_digit, has_hyphens, has_urn_prefix, by_index, byte_of_digits, digits_of, hyphenated_text, lower}
use Rattle.uuid.proofs.TextLemmas.{by_index_length}
use Rattle.mj_ids.specs.Ids.{has_marks, id_in, id_found, spelled, read_of, IsUuidText, IsIdText}

-- ---- what a test says

if_some : {A : Type 0} (b : Bool) (x : Option A) (y : A) → cond b x None ≡ Some y → (b ≡ true) × (x ≡ Some y)
if_some true x y e = (refl, e)
if_some false x y e = cc

pub length_simple : (text octets : List ℕ) → parsed_simple text ≡ Some octets → length text ≡ 32
length_simple text octets e =
    let t = if_some ((length text == 32) && list_all is_hex_digit text) (Some (by_index 16 (byte_of_digits text))) octets e in
    eqb-true _ _ (and_parts (length text == 32) (list_all is_hex_digit text) t.0).0

pub length_hyphenated : (text octets : List ℕ) → parsed_hyphenated text ≡ Some octets → length text ≡ 36
length_hyphenated text octets e =
    let t = if_some ((length text == 36) && has_hyphens text) (parsed_simple (digits_of text)) octets e in
    eqb-true _ _ (and_parts (length text == 36) (has_hyphens text) t.0).0

-- ---- a text of a form is read

spelled_in : (text : List ℕ) → (length text == 45) && not (starts_with nat_eq text (codes "urn:uuid:")) ≡ false → spelled text ≡ parsed text
spelled_in text e = rw e refl

spelled_at : (text : List ℕ) → (length text ≡ 45 → ⊥) → spelled text ≡ parsed text
spelled_at text other = spelled_in text (and_left (length text == 45) (not (starts_with nat_eq text (codes "urn:uuid:"))) (ne_eqb (length text) 45 other))

parsed_at_32 : (text : List ℕ) → length text ≡ 32 → parsed text ≡ parsed_simple text
parsed_at_32 text len = rw len refl

parsed_at_36 : (text : List ℕ) → length text ≡ 36 → parsed text ≡ parsed_hyphenated text
parsed_at_36 text len = rw len refl

parsed_at_38 : (text : List ℕ) → length text ≡ 38 → parsed text ≡ parsed_braced text
parsed_at_38 text len = rw len refl

parsed_at_45 : (text : List ℕ) → length text ≡ 45 → parsed text ≡ parsed_urn text
parsed_at_45 text len = rw len refl

braced_inner : (text : List ℕ) → length text ≡ 38 → slice_index text 0 ≡ 123 → slice_index text 37 ≡ 125 → parsed_braced text ≡ parsed_hyphenated (take 36 (drop 1 text))
braced_inner text len first last = rw (len, first, last) refl

urn_inner : (text : List ℕ) → length text ≡ 45 → has_urn_prefix text ≡ true → parsed_urn text ≡ parsed_hyphenated (drop 9 text)
urn_inner text len front = rw (len, front) refl

spelled_simple : (octets text : List ℕ) → parsed_simple text ≡ Some octets → spelled text ≡ Some octets
spelled_simple octets text e =
    let len = length_simple text octets e in
    spelled_at text (λ is. omega (arith, len, is)) ∙ parsed_at_32 text len ∙ e

spelled_hyphenated : (octets text : List ℕ) → parsed_hyphenated text ≡ Some octets → spelled text ≡ Some octets
spelled_hyphenated octets text e =
    let len = length_hyphenated text octets e in
    spelled_at text (λ is. omega (arith, len, is)) ∙ parsed_at_36 text len ∙ e

spelled_braced : (octets inner : List ℕ) → parsed_hyphenated inner ≡ Some octets → spelled (codes "{" ++ inner ++ codes "}") ≡ Some octets
spelled_braced octets inner e =
    let len = length_hyphenated inner octets e in
    let text = codes "{" ++ inner ++ codes "}" in
    let long : length text ≡ 38 = omega (arith, length-append inner (125 ∷ []), len) in
    let last : slice_index text 37 ≡ 125 = get_or_push (123 ∷ inner) 125 0 37 (omega (arith, len)) in
    let middle : take 36 (drop 1 text) ≡ inner = take_at inner (125 ∷ []) 36 len in
    spelled_at text (λ is. omega (arith, long, is)) ∙ parsed_at_38 text long ∙ braced_inner text long refl last ∙ ap parsed_hyphenated middle ∙ e

starts : (inner : List ℕ) → starts_with nat_eq (codes "urn:uuid:" ++ inner) (codes "urn:uuid:") ≡ true
starts inner = (bytes_eq-Decides (codes "urn:uuid:") (take 9 (codes "urn:uuid:" ++ inner))).1 refl

spelled_urn : (octets inner : List ℕ) → parsed_hyphenated inner ≡ Some octets → spelled (codes "urn:uuid:" ++ inner) ≡ Some octets
spelled_urn octets inner e =
    let len = length_hyphenated inner octets e in
    let text = codes "urn:uuid:" ++ inner in
    let long : length text ≡ 45 = omega (arith, len) in
    let plain : (length text == 45) && not (starts_with nat_eq text (codes "urn:uuid:")) ≡ false = and_right (length text == 45) (not (starts_with nat_eq text (codes "urn:uuid:"))) (not_from_true _ (starts inner)) in
    spelled_in text plain ∙ parsed_at_45 text long ∙ urn_inner text long refl ∙ e

pub spelled_text : (octets text : List ℕ) → IsUuidText octets text → spelled text ≡ Some octets
spelled_text octets text (inl e) = spelled_simple octets text e
spelled_text octets text (inr (inl e)) = spelled_hyphenated octets text e
spelled_text octets text (inr (inr (inl (inner, is, e)))) = subst (λ (t : List ℕ). spelled t ≡ Some octets) (sym is) (spelled_braced octets inner e)
spelled_text octets text (inr (inr (inr (inner, is, e)))) = subst (λ (t : List ℕ). spelled t ≡ Some octets) (sym is) (spelled_urn octets inner e)

-- ---- what is read is a text of a form

with_last : (text : List ℕ) → length text ≡ 37 → text ≡ take 36 text ++ slice_index text 36 ∷ []
with_last text len =
    let room : 36 < length text = omega arith in
    let rest : drop 37 text ≡ [] = drop_all 37 text (omega arith) in
    sym (take-append-drop 36 text) ∙ ap (λ (xs : List ℕ). take 36 text ++ xs) (drop_more text 36 0 room ∙ ap (λ (xs : List ℕ). slice_index text 36 ∷ xs) rest)

in_braces : (text : List ℕ) → length text ≡ 38 → slice_index text 0 ≡ 123 → slice_index text 37 ≡ 125 → text ≡ codes "{" ++ take 36 (drop 1 text) ++ codes "}"
in_braces [] len first last = absurd (omega arith)
in_braces (c ∷ rest) len first last =
    ap (λ (x : ℕ). x ∷ rest) first ∙ ap (λ (xs : List ℕ). 123 ∷ xs) (with_last rest (omega arith) ∙ ap (λ (x : ℕ). take 36 rest ++ x ∷ []) last)

braced_text : (octets text : List ℕ) → parsed_braced text ≡ Some octets → IsUuidText octets text
braced_text octets text e =
    let t = if_some ((length text == 38) && (slice_index text 0 == 123) && (slice_index text 37 == 125)) (parsed_hyphenated (take 36 (drop 1 text))) octets e in
    let a = and_parts ((length text == 38) && (slice_index text 0 == 123)) (slice_index text 37 == 125) t.0 in
    let b = and_parts (length text == 38) (slice_index text 0 == 123) a.0 in
    inr (inr (inl (take 36 (drop 1 text), in_braces text (eqb-true _ _ b.0) (eqb-true _ _ b.1) (eqb-true _ _ a.1), t.1)))

urn_text : (octets text : List ℕ) → starts_with nat_eq text (codes "urn:uuid:") ≡ true → parsed_urn text ≡ Some octets → IsUuidText octets text
urn_text octets text front e =
    let t = if_some ((length text == 45) && has_urn_prefix text) (parsed_hyphenated (drop 9 text)) octets e in
    let same : codes "urn:uuid:" ≡ take 9 text = (bytes_eq-Decides (codes "urn:uuid:") (take 9 text)).0 front in
    inr (inr (inr (drop 9 text, sym (take-append-drop 9 text) ∙ ap (λ (xs : List ℕ). xs ++ drop 9 text) (sym same), t.1)))

-- by the length of the text
parsed_text : (octets text : List ℕ) → (length text ≡ 45 → starts_with nat_eq text (codes "urn:uuid:") ≡ true) → parsed text ≡ Some octets → IsUuidText octets text
parsed_text octets text front e =
    elim (cases_eq (length text) 32) [
      | inl is ↦ inl (sym (parsed_at_32 text is) ∙ e)
      | inr no32 ↦
          elim (cases_eq (length text) 36) [
            | inl is ↦ inr (inl (sym (parsed_at_36 text is) ∙ e))
            | inr no36 ↦
                elim (cases_eq (length text) 38) [
                  | inl is ↦ braced_text octets text (sym (parsed_at_38 text is) ∙ e)
                  | inr no38 ↦
                      elim (cases_eq (length text) 45) [
                        | inl is ↦ urn_text octets text (front is) (sym (parsed_at_45 text is) ∙ e)
                        | inr no45 ↦
                            let none : parsed text ≡ None = rw (ne_eqb _ _ no32, ne_eqb _ _ no36, ne_eqb _ _ no38, ne_eqb _ _ no45) refl in
                            cc
                      ]
                ]
          ]
    ]

front_of : (text : List ℕ) → (length text == 45) && not (starts_with nat_eq text (codes "urn:uuid:")) ≡ false → length text ≡ 45 → starts_with nat_eq text (codes "urn:uuid:") ≡ true
front_of text e len =
    elim (and_cases (length text == 45) (not (starts_with nat_eq text (codes "urn:uuid:"))) e) [
      | inl other ↦ absurd (eqb-false _ _ other len)
      | inr starts ↦ not-false _ starts
    ]

pub text_spelled : (octets text : List ℕ) → spelled text ≡ Some octets → IsUuidText octets text
text_spelled octets text e =
    elim (cases_Bool ((length text == 45) && not (starts_with nat_eq text (codes "urn:uuid:")))) [
      | inl is ↦ let none : spelled text ≡ None = rw is refl in cc
      | inr is ↦ parsed_text octets text (front_of text is) (sym (spelled_in text is) ∙ e)
    ]

-- ---- ids

id_in_some : (octets id : List ℕ) → id_in octets ≡ Some id → IsTrue (has_marks id) × (octets ≡ id)
id_in_some octets id e =
    let t = if_some (has_marks octets) (Some octets) id e in
    let same : octets ≡ id = let is = t.1 in cc in
    (subst (λ (xs : List ℕ). IsTrue (has_marks xs)) same t.0, same)

found_text : (text id : List ℕ) (o : Option (List ℕ)) → spelled text ≡ o → id_found o ≡ Some id → IsIdText id text
found_text text id None is e = cc
found_text text id (Some octets) is e =
    let t = id_in_some octets id e in
    (t.0, text_spelled id text (is ∙ ap (λ (xs : List ℕ). Some xs) t.1))

-- what is read is an id that the text spells
pub read_text : (text id : List ℕ) → read_of text ≡ Some id → IsIdText id text
unfolding read_of
read_text text id e = found_text text id (spelled text) refl e

-- an id that the text spells is read
pub text_read : (text id : List ℕ) → IsIdText id text → read_of text ≡ Some id
unfolding read_of
text_read text id (marked, is) = let m = marked in rw (spelled_text id text is, m) refl

pub one_id : (id other text : List ℕ) → IsIdText id text → IsIdText other text → id ≡ other
one_id id other text a b =
    let x = text_read text id a in
    let y = text_read text other b in
    cc

-- what is written is read back
pub written_read : (text id : List ℕ) → IsTrue (has_marks id) → length text ≡ 36 → Some id ≡ parsed text → read_of text ≡ Some id
unfolding read_of
written_read text id marked len e =
    let m = marked in
    let s : spelled text ≡ Some id = spelled_at text (λ is. omega (arith, len, is)) ∙ sym e in
    rw (s, m) refl

pub length-text : (id : List ℕ) → length (hyphenated_text lower id) ≡ 36
length-text id = by_index_length 36 _

pub none_since : {A : Type 0} (o : Option A) → ((x : A) × (o ≡ Some x) → ⊥) → None ≡ o
none_since None never = refl
none_since (Some x) never = absurd (never (x, refl))

pub read_if_some : (text : List ℕ) (o : Option (List ℕ)) → o ≡ read_of text → IfSome o (λ id. IsIdText id text)
read_if_some text None e = tt
read_if_some text (Some id) e = read_text text id (sym e)

pub read_if_none : (text : List ℕ) (o : Option (List ℕ)) → o ≡ read_of text → IfNone o ((id : List ℕ) → IsIdText id text → ⊥)
read_if_none text None e = λ id is. let some = text_read text id is in (cc)
read_if_none text (Some id) e = tt
