-- Streams that were read in part, and the lines of their items.
use Rattle.std.proofs.Common.{◌≡◌, ◌<◌, ◌≤◌, ◌+◌, ◌-◌, ◌^◌, ℕ, zero, suc, List, [], ◌∷◌, ◌++◌, length, take, drop, get_or, Option, Some, None, refl, sym, ap, subst, ◌∙◌, append_assoc, append-nil, arith, take-append-drop}
use Rattle.std.proofs.Math.Seq.{take-append_seam, take-append-add}
use Rattle.std.proofs.lemmas.List.{drop_more, take_more}
use Rattle.std.specs.Io.KnownBytes.{Appends, Consumes, IsAtEnd}
use Rattle.std.proofs.KnownBytes.{Appends-trans}
use Rattle.mj_base.specs.StandardLimits.{standard_limits}
use Rattle.mj_base.specs.Writing.{AppendsFront}
use Rattle.mj_show.specs.Showing.{IsStream, item_line, item_lines, shown}
use Rattle.mj_wire.specs.StreamItems.{gained, stream_items}
use Rattle.mj_wire.specs.declared.item.WireItem.{WireItem}
use Rattle.mj_wire.proofs.PieceLemmas.{stream_items-append}

take-all : (n : ℕ) (xs : List ℕ) → length xs ≤ n → take n xs ≡ xs
take-all zero [] few = refl
take-all zero (x ∷ xs) few = absurd (omega arith)
take-all (suc n) [] few = refl
take-all (suc n) (x ∷ xs) few = ap (λ (ys : List ℕ). x ∷ ys) (take-all n xs (omega arith))

-- ---- the stream

-- as many bytes as may be read are the stream
pub stream-full : (from now : Option (List ℕ)) (bytes : List ℕ) → Consumes from now bytes → length bytes ≡ 2 ^ 40 → IsStream from bytes
stream-full None now bytes took full = omega arith
stream-full (Some all) None bytes took full = absurd took
stream-full (Some all) (Some left) bytes took full =
    sym (take-append_seam bytes left) ∙ ap (λ (n : ℕ). take n (bytes ++ left)) full ∙ ap (take (2 ^ 40)) (sym took)

-- and so is what was read up to the source's end
pub stream-end : (from now : Option (List ℕ)) (bytes : List ℕ) → Consumes from now bytes → IsAtEnd now → length bytes ≤ 2 ^ 40 → IsStream from bytes
stream-end None now bytes took end few = few
stream-end (Some all) None bytes took end few = absurd took
stream-end (Some all) (Some left) bytes took end few =
    let whole : all ≡ bytes = took ∙ ap (λ (xs : List ℕ). bytes ++ xs) end ∙ append-nil bytes in
    sym (ap (take (2 ^ 40)) whole ∙ take-all (2 ^ 40) bytes few)

-- the stream goes on behind what was read
pub stream-reading : (from now : Option (List ℕ)) (bytes : List ℕ) → Consumes from now bytes → length bytes ≤ 2 ^ 40 → (stream : List ℕ) × (rest : List ℕ) × IsStream from stream × (stream ≡ bytes ++ rest)
stream-reading None now bytes took few = (bytes, [], few, sym (append-nil bytes))
stream-reading (Some all) None bytes took few = absurd took
stream-reading (Some all) (Some left) bytes took few =
    let count : length bytes + (2 ^ 40 - length bytes) ≡ 2 ^ 40 = omega arith in (
      take (2 ^ 40) all,
      take (2 ^ 40 - length bytes) left,
      refl,
      ap (take (2 ^ 40)) took ∙ ap (λ (n : ℕ). take n (bytes ++ left)) (sym count) ∙ take-append-add bytes left (2 ^ 40 - length bytes),
    )

pub take-shorter : (n m : ℕ) (xs : List ℕ) → n ≤ m → take n (take m xs) ≡ take n xs
take-shorter zero m xs less = refl
take-shorter (suc n) zero xs less = absurd (omega arith)
take-shorter (suc n) (suc m) [] less = refl
take-shorter (suc n) (suc m) (x ∷ xs) less = ap (λ (l : List ℕ). x ∷ l) (take-shorter n m xs (omega arith))

-- ---- lines

pub lines-append : (xs ys : List WireItem) → item_lines (xs ++ ys) ≡ item_lines xs ++ item_lines ys
lines-append [] ys = refl
lines-append (x ∷ xs) ys = ap (λ (l : List ℕ). item_line x ++ l) (lines-append xs ys) ∙ sym (append_assoc (item_line x) (item_lines xs) (item_lines ys))

pub shown-append : (stream piece : List ℕ) → shown (stream ++ piece) ≡ shown stream ++ item_lines (gained standard_limits stream piece)
shown-append stream piece = ap item_lines (stream_items-append standard_limits stream piece) ∙ lines-append (stream_items standard_limits stream) (gained standard_limits stream piece)

-- bytes that begin a text are a front of it
pub front-of : (old new : Option (List ℕ)) (bytes rest text : List ℕ) → Appends old new bytes → text ≡ bytes ++ rest → AppendsFront old new text
front-of old new bytes rest text added whole = (length bytes, subst (Appends old new) (sym (ap (take (length bytes)) whole ∙ take-append_seam bytes rest)) added)

-- a front of a text stands behind what was written before it
pub front-behind : (old mid new : Option (List ℕ)) (bytes more rest text : List ℕ) → Appends old mid bytes → AppendsFront mid new more → text ≡ bytes ++ (more ++ rest) → AppendsFront old new text
front-behind old mid new bytes more rest text before front whole =
    let n = front.0 in
    front-of old new (bytes ++ take n more) (drop n more ++ rest) text (Appends-trans old mid new bytes (take n more) before front.1)
    (whole ∙ ap (λ (xs : List ℕ). bytes ++ (xs ++ rest)) (sym (take-append-drop n more))
    ∙ ap (λ (xs : List ℕ). bytes ++ xs) (append_assoc (take n more) (drop n more) rest)
    ∙ sym (append_assoc bytes (take n more) (drop n more ++ rest)))

-- ---- printing, item by item

items-at : (items : List WireItem) (i : ℕ) (x : WireItem) → i < length items → x ≡ get_or items i x → items ≡ take i items ++ x ∷ drop (i + 1) items
items-at items i x inside is = sym (take-append-drop i items) ∙ ap (λ (l : List WireItem). take i items ++ l) (drop_more items i x inside ∙ ap (λ (y : WireItem). y ∷ drop (i + 1) items) (sym is))

pub printed-more : (old mid new : Option (List ℕ)) (items : List WireItem) (i : ℕ) (x : WireItem) → i < length items → x ≡ get_or items i x
    → Appends old mid (item_lines (take i items)) → Appends mid new (item_line x) → Appends old new (item_lines (take (i + 1) items))
printed-more old mid new items i x inside is before added =
    subst (Appends old new)
    (sym (ap item_lines (take_more items i x inside ∙ ap (λ (y : WireItem). take i items ++ y ∷ []) (sym is)) ∙ lines-append (take i items) (x ∷ []) ∙ ap (λ (l : List ℕ). item_lines (take i items) ++ l) (append-nil (item_line x))))
    (Appends-trans old mid new (item_lines (take i items)) (item_line x) before added)

pub printed-front : (old mid new : Option (List ℕ)) (items : List WireItem) (i : ℕ) (x : WireItem) → i < length items → x ≡ get_or items i x
    → Appends old mid (item_lines (take i items)) → AppendsFront mid new (item_line x) → AppendsFront old new (item_lines items)
printed-front old mid new items i x inside is before front =
    front-behind old mid new (item_lines (take i items)) (item_line x) (item_lines (drop (i + 1) items)) (item_lines items) before front
    (ap item_lines (items-at items i x inside is) ∙ lines-append (take i items) (x ∷ drop (i + 1) items))
