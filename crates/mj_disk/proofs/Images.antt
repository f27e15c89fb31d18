-- What a crash leaves of a list of bytes that was all synced, after one write.
use Rattle.std.proofs.Common.{◌≡◌, ℕ, ◌+◌, ◌<◌, ◌≤◌, List, [], ◌∷◌, ◌++◌, length, get_or, take, drop, sym, ◌∙◌, ap, inl, inr, arith, append_assoc, length-append, length-drop, take-append-drop}
use Rattle.std.proofs.lemmas.List.{take_at, drop_at, drop_more, drop-drop, ext_get_or, get_or-take, get_or-drop, length-take-le}
use Rattle.mj_disk.specs.Content.{Content, IsImage, settled, spliced, touched, written, Spoils}
use Rattle.mj_disk.specs.DiskModel.{Touches}
use Rattle.mj_disk.specs.Laws.{InNone-front}

-- the only image of what is synced is what a read gives
pub settled_is : (octets image : List ℕ) → IsImage (settled octets) image → image ≡ octets
settled_is octets image is =
    ext_get_or 0 image octets (omega (arith, is.no_shorter, is.no_longer)) (λ k inside. is.kept k (omega (arith, is.no_longer)) tt)

-- a range more takes no image away
pub touched_more : (at n : ℕ) (held : Content) (image : List ℕ) → IsImage held image → IsImage (touched at n held) image
touched_more at n held image is = record {
  no_shorter = is.no_shorter;
  no_longer = omega (arith, is.no_longer);
  kept = λ k inside none. is.kept k inside (InNone-front k held.ranges (at, n) none);
}

pub written_touches : (at : ℕ) (octets : List ℕ) (held : Content) → Touches at (length octets) held (written at octets held)
written_touches at octets held = record {
  none_lost = λ image is. record {
    no_shorter = is.no_shorter;
    no_longer = omega (arith, is.no_longer);
    kept = λ k inside none. is.kept k inside (InNone-front k held.ranges (at, length octets) none);
  };
  none_more = λ image is. record { no_shorter = is.no_shorter; no_longer = is.no_longer; kept = is.kept };
}

pub touched_touches : (at n : ℕ) (held : Content) → Touches at n held (touched at n held)
touched_touches at n held = record { none_lost = λ image is. touched_more at n held image is; none_more = λ image is. is }

-- two lists of the same front have it from the same bytes
front_from : (n : ℕ) (xs ys : List ℕ) → n ≤ length xs → n ≤ length ys → ((k : ℕ) → k < n → get_or xs k 0 ≡ get_or ys k 0) → take n xs ≡ take n ys
front_from n xs ys long longer same =
    let one = length-take-le n xs long in
    let other = length-take-le n ys longer in
    ext_get_or 0 (take n xs) (take n ys) (one ∙ sym other) (λ k inside.
    let below : k < n = omega arith in
    get_or-take n xs k 0 below ∙ same k below ∙ sym (get_or-take n ys k 0 below))

rest_from : (n : ℕ) (xs ys : List ℕ) → length xs ≡ length ys → ((k : ℕ) → n ≤ k → k < length ys → get_or xs k 0 ≡ get_or ys k 0) → drop n xs ≡ drop n ys
rest_from n xs ys same_length same =
    let one = length-drop n xs in
    let other = length-drop n ys in
    ext_get_or 0 (drop n xs) (drop n ys) (omega arith) (λ k inside.
    let below : n + k < length ys = omega arith in
    get_or-drop n xs k 0 ∙ same (n + k) (omega arith) below ∙ sym (get_or-drop n ys k 0))

-- a write behind a byte leaves all up to that byte
pub image_behind : (front : List ℕ) (x : ℕ) (rest : List ℕ) (at n : ℕ) (image : List ℕ) → at ≡ length front + 1 → IsImage (touched at n (settled (front ++ x ∷ rest))) image → (behind : List ℕ) × (image ≡ front ++ x ∷ behind)
image_behind front x rest at n image place is =
    let whole = length-append front (x ∷ rest) in
    let long : at ≤ length (front ++ x ∷ rest) = omega arith in
    let longer : at ≤ length image = omega (arith, is.no_shorter) in
    let seam : length (front ++ x ∷ []) ≡ at = omega (arith, length-append front (x ∷ [])) in
    let grouped : front ++ x ∷ rest ≡ (front ++ x ∷ []) ++ rest = sym (append_assoc front (x ∷ []) rest) in
    let start : take at (front ++ x ∷ rest) ≡ front ++ x ∷ [] = ap (λ (l : List ℕ). take at l) grouped ∙ take_at (front ++ x ∷ []) rest at seam in
    let same : take at image ≡ take at (front ++ x ∷ rest) = front_from at image (front ++ x ∷ rest) longer long (λ k below. is.kept k (omega arith) (inl below, tt)) in (
      drop at image,
      sym (take-append-drop at image) ∙ ap (λ (l : List ℕ). l ++ drop at image) (same ∙ start) ∙ append_assoc front (x ∷ []) (drop at image),
    )

-- a write of one byte leaves any byte there, and all the rest
pub image_at : (front : List ℕ) (x : ℕ) (rest : List ℕ) (at : ℕ) (image : List ℕ) → at ≡ length front → IsImage (touched at 1 (settled (front ++ x ∷ rest))) image → (y : ℕ) × (image ≡ front ++ y ∷ rest)
image_at front x rest at image place is =
    let whole = length-append front (x ∷ rest) in
    let sized : length image ≡ length (front ++ x ∷ rest) = omega (arith, is.no_shorter, is.no_longer) in
    let start : take at (front ++ x ∷ rest) ≡ front = take_at front (x ∷ rest) at (sym place) in
    let same : take at image ≡ take at (front ++ x ∷ rest) = front_from at image (front ++ x ∷ rest) (omega arith) (omega arith) (λ k below. is.kept k (omega arith) (inl below, tt)) in
    let seam : length (front ++ x ∷ []) ≡ at + 1 = omega (arith, length-append front (x ∷ [])) in
    let grouped : front ++ x ∷ rest ≡ (front ++ x ∷ []) ++ rest = sym (append_assoc front (x ∷ []) rest) in
    let end : drop (at + 1) (front ++ x ∷ rest) ≡ rest = ap (λ (l : List ℕ). drop (at + 1) l) grouped ∙ drop_at (front ++ x ∷ []) rest (at + 1) seam in
    let behind : drop (at + 1) image ≡ drop (at + 1) (front ++ x ∷ rest) = rest_from (at + 1) image (front ++ x ∷ rest) sized (λ k above inside. is.kept k inside (inr above, tt)) in
    let here : drop at image ≡ get_or image at 0 ∷ drop (at + 1) image = drop_more image at 0 (omega arith) in (
      get_or image at 0,
      sym (take-append-drop at image)
          ∙ ap (λ (l : List ℕ). l ++ drop at image) (same ∙ start)
          ∙ ap (λ (l : List ℕ). front ++ l) (here ∙ ap (λ (l : List ℕ). get_or image at 0 ∷ l) (behind ∙ end)),
    )

-- what is written behind a byte, and over a byte
pub spliced_behind : (front : List ℕ) (x : ℕ) (rest octets : List ℕ) (at : ℕ) → at ≡ length front + 1 → spliced at octets (front ++ x ∷ rest) ≡ front ++ x ∷ (octets ++ drop (length octets) rest)
spliced_behind front x rest octets at place =
    let seam : length (front ++ x ∷ []) ≡ at = omega (arith, length-append front (x ∷ [])) in
    let grouped : front ++ x ∷ rest ≡ (front ++ x ∷ []) ++ rest = sym (append_assoc front (x ∷ []) rest) in
    let start : take at (front ++ x ∷ rest) ≡ front ++ x ∷ [] = ap (λ (l : List ℕ). take at l) grouped ∙ take_at (front ++ x ∷ []) rest at seam in
    let end : drop at (front ++ x ∷ rest) ≡ rest = ap (λ (l : List ℕ). drop at l) grouped ∙ drop_at (front ++ x ∷ []) rest at seam in
    let behind : drop (at + length octets) (front ++ x ∷ rest) ≡ drop (length octets) rest = sym (drop-drop (length octets) at (front ++ x ∷ rest)) ∙ ap (λ (l : List ℕ). drop (length octets) l) end in
    ap (λ (l : List ℕ). l ++ octets ++ drop (at + length octets) (front ++ x ∷ rest)) start
    ∙ ap (λ (l : List ℕ). (front ++ x ∷ []) ++ octets ++ l) behind
    ∙ append_assoc (front ++ x ∷ []) octets (drop (length octets) rest)
    ∙ append_assoc front (x ∷ []) (octets ++ drop (length octets) rest)

pub spliced_at : (front : List ℕ) (x : ℕ) (rest : List ℕ) (y at : ℕ) → at ≡ length front → spliced at (y ∷ []) (front ++ x ∷ rest) ≡ front ++ y ∷ rest
spliced_at front x rest y at place =
    let seam : length (front ++ x ∷ []) ≡ at + 1 = omega (arith, length-append front (x ∷ [])) in
    let grouped : front ++ x ∷ rest ≡ (front ++ x ∷ []) ++ rest = sym (append_assoc front (x ∷ []) rest) in
    let start : take at (front ++ x ∷ rest) ≡ front = take_at front (x ∷ rest) at (sym place) in
    let end : drop (at + 1) (front ++ x ∷ rest) ≡ rest = ap (λ (l : List ℕ). drop (at + 1) l) grouped ∙ drop_at (front ++ x ∷ []) rest (at + 1) seam in
    ap (λ (l : List ℕ). l ++ (y ∷ []) ++ drop (at + 1) (front ++ x ∷ rest)) start
    ∙ ap (λ (l : List ℕ). front ++ (y ∷ []) ++ l) end
    ∙ append_assoc front (y ∷ []) rest

-- a failed write behind a byte leaves all up to that byte, and one of one byte all but that byte
pub spoiled_behind : (front : List ℕ) (x : ℕ) (rest : List ℕ) (at n : ℕ) (new : List ℕ) → at ≡ length front + 1 → Spoils at n (front ++ x ∷ rest) new → new ≡ front ++ x ∷ drop at new
spoiled_behind front x rest at n new place spoils =
    let seam : length (front ++ x ∷ []) ≡ at = omega (arith, length-append front (x ∷ [])) in
    let grouped : front ++ x ∷ rest ≡ (front ++ x ∷ []) ++ rest = sym (append_assoc front (x ∷ []) rest) in
    let start : take at (front ++ x ∷ rest) ≡ front ++ x ∷ [] = ap (λ (l : List ℕ). take at l) grouped ∙ take_at (front ++ x ∷ []) rest at seam in
    sym (take-append-drop at new)
    ∙ ap (λ (l : List ℕ). l ++ drop at new) (spoils.before ∙ start)
    ∙ append_assoc front (x ∷ []) (drop at new)

pub spoiled_at : (front : List ℕ) (x : ℕ) (rest : List ℕ) (at : ℕ) (new : List ℕ) → at ≡ length front → Spoils at 1 (front ++ x ∷ rest) new → (y : ℕ) × (new ≡ front ++ y ∷ rest)
spoiled_at front x rest at new place spoils =
    let whole = length-append front (x ∷ rest) in
    let long : at < length new = omega (arith, spoils.no_shorter) in
    let start : take at (front ++ x ∷ rest) ≡ front = take_at front (x ∷ rest) at (sym place) in
    let seam : length (front ++ x ∷ []) ≡ at + 1 = omega (arith, length-append front (x ∷ [])) in
    let grouped : front ++ x ∷ rest ≡ (front ++ x ∷ []) ++ rest = sym (append_assoc front (x ∷ []) rest) in
    let end : drop (at + 1) (front ++ x ∷ rest) ≡ rest = ap (λ (l : List ℕ). drop (at + 1) l) grouped ∙ drop_at (front ++ x ∷ []) rest (at + 1) seam in
    let here : drop at new ≡ get_or new at 0 ∷ drop (at + 1) new = drop_more new at 0 long in (
      get_or new at 0,
      sym (take-append-drop at new)
          ∙ ap (λ (l : List ℕ). l ++ drop at new) (spoils.before ∙ start)
          ∙ ap (λ (l : List ℕ). front ++ l) (here ∙ ap (λ (l : List ℕ). get_or new at 0 ∷ l) (spoils.behind ∙ end)),
    )
