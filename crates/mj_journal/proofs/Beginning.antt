-- What a beginning finds or makes, and what a crash in it leaves.
use Rattle.std.proofs.Common.{◌≡◌, ℕ, ◌<◌, ◌≤◌, ◌^◌, is_some, List, [], ◌∷◌, ◌++◌, length, take, drop, get_or, Option, Some, None, refl, sym, ◌∙◌, ap, subst, inl, inr, ⊎_elim, arith, length-append, take-append-drop}
use Rattle.std.proofs.lemmas.List.{append-nil, drop_more, drop_all, take_at}
use Rattle.mj_disk.specs.Content.{Content, IsImage, settled, touched}
use Rattle.mj_disk.specs.DiskModel.{History, Now, Becomes, Turns, SpoilsAt, CrashesAs}
use Rattle.mj_disk.proofs.Moments.{leaves_weaker, then_leaves, still, told_before}
use Rattle.mj_journal.specs.FileText.{header_2, IsHeader, IsEmptyStore, IsShort, OpensAs, StandsFor, Stands, spelled, end_of}
use Rattle.mj_journal.specs.Opening.{IsBegun, IsKeptOrMade, IsReadTo, IsUntouched, KeepsFile, Begins, IsEmptyWith, IsImageOrOpensAlike}
use Rattle.mj_journal.proofs.Files.{length-header, length-front, length-base_octets}
use Rattle.mj_journal.proofs.Headers.{decide_empty, empty_front}

-- a file that is kept
kept_begun : (asked base size : ℕ) (octets : List ℕ) → size ≡ length octets → 17 ≤ length octets → IsHeader base (take 16 octets) → ¬ IsShort octets → IsBegun asked base size (settled octets) (settled octets)
kept_begun asked base size octets sized long is_header not_short = record {
  synced = refl;
  head = take 16 octets;
  reads = record {
    is_header = is_header;
    blocks = [];
    mark = get_or octets 16 0;
    rest = drop 17 octets;
    all_open = tt;
    holds = refl;
    spells = sym (take-append-drop 16 octets)
        ∙ ap (λ (l : List ℕ). take 16 octets ++ l) (drop_more octets 16 0 (omega arith))
        ∙ ap (λ (l : List ℕ). l ++ get_or octets 16 0 ∷ drop 17 octets) (sym (append-nil (take 16 octets)));
    place = refl;
  };
  size_is = sized;
  same = inl (refl, not_short);
}

-- a file that is made
made_begun : (asked : ℕ) (octets : List ℕ) → 1 ≤ asked → asked ≤ 2 ^ 61 → IsShort octets → IsBegun asked asked 17 (settled octets) (settled (header_2 asked ++ 0 ∷ []))
made_begun asked octets low high short = record {
  synced = refl;
  head = header_2 asked;
  reads = record {
    is_header = inr (low, high, refl);
    blocks = [];
    mark = 0;
    rest = [];
    all_open = tt;
    holds = refl;
    spells = ap (λ (l : List ℕ). l ++ 0 ∷ []) (sym (append-nil (header_2 asked)));
    place = refl;
  };
  size_is = omega (arith, length-append (header_2 asked) (0 ∷ []), length-base_octets asked);
  same = inr (short, refl, refl);
}

-- IsBegun reads only the bytes of what was before
begun_along : (asked base size : ℕ) (octets : List ℕ) (old new : Content) (after : List ℕ) → old.octets ≡ octets → new ≡ settled after → IsBegun asked base size (settled octets) (settled after) → IsBegun asked base size old new
begun_along asked base size octets old new after old_is new_is begun =
    let moved : IsBegun asked base size (settled octets) new = subst (λ (c : Content). IsBegun asked base size (settled octets) c) (sym new_is) begun in
    record {
      synced = moved.synced;
      head = moved.head;
      reads = moved.reads;
      size_is = moved.size_is;
      same = subst (λ (l : List ℕ). IsKeptOrMade asked base l new.octets) (sym old_is) moved.same;
    }

pub begins_kept : (asked base size : ℕ) (before mid after : Option History) → Becomes (λ held. settled held.octets) before mid → after ≡ mid → Now before (λ held. (size ≡ length held.octets) × (17 ≤ length held.octets) × IsHeader base (take 16 held.octets) × ¬ IsShort held.octets) → Begins asked base size before after
begins_kept asked base size before mid after becomes same found old is =
    let held = becomes old is in
    let f = found old is in
    (held.0, same ∙ held.1, begun_along asked base size old.now.octets old.now held.0.now old.now.octets refl held.2 (kept_begun asked base size old.now.octets f.0 f.1 f.2 f.3))

-- what is read once all is synced
pub then_read : (P : List ℕ → Type 0) (before mid : Option History) → Becomes (λ held. settled held.octets) before mid → Now mid (λ held. P held.octets) → Now before (λ held. P held.octets)
then_read P before mid becomes found old is =
    let held = becomes old is in
    subst P (ap (λ (c : Content). c.octets) held.2) (found held.0 held.1)

pub begins_long : (asked base size : ℕ) (before mid after : Option History) → Becomes (λ held. settled held.octets) before mid → after ≡ mid → 17 < size → Now before (λ held. size ≡ length held.octets) → Now mid (λ held. IsHeader base (take 16 held.octets)) → Begins asked base size before after
begins_long asked base size before mid after becomes same long sized header =
    begins_kept asked base size before mid after becomes same (λ old is.
    let size_is : size ≡ length old.now.octets = sized old is in
    let h = then_read (λ l. IsHeader base (take 16 l)) before mid becomes header old is in
    (size_is, omega arith, h, λ (short : IsShort old.now.octets). let le : length old.now.octets ≤ 17 = short.0 in let no : ⊥ = omega arith in no))

pub begins_empty : (asked base : ℕ) (before mid after : Option History) → Becomes (λ held. settled held.octets) before mid → after ≡ mid → Now mid (λ held. IsEmptyWith (Some base) held.octets) → Begins asked base 17 before after
begins_empty asked base before mid after becomes same found =
    begins_kept asked base 17 before mid after becomes same (λ old is.
    let e = then_read (IsEmptyWith (Some base)) before mid becomes found old is in
    let store : IsEmptyStore old.now.octets = (base, e.0, e.1, e.2) in
    let front = empty_front old.now.octets store in
    let sized : length old.now.octets ≡ 17 = front.0 in
    let start : take 16 old.now.octets ≡ e.0 = ap (λ (l : List ℕ). take 16 l) e.2 ∙ take_at e.0 (0 ∷ []) 16 (length-header base e.0 e.1) in
    (sym sized, omega arith, subst (λ (l : List ℕ). IsHeader base l) (sym start) e.1, λ (short : IsShort old.now.octets). short.1 store))

pub begins_made : (asked size : ℕ) (before mid after : Option History) → 1 ≤ asked → asked ≤ 2 ^ 61 → size ≤ 17 → Becomes (λ held. settled held.octets) before mid → Now before (λ held. size ≡ length held.octets) → Now mid (λ held. IsEmptyWith None held.octets) → Becomes (λ held. settled (header_2 asked ++ 0 ∷ drop 17 held.octets)) mid after → Begins asked asked 17 before after
begins_made asked size before mid after low high short becomes sized none made old is =
    let held = becomes old is in
    let new = made held.0 held.1 in
    let size_is : size ≡ length old.now.octets = sized old is in
    let no_store = then_read (IsEmptyWith None) before mid becomes none old is in
    let octets_are : held.0.now.octets ≡ old.now.octets = ap (λ (c : Content). c.octets) held.2 in
    let nothing : drop 17 old.now.octets ≡ [] = drop_all 17 old.now.octets (omega arith) in
    let new_is : new.0.now ≡ settled (header_2 asked ++ 0 ∷ []) = new.2 ∙ ap (λ (l : List ℕ). settled (header_2 asked ++ 0 ∷ drop 17 l)) octets_are ∙ ap (λ (l : List ℕ). settled (header_2 asked ++ 0 ∷ l)) nothing in
    (new.0, new.1, begun_along asked asked 17 old.now.octets old.now new.0.now (header_2 asked ++ 0 ∷ []) refl new_is (made_begun asked old.now.octets low high (omega arith, no_store)))

-- what is told afterwards of the size, and of what was read
pub begun_now : (asked base size : ℕ) (P : Content → Type 0) (before after : Option History) → Begins asked base size before after → is_some after ≡ is_some before → ((old new : Content) → IsBegun asked base size old new → P new) → Now after P
begun_now asked base size P before after begins telling known new is =
    let old = told_before before after new telling is in
    let begun = begins old.0 old.1 in
    let same : begun.0 ≡ new = let e : Some begun.0 ≡ Some new = sym begun.1 ∙ is in cc in
    subst (λ (h : History). P h.now) same (known old.0.now begun.0.now begun.2)

pub begun_sized : (asked base size : ℕ) (before after : Option History) → Begins asked base size before after → is_some after ≡ is_some before → Now after (λ held. size ≡ length held.octets)
begun_sized asked base size before after begins telling =
    begun_now asked base size (λ held. size ≡ length held.octets) before after begins telling (λ old new begun. begun.size_is)

pub begun_read : (asked base size next : ℕ) (before after : Option History) → Begins asked base size before after → is_some after ≡ is_some before → next ≡ 16 → Now after (IsReadTo base next)
begun_read asked base size next before after begins telling first =
    subst (λ (n : ℕ). Now after (IsReadTo base n)) (sym first) (begun_now asked base size (IsReadTo base 16) before after begins telling (λ old new begun. (begun.head, [], begun.reads)))

-- what a read gives afterwards
untouched_keeps : (before after : Option History) → Turns IsUntouched before after → Turns KeepsFile before after
untouched_keeps before after kept old is = let new = kept old is in (new.0, new.1, inl new.2)

pub kept_still : (before mid after : Option History) → Turns IsUntouched before mid → after ≡ mid → Turns KeepsFile before after
kept_still before mid after kept same old is = let new = kept old is in (new.0, same ∙ new.1, inl new.2)

-- a file of at most 17 bytes opens as no payloads
pub short_opens : (octets : List ℕ) → length octets ≤ 17 → OpensAs [] octets
short_opens octets short =
    elim (decide_empty octets) [
      | inl store ↦ (
        store.0,
        inl (
          store.1,
          store.2,
          record {
            blocks = [];
            rest = [];
            all_open = tt;
            holds = refl;
            spells = store.3 ∙ ap (λ (l : List ℕ). l ++ 0 ∷ []) (sym (append-nil store.1));
          },
        ),
      )
      | inr none ↦ (1, inr ((short, none), refl, refl))
    ]

-- a record has at least six bytes
none_fit : (payloads : List (List ℕ)) (head octets : List ℕ) → length head ≡ 16 → Stands head payloads octets → length octets ≤ 17 → payloads ≡ []
none_fit [] head octets long stands short = refl
none_fit (payload ∷ payloads) head octets long stands short =
    let place = length-front head stands.blocks (payload ∷ payloads) (end_of (payload ∷ payloads)) long stands.holds refl in
    absurd (omega (arith, place, ap (λ (l : List ℕ). length l) stands.spells, length-append (head ++ spelled stands.blocks) (0 ∷ stands.rest)))

pub short_is_nil : (payloads : List (List ℕ)) (octets : List ℕ) → length octets ≤ 17 → OpensAs payloads octets → payloads ≡ []
short_is_nil payloads octets short opens =
    ⊎_elim (λ (stands : StandsFor opens.0 payloads octets). none_fit payloads stands.0 octets (length-header opens.0 stands.0 stands.1) stands.2 short) (λ made. made.2) opens.1

-- what a failed making reads as
pub spoiled_keeps : (size : ℕ) (before synced mid after : Option History) → size ≤ 17 → Turns IsUntouched before synced → mid ≡ synced → Now before (λ held. size ≡ length held.octets) → Now synced (λ held. IsEmptyWith None held.octets) → Turns (SpoilsAt 0 17) mid after → Turns KeepsFile before after
spoiled_keeps size before synced mid after short kept same sized none spoils old is =
    let held = kept old is in
    let new = spoils held.0 (same ∙ held.1) in
    let size_is : size ≡ length old.now.octets = sized old is in
    let no_store : ¬ IsEmptyStore old.now.octets = subst (λ (l : List ℕ). ¬ IsEmptyStore l) held.2 (none held.0 held.1) in
    let sizes : length held.0.now.octets ≡ length old.now.octets = ap (λ (l : List ℕ). length l) held.2 in
    let little : length new.0.now.octets ≤ 17 = omega (arith, new.2.no_longer) in
    (new.0, new.1, inr ((omega arith, no_store), (little, short_opens new.0.now.octets little)))

-- a file that was made anew, or kept
pub begins_keeps : (asked base size : ℕ) (before after : Option History) → Begins asked base size before after → Turns KeepsFile before after
begins_keeps asked base size before after begins old is =
    let begun = begins old is in (
      begun.0,
      begun.1,
      ⊎_elim
          (λ kept. inl kept.0)
          (λ (made : IsShort old.now.octets × (begun.0.now.octets ≡ header_2 asked ++ 0 ∷ []) × (base ≡ asked)).
          let little : length begun.0.now.octets ≤ 17 = omega (arith, ap (λ (l : List ℕ). length l) made.1, length-append (header_2 asked) (0 ∷ []), length-base_octets asked) in
          inr (made.0, (little, short_opens begun.0.now.octets little)))
          begun.2.same,
    )

-- a crash while the file is made
pub making_leaves : (size start first middle last : ℕ) (before synced mid after : Option History) → size ≤ 17 → CrashesAs IsImage (start, first) before synced → Becomes (λ held. settled held.octets) before synced → mid ≡ synced → first ≤ middle → Now before (λ held. size ≡ length held.octets) → Now synced (λ held. IsEmptyWith None held.octets) → CrashesAs (λ held. IsImage (touched 0 17 held)) (middle, last) mid after → CrashesAs IsImageOrOpensAlike (start, last) before after
making_leaves size start first middle last before synced mid after short crash becomes same later sized none made old is =
    let held = becomes old is in
    let size_is : size ≡ length old.now.octets = sized old is in
    let no_store : ¬ IsEmptyStore old.now.octets = subst (λ (c : Content). ¬ IsEmptyStore c.octets) held.2 (none held.0 held.1) in
    let is_short : IsShort old.now.octets = (omega arith, no_store) in
    let beginning = still start first middle before synced mid _ (crash old is) same later in
    let so_far = leaves_weaker (start, middle) before mid (IsImage old.now) (IsImageOrOpensAlike old.now) beginning (λ image left. inl left) in
    then_leaves start middle last before mid after (IsImageOrOpensAlike old.now) _ so_far (made held.0 (same ∙ held.1)) (λ image left.
    let moved = subst (λ (c : Content). IsImage (touched 0 17 c) image) held.2 left in
    let little : length image ≤ 17 = omega (arith, moved.no_longer) in
    inr (is_short, (little, short_opens image little)))
