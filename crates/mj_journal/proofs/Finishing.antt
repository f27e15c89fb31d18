-- What the calls of a making do, and what a crash in them leaves.
use Rattle.std.proofs.Common.{◌≡◌, ℕ, ◌+◌, ◌≤◌, ◌^◌, is_some, List, [], ◌∷◌, ◌++◌, length, set, take, Option, Some, None, refl, sym, ◌∙◌, ap, subst, inl, inr, ⊎_elim, append_assoc, arith, length-append}
use Rattle.std.proofs.lemmas.Bool.{cases_eq, cases_lt}
use Rattle.std.proofs.lemmas.List.{nil_from_length}
use Rattle.std.proofs.Math.ListN.{length-set}
use Rattle.std.specs.List.{AllByRecursion}
use Rattle.mj_disk.specs.Content.{Content, IsImage, settled, spliced, touched, Spoils}
use Rattle.mj_disk.specs.DiskModel.{History, Now, IsSettled, Becomes, Turns, SpoilsAt, LeavesOnly, LeavesOn, CrashesAs}
use Rattle.mj_disk.proofs.Images.{settled_is, image_at, spliced_at, spoiled_at}
use Rattle.mj_disk.proofs.Moments.{leaves_weaker, leaves_on, then_leaves, told_before, rests, still}
use Rattle.mj_journal.specs.FileText.{base_octets, header_2, IsPayload, spelled, Stands, text_blocks, text}
use Rattle.mj_journal.specs.Opening.{IsNoHeader, IsUntouched}
use Rattle.mj_journal.specs.Appending.{EndsAt, AppendsText, StandsForEither, LeavesEither, CrashesOldOrNew}
use Rattle.mj_journal.specs.Making.{making_head, IsMade, IsMaking, IsUnfinished, IsWholeStore, IsFinished, IsUnfinishedOrWhole, IsImageOrFirst, KeepsUnlessEmpty, BeginsUnfinished, Grows, Finishes, ReadsUnfinishedOrWhole, FinishesOrNot}
use Rattle.mj_journal.proofs.Files.{length-base_octets, length-header, end_of-push}
use Rattle.mj_journal.proofs.Unique.{no_first, no_store_in_making, text_stands, all-push}

-- ---- no store

-- bytes without a header are none
unfinished : (image : List ℕ) → IsNoHeader (take 16 image) → IsUnfinished image
unfinished image none =
    elim (cases_lt 17 (length image)) [ inl long ↦ inr (long, none) | inr short ↦ inl (omega (arith, short)) ]

length-making_head : (base : ℕ) → length (making_head base) ≡ 16
length-making_head base = omega (arith, length-base_octets base)

either_unfinished : (base : ℕ) (payloads : List (List ℕ)) (payload image : List ℕ) → StandsForEither (making_head base) payloads payload image → IsUnfinished image
either_unfinished base payloads payload image either =
    unfinished image (⊎_elim (λ old. no_store_in_making base payloads image old) (λ new. no_store_in_making base (payloads ++ payload ∷ []) image new) either)

-- ---- what is made so far

octets_are : (base end : ℕ) (payloads : List (List ℕ)) (held : Content) → IsMade base end payloads held → held.octets ≡ text (making_head base) payloads
octets_are base end payloads held made = ap (λ (c : Content). c.octets) made.is_text

is_settled : (base end : ℕ) (payloads : List (List ℕ)) (held : Content) → IsMade base end payloads held → IsSettled held
is_settled base end payloads held made = made.is_text ∙ ap settled (sym (octets_are base end payloads held made))

stands : (base end : ℕ) (payloads : List (List ℕ)) (held : Content) → IsMade base end payloads held → Stands (making_head base) payloads held.octets
stands base end payloads held made =
    subst (λ (l : List ℕ). Stands (making_head base) payloads l) (sym (octets_are base end payloads held made)) (text_stands (making_head base) payloads made.all)

pub making_ends : (base end : ℕ) (held : Content) → IsMaking base end held → EndsAt end held
making_ends base end held making = (making_head base, making.0, length-making_head base, stands base end making.0 held making.1, making.1.place)

-- ---- appending

-- what a making that goes on appends
module _ (base end next : ℕ) (payload : List ℕ) (before after : Option History) (telling : is_some after ≡ is_some before) where
  pub grows : IsPayload payload → AppendsText payload end before after → ((history : History) → after ≡ Some history → IsSettled history.now) → next ≡ end + (length payload + 5) → Grows base end next payload before after
  grows is_payload appends_text all_synced next_is payloads made history is =
      let old = told_before before after history telling is in
      let was = made old.0 old.1 in
      let new = appends_text old.0 (making_head base) payloads old.1 (length-making_head base) (octets_are base end payloads old.0.now was) was.place in
      let same : new.0 ≡ history = let e = sym new.1 ∙ is in cc in
      let octets : history.now.octets ≡ text (making_head base) (payloads ++ payload ∷ []) = ap (λ (h : History). h.now.octets) (sym same) ∙ new.2 in
      record {
        all = all-push payloads payload was.all is_payload;
        is_text = all_synced history is ∙ ap settled octets;
        place = next_is ∙ end_of-push payloads payload end was.place;
      }

  pub grown_making : Now before (IsMaking base end) → Grows base end next payload before after → Now after (IsMaking base next)
  grown_making making grown history is =
      let old = told_before before after history telling is in
      let was = making old.0 old.1 in
      (was.0 ++ payload ∷ [], grown was.0 (λ (h : History) at. let same : old.0 ≡ h = let e = sym old.1 ∙ at in cc in subst (λ (k : History). IsMade base end was.0 k.now) same was.1) history is)

appended_unfinished : (base end : ℕ) (payload : List ℕ) (moments : ℕ × ℕ) (before after : Option History) → is_some after ≡ is_some before → moments.0 ≤ moments.1 → Now before (IsMaking base end) → CrashesOldOrNew payload end moments before after → LeavesOnly moments before after IsUnfinished
appended_unfinished base end payload moments None after telling later making crash =
    rests moments None after IsUnfinished refl telling later
appended_unfinished base end payload moments (Some old) after telling later making crash =
    let was = making old refl in
    leaves_weaker moments (Some old) after _ _
    (crash old (making_head base) was.0 refl (is_settled base end was.0 old.now was.1) (length-making_head base) (stands base end was.0 old.now was.1) was.1.place)
    (λ image either. either_unfinished base was.0 payload image either)

pub making_goes_on : (base end : ℕ) (payload : List ℕ) (moments : ℕ × ℕ) (before after : Option History) → is_some after ≡ is_some before → moments.0 ≤ moments.1 → Now before (IsMaking base end) → CrashesOldOrNew payload end moments before after → LeavesOn IsUnfinished moments before after
making_goes_on base end payload moments before after telling later making crash =
    leaves_on moments before after IsUnfinished (appended_unfinished base end payload moments before after telling later making crash)

-- a call that wrote nothing
pub stays_on : (moments : ℕ × ℕ) (before after : Option History) → after ≡ before → moments.0 ≤ moments.1 → LeavesOn IsUnfinished moments before after
stays_on moments before after same later start origin first =
    still start moments.0 moments.1 origin before after IsUnfinished first same later

-- what a failed append leaves
pub left_unfinished : (base end : ℕ) (payload : List ℕ) (before after : Option History) → is_some after ≡ is_some before → Now before (IsMaking base end) → LeavesEither payload end before after → Now after (λ held. IsUnfinished held.octets)
left_unfinished base end payload before after telling making left history is =
    let old = told_before before after history telling is in
    let was = making old.0 old.1 in
    let new = left old.0 (making_head base) was.0 old.1 (length-making_head base) (stands base end was.0 old.0.now was.1) was.1.place in
    let same : new.0 ≡ history = let e = sym new.1 ∙ is in cc in
    subst (λ (h : History). IsUnfinished h.now.octets) same (either_unfinished base was.0 payload new.0.now.octets new.2)

-- ---- beginning

pub settled_kept : (before after : Option History) → Turns IsUntouched before after → Turns KeepsUnlessEmpty before after
settled_kept before after kept old is = let new = kept old is in (new.0, new.1, inl new.2)

nothing : (octets : List ℕ) (size : ℕ) → size ≡ length octets → size ≤ 0 → octets ≡ []
nothing octets size sized none = nil_from_length octets (omega (arith, sized, none))

-- the first bytes
pub first_few : (base : ℕ) (file : List ℕ) → file ≡ header_2 base ++ 0 ∷ [] → length (set file 0 0) ≤ 17
first_few base file is =
    omega (arith, length-set {A = ℕ}, ap (λ (l : List ℕ). length l) is, length-append (header_2 base) (0 ∷ []), length-base_octets base)

-- and where they were spoiled
pub spoiled_kept : (size n : ℕ) (before mid after : Option History) → size ≤ 0 → n ≤ 17 → Turns IsUntouched before mid → Now before (λ held. size ≡ length held.octets) → Turns (SpoilsAt 0 n) mid after → Turns KeepsUnlessEmpty before after
spoiled_kept size n before mid after none few kept sized spoils old is =
    let held = kept old is in
    let new = spoils held.0 held.1 in
    let empty = nothing old.now.octets size (sized old is) none in
    let same : length held.0.now.octets ≡ 0 = ap (λ (l : List ℕ). length l) (held.2 ∙ empty) in
    (new.0, new.1, inr (empty, omega (arith, new.2.no_longer)))

pub settled_leaves : (moments : ℕ × ℕ) (before after : Option History) → CrashesAs IsImage moments before after → CrashesAs IsImageOrFirst moments before after
settled_leaves moments before after crash old is =
    leaves_weaker moments before after _ _ (crash old is) (λ image left. inl left)

pub begun_leaves : (size n start middle last : ℕ) (before mid after : Option History) → size ≤ 0 → n ≤ 17 → CrashesAs IsImage (start, middle) before mid → Becomes (λ held. settled held.octets) before mid → Now before (λ held. size ≡ length held.octets) → CrashesAs (λ held. IsImage (touched 0 n held)) (middle, last) mid after → CrashesAs IsImageOrFirst (start, last) before after
begun_leaves size n start middle last before mid after none few crash becomes sized made old is =
    let held = becomes old is in
    let empty = nothing old.now.octets size (sized old is) none in
    let so_far = settled_leaves (start, middle) before mid crash old is in
    then_leaves start middle last before mid after (IsImageOrFirst old.now) _ so_far (made held.0 held.1) (λ image left.
    let moved = subst (λ (c : Content). IsImage (touched 0 n c) image) held.2 left in
    let same : length old.now.octets ≡ 0 = ap (λ (l : List ℕ). length l) empty in
    inr (empty, omega (arith, moved.no_longer)))

-- on a settled empty disk
pub begins_unfinished : (moments : ℕ × ℕ) (before after : Option History) → is_some after ≡ is_some before → moments.0 ≤ moments.1 → CrashesAs IsImageOrFirst moments before after → BeginsUnfinished moments before after
begins_unfinished moments None after telling later crash empty = rests moments None after IsUnfinished refl telling later
begins_unfinished moments (Some old) after telling later crash empty =
    leaves_weaker moments (Some old) after (IsImageOrFirst old.now) IsUnfinished (crash old refl) (λ image left.
    ⊎_elim
    (λ (before : IsImage old.now image).
    let none : image ≡ [] = settled_is [] image (subst (λ (c : Content). IsImage c image) (empty old refl) before) in
    let short : length image ≤ 17 = omega (arith, ap (λ (l : List ℕ). length l) none) in
    inl short)
    (λ (first : (old.now.octets ≡ []) × (length image ≤ 17)). inl first.1)
    left)

-- ---- finishing

-- what stands behind the first byte
abbrev tail_of : ℕ → List (List ℕ) → List ℕ
tail_of base payloads =
    74 ∷ 84 ∷ 83 ∷ 84 ∷ 79 ∷ 82 ∷ 50 ∷ base_octets base ++ (spelled (text_blocks payloads) ++ 0 ∷ [])

module _ (base : ℕ) (payloads : List (List ℕ)) (low : 1 ≤ base) (high : base ≤ 2 ^ 61) (all : AllByRecursion IsPayload payloads) where
  made_is : text (making_head base) payloads ≡ 0 ∷ tail_of base payloads
  made_is = append_assoc (making_head base) (spelled (text_blocks payloads)) (0 ∷ [])

  whole_is : text (header_2 base) payloads ≡ 77 ∷ tail_of base payloads
  whole_is = append_assoc (header_2 base) (spelled (text_blocks payloads)) (0 ∷ [])

  whole_store : (image : List ℕ) → image ≡ 77 ∷ tail_of base payloads → IsWholeStore base payloads image
  whole_store image is =
      let is_text = is ∙ sym whole_is in
      (is_text, (header_2 base, inr (low, high, refl), subst (λ (l : List ℕ). Stands (header_2 base) payloads l) (sym is_text) (text_stands (header_2 base) payloads all)))

  -- whatever the first byte is
  first_byte : (y : ℕ) (image : List ℕ) → image ≡ y ∷ tail_of base payloads → IsUnfinishedOrWhole base payloads image
  first_byte y image is =
      elim (cases_eq y 77) [
        | inl whole ↦ inr (whole_store image (is ∙ ap (λ (z : ℕ). z ∷ tail_of base payloads) whole))
        | inr other ↦ inl (unfinished image (subst (λ (l : List ℕ). IsNoHeader (take 16 l)) (sym is) (no_first y base (spelled (text_blocks payloads) ++ 0 ∷ []) other)))
      ]

  finished_is : (held : Content) → held ≡ settled (spliced 0 (77 ∷ []) (text (making_head base) payloads)) → IsFinished base payloads held
  finished_is held is =
      let octets : held.octets ≡ 77 ∷ tail_of base payloads = ap (λ (c : Content). c.octets) is ∙ ap (λ (l : List ℕ). spliced 0 (77 ∷ []) l) made_is ∙ spliced_at [] 0 (tail_of base payloads) 77 0 refl in
      (is ∙ ap settled (sym (ap (λ (c : Content). c.octets) is)), whole_store held.octets octets)

  finishing_image : (image : List ℕ) → IsImage (touched 0 1 (settled (text (making_head base) payloads))) image → IsUnfinishedOrWhole base payloads image
  finishing_image image left =
      let moved = subst (λ (l : List ℕ). IsImage (touched 0 1 (settled l)) image) made_is left in
      let is = image_at [] 0 (tail_of base payloads) 0 image refl moved in
      first_byte is.0 image is.1

  spoiled_first : (new : List ℕ) → Spoils 0 1 (text (making_head base) payloads) new → IsUnfinishedOrWhole base payloads new
  spoiled_first new spoils =
      let moved = subst (λ (l : List ℕ). Spoils 0 1 l new) made_is spoils in
      let is = spoiled_at [] 0 (tail_of base payloads) 0 new refl moved in
      first_byte is.0 new is.1

module _ (base end : ℕ) (low : 1 ≤ base) (high : base ≤ 2 ^ 61) (before after : Option History) where
  pub finishes : is_some after ≡ is_some before → Becomes (λ held. settled (spliced 0 (77 ∷ []) held.octets)) before after → Finishes base end before after
  finishes telling becomes payloads made history is =
      let old = told_before before after history telling is in
      let was = made old.0 old.1 in
      let new = becomes old.0 old.1 in
      let same : new.0 ≡ history = let e = sym new.1 ∙ is in cc in
      let held_is : new.0.now ≡ settled (spliced 0 (77 ∷ []) (text (making_head base) payloads)) = new.2 ∙ ap (λ (l : List ℕ). settled (spliced 0 (77 ∷ []) l)) (octets_are base end payloads old.0.now was) in
      subst (λ (h : History). IsFinished base payloads h.now) same (finished_is base payloads low high was.all new.0.now held_is)

  pub finished_ends : is_some after ≡ is_some before → Now before (IsMaking base end) → Finishes base end before after → Now after (EndsAt end)
  finished_ends telling making finished history is =
      let old = told_before before after history telling is in
      let was = making old.0 old.1 in
      let done = finished was.0 (λ (h : History) at. let same : old.0 ≡ h = let e = sym old.1 ∙ at in cc in subst (λ (k : History). IsMade base end was.0 k.now) same was.1) history is in
      let store = done.1.1 in
      (store.0, was.0, length-header base store.0 store.1, store.2, was.1.place)

  pub left_or_whole : is_some after ≡ is_some before → Turns (SpoilsAt 0 1) before after → ReadsUnfinishedOrWhole base end before after
  left_or_whole telling spoils payloads made history is =
      let old = told_before before after history telling is in
      let was = made old.0 old.1 in
      let new = spoils old.0 old.1 in
      let same : new.0 ≡ history = let e = sym new.1 ∙ is in cc in
      let spoiled = subst (λ (l : List ℕ). Spoils 0 1 l new.0.now.octets) (octets_are base end payloads old.0.now was) new.2 in
      subst (λ (h : History). IsUnfinishedOrWhole base payloads h.now.octets) same (spoiled_first base payloads low high was.all new.0.now.octets spoiled)

finishing_leaves : (base end : ℕ) (payloads : List (List ℕ)) (moments : ℕ × ℕ) (before after : Option History) → 1 ≤ base → base ≤ 2 ^ 61 → is_some after ≡ is_some before → moments.0 ≤ moments.1 → Now before (IsMade base end payloads) → CrashesAs (λ held. IsImage (touched 0 1 held)) moments before after → LeavesOnly moments before after (IsUnfinishedOrWhole base payloads)
finishing_leaves base end payloads moments None after low high telling later made crash =
    rests moments None after (IsUnfinishedOrWhole base payloads) refl telling later
finishing_leaves base end payloads moments (Some old) after low high telling later made crash =
    let was = made old refl in
    leaves_weaker moments (Some old) after _ _ (crash old refl) (λ image left.
    finishing_image base payloads low high was.all image (subst (λ (c : Content). IsImage (touched 0 1 c) image) was.is_text left))

pub finishes_or_not : (base end : ℕ) (moments : ℕ × ℕ) (before after : Option History) → 1 ≤ base → base ≤ 2 ^ 61 → is_some after ≡ is_some before → moments.0 ≤ moments.1 → CrashesAs (λ held. IsImage (touched 0 1 held)) moments before after → FinishesOrNot base end moments before after
finishes_or_not base end moments before after low high telling later crash payloads start origin made first =
    let P = IsUnfinishedOrWhole base payloads in
    let so_far = leaves_weaker (start, moments.0) origin before IsUnfinished P first (λ image none. inl none) in
    then_leaves start moments.0 moments.1 origin before after P P so_far (finishing_leaves base end payloads moments before after low high telling later made crash) (λ image here. here)
