-- What the two writes of an append do, and what a crash in them leaves.
use Rattle.std.proofs.Common.{◌≡◌, ◌≢◌, ℕ, ◌+◌, ◌≤◌, is_some, List, [], ◌∷◌, ◌++◌, length, take, drop, Option, Some, sym, ◌∙◌, ap, subst, inl, inr, arith, length-append, length-take}
use Rattle.std.proofs.lemmas.List.{append-nil, drop_all}
use Rattle.mj_disk.specs.Content.{Content, IsImage, settled, spliced, touched, Spoils}
use Rattle.mj_disk.specs.DiskModel.{History, Now, Becomes, Turns, SpoilsAt, CrashesAs, latest}
use Rattle.mj_disk.proofs.Images.{settled_is, image_behind, image_at, spliced_behind, spliced_at, spoiled_behind, spoiled_at}
use Rattle.mj_disk.proofs.Moments.{leaves_weaker, then_leaves, started, told_before}
use Rattle.mj_journal.specs.FileText.{IsPayload, length_octets, Block, spelled, Stands, end_of, text_blocks, text}
use Rattle.mj_journal.specs.Appending.{recorded, EndsAt, ReachesTo, Appends, AppendsText, StandsForEither, LeavesEither, CrashesOldOrNew}
use Rattle.mj_journal.proofs.Files.{length-front, length-length_octets, end_of-push, shut, opened, either, text_blocks-holds, text_blocks-push, grown}

-- what stands behind the gate after the first write
abbrev pub left_behind : List ℕ → List ℕ → List ℕ
left_behind octets rest = drop (length octets) rest

module _ (head : List ℕ) (payloads : List (List ℕ)) (octets payload : List ℕ) (end : ℕ) (long : length head ≡ 16) (old : Stands head payloads octets) (place : end ≡ end_of payloads) where
  at_gate : end ≡ length (head ++ spelled old.blocks)
  at_gate = length-front head old.blocks payloads end long old.holds place

  at_record : end + 1 ≡ length (head ++ spelled old.blocks) + 1
  at_record = ap (λ (n : ℕ). n + 1) at_gate

  -- after the first write
  first_is : spliced (end + 1) (recorded payload) octets ≡ (head ++ spelled old.blocks) ++ 0 ∷ (recorded payload ++ left_behind (recorded payload) old.rest)
  first_is =
      ap (λ (l : List ℕ). spliced (end + 1) (recorded payload) l) old.spells
      ∙ spliced_behind (head ++ spelled old.blocks) 0 old.rest (recorded payload) (end + 1) at_record

  -- and after the second
  second_is : spliced end (1 ∷ []) (spliced (end + 1) (recorded payload) octets) ≡ (head ++ spelled old.blocks) ++ 1 ∷ (recorded payload ++ left_behind (recorded payload) old.rest)
  second_is =
      ap (λ (l : List ℕ). spliced end (1 ∷ []) l) first_is
      ∙ spliced_at (head ++ spelled old.blocks) 0 (recorded payload ++ left_behind (recorded payload) old.rest) 1 end at_gate

  pub stands_after : IsPayload payload → Stands head (payloads ++ payload ∷ []) (spliced end (1 ∷ []) (spliced (end + 1) (recorded payload) octets))
  stands_after is_payload =
      let one : 1 ≢ 0 = λ (e : 1 ≡ 0). omega (arith, e) in
      opened head payloads octets _ payload (left_behind (recorded payload) old.rest) 1 old is_payload one second_is

  pub first_crash : (n : ℕ) (image : List ℕ) → IsImage (touched (end + 1) n (settled octets)) image → StandsForEither head payloads payload image
  first_crash n image left =
      let moved = subst (λ (l : List ℕ). IsImage (touched (end + 1) n (settled l)) image) old.spells left in
      let is = image_behind (head ++ spelled old.blocks) 0 old.rest (end + 1) n image at_record moved in
      inl (shut head payloads octets image is.0 old is.1)

  pub second_crash : (image : List ℕ) → IsPayload payload → IsImage (touched end 1 (settled (spliced (end + 1) (recorded payload) octets))) image → StandsForEither head payloads payload image
  second_crash image is_payload left =
      let moved = subst (λ (l : List ℕ). IsImage (touched end 1 (settled l)) image) first_is left in
      let is = image_at (head ++ spelled old.blocks) 0 (recorded payload ++ left_behind (recorded payload) old.rest) end image at_gate moved in
      either head payloads octets image payload (left_behind (recorded payload) old.rest) is.0 old is_payload is.1

  -- what a failed first write leaves, and a failed second
  pub first_left : (n : ℕ) (new : List ℕ) → Spoils (end + 1) n octets new → StandsForEither head payloads payload new
  first_left n new spoils =
      let moved = subst (λ (l : List ℕ). Spoils (end + 1) n l new) old.spells spoils in
      inl (shut head payloads octets new (drop (end + 1) new) old (spoiled_behind (head ++ spelled old.blocks) 0 old.rest (end + 1) n new at_record moved))

  pub second_left : (new : List ℕ) → IsPayload payload → Spoils end 1 (spliced (end + 1) (recorded payload) octets) new → StandsForEither head payloads payload new
  second_left new is_payload spoils =
      let moved = subst (λ (l : List ℕ). Spoils end 1 l new) first_is spoils in
      let is = spoiled_at (head ++ spelled old.blocks) 0 (recorded payload ++ left_behind (recorded payload) old.rest) end new at_gate moved in
      either head payloads octets new payload (left_behind (recorded payload) old.rest) is.0 old is_payload is.1

  -- the gate is inside the file, also after the first write
  pub gate_inside : end + 1 ≤ length octets
  gate_inside =
      let whole : length octets ≡ length ((head ++ spelled old.blocks) ++ 0 ∷ old.rest) = ap (λ (l : List ℕ). length l) old.spells in
      omega (arith, at_gate, length-append (head ++ spelled old.blocks) (0 ∷ old.rest))

-- the second write stands inside what the first one left
pub gate_inside_after : (end : ℕ) (octets old : List ℕ) → end + 1 ≤ length old → end ≤ length (spliced (end + 1) octets old)
gate_inside_after end octets old inside =
    let whole = length-append (take (end + 1) old ++ octets) (drop (end + 1 + length octets) old) in
    omega (arith, length-append (take (end + 1) old) octets, length-take (end + 1) old)

-- a call that wrote nothing
pub unchanged_leaves : (payload : List ℕ) (end moment : ℕ) (before : Option History) → ((old : History) → before ≡ Some old → latest old.past ≤ moment) → CrashesOldOrNew payload end (moment, moment) before before
unchanged_leaves payload end moment before in_time old head payloads is all_synced long stands place =
    started before old moment _ is (in_time old is) (λ image left.
    let same : image ≡ old.now.octets = settled_is old.now.octets image (subst (λ (c : Content). IsImage c image) all_synced left) in
    inl (subst (λ (l : List ℕ). Stands head payloads l) (sym same) stands))

module _ (payload octets : List ℕ) (spelled_so : octets ≡ recorded payload) (end : ℕ) where
  crash_of : (moments : ℕ × ℕ) (before after : Option History) → CrashesAs (λ held. IsImage (touched (end + 1) (length octets) held)) moments before after → CrashesAs (λ held. IsImage (touched (end + 1) (length (recorded payload)) held)) moments before after
  crash_of moments before after crash =
      subst (λ (l : List ℕ). CrashesAs (λ held. IsImage (touched (end + 1) (length l) held)) moments before after) spelled_so crash

  -- the crash of the first write
  pub first_leaves : (moments : ℕ × ℕ) (before after : Option History) → CrashesAs (λ held. IsImage (touched (end + 1) (length octets) held)) moments before after → CrashesOldOrNew payload end moments before after
  first_leaves moments before after crash old head payloads is all_synced long stands place =
      leaves_weaker moments before after _ _ (crash_of moments before after crash old is) (λ image left.
      first_crash head payloads old.now.octets payload end long stands place (length (recorded payload)) image (subst (λ (c : Content). IsImage (touched (end + 1) (length (recorded payload)) c) image) all_synced left))

  -- and of both
  pub both_leave : (start middle last : ℕ) (before mid after : Option History) → IsPayload payload → CrashesAs (λ held. IsImage (touched (end + 1) (length octets) held)) (start, middle) before mid → Becomes (λ held. settled (spliced (end + 1) octets held.octets)) before mid → CrashesAs (λ held. IsImage (touched end 1 held)) (middle, last) mid after → CrashesOldOrNew payload end (start, last) before after
  both_leave start middle last before mid after is_payload first becomes second old head payloads is all_synced long stands place =
      let held = becomes old is in
      let held_is : held.0.now ≡ settled (spliced (end + 1) (recorded payload) old.now.octets) = held.2 ∙ ap (λ (l : List ℕ). settled (spliced (end + 1) l old.now.octets)) spelled_so in
      then_leaves start middle last before mid after (StandsForEither head payloads payload) _
      (first_leaves (start, middle) before mid first old head payloads is all_synced long stands place)
      (second held.0 held.1)
      (λ image left. second_crash head payloads old.now.octets payload end long stands place image is_payload (subst (λ (c : Content). IsImage (touched end 1 c) image) held_is left))

-- what the two writes make of a file
pub appends : (payload octets : List ℕ) (end : ℕ) (before after : Option History) → octets ≡ recorded payload → IsPayload payload → Becomes (λ held. settled (spliced end (1 ∷ []) (spliced (end + 1) octets held.octets))) before after → Appends payload end before after
appends payload octets end before after spelled_so is_payload becomes old head payloads is long stands place =
    let held = becomes old is in
    let held_is : held.0.now ≡ settled (spliced end (1 ∷ []) (spliced (end + 1) (recorded payload) old.now.octets)) = held.2 ∙ ap (λ (l : List ℕ). settled (spliced end (1 ∷ []) (spliced (end + 1) l old.now.octets))) spelled_so in
    (held.0, held.1, subst (λ (c : Content). Stands head (payloads ++ payload ∷ []) c.octets) (sym held_is) (stands_after head payloads old.now.octets payload end long stands place is_payload))

text_after : (head : List ℕ) (payloads : List (List ℕ)) (payload : List ℕ) (end : ℕ) → length head ≡ 16 → end ≡ end_of payloads → spliced end (1 ∷ []) (spliced (end + 1) (recorded payload) (text head payloads)) ≡ text head (payloads ++ payload ∷ [])
text_after head payloads payload end long place =
    let front = head ++ spelled (text_blocks payloads) in
    let at_gate : end ≡ length (head ++ spelled (text_blocks payloads)) = length-front head (text_blocks payloads) payloads end long (text_blocks-holds payloads) place in
    let block : Block = record { gate = 1; payload = payload } in
    ap (λ (l : List ℕ). spliced end (1 ∷ []) l) (spliced_behind front 0 [] (recorded payload) (end + 1) (ap (λ (n : ℕ). n + 1) at_gate))
    ∙ spliced_at front 0 (recorded payload ++ drop (length (recorded payload)) []) 1 end at_gate
    ∙ ap (λ (l : List ℕ). front ++ 1 ∷ (recorded payload ++ l)) (drop_all (length (recorded payload)) [] (omega arith))
    ∙ ap (λ (l : List ℕ). front ++ 1 ∷ l) (append-nil (recorded payload))
    ∙ sym (grown head (text_blocks payloads) block 0 [])
    ∙ ap (λ (bs : List Block). head ++ spelled bs ++ 0 ∷ []) (sym (text_blocks-push payloads payload))

pub appends_text : (payload octets : List ℕ) (end : ℕ) (before after : Option History) → octets ≡ recorded payload → Becomes (λ held. settled (spliced end (1 ∷ []) (spliced (end + 1) octets held.octets))) before after → AppendsText payload end before after
appends_text payload octets end before after spelled_so becomes old head payloads is long stands place =
    let held = becomes old is in (
      held.0,
      held.1,
      ap (λ (c : Content). c.octets) held.2
          ∙ ap (λ (l : List ℕ). spliced end (1 ∷ []) (spliced (end + 1) l old.now.octets)) spelled_so
          ∙ ap (λ (l : List ℕ). spliced end (1 ∷ []) (spliced (end + 1) (recorded payload) l)) stands
          ∙ text_after head payloads payload end long place,
    )

pub length-recorded : (payload : List ℕ) → length (recorded payload) ≡ length payload + 5
length-recorded payload =
    omega (arith, length-append (length_octets (length payload) ++ payload) (0 ∷ []), length-append (length_octets (length payload)) payload, length-length_octets (length payload))

-- the file reaches up to its closed gate
pub reaches : (end : ℕ) (held : Content) → ReachesTo end held → end ≤ length held.octets
reaches end held (inl ends) =
    let inside = gate_inside ends.0 ends.1 held.octets [] end ends.2 ends.3 ends.4 in
    omega arith
reaches end held (inr inside) = inside

-- the file ends at the new gate
pub appended_ends : (payload : List ℕ) (end next : ℕ) (before after : Option History) → is_some after ≡ is_some before → Now before (EndsAt end) → Appends payload end before after → next ≡ end + (length payload + 5) → Now after (EndsAt next)
appended_ends payload end next before after telling file appends_it next_is history is =
    let old = told_before before after history telling is in
    let ends = file old.0 old.1 in
    let new = appends_it old.0 ends.0 ends.1 old.1 ends.2 ends.3 ends.4 in
    let same : new.0 ≡ history = let e = sym new.1 ∙ is in cc in
    (ends.0, ends.1 ++ payload ∷ [], ends.2, subst (λ (h : History). Stands ends.0 (ends.1 ++ payload ∷ []) h.now.octets) same new.2, next_is ∙ end_of-push ends.1 payload end ends.4)

-- what stands after a failed append
pub first_leaves_either : (payload octets : List ℕ) (end n : ℕ) (before after : Option History) → Turns (SpoilsAt (end + 1) n) before after → LeavesEither payload end before after
first_leaves_either payload octets end n before after spoils old head payloads is long stands place =
    let new = spoils old is in
    (new.0, new.1, first_left head payloads old.now.octets payload end long stands place n new.0.now.octets new.2)

pub second_leaves_either : (payload octets : List ℕ) (end : ℕ) (before mid after : Option History) → octets ≡ recorded payload → IsPayload payload → Becomes (λ held. settled (spliced (end + 1) octets held.octets)) before mid → Turns (SpoilsAt end 1) mid after → LeavesEither payload end before after
second_leaves_either payload octets end before mid after spelled_so is_payload becomes spoils old head payloads is long stands place =
    let held = becomes old is in
    let held_is : held.0.now ≡ settled (spliced (end + 1) (recorded payload) old.now.octets) = held.2 ∙ ap (λ (l : List ℕ). settled (spliced (end + 1) l old.now.octets)) spelled_so in
    let new = spoils held.0 held.1 in
    (new.0, new.1, second_left head payloads old.now.octets payload end long stands place new.0.now.octets is_payload (subst (λ (c : Content). Spoils end 1 c.octets new.0.now.octets) held_is new.2))
