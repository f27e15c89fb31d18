-- What is read, with the unsynced bytes marked, is an image.
use Rattle.std.proofs.Common.{◌≡◌, ℕ, ◌+◌, ◌<◌, ◌≤◌, ◌⊎◌, List, [], ◌∷◌, length, get_or, take, drop, replicate, refl, ◌∙◌, inl, inr, ⊎_elim, arith, length-drop, length-take, true, false, cond, nat_eq}
use Rattle.std.proofs.lemmas.List.{length-replicate}
use Rattle.mj_disk.specs.Content.{Content, InNone, IsImage}
use Rattle.mj_disk.specs.Images.{marked_at, marked, chosen_image}
use Rattle.mj_disk.specs.Laws.{length-spliced, spliced-outside}

length-marked_at : (octets : List ℕ) (range : ℕ × ℕ) → length (marked_at octets range) ≡ length octets
length-marked_at octets range =
    let n : ℕ = length (take range.1 (drop range.0 octets)) in
    let marks : List ℕ = replicate n 255 in
    omega (arith, length-spliced range.0 marks octets, length-replicate {A = ℕ} n 255, length-take range.0 octets, length-take range.1 (drop range.0 octets), length-drop range.0 octets, length-drop (range.0 + length marks) octets)

marked_at-outside : (octets : List ℕ) (range : ℕ × ℕ) (k : ℕ) → k < length octets → (k < range.0) ⊎ (range.0 + range.1 ≤ k) → get_or (marked_at octets range) k 0 ≡ get_or octets k 0
marked_at-outside octets range k inside outside =
    let n : ℕ = length (take range.1 (drop range.0 octets)) in
    let marks : List ℕ = replicate n 255 in
    let short : length marks ≤ range.1 = omega (arith, length-replicate {A = ℕ} n 255, length-take range.1 (drop range.0 octets)) in
    spliced-outside range.0 marks octets k inside (⊎_elim (λ before. inl before) (λ behind. inr (omega (arith, behind, short))) outside)

pub length-marked : (ranges : List (ℕ × ℕ)) (octets : List ℕ) → length (marked ranges octets) ≡ length octets
length-marked [] octets = refl
length-marked (range ∷ ranges) octets = length-marked ranges (marked_at octets range) ∙ length-marked_at octets range

pub marked-outside : (ranges : List (ℕ × ℕ)) (octets : List ℕ) (k : ℕ) → k < length octets → InNone k ranges → get_or (marked ranges octets) k 0 ≡ get_or octets k 0
marked-outside [] octets k inside none = refl
marked-outside (range ∷ ranges) octets k inside none =
    marked-outside ranges (marked_at octets range) k (omega (arith, inside, length-marked_at octets range)) none.1
    ∙ marked_at-outside octets range k inside none.0

pub marked_is : (held : Content) → IsImage held held.octets → IsImage held (marked held.ranges held.octets)
marked_is held reads = record {
  no_shorter = omega (arith, reads.no_shorter, length-marked held.ranges held.octets);
  no_longer = omega (arith, reads.no_longer, length-marked held.ranges held.octets);
  kept = λ k inside none. marked-outside held.ranges held.octets k (omega (arith, reads.no_shorter)) none ∙ reads.kept k inside none;
}

-- what stood there at the last good sync is one too
pub synced_is : (held : Content) → IsImage held held.octets → IsImage held held.synced
synced_is held reads = record {
  no_shorter = omega arith;
  no_longer = omega (arith, reads.no_shorter, reads.no_longer);
  kept = λ k inside none. refl;
}

pub chosen_is : (k : ℕ) (held : Content) → IsImage held held.octets → IsImage held (chosen_image k held)
chosen_is k held reads =
    elim (nat_eq k 0) as (λ b. IsImage held (cond b held.octets (cond (nat_eq k 1) held.synced (marked held.ranges held.octets)))) [
      | true ↦ reads
      | false ↦ elim (nat_eq k 1) as (λ b. IsImage held (cond b held.synced (marked held.ranges held.octets))) [ true ↦ synced_is held reads | false ↦ marked_is held reads ]
    ]
