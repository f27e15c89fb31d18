-- Proofs of the laws of disks: what a disk in memory reads is an image, and a disk that tells nothing has no history.
use Rattle.std.proofs.Common.{◌≡◌, ℕ, ◌+◌, ◌-◌, ◌<◌, ◌≤◌, ◌⊎◌, Bool, true, false, List, [], ◌∷◌, ◌++◌, length, get_or, take, drop, reverse, Some, None, refl, ◌∙◌, ap, inl, inr, arith, length-append, length-drop, length-take, subst}
use Rattle.std.proofs.lemmas.List.{get_or_append_left, get_or-append_right, get_or-take, get_or-drop}
use Rattle.mj_disk.specs.Content.{Content, InNone, IsImage, settled, spliced, touched, written}
use Rattle.mj_disk.specs.DiskModel.{History}
use Rattle.mj_disk.specs.Entries.{replayed, history_of, last_of, kept_before}
use Rattle.mj_disk.specs.declared.entry.Entry.{Entry}
use Rattle.mj_disk.specs.declared.entry.Entry.TheVariants.{Wrote, Touched, Synced}

pub none_told : {A : Type 0} (history : History) → None ≡ Some history → A
none_told history is = absurd (cc is)

pub some_told : {A : Type 0} (history : History) → Some history ≡ None → A
some_told history none = absurd (cc none)

-- a disk that fails is settled no more
pub settled_failed : {A : Type 0} (clean failed : Bool) → (failed ≡ true → clean ≡ false) → failed ≡ true → clean ≡ true → A
settled_failed clean failed unsettled is settled = let not_clean = unsettled is in absurd (cc (not_clean, settled))

-- a range more
pub InNone-front : (k : ℕ) (ranges : List (ℕ × ℕ)) (range : ℕ × ℕ) → InNone k (ranges ++ range ∷ []) → InNone k ranges
InNone-front k [] range none = tt
InNone-front k (first ∷ ranges) range none = (none.0, InNone-front k ranges range none.1)

pub InNone-last : (k : ℕ) (ranges : List (ℕ × ℕ)) (range : ℕ × ℕ) → InNone k (ranges ++ range ∷ []) → (k < range.0) ⊎ (range.0 + range.1 ≤ k)
InNone-last k [] range none = none.0
InNone-last k (first ∷ ranges) range none = InNone-last k ranges range none.1

pub length-spliced : (at : ℕ) (octets old : List ℕ) → length (spliced at octets old) ≡ length (take at old) + length octets + length (drop (at + length octets) old)
length-spliced at octets old =
    omega (arith, length-append (take at old ++ octets) (drop (at + length octets) old), length-append (take at old) octets)

-- before the range and behind it the bytes stay
pub spliced-outside : (at : ℕ) (octets old : List ℕ) (k : ℕ) → k < length old → (k < at) ⊎ (at + length octets ≤ k) → get_or (spliced at octets old) k 0 ≡ get_or old k 0
spliced-outside at octets old k inside (inl before) =
    let short : k < length (take at old) = omega (arith, length-take at old) in
    let shorter : k < length (take at old ++ octets) = omega (arith, length-append (take at old) octets) in
    get_or_append_left (take at old ++ octets) (drop (at + length octets) old) 0 k shorter
    ∙ get_or_append_left (take at old) octets 0 k short
    ∙ get_or-take at old k 0 before
spliced-outside at octets old k inside (inr behind) =
    let long : length (take at old ++ octets) ≡ at + length octets = omega (arith, length-append (take at old) octets, length-take at old) in
    let place : at + length octets + (k - (at + length octets)) ≡ k = omega arith in
    get_or-append_right (take at old ++ octets) (drop (at + length octets) old) (at + length octets) k 0 long behind
    ∙ get_or-drop (at + length octets) old (k - (at + length octets)) 0
    ∙ ap (λ (n : ℕ). get_or old n 0) place

-- what is read stays an image
settled_reads : (octets : List ℕ) → IsImage (settled octets) octets
settled_reads octets = record { no_shorter = omega arith; no_longer = omega arith; kept = λ k inside none. refl }

touched_reads : (at n : ℕ) (held : Content) → IsImage held held.octets → IsImage (touched at n held) held.octets
touched_reads at n held reads = record {
  no_shorter = reads.no_shorter;
  no_longer = omega (arith, reads.no_longer);
  kept = λ k inside none. reads.kept k inside (InNone-front k held.ranges (at, n) none);
}

written_reads : (at : ℕ) (octets : List ℕ) (held : Content) → IsImage held held.octets → IsImage (written at octets held) (spliced at octets held.octets)
written_reads at octets held reads = record {
  no_shorter = omega (arith, reads.no_shorter, length-spliced at octets held.octets, length-take at held.octets, length-drop (at + length octets) held.octets);
  no_longer = omega (arith, reads.no_longer, length-spliced at octets held.octets, length-take at held.octets, length-drop (at + length octets) held.octets);
  kept = λ k inside none. let within : k < length held.octets = omega (arith, reads.no_shorter) in
      spliced-outside at octets held.octets k within (InNone-last k held.ranges (at, length octets) none)
      ∙ reads.kept k inside (InNone-front k held.ranges (at, length octets) none);
}

replayed_reads : (start : List ℕ) (entries : List Entry) (kept : List ℕ) → IsImage (replayed start entries kept).now (replayed start entries kept).now.octets
replayed_reads start [] kept = settled_reads start
replayed_reads start (Wrote moment at len ∷ older) kept =
    written_reads at (last_of len kept) _ (replayed_reads start older (kept_before (Wrote moment at len) kept))
replayed_reads start (Touched moment at len ∷ older) kept = touched_reads at len _ (replayed_reads start older kept)
replayed_reads start (Synced moment ∷ older) kept = settled_reads _

pub recorded_reads : (start : List ℕ) (entries : List Entry) (kept : List ℕ) (history : History) → Some (history_of start entries kept) ≡ Some history → IsImage history.now history.now.octets
unfolding history_of
recorded_reads start entries kept history is =
    let same : history_of start entries kept ≡ history = cc is in
    subst (λ (h : History). IsImage h.now h.now.octets) same (replayed_reads start (reverse entries) kept)

pub recorded_settled : (held : History) (octets : List ℕ) (history : History) → Some held ≡ Some history → octets ≡ held.now.octets → held.now ≡ settled octets → history.now ≡ settled history.now.octets
recorded_settled held octets history is reads clean =
    let same : held ≡ history = cc is in
    subst (λ (h : History). h.now ≡ settled h.now.octets) same (clean ∙ ap settled reads)

pub recorded_in_time : (held : History) (P : History → Type 0) (history : History) → Some held ≡ Some history → P held → P history
recorded_in_time held P history is holds =
    let same : held ≡ history = cc is in
    subst P same holds
