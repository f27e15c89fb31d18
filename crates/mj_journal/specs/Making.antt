-- A file in the making: until it is finished its first byte is 0, so that it is no store.
use Rattle.std.specs.Prelude.{◌≡◌, ℕ, ◌≤◌, ◌⊎◌, List, [], ◌∷◌, ◌++◌, length, Option}
use Rattle.std.specs.List.{AllByRecursion}
use Rattle.mj_disk.specs.Content.{Content, IsImage, settled}
use Rattle.mj_disk.specs.DiskModel.{History, Now, IsSettled, LeavesOnly}
use Rattle.mj_journal.specs.declared.fault.OpenFault.TheVariants.{NotAStore}
use Rattle.mj_journal.specs.FileText.{base_octets, header_2, IsPayload, StandsFor, end_of, text}
use Rattle.mj_journal.specs.Opening.{IsRefused}

abbrev pub making_head : ℕ → List ℕ
making_head base = 0 ∷ 74 ∷ 84 ∷ 83 ∷ 84 ∷ 79 ∷ 82 ∷ 50 ∷ base_octets base

-- the file in the making has these payloads so far, and nothing behind its closed gate; all of it is synced
pub record IsMade (base end : ℕ) (payloads : List (List ℕ)) (held : Content) : Type 0 where
  pub all : AllByRecursion IsPayload payloads
  pub is_text : held ≡ settled (text (making_head base) payloads)
  pub place : end ≡ end_of payloads

-- it ends here
abbrev pub IsMaking : ℕ → ℕ → Content → Type 0
IsMaking base end held = (payloads : List (List ℕ)) × IsMade base end payloads held

-- no store: so short that it opens as none, or refused for its header
abbrev pub IsUnfinished : List ℕ → Type 0
IsUnfinished image = (length image ≤ 17) ⊎ IsRefused NotAStore image

-- the whole store of format 2, and not a byte more
abbrev pub IsWholeStore : ℕ → List (List ℕ) → List ℕ → Type 0
IsWholeStore base payloads image = (image ≡ text (header_2 base) payloads) × StandsFor base payloads image

abbrev pub IsFinished : ℕ → List (List ℕ) → Content → Type 0
IsFinished base payloads held = IsSettled held × IsWholeStore base payloads held.octets

abbrev pub IsUnfinishedOrWhole : ℕ → List (List ℕ) → List ℕ → Type 0
IsUnfinishedOrWhole base payloads image = IsUnfinished image ⊎ IsWholeStore base payloads image

-- an image of before, or, of an empty disk, one of at most 17 bytes
abbrev pub IsImageOrFirst : Content → List ℕ → Type 0
IsImageOrFirst held image = IsImage held image ⊎ ((held.octets ≡ []) × (length image ≤ 17))

-- the bytes as they were, or, on an empty disk, at most 17
abbrev pub KeepsUnlessEmpty : Content → Content → Type 0
KeepsUnlessEmpty old new = (new.octets ≡ old.octets) ⊎ ((old.octets ≡ []) × (length new.octets ≤ 17))

-- on an empty disk that is settled, each image since the start is no store
abbrev pub BeginsUnfinished : ℕ × ℕ → Option History → Option History → Type 0
BeginsUnfinished moments before after =
    Now before (λ held. held ≡ settled []) → LeavesOnly moments before after IsUnfinished

-- the file in the making has one payload more, whatever it had so far
abbrev pub Grows : ℕ → ℕ → ℕ → List ℕ → Option History → Option History → Type 0
Grows base end next payload before after =
    (payloads : List (List ℕ)) → Now before (IsMade base end payloads) → Now after (IsMade base next (payloads ++ payload ∷ []))

-- it becomes the whole store
abbrev pub Finishes : ℕ → ℕ → Option History → Option History → Type 0
Finishes base end before after =
    (payloads : List (List ℕ)) → Now before (IsMade base end payloads) → Now after (IsFinished base payloads)

-- it reads as no store, or as the whole
abbrev pub ReadsUnfinishedOrWhole : ℕ → ℕ → Option History → Option History → Type 0
ReadsUnfinishedOrWhole base end before after =
    (payloads : List (List ℕ)) → Now before (IsMade base end payloads) → Now after (λ held. IsUnfinishedOrWhole base payloads held.octets)

-- where each image since some start was no store, each is no store still, or the whole
abbrev pub FinishesOrNot : ℕ → ℕ → ℕ × ℕ → Option History → Option History → Type 0
FinishesOrNot base end moments before after =
    (payloads : List (List ℕ)) (start : ℕ) (origin : Option History) → Now before (IsMade base end payloads) → LeavesOnly (start, moments.0) origin before IsUnfinished
    → LeavesOnly (start, moments.1) origin after (IsUnfinishedOrWhole base payloads)
