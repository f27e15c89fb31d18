-- What a disk held at each moment, and the words in which the calls of a disk say what they change. A disk that
-- doesn't tell what it holds has no history.
use Rattle.std.specs.Prelude.{◌≡◌, ℕ, ◌<◌, ◌≤◌, ◌⊎◌, max, List, [], ◌∷◌, Option, Some, None}
use Rattle.mj_disk.specs.Content.{Content, IsImage, settled, touched, Spoils}

-- what it holds, and what it held before, each with the moment at which it ended, newest first
pub record History : Type 0 where
  pub now : Content
  pub past : List (ℕ × Content)

abbrev pub begun : List ℕ → History
begun octets = record { now = settled octets; past = [] }

-- at a moment it comes to hold something else
abbrev pub changed : ℕ → Content → History → History
changed moment next history = record { now = next; past = (moment, history.now) ∷ history.past }

-- a crash after the moment, and before what it holds now, might have left the image
abbrev pub EndedSince : List (ℕ × Content) → ℕ → List ℕ → Type 0
EndedSince [] moment image = ⊥
EndedSince (ended ∷ past) moment image = ((moment < ended.0) × IsImage ended.1 image) ⊎ EndedSince past moment image

-- a crash since the moment, at it, now or in between, inside a call too, might have left the image
abbrev pub LeftSince : Option History → ℕ → List ℕ → Type 0
LeftSince None moment image = ⊥
LeftSince (Some history) moment image = IsImage history.now image ⊎ EndedSince history.past moment image

-- the moment of the last change
abbrev pub latest : List (ℕ × Content) → ℕ
latest [] = 0
latest (ended ∷ past) = max ended.0 (latest past)

-- Of a disk that tells, what it holds now has P.
abbrev pub Now : Option History → (Content → Type 0) → Type 0
Now told P = (history : History) → told ≡ Some history → P history.now

-- what is held afterwards, of what was held before
abbrev pub Becomes : (Content → Content) → Option History → Option History → Type 0
Becomes next before after = (old : History) → before ≡ Some old → (new : History) × (after ≡ Some new) × (new.now ≡ next old.now)

-- what is held, before and afterwards
abbrev pub Turns : (Content → Content → Type 0) → Option History → Option History → Type 0
Turns how before after = (old : History) → before ≡ Some old → (new : History) × (after ≡ Some new) × how old.now new.now

-- between two moments there was no change, or one
abbrev pub Changes : (Content → Content → Type 0) → ℕ × ℕ → Option History → Option History → Type 0
Changes how moments before after =
    (history : History) → before ≡ Some history
    → (after ≡ Some history) ⊎ ((next : Content) × (after ≡ Some (changed moments.1 next history)) × (moments.0 < moments.1) × how history.now next)

-- A write, whole or failed: images of before stay images, and no others come than those with the range written.
pub record Touches (at n : ℕ) (old new : Content) : Type 0 where
  pub none_lost : (image : List ℕ) → IsImage old image → IsImage new image
  pub none_more : (image : List ℕ) → IsImage new image → IsImage (touched at n old) image

-- a failed write
abbrev pub SpoilsAt : ℕ → ℕ → Content → Content → Type 0
SpoilsAt at n old new = Spoils at n old.octets new.octets

abbrev pub Syncs : Content → Content → Type 0
Syncs old new = new ≡ settled old.octets

-- all that is held is synced
abbrev pub IsSettled : Content → Type 0
IsSettled held = held ≡ settled held.octets

-- Each image that a crash since the first moment may have left has P, and a crash since an earlier moment left what
-- it might have left before, or an image that has P.
pub record LeavesOnly (moments : ℕ × ℕ) (old new : Option History) (P : List ℕ → Type 0) : Type 0 where
  pub later : moments.0 ≤ moments.1
  pub each : (image : List ℕ) → LeftSince new moments.0 image → P image
  pub before : (moment : ℕ) (image : List ℕ) → moment ≤ moments.0 → LeftSince new moment image → LeftSince old moment image ⊎ P image

-- What each image since an earlier start has, each image has still.
abbrev pub LeavesOn : (List ℕ → Type 0) → ℕ × ℕ → Option History → Option History → Type 0
LeavesOn P moments old new =
    (start : ℕ) (before : Option History) → LeavesOnly (start, moments.0) before old P → LeavesOnly (start, moments.1) before new P

-- the same as `LeavesOnly`, with P said of what was held at the start
abbrev pub CrashesAs : (Content → List ℕ → Type 0) → ℕ × ℕ → Option History → Option History → Type 0
CrashesAs how moments old new = (history : History) → old ≡ Some history → LeavesOnly moments old new (how history.now)
