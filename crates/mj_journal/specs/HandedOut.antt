-- What an opening hands out as a whole: the words of `begin` and `next`, one call behind the other.
use Rattle.std.specs.Prelude.{◌≡◌, ℕ, ◌⊎◌, List, [], ◌∷◌, ◌++◌, Option, Some}
use Rattle.mj_disk.specs.Content.{Content, IsImage}
use Rattle.mj_disk.specs.DiskModel.{History, Now, IsSettled, LeftSince, CrashesAs}
use Rattle.mj_journal.specs.FileText.{IsHeader, IsShort, Opens, OpensAs, Stands, end_of}
use Rattle.mj_journal.specs.Opening.{Begins, ReadsOne, ReadsAll, IsImageOrOpensAlike}
use Rattle.mj_journal.specs.Appending.{CrashesOldOrNew}

-- from a gate on, calls of `next` gave these payloads, each from the gate at which the one before stopped, and then
-- one answered false
abbrev pub HandsFrom : ℕ → ℕ → List (List ℕ) → Content → Type 0
HandsFrom base gate [] held = ReadsAll base gate held
HandsFrom base gate (payload ∷ payloads) held = (next : ℕ) × ReadsOne base gate next payload held × HandsFrom base next payloads held

-- `begin` made this of the disk, and the calls of `next` behind it gave these payloads, up to the closed gate
abbrev pub HandsOut : ℕ → ℕ → List (List ℕ) → Option History → Option History → Type 0
HandsOut asked base handed before after = (size : ℕ) × Begins asked base size before after × Now after (HandsFrom base 16 handed)

-- the base of the file, or the one that was asked for where the file was made anew
abbrev pub IsBaseOf : ℕ → ℕ → ℕ → List ℕ → Type 0
IsBaseOf asked base of octets = (base ≡ of) ⊎ (IsShort octets × (base ≡ asked))

-- an opening of what reads so hands out the list as which it opens, and its base
abbrev pub HandsOutItsList : Option History → Type 0
HandsOutItsList told =
    (history : History) (after : Option History) (asked base of : ℕ) (payloads handed : List (List ℕ)) → told ≡ Some history → Opens of payloads history.now.octets → HandsOut asked base handed told after
    → (handed ≡ payloads) × IsBaseOf asked base of history.now.octets

-- each image that a crash now may leave opens as one of the two
abbrev pub OpensAsEither : List (List ℕ) → List (List ℕ) → Content → Type 0
OpensAsEither first second held = (image : List ℕ) → IsImage held image → OpensAs first image ⊎ OpensAs second image

-- an opening now hands out one of the two
abbrev pub HandsOutEither : Option History → Type 0
HandsOutEither told =
    (history : History) (after : Option History) (asked base : ℕ) (first second handed : List (List ℕ)) → told ≡ Some history → OpensAsEither first second history.now → HandsOut asked base handed told after
    → (handed ≡ first) ⊎ (handed ≡ second)

-- and so does one of a disk that reads an image that a crash now may leave
abbrev pub ImagesHandOutEither : Option History → Type 0
ImagesHandOutEither told =
    (history left : History) (after : Option History) (asked base : ℕ) (first second handed : List (List ℕ)) → told ≡ Some history → OpensAsEither first second history.now → IsImage history.now left.now.octets → HandsOut asked base handed (Some left) after
    → (handed ≡ first) ⊎ (handed ≡ second)

-- what this disk reads, or an image that a crash of it since the moment may have left
abbrev pub ReadsSince : Option History → ℕ → History → Type 0
ReadsSince told moment left = (told ≡ Some left) ⊎ LeftSince told moment left.now.octets

-- after a beginning, whole, failed or cut off by a crash, an opening once more hands out one of the two
abbrev pub BegunHandsOutEither : Option History → Option History → Type 0
BegunHandsOutEither before told =
    (moments : ℕ × ℕ) → CrashesAs IsImageOrOpensAlike moments before told
    → (history left : History) (after : Option History) (asked base : ℕ) (first second handed : List (List ℕ)) → before ≡ Some history → OpensAsEither first second history.now
    → ReadsSince told moments.0 left → HandsOut asked base handed (Some left) after
    → (handed ≡ first) ⊎ (handed ≡ second)

-- after an append on a settled disk, whole, failed or cut off, an opening hands out the old list or the one with the
-- payload, and the file's base
abbrev pub AppendedHandsOutEither : Option History → Option History → Type 0
AppendedHandsOutEither before told =
    (payload : List ℕ) (end : ℕ) (moments : ℕ × ℕ) → CrashesOldOrNew payload end moments before told
    → (history left : History) (after : Option History) (head : List ℕ) (asked base of : ℕ) (payloads handed : List (List ℕ)) → before ≡ Some history → IsSettled history.now → IsHeader of head → Stands head payloads history.now.octets → end ≡ end_of payloads
    → ReadsSince told moments.0 left → HandsOut asked base handed (Some left) after
    → (base ≡ of) × ((handed ≡ payloads) ⊎ (handed ≡ payloads ++ payload ∷ []))
