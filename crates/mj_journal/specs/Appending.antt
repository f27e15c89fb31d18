-- What an append does to a file, and what a crash leaves of it.
use Rattle.std.specs.Prelude.{◌≡◌, ℕ, ◌≤◌, ◌⊎◌, List, [], ◌∷◌, ◌++◌, length, Option, Some}
use Rattle.mj_disk.specs.Content.{Content}
use Rattle.mj_disk.specs.DiskModel.{History, IsSettled, LeavesOnly}
use Rattle.mj_journal.specs.FileText.{length_octets, Stands, end_of, text}

-- a payload's record and the closed gate behind it
abbrev pub recorded : List ℕ → List ℕ
recorded payload = length_octets (length payload) ++ payload ++ 0 ∷ []

-- the file's closed gate stands here, behind some payloads and sixteen bytes in front
abbrev pub EndsAt : ℕ → Content → Type 0
EndsAt end held = (head : List ℕ) × (payloads : List (List ℕ)) × (length head ≡ 16) × Stands head payloads held.octets × (end ≡ end_of payloads)

-- the file reaches up to this gate, as it does where it ends there
abbrev pub ReachesTo : ℕ → Content → Type 0
ReachesTo end held = EndsAt end held ⊎ (end ≤ length held.octets)

-- the file stands for one payload more, behind the same front
abbrev pub Appends : List ℕ → ℕ → Option History → Option History → Type 0
Appends payload end before after =
    (old : History) (head : List ℕ) (payloads : List (List ℕ)) → before ≡ Some old → length head ≡ 16 → Stands head payloads old.now.octets → end ≡ end_of payloads
    → (new : History) × (after ≡ Some new) × Stands head (payloads ++ payload ∷ []) new.now.octets

-- the text of some payloads becomes the text of one more
abbrev pub AppendsText : List ℕ → ℕ → Option History → Option History → Type 0
AppendsText payload end before after =
    (old : History) (head : List ℕ) (payloads : List (List ℕ)) → before ≡ Some old → length head ≡ 16 → old.now.octets ≡ text head payloads → end ≡ end_of payloads
    → (new : History) × (after ≡ Some new) × (new.now.octets ≡ text head (payloads ++ payload ∷ []))

-- each image stands for the old payloads or for those with the new one, behind the same front
abbrev pub StandsForEither : List ℕ → List (List ℕ) → List ℕ → List ℕ → Type 0
StandsForEither head payloads payload image = Stands head payloads image ⊎ Stands head (payloads ++ payload ∷ []) image

-- the bytes stand for the one or the other, behind the same front
abbrev pub LeavesEither : List ℕ → ℕ → Option History → Option History → Type 0
LeavesEither payload end before after =
    (old : History) (head : List ℕ) (payloads : List (List ℕ)) → before ≡ Some old → length head ≡ 16 → Stands head payloads old.now.octets → end ≡ end_of payloads
    → (new : History) × (after ≡ Some new) × StandsForEither head payloads payload new.now.octets

abbrev pub CrashesOldOrNew : List ℕ → ℕ → ℕ × ℕ → Option History → Option History → Type 0
CrashesOldOrNew payload end moments before after =
    (old : History) (head : List ℕ) (payloads : List (List ℕ)) → before ≡ Some old → IsSettled old.now → length head ≡ 16 → Stands head payloads old.now.octets → end ≡ end_of payloads
    → LeavesOnly moments before after (StandsForEither head payloads payload)
