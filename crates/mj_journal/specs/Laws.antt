-- What holds of the texts of files.
use Rattle.std.specs.Prelude.{◌≡◌, ℕ, ◌+◌, ◌<◌, ◌≤◌, List, [], ◌∷◌, ◌++◌, length, take, drop}
use Rattle.std.specs.List.{AllByRecursion}
use Rattle.mj_disk.specs.Content.{Content}
use Rattle.mj_journal.specs.declared.fault.OpenFault.TheVariants.{NotAStore, Version}
use Rattle.mj_journal.specs.FileText.{IsHeader, IsPayload, IsLittle, Stands, StandsFor, Opens, OpensAs, end_of, text}
use Rattle.mj_journal.specs.Opening.{IsNoHeader, IsRefused, ReadTo, IsDamagedAt}
use Rattle.mj_journal.specs.Appending.{EndsAt}
use Rattle.mj_journal.specs.Making.{making_head}

abbrev pub HeadersAreSixteen : Type 0
HeadersAreSixteen = (base : ℕ) (head : List ℕ) → IsHeader base head → length head ≡ 16

abbrev pub HeadersHaveOneBase : Type 0
HeadersHaveOneBase = (base other : ℕ) (head : List ℕ) → IsHeader base head → IsHeader other head → base ≡ other

abbrev pub ShortOnesAreLittle : Type 0
ShortOnesAreLittle = (octets : List ℕ) → length octets ≤ 17 → IsLittle octets

abbrev pub ShortOnesHaveNone : Type 0
ShortOnesHaveNone = (payloads : List (List ℕ)) (octets : List ℕ) → length octets ≤ 17 → OpensAs payloads octets → payloads ≡ []

abbrev pub EndsAddUp : Type 0
EndsAddUp = (payloads : List (List ℕ)) (payload : List ℕ) → end_of (payloads ++ payload ∷ []) ≡ end_of payloads + (length payload + 5)

abbrev pub EndsAreInside : Type 0
EndsAreInside = (end : ℕ) (held : Content) → EndsAt end held → end < length held.octets

-- the record behind a gate has its payload five bytes on, and ends in front of the file's closed gate or at it
abbrev pub PayloadsAreInPlace : Type 0
PayloadsAreInPlace =
    (head : List ℕ) (before : List (List ℕ)) (payload : List ℕ) (behind : List (List ℕ)) (octets : List ℕ) → length head ≡ 16 → Stands head (before ++ payload ∷ behind) octets
    → (take (length payload) (drop (end_of before + 5) octets) ≡ payload) × (end_of before + 5 + length payload ≤ end_of (before ++ payload ∷ behind))

-- what was read of a file that stands for a list is a front of the list, and the base is the file's
abbrev pub ReadInFront : Type 0
ReadInFront =
    (base of gate : ℕ) (head : List ℕ) (sofar all : List (List ℕ)) (octets : List ℕ) → ReadTo base gate head sofar octets → StandsFor of all octets
    → (base ≡ of) × ((rest : List (List ℕ)) × (all ≡ sofar ++ rest))

-- and such a file isn't refused
abbrev pub WholeIsUndamaged : Type 0
WholeIsUndamaged =
    (base of gate : ℕ) (head : List ℕ) (sofar all : List (List ℕ)) (octets : List ℕ) → ReadTo base gate head sofar octets → StandsFor of all octets → ¬ IsDamagedAt gate octets

abbrev pub WholeIsBegun : Type 0
WholeIsBegun =
    (base version : ℕ) (payloads : List (List ℕ)) (octets : List ℕ) → StandsFor base payloads octets
    → (¬ IsRefused NotAStore octets) × ¬ IsRefused (Version version) octets

abbrev pub StandsOnce : Type 0
StandsOnce =
    (head other : List ℕ) (payloads others : List (List ℕ)) (octets : List ℕ) → length head ≡ 16 → length other ≡ 16 → Stands head payloads octets → Stands other others octets → (head ≡ other) × (payloads ≡ others)

abbrev pub OpensOnce : Type 0
OpensOnce =
    (base other : ℕ) (payloads others : List (List ℕ)) (octets : List ℕ) → Opens base payloads octets → Opens other others octets → (base ≡ other) × (payloads ≡ others)

abbrev pub TextStands : Type 0
TextStands = (head : List ℕ) (payloads : List (List ℕ)) → AllByRecursion IsPayload payloads → Stands head payloads (text head payloads)

abbrev pub NoStoreInTheMaking : Type 0
NoStoreInTheMaking = (base : ℕ) (payloads : List (List ℕ)) (octets : List ℕ) → Stands (making_head base) payloads octets → IsNoHeader (take 16 octets)
