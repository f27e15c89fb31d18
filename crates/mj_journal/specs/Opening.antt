-- What opening a file does and answers.
use Rattle.std.specs.Prelude.{◌≡◌, ◌≢◌, ℕ, ◌+◌, ◌<◌, ◌≤◌, ◌⊎◌, List, [], ◌∷◌, ◌++◌, length, map, take, drop, get_or, Option, Some, None}
use Rattle.mj_disk.specs.Content.{Content, IsImage}
use Rattle.mj_disk.specs.DiskModel.{History, IsSettled}
use Rattle.mj_journal.specs.declared.fault.OpenFault.{OpenFault}
use Rattle.mj_journal.specs.declared.fault.OpenFault.TheVariants.{NotAStore, Version, Damaged, DiskFault, NoMemory}
use Rattle.mj_journal.specs.FileText.{name, header_2, IsHeader, IsPayload, length_octets, Block, spelled, AllOpen, payload_of, IsEmptyStore, IsShort, IsLittle, Stands, end_of}

-- a header of a version that nobody knows here
abbrev pub IsVersion : ℕ → List ℕ → Type 0
IsVersion version head = (take 7 head ≡ name) × (get_or head 7 0 ≡ 48 + version) × (version ≤ 9) × (version ≢ 1) × (version ≢ 2)

abbrev pub IsNoHeader : List ℕ → Type 0
IsNoHeader head = (¬ ((base : ℕ) × IsHeader base head)) × ¬ ((version : ℕ) × IsVersion version head)

-- why sixteen bytes are no header
abbrev pub IsBadHeader : OpenFault → List ℕ → Type 0
IsBadHeader NotAStore head = IsNoHeader head
IsBadHeader (Version version) head = IsVersion version head
IsBadHeader (Damaged at) head = ⊥
IsBadHeader NoMemory head = ⊥
IsBadHeader DiskFault head = ⊥

-- why a beginning was refused
abbrev pub IsRefused : OpenFault → List ℕ → Type 0
IsRefused NotAStore octets = (17 < length octets) × IsBadHeader NotAStore (take 16 octets)
IsRefused (Version version) octets = (17 < length octets) × IsBadHeader (Version version) (take 16 octets)
IsRefused (Damaged at) octets = ⊥
IsRefused NoMemory octets = ⊥
IsRefused DiskFault octets = Unit {0}

-- the faults of a beginning, and of a reading
abbrev pub IsBeginFault : OpenFault → Type 0
IsBeginFault NotAStore = Unit {0}
IsBeginFault (Version version) = Unit {0}
IsBeginFault (Damaged at) = ⊥
IsBeginFault NoMemory = ⊥
IsBeginFault DiskFault = Unit {0}

abbrev pub IsNextFault : OpenFault → Type 0
IsNextFault NotAStore = ⊥
IsNextFault (Version version) = ⊥
IsNextFault (Damaged at) = Unit {0}
IsNextFault NoMemory = Unit {0}
IsNextFault DiskFault = Unit {0}

-- P, but where a call of the disk failed
abbrev pub SaveAtDiskFault : Type 0 → OpenFault → Type 0
SaveAtDiskFault P NotAStore = P
SaveAtDiskFault P (Version version) = P
SaveAtDiskFault P (Damaged at) = P
SaveAtDiskFault P NoMemory = P
SaveAtDiskFault P DiskFault = Unit {0}

abbrev pub IsNotBegun : OpenFault → Content → Type 0
IsNotBegun fault held = IsRefused fault held.octets

-- the payloads of all records in front of a gate, whatever that gate is
pub record ReadTo (base gate : ℕ) (head : List ℕ) (payloads : List (List ℕ)) (octets : List ℕ) : Type 0 where
  pub is_header : IsHeader base head
  pub blocks : List Block
  pub mark : ℕ
  pub rest : List ℕ
  pub all_open : AllOpen blocks
  pub holds : map payload_of blocks ≡ payloads
  pub spells : octets ≡ head ++ spelled blocks ++ mark ∷ rest
  pub place : gate ≡ end_of payloads

-- some payloads were read, up to this gate
abbrev pub IsReadTo : ℕ → ℕ → Content → Type 0
IsReadTo base gate held = (head : List ℕ) × (payloads : List (List ℕ)) × ReadTo base gate head payloads held.octets

-- the bytes as they were
abbrev pub IsUntouched : Content → Content → Type 0
IsUntouched old new = new.octets ≡ old.octets

-- the bytes as they were, but in the place of short ones so few that they open as no payloads
abbrev pub KeepsFile : Content → Content → Type 0
KeepsFile old new = (new.octets ≡ old.octets) ⊎ (IsShort old.octets × IsLittle new.octets)

-- the file as it was, or a new one in the place of a short one
abbrev pub IsKeptOrMade : ℕ → ℕ → List ℕ → List ℕ → Type 0
IsKeptOrMade asked base old new =
    ((new ≡ old) × ¬ IsShort old) ⊎ (IsShort old × (new ≡ header_2 asked ++ 0 ∷ []) × (base ≡ asked))

pub record IsBegun (asked base size : ℕ) (old new : Content) : Type 0 where
  pub synced : IsSettled new
  pub head : List ℕ
  pub reads : ReadTo base 16 head [] new.octets
  pub size_is : size ≡ length new.octets
  pub same : IsKeptOrMade asked base old.octets new.octets

abbrev pub Begins : ℕ → ℕ → ℕ → Option History → Option History → Type 0
Begins asked base size before after =
    (old : History) → before ≡ Some old → (new : History) × (after ≡ Some new) × IsBegun asked base size old.now new.now

-- an image of before, or, of a short file, one that is short too and opens as no payloads
abbrev pub IsImageOrOpensAlike : Content → List ℕ → Type 0
IsImageOrOpensAlike held image = IsImage held image ⊎ (IsShort held.octets × IsLittle image)

-- the record behind the gate is whole: its length, that many bytes, and a gate
pub record IsWhole (gate : ℕ) (octets : List ℕ) : Type 0 where
  pub payload : List ℕ
  pub mark : ℕ
  pub rest : List ℕ
  pub is_payload : IsPayload payload
  pub spells : drop (gate + 1) octets ≡ length_octets (length payload) ++ payload ++ mark ∷ rest

-- an open gate whose record isn't whole
abbrev pub IsDamagedAt : ℕ → List ℕ → Type 0
IsDamagedAt gate octets = (get_or octets gate 0 ≢ 0) × ¬ IsWhole gate octets

-- why reading on was refused
abbrev pub IsNotNext : ℕ → OpenFault → Content → Type 0
IsNotNext gate NotAStore held = ⊥
IsNotNext gate (Version version) held = ⊥
IsNotNext gate (Damaged at) held = (at ≡ gate) × IsDamagedAt gate held.octets
IsNotNext gate NoMemory held = Unit {0}
IsNotNext gate DiskFault held = Unit {0}

-- one payload more was read, up to another gate
abbrev pub ReadsOne : ℕ → ℕ → ℕ → List ℕ → Content → Type 0
ReadsOne base gate next payload held =
    (get_or held.octets gate 0 ≢ 0)
    × ((head : List ℕ) (payloads : List (List ℕ)) → ReadTo base gate head payloads held.octets → ReadTo base next head (payloads ++ payload ∷ []) held.octets)

-- the gate is closed, and all was read
abbrev pub ReadsAll : ℕ → ℕ → Content → Type 0
ReadsAll base gate held =
    (get_or held.octets gate 0 ≡ 0)
    × ((head : List ℕ) (payloads : List (List ℕ)) → ReadTo base gate head payloads held.octets → Stands head payloads held.octets)

-- the record's length stands behind the gate, and the record and a gate are inside
abbrev pub IsLength : ℕ → ℕ → List ℕ → Type 0
IsLength gate len octets = (take 4 (drop (gate + 1) octets) ≡ length_octets len) × (1 ≤ len) × (len ≤ 2097152) × (gate + 5 + len < length octets)

abbrev pub MayBeWhole : Option ℕ → ℕ → List ℕ → Type 0
MayBeWhole None gate octets = ¬ IsWhole gate octets
MayBeWhole (Some len) gate octets = IsLength gate len octets

-- the base of an empty store
abbrev pub IsEmptyWith : Option ℕ → List ℕ → Type 0
IsEmptyWith None octets = ¬ IsEmptyStore octets
IsEmptyWith (Some base) octets = (head : List ℕ) × IsHeader base head × (octets ≡ head ++ 0 ∷ [])
