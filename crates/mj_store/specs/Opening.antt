-- What an opening finds, and why it is refused.
use Rattle.std.specs.Prelude.{◌≡◌, ℕ, ◌+◌, ◌⊎◌, Bool, not, cond, nat_eq, List, [], ◌∷◌, ◌++◌, Option, Some, None}
use Rattle.std.specs.List.{AllByRecursion}
use Rattle.mj_disk.specs.Content.{Content}
use Rattle.mj_disk.specs.DiskModel.{History, Now, IsSettled}
use Rattle.mj_disk.specs.declared.disk.Disk.{Ghosts}
use Rattle.mj_tickets.specs.declared.command.TicketCmd.{TicketCmd}
use Rattle.mj_tickets.specs.declared.place.Place.{Place}
use Rattle.mj_tickets.specs.Payload.{IsCommand}
use Rattle.mj_tickets.specs.Fold.{Fold, applied}
use Rattle.mj_tickets.specs.Index.{place_in}
use Rattle.mj_journal.specs.declared.fault.OpenFault.{OpenFault}
use Rattle.mj_journal.specs.declared.fault.OpenFault.TheVariants.{NotAStore, Version, Damaged, DiskFault, NoMemory}
use Rattle.mj_journal.specs.FileText.{IsShort, Opens, end_of, header_2}
use Rattle.mj_journal.specs.Opening.{IsDamagedAt, IsRefused, ReadTo}
use Rattle.mj_store.specs.Commands.{payloads_of, index_of, IsWritten, IsLawful, StandsForCommands}
use Rattle.mj_store.specs.Standing.{StoreValue, Holds, IsInDoubt, IsTelling, Leaves}

-- the bytes as they were, or a new file with base 1 in the place of a short one
abbrev pub KeepsOrMakes : Content → Content → Type 0
KeepsOrMakes old new = ((new.octets ≡ old.octets) × ¬ IsShort old.octets) ⊎ (IsShort old.octets × (new.octets ≡ header_2 1 ++ 0 ∷ []))

-- the closed gate stands elsewhere than at this place
abbrev pub has_moved : ℕ → StoreValue → Bool
has_moved end store = not (nat_eq store.end end)

abbrev pub found_if : Bool → List TicketCmd → List TicketCmd
found_if found doubt = cond found doubt []

-- of a disk that opens as a lawful list, memory and disk stand for that list
abbrev pub Begins : {D : Type 0} → Ghosts D → D → StoreValue → D → Type 0
Begins disks disk store after =
    (base : ℕ) (cmds : List TicketCmd) (history : History) → disks.told disk ≡ Some history → IsLawful base cmds → Opens base (payloads_of cmds) history.now.octets → Holds disks base cmds store after

-- of a disk in doubt that tells, they stand for the list with the doubt exactly where the closed gate has moved
abbrev pub FindsDoubt : {D : Type 0} → Ghosts D → D → StoreValue → D → Type 0
FindsDoubt disks disk store after =
    (base : ℕ) (cmds doubt : List TicketCmd) (end : ℕ) → IsTelling disks disk → IsInDoubt disks base cmds doubt end disk → Holds disks base (cmds ++ found_if (has_moved end store) doubt) store after

abbrev pub StaysInDoubt : {D : Type 0} → Ghosts D → D → D → Type 0
StaysInDoubt disks disk after =
    (base : ℕ) (cmds doubt : List TicketCmd) (end : ℕ) → IsInDoubt disks base cmds doubt end disk → IsInDoubt disks base cmds doubt end after

abbrev pub LeavesInDoubt : {D : Type 0} → Ghosts D → D → D → Type 0
LeavesInDoubt disks disk after =
    (base : ℕ) (cmds doubt : List TicketCmd) (end : ℕ) → IsInDoubt disks base cmds doubt end disk → Leaves disks base (cmds ∷ (cmds ++ doubt) ∷ []) disk after

abbrev pub LeavesBegun : {D : Type 0} → Ghosts D → D → D → Type 0
LeavesBegun disks disk after =
    (base : ℕ) (cmds : List TicketCmd) (history : History) → disks.told disk ≡ Some history → IsSettled history.now → Opens base (payloads_of cmds) history.now.octets → Leaves disks base (cmds ∷ []) disk after

-- ---- why a file isn't opened

-- these commands, and the tickets that they leave, up to this gate
pub record Reads (base gate : ℕ) (index : Fold Place) (cmds : List TicketCmd) : Type 0 where
  pub written : AllByRecursion IsWritten cmds
  pub index_is : index_of base cmds ≡ Some index
  pub gate_is : gate ≡ end_of (payloads_of cmds)

abbrev pub ReadIn : ℕ → ℕ → List TicketCmd → Content → Type 0
ReadIn base gate cmds held = (head : List ℕ) × ReadTo base gate head (payloads_of cmds) held.octets

abbrev pub HasRead : ℕ → ℕ → Fold Place → Option History → Type 0
HasRead base gate index told = (cmds : List TicketCmd) × Reads base gate index cmds × Now told (ReadIn base gate cmds)

abbrev pub HasAll : ℕ → ℕ → Fold Place → Option History → Type 0
HasAll base gate index told = (cmds : List TicketCmd) × Reads base gate index cmds × Now told (λ held. StandsForCommands base cmds held.octets)

-- the record behind the gate isn't whole, or it is whole, and its payload is no command or an unlawful one
abbrev pub IsBad : ℕ → ℕ → Fold Place → List TicketCmd → List ℕ → Type 0
IsBad base gate index cmds octets =
    IsDamagedAt gate octets
    ⊎ ((payload : List ℕ) × (next : ℕ) × (head : List ℕ) × ReadTo base next head (payloads_of cmds ++ payload ∷ []) octets
    × ((cmd : TicketCmd) → IsCommand cmd payload → applied cmd (place_in (gate + 5) cmd) index ≡ None))

-- lawful commands up to this gate, and then a bad record
abbrev pub IsDamaged : ℕ → ℕ → Content → Type 0
IsDamaged base at held = (index : Fold Place) × (cmds : List TicketCmd) × Reads base at index cmds × ReadIn base at cmds held × IsBad base at index cmds held.octets

abbrev pub IsUnread : ℕ → OpenFault → Option History → Type 0
IsUnread base NotAStore told = ⊥
IsUnread base (Version version) told = ⊥
IsUnread base (Damaged at) told = Now told (IsDamaged base at)
IsUnread base DiskFault told = Unit {0}
IsUnread base NoMemory told = Unit {0}

abbrev pub IsUnopened : OpenFault → Option History → Option History → Type 0
IsUnopened NotAStore before after = Now before (λ held. IsRefused NotAStore held.octets)
IsUnopened (Version version) before after = Now before (λ held. IsRefused (Version version) held.octets)
IsUnopened (Damaged at) before after = Now after (λ held. (base : ℕ) × IsDamaged base at held)
IsUnopened DiskFault before after = Unit {0}
IsUnopened NoMemory before after = Unit {0}

-- a refusal of the file itself
abbrev pub IsRefusal : OpenFault → Type 0
IsRefusal NotAStore = Unit {0}
IsRefusal (Version version) = Unit {0}
IsRefusal (Damaged at) = Unit {0}
IsRefusal DiskFault = ⊥
IsRefusal NoMemory = ⊥

abbrev pub NoneInDoubt : {D : Type 0} → Ghosts D → D → Type 0
NoneInDoubt disks disk = (base : ℕ) (cmds doubt : List TicketCmd) (end : ℕ) → IsInDoubt disks base cmds doubt end disk → ⊥

-- the disk tells what it holds, which opens as this lawful list
pub record OpensLawfully (base : ℕ) (cmds : List TicketCmd) (told : Option History) : Type 0 where
  pub history : History
  pub tells : told ≡ Some history
  pub lawful : IsLawful base cmds
  pub opens : Opens base (payloads_of cmds) history.now.octets

-- what it holds opens as no lawful list
abbrev pub NoneLawful : Option History → Type 0
NoneLawful told = (base : ℕ) (cmds : List TicketCmd) → OpensLawfully base cmds told → ⊥
