-- A file of lawful commands that is open: what memory keeps of it, and the list of payloads for which both stand.
use Rattle.std.specs.Prelude.{◌≡◌, ℕ, ◌+◌, ◌⊎◌, List, [], ◌∷◌, ◌++◌, length, Some, false}
use Rattle.std.specs.List.{AllByRecursion}
use Rattle.mj_disk.specs.Content.{Content}
use Rattle.mj_disk.specs.DiskModel.{History, IsSettled, LeavesOnly, Now}
use Rattle.mj_disk.specs.declared.disk.Disk.{Ghosts}
use Rattle.mj_journal.specs.FileText.{Opens, StandsFor, end_of}
use Rattle.mj_journal.specs.HandedOut.{IsBaseOf}
use Rattle.mj_store.specs.Commands.{IsBase, IsLawful, IsWritten, index_of, payloads_of}
use Rattle.mj_tickets.specs.declared.command.TicketCmd.{TicketCmd}
use Rattle.mj_copy_file.specs.declared.log.Log.{Log}
use Rattle.mj_copy_file.specs.declared.spot.Spot.{Spot}

-- the payload of each record stands five bytes behind its gate, and the next gate behind it
abbrev pub spots_from : ℕ → List (List ℕ) → List Spot
spots_from gate [] = []
spots_from gate (payload ∷ payloads) = record { at = gate + 5; len = length payload } ∷ spots_from (gate + (length payload + 5)) payloads

-- these payloads are commands, and lawful one after the other in a file with this base
pub record AreLawful (base : ℕ) (payloads : List (List ℕ)) : Type 0 where
  pub cmds : List TicketCmd
  pub lawful : IsLawful base cmds
  pub spells : payloads ≡ payloads_of cmds

-- this payload may come next
abbrev pub IsNext : ℕ → List (List ℕ) → List ℕ → Type 0
IsNext base payloads payload = AreLawful base (payloads ++ payload ∷ [])

-- memory has the places of these payloads, and the tickets that they leave
pub record Knows (payloads : List (List ℕ)) (log : Log) : Type 0 where
  pub cmds : List TicketCmd
  pub based : IsBase log.base
  pub written : AllByRecursion IsWritten cmds
  pub spells : payloads ≡ payloads_of cmds
  pub index_is : index_of log.base cmds ≡ Some log.tickets.index
  pub end_is : log.journal.end ≡ end_of payloads
  pub spots_are : log.spots.items ≡ spots_from 16 payloads
  pub unspent : log.journal.spent ≡ false

abbrev pub IsSettledAs : ℕ → List (List ℕ) → Content → Type 0
IsSettledAs base payloads held = IsSettled held × StandsFor base payloads held.octets

-- memory and disk stand for these payloads; of a disk that tells nothing only that it is settled is said
pub record Holds {D : Type 0} (disks : Ghosts D) (payloads : List (List ℕ)) (log : Log) (disk : D) : Type 0 where
  pub knows : Knows payloads log
  pub settled : disks.settled_now disk
  pub file : Now (disks.told disk) (IsSettledAs log.base payloads)

-- for some list: what each call asks
abbrev pub IsKnown : Log → Type 0
IsKnown log = (payloads : List (List ℕ)) × Knows payloads log

abbrev pub IsHeld : {D : Type 0} → Ghosts D → Log → D → Type 0
IsHeld disks log disk = (payloads : List (List ℕ)) × Holds disks payloads log disk

-- what was found is the list as which the bytes opened, and their base, or the one that was asked for where the file was
-- made anew
abbrev pub Finds : {D : Type 0} → Ghosts D → ℕ → D → List (List ℕ) → ℕ → Type 0
Finds disks asked before payloads base =
    (history : History) (of : ℕ) (others : List (List ℕ)) → disks.told before ≡ Some history → Opens of others history.now.octets → (payloads ≡ others) × IsBaseOf asked base of history.now.octets

abbrev pub OpensLog : {D : Type 0} → Ghosts D → ℕ → D → Log → D → Type 0
OpensLog disks asked before log after = (payloads : List (List ℕ)) × Holds disks payloads log after × Finds disks asked before payloads log.base

-- the payload is one more of the list, and lawful
abbrev pub AppendsOne : {D : Type 0} → Ghosts D → List ℕ → Log → D → Log → D → Type 0
AppendsOne disks payload old disk new after =
    (payloads : List (List ℕ)) → Holds disks payloads old disk → IsNext old.base payloads payload × Holds disks (payloads ++ payload ∷ []) new after

-- it may not come next, and nothing changed
pub record RefusesOne {D : Type 0} (disks : Ghosts D) (payload : List ℕ) (old : Log) (disk : D) (new : Log) (after : D) : Type 0 where
  pub unlawful : (payloads : List (List ℕ)) → Knows payloads old → ¬ IsNext old.base payloads payload
  pub log_same : new ≡ old
  pub disk_same : after ≡ disk

-- the bytes stand for the list, or for the list with the payload
abbrev pub IsEither : ℕ → List (List ℕ) → List ℕ → List ℕ → Type 0
IsEither base payloads payload octets = StandsFor base payloads octets ⊎ StandsFor base (payloads ++ payload ∷ []) octets

-- each image since the call's start stands for the one or the other
abbrev pub LeavesEither : {D : Type 0} → Ghosts D → List ℕ → Log → D → D → Type 0
LeavesEither disks payload log disk after =
    (payloads : List (List ℕ)) → Holds disks payloads log disk → LeavesOnly (disks.time disk, disks.time after) (disks.told disk) (disks.told after) (IsEither log.base payloads payload)
