-- When memory and disk stand for a list of commands, and what a call makes of that.
use Rattle.std.specs.Prelude.{◌≡◌, ℕ, ◌+◌, ◌*◌, ◌<◌, ◌≤◌, ◌^◌, ◌⊎◌, ◌||◌, Bool, true, false, nat_le, nat_lt, List, [], ◌∷◌, ◌++◌, length, Some}
use Rattle.std.specs.List.{AllByRecursion}
use Rattle.mj_base.specs.declared.limits.Limits.{Limits}
use Rattle.mj_disk.specs.Content.{Content, IsImage}
use Rattle.mj_disk.specs.DiskModel.{History, Now, IsSettled, LeavesOnly}
use Rattle.mj_disk.specs.declared.disk.Disk.{Ghosts}
use Rattle.mj_tickets.specs.declared.command.TicketCmd.{TicketCmd}
use Rattle.mj_tickets.specs.declared.place.Place.{Place}
use Rattle.mj_tickets.specs.Fold.{Fold}
use Rattle.mj_journal.specs.FileText.{end_of}
use Rattle.mj_store.specs.Commands.{payloads_of, index_of, IsBase, IsWritten, IsLawful, StandsForCommands, OpensForOne}

-- what contracts see of a store: its limits, the place of the closed gate, the tickets, and whether a call of the disk failed
pub record StoreValue : Type 0 where
  pub limits : Limits
  pub end : ℕ
  pub index : Fold Place
  pub spent : Bool

-- a fault of the journal is one of the store, and each number taken has its bytes in the file
pub record AreKept (spent of_journal : Bool) (end next : ℕ) : Type 0 where
  pub fresh : spent ≡ false → of_journal ≡ false
  pub small : end < 2 ^ 62
  pub counted : 4 * next ≤ end + 2 ^ 63

-- too many open tickets, or too large a file, for an accept whose payload has so many bytes
abbrev pub is_full : ℕ → StoreValue → Bool
is_full size store = nat_le store.limits.tickets (length store.index.tickets) || nat_lt store.limits.file (store.end + size + 6)

-- memory has the tickets of the list
pub record Knows (base : ℕ) (cmds : List TicketCmd) (store : StoreValue) : Type 0 where
  pub based : IsBase base
  pub written : AllByRecursion IsWritten cmds
  pub index_is : index_of base cmds ≡ Some store.index
  pub end_is : store.end ≡ end_of (payloads_of cmds)
  pub unspent : store.spent ≡ false

abbrev pub IsSettledFor : ℕ → List TicketCmd → Content → Type 0
IsSettledFor base cmds held = IsSettled held × StandsForCommands base cmds held.octets

abbrev pub IsTelling : {D : Type 0} → Ghosts D → D → Type 0
IsTelling disks disk = (history : History) × (disks.told disk ≡ Some history)

-- memory and disk stand for the list; of a disk that tells nothing only that it is settled is said
pub record Holds {D : Type 0} (disks : Ghosts D) (base : ℕ) (cmds : List TicketCmd) (store : StoreValue) (disk : D) : Type 0 where
  pub knows : Knows base cmds store
  pub settled : disks.settled_now disk
  pub file : Now (disks.told disk) (IsSettledFor base cmds)

-- for some list: what each call asks
abbrev pub IsHeld : {D : Type 0} → Ghosts D → StoreValue → D → Type 0
IsHeld disks store disk = (base : ℕ) × (cmds : List TicketCmd) × Holds disks base cmds store disk

-- each image stands for the list, or for the list with the commands in doubt
abbrev pub IsWithOrWithout : ℕ → List TicketCmd → List TicketCmd → Content → Type 0
IsWithOrWithout base cmds doubt held = (image : List ℕ) → IsImage held image → StandsForCommands base cmds image ⊎ StandsForCommands base (cmds ++ doubt) image

-- a call failed; the doubt is one command or none, and the closed gate of the list without it was at this place
pub record IsInDoubt {D : Type 0} (disks : Ghosts D) (base : ℕ) (cmds doubt : List TicketCmd) (end : ℕ) (disk : D) : Type 0 where
  pub plain : IsLawful base cmds
  pub whole : IsLawful base (cmds ++ doubt)
  pub end_is : end ≡ end_of (payloads_of cmds)
  pub failed : disks.failed disk ≡ true
  pub images : Now (disks.told disk) (IsWithOrWithout base cmds doubt)

-- each image since the call's start opens as one of these lists
abbrev pub Leaves : {D : Type 0} → Ghosts D → ℕ → List (List TicketCmd) → D → D → Type 0
Leaves disks base lists old new = LeavesOnly (disks.time old, disks.time new) (disks.told old) (disks.told new) (OpensForOne base lists)

-- ---- what a call does, over each list for which memory and disk stand

abbrev pub Adds : {D : Type 0} → Ghosts D → TicketCmd → StoreValue → D → StoreValue → D → Type 0
Adds disks cmd old disk new after = (base : ℕ) (cmds : List TicketCmd) → Holds disks base cmds old disk → Holds disks base (cmds ++ cmd ∷ []) new after

abbrev pub Keeps : {D : Type 0} → Ghosts D → StoreValue → D → StoreValue → D → Type 0
Keeps disks old disk new after = (base : ℕ) (cmds : List TicketCmd) → Holds disks base cmds old disk → Holds disks base cmds new after

abbrev pub Doubts : {D : Type 0} → Ghosts D → List TicketCmd → StoreValue → D → D → Type 0
Doubts disks doubt old disk after = (base : ℕ) (cmds : List TicketCmd) → Holds disks base cmds old disk → IsInDoubt disks base cmds doubt old.end after

abbrev pub LeavesWithOrWithout : {D : Type 0} → Ghosts D → List TicketCmd → StoreValue → D → D → Type 0
LeavesWithOrWithout disks doubt old disk after = (base : ℕ) (cmds : List TicketCmd) → Holds disks base cmds old disk → Leaves disks base (cmds ∷ (cmds ++ doubt) ∷ []) disk after
