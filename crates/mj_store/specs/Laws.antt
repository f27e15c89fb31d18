-- What holds of an image that a crash left, where it is taken as a fresh disk.
use Rattle.std.specs.Prelude.{◌≡◌, ℕ, ◌⊎◌, List, [], ◌∷◌, Some, Contains}
use Rattle.std.specs.List.{AllByRecursion}
use Rattle.mj_disk.specs.Content.{settled}
use Rattle.mj_disk.specs.DiskModel.{History}
use Rattle.mj_disk.specs.declared.disk.Disk.{Ghosts}
use Rattle.mj_tickets.specs.declared.command.TicketCmd.{TicketCmd}
use Rattle.mj_store.specs.Commands.{IsLawful, OpensFor, OpensForOne}
use Rattle.mj_store.specs.Standing.{StoreValue, Holds, Leaves}
use Rattle.mj_store.specs.Opening.{Begins, LeavesBegun}

-- it holds the image, and all of it is synced
abbrev pub IsFresh : {D : Type 0} → Ghosts D → List ℕ → D → Type 0
IsFresh disks image disk = (history : History) × (disks.told disk ≡ Some history) × (history.now ≡ settled image)

-- opening this disk gives these commands, and a crash inside the opening leaves nothing else
pub record OpensAgain {D : Type 0} (disks : Ghosts D) (base : ℕ) (cmds : List TicketCmd) (disk : D) : Type 0 where
  pub lawful : IsLawful base cmds
  pub gives : (store : StoreValue) (after : D) → Begins disks disk store after → Holds disks base cmds store after
  pub leaves : (after : D) → LeavesBegun disks disk after → Leaves disks base (cmds ∷ []) disk after

-- an image that opens as a lawful list; without commands its base may be another
abbrev pub ImagesOpenAgain : {D : Type 0} → Ghosts D → Type 0
ImagesOpenAgain {D} disks =
    (base : ℕ) (cmds : List TicketCmd) (image : List ℕ) (disk : D) → IsLawful base cmds → OpensFor base cmds image → IsFresh disks image disk
    → (of : ℕ) × ((of ≡ base) ⊎ (cmds ≡ [])) × OpensAgain disks of cmds disk

-- an image that opens as one of some lawful lists
abbrev pub OneOpensAgain : {D : Type 0} → Ghosts D → Type 0
OneOpensAgain {D} disks =
    (base : ℕ) (lists : List (List TicketCmd)) (image : List ℕ) (disk : D) → AllByRecursion (IsLawful base) lists → OpensForOne base lists image → IsFresh disks image disk
    → (cmds : List TicketCmd) × Contains lists cmds × ((of : ℕ) × ((of ≡ base) ⊎ (cmds ≡ [])) × OpensAgain disks of cmds disk)
