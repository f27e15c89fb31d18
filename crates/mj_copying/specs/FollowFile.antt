-- The file of a run of follow: what the disk holds, and what a crash may leave.
use Rattle.std.specs.Prelude.{ℕ, ◌≡◌, Bool, true, false, List, ◌++◌, Option, None, Some, if◌then◌else◌}
use Rattle.mj_copy_file.specs.Logs.{Holds}
use Rattle.mj_copy_file.specs.declared.log.Log.{Log}
use Rattle.mj_copying.specs.FollowRun.{Copying}
use Rattle.mj_disk.specs.DiskModel.{History, IsSettled, LeavesOnly}
use Rattle.mj_disk.specs.declared.disk.Disk.{Ghosts}
use Rattle.mj_journal.specs.FileText.{Opens, OpensAs}

-- it is open and settled, and stands for the payloads with the end's base; or the disk is as it was at the start
abbrev pub FileIs : {D : Type 0} → Ghosts D → Option History → Copying → Option Log → D → Type 0
FileIs disks start c None disk = (c.following.opened ≡ false) × (disks.told disk ≡ start)
FileIs disks start c (Some log) disk = (c.following.opened ≡ true) × (log.base ≡ c.following.base) × Holds disks c.payloads log disk

-- the image opens as the first list with some of what the last has more
pub record IsBetween (first last : List (List ℕ)) (image : List ℕ) : Type 0 where
  pub more : List (List ℕ)
  pub rest : List (List ℕ)
  pub opens : OpensAs (first ++ more) image
  pub last_is : last ≡ (first ++ more) ++ rest

-- what the file has in the end, where it began with these
abbrev pub has_then : Bool → List (List ℕ) → List (List ℕ) → List (List ℕ)
has_then opened payloads others = if opened then payloads else others

-- From a settled disk, each image that a crash since the start may have left opens as what the bytes opened as then, or
-- with the first of the payloads that came; the doubt is a payload that is being appended, or none.
abbrev pub CrashesBetween : ℕ × ℕ → Option History → Option History → Copying → List (List ℕ) → Type 0
CrashesBetween moments start now c doubt =
    (history : History) (of : ℕ) (others : List (List ℕ)) → start ≡ Some history → IsSettled history.now → Opens of others history.now.octets
    → LeavesOnly moments start now (IsBetween others (has_then c.following.opened c.payloads others ++ doubt))
