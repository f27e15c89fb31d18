-- What a status says of the two disks and of what was printed.
use Rattle.std.specs.Prelude.{ℕ, ◌≡◌, ◌⊎◌, List, [], Option}
use Rattle.std.specs.Io.KnownBytes.{Appends, Keeps}
use Rattle.mj_base.specs.Rising.{Rose}
use Rattle.mj_base.specs.Writing.{AppendsFront}
use Rattle.mj_disk.specs.DiskModel.{Now}
use Rattle.mj_disk.specs.declared.disk.Disk.{Ghosts}
use Rattle.mj_compact.specs.Compacting.{Compacts, IsWhy}
use Rattle.mj_compact.specs.declared.fault.CompactFault.{CompactFault}
use Rattle.mj_words.specs.Lines.{AppendsLine, done_line, fault_words}
use Rattle.mj_words.specs.SinkCounts.{SinkCounts}
use Rattle.mj_compact_prog.specs.Halts.{fault_disk, halt_of, store_line}
use Rattle.mj_compact_prog.specs.declared.halt.Halt.TheVariants as halts
use Rattle.mj_compact_prog.specs.declared.halt.Refusal.{Refusal}
use Rattle.mj_compact_prog.specs.declared.status.Status.{Status}
use Rattle.mj_compact_prog.specs.declared.status.Status.TheVariants as statuses

-- the new file, which was empty, was made of so many tickets, and is settled
pub record IsMadeWhole {D E : Type 0} (olds : Ghosts D) (news : Ghosts E) (old old_after : D) (new new_after : E) (count : ℕ) : Type 0 where
  pub empty : Now (news.told new) (λ held. held.octets ≡ [])
  pub made : Compacts olds news old old_after new_after count
  pub settled : news.settled_now new_after

-- a file is refused, for a cause that is printed
pub record IsRefused {D E : Type 0} (olds : Ghosts D) (news : Ghosts E) (old old_after : D) (new new_after : E) (got got_after : Option (List ℕ)) (before now : SinkCounts) : Type 0 where
  pub fault : CompactFault
  pub refusal : Refusal
  pub says : halt_of fault ≡ halts.Refused refusal
  pub why : IsWhy olds news old old_after new new_after fault
  pub line : AppendsLine got got_after before now [] (store_line refusal)

abbrev pub IsRow : {D E : Type 0} → Ghosts D → Ghosts E → D → D → E → E → Option (List ℕ) → Option (List ℕ) → SinkCounts → SinkCounts → Status → Type 0
IsRow olds news old old_after new new_after got got_after before now statuses.Done =
    (count : ℕ) × IsMadeWhole olds news old old_after new new_after count × Appends got got_after (done_line count)
IsRow olds news old old_after new new_after got got_after before now statuses.Words =
    (old_after ≡ old) × (new_after ≡ new) × AppendsLine got got_after before now [] fault_words
IsRow olds news old old_after new new_after got got_after before now statuses.Store =
    IsRefused olds news old old_after new new_after got got_after before now
IsRow olds news old old_after new new_after got got_after before now statuses.NoMemory = Keeps got got_after
IsRow olds news old old_after new new_after got got_after before now statuses.Disk =
    (Rose (olds.faults old) (olds.faults old_after) ⊎ Rose (news.faults new) (news.faults new_after)) × AppendsLine got got_after before now [] fault_disk
IsRow olds news old old_after new new_after got got_after before now statuses.Write =
    Rose before.faults now.faults × ((count : ℕ) × IsMadeWhole olds news old old_after new new_after count × AppendsFront got got_after (done_line count))
