-- What a status of the command `follow` says of the link, of the disk and of what was printed.
use Rattle.std.specs.Prelude.{ℕ, ◌≡◌, ◌⊎◌, true, false, List, [], Option, None, Some}
use Rattle.std.specs.Io.KnownBytes.{Appends, Keeps}
use Rattle.mj_base.specs.Rising.{Rose}
use Rattle.mj_base.specs.Writing.{AppendsFront}
use Rattle.mj_copying.specs.FollowFile.{CrashesBetween}
use Rattle.mj_copying.specs.FollowRun.{BrokeOff, Copying, new_copying}
use Rattle.mj_copying.specs.FollowRun as run
use Rattle.mj_copying.specs.FollowState.{Ended, HasEither, IsWhy}
use Rattle.mj_copying.specs.declared.following.FollowEnding.{FollowEnding}
use Rattle.mj_copying.specs.declared.following.FollowEnding.TheVariants as endings
use Rattle.mj_copying.specs.declared.following.FollowStop.{FollowStop}
use Rattle.mj_copying.specs.declared.following.FollowStop.TheVariants as halts
use Rattle.mj_copy_file.specs.Logs.{IsSettledAs}
use Rattle.mj_disk.specs.DiskModel.{History, Now}
use Rattle.mj_words.specs.Lines.{AppendsLine, done_line, fault_read}
use Rattle.mj_copy_prog.specs.CopyLines.{fault_disk, no_answer_line, store_line}
use Rattle.mj_copy_prog.specs.Endings.{Breaks, GivesUp, PrintsDone, Refuses, Unopened}
use Rattle.mj_copy_prog.specs.Refusing.{refusal_of}
use Rattle.mj_copy_prog.specs.ShipTable.{Scene}
use Rattle.mj_copy_prog.specs.declared.refusal.Refusal.{Refusal}
use Rattle.mj_copy_prog.specs.declared.refusal.Refusal.TheVariants as refusals
use Rattle.mj_copy_prog.specs.declared.status.Status.{Status}
use Rattle.mj_copy_prog.specs.declared.status.Status.TheVariants as statuses
use Rattle.mj_words.specs.SinkCounts.{SinkCounts}

-- the file is settled and stands for the payloads with the end's base; or it was never opened, and is as it was
abbrev pub HasFile : Option History → Option History → Copying → Type 0
HasFile start now c =
    ((c.following.opened ≡ true) × Now now (IsSettledAs c.following.base c.payloads)) ⊎ ((c.following.opened ≡ false) × (now ≡ start))

-- a run of follow, from the start to this ending; and each image that a crash may have left has what the file had, with the
-- first of what came
pub record Followed (tries : ℕ) (moments : ℕ × ℕ) (t : Scene) (ending : FollowEnding) : Type 0 where
  pub last : Copying
  pub followed : run.Followed t.disk (new_copying tries) t.told t.told_now last
  pub ended : Ended ending last.following
  pub file : HasFile t.disk t.disk_now last
  pub crash : CrashesBetween moments t.disk t.disk_now last []

-- a run that broke off; the doubt is a payload that was being appended
pub record Halted (tries : ℕ) (moments : ℕ × ℕ) (t : Scene) (stop : FollowStop) : Type 0 where
  pub last : Copying
  pub broke : BrokeOff t.disk (new_copying tries) t.told t.told_now last
  pub doubt : List (List ℕ)
  pub file : last.following.opened ≡ true → Now t.disk_now (HasEither last.payloads doubt)
  pub crash : CrashesBetween moments t.disk t.disk_now last doubt
  pub why : IsWhy t.disk last t.disk_now stop

-- what is said of a file that isn't followed into
abbrev pub refusal_in : FollowStop → Option Refusal
refusal_in (halts.Broken stop) = None
refusal_in (halts.Unopened fault) = refusal_of fault
refusal_in (halts.OtherBase base) = Some (refusals.Base base)

pub record IsRefused (tries : ℕ) (moments : ℕ × ℕ) (t : Scene) : Type 0 where
  pub stop : FollowStop
  pub refusal : Refusal
  pub says : refusal_in stop ≡ Some refusal
  pub halted : Halted tries moments t stop
  pub line : AppendsLine t.got t.got_now t.sink t.sink_now [] (store_line refusal)

abbrev pub HaltedBy : ℕ → ℕ × ℕ → Scene → Type 0
HaltedBy tries moments t = (stop : FollowStop) × Halted tries moments t stop

abbrev pub IsRow : Status → ℕ → ℕ × ℕ → Scene → Type 0
IsRow statuses.Done tries moments t = (count : ℕ) × Followed tries moments t (endings.Done count) × Appends t.got t.got_now (done_line count)
IsRow statuses.Words tries moments t = ⊥
IsRow statuses.Store tries moments t = IsRefused tries moments t
IsRow statuses.NoMemory tries moments t = Keeps t.got t.got_now × (HaltedBy tries moments t ⊎ ((ending : FollowEnding) × Followed tries moments t ending))
IsRow statuses.Disk tries moments t = Rose t.disk_faults.0 t.disk_faults.1 × AppendsLine t.got t.got_now t.sink t.sink_now [] fault_disk × HaltedBy tries moments t
IsRow statuses.Read tries moments t = Rose t.reads.0 t.reads.1 × AppendsLine t.got t.got_now t.sink t.sink_now [] fault_read × HaltedBy tries moments t
IsRow statuses.Write tries moments t =
    (Rose t.writes.0 t.writes.1 × Keeps t.got t.got_now × HaltedBy tries moments t)
    ⊎ (Rose t.sink.faults t.sink_now.faults × ((count : ℕ) × Followed tries moments t (endings.Done count) × AppendsFront t.got t.got_now (done_line count)))
IsRow statuses.NoAnswer tries moments t =
    (count : ℕ) × Followed tries moments t (endings.NoAnswer count) × AppendsLine t.got t.got_now t.sink t.sink_now [] (no_answer_line count)

-- ---- last lines

abbrev pub PrintsEnding : FollowEnding → Option (List ℕ) → Option (List ℕ) → SinkCounts → SinkCounts → Status → Type 0
PrintsEnding (endings.Done count) old new before now status = PrintsDone count old new before now status
PrintsEnding (endings.NoAnswer count) old new before now status = GivesUp count old new before now status

abbrev pub PrintsStop : FollowStop → Option (List ℕ) → Option (List ℕ) → SinkCounts → SinkCounts → Status → Type 0
PrintsStop (halts.Broken stop) old new before now status = Breaks stop old new before now status
PrintsStop (halts.Unopened fault) old new before now status = Unopened fault old new before now status
PrintsStop (halts.OtherBase base) old new before now status = Refuses (refusals.Base base) old new before now status
