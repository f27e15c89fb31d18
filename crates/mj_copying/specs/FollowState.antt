-- What a run of follow knows between its turns.
use Rattle.std.specs.Prelude.{ℕ, ◌≡◌, ◌≢◌, ◌≤◌, ◌^◌, ◌⊎◌, Bool, true, false, List, [], ◌∷◌, ◌++◌, length, Option, is_some, ⊤}
use Rattle.mj_base.specs.Rising.{Rose}
use Rattle.mj_base.specs.declared.link.LinkEntry.{LinkEntry}
use Rattle.mj_copy.specs.FollowRules.{FollowTurn, Following, follow_appended, follow_steps}
use Rattle.mj_copy.specs.FollowStands.{following_of}
use Rattle.mj_copy.specs.declared.awaits.Awaits.TheVariants as waits
use Rattle.mj_copy.specs.declared.follow.Follow.{Follow}
use Rattle.mj_copy.specs.declared.phase.Phase.TheVariants.{Finished, GivenUp}
use Rattle.mj_copy_file.specs.declared.log.Log.{Log}
use Rattle.mj_copying.specs.FollowFile.{CrashesBetween, FileIs}
use Rattle.mj_base.specs.declared.link.LinkEvent.{LinkEvent}
use Rattle.mj_base.specs.declared.link.LinkEvent.TheVariants as event
use Rattle.mj_copy.specs.declared.follow_act.FollowAct.{FollowAct}
use Rattle.mj_copying.specs.FollowRun.{BrokeOff, Copying, Doing, Followed, IsCut, IsDue, after, entries, read_of, round, turn_at}
use Rattle.mj_copying.specs.Passing.{Cause, Counts, ReadCause, entry_of}
use Rattle.mj_copying.specs.declared.stop.Stop.{Stop}
use Rattle.mj_copying.specs.declared.stop.Stop.TheVariants as stops
use Rattle.mj_copying.specs.declared.following.FollowEnding.{FollowEnding}
use Rattle.mj_copying.specs.declared.following.FollowEnding.TheVariants as endings
use Rattle.mj_copying.specs.declared.following.FollowStop.{FollowStop}
use Rattle.mj_copying.specs.declared.following.FollowStop.TheVariants as halts
use Rattle.mj_disk.specs.Content.{Content, IsImage}
use Rattle.mj_disk.specs.DiskModel.{History, Now}
use Rattle.mj_disk.specs.declared.disk.Disk.{Ghosts}
use Rattle.mj_journal.specs.FileText.{OpensAs, StandsFor}
use Rattle.mj_journal.specs.declared.fault.OpenFault.TheVariants as opening
use Rattle.mj_store.specs.Opening.{IsUnopened}
use Rattle.mj_base.specs.Linking.{Tells}

-- it appends only to an open file, opens one once, and knows how many commands that has
pub record Sound (n : ℕ) (f : Following) : Type 0 where
  pub based : f.based ≡ true → f.opened ≡ true
  pub counts : f.opened ≡ true → f.count ≡ n
  pub file : (base : ℕ) → f.awaits ≡ waits.File base → (f.opened ≡ false) × (f.base ≡ base) × (1 ≤ base) × (base ≤ 2 ^ 61)
  pub append : (payload : List ℕ) → f.awaits ≡ waits.Append payload → f.opened ≡ true

-- each image opens as the list, or as the list with the doubt
abbrev pub HasEither : List (List ℕ) → List (List ℕ) → Content → Type 0
HasEither payloads doubt held = (image : List ℕ) → IsImage held image → OpensAs payloads image ⊎ OpensAs (payloads ++ doubt) image

-- why a run broke off, where it isn't for want of memory or a failure: the file isn't opened, or has another base
abbrev pub IsWhy : Option History → Copying → Option History → FollowStop → Type 0
IsWhy start c now (halts.Broken stop) = ⊤
IsWhy start c now (halts.Unopened fault) = IsUnopened fault start now
IsWhy start c now (halts.OtherBase base) = (asked : ℕ) × (c.following.awaits ≡ waits.File asked) × (base ≢ asked) × Now now (λ held. (payloads : List (List ℕ)) × StandsFor base payloads held.octets)

-- a failure has its count risen
abbrev pub HaltCause : FollowStop → Counts → Counts → Type 0
HaltCause (halts.Broken stop) before now = Cause stop before now
HaltCause (halts.Unopened fault) before now = fault ≡ opening.DiskFault → Rose before.disk now.disk
HaltCause (halts.OtherBase base) before now = ⊤

-- between turns, from what the disk told at the start on
pub record Runs {D : Type 0} (disks : Ghosts D) (start : Option History) (since : ℕ) (c : Copying) (end : Follow) (log : Option Log) (disk : D) : Type 0 where
  pub is : following_of end ≡ c.following
  pub sound : Sound (length c.payloads) c.following
  pub file : FileIs disks start c log disk
  pub crash : CrashesBetween (since, disks.time disk) start (disks.told disk) c []
  pub telling : is_some (disks.told disk) ≡ is_some start

-- something is to be done next: what it is, what was read for it, and the acts that follow
pub record Began {D : Type 0} (disks : Ghosts D) (start : Option History) (since : ℕ) (c : Copying) (read : List LinkEntry) (acts : List FollowAct) (end : Follow) (log : Option Log) (disk : D) : Type 0 where
  pub doing : Doing
  pub due : IsDue start doing c
  pub read_is : read ≡ read_of doing
  pub acts_are : acts ≡ (turn_at doing c).1
  pub runs : Runs disks start since (after doing c) end log disk

-- what the disk holds where a run broke off, and what a crash may leave: the doubt is a payload that was being appended
pub record Left {D : Type 0} (disks : Ghosts D) (start : Option History) (since : ℕ) (c : Copying) (doubt : List (List ℕ)) (disk : D) : Type 0 where
  pub crash : CrashesBetween (since, disks.time disk) start (disks.told disk) c doubt
  pub has : c.following.opened ≡ true → Now (disks.told disk) (HasEither c.payloads doubt)

-- it stopped before anything was done, but for a read
pub record Stopped {D : Type 0} (disks : Ghosts D) (start : Option History) (since : ℕ) (c : Copying) (old now : Option (List LinkEntry)) (stop : FollowStop) (disk : D) : Type 0 where
  pub cut : List LinkEntry
  pub part : (cut ≡ []) ⊎ ((e : LinkEvent) × (cut ≡ entry_of e ∷ []) × (c.following.awaits ≡ waits.Link))
  pub told : Tells old now cut
  pub doubt : List (List ℕ)
  pub left : Left disks start since c doubt disk
  pub why : IsWhy start c (disks.told disk) stop

-- ---- whole runs

abbrev pub IsRunning : {D : Type 0} → Ghosts D → Follow → Option Log → D → Type 0
IsRunning disks end log disk = (start : Option History) × (since : ℕ) × (c : Copying) × Runs disks start since c end log disk

-- from the start up to here
pub record Goes {D : Type 0} (disks : Ghosts D) (start : Option History) (since : ℕ) (first : Copying) (old now : Option (List LinkEntry)) (end : Follow) (log : Option Log) (disk : D) : Type 0 where
  pub last : Copying
  pub followed : Followed start first old now last
  pub runs : Runs disks start since last end log disk

-- from the start up to where it broke off
pub record Halts {D : Type 0} (disks : Ghosts D) (start : Option History) (since : ℕ) (first : Copying) (old now : Option (List LinkEntry)) (stop : FollowStop) (disk : D) : Type 0 where
  pub last : Copying
  pub broke : BrokeOff start first old now last
  pub doubt : List (List ℕ)
  pub left : Left disks start since last doubt disk
  pub why : IsWhy start last (disks.told disk) stop

-- one turn was cut off
pub record IsCutIn {D : Type 0} (disks : Ghosts D) (start : Option History) (since : ℕ) (c : Copying) (old now : Option (List LinkEntry)) (stop : FollowStop) (disk : D) : Type 0 where
  pub last : Copying
  pub cut : List LinkEntry
  pub part : ((cut ≡ []) × (last ≡ c)) ⊎ IsCut start c cut last
  pub told : Tells old now cut
  pub doubt : List (List ℕ)
  pub left : Left disks start since last doubt disk
  pub why : IsWhy start last (disks.told disk) stop

-- a turn was made, and all its acts done
pub record Turned {D : Type 0} (disks : Ghosts D) (start : Option History) (since : ℕ) (c : Copying) (old now : Option (List LinkEntry)) (end : Follow) (log : Option Log) (disk : D) : Type 0 where
  pub doing : Doing
  pub due : IsDue start doing c
  pub told : Tells old now (round doing c)
  pub runs : Runs disks start since (after doing c) end log disk

abbrev pub Ended : FollowEnding → Following → Type 0
Ended (endings.Done n) f = (f.phase ≡ Finished) × (n ≡ f.count)
Ended (endings.NoAnswer n) f = (f.phase ≡ GivenUp) × (n ≡ f.count)

-- these acts were done
abbrev pub Performs : Option (List LinkEntry) → Option (List LinkEntry) → List FollowAct → Type 0
Performs old now acts = Tells old now (entries acts)

-- the first of these acts were done
pub record Breaks (old now : Option (List LinkEntry)) (acts : List FollowAct) : Type 0 where
  pub done : List FollowAct
  pub rest : List FollowAct
  pub whole : acts ≡ done ++ rest
  pub told : Tells old now (entries done)

-- ---- the pieces of a turn

-- at most a read
abbrev pub IsRead : Option (List LinkEntry) → Option (List LinkEntry) → Type 0
IsRead old now = (now ≡ old) ⊎ ((e : LinkEvent) × Tells old now (entry_of e ∷ []))

-- for want of memory, or by a read that failed
abbrev pub BrokenBy : FollowStop → ℕ → ℕ → Type 0
BrokenBy (halts.Broken stop) before now = ReadCause stop before now
BrokenBy (halts.Unopened fault) before now = ⊥
BrokenBy (halts.OtherBase base) before now = ⊥

-- why a file isn't opened with this base
abbrev pub IsWhyOf : Option History → ℕ → Option History → FollowStop → Type 0
IsWhyOf old base now (halts.Broken stop) = stop ≡ stops.NoMemory
IsWhyOf old base now (halts.Unopened fault) = IsUnopened fault old now
IsWhyOf old base now (halts.OtherBase other) = (other ≢ base) × Now now (λ held. (payloads : List (List ℕ)) × StandsFor other payloads held.octets)

abbrev pub OpenCause : FollowStop → ℕ → ℕ → Type 0
OpenCause (halts.Broken stop) before now = stop ≡ stops.NoMemory
OpenCause (halts.Unopened fault) before now = fault ≡ opening.DiskFault → Rose before now
OpenCause (halts.OtherBase other) before now = ⊤

abbrev pub DiskCause : Stop → ℕ → ℕ → Type 0
DiskCause stops.NoMemory before now = ⊤
DiskCause stops.Read before now = ⊥
DiskCause stops.Write before now = ⊥
DiskCause stops.Disk before now = Rose before now

-- behind an append that was made, or was refused
abbrev pub goes_behind : Bool → Following → FollowTurn
goes_behind true f = follow_appended f
goes_behind false f = follow_steps event.End f
