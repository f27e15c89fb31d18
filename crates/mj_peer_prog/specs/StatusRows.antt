-- What a status says, before it is made a number.
use Rattle.std.specs.Prelude.{ℕ, ◌≡◌, ◌⊎◌, List, Option}
use Rattle.mj_base.specs.Rising.{Rose}
use Rattle.mj_base.specs.declared.link.LinkEntry.{LinkEntry}
use Rattle.mj_base.specs.declared.sink.WriteAnswer.{WriteAnswer}
use Rattle.mj_base.specs.declared.sink.WriteAnswer.TheVariants as writes
use Rattle.mj_peer.specs.ClientStands.{Stands}
use Rattle.mj_peer.specs.declared.session.Session.{Session}
use Rattle.mj_peering.specs.Feeding.{ahead}
use Rattle.mj_peering.specs.Performing.{AreDone, AreLater, Counts, Places, Round, counts, places}
use Rattle.mj_peering.specs.declared.feed.Feed.{Feed}
use Rattle.mj_peering.specs.declared.stop.Stop.{Stop}
use Rattle.mj_peering.specs.declared.stop.Stop.TheVariants as stops
use Rattle.mj_peer_prog.specs.PeerRuns.{IsBegun, IsDone, client_of, requests_in}
use Rattle.mj_peer_prog.specs.PeerTable.{IsBroken, IsFinished, IsGivenUp, IsStarved, IsUnread, IsUnwritten, Scene, scene}
use Rattle.mj_peer_prog.specs.declared.ending.Ending.{Ending}
use Rattle.mj_peer_prog.specs.declared.status.Status.{Status}
use Rattle.mj_peer_prog.specs.declared.status.Status.TheVariants as statuses
use Rattle.mj_peer_prog.specs.declared.task.Asking.{Asking}
use Rattle.mj_peer_prog.specs.declared.task.Task.{Task}

abbrev pub IsRow : Status → Task → Scene → Type 0
IsRow statuses.Done task s = IsFinished task s
IsRow statuses.Words task s = ⊥
IsRow statuses.NoMemory task s = IsStarved task s
IsRow statuses.Read task s = IsUnread task s
IsRow statuses.Write task s = IsUnwritten task s
IsRow statuses.NoAnswer task s = IsGivenUp task s

-- a run came to this end
abbrev pub CameTo : Task → Scene → Ending → Type 0
CameTo task s ending = (passed : List Round) × IsDone task s.from ending passed × AreDone s.old s.now passed

-- its beginning was done, and nothing else
abbrev pub IsWhole : Task → Scene → Type 0
IsWhole task s = (passed : List Round) × IsBegun task s.from passed × AreDone s.old s.now passed

-- a run broke off, and why
abbrev pub IsHalted : Stop → Task → Scene → Type 0
IsHalted stops.NoMemory task s = IsWhole task s ⊎ IsBroken task s
IsHalted stops.Read task s = (Rose s.before.reads s.after.reads ⊎ Rose s.reads_before s.reads_after) × IsWhole task s
IsHalted stops.Write task s = (Rose s.before.writes s.after.writes ⊎ Rose s.before.prints s.after.prints) × IsBroken task s

-- a new client's end and its feed, of which nothing was read
pub record Begins (a : Asking) (e : Session) (feed : Feed) (from : Option (List ℕ)) : Type 0 where
  pub stands : Stands e (client_of a)
  pub unread : ahead feed from ≡ requests_in from

-- a scene but for the sink, which gets the last line
pub record Setting : Type 0 where
  pub from : Option (List ℕ)
  pub old : Places
  pub told : Option (List LinkEntry)
  pub before : Counts
  pub reads : ℕ
  pub writes : ℕ
  pub reads_before : ℕ
  pub reads_after : ℕ

abbrev pub setting : Option (List ℕ) → Places → Option (List LinkEntry) → Counts → ℕ → ℕ → ℕ → ℕ → Setting
setting from old told before reads writes reads_before reads_after = record {
  from = from;
  old = old;
  told = told;
  before = before;
  reads = reads;
  writes = writes;
  reads_before = reads_before;
  reads_after = reads_after;
}

-- the scene with what the sink has got, and its counts
abbrev pub in_setting : Setting → Option (List ℕ) → ℕ → ℕ → Scene
in_setting t got prints wants = scene t.from t.old (places t.told got) t.before (counts t.reads t.writes prints wants) t.reads_before t.reads_after

abbrev pub IsLater : Setting → ℕ → ℕ → Type 0
IsLater t prints wants = AreLater t.before (counts t.reads t.writes prints wants)

-- what the write of a run's last line makes of the status
abbrev pub status_after : WriteAnswer → Status
status_after writes.Done = statuses.Done
status_after writes.NoMemory = statuses.NoMemory
status_after writes.Failed = statuses.Write
