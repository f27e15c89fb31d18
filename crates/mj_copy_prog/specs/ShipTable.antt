-- What a status of the command `ship` says of the link, of the disk and of what was printed.
use Rattle.std.specs.Prelude.{ℕ, ◌≡◌, ◌⊎◌, List, [], length, Option, Some}
use Rattle.std.specs.Io.KnownBytes.{Appends, Keeps}
use Rattle.mj_base.specs.Rising.{Rose}
use Rattle.mj_base.specs.Writing.{AppendsFront}
use Rattle.mj_base.specs.declared.link.LinkEntry.{LinkEntry}
use Rattle.mj_copy.specs.ShipRules.{new_ship}
use Rattle.mj_copy_file.specs.Logs.{AreLawful}
use Rattle.mj_copying.specs.ShipEndings.{Ships}
use Rattle.mj_copying.specs.ShipRun.{BrokeOff}
use Rattle.mj_copying.specs.declared.shipping.ShipEnding.{ShipEnding}
use Rattle.mj_copying.specs.declared.shipping.ShipEnding.TheVariants as endings
use Rattle.mj_disk.specs.Content.{Content}
use Rattle.mj_disk.specs.DiskModel.{History, Now}
use Rattle.mj_journal.specs.FileText.{StandsFor}
use Rattle.mj_journal.specs.declared.fault.OpenFault.{OpenFault}
use Rattle.mj_store.specs.Opening.{IsUnopened}
use Rattle.mj_words.specs.Lines.{AppendsLine, done_line, fault_read}
use Rattle.mj_words.specs.SinkCounts.{SinkCounts}
use Rattle.mj_copy_prog.specs.CopyLines.{fault_disk, no_answer_line, store_line}
use Rattle.mj_copy_prog.specs.Endings.{GivesUp, PrintsDone}
use Rattle.mj_copy_prog.specs.Refusing.{refusal_of}
use Rattle.mj_copy_prog.specs.declared.refusal.Refusal.{Refusal}
use Rattle.mj_copy_prog.specs.declared.status.Status.{Status}
use Rattle.mj_copy_prog.specs.declared.status.Status.TheVariants as statuses

-- before and behind the call: what the link tells, what the disk tells, what the sink has got, and the counts
pub record Scene : Type 0 where
  pub told : Option (List LinkEntry)
  pub told_now : Option (List LinkEntry)
  pub disk : Option History
  pub disk_now : Option History
  pub got : Option (List ℕ)
  pub got_now : Option (List ℕ)
  pub sink : SinkCounts
  pub sink_now : SinkCounts
  pub reads : ℕ × ℕ
  pub writes : ℕ × ℕ
  pub disk_faults : ℕ × ℕ

abbrev pub scene : Option (List LinkEntry) → Option (List LinkEntry) → Option History → Option History → Option (List ℕ) → Option (List ℕ) → SinkCounts → SinkCounts → ℕ × ℕ → ℕ × ℕ → ℕ × ℕ → Scene
scene told told_now disk disk_now got got_now sink sink_now reads writes disk_faults = record {
  told = told;
  told_now = told_now;
  disk = disk;
  disk_now = disk_now;
  got = got;
  got_now = got_now;
  sink = sink;
  sink_now = sink_now;
  reads = reads;
  writes = writes;
  disk_faults = disk_faults;
}

-- the file stands for lawful commands, and these were shipped to such an end
pub record ShipsFile (tries : ℕ) (old now : Option (List LinkEntry)) (ending : ShipEnding) (held : Content) : Type 0 where
  pub base : ℕ
  pub payloads : List (List ℕ)
  pub lawful : AreLawful base payloads
  pub stands : StandsFor base payloads held.octets
  pub ships : Ships tries base payloads old now ending

-- and a run of ship over these broke off
pub record BreaksOff (tries : ℕ) (old now : Option (List LinkEntry)) (held : Content) : Type 0 where
  pub base : ℕ
  pub payloads : List (List ℕ)
  pub lawful : AreLawful base payloads
  pub stands : StandsFor base payloads held.octets
  pub broke : BrokeOff payloads (new_ship base (length payloads) tries) old now

-- nothing passed on the link, or a run broke off
abbrev pub Unfinished : ℕ → Scene → Type 0
Unfinished tries t = (t.told_now ≡ t.told) ⊎ Now t.disk_now (BreaksOff tries t.told t.told_now)

-- so many commands were shipped, all that there are
abbrev pub Shipped : ℕ → Scene → ℕ → Type 0
Shipped tries t count = Now t.disk_now (ShipsFile tries t.told t.told_now (endings.Done count))

-- the file is refused, for a cause that is printed
pub record IsRefused (t : Scene) : Type 0 where
  pub fault : OpenFault
  pub refusal : Refusal
  pub says : refusal_of fault ≡ Some refusal
  pub why : IsUnopened fault t.disk t.disk_now
  pub line : AppendsLine t.got t.got_now t.sink t.sink_now [] (store_line refusal)
  pub unused : t.told_now ≡ t.told

abbrev pub IsRow : Status → ℕ → Scene → Type 0
IsRow statuses.Done tries t = (count : ℕ) × Shipped tries t count × Appends t.got t.got_now (done_line count)
IsRow statuses.Words tries t = ⊥
IsRow statuses.Store tries t = IsRefused t
IsRow statuses.NoMemory tries t = Keeps t.got t.got_now
IsRow statuses.Disk tries t = Rose t.disk_faults.0 t.disk_faults.1 × AppendsLine t.got t.got_now t.sink t.sink_now [] fault_disk × Unfinished tries t
IsRow statuses.Read tries t = Rose t.reads.0 t.reads.1 × AppendsLine t.got t.got_now t.sink t.sink_now [] fault_read × Unfinished tries t
IsRow statuses.Write tries t =
    (Rose t.writes.0 t.writes.1 × Keeps t.got t.got_now × Unfinished tries t)
    ⊎ (Rose t.sink.faults t.sink_now.faults × ((count : ℕ) × Shipped tries t count × AppendsFront t.got t.got_now (done_line count)))
IsRow statuses.NoAnswer tries t =
    (count : ℕ) × Now t.disk_now (ShipsFile tries t.told t.told_now (endings.NoAnswer count)) × AppendsLine t.got t.got_now t.sink t.sink_now [] (no_answer_line count)

-- the last line of a run that is over
abbrev pub PrintsEnding : ShipEnding → Option (List ℕ) → Option (List ℕ) → SinkCounts → SinkCounts → Status → Type 0
PrintsEnding (endings.Done count) old new before now status = PrintsDone count old new before now status
PrintsEnding (endings.NoAnswer count) old new before now status = GivesUp count old new before now status
