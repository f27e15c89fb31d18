-- From what a run came to, and from what was printed, to the row of the status.
use Rattle.std.proofs.Common.{◌≡◌, ◌≢◌, ℕ, ◌≤◌, List, length, Option, Some, refl, sym, subst, ◌∙◌, inl, inr, arith}
use Rattle.mj_base.specs.Rising.{Rose}
use Rattle.mj_base.specs.declared.link.LinkEntry.{LinkEntry}
use Rattle.mj_copy.specs.ShipRules.{new_ship}
use Rattle.mj_copy_file.specs.Logs.{AreLawful, IsHeld, Knows}
use Rattle.mj_copy_file.specs.declared.log.Log.{Log}
use Rattle.mj_copying.specs.Held.{StandsAt}
use Rattle.mj_copying.specs.Passing.{Cause, Counts}
use Rattle.mj_copying.specs.ShipEndings.{Ships}
use Rattle.mj_copying.specs.ShipRun.{BrokeOff}
use Rattle.mj_copying.specs.declared.shipping.ShipEnding.{ShipEnding}
use Rattle.mj_copying.specs.declared.shipping.ShipEnding.TheVariants as endings
use Rattle.mj_copying.specs.declared.stop.Stop.{Stop}
use Rattle.mj_copying.specs.declared.stop.Stop.TheVariants as stops
use Rattle.mj_disk.specs.DiskModel.{History, Now}
use Rattle.mj_disk.specs.declared.disk.Disk.{Ghosts}
use Rattle.mj_journal.specs.declared.fault.OpenFault.{OpenFault}
use Rattle.mj_journal.specs.declared.fault.OpenFault.TheVariants as opening
use Rattle.mj_store.specs.Opening.{IsUnopened}
use Rattle.mj_copy_prog.specs.Endings.{Breaks, GivesUp, PrintsDone, Refuses, Unopened}
use Rattle.mj_copy_prog.specs.Refusing.{refusal_of}
use Rattle.mj_copy_prog.specs.ShipTable.{BreaksOff, IsRow, PrintsEnding, Scene, Shipped, ShipsFile}
use Rattle.mj_copy_prog.specs.declared.refusal.Refusal.{Refusal}
use Rattle.mj_copy_prog.specs.declared.refusal.Refusal.TheVariants as refusals
use Rattle.mj_copy_prog.specs.declared.status.Status.{Status}
use Rattle.mj_copy_prog.specs.declared.status.Status.TheVariants as statuses

-- ---- the file

are_lawful : (payloads : List (List ℕ)) (log : Log) → Knows payloads log → AreLawful log.base payloads
are_lawful payloads log knows = record {
  cmds = knows.cmds;
  lawful = record { based = knows.based; written = knows.written; index = log.tickets.index; index_is = knows.index_is };
  spells = knows.spells;
}

stands_at : {D : Type 0} (disks : Ghosts D) (log : Log) (disk : D) (history : History) (held : IsHeld disks log disk) → disks.told disk ≡ Some history → StandsAt held.0 log (disks.told disk)
stands_at disks log disk history held is = record { knows = held.1.knows; history = history; tells = is; stands = (held.1.file history is).1 }

pub ships_file : {D : Type 0} (disks : Ghosts D) (log : Log) (disk : D) (now : Option History) (tries : ℕ) (told told_now : Option (List LinkEntry)) (ending : ShipEnding) → IsHeld disks log disk → now ≡ disks.told disk
    → ((payloads : List (List ℕ)) → StandsAt payloads log (disks.told disk) → Ships tries log.base payloads told told_now ending) → Now now (ShipsFile tries told told_now ending)
ships_file disks log disk now tries told told_now ending held same ships history is =
    let before = sym same ∙ is in
    record {
      base = log.base;
      payloads = held.0;
      lawful = are_lawful held.0 log held.1.knows;
      stands = (held.1.file history before).1;
      ships = ships held.0 (stands_at disks log disk history held before);
    }

pub breaks_off : {D : Type 0} (disks : Ghosts D) (log : Log) (disk : D) (now : Option History) (tries : ℕ) (told told_now : Option (List LinkEntry)) → IsHeld disks log disk → now ≡ disks.told disk
    → ((payloads : List (List ℕ)) → StandsAt payloads log (disks.told disk) → BrokeOff payloads (new_ship log.base (length payloads) tries) told told_now) → Now now (BreaksOff tries told told_now)
breaks_off disks log disk now tries told told_now held same broke history is =
    let before = sym same ∙ is in
    record {
      base = log.base;
      payloads = held.0;
      lawful = are_lawful held.0 log held.1.knows;
      stands = (held.1.file history before).1;
      broke = broke held.0 (stands_at disks log disk history held before);
    }

-- ---- rows

abbrev pub LogRow : Status → ℕ → Scene → Type 0
LogRow status tries t = IsRow status tries t × (status ≢ statuses.Store)

pub done_row : (status : Status) (tries count : ℕ) (t : Scene) → Shipped tries t count → PrintsDone count t.got t.got_now t.sink t.sink_now status → LogRow status tries t
done_row statuses.Done tries count t shipped prints = ((count, shipped, prints), λ e. absurd (cc e))
done_row statuses.Words tries count t shipped prints = absurd prints
done_row statuses.Store tries count t shipped prints = absurd prints
done_row statuses.NoMemory tries count t shipped prints = (prints, λ e. absurd (cc e))
done_row statuses.Disk tries count t shipped prints = absurd prints
done_row statuses.Read tries count t shipped prints = absurd prints
done_row statuses.Write tries count t shipped prints = (inr (prints.0, (count, shipped, prints.1)), λ e. absurd (cc e))
done_row statuses.NoAnswer tries count t shipped prints = absurd prints

along : (known status : Status) (tries : ℕ) (t : Scene) → status ≡ known → LogRow known tries t → LogRow status tries t
along known status tries t same row = subst (λ (s : Status). LogRow s tries t) (sym same) row

pub no_answer_row : (status : Status) (tries count : ℕ) (t : Scene) → Now t.disk_now (ShipsFile tries t.told t.told_now (endings.NoAnswer count)) → GivesUp count t.got t.got_now t.sink t.sink_now status → LogRow status tries t
no_answer_row status tries count t ships (inl printed) = along statuses.NoAnswer status tries t printed.0 ((count, ships, printed.1), λ e. absurd (cc e))
no_answer_row status tries count t ships (inr none) = along statuses.NoMemory status tries t none.0 (none.1, λ e. absurd (cc e))

pub ending_row : (ending : ShipEnding) (status : Status) (tries : ℕ) (t : Scene) → Now t.disk_now (ShipsFile tries t.told t.told_now ending) → PrintsEnding ending t.got t.got_now t.sink t.sink_now status → LogRow status tries t
ending_row (endings.Done count) status tries t ships prints = done_row status tries count t ships prints
ending_row (endings.NoAnswer count) status tries t ships prints = no_answer_row status tries count t ships prints

pub broke_row : (stop : Stop) (status : Status) (tries : ℕ) (t : Scene) (before now : Counts) → Now t.disk_now (BreaksOff tries t.told t.told_now) → Cause stop before now → t.reads ≡ (before.reads, now.reads) → t.writes ≡ (before.writes, now.writes) → t.disk_faults ≡ (before.disk, now.disk)
    → Breaks stop t.got t.got_now t.sink t.sink_now status → LogRow status tries t
broke_row stops.NoMemory status tries t before now broke cause reads writes disk breaks = along statuses.NoMemory status tries t breaks.0 (breaks.1, λ e. absurd (cc e))
broke_row stops.Read status tries t before now broke cause reads writes disk breaks =
    along statuses.Read status tries t breaks.0 ((subst (λ (p : ℕ × ℕ). Rose p.0 p.1) (sym reads) cause, breaks.1, inr broke), λ e. absurd (cc e))
broke_row stops.Write status tries t before now broke cause reads writes disk breaks =
    along statuses.Write status tries t breaks.0 (inl (subst (λ (p : ℕ × ℕ). Rose p.0 p.1) (sym writes) cause, breaks.1, inr broke), λ e. absurd (cc e))
broke_row stops.Disk status tries t before now broke cause reads writes disk breaks =
    along statuses.Disk status tries t breaks.0 ((subst (λ (p : ℕ × ℕ). Rose p.0 p.1) (sym disk) cause, breaks.1, inr broke), λ e. absurd (cc e))

-- ---- a file that isn't opened

refused : (refusal : Refusal) (fault : OpenFault) (status : Status) (tries : ℕ) (t : Scene) → refusal_of fault ≡ Some refusal → IsUnopened fault t.disk t.disk_now → t.told_now ≡ t.told → Refuses refusal t.got t.got_now t.sink t.sink_now status → IsRow status tries t
refused refusal fault status tries t says why unused (inl printed) =
    subst (λ (s : Status). IsRow s tries t) (sym printed.0) (record { fault = fault; refusal = refusal; says = says; why = why; line = printed.1; unused = unused })
refused refusal fault status tries t says why unused (inr none) = subst (λ (s : Status). IsRow s tries t) (sym none.0) none.1

pub unopened_row : (fault : OpenFault) (status : Status) (tries : ℕ) (t : Scene) → IsUnopened fault t.disk t.disk_now → t.told_now ≡ t.told → (fault ≡ opening.DiskFault → Rose t.disk_faults.0 t.disk_faults.1) → Unopened fault t.got t.got_now t.sink t.sink_now status → IsRow status tries t
unopened_row opening.NotAStore status tries t why unused cause prints = refused refusals.NotAStore opening.NotAStore status tries t refl why unused prints
unopened_row (opening.Version version) status tries t why unused cause prints = refused (refusals.Version version) (opening.Version version) status tries t refl why unused prints
unopened_row (opening.Damaged at) status tries t why unused cause prints = refused (refusals.Damaged at) (opening.Damaged at) status tries t refl why unused prints
unopened_row opening.NoMemory status tries t why unused cause prints = subst (λ (s : Status). IsRow s tries t) (sym prints.0) prints.1
unopened_row opening.DiskFault status tries t why unused cause prints = subst (λ (s : Status). IsRow s tries t) (sym prints.0) (cause refl, prints.1, inl unused)

-- ---- a file that was opened

-- the counts of the disk from before the opening on
wider : (old mid now : ℕ) → old ≤ mid → Rose mid now → Rose old now
wider old mid now up rose = omega (arith, up, rose)

-- the same scene, but for what the disk told first, and its count
abbrev pub from : Option History → ℕ × ℕ → Scene → Scene
from disk disk_faults t = record t { disk = disk; disk_faults = disk_faults }

pub opened_row : (status : Status) (tries : ℕ) (t : Scene) (disk : Option History) (faults : ℕ) → faults ≤ t.disk_faults.0 → LogRow status tries t → IsRow status tries (from disk (faults, t.disk_faults.1) t)
opened_row statuses.Done tries t disk faults up row = row.0
opened_row statuses.Words tries t disk faults up row = row.0
opened_row statuses.Store tries t disk faults up row = absurd (row.1 refl)
opened_row statuses.NoMemory tries t disk faults up row = row.0
opened_row statuses.Disk tries t disk faults up row = (wider faults t.disk_faults.0 t.disk_faults.1 up row.0.0, row.0.1, row.0.2)
opened_row statuses.Read tries t disk faults up row = row.0
opened_row statuses.Write tries t disk faults up row = row.0
opened_row statuses.NoAnswer tries t disk faults up row = row.0
