-- From what a run of follow came to, and from what was printed, to the row of the status.
use Rattle.std.proofs.Common.{◌≡◌, ℕ, [], Option, Some, None, refl, sym, subst, inl, inr}
use Rattle.mj_base.specs.Rising.{Rose}
use Rattle.mj_copy.specs.declared.follow.Follow.{Follow}
use Rattle.mj_copy_file.specs.Logs.{IsSettledAs}
use Rattle.mj_copy_file.specs.declared.log.Log.{Log}
use Rattle.mj_copying.specs.FollowFile.{CrashesBetween, FileIs}
use Rattle.mj_copying.specs.FollowRun.{BrokeOff, Copying, new_copying}
use Rattle.mj_copying.specs.FollowRun as run
use Rattle.mj_copying.specs.FollowState.{Ended, Goes, HaltCause, Halts, HasEither, IsWhy}
use Rattle.mj_copying.specs.Passing.{Counts}
use Rattle.mj_copying.specs.declared.following.FollowEnding.{FollowEnding}
use Rattle.mj_copying.specs.declared.following.FollowEnding.TheVariants as endings
use Rattle.mj_copying.specs.declared.following.FollowStop.{FollowStop}
use Rattle.mj_copying.specs.declared.following.FollowStop.TheVariants as halts
use Rattle.mj_copying.specs.declared.stop.Stop.TheVariants as stops
use Rattle.mj_disk.specs.DiskModel.{History, Now}
use Rattle.mj_disk.specs.declared.disk.Disk.{Ghosts}
use Rattle.mj_journal.specs.declared.fault.OpenFault.TheVariants as opening
use Rattle.mj_copy_prog.specs.Endings.{PrintsDone, Refuses}
use Rattle.mj_copy_prog.specs.FollowTable.{Followed, Halted, HasFile, IsRow, PrintsEnding, PrintsStop, refusal_in}
use Rattle.mj_copy_prog.specs.ShipTable.{Scene}
use Rattle.mj_copy_prog.specs.declared.refusal.Refusal.{Refusal}
use Rattle.mj_copy_prog.specs.declared.refusal.Refusal.TheVariants as refusals
use Rattle.mj_copy_prog.specs.declared.status.Status.{Status}
use Rattle.mj_copy_prog.specs.declared.status.Status.TheVariants as statuses

-- ---- runs

has_file : {D : Type 0} (disks : Ghosts D) (start : Option History) (c : Copying) (log : Option Log) (disk : D) → FileIs disks start c log disk → HasFile start (disks.told disk) c
has_file disks start c None disk file = inr (file.0, file.1)
has_file disks start c (Some log) disk file = inl (file.0, λ history is. subst (λ (b : ℕ). IsSettledAs b c.payloads history.now) file.1 (file.2.file history is))

pub followed_so : {D : Type 0} (disks : Ghosts D) (disk after : D) (tries : ℕ) (t : Scene) (ending : FollowEnding) (end : Follow) (log : Option Log) → t.disk ≡ disks.told disk → t.disk_now ≡ disks.told after → (goes : Goes disks (disks.told disk) (disks.time disk) (new_copying tries) t.told t.told_now end log after) → Ended ending goes.last.following
    → Followed tries (disks.time disk, disks.time after) t ending
followed_so disks disk after tries t ending end log start now goes ended = record {
  last = goes.last;
  followed = subst (λ (s : Option History). run.Followed s (new_copying tries) t.told t.told_now goes.last) (sym start) goes.followed;
  ended = ended;
  file = subst (λ (s : Option History). HasFile s t.disk_now goes.last) (sym start) (subst (λ (n : Option History). HasFile (disks.told disk) n goes.last) (sym now) (has_file disks (disks.told disk) goes.last log after goes.runs.file));
  crash = subst (λ (s : Option History). CrashesBetween (disks.time disk, disks.time after) s t.disk_now goes.last []) (sym start) (subst (λ (n : Option History). CrashesBetween (disks.time disk, disks.time after) (disks.told disk) n goes.last []) (sym now) goes.runs.crash);
}

pub halted_so : {D : Type 0} (disks : Ghosts D) (disk after : D) (tries : ℕ) (t : Scene) (stop : FollowStop) → t.disk ≡ disks.told disk → t.disk_now ≡ disks.told after → Halts disks (disks.told disk) (disks.time disk) (new_copying tries) t.told t.told_now stop after → Halted tries (disks.time disk, disks.time after) t stop
halted_so disks disk after tries t stop start now h = record {
  last = h.last;
  broke = subst (λ (s : Option History). BrokeOff s (new_copying tries) t.told t.told_now h.last) (sym start) h.broke;
  doubt = h.doubt;
  file = λ opened. subst (λ (n : Option History). Now n (HasEither h.last.payloads h.doubt)) (sym now) (h.left.has opened);
  crash = subst (λ (s : Option History). CrashesBetween (disks.time disk, disks.time after) s t.disk_now h.last h.doubt) (sym start) (subst (λ (n : Option History). CrashesBetween (disks.time disk, disks.time after) (disks.told disk) n h.last h.doubt) (sym now) h.left.crash);
  why = subst (λ (s : Option History). IsWhy s h.last t.disk_now stop) (sym start) (subst (λ (n : Option History). IsWhy (disks.told disk) h.last n stop) (sym now) h.why);
}

-- ---- rows

done_row : (status : Status) (tries count : ℕ) (moments : ℕ × ℕ) (t : Scene) → Followed tries moments t (endings.Done count) → PrintsDone count t.got t.got_now t.sink t.sink_now status → IsRow status tries moments t
done_row statuses.Done tries count moments t followed prints = (count, followed, prints)
done_row statuses.Words tries count moments t followed prints = absurd prints
done_row statuses.Store tries count moments t followed prints = absurd prints
done_row statuses.NoMemory tries count moments t followed prints = (prints, inr (endings.Done count, followed))
done_row statuses.Disk tries count moments t followed prints = absurd prints
done_row statuses.Read tries count moments t followed prints = absurd prints
done_row statuses.Write tries count moments t followed prints = inr (prints.0, (count, followed, prints.1))
done_row statuses.NoAnswer tries count moments t followed prints = absurd prints

along : (known status : Status) (tries : ℕ) (moments : ℕ × ℕ) (t : Scene) → status ≡ known → IsRow known tries moments t → IsRow status tries moments t
along known status tries moments t same row = subst (λ (s : Status). IsRow s tries moments t) (sym same) row

pub ending_row : (ending : FollowEnding) (status : Status) (tries : ℕ) (moments : ℕ × ℕ) (t : Scene) → Followed tries moments t ending → PrintsEnding ending t.got t.got_now t.sink t.sink_now status → IsRow status tries moments t
ending_row (endings.Done count) status tries moments t followed prints = done_row status tries count moments t followed prints
ending_row (endings.NoAnswer count) status tries moments t followed (inl printed) = along statuses.NoAnswer status tries moments t printed.0 (count, followed, printed.1)
ending_row (endings.NoAnswer count) status tries moments t followed (inr none) = along statuses.NoMemory status tries moments t none.0 (none.1, inr (endings.NoAnswer count, followed))

refused : (refusal : Refusal) (stop : FollowStop) (status : Status) (tries : ℕ) (moments : ℕ × ℕ) (t : Scene) → refusal_in stop ≡ Some refusal → Halted tries moments t stop → Refuses refusal t.got t.got_now t.sink t.sink_now status → IsRow status tries moments t
refused refusal stop status tries moments t says halted (inl printed) =
    along statuses.Store status tries moments t printed.0 (record { stop = stop; refusal = refusal; says = says; halted = halted; line = printed.1 })
refused refusal stop status tries moments t says halted (inr none) = along statuses.NoMemory status tries moments t none.0 (none.1, inl (stop, halted))

pub halted_row : (stop : FollowStop) (status : Status) (tries : ℕ) (moments : ℕ × ℕ) (t : Scene) (before now : Counts) → Halted tries moments t stop → HaltCause stop before now → t.reads ≡ (before.reads, now.reads) → t.writes ≡ (before.writes, now.writes) → t.disk_faults ≡ (before.disk, now.disk)
    → PrintsStop stop t.got t.got_now t.sink t.sink_now status → IsRow status tries moments t
halted_row (halts.Broken stops.NoMemory) status tries moments t before now halted cause reads writes disk prints = along statuses.NoMemory status tries moments t prints.0 (prints.1, inl (halts.Broken stops.NoMemory, halted))
halted_row (halts.Broken stops.Read) status tries moments t before now halted cause reads writes disk prints =
    along statuses.Read status tries moments t prints.0 (subst (λ (p : ℕ × ℕ). Rose p.0 p.1) (sym reads) cause, prints.1, (halts.Broken stops.Read, halted))
halted_row (halts.Broken stops.Write) status tries moments t before now halted cause reads writes disk prints =
    along statuses.Write status tries moments t prints.0 (inl (subst (λ (p : ℕ × ℕ). Rose p.0 p.1) (sym writes) cause, prints.1, (halts.Broken stops.Write, halted)))
halted_row (halts.Broken stops.Disk) status tries moments t before now halted cause reads writes disk prints =
    along statuses.Disk status tries moments t prints.0 (subst (λ (p : ℕ × ℕ). Rose p.0 p.1) (sym disk) cause, prints.1, (halts.Broken stops.Disk, halted))
halted_row (halts.Unopened opening.NotAStore) status tries moments t before now halted cause reads writes disk prints = refused refusals.NotAStore (halts.Unopened opening.NotAStore) status tries moments t refl halted prints
halted_row (halts.Unopened (opening.Version version)) status tries moments t before now halted cause reads writes disk prints = refused (refusals.Version version) (halts.Unopened (opening.Version version)) status tries moments t refl halted prints
halted_row (halts.Unopened (opening.Damaged at)) status tries moments t before now halted cause reads writes disk prints = refused (refusals.Damaged at) (halts.Unopened (opening.Damaged at)) status tries moments t refl halted prints
halted_row (halts.Unopened opening.NoMemory) status tries moments t before now halted cause reads writes disk prints = along statuses.NoMemory status tries moments t prints.0 (prints.1, inl (halts.Unopened opening.NoMemory, halted))
halted_row (halts.Unopened opening.DiskFault) status tries moments t before now halted cause reads writes disk prints =
    along statuses.Disk status tries moments t prints.0 (subst (λ (p : ℕ × ℕ). Rose p.0 p.1) (sym disk) (cause refl), prints.1, (halts.Unopened opening.DiskFault, halted))
halted_row (halts.OtherBase base) status tries moments t before now halted cause reads writes disk prints = refused (refusals.Base base) (halts.OtherBase base) status tries moments t refl halted prints
