-- What a status says of the answer that a run gave.
use Rattle.std.proofs.Common.{◌≡◌, ◌⊎◌, ℕ, Bool, true, false, List, Option, Some, Result, Ok, Err, nat_eq, if◌then◌else◌, inl, inr, refl, sym, ap, ◌∙◌}
use Rattle.std.specs.Io.KnownBytes.{Appends}
use Rattle.mj_base.specs.Rising.{Rose}
use Rattle.mj_disk.specs.DiskModel.{History}
use Rattle.mj_serve.specs.declared.fault.ServeFault.{ServeFault}
use Rattle.mj_serve.specs.declared.fault.ServeFault.TheVariants as faults
use Rattle.mj_serve.specs.declared.summary.Summary.{Summary}
use Rattle.mj_serve.specs.Faults.{IsFileFault}
use Rattle.mj_store.specs.Opening.{NoneLawful, OpensLawfully}
use Rattle.mj_tickets.specs.declared.command.TicketCmd.{TicketCmd}
use Rattle.mj_words.specs.Lines.{done_line}
use Rattle.mj_words.specs.SinkCounts.{SinkCounts}
use Rattle.mj_host.specs.Finishing.{IsFinished, status_for}
use Rattle.mj_host.specs.Statuses.{code_of}
use Rattle.mj_host.specs.declared.status.Status.{Status}
use Rattle.mj_host.specs.declared.status.Status.TheVariants as statuses

-- a status is what its number says
abbrev named : ℕ → Status
named n =
    if nat_eq n 0 then statuses.Done
    else if nat_eq n 1 then statuses.Words
    else if nat_eq n 3 then statuses.Store
    else if nat_eq n 4 then statuses.NoMemory
    else if nat_eq n 5 then statuses.Disk
    else statuses.Write

named-code : (s : Status) → named (code_of s) ≡ s
named-code statuses.Done = refl
named-code statuses.Words = refl
named-code statuses.Store = refl
named-code statuses.NoMemory = refl
named-code statuses.Disk = refl
named-code statuses.Write = refl

-- a number that is the code of both
pub same-status : (s t : Status) (number : ℕ) → number ≡ code_of s → number ≡ code_of t → s ≡ t
same-status s t number e f = sym (named-code s) ∙ ap named (sym e ∙ f) ∙ named-code t

-- two of the statuses are apart
done-want : statuses.NoMemory ≡ statuses.Done → ⊥
done-want e = cc

done-write : statuses.Write ≡ statuses.Done → ⊥
done-write e = cc

write-done : statuses.Done ≡ statuses.Write → ⊥
write-done e = cc

write-want : statuses.NoMemory ≡ statuses.Write → ⊥
write-want e = cc

disk-done : statuses.Done ≡ statuses.Disk → ⊥
disk-done e = cc

disk-want : statuses.NoMemory ≡ statuses.Disk → ⊥
disk-want e = cc

disk-write : statuses.Write ≡ statuses.Disk → ⊥
disk-write e = cc

store-done : statuses.Done ≡ statuses.Store → ⊥
store-done e = cc

store-want : statuses.NoMemory ≡ statuses.Store → ⊥
store-want e = cc

store-write : statuses.Write ≡ statuses.Store → ⊥
store-write e = cc

no-done : (fault : ServeFault) → status_for fault ≡ statuses.Done → ⊥
no-done faults.NotAStore e = cc
no-done (faults.Version version) e = cc
no-done (faults.Damaged at) e = cc
no-done faults.DiskFault e = cc
no-done faults.NoMemory e = cc

no-write : (fault : ServeFault) → status_for fault ≡ statuses.Write → ⊥
no-write faults.NotAStore e = cc
no-write (faults.Version version) e = cc
no-write (faults.Damaged at) e = cc
no-write faults.DiskFault e = cc
no-write faults.NoMemory e = cc

no-words : (fault : ServeFault) → status_for fault ≡ statuses.Words → ⊥
no-words faults.NotAStore e = cc
no-words (faults.Version version) e = cc
no-words (faults.Damaged at) e = cc
no-words faults.DiskFault e = cc
no-words faults.NoMemory e = cc

words-done : statuses.Done ≡ statuses.Words → ⊥
words-done e = cc

words-want : statuses.NoMemory ≡ statuses.Words → ⊥
words-want e = cc

words-write : statuses.Write ≡ statuses.Words → ⊥
words-write e = cc

disk-fault : (fault : ServeFault) → status_for fault ≡ statuses.Disk → fault ≡ faults.DiskFault
disk-fault faults.NotAStore e = cc
disk-fault (faults.Version version) e = cc
disk-fault (faults.Damaged at) e = cc
disk-fault faults.DiskFault e = refl
disk-fault faults.NoMemory e = cc

file-fault : (fault : ServeFault) → status_for fault ≡ statuses.Store → IsFileFault fault
file-fault faults.NotAStore e = tt
file-fault (faults.Version version) e = tt
file-fault (faults.Damaged at) e = tt
file-fault faults.DiskFault e = cc
file-fault faults.NoMemory e = cc

-- status 0: all events were taken, and `done N` is printed
pub done-is : (answer : Result Summary ServeFault) (status : Status) (old new : Option (List ℕ)) (before now : SinkCounts) → IsFinished answer status old new before now → status ≡ statuses.Done → (summary : Summary) × (answer ≡ Ok summary) × Appends old new (done_line summary.events)
done-is (Ok summary) status old new before now (inl done) e = (summary, refl, done.1)
done-is (Ok summary) status old new before now (inr (inl want)) e = absurd (done-want (sym want.0 ∙ e))
done-is (Ok summary) status old new before now (inr (inr cut)) e = absurd (done-write (sym cut.0 ∙ e))
done-is (Err fault) status old new before now (inl line) e = absurd (no-done fault (sym line.0 ∙ e))
done-is (Err fault) status old new before now (inr want) e = absurd (done-want (sym want.0 ∙ e))

-- status 7: a write failed
pub write-is : (answer : Result Summary ServeFault) (status : Status) (old new : Option (List ℕ)) (before now : SinkCounts) → IsFinished answer status old new before now → status ≡ statuses.Write → Rose before.faults now.faults
write-is (Ok summary) status old new before now (inl done) e = absurd (write-done (sym done.0 ∙ e))
write-is (Ok summary) status old new before now (inr (inl want)) e = absurd (write-want (sym want.0 ∙ e))
write-is (Ok summary) status old new before now (inr (inr cut)) e = cut.1
write-is (Err fault) status old new before now (inl line) e = absurd (no-write fault (sym line.0 ∙ e))
write-is (Err fault) status old new before now (inr want) e = absurd (write-want (sym want.0 ∙ e))

-- status 5: the disk failed
pub disk-is : (answer : Result Summary ServeFault) (status : Status) (old new : Option (List ℕ)) (before now : SinkCounts) → IsFinished answer status old new before now → status ≡ statuses.Disk → answer ≡ Err faults.DiskFault
disk-is (Ok summary) status old new before now (inl done) e = absurd (disk-done (sym done.0 ∙ e))
disk-is (Ok summary) status old new before now (inr (inl want)) e = absurd (disk-want (sym want.0 ∙ e))
disk-is (Ok summary) status old new before now (inr (inr cut)) e = absurd (disk-write (sym cut.0 ∙ e))
disk-is (Err fault) status old new before now (inl line) e = ap (λ (f : ServeFault). Err f) (disk-fault fault (sym line.0 ∙ e))
disk-is (Err fault) status old new before now (inr want) e = absurd (disk-want (sym want.0 ∙ e))

-- status 3: the file is refused
pub store-is : (answer : Result Summary ServeFault) (status : Status) (old new : Option (List ℕ)) (before now : SinkCounts) → IsFinished answer status old new before now → status ≡ statuses.Store → (fault : ServeFault) × (answer ≡ Err fault) × IsFileFault fault
store-is (Ok summary) status old new before now (inl done) e = absurd (store-done (sym done.0 ∙ e))
store-is (Ok summary) status old new before now (inr (inl want)) e = absurd (store-want (sym want.0 ∙ e))
store-is (Ok summary) status old new before now (inr (inr cut)) e = absurd (store-write (sym cut.0 ∙ e))
store-is (Err fault) status old new before now (inl line) e = (fault, refl, file-fault fault (sym line.0 ∙ e))
store-is (Err fault) status old new before now (inr want) e = absurd (store-want (sym want.0 ∙ e))

-- no run ends with the status of other words
pub words-apart : (answer : Result Summary ServeFault) (status : Status) (old new : Option (List ℕ)) (before now : SinkCounts) → IsFinished answer status old new before now → status ≡ statuses.Words → ⊥
words-apart (Ok summary) status old new before now (inl done) e = words-done (sym done.0 ∙ e)
words-apart (Ok summary) status old new before now (inr (inl want)) e = words-want (sym want.0 ∙ e)
words-apart (Ok summary) status old new before now (inr (inr cut)) e = words-write (sym cut.0 ∙ e)
words-apart (Err fault) status old new before now (inl line) e = no-words fault (sym line.0 ∙ e)
words-apart (Err fault) status old new before now (inr want) e = words-want (sym want.0 ∙ e)

-- where the cause of no other status is met it is 0 or 4
pub otherwise : (status : Status) (number : ℕ) → number ≡ code_of status → (status ≡ statuses.Words → ⊥) → (status ≡ statuses.Store → ⊥) → (status ≡ statuses.Disk → ⊥) → (status ≡ statuses.Write → ⊥)
    → (number ≡ 0) ⊎ (number ≡ 4)
otherwise statuses.Done number e words store disk write = inl e
otherwise statuses.Words number e words store disk write = absurd (words refl)
otherwise statuses.Store number e words store disk write = absurd (store refl)
otherwise statuses.NoMemory number e words store disk write = inr e
otherwise statuses.Disk number e words store disk write = absurd (disk refl)
otherwise statuses.Write number e words store disk write = absurd (write refl)

no-both : true ≡ false → ⊥
no-both e = cc

-- a file that opens as a lawful list isn't refused, nor is any where there is no store
pub unrefused : (stored : Bool) (told : Option History) (base : ℕ) (commands : List TicketCmd) → (stored ≡ true → OpensLawfully base commands told) → (stored ≡ false → (history : History) × (told ≡ Some history))
    → NoneLawful told → ((history : History) → told ≡ Some history → stored ≡ true) → ⊥
unrefused true told base commands opens tells none refused = none base commands (opens refl)
unrefused false told base commands opens tells none refused = let t = tells refl in no-both (sym (refused t.0 t.1))
