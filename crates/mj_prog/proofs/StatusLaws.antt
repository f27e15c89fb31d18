-- Laws of statuses and their numbers.
use Rattle.std.proofs.Common.{◌≡◌, ◌⊎◌, ℕ, ◌^◌, Bool, true, false, List, [], take, Option, Some, None, IfSome, nat_eq, if◌then◌else◌, inl, inr, refl, sym, ap, ◌∙◌, subst}
use Rattle.std.specs.Io.KnownBytes.{Appends}
use Rattle.mj_base.specs.Rising.{Rose}
use Rattle.mj_base.specs.Writing.{AppendsFront}
use Rattle.mj_disk.specs.DiskModel.{History}
use Rattle.mj_disk.specs.declared.disk.Disk.{Ghosts}
use Rattle.mj_machine.specs.MachineState.{Machine}
use Rattle.mj_store.specs.Opening.{NoneLawful}
use Rattle.mj_store.specs.Standing.{IsTelling}
use Rattle.mj_prog.specs.Listing.{ListingRow, Lists, listed}
use Rattle.mj_prog.specs.Made.{Begins, Made, Runs}
use Rattle.mj_prog.specs.ReplayTable.{AnswersFor}
use Rattle.mj_words.specs.Lines.{AppendsLine}
use Rattle.mj_prog.specs.Running.{FaultCounts}
use Rattle.mj_prog.specs.Script.{Ending, WithText, AtStop, AtUnlawful, IsLawful, script}
use Rattle.mj_prog.specs.Shown.{fault_disk}
use Rattle.mj_words.specs.SinkCounts.{SinkCounts}
use Rattle.mj_prog.specs.StatusRows.{CommandCause, IsFileRow, IsRefusedFile, IsRow, IsUnopened, LoadCause, StatusCause}
use Rattle.mj_prog.specs.Statuses.{code_of}
use Rattle.mj_prog.specs.Words.{is_listing, is_over_file, load_for, options_for}
use Rattle.mj_prog.specs.declared.status.Status.{Status}
use Rattle.mj_prog.specs.declared.status.Status.TheVariants as statuses
use Rattle.mj_prog.specs.declared.words.Command.{Command}
use Rattle.mj_prog.specs.declared.words.Command.TheVariants as commands
use Rattle.mj_prog.specs.declared.words.Load.{Load}
use Rattle.mj_prog.specs.declared.words.Options.{Options}

-- a status is what its number says
abbrev named : ℕ → Status
named n =
    if nat_eq n 0 then statuses.Done
    else if nat_eq n 1 then statuses.Words
    else if nat_eq n 2 then statuses.Line
    else if nat_eq n 3 then statuses.Store
    else if nat_eq n 4 then statuses.NoMemory
    else if nat_eq n 5 then statuses.Disk
    else if nat_eq n 6 then statuses.Read
    else statuses.Write

named-code : (s : Status) → named (code_of s) ≡ s
named-code statuses.Done = refl
named-code statuses.Words = refl
named-code statuses.Line = refl
named-code statuses.Store = refl
named-code statuses.NoMemory = refl
named-code statuses.Disk = refl
named-code statuses.Read = refl
named-code statuses.Write = refl

pub same-status : (s t : Status) → code_of s ≡ code_of t → s ≡ t
same-status s t e = sym (named-code s) ∙ ap named e ∙ named-code t

pub status-is : (s t : Status) (result : ℕ) → result ≡ code_of s → result ≡ code_of t → s ≡ t
status-is s t result e f = same-status s t (sym e ∙ f)

lawful-answers : (ending : Ending) → IsLawful ending → AnswersFor ending 0
lawful-answers WithText lawful = inl refl
lawful-answers (AtStop number) lawful = inl refl
lawful-answers (AtUnlawful number) lawful = absurd lawful

memory-answers : (ending : Ending) → AnswersFor ending 4
memory-answers WithText = inr refl
memory-answers (AtStop number) = inr refl
memory-answers (AtUnlawful number) = inr refl

-- ---- a replay

-- the row of a status that is known
pub row-of : {D : Type 0} (disks : Ghosts D) (began after : D) (found : Option Options) (Row : ℕ → Machine → Made → Status → Type 0) (s t : Status)
    → Runs disks began after found (λ lanes first made. Row lanes first made s) → s ≡ t → Runs disks began after found (λ lanes first made. Row lanes first made t)
row-of disks began after found Row s t runs is = subst (λ (status : Status). Runs disks began after found (λ lanes first made. Row lanes first made status)) is runs

-- a disk that tells of no lawful list has no beginning, and without a file none is refused
never-told : (stored : Bool) (seed : List ℕ) (told : Option History) (first : Machine) → Begins stored seed told first → ((history : History) × (told ≡ Some history) → stored ≡ true) → ((history : History) × (told ≡ Some history) → NoneLawful told)
    → (at : Option History) → told ≡ at → told ≡ None
never-told stored seed told first begins over none None is = is
never-told true seed told first begins over none (Some history) is = absurd (none (history, is) begins.0 begins.1 begins.2)
never-told false seed told first begins over none (Some history) is = let never : false ≡ true = over (history, is) in absurd (cc)

pub store-row : {D : Type 0} (disks : Ghosts D) (began after : D) (command : Option Command) (Cut : ℕ → Machine → Made → Type 0)
    → (IsTelling disks began → is_over_file command ≡ true) → (IsTelling disks began → NoneLawful (disks.told began))
    → Runs disks began after (options_for command) Cut → Runs disks began after (options_for command) (λ lanes first made. (disks.told began ≡ None) × Cut lanes first made)
store-row disks began after None Cut over none runs = tt
store-row disks began after (Some commands.Tickets) Cut over none runs = tt
store-row disks began after (Some (commands.Gen load)) Cut over none runs = tt
store-row disks began after (Some (commands.Replay options)) Cut over none runs = λ first begins.
    let ran = runs first begins in
    (ran.0, ran.1, (never-told options.stored options.seed (disks.told began) first begins over none (disks.told began) refl, ran.2))

-- what a row leaves where nothing failed
answers-row : (lanes : ℕ) (first : Machine) (made : Made) (counts : FaultCounts) (sink_now : ℕ) (all : List ℕ) (left old new : Option (List ℕ)) (before now : SinkCounts) (s : Status)
    → IsRow lanes first made (Some all) left old new before now s → StatusCause counts sink_now s → (s ≡ statuses.Store → ⊥)
    → ¬ Rose counts.source_before counts.source_now → ¬ Rose counts.sink_before sink_now → ¬ Rose counts.disk_before counts.disk_now
    → AnswersFor (script lanes (take (2 ^ 40) all)).ending (code_of s)
answers-row lanes first made counts sink_now all left old new before now statuses.Done row cause stored read written synced =
    subst (λ (text : List ℕ). AnswersFor (script lanes text).ending 0) row.1 (lawful-answers (script lanes row.0).ending row.3)
answers-row lanes first made counts sink_now all left old new before now statuses.Words row cause stored read written synced = absurd row
answers-row lanes first made counts sink_now all left old new before now statuses.Line row cause stored read written synced =
    subst (λ (text : List ℕ). AnswersFor (script lanes text).ending 2) row.2 (subst (λ (ending : Ending). AnswersFor ending 2) (sym row.4) (inl refl))
answers-row lanes first made counts sink_now all left old new before now statuses.Store row cause stored read written synced = absurd (stored refl)
answers-row lanes first made counts sink_now all left old new before now statuses.NoMemory row cause stored read written synced = memory-answers (script lanes (take (2 ^ 40) all)).ending
answers-row lanes first made counts sink_now all left old new before now statuses.Disk row cause stored read written synced = absurd (synced cause)
answers-row lanes first made counts sink_now all left old new before now statuses.Read row cause stored read written synced = absurd (read cause)
answers-row lanes first made counts sink_now all left old new before now statuses.Write row cause stored read written synced = absurd (written cause)

told-none : (told : Option History) → told ≡ None → ((history : History) × (told ≡ Some history)) → ⊥
told-none told none some = cc

pub answers : {D : Type 0} (disks : Ghosts D) (began after : D) (command : Option Command) (counts : FaultCounts) (sink_now : ℕ) (from left old new : Option (List ℕ)) (before now : SinkCounts) (result : ℕ) (s : Status)
    → Runs disks began after (options_for command) (λ lanes first made. IsRow lanes first made from left old new before now s) → CommandCause (load_for command) counts sink_now s
    → (s ≡ statuses.Store → IsTelling disks began → is_over_file command ≡ true) → (s ≡ statuses.Store → IsTelling disks began → NoneLawful (disks.told began)) → result ≡ code_of s
    → IfSome (options_for command) (λ options. IfSome from (λ all. (first : Machine) → Begins options.stored options.seed (disks.told began) first → IsTelling disks began → ¬ Rose counts.source_before counts.source_now → ¬ Rose counts.sink_before sink_now → ¬ Rose counts.disk_before counts.disk_now → AnswersFor (script options.lanes (take (2 ^ 40) all)).ending result))
answers disks began after None counts sink_now from left old new before now result s runs cause over none is = tt
answers disks began after (Some commands.Tickets) counts sink_now from left old new before now result s runs cause over none is = tt
answers disks began after (Some (commands.Gen load)) counts sink_now from left old new before now result s runs cause over none is = tt
answers disks began after (Some (commands.Replay options)) counts sink_now None left old new before now result s runs cause over none is = tt
answers disks began after (Some (commands.Replay options)) counts sink_now (Some all) left old new before now result s runs cause over none is =
    λ first begins telling read written synced.
    let ran = runs first begins in
    subst (AnswersFor (script options.lanes (take (2 ^ 40) all)).ending) (sym is)
    (answers-row options.lanes first ran.0 counts sink_now all left old new before now s ran.2 cause
    (λ store. told-none (disks.told began) (never-told options.stored options.seed (disks.told began) first begins (over store) (none store) (disks.told began) refl) telling)
    read written synced)

-- ---- an opening

pub unopened-code : (s : Status) (result : ℕ) → result ≡ code_of s → IsUnopened s → (result ≡ 3) ⊎ (result ≡ 4) ⊎ (result ≡ 5)
unopened-code statuses.Done result is unopened = absurd unopened
unopened-code statuses.Words result is unopened = absurd unopened
unopened-code statuses.Line result is unopened = absurd unopened
unopened-code statuses.Store result is unopened = inl is
unopened-code statuses.NoMemory result is unopened = inr (inl is)
unopened-code statuses.Disk result is unopened = inr (inr is)
unopened-code statuses.Read result is unopened = absurd unopened
unopened-code statuses.Write result is unopened = absurd unopened

-- what the statuses 3 and 5 print
pub file-row : (told told_now : Option History) (old new : Option (List ℕ)) (before now : SinkCounts) (s t : Status) → IsFileRow told told_now old new before now s → s ≡ t → IsFileRow told told_now old new before now t
file-row told told_now old new before now s t row is = subst (λ (status : Status). IsFileRow told told_now old new before now status) is row

pub file-by : (told told_now : Option History) (old new : Option (List ℕ)) (before now : SinkCounts) (s : Status)
    → (s ≡ statuses.Store → (history : History) → told ≡ Some history → IsRefusedFile told told_now old new before now) → (s ≡ statuses.Disk → AppendsLine old new before now [] fault_disk)
    → IsFileRow told told_now old new before now s
file-by told told_now old new before now statuses.Done store disk = tt
file-by told told_now old new before now statuses.Words store disk = tt
file-by told told_now old new before now statuses.Line store disk = tt
file-by told told_now old new before now statuses.Store store disk = store refl
file-by told told_now old new before now statuses.NoMemory store disk = tt
file-by told told_now old new before now statuses.Disk store disk = disk refl
file-by told told_now old new before now statuses.Read store disk = tt
file-by told told_now old new before now statuses.Write store disk = tt

-- ---- causes

pub disk-cause : (load : Option Load) (counts : FaultCounts) (sink_now : ℕ) (s : Status) → s ≡ statuses.Disk → CommandCause load counts sink_now s → load ≡ None → Rose counts.disk_before counts.disk_now
disk-cause None counts sink_now s is cause none = subst (λ (status : Status). StatusCause counts sink_now status) is cause
disk-cause (Some load) counts sink_now s is cause none = cc

pub read-cause : (load : Option Load) (counts : FaultCounts) (sink_now : ℕ) (s : Status) → s ≡ statuses.Read → CommandCause load counts sink_now s → Rose counts.source_before counts.source_now
read-cause None counts sink_now s is cause = subst (λ (status : Status). StatusCause counts sink_now status) is cause
read-cause (Some load) counts sink_now s is cause = absurd (subst (λ (status : Status). LoadCause counts.sink_before sink_now status) is cause)

pub write-cause : (load : Option Load) (counts : FaultCounts) (sink_now : ℕ) (s : Status) → s ≡ statuses.Write → CommandCause load counts sink_now s → Rose counts.sink_before sink_now
write-cause None counts sink_now s is cause = subst (λ (status : Status). StatusCause counts sink_now status) is cause
write-cause (Some load) counts sink_now s is cause = subst (λ (status : Status). LoadCause counts.sink_before sink_now status) is cause

-- the tickets are no load
pub listing-cause : (command : Option Command) (counts : FaultCounts) (sink_now : ℕ) (s : Status) → is_listing command ≡ true → CommandCause (load_for command) counts sink_now s → StatusCause counts sink_now s
listing-cause None counts sink_now s lists cause = cause
listing-cause (Some (commands.Replay options)) counts sink_now s lists cause = cause
listing-cause (Some commands.Tickets) counts sink_now s lists cause = cause
listing-cause (Some (commands.Gen load)) counts sink_now s lists cause = cc

-- ---- the tickets of a file

pub lists-done : (told : Option History) (old new : Option (List ℕ)) (s : Status) → Lists told (λ tickets. ListingRow (listed tickets) old new s) → s ≡ statuses.Done → Lists told (λ tickets. Appends old new (listed tickets))
lists-done told old new s lists is = subst (λ (status : Status). Lists told (λ tickets. ListingRow (listed tickets) old new status)) is lists

pub lists-front : (told : Option History) (old new : Option (List ℕ)) (s : Status) → Lists told (λ tickets. ListingRow (listed tickets) old new s) → (s ≡ statuses.NoMemory) ⊎ (s ≡ statuses.Write) → Lists told (λ tickets. AppendsFront old new (listed tickets))
lists-front told old new s lists (inl is) = subst (λ (status : Status). Lists told (λ tickets. ListingRow (listed tickets) old new status)) is lists
lists-front told old new s lists (inr is) = subst (λ (status : Status). Lists told (λ tickets. ListingRow (listed tickets) old new status)) is lists

listing-code : (text : List ℕ) (old new : Option (List ℕ)) (counts : FaultCounts) (sink_now : ℕ) (s : Status) → ListingRow text old new s → StatusCause counts sink_now s
    → ¬ Rose counts.sink_before sink_now → ¬ Rose counts.disk_before counts.disk_now → (code_of s ≡ 0) ⊎ (code_of s ≡ 4)
listing-code text old new counts sink_now statuses.Done row cause written synced = inl refl
listing-code text old new counts sink_now statuses.Words row cause written synced = absurd row
listing-code text old new counts sink_now statuses.Line row cause written synced = absurd row
listing-code text old new counts sink_now statuses.Store row cause written synced = absurd row
listing-code text old new counts sink_now statuses.NoMemory row cause written synced = inr refl
listing-code text old new counts sink_now statuses.Disk row cause written synced = absurd (synced cause)
listing-code text old new counts sink_now statuses.Read row cause written synced = absurd row
listing-code text old new counts sink_now statuses.Write row cause written synced = absurd (written cause)

pub lists-all : (told : Option History) (old new : Option (List ℕ)) (counts : FaultCounts) (sink_now result : ℕ) (s : Status) → Lists told (λ tickets. ListingRow (listed tickets) old new s) → StatusCause counts sink_now s → result ≡ code_of s
    → ¬ Rose counts.sink_before sink_now → ¬ Rose counts.disk_before counts.disk_now → Lists told (λ tickets. (result ≡ 0) ⊎ (result ≡ 4))
lists-all told old new counts sink_now result s lists cause is written synced = λ base commands opens.
    let row = lists base commands opens in
    (row.0, row.1, subst (λ (n : ℕ). (n ≡ 0) ⊎ (n ≡ 4)) (sym is) (listing-code (listed row.0.tickets) old new counts sink_now s row.2 cause written synced))
