-- Laws of a run of the broker over a script.
use Rattle.std.proofs.Common.{◌≡◌, ◌≤◌, ◌-◌, ◌^◌, ℕ, Bool, true, false, List, [], ◌++◌, length, min, Option, Result, Ok, Err, IfOk, IfErr, OnErr, OnOk, IsErr, IsErrOf, refl, sym, ap, ◌∙◌, subst, append-nil, arith}
use Rattle.std.specs.Io.KnownBytes.{Appends}
use Rattle.std.proofs.lemmas.List.{length-map}
use Rattle.mj_base.specs.Rising.{Rose}
use Rattle.mj_base.specs.Writing.{AppendsFront, WriteCause}
use Rattle.mj_base.specs.StandardLimits.{standard_limits}
use Rattle.mj_base.specs.declared.event.Event.{Event}
use Rattle.mj_base.specs.declared.event.Out.{Out}
use Rattle.mj_base.specs.declared.limits.Limits.{Limits}
use Rattle.mj_base.specs.declared.sink.WriteAnswer.{WriteAnswer}
use Rattle.mj_base.specs.declared.sink.WriteAnswer.TheVariants as writes
use Rattle.mj_disk.specs.declared.disk.Disk.{Ghosts}
use Rattle.mj_machine.specs.EventStep.{Noted}
use Rattle.mj_machine.specs.MachineRun.{run_outs}
use Rattle.mj_machine.specs.MachineState.{Machine, start_with}
use Rattle.mj_machine.specs.StoreState.{Store, no_store, opened_store}
use Rattle.mj_serve.specs.Faults.{IsFileFault}
use Rattle.mj_serve.specs.Given.{Entry, events_in, outs_given}
use Rattle.mj_serve.specs.RunLaws.{KeepsNothing, KeepsTickets}
use Rattle.mj_serve.specs.Serving.{EndedEarly, EndedOver, EndedWithout, IsLeftAlone, Served, ServedOver, ServedWithout}
use Rattle.mj_serve.specs.declared.fault.ServeFault.{ServeFault}
use Rattle.mj_serve.specs.declared.fault.ServeFault.TheVariants as faults
use Rattle.mj_serve.specs.declared.summary.Summary.{Summary}
use Rattle.mj_store.specs.Opening.{OpensLawfully}
use Rattle.mj_tickets.specs.declared.command.TicketCmd.{TicketCmd}
use Rattle.mj_prog.specs.Made.{Begins, IsRun, Made, printed}
use Rattle.mj_prog.specs.ReplayTable.{IsCutOff}
use Rattle.mj_prog.specs.Running.{FaultCounts, HaltCause, IsHalted, IsUntaken, events_of, halt_at, halt_by, halt_for, is_stopped, served_fault}
use Rattle.mj_prog.specs.Shown.{shown}
use Rattle.mj_prog.specs.Standing.{HasPrinted, HasRead, Prints, ReadsTo, SinkSeen, SourceSeen, Stands}
use Rattle.mj_prog.specs.declared.halt.Halt.{Halt}
use Rattle.mj_prog.specs.declared.halt.Halt.TheVariants as halts
use Rattle.mj_prog.specs.declared.halt.StoreFault.{StoreFault}
use Rattle.mj_prog.specs.declared.halt.StoreFault.TheVariants as stores
use Rattle.mj_prog.specs.declared.progress.Progress.{Progress}
use Rattle.mj_prog.specs.declared.script_ports.Stage.{Stage}
use Rattle.mj_prog.specs.declared.script_ports.Stage.TheVariants as stages
use Rattle.mj_prog.proofs.Printing.{front-of}

-- ---- where a run stands as it ends

-- all that was written, or a front of it
any-front : (old new : Option (List ℕ)) (wrote : WriteAnswer) (text : List ℕ) → Prints old new wrote text → AppendsFront old new text
any-front old new writes.Done text prints = front-of old new text [] text prints (sym (append-nil text))
any-front old new writes.NoMemory text prints = prints
any-front old new writes.Failed text prints = prints

-- what happened, and what was begun
abbrev made-of : List Noted → List Noted → Bool → Made
made-of happened begun ended = record { happened = happened; begun = begun; ended = ended }

-- the events of the run, of which the last may have given nothing, are the first of the script's
module _ (source now : SourceSeen) (sink sink_now : SinkSeen) (began progress : Progress) (stage : Stage) (wrote : WriteAnswer) (first : Machine) (happened begun : List Noted) (ended : Bool) (outs : List Out)
    (read : HasRead source now began progress stage (events_in (happened ++ begun))) (printed_so : HasPrinted sink sink_now stage wrote outs) (outs_are : outs ≡ run_outs standard_limits first happened) where
  abbrev made : Made
  made = made-of happened begun ended

  shown_is : shown outs ≡ printed first made
  shown_is = ap shown outs_are

  cut-off : IsCutOff began.lanes first made source.left sink.written sink_now.written
  cut-off =
      let t = read.events in
      (t.0, t.2, (t.1, t.3), subst (AppendsFront sink.written sink_now.written) shown_is (any-front sink.written sink_now.written wrote (shown outs) printed_so.prints))

  halted-early : (events : ℕ) (fault : ServeFault) → IsHalted began.lanes first made source.left now.left sink.written sink_now.written events (halt_for fault)
  halted-early events faults.NotAStore = cut-off
  halted-early events (faults.Version version) = cut-off
  halted-early events (faults.Damaged at) = cut-off
  halted-early events faults.DiskFault = tt
  halted-early events faults.NoMemory = cut-off

  -- the halt by the answer and the last write
  pub halted-err : (events : ℕ) (fault : ServeFault) (last : WriteAnswer) → IsHalted began.lanes first made source.left now.left sink.written sink_now.written events (halt_by (Err fault) stage last)
  halted-err events fault writes.Done = halted-early events fault
  halted-err events fault writes.NoMemory = cut-off
  halted-err events fault writes.Failed = cut-off

  module _ (none : begun ≡ []) (ends : ended ≡ true) where
    whole : events_in (happened ++ begun) ≡ events_in happened
    whole = ap (λ (b : List Noted). events_in (happened ++ b)) none ∙ ap events_in (append-nil happened)

    -- all was written
    prints-all : wrote ≡ writes.Done → Appends sink.written sink_now.written (printed first made)
    prints-all is = subst (Appends sink.written sink_now.written) shown_is (subst (λ (w : WriteAnswer). Prints sink.written sink_now.written w (shown outs)) is printed_so.prints)

    reads-at : (at : Stage) → at ≡ stage → ReadsTo source.left now.left (record progress { lanes = began.lanes }) (events_in happened) at
    reads-at at is = subst (λ (n : ℕ). ReadsTo source.left now.left (record progress { lanes = n }) (events_in happened) at) read.lanes
        (subst (λ (es : List Event). ReadsTo source.left now.left progress es at) whole (subst (λ (s : Stage). ReadsTo source.left now.left progress (events_in (happened ++ begun)) s) (sym is) read.reads))

    halted-at : (events : ℕ) (at : Stage) → at ≡ stage → wrote ≡ writes.Done → events ≡ length (events_in happened) → is_stopped at ≡ true
        → IsHalted began.lanes first made source.left now.left sink.written sink_now.written events (halt_at at)
    halted-at events stages.Going at done count stopped = absurd (cc)
    halted-at events stages.Over at done count stopped =
        let next = reads-at stages.Over at in
        (next.0, next.1, (ends, none, next.2), next.3, count ∙ ap length (sym next.2), prints-all done)
    halted-at events (stages.Line number) at done count stopped =
        let next = reads-at (stages.Line number) at in
        (next.0, next.1, (ends, none, next.2), next.3, prints-all done)
    halted-at events stages.Unread at done count stopped =
        let next = reads-at stages.Unread at in
        (next.0, next.1, (ends, none, next.2), next.3, prints-all done)
    halted-at events stages.Unwritten at done count stopped = cut-off

    pub halted-ok : (summary : Summary) (last : WriteAnswer) → last ≡ wrote → summary.events ≡ length (events_in happened) → is_stopped stage ≡ true
        → IsHalted began.lanes first made source.left now.left sink.written sink_now.written summary.events (halt_by (Ok summary) stage last)
    halted-ok summary writes.Done is count stopped = halted-at summary.events stage refl (sym is) count stopped
    halted-ok summary writes.NoMemory is count stopped = cut-off
    halted-ok summary writes.Failed is count stopped = cut-off

-- ---- what failed

module _ (source now : SourceSeen) (sink sink_now : SinkSeen) (began progress : Progress) (stage : Stage) (wrote : WriteAnswer) (taken : List Event) (outs : List Out)
    (read : HasRead source now began progress stage taken) (printed_so : HasPrinted sink sink_now stage wrote outs) (counts : FaultCounts)
    (of_source : (counts.source_before ≡ source.faults) × (counts.source_now ≡ now.faults)) (of_sink : counts.sink_before ≡ sink.counts.faults) where
  rose-source : stage ≡ stages.Unread → Rose counts.source_before counts.source_now
  rose-source is = subst (λ (n : ℕ). Rose n counts.source_now) (sym of_source.0) (subst (λ (n : ℕ). Rose source.faults n) (sym of_source.1) (read.cause is))

  rose-sink : Rose sink.counts.faults sink_now.counts.faults → Rose counts.sink_before sink_now.counts.faults
  rose-sink rose = subst (λ (n : ℕ). Rose n sink_now.counts.faults) (sym of_sink) rose

  cause-at : (at : Stage) → at ≡ stage → HaltCause counts sink_now.counts.faults (halt_at at)
  cause-at stages.Going at = tt
  cause-at stages.Over at = tt
  cause-at (stages.Line number) at = tt
  cause-at stages.Unread at = rose-source (sym at)
  cause-at stages.Unwritten at = rose-sink (printed_so.unwritten (sym at))

  failed-write : wrote ≡ writes.Failed → Rose counts.sink_before sink_now.counts.faults
  failed-write is = rose-sink (subst (λ (w : WriteAnswer). WriteCause sink.counts.faults sink_now.counts.faults w) is printed_so.cause)

  cause-for : (fault : ServeFault) → (fault ≡ faults.DiskFault → Rose counts.disk_before counts.disk_now) → HaltCause counts sink_now.counts.faults (halt_for fault)
  cause-for faults.NotAStore rose = tt
  cause-for (faults.Version version) rose = tt
  cause-for (faults.Damaged at) rose = tt
  cause-for faults.DiskFault rose = rose refl
  cause-for faults.NoMemory rose = tt

  cause-after : (answer : Result Summary ServeFault) → (IsErrOf answer faults.DiskFault → Rose counts.disk_before counts.disk_now) → HaltCause counts sink_now.counts.faults (halt_by answer stage writes.Done)
  cause-after (Ok summary) rose = cause-at stage refl
  cause-after (Err fault) rose = cause-for fault (λ is. rose (err-is fault is))
    where
      err-is : (fault : ServeFault) → fault ≡ faults.DiskFault → IsErrOf {T = Summary} (Err fault) faults.DiskFault
      err-is fault is = cc

  pub cause-of : (answer : Result Summary ServeFault) (last : WriteAnswer) → last ≡ wrote → (IsErrOf answer faults.DiskFault → Rose counts.disk_before counts.disk_now)
      → HaltCause counts sink_now.counts.faults (halt_by answer stage last)
  cause-of answer writes.Done is rose = cause-after answer rose
  cause-of answer writes.NoMemory is rose = tt
  cause-of answer writes.Failed is rose = failed-write (sym is)

-- ---- from what serving says

few-events : (events count : ℕ) → events ≡ min count (2 ^ 64 - 1) → count ≤ 2 ^ 40 → events ≡ count
few-events events count is few = omega arith

module _ {P D : Type 0} (stand : P → P → List Event → List Entry → Type 0) (disks : Ghosts D) (origin ports : P) (at_first at_last : D)
    (names now_names : ℕ × ℕ) (source now : SourceSeen) (sink sink_now : SinkSeen) (began progress : Progress) (stage : Stage) (wrote : WriteAnswer)
    (seen : (taken : List Event) (given : List Entry) → stand origin ports taken given → Stands names now_names source now sink sink_now began progress stage wrote taken given) where
  -- the run, and where it halted
  abbrev pub RanTo : Machine → ℕ → Halt → Type 0
  RanTo first events halt = (made : Made) × IsRun disks at_first at_last first made × IsHalted began.lanes first made source.left now.left sink.written sink_now.written events halt

  module _ (store : Store) (alone : store.stored ≡ false → IsLeftAlone (disks.time at_first) (disks.told at_first) (disks.told at_last)) where
    run-ok : (summary : Summary) → is_stopped stage ≡ true
        → (run : Served stand disks origin at_first standard_limits store ports at_last summary)
        → (store.stored ≡ true → KeepsTickets standard_limits store.seed store.base store.commands run.happened) → (store.stored ≡ false → KeepsNothing standard_limits run.happened)
        → RanTo (start_with standard_limits store) summary.events (halt_by (Ok summary) stage wrote)
    run-ok summary stopped run tickets nothing =
        let stands = seen (events_in (run.happened ++ [])) run.given run.ran.stands in
        let whole : events_in (run.happened ++ []) ≡ events_in run.happened = ap events_in (append-nil run.happened) in
        let size : length (events_in run.happened) ≡ length run.happened = length-map run.happened (λ (e : Noted). e.event) in
        let few : length (events_in (run.happened ++ [])) ≤ 2 ^ 40 = omega (arith, stands.read.few) in
        let same : length (events_in (run.happened ++ [])) ≡ length (events_in run.happened) = ap length whole in
        let count : summary.events ≡ length (events_in run.happened) = omega (arith, few-events summary.events (length run.happened) run.counts.events (omega (arith, few, same, size)), size) in (
          made-of run.happened [] true,
          record {
            alone = omega arith;
            notes = run.ran.notes;
            count = run.ran.count;
            given = run.given;
            outs = run.ran.outs;
            kept = record { stable = run.ran.stable; crash = run.ran.crash; left = λ ended. run.left; alone = alone };
            laws = run.laws;
            tickets = tickets;
            nothing = nothing;
          },
          halted-ok source now sink sink_now began progress stage wrote (start_with standard_limits store) run.happened [] true (outs_given run.given) stands.read stands.printed run.ran.outs refl refl summary wrote refl count stopped,
        )

    run-err : (fault : ServeFault)
        → (run : EndedEarly stand disks origin at_first standard_limits store ports at_last)
        → (store.stored ≡ true → KeepsTickets standard_limits store.seed store.base store.commands run.happened) → (store.stored ≡ false → KeepsNothing standard_limits run.happened)
        → RanTo (start_with standard_limits store) 0 (halt_by (Err fault) stage wrote)
    run-err fault run tickets nothing =
        let stands = seen (events_in (run.happened ++ run.last)) run.given run.ran.stands in (
          made-of run.happened run.last false,
          record {
            alone = run.alone;
            notes = run.ran.notes;
            count = run.ran.count;
            given = run.given;
            outs = run.ran.outs;
            kept = record { stable = run.ran.stable; crash = run.ran.crash; left = λ ended. absurd (cc ended); alone = alone };
            laws = run.laws;
            tickets = tickets;
            nothing = nothing;
          },
          halted-err source now sink sink_now began progress stage wrote (start_with standard_limits store) run.happened run.last false (outs_given run.given) stands.read stands.printed run.ran.outs 0 fault wrote,
        )

  module _ (limits : Limits) (standard : limits ≡ standard_limits) (begins : stand origin origin [] []) where
    pub ran-over : (seed : List ℕ) (answer : Result Summary ServeFault)
        → IfOk answer (λ summary. (base : ℕ) (commands : List TicketCmd) → OpensLawfully base commands (disks.told at_first) → ServedOver stand disks origin at_first limits seed base commands ports at_last summary)
        → OnErr answer ((base : ℕ) (commands : List TicketCmd) → OpensLawfully base commands (disks.told at_first) → EndedOver stand disks origin at_first limits seed base commands ports at_last)
        → OnOk answer (is_stopped stage ≡ true)
        → (base : ℕ) (commands : List TicketCmd) → OpensLawfully base commands (disks.told at_first)
        → RanTo (start_with standard_limits (opened_store seed base commands)) (events_of answer) (halt_by answer stage wrote)
    ran-over seed (Ok summary) served ended stopped base commands opens =
        let run = subst (λ (l : Limits). ServedOver stand disks origin at_first l seed base commands ports at_last summary) standard (served base commands opens) in
        run-ok (opened_store seed base commands) (λ stored. absurd (cc stored)) summary stopped run.0 (λ stored. run.1) (λ stored. absurd (cc stored))
    ran-over seed (Err fault) served ended stopped base commands opens =
        let run = subst (λ (l : Limits). EndedOver stand disks origin at_first l seed base commands ports at_last) standard (ended base commands opens) in
        run-err (opened_store seed base commands) (λ stored. absurd (cc stored)) fault run.0 (λ stored. run.1) (λ stored. absurd (cc stored))

    pub ran-without : (answer : Result Summary ServeFault)
        → IfOk answer (λ summary. ServedWithout stand disks origin at_first limits ports at_last summary)
        → OnErr answer (EndedWithout stand disks origin at_first limits ports at_last)
        → OnOk answer (is_stopped stage ≡ true)
        → IsLeftAlone (disks.time at_first) (disks.told at_first) (disks.told at_last)
        → RanTo (start_with standard_limits no_store) (events_of answer) (halt_by answer stage wrote)
    ran-without (Ok summary) served ended stopped alone =
        let run = subst (λ (l : Limits). ServedWithout stand disks origin at_first l ports at_last summary) standard served in
        run-ok no_store (λ stored. alone) summary stopped run.0 (λ stored. absurd (cc stored)) (λ stored. run.1)
    ran-without (Err fault) served ended stopped alone =
        let run = subst (λ (l : Limits). EndedWithout stand disks origin at_first l ports at_last) standard ended in
        run-err no_store (λ stored. alone) fault run.0 (λ stored. absurd (cc stored)) (λ stored. run.1)

    pub ran-all : (stored : Bool) (seed : List ℕ) (answer : Result Summary ServeFault)
        → IfOk answer (λ summary. stored ≡ true → stand origin origin [] [] → (base : ℕ) (commands : List TicketCmd) → OpensLawfully base commands (disks.told at_first) → ServedOver stand disks origin at_first limits seed base commands ports at_last summary)
        → IfOk answer (λ summary. stored ≡ false → stand origin origin [] [] → ServedWithout stand disks origin at_first limits ports at_last summary)
        → OnErr answer (stored ≡ true → stand origin origin [] [] → (base : ℕ) (commands : List TicketCmd) → OpensLawfully base commands (disks.told at_first) → EndedOver stand disks origin at_first limits seed base commands ports at_last)
        → OnErr answer (stored ≡ false → stand origin origin [] [] → EndedWithout stand disks origin at_first limits ports at_last)
        → OnOk answer (is_stopped stage ≡ true)
        → (stored ≡ false → IsLeftAlone (disks.time at_first) (disks.told at_first) (disks.told at_last))
        → (first : Machine) → Begins stored seed (disks.told at_first) first
        → RanTo first (events_of answer) (halt_by answer stage wrote)
    ran-all true seed (Ok summary) over without ended_over ended_without stopped alone first begun =
        subst (λ (m : Machine). RanTo m summary.events (halt_by (Ok summary) stage wrote)) (sym begun.3) (ran-over seed (Ok summary) (over refl begins) tt stopped begun.0 begun.1 begun.2)
    ran-all true seed (Err fault) over without ended_over ended_without stopped alone first begun =
        subst (λ (m : Machine). RanTo m 0 (halt_by (Err fault) stage wrote)) (sym begun.3) (ran-over seed (Err fault) tt (ended_over refl begins) tt begun.0 begun.1 begun.2)
    ran-all false seed (Ok summary) over without ended_over ended_without stopped alone first begun =
        subst (λ (m : Machine). RanTo m summary.events (halt_by (Ok summary) stage wrote)) (sym begun) (ran-without (Ok summary) (without refl begins) tt stopped (alone refl))
    ran-all false seed (Err fault) over without ended_over ended_without stopped alone first begun =
        subst (λ (m : Machine). RanTo m 0 (halt_by (Err fault) stage wrote)) (sym begun) (ran-without (Err fault) tt (ended_without refl begins) tt (alone refl))

-- ---- a file that is refused

file-fault : (fault : StoreFault) (of : ServeFault) → halts.Store fault ≡ halt_for of → (of ≡ served_fault fault) × IsFileFault of
file-fault stores.NotAStore faults.NotAStore is = (refl, tt)
file-fault (stores.Version version) (faults.Version other) is = (let same : version ≡ other = cc in ap faults.Version (sym same), tt)
file-fault (stores.Damaged at) (faults.Damaged other) is = (let same : at ≡ other = cc in ap faults.Damaged (sym same), tt)
file-fault stores.NotAStore (faults.Version other) is = absurd (cc)
file-fault stores.NotAStore (faults.Damaged other) is = absurd (cc)
file-fault stores.NotAStore faults.DiskFault is = absurd (cc)
file-fault stores.NotAStore faults.NoMemory is = absurd (cc)
file-fault (stores.Version version) faults.NotAStore is = absurd (cc)
file-fault (stores.Version version) (faults.Damaged other) is = absurd (cc)
file-fault (stores.Version version) faults.DiskFault is = absurd (cc)
file-fault (stores.Version version) faults.NoMemory is = absurd (cc)
file-fault (stores.Damaged at) faults.NotAStore is = absurd (cc)
file-fault (stores.Damaged at) (faults.Version other) is = absurd (cc)
file-fault (stores.Damaged at) faults.DiskFault is = absurd (cc)
file-fault (stores.Damaged at) faults.NoMemory is = absurd (cc)

stage-halt : (fault : StoreFault) (stage : Stage) → halts.Store fault ≡ halt_at stage → ⊥
stage-halt fault stages.Going is = cc
stage-halt fault stages.Over is = cc
stage-halt fault (stages.Line number) is = cc
stage-halt fault stages.Unread is = cc
stage-halt fault stages.Unwritten is = cc

-- what is said of each fault is said of this one
pub fault-of : (Says : ServeFault → Type 0) (answer : Result Summary ServeFault) (fault : ServeFault) → answer ≡ Err fault → IfErr answer Says → Says fault
fault-of Says answer fault is says = subst (λ (r : Result Summary ServeFault). IfErr r Says) is says

-- a run that halts since the file was refused answered so
pub store-halt : (fault : StoreFault) (answer : Result Summary ServeFault) (stage : Stage) (wrote : WriteAnswer) → halts.Store fault ≡ halt_by answer stage wrote
    → (of : ServeFault) × (answer ≡ Err of) × (of ≡ served_fault fault) × IsFileFault of
store-halt fault (Ok summary) stage writes.Done is = absurd (stage-halt fault stage is)
store-halt fault (Err of) stage writes.Done is = let at = file-fault fault of is in (of, refl, at.0, at.1)
store-halt fault answer stage writes.NoMemory is = absurd (cc)
store-halt fault answer stage writes.Failed is = absurd (cc)

untaken-for : (fault : ServeFault) → IsUntaken (halt_for fault)
untaken-for faults.NotAStore = tt
untaken-for (faults.Version version) = tt
untaken-for (faults.Damaged at) = tt
untaken-for faults.DiskFault = tt
untaken-for faults.NoMemory = tt

pub untaken : (answer : Result Summary ServeFault) (stage : Stage) (wrote : WriteAnswer) → IsErr answer → wrote ≡ writes.Done → IsUntaken (halt_by answer stage wrote)
untaken (Ok summary) stage wrote err done = absurd (cc err)
untaken (Err fault) stage writes.Done err done = untaken-for fault
untaken (Err fault) stage writes.NoMemory err done = absurd (cc)
untaken (Err fault) stage writes.Failed err done = absurd (cc)

pub disk-halt : (answer : Result Summary ServeFault) (stage : Stage) (wrote : WriteAnswer) → halts.Disk ≡ halt_by answer stage wrote → IsErrOf answer faults.DiskFault
disk-halt (Ok summary) stages.Going writes.Done is = absurd (cc)
disk-halt (Ok summary) stages.Over writes.Done is = absurd (cc)
disk-halt (Ok summary) (stages.Line number) writes.Done is = absurd (cc)
disk-halt (Ok summary) stages.Unread writes.Done is = absurd (cc)
disk-halt (Ok summary) stages.Unwritten writes.Done is = absurd (cc)
disk-halt (Err faults.NotAStore) stage writes.Done is = absurd (cc)
disk-halt (Err (faults.Version version)) stage writes.Done is = absurd (cc)
disk-halt (Err (faults.Damaged at)) stage writes.Done is = absurd (cc)
disk-halt (Err faults.DiskFault) stage writes.Done is = cc
disk-halt (Err faults.NoMemory) stage writes.Done is = absurd (cc)
disk-halt answer stage writes.NoMemory is = absurd (cc)
disk-halt answer stage writes.Failed is = absurd (cc)
