-- Laws of the rows of the statuses.
use Rattle.std.proofs.Common.{◌≤◌, ℕ, List, [], ◌++◌, length, take, Option, inr, sym, ap, ◌∙◌, subst, append-nil}
use Rattle.std.specs.Io.KnownBytes.{Appends}
use Rattle.std.proofs.KnownBytes.{Appends-trans, Appends-kept}
use Rattle.mj_base.specs.Writing.{AppendsFront, WriteAdds, WriteCause}
use Rattle.mj_base.specs.declared.event.Event.{Event}
use Rattle.mj_base.specs.declared.sink.WriteAnswer.{WriteAnswer}
use Rattle.mj_base.specs.declared.sink.WriteAnswer.TheVariants as writes
use Rattle.mj_machine.specs.EventStep.{Noted}
use Rattle.mj_machine.specs.MachineState.{Machine}
use Rattle.mj_serve.specs.Given.{events_in}
use Rattle.mj_prog.specs.Made.{IsMadeOf, IsMadeWhole, Made, printed}
use Rattle.mj_prog.specs.ReplayTable.{IsCutByStore, IsCutOff}
use Rattle.mj_words.specs.Lines.{AppendsLine, done_line}
use Rattle.mj_prog.specs.Running.{FaultCounts, IsHalted}
use Rattle.mj_prog.specs.Script.{script}
use Rattle.mj_prog.specs.Shown.{store_line}
use Rattle.mj_words.specs.SinkCounts.{SinkCounts}
use Rattle.mj_prog.specs.StatusRows.{IsRow, PrintsDone, StatusCause, status_after}
use Rattle.mj_prog.specs.declared.halt.Halt.TheVariants as halts
use Rattle.mj_prog.specs.declared.halt.StoreFault.{StoreFault}
use Rattle.mj_prog.specs.declared.status.Status.{Status}
use Rattle.mj_prog.specs.declared.status.Status.TheVariants as statuses
use Rattle.mj_prog.proofs.Printing.{front-of, front-behind, rose-from}

-- the last line of a run that ended well, by what became of its write
pub prints-done : (events m n : ℕ) (old new : Option (List ℕ)) (answer : WriteAnswer) → WriteAdds old new answer (done_line events) → WriteCause m n answer → PrintsDone events old new m n (status_after answer)
prints-done events m n old new writes.Done adds cause = adds
prints-done events m n old new writes.NoMemory adds cause = adds
prints-done events m n old new writes.Failed adds cause = (cause, adds)

-- all events are the first ones too
made-of-whole : (events : List Event) (made : Made) → IsMadeWhole events made → IsMadeOf events made
made-of-whole events made whole =
    ([], whole.2 ∙ ap events_in (sym (append-nil made.happened)) ∙ ap (λ (begun : List Noted). events_in (made.happened ++ begun)) (sym whole.1) ∙ sym (append-nil (events_in (made.happened ++ made.begun))))

-- all is a front of it
all-front : (old new : Option (List ℕ)) (bytes : List ℕ) → Appends old new bytes → AppendsFront old new bytes
all-front old new bytes added = front-of old new bytes [] bytes added (sym (append-nil bytes))

-- a run to the script's end whose last line was written, or wasn't
pub row-done : (lanes : ℕ) (first : Machine) (made : Made) (before now : SinkCounts) (m n : ℕ) (from left old mid new : Option (List ℕ)) (events : ℕ) (status : Status)
    → IsHalted lanes first made from left old mid events halts.Over → PrintsDone events mid new m n status → IsRow lanes first made from left old new before now status
row-done lanes first made before now m n from left old mid new events statuses.Done halted prints =
    let line = subst (λ (count : ℕ). Appends mid new (done_line count)) halted.4 prints in
    (halted.0, halted.1, halted.2, halted.3, Appends-trans old mid new (printed first made) (done_line (length (script lanes halted.0).events)) halted.5 line)
row-done lanes first made before now m n from left old mid new events statuses.Words halted prints = prints
row-done lanes first made before now m n from left old mid new events statuses.Line halted prints = absurd prints
row-done lanes first made before now m n from left old mid new events statuses.Store halted prints = absurd prints
row-done lanes first made before now m n from left old mid new events statuses.NoMemory halted prints =
    (halted.0, halted.1, made-of-whole (script lanes halted.0).events made halted.2, all-front old new (printed first made) (Appends-kept old mid new (printed first made) halted.5 prints))
row-done lanes first made before now m n from left old mid new events statuses.Disk halted prints = tt
row-done lanes first made before now m n from left old mid new events statuses.Read halted prints = absurd prints
row-done lanes first made before now m n from left old mid new events statuses.Write halted prints =
    let line = subst (λ (count : ℕ). AppendsFront mid new (done_line count)) halted.4 prints.1 in
    inr (halted.0, halted.1, halted.2, front-behind old mid new (printed first made) (done_line (length (script lanes halted.0).events)) [] _ halted.5 line (ap (λ (xs : List ℕ). printed first made ++ xs) (sym (append-nil (done_line (length (script lanes halted.0).events))))))

-- the last line couldn't be made
pub row-unprinted : (lanes : ℕ) (first : Machine) (made : Made) (from left old new : Option (List ℕ)) (events : ℕ) → IsHalted lanes first made from left old new events halts.Over → IsCutOff lanes first made from old new
row-unprinted lanes first made from left old new events halted =
    (halted.0, halted.1, made-of-whole (script lanes halted.0).events made halted.2, all-front old new (printed first made) halted.5)

-- the line of an unlawful line couldn't be made
pub row-unmade : (lanes : ℕ) (first : Machine) (made : Made) (from left old new : Option (List ℕ)) (events number : ℕ) → IsHalted lanes first made from left old new events (halts.Line number) → IsCutOff lanes first made from old new
row-unmade lanes first made from left old new events number halted =
    (halted.0, halted.1, made-of-whole (script lanes halted.0).events made halted.2, all-front old new (printed first made) halted.4)

-- why the file is refused stands behind a front of what the events print
pub row-store : (lanes : ℕ) (first : Machine) (made : Made) (from old mid new : Option (List ℕ)) (before now : SinkCounts) (fault : StoreFault)
    → (cut : IsCutOff lanes first made from old mid)
    → ((bytes : List ℕ) → Appends old mid bytes → AppendsLine old new before now bytes (store_line fault))
    → IsCutByStore lanes first made from old new before now
row-store lanes first made from old mid new before now fault cut line =
    (cut.0, cut.3.0, fault, cut.1, cut.2, line (take cut.3.0 (printed first made)) cut.3.1)

-- nothing but a failed write has a cause here
pub done-cause : (counts : FaultCounts) (events m n : ℕ) (old new : Option (List ℕ)) (status : Status) → counts.sink_before ≤ m → PrintsDone events old new m n status → StatusCause counts n status
done-cause counts events m n old new statuses.Done first prints = tt
done-cause counts events m n old new statuses.Words first prints = tt
done-cause counts events m n old new statuses.Line first prints = tt
done-cause counts events m n old new statuses.Store first prints = tt
done-cause counts events m n old new statuses.NoMemory first prints = tt
done-cause counts events m n old new statuses.Disk first prints = absurd prints
done-cause counts events m n old new statuses.Read first prints = absurd prints
done-cause counts events m n old new statuses.Write first prints = rose-from counts.sink_before m n first prints.0
