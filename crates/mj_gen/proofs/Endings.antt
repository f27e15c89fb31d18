-- What a run's end, its status and what is printed say together.
use Rattle.std.proofs.Common.{◌≡◌, ℕ, zero, suc, Bool, true, false, List, [], take, length, Option, Result, Ok, Err, IsErr, refl, sym, ap, ◌∙◌, subst, inl, inr, arith}
use Rattle.std.specs.Io.KnownBytes.{Appends}
use Rattle.mj_base.specs.Rising.{Rose}
use Rattle.mj_base.specs.StandardLimits.{standard_limits}
use Rattle.mj_base.specs.Writing.{AppendsFront}
use Rattle.mj_base.specs.declared.event.Event.{Event}
use Rattle.mj_base.specs.declared.event.Out.{Out}
use Rattle.mj_disk.specs.DiskModel.{History}
use Rattle.mj_disk.specs.declared.disk.Disk.{Ghosts}
use Rattle.mj_machine.specs.MachineRun.{plainly, run_outs}
use Rattle.mj_machine.specs.MachineState.{Machine}
use Rattle.mj_serve.specs.Counts.{pieces_in}
use Rattle.mj_serve.specs.Faults.{IsFileFault}
use Rattle.mj_serve.specs.declared.fault.ServeFault.{ServeFault}
use Rattle.mj_serve.specs.declared.fault.ServeFault.TheVariants as faults
use Rattle.mj_store.specs.Opening.{NoneLawful}
use Rattle.mj_words.specs.Lines.{AppendsLine}
use Rattle.mj_words.specs.SinkCounts.{SinkCounts}
use Rattle.mj_gen.specs.Counting.{AreCounted, counts_text, octets_in, text_of}
use Rattle.mj_gen.specs.Finishing.{IsFinished, fault_line, status_for, text_for}
use Rattle.mj_gen.specs.Generated.{generated}
use Rattle.mj_gen.specs.Generating.{Begins, Generates, HasRun, load_text}
use Rattle.mj_gen.specs.Statuses.{code_of}
use Rattle.mj_gen.specs.declared.counts.Counts.{Counts}
use Rattle.mj_gen.specs.declared.status.Status.{Status}
use Rattle.mj_gen.specs.declared.status.Status.TheVariants as statuses

text-is : (counts : Counts) (events : List Event) (given : List Out) → AreCounted counts events given → text_for counts ≡ counts_text events given
text-is counts events given are =
    ap (λ (x : ℕ). text_of x counts.pieces counts.octets counts.ends) are.events
    ∙ ap (λ (x : ℕ). text_of (length events) x counts.octets counts.ends) are.pieces
    ∙ ap (λ (x : ℕ). text_of (length events) (pieces_in given) x counts.ends) are.octets
    ∙ ap (λ (x : ℕ). text_of (length events) (pieces_in given) (octets_in given) x) are.ends

no-both : true ≡ false → ⊥
no-both e = cc

no-ok : (counts : Counts) → IsErr {T = Counts} {E = ServeFault} (Ok counts) → ⊥
no-ok counts e = cc

no-bytes : (n : ℕ) → take {A = ℕ} n [] ≡ []
no-bytes zero = refl
no-bytes (suc n) = refl

no-line : (old new : Option (List ℕ)) (before now : SinkCounts) → AppendsLine old new before now [] [] → Appends old new []
no-line old new before now (inl line) = line
no-line old new before now (inr (inl want)) = want.1
no-line old new before now (inr (inr cut)) = subst (Appends old new) (no-bytes cut.1.0) cut.1.1

-- a file that begins a run isn't refused
begun : (b : Bool) (told : Option History) (first : Machine) → Begins b told first → NoneLawful told → (b ≡ false → ⊥) → ⊥
begun true told first begins none stored = none begins.0 begins.1 begins.2
begun false told first begins none stored = stored refl

module _ {D : Type 0} (disks : Ghosts D) (n : ℕ) (stored : Bool) (began after : D) (old new : Option (List ℕ)) (before now : SinkCounts) (number : ℕ) where
  abbrev End : Type 0
  End = Generates disks n stored began after old new before now number

  at-memory : (answer : Result Counts ServeFault) → number ≡ 4 → HasRun disks n stored began after answer → Appends old new [] → End
  at-memory answer is run written = record {
    statuses = (statuses.NoMemory, is);
    done = λ zero. absurd (omega (arith, is, zero));
    prints = λ zero. absurd (omega (arith, is, zero));
    write = λ seven. absurd (omega (arith, is, seven));
    memory = λ four. written;
    store = λ three. absurd (omega (arith, is, three));
    disk = λ five. absurd (omega (arith, is, five));
    part = run.part;
    alone = run.alone;
    complete = λ first begins telling disk sink. inr is;
    refuses = λ stays telling none. inr (inl is);
  }

  -- the text that was made is that of the machine's run
  text-at : (counts : Counts) (first : Machine) → AreCounted counts (generated n stored) (run_outs standard_limits first (plainly (generated n stored))) → text_for counts ≡ load_text disks n stored began after first
  text-at counts first are = text-is counts (generated n stored) (run_outs standard_limits first (plainly (generated n stored))) are

  at-done : (counts : Counts) → number ≡ 0 → HasRun disks n stored began after (Ok counts) → Appends old new (text_for counts) → End
  at-done counts is run written = record {
    statuses = (statuses.Done, is);
    done = λ zero first begins. let w = run.whole first begins in (w.0, subst (Appends old new) (text-at counts first w.1) written);
    prints = λ zero. let t = run.told in (t.0, subst (Appends old new) (text-is counts (generated n stored) t.0 t.1) written);
    write = λ seven. absurd (omega (arith, is, seven));
    memory = λ four. absurd (omega (arith, is, four));
    store = λ three. absurd (omega (arith, is, three));
    disk = λ five. absurd (omega (arith, is, five));
    part = run.part;
    alone = run.alone;
    complete = λ first begins telling disk sink. inl is;
    refuses = λ stays telling none. absurd (no-ok counts (run.unlawful stays telling none));
  }

  at-write : (counts : Counts) → number ≡ 7 → HasRun disks n stored began after (Ok counts) → Rose before.faults now.faults → AppendsFront old new (text_for counts) → End
  at-write counts is run rose written = record {
    statuses = (statuses.Write, is);
    done = λ zero. absurd (omega (arith, is, zero));
    prints = λ zero. absurd (omega (arith, is, zero));
    write = λ seven. (rose, λ first begins. let w = run.whole first begins in (w.0, subst (AppendsFront old new) (text-at counts first w.1) written));
    memory = λ four. absurd (omega (arith, is, four));
    store = λ three. absurd (omega (arith, is, three));
    disk = λ five. absurd (omega (arith, is, five));
    part = run.part;
    alone = run.alone;
    complete = λ first begins telling disk sink. absurd (sink rose);
    refuses = λ stays telling none. absurd (no-ok counts (run.unlawful stays telling none));
  }

  at-store : (fault : ServeFault) → number ≡ 3 → IsFileFault fault → HasRun disks n stored began after (Err fault) → AppendsLine old new before now [] (fault_line fault) → End
  at-store fault is kind run line = record {
    statuses = (statuses.Store, is);
    done = λ zero. absurd (omega (arith, is, zero));
    prints = λ zero. absurd (omega (arith, is, zero));
    write = λ seven. absurd (omega (arith, is, seven));
    memory = λ four. absurd (omega (arith, is, four));
    store = λ three. record { fault = fault; kind = kind; line = line; lawful = run.lawful kind; why = run.refused kind };
    disk = λ five. absurd (omega (arith, is, five));
    part = run.part;
    alone = run.alone;
    complete = λ first begins telling disk sink. absurd (begun stored (disks.told began) first begins (run.lawful kind) (λ unkept. let stays : stored ≡ true = (run.refused kind telling).0 in no-both (sym stays ∙ unkept)));
    refuses = λ stays telling none. inl is;
  }

  at-disk : number ≡ 5 → HasRun disks n stored began after (Err faults.DiskFault) → AppendsLine old new before now [] (fault_line faults.DiskFault) → End
  at-disk is run line = record {
    statuses = (statuses.Disk, is);
    done = λ zero. absurd (omega (arith, is, zero));
    prints = λ zero. absurd (omega (arith, is, zero));
    write = λ seven. absurd (omega (arith, is, seven));
    memory = λ four. absurd (omega (arith, is, four));
    store = λ three. absurd (omega (arith, is, three));
    disk = λ five. (line, λ known. run.cause refl known);
    part = run.part;
    alone = run.alone;
    complete = λ first begins telling disk sink. absurd (disk (run.cause refl (λ stays. telling)));
    refuses = λ stays telling none. inr (inr is);
  }

  at-fault : (fault : ServeFault) → number ≡ code_of (status_for fault) → HasRun disks n stored began after (Err fault) → AppendsLine old new before now [] (fault_line fault) → End
  at-fault faults.NotAStore is run line = at-store faults.NotAStore is tt run line
  at-fault (faults.Version version) is run line = at-store (faults.Version version) is tt run line
  at-fault (faults.Damaged at) is run line = at-store (faults.Damaged at) is tt run line
  at-fault faults.DiskFault is run line = at-disk is run line
  at-fault faults.NoMemory is run line = at-memory (Err faults.NoMemory) is run (no-line old new before now line)

  pub generates : (answer : Result Counts ServeFault) (status : Status) → number ≡ code_of status → HasRun disks n stored began after answer → IsFinished answer status old new before now → End
  generates (Ok counts) status e run (inl told) = at-done counts (e ∙ ap code_of told.0) run told.1
  generates (Ok counts) status e run (inr (inl want)) = at-memory (Ok counts) (e ∙ ap code_of want.0) run want.1
  generates (Ok counts) status e run (inr (inr cut)) = at-write counts (e ∙ ap code_of cut.0) run cut.1 cut.2
  generates (Err fault) status e run (inl line) = at-fault fault (e ∙ ap code_of line.0) run line.1
  generates (Err fault) status e run (inr want) = at-memory (Err fault) (e ∙ ap code_of want.0) run want.1
