-- What serving the load says of the machine's run.
use Rattle.std.proofs.Common.{◌≡◌, ◌≤◌, ℕ, Bool, true, false, nat_le, List, [], ◌∷◌, ◌++◌, Option, Some, None, Result, Ok, Err, IfOk, IfErr, OnErr, OnOk, IsErr, IsErrOf, refl, sym, ap, ◌∙◌, subst, append-nil, arith}
use Rattle.std.proofs.lemmas.Bool.Decides.{nat_tests}
use Rattle.std.specs.List.{list_any}
use Rattle.mj_base.specs.Rising.{Rose, risen}
use Rattle.mj_base.specs.StandardLimits.{standard_limits}
use Rattle.mj_base.specs.declared.event.Event.{Event}
use Rattle.mj_base.specs.declared.event.Note.{Note}
use Rattle.mj_base.specs.declared.event.Note.TheVariants.{Again, Shut}
use Rattle.mj_base.specs.declared.event.Out.{Out}
use Rattle.mj_base.specs.declared.limits.Limits.{Limits}
use Rattle.mj_disk.specs.DiskModel.{Turns}
use Rattle.mj_disk.specs.declared.disk.Disk.{Ghosts}
use Rattle.mj_journal.specs.Opening.{KeepsFile}
use Rattle.mj_laws.specs.Notes.{is_failure}
use Rattle.mj_machine.specs.DiskActs.{notes_in}
use Rattle.mj_machine.specs.EventStep.{Noted, outs_of, state_after}
use Rattle.mj_machine.specs.MachineRun.{AreGiven, plain, plainly, run_outs}
use Rattle.mj_machine.specs.MachineState.{Machine, start_with}
use Rattle.mj_machine.specs.StoreState.{Store, no_store, opened_store}
use Rattle.mj_serve.specs.Faults.{IsFileFault, IsUnserved}
use Rattle.mj_serve.specs.Given.{Entry, events_in, outs_given}
use Rattle.mj_serve.specs.RunLaws.{KeepsNothing, KeepsTickets}
use Rattle.mj_serve.specs.Running.{Stood}
use Rattle.mj_serve.specs.Serving.{EndedEarly, EndedOver, EndedWithout, IsLeftAlone, Served, ServedOver, ServedWithout}
use Rattle.mj_serve.specs.declared.fault.ServeFault.{ServeFault}
use Rattle.mj_serve.specs.declared.fault.ServeFault.TheVariants as faults
use Rattle.mj_serve.specs.declared.summary.Summary.{Summary}
use Rattle.mj_store.specs.Opening.{NoneLawful, OpensLawfully}
use Rattle.mj_store.specs.Standing.{IsTelling}
use Rattle.mj_tickets.specs.declared.command.TicketCmd.{TicketCmd}
use Rattle.mj_titanic.specs.Acting.{RoseBy, shut_count}
use Rattle.mj_gen.specs.Answering.{answered}
use Rattle.mj_gen.specs.Counting.{AreCounted, AreCountedIf}
use Rattle.mj_gen.specs.Generated.{generated}
use Rattle.mj_gen.specs.Generating.{Begins, HasRun, IsKnown, IsPart, IsRun, IsWhole, seed}
use Rattle.mj_gen.specs.Standing.{Stands}
use Rattle.mj_gen.specs.declared.counts.Counts.{Counts}
use Rattle.mj_gen.proofs.Tallies.{notes-append}

-- ---- notes

both-empty : (some more : List Note) → some ++ more ≡ [] → (some ≡ []) × (more ≡ [])
both-empty [] more e = (refl, e)
both-empty (note ∷ some) more e = absurd (cc e)

unnoted : (limits : Limits) (m : Machine) (events : List Noted) → AreGiven limits m events → notes_in (run_outs limits m events) ≡ [] → events ≡ plainly (events_in events)
unnoted limits m [] given none = refl
unnoted limits m (e ∷ events) given none =
    let both = both-empty (notes_in (outs_of limits m e)) (notes_in (run_outs limits (state_after limits m e) events)) (sym (notes-append (outs_of limits m e) (run_outs limits (state_after limits m e) events)) ∙ none) in
    let one : e ≡ plain e.event = ap (λ (notes : List Note). record { event = e.event; notes = notes }) (sym given.0 ∙ both.0) in
    ap (λ (x : Noted). x ∷ events) one ∙ ap (λ (xs : List Noted). plain e.event ∷ xs) (unnoted limits (state_after limits m e) events given.1 both.1)

fails : (notes : List Note) → list_any is_failure notes ≡ true → 1 ≤ shut_count notes
fails [] e = absurd (cc e)
fails (Shut k ∷ notes) e = omega arith
fails (Again k found ∷ notes) e = fails notes e

rose-by : (count before now : ℕ) → 1 ≤ count → RoseBy count before now → Rose before now
rose-by count before now some rose = omega (arith, some, rose.0, rose.1)

-- a fact that can be tested, and isn't false
by-no : (b : Bool) (before now : ℕ) → nat_le (risen before) now ≡ b → ((Rose before now → ⊥) → ⊥) → Rose before now
by-no true before now is unkept = grind (arith, nat_tests)
by-no false before now is unkept = absurd (unkept (λ rose. grind (arith, nat_tests)))

counted-of : (counts : Option Counts) (these : Counts) (events : List Event) (given : List Out) → counts ≡ Some these → AreCountedIf counts events given → AreCounted these events given
counted-of counts these events given is counted = subst (λ (c : Option Counts). AreCountedIf c events given) is counted

no-ok : (summary : Summary) → IsErr {T = Summary} {E = ServeFault} (Ok summary) → ⊥
no-ok summary e = cc

err-is : (fault : ServeFault) → fault ≡ faults.DiskFault → IsErrOf {T = Summary} (Err fault) faults.DiskFault
err-is fault is = cc

-- the same fault of another call
err-of : (fault : ServeFault) → IsErrOf {T = Counts} (Err fault) faults.DiskFault → IsErrOf {T = Summary} (Err fault) faults.DiskFault
err-of fault is = let same : fault ≡ faults.DiskFault = cc in err-is fault same

-- ---- the run

module _ {P D : Type 0} (stand : P → P → List Event → List Entry → Type 0) (disks : Ghosts D) (origin ports : P) (began after : D) (n : ℕ) (stored : Bool)
    (rest : List Event) (counts : Option Counts) (shut stopped : Bool)
    (seen : (taken : List Event) (given : List Entry) → stand origin ports taken given → Stands (generated n stored) rest counts shut stopped taken given) where
  -- the machine's run that was served, from its start
  record Good (first : Machine) (summary : Summary) : Type 0 where
    store : Store
    is : first ≡ start_with standard_limits store
    run : Served stand disks origin began standard_limits store ports after summary
    tickets : store.stored ≡ true → KeepsTickets standard_limits store.seed store.base store.commands run.happened
    nothing : store.stored ≡ false → KeepsNothing standard_limits run.happened
    quiet : list_any is_failure (notes_in (run_outs standard_limits (start_with standard_limits store) run.happened)) ≡ false → run.happened ≡ plainly (events_in run.happened)

  module _ (store : Store) (summary : Summary) (run : Served stand disks origin began standard_limits store ports after summary)
      (tickets : store.stored ≡ true → KeepsTickets standard_limits store.seed store.base store.commands run.happened) (nothing : store.stored ≡ false → KeepsNothing standard_limits run.happened) where
    abbrev start-at : Machine
    start-at = start_with standard_limits store

    run-is : IsRun disks began after start-at run.happened [] true
    run-is = record {
      alone = omega arith;
      notes = run.ran.notes;
      count = run.ran.count;
      given = run.given;
      outs = run.ran.outs;
      stable = run.ran.stable;
      crash = run.ran.crash;
      left = λ ended. run.left;
      laws = run.laws;
      tickets = tickets;
      nothing = nothing;
    }

    stands-is : Stands (generated n stored) rest counts shut stopped (events_in (run.happened ++ [])) run.given
    stands-is = seen (events_in (run.happened ++ [])) run.given run.ran.stands

    part-is : IsPart disks n stored began after start-at
    part-is = (run.happened, [], true, rest, stands-is.events, run-is)

    rose-is : shut ≡ true → Rose (disks.faults began) (disks.faults after)
    rose-is is =
        let failed : list_any is_failure (notes_in (run_outs standard_limits start-at run.happened)) ≡ true
        = ap (λ (o : List Out). list_any is_failure (notes_in o)) (sym run.ran.outs) ∙ stands-is.failed ∙ is in
        rose-by (shut_count (notes_in (run_outs standard_limits start-at run.happened))) (disks.faults began) (disks.faults after) (fails (notes_in (run_outs standard_limits start-at run.happened)) failed) run.ran.count

    unfailed : shut ≡ false → list_any is_failure (notes_in (run_outs standard_limits start-at run.happened)) ≡ false
    unfailed is = ap (λ (o : List Out). list_any is_failure (notes_in o)) (sym run.ran.outs) ∙ stands-is.failed ∙ is

    whole-is : (these : Counts) → counts ≡ Some these → stopped ≡ true → shut ≡ false → run.happened ≡ plainly (events_in run.happened)
        → IsWhole disks n stored began after start-at × AreCounted these (generated n stored) (run_outs standard_limits start-at (plainly (generated n stored)))
    whole-is these are stop unshut quiet =
        let all : generated n stored ≡ events_in run.happened
        = stands-is.events ∙ ap (λ (r : List Event). events_in (run.happened ++ []) ++ r) (stands-is.whole stop unshut) ∙ append-nil (events_in (run.happened ++ [])) ∙ ap events_in (append-nil run.happened) in
        let same : run.happened ≡ plainly (generated n stored) = quiet ∙ ap plainly (sym all) in
        let taken : events_in (run.happened ++ []) ≡ generated n stored = ap events_in (append-nil run.happened) ∙ sym all in
        let outs : outs_given run.given ≡ run_outs standard_limits start-at (plainly (generated n stored)) = run.ran.outs ∙ ap (λ (h : List Noted). run_outs standard_limits start-at h) same in
        let counted : AreCounted these (events_in (run.happened ++ [])) (outs_given run.given) = counted-of counts these (events_in (run.happened ++ [])) (outs_given run.given) are stands-is.counted in (
          subst (λ (h : List Noted). IsRun disks began after start-at h [] true) same run-is,
          subst (λ (o : List Out). AreCounted these (generated n stored) o) outs (subst (λ (e : List Event). AreCounted these e (outs_given run.given)) taken counted),
        )

  module _ (at : Machine) (summary : Summary) (good : Good at summary) where
    part-good : IsPart disks n stored began after at
    part-good = subst (IsPart disks n stored began after) (sym good.is) (part-is good.store summary good.run good.tickets good.nothing)

    rose-good : shut ≡ true → Rose (disks.faults began) (disks.faults after)
    rose-good is = rose-is good.store summary good.run good.tickets good.nothing is

    whole-good : (these : Counts) → counts ≡ Some these → stopped ≡ true → shut ≡ false
        → IsWhole disks n stored began after at × AreCounted these (generated n stored) (run_outs standard_limits at (plainly (generated n stored)))
    whole-good these are stop unshut =
        subst (λ (m : Machine). IsWhole disks n stored began after m × AreCounted these (generated n stored) (run_outs standard_limits m (plainly (generated n stored)))) (sym good.is)
        (whole-is good.store summary good.run good.tickets good.nothing these are stop unshut (good.quiet (unfailed good.store summary good.run good.tickets good.nothing unshut)))

  part-early : (store : Store) (run : EndedEarly stand disks origin began standard_limits store ports after)
      → (store.stored ≡ true → KeepsTickets standard_limits store.seed store.base store.commands run.happened) → (store.stored ≡ false → KeepsNothing standard_limits run.happened)
      → IsPart disks n stored began after (start_with standard_limits store)
  part-early store run tickets nothing = (
    run.happened,
    run.last,
    false,
    rest,
    (seen (events_in (run.happened ++ run.last)) run.given run.ran.stands).events,
    record {
      alone = run.alone;
      notes = run.ran.notes;
      count = run.ran.count;
      given = run.given;
      outs = run.ran.outs;
      stable = run.ran.stable;
      crash = run.ran.crash;
      left = λ ended. absurd (cc ended);
      laws = run.laws;
      tickets = tickets;
      nothing = nothing;
    },
  )

  -- ---- from what serving says

  module _ (limits : Limits) (standard : limits ≡ standard_limits) (fresh : stand origin origin [] []) where
    abbrev SaysOver : Summary → Type 0
    SaysOver summary = stored ≡ true → stand origin origin [] [] → (base : ℕ) (commands : List TicketCmd) → OpensLawfully base commands (disks.told began) → ServedOver stand disks origin began limits seed base commands ports after summary

    abbrev SaysWithout : Summary → Type 0
    SaysWithout summary = stored ≡ false → stand origin origin [] [] → ServedWithout stand disks origin began limits ports after summary

    abbrev EndsOver : Type 0
    EndsOver = stored ≡ true → stand origin origin [] [] → (base : ℕ) (commands : List TicketCmd) → OpensLawfully base commands (disks.told began) → EndedOver stand disks origin began limits seed base commands ports after

    abbrev EndsWithout : Type 0
    EndsWithout = stored ≡ false → stand origin origin [] [] → EndedWithout stand disks origin began limits ports after

    good-over : (summary : Summary) → stored ≡ true → SaysOver summary → (base : ℕ) (commands : List TicketCmd) → OpensLawfully base commands (disks.told began) → Good (start_with standard_limits (opened_store seed base commands)) summary
    good-over summary is over base commands opens =
        let run = subst (λ (l : Limits). ServedOver stand disks origin began l seed base commands ports after summary) standard (over is fresh base commands opens) in
        record {
          store = opened_store seed base commands;
          is = refl;
          run = run.0;
          tickets = λ stays. run.1;
          nothing = λ unkept. absurd (cc unkept);
          quiet = λ unfailed. unnoted standard_limits (start_with standard_limits (opened_store seed base commands)) run.0.happened run.0.ran.notes (run.1.quiet refl unfailed).0;
        }

    good-without : (summary : Summary) → stored ≡ false → SaysWithout summary → Good (start_with standard_limits no_store) summary
    good-without summary is without =
        let run = subst (λ (l : Limits). ServedWithout stand disks origin began l ports after summary) standard (without is fresh) in
        record {
          store = no_store;
          is = refl;
          run = run.0;
          tickets = λ stays. absurd (cc stays);
          nothing = λ unkept. run.1;
          quiet = λ unfailed. run.1.plain;
        }

    good : (b : Bool) (summary : Summary) → stored ≡ b → SaysOver summary → SaysWithout summary → (first : Machine) → Begins b (disks.told began) first → Good first summary
    good true summary is over without first begun = subst (λ (m : Machine). Good m summary) (sym begun.3) (good-over summary is over begun.0 begun.1 begun.2)
    good false summary is over without first begun = subst (λ (m : Machine). Good m summary) (sym begun) (good-without summary is without)

    early : (b : Bool) → stored ≡ b → EndsOver → EndsWithout → (first : Machine) → Begins b (disks.told began) first → IsPart disks n stored began after first
    early true is over without first begun =
        let run = subst (λ (l : Limits). EndedOver stand disks origin began l seed begun.0 begun.1 ports after) standard (over is fresh begun.0 begun.1 begun.2) in
        subst (IsPart disks n stored began after) (sym begun.3) (part-early (opened_store seed begun.0 begun.1) run.0 (λ stays. run.1) (λ unkept. absurd (cc unkept)))
    early false is over without first begun =
        let run = subst (λ (l : Limits). EndedWithout stand disks origin began l ports after) standard (without is fresh) in
        subst (IsPart disks n stored began after) (sym begun) (part-early no_store run.0 (λ stays. absurd (cc stays)) (λ unkept. run.1))

    -- an act that failed raised the count
    rose : (b : Bool) (summary : Summary) → stored ≡ b → SaysOver summary → SaysWithout summary → (stored ≡ true → IsTelling disks began → NoneLawful (disks.told began) → ⊥)
        → shut ≡ true → IsKnown disks n stored began after → Rose (disks.faults began) (disks.faults after)
    rose true summary is over without unlawful failed known =
        by-no (nat_le (risen (disks.faults began)) (disks.faults after)) (disks.faults began) (disks.faults after) refl
        (λ unkept. unlawful is (known is) (λ base commands opens. unkept (rose-good (start_with standard_limits (opened_store seed base commands)) summary (good-over summary is over base commands opens) failed)))
    rose false summary is over without unlawful failed known = rose-good (start_with standard_limits no_store) summary (good-without summary is without) failed

    module _ (plain-is : stored ≡ false → IsLeftAlone (disks.time began) (disks.told began) (disks.told after)) where
      -- all events were taken, whatever the disk tells
      told-at : (these : Counts) → counts ≡ Some these → stopped ≡ true → shut ≡ false → Stood stand origin ports → (given : List Out) × AreCounted these (generated n stored) given
      told-at these are stop unshut stood =
          let s = seen stood.0 stood.1 stood.2 in
          let all : generated n stored ≡ stood.0 = s.events ∙ ap (λ (r : List Event). stood.0 ++ r) (s.whole stop unshut) ∙ append-nil stood.0 in
          (outs_given stood.1, subst (λ (e : List Event). AreCounted these e (outs_given stood.1)) (sym all) (counted-of counts these stood.0 (outs_given stood.1) are s.counted))

      has-run-ok : (summary : Summary) (s : Bool) (c : Option Counts) → Stood stand origin ports → shut ≡ s → counts ≡ c → SaysOver summary → SaysWithout summary → stopped ≡ true
          → (stored ≡ true → IsTelling disks began → NoneLawful (disks.told began) → ⊥)
          → HasRun disks n stored began after (answered (Ok summary) s c)
      has-run-ok summary true c stood failed are over without stop unlawful = record {
        whole = tt;
        told = tt;
        part = λ first begun. part-good first summary (good stored summary refl over without first begun);
        cause = λ is known. rose stored summary refl over without unlawful failed known;
        lawful = λ kind. absurd kind;
        refused = λ kind. absurd kind;
        unlawful = λ is telling none. refl;
        alone = plain-is;
      }
      has-run-ok summary false None stood unshut are over without stop unlawful = record {
        whole = tt;
        told = tt;
        part = λ first begun. part-good first summary (good stored summary refl over without first begun);
        cause = λ is known. absurd (cc is);
        lawful = λ kind. absurd kind;
        refused = λ kind. absurd kind;
        unlawful = λ is telling none. refl;
        alone = plain-is;
      }
      has-run-ok summary false (Some these) stood unshut are over without stop unlawful = record {
        whole = λ first begun. whole-good first summary (good stored summary refl over without first begun) these are stop unshut;
        told = told-at these are stop unshut stood;
        part = λ first begun. part-good first summary (good stored summary refl over without first begun);
        cause = λ is known. absurd (cc is);
        lawful = tt;
        refused = tt;
        unlawful = λ is telling none. absurd (unlawful is telling none);
        alone = plain-is;
      }

      pub has-run : (answer : Result Summary ServeFault) → Stood stand origin ports
          → IfOk answer (λ summary. SaysOver summary) → IfOk answer (λ summary. SaysWithout summary) → OnErr answer EndsOver → OnErr answer EndsWithout → OnOk answer (stopped ≡ true)
          → (IsErrOf answer faults.DiskFault → Rose (disks.faults began) (disks.faults after) × (ports ≡ origin))
          → IfErr answer (λ fault. IsTelling disks began → IsUnserved fault (disks.told began) (disks.told after))
          → IfErr answer (λ fault. IsFileFault fault → IsTelling disks began → (stored ≡ true) × (ports ≡ origin) × Turns KeepsFile (disks.told began) (disks.told after))
          → IfErr answer (λ fault. IsFileFault fault → NoneLawful (disks.told began))
          → (stored ≡ true → IsTelling disks began → NoneLawful (disks.told began) → IsErr answer × (ports ≡ origin))
          → HasRun disks n stored began after (answered answer shut counts)
      has-run (Ok summary) stood over without ended_over ended_without stop cause unopened refused lawful unlawful =
          has-run-ok summary shut counts stood refl refl over without stop (λ is telling none. let u = unlawful is telling none in no-ok summary u.0)
      has-run (Err fault) stood over without ended_over ended_without stop cause unopened refused lawful unlawful = record {
        whole = tt;
        told = tt;
        part = λ first begun. early stored refl ended_over ended_without first begun;
        cause = λ is known. (cause (err-of fault is)).0;
        lawful = lawful;
        refused = λ kind telling. let r = refused kind telling in (r.0, unopened telling, r.2);
        unlawful = λ is telling none. refl;
        alone = plain-is;
      }
