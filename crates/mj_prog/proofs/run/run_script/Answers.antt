use Rattle.std.proofs.Common.{ℕ, List, ◌≡◌, ◌+◌, ◌≤◌, Result, IfErr, refl, sym, ap, subst, ◌∙◌}
use Rattle.mj_base.specs.declared.event.Event.{Event}
use Rattle.mj_serve.specs.Faults.{IsFileFault, IsUnserved}
use Rattle.mj_serve.specs.Given.{Entry}
use Rattle.mj_serve.specs.declared.fault.ServeFault.{ServeFault}
use Rattle.mj_serve.specs.declared.summary.Summary.{Summary}
use Rattle.mj_store.specs.Opening.{NoneLawful}
use Rattle.mj_store.specs.Standing.{IsTelling}
use Rattle.mj_prog.specs.Made.{IsRun, Made}
use Rattle.mj_prog.specs.Reads.{ReadsNoFurther}
use Rattle.mj_prog.specs.Running.{HaltCause, IsHalted, IsUntaken, events_of, fault_counts, halt_by}
use Rattle.mj_words.specs.SinkCounts.{AreLater, counted}
use Rattle.mj_prog.specs.Standing.{Stands, sink_seen, source_seen}
use Rattle.mj_prog.specs.declared.halt.Halt.{Halt}
use Rattle.mj_prog.proofs.Runs.{cause-of, disk-halt, fault-of, ran-all, store-halt, untaken}
use Rattle.mj_prog.proofs.Standing.{stands-fresh}
use Rattle.mj_prog.proofs.run.run_script.Given as given
use Rattle.mj_prog.proofs.run.run_script.Goals as goal

-- what the ports stand for at the end
stood : (g : given.Over) (c : goal.After-events_of g)
    → (taken : List Event) × (entries : List Entry) × Stands (c.ports-2-1.given, c.ports-3-1.given) (c.serve-answer.new.ports.source.ghost_name, c.serve-answer.new.ports.sink.ghost_name)
    (source_seen (g.S.Source.left c.args.src.now) (g.S.Source.last c.args.src.now) (g.S.Source.misses c.args.src.now) (g.S.Source.faults c.args.src.now))
    (source_seen (g.S.Source.left c.serve-answer.new.ports.source.now) (g.S.Source.last c.serve-answer.new.ports.source.now) (g.S.Source.misses c.serve-answer.new.ports.source.now) (g.S.Source.faults c.serve-answer.new.ports.source.now))
    (sink_seen (g.K.Sink.written c.args.out.now) (counted (g.K.Sink.faults c.args.out.now) (g.K.Sink.wants c.args.out.now)))
    (sink_seen (g.K.Sink.written c.serve-answer.new.ports.sink.now) (counted (g.K.Sink.faults c.serve-answer.new.ports.sink.now) (g.K.Sink.wants c.serve-answer.new.ports.sink.now)))
    c.args.progress.now c.serve-answer.new.ports.progress.now c.serve-answer.new.ports.stage c.serve-answer.new.ports.wrote taken entries
stood g c = c.serve-answer.ensures.stood (stands-fresh _ _ _ c.args.progress.now c.requires.fresh)

source-is : (g : given.Over) (c : goal.After-events_of g) → c.serve-answer.new.ports.source.now ≡ c.src-1.given.0
source-is g c = sym (c.src-1.given.1 (sym (ap (λ (names : ℕ × ℕ). names.0) (stood g c).2.same)))

sink-is : (g : given.Over) (c : goal.After-events_of g) → c.serve-answer.new.ports.sink.now ≡ c.out-1.given.0
sink-is g c = sym (c.out-1.given.1 (sym (ap (λ (names : ℕ × ℕ). names.1) (stood g c).2.same)))

pub returns-clause-ran : goal.returns-clause-ran
returns-clause-ran g c = λ first begins.
    let e = c.serve-answer.ensures in
    let ran = ran-all (λ (origin : _) (now : _) (taken : List Event) (given : List Entry). Stands (origin.source.ghost_name, origin.sink.ghost_name) (now.source.ghost_name, now.sink.ghost_name) (source_seen (g.S.Source.left origin.source.now) (g.S.Source.last origin.source.now) (g.S.Source.misses origin.source.now) (g.S.Source.faults origin.source.now)) (source_seen (g.S.Source.left now.source.now) (g.S.Source.last now.source.now) (g.S.Source.misses now.source.now) (g.S.Source.faults now.source.now)) (sink_seen (g.K.Sink.written origin.sink.now) (counted (g.K.Sink.faults origin.sink.now) (g.K.Sink.wants origin.sink.now))) (sink_seen (g.K.Sink.written now.sink.now) (counted (g.K.Sink.faults now.sink.now) (g.K.Sink.wants now.sink.now))) origin.progress.now now.progress.now now.stage now.wrote taken given) g.D.Disk _ c.serve-answer.new.ports c.args.disk.now c.serve-answer.new.disk _ _ _ _ _ _ _ _ _ _ (λ taken given stands. stands)
    c.standard.result c.standard.ensures (stands-fresh _ _ _ c.args.progress.now c.requires.fresh) c.args.options.stored c.args.options.seed c.serve-answer.result e.served e.served_without e.ended e.ended_without e.stopped e.plain first begins in
    let Row = λ (left : _) (written : _) (events : ℕ) (halt : Halt). (made : Made) × IsRun g.D.Disk c.args.disk.now c.serve-answer.new.disk first made × IsHalted c.args.progress.now.lanes first made (g.S.Source.left c.args.src.now) left (g.K.Sink.written c.args.out.now) written events halt in
    subst (λ (halt : Halt). Row (g.S.Source.left c.src-1.given.0) (g.K.Sink.written c.out-1.given.0) c.events_of.result halt) (sym c.halt_of.ensures)
    (subst (λ (events : ℕ). Row (g.S.Source.left c.src-1.given.0) (g.K.Sink.written c.out-1.given.0) events (halt_by c.serve-answer.result c.serve-answer.new.ports.stage c.serve-answer.new.ports.wrote)) (sym c.events_of.ensures)
    (subst (λ (src : _). Row (g.S.Source.left src) (g.K.Sink.written c.out-1.given.0) (events_of c.serve-answer.result) (halt_by c.serve-answer.result c.serve-answer.new.ports.stage c.serve-answer.new.ports.wrote)) (source-is g c)
    (subst (λ (out : _). Row (g.S.Source.left c.serve-answer.new.ports.source.now) (g.K.Sink.written out) (events_of c.serve-answer.result) (halt_by c.serve-answer.result c.serve-answer.new.ports.stage c.serve-answer.new.ports.wrote)) (sink-is g c) ran)))

pub returns-clause-later : goal.returns-clause-later
returns-clause-later g c =
    subst (λ (out : _). AreLater (counted (g.K.Sink.faults c.args.out.now) (g.K.Sink.wants c.args.out.now)) (counted (g.K.Sink.faults out) (g.K.Sink.wants out))) (sink-is g c) (stood g c).2.printed.later

pub returns-clause-no_further : goal.returns-clause-no_further
returns-clause-no_further g c =
    subst (λ (src : _). ReadsNoFurther c.args.progress.now.lanes (g.S.Source.left c.args.src.now) (g.S.Source.last c.args.src.now) (g.S.Source.last src)) (source-is g c) (stood g c).2.read.no_further

pub returns-clause-misses : goal.returns-clause-misses
returns-clause-misses g c = subst (λ (src : _). g.S.Source.misses src ≤ g.S.Source.misses c.args.src.now + 1) (source-is g c) (stood g c).2.read.misses.most

pub returns-clause-cause : goal.returns-clause-cause
returns-clause-cause g c =
    let s = (stood g c).2 in
    let counts = fault_counts (g.D.Disk.faults c.args.disk.now) (g.D.Disk.faults c.serve-answer.new.disk) (g.S.Source.faults c.args.src.now) (g.S.Source.faults c.src-1.given.0) (g.K.Sink.faults c.args.out.now) in
    subst (λ (halt : Halt). HaltCause counts (g.K.Sink.faults c.out-1.given.0) halt) (sym c.halt_of.ensures)
    (subst (λ (out : _). HaltCause counts (g.K.Sink.faults out) (halt_by c.serve-answer.result c.serve-answer.new.ports.stage c.serve-answer.new.ports.wrote)) (sink-is g c)
    (cause-of _ _ _ _ _ _ _ _ _ _ s.read s.printed counts (refl, ap (λ (src : _). g.S.Source.faults src) (sym (source-is g c))) refl c.serve-answer.result c.serve-answer.new.ports.wrote refl (λ is. (c.serve-answer.ensures.cause is).0)))

pub returns-clause-untouched : goal.returns-clause-untouched
returns-clause-untouched g c = λ is.
    let same = (c.serve-answer.ensures.cause (disk-halt c.serve-answer.result c.serve-answer.new.ports.stage c.serve-answer.new.ports.wrote (sym is ∙ c.halt_of.ensures))).1 in
    (sym (source-is g c) ∙ ap (λ (p : _). p.source.now) same, sym (sink-is g c) ∙ ap (λ (p : _). p.sink.now) same)

pub returns-clause-refused : goal.returns-clause-refused
returns-clause-refused g c = λ fault is telling.
    let e = c.serve-answer.ensures in
    let at = store-halt fault c.serve-answer.result c.serve-answer.new.ports.stage c.serve-answer.new.ports.wrote (sym is ∙ c.halt_of.ensures) in
    let refused = fault-of _ c.serve-answer.result at.0 at.1 e.refused at.3 telling in
    let lawful = subst (λ (r : Result Summary ServeFault). IfErr r (λ f. IsFileFault f → NoneLawful (g.D.Disk.told c.args.disk.now))) at.1 e.lawful at.3 in
    let why = subst (λ (r : Result Summary ServeFault). IfErr r (λ f. IsTelling g.D.Disk c.args.disk.now → IsUnserved f (g.D.Disk.told c.args.disk.now) (g.D.Disk.told c.serve-answer.new.disk))) at.1 e.unopened telling in (
      refused.0,
      sym (source-is g c) ∙ ap (λ (p : _). p.source.now) refused.1,
      sym (sink-is g c) ∙ ap (λ (p : _). p.sink.now) refused.1,
      record {
        why = subst (λ (f : ServeFault). IsUnserved f (g.D.Disk.told c.args.disk.now) (g.D.Disk.told c.serve-answer.new.disk)) at.2 why;
        unlawful = lawful;
        kept = refused.2;
      },
    )

pub returns-clause-unlawful : goal.returns-clause-unlawful
returns-clause-unlawful g c = λ stored telling none.
    let unlawful = c.serve-answer.ensures.unlawful stored telling none in
    (subst IsUntaken (sym c.halt_of.ensures) (untaken c.serve-answer.result c.serve-answer.new.ports.stage c.serve-answer.new.ports.wrote unlawful.0 (ap (λ (p : _). p.wrote) unlawful.1)), sym (source-is g c) ∙ ap (λ (p : _). p.source.now) unlawful.1, sym (sink-is g c) ∙ ap (λ (p : _). p.sink.now) unlawful.1)
