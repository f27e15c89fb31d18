use Rattle.std.proofs.Common.{ℕ, List, [], subst}
use Rattle.mj_words.specs.Lines.{AppendsLine}
use Rattle.mj_prog.specs.Running.{fault_counts}
use Rattle.mj_prog.specs.Shown.{fault_disk, store_line}
use Rattle.mj_words.specs.SinkCounts.{counted}
use Rattle.mj_prog.proofs.StatusLaws.{file-by}
use Rattle.mj_prog.proofs.top_call.replay.Goals as goal

pub returns-clause-row : goal.returns-clause-row
returns-clause-row g c = λ first begins.
    let ran = c.run_script-run.ensures.ran first begins in
    (ran.0, ran.1, c.finish.ensures.row c.args.options.lanes first ran.0 (counted (g.K.Sink.faults c.args.out.now) (g.K.Sink.wants c.args.out.now)) (g.S.Source.left c.args.src.now) (g.S.Source.left c.run_script-run.new.src) (g.K.Sink.written c.args.out.now) c.run_script-run.ensures.later ran.2)

pub returns-clause-cause : goal.returns-clause-cause
returns-clause-cause g c =
    c.finish.ensures.cause (fault_counts (g.D.Disk.faults c.args.disk.now) (g.D.Disk.faults c.run_script-run.new.disk) (g.S.Source.faults c.args.src.now) (g.S.Source.faults c.run_script-run.new.src) (g.K.Sink.faults c.args.out.now))
    c.run_script-run.ensures.later.faults c.run_script-run.ensures.cause

pub returns-clause-file : goal.returns-clause-file
returns-clause-file g c =
    let Line = λ (line : List ℕ) (out : _). AppendsLine (g.K.Sink.written out) (g.K.Sink.written c.finish.new.out) (counted (g.K.Sink.faults out) (g.K.Sink.wants out)) (counted (g.K.Sink.faults c.finish.new.out) (g.K.Sink.wants c.finish.new.out)) [] line in
    file-by (g.D.Disk.told c.args.disk.now) (g.D.Disk.told c.run_script-run.new.disk) (g.K.Sink.written c.args.out.now) (g.K.Sink.written c.finish.new.out) (counted (g.K.Sink.faults c.args.out.now) (g.K.Sink.wants c.args.out.now)) (counted (g.K.Sink.faults c.finish.new.out) (g.K.Sink.wants c.finish.new.out)) c.finish.result
    (λ is history tells.
    let store = c.finish.ensures.store is in
    let refused = c.run_script-run.ensures.refused store.0 store.1 (history, tells) in
    (store.0, refused.3, subst (Line (store_line store.0)) refused.2 store.2))
    (λ is.
    let disk = c.finish.ensures.disk is in
    subst (Line fault_disk) (c.run_script-run.ensures.untouched disk.0).1 disk.1)

pub returns-clause-opening : goal.returns-clause-opening
returns-clause-opening g c = λ is. (c.run_script-run.ensures.untouched (c.finish.ensures.disk is).0).0

pub returns-clause-refused : goal.returns-clause-refused
returns-clause-refused g c = λ is telling.
    let store = c.finish.ensures.store is in
    let refused = c.run_script-run.ensures.refused store.0 store.1 telling in
    (refused.0, refused.1)

pub returns-clause-refuses : goal.returns-clause-refuses
returns-clause-refuses g c = λ stored telling none.
    let unlawful = c.run_script-run.ensures.unlawful stored telling none in
    (unlawful.1, c.finish.ensures.untaken unlawful.0)
