use Rattle.std.proofs.Common.{ℕ, sym, ap, subst, ◌∙◌}
use Rattle.mj_gen.specs.Generating.{Generates}
use Rattle.mj_words.specs.SinkCounts.{counted}
use Rattle.mj_prog.specs.StatusRows.{IsFileRow, IsUnopened, LoadCause}
use Rattle.mj_prog.specs.Statuses.{code_of}
use Rattle.mj_prog.specs.declared.status.Status.{Status}
use Rattle.mj_prog.proofs.LoadLaws.{load-cause, load-file, load-stored, load-unopened, same-code}
use Rattle.mj_prog.proofs.top_call.run_load.Goals as goal

pub returns-clause-gens : goal.returns-clause-gens
returns-clause-gens g c = subst (λ (number : ℕ). Generates g.D.Disk c.args.load.requests c.args.load.stored c.args.disk.now c.generate.new.disk (g.K.Sink.written c.args.out.now) (g.K.Sink.written c.generate.new.out) (counted (g.K.Sink.faults c.args.out.now) (g.K.Sink.wants c.args.out.now)) (counted (g.K.Sink.faults c.generate.new.out) (g.K.Sink.wants c.generate.new.out)) number)
    (same-code c.generate.result ∙ ap code_of (sym c.status_of.ensures)) c.generate.ensures

pub returns-clause-cause : goal.returns-clause-cause
returns-clause-cause g c = subst (λ (status : Status). LoadCause (g.K.Sink.faults c.args.out.now) (g.K.Sink.faults c.generate.new.out) status) (sym c.status_of.ensures)
    (load-cause g.D.Disk c.args.load.requests c.args.load.stored c.args.disk.now c.generate.new.disk (g.K.Sink.written c.args.out.now) (g.K.Sink.written c.generate.new.out) (counted (g.K.Sink.faults c.args.out.now) (g.K.Sink.wants c.args.out.now)) (counted (g.K.Sink.faults c.generate.new.out) (g.K.Sink.wants c.generate.new.out)) c.generate.result c.generate.ensures)

pub returns-clause-file : goal.returns-clause-file
returns-clause-file g c =
    subst (λ (status : Status). IsFileRow (g.D.Disk.told c.args.disk.now) (g.D.Disk.told c.generate.new.disk) (g.K.Sink.written c.args.out.now) (g.K.Sink.written c.generate.new.out) (counted (g.K.Sink.faults c.args.out.now) (g.K.Sink.wants c.args.out.now)) (counted (g.K.Sink.faults c.generate.new.out) (g.K.Sink.wants c.generate.new.out)) status)
    (sym c.status_of.ensures)
    (load-file g.D.Disk c.args.load.requests c.args.load.stored c.args.disk.now c.generate.new.disk (g.K.Sink.written c.args.out.now) (g.K.Sink.written c.generate.new.out) (counted (g.K.Sink.faults c.args.out.now) (g.K.Sink.wants c.args.out.now)) (counted (g.K.Sink.faults c.generate.new.out) (g.K.Sink.wants c.generate.new.out)) c.generate.result c.generate.ensures)

pub returns-clause-refused : goal.returns-clause-refused
returns-clause-refused g c = λ is telling. load-stored g.D.Disk c.args.load.requests c.args.load.stored c.args.disk.now c.generate.new.disk (g.K.Sink.written c.args.out.now) (g.K.Sink.written c.generate.new.out) (counted (g.K.Sink.faults c.args.out.now) (g.K.Sink.wants c.args.out.now)) (counted (g.K.Sink.faults c.generate.new.out) (g.K.Sink.wants c.generate.new.out)) c.generate.result c.generate.ensures (sym c.status_of.ensures ∙ is) telling

pub returns-clause-refuses : goal.returns-clause-refuses
returns-clause-refuses g c = λ stored telling none. subst (λ (status : Status). IsUnopened status) (sym c.status_of.ensures)
    (load-unopened g.D.Disk c.args.load.requests c.args.load.stored c.args.disk.now c.generate.new.disk (g.K.Sink.written c.args.out.now) (g.K.Sink.written c.generate.new.out) (counted (g.K.Sink.faults c.args.out.now) (g.K.Sink.wants c.args.out.now)) (counted (g.K.Sink.faults c.generate.new.out) (g.K.Sink.wants c.generate.new.out)) c.generate.result c.generate.ensures stored telling none)

pub returns-clause-alone : goal.returns-clause-alone
returns-clause-alone g c = λ none. c.generate.ensures.alone none
