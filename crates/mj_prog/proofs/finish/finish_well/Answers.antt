use Rattle.std.proofs.Common.{List, ℕ, subst, sym, ◌∙◌}
use Rattle.mj_base.specs.Writing.{WriteAdds}
use Rattle.mj_prog.specs.declared.status.Status.{Status}
use Rattle.mj_prog.specs.StatusRows.{PrintsDone}
use Rattle.mj_prog.proofs.Rows.{done-cause, prints-done, row-done, row-unprinted}
use Rattle.mj_prog.proofs.finish.finish_well.Goals as goal

pub returns-in-Ok-clause-prints : goal.returns-in-Ok-clause-prints
returns-in-Ok-clause-prints g c =
    subst (λ (s : Status). PrintsDone c.args.events (g.K.Sink.written c.args.out.now) (g.K.Sink.written c.write.new.self) (g.K.Sink.faults c.args.out.now) (g.K.Sink.faults c.write.new.self) s) (sym c.status_of.ensures.after)
    (prints-done c.args.events (g.K.Sink.faults c.args.out.now) (g.K.Sink.faults c.write.new.self) (g.K.Sink.written c.args.out.now) (g.K.Sink.written c.write.new.self) c.write.result
    (subst (λ (line : List ℕ). WriteAdds (g.K.Sink.written c.args.out.now) (g.K.Sink.written c.write.new.self) c.write.result line) (c.as_bytes.ensures.value ∙ c.in-Ok.ensures) c.write.ensures.octets) c.write.ensures.cause)

pub returns-in-Ok-clause-row : goal.returns-in-Ok-clause-row
returns-in-Ok-clause-row g c = λ lanes first made before from left written later halted.
    row-done lanes first made before _ _ _ from left written (g.K.Sink.written c.args.out.now) _ c.args.events _ halted (returns-in-Ok-clause-prints g c)

pub returns-in-Ok-clause-cause : goal.returns-in-Ok-clause-cause
returns-in-Ok-clause-cause g c = λ counts first cause. done-cause counts c.args.events _ _ (g.K.Sink.written c.args.out.now) _ _ first (returns-in-Ok-clause-prints g c)

pub returns-in-Err-clause-row : goal.returns-in-Err-clause-row
returns-in-Err-clause-row g c = λ lanes first made before from left written later halted.
    row-unprinted lanes first made from left written (g.K.Sink.written c.args.out.now) c.args.events halted
