use Rattle.std.proofs.Common.{List, ℕ, [], subst, inl, refl, ◌∙◌, arith}
use Rattle.std.proofs.KnownBytes.{Appends-nil}
use Rattle.mj_words.specs.Lines.{AppendsLine}
use Rattle.mj_words.specs.SinkCounts.{counted}
use Rattle.mj_prog.proofs.Rows.{row-store}
use Rattle.mj_prog.proofs.finish.refuse_store.Goals as goal

pub returns-in-Ok-clause-row : goal.returns-in-Ok-clause-row
returns-in-Ok-clause-row g c = λ lanes first made before from left written events later halted.
    row-store lanes first made from written (g.K.Sink.written c.args.out.now) (g.K.Sink.written c.complain.new.out) before (counted (g.K.Sink.faults c.complain.new.out) (g.K.Sink.wants c.complain.new.out)) c.args.fault halted
    (λ bytes added. subst (λ (line : List ℕ). AppendsLine written (g.K.Sink.written c.complain.new.out) before (counted (g.K.Sink.faults c.complain.new.out) (g.K.Sink.wants c.complain.new.out)) bytes line)
    (c.as_bytes.ensures.value ∙ c.in-Ok.ensures) (c.complain.ensures written bytes before later added))

pub returns-in-Err-clause-row : goal.returns-in-Err-clause-row
returns-in-Err-clause-row g c = λ lanes first made before from left written events later halted. halted

pub returns-in-Ok-clause-store : goal.returns-in-Ok-clause-store
returns-in-Ok-clause-store g c = λ is.
    subst (λ (line : List ℕ). AppendsLine (g.K.Sink.written c.args.out.now) (g.K.Sink.written c.complain.new.out) (counted (g.K.Sink.faults c.args.out.now) (g.K.Sink.wants c.args.out.now)) (counted (g.K.Sink.faults c.complain.new.out) (g.K.Sink.wants c.complain.new.out)) [] line)
    (c.as_bytes.ensures.value ∙ c.in-Ok.ensures) (c.complain.ensures (g.K.Sink.written c.args.out.now) [] _ (record { faults = omega arith; wants = omega arith }) (Appends-nil (g.K.Sink.written c.args.out.now)))

pub returns-in-Ok-clause-refuses : goal.returns-in-Ok-clause-refuses
returns-in-Ok-clause-refuses g c = inl (refl, returns-in-Ok-clause-store g c refl)
