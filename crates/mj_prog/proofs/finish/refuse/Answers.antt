use Rattle.std.proofs.Common.{List, ℕ, subst, ◌∙◌}
use Rattle.mj_prog.specs.Made.{printed}
use Rattle.mj_words.specs.Lines.{AppendsLine}
use Rattle.mj_words.specs.SinkCounts.{counted}
use Rattle.mj_prog.proofs.Rows.{row-unmade}
use Rattle.mj_prog.proofs.finish.refuse.Goals as goal

pub returns-in-Ok-clause-row : goal.returns-in-Ok-clause-row
returns-in-Ok-clause-row g c = λ lanes first made before from left written events later halted. (
  halted.0,
  c.args.number,
  halted.1,
  halted.2,
  halted.3,
  subst (λ (line : List ℕ). AppendsLine written (g.K.Sink.written c.complain.new.out) before (counted (g.K.Sink.faults c.complain.new.out) (g.K.Sink.wants c.complain.new.out)) (printed first made) line)
      (c.as_bytes.ensures.value ∙ c.in-Ok.ensures) (c.complain.ensures written (printed first made) before later halted.4),
)

pub returns-in-Err-clause-row : goal.returns-in-Err-clause-row
returns-in-Err-clause-row g c = λ lanes first made before from left written events later halted.
    row-unmade lanes first made from left written (g.K.Sink.written c.args.out.now) events c.args.number halted
