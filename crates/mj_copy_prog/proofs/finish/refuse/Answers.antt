use Rattle.std.proofs.Common.{List, ℕ, [], inl, refl, subst, ◌∙◌, arith}
use Rattle.std.proofs.KnownBytes.{Appends-nil}
use Rattle.mj_words.specs.Lines.{AppendsLine}
use Rattle.mj_words.specs.SinkCounts.{counted}
use Rattle.mj_copy_prog.proofs.finish.refuse.Goals as goal

pub returns-in-Ok : goal.returns-in-Ok
returns-in-Ok g c = inl (
  refl,
  subst (λ (line : List ℕ). AppendsLine (g.K.Sink.written c.args.out.now) (g.K.Sink.written c.complain.new.out) (counted (g.K.Sink.faults c.args.out.now) (g.K.Sink.wants c.args.out.now)) (counted (g.K.Sink.faults c.complain.new.out) (g.K.Sink.wants c.complain.new.out)) [] line)
      (c.as_bytes.ensures.value ∙ c.in-Ok.ensures) (c.complain.ensures (g.K.Sink.written c.args.out.now) [] _ (record { faults = omega arith; wants = omega arith }) (Appends-nil (g.K.Sink.written c.args.out.now))),
)
