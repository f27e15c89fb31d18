use Rattle.std.proofs.Common.{ℕ, List, [], inl, subst, ◌∙◌, arith}
use Rattle.std.proofs.KnownBytes.{Appends-nil}
use Rattle.mj_words.specs.Lines.{AppendsLine}
use Rattle.mj_words.specs.SinkCounts.{counted}
use Rattle.mj_gen.proofs.finishing.refuse.Goals as goal

pub returns-in-Ok : goal.returns-in-Ok
returns-in-Ok g c =
    let before = counted (g.K.Sink.faults c.args.out.now) (g.K.Sink.wants c.args.out.now) in
    let now = counted (g.K.Sink.faults c.complain.new.out) (g.K.Sink.wants c.complain.new.out) in
    let old = g.K.Sink.written c.args.out.now in
    inl (c.status_of.ensures, subst (λ (line : List ℕ). AppendsLine old (g.K.Sink.written c.complain.new.out) before now [] line) (c.as_bytes.ensures.value ∙ c.in-Ok.ensures) (c.complain.ensures old [] before (record { faults = omega arith; wants = omega arith }) (Appends-nil old)))
