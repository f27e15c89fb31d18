use Rattle.std.proofs.Common.{Result, ℕ, subst}
use Rattle.std.specs.Prelude.{MatchResult}
use Rattle.mj_show.specs.ShowingSoFar.{HaltCause, IsHalted, IsWhole}
use Rattle.mj_show.specs.declared.halt.Halt.{Halt}
use Rattle.mj_show.proofs.showing.finish.Goals as goal

pub returns-in-Ok : goal.returns-in-Ok
returns-in-Ok g c = λ from left old reads_before reads_now before later ended.
    c.finish_whole.ensures from left old reads_before reads_now before later
    (subst (λ (r : Result ℕ Halt). MatchResult r (IsWhole from old (g.K.Sink.written c.args.out.now)) (λ halt. IsHalted halt from left old (g.K.Sink.written c.args.out.now) × HaltCause halt reads_before reads_now before.faults (g.K.Sink.faults c.args.out.now))) c.in-Ok.is ended)

pub returns-in-Err : goal.returns-in-Err
returns-in-Err g c = λ from left old reads_before reads_now before later ended.
    let h = subst (λ (r : Result ℕ Halt). MatchResult r (IsWhole from old (g.K.Sink.written c.args.out.now)) (λ halt. IsHalted halt from left old (g.K.Sink.written c.args.out.now) × HaltCause halt reads_before reads_now before.faults (g.K.Sink.faults c.args.out.now))) c.in-Err.is ended in
    c.break_off.ensures from left old reads_before reads_now before later h.0 h.1
