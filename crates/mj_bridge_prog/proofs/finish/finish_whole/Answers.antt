use Rattle.std.proofs.Common.{◌∙◌, inr}
use Rattle.std.proofs.KnownBytes.{Appends-nil}
use Rattle.mj_bridge_prog.proofs.finish.finish_whole.Goals as goal

pub returns-in-Ok : goal.returns-in-Ok
returns-in-Ok g c = λ first old now before later came. c.print_ending.ensures first old now before later (c.as_bytes.ensures.value ∙ c.in-Ok.ensures) came

pub returns-in-Err : goal.returns-in-Err
returns-in-Err g c = λ first old now before later came. inr (c.args.ending, came, Appends-nil (g.K.Sink.written c.args.out.now))
