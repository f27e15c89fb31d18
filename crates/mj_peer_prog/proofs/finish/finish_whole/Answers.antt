use Rattle.std.proofs.Common.{◌∙◌}
use Rattle.mj_peer_prog.specs.StatusRows.{in_setting}
use Rattle.mj_peer_prog.proofs.FinishLemmas.{row-unmade}
use Rattle.mj_peer_prog.proofs.finish.finish_whole.Goals as goal

pub returns-in-Ok : goal.returns-in-Ok
returns-in-Ok g c = λ task t later came. c.print_ending.ensures task t (c.as_bytes.ensures.value ∙ c.in-Ok.ensures) later came

pub returns-in-Err : goal.returns-in-Err
returns-in-Err g c = λ task t later came. row-unmade task (in_setting t (g.K.Sink.written c.args.out.now) (g.K.Sink.faults c.args.out.now) (g.K.Sink.wants c.args.out.now)) c.args.ending came
