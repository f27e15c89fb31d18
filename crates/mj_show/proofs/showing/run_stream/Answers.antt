use Rattle.std.proofs.lemmas.Result.{err_from_is_err_and}
use Rattle.mj_show.proofs.TableLemmas.{halted-at-once}
use Rattle.mj_show.proofs.showing.run_stream.Goals as goal

pub returns-in_err-wire-clause-halted : goal.returns-in_err-wire-clause-halted
returns-in_err-wire-clause-halted g c =
    let p = err_from_is_err_and c.from_residual.result c.from_residual.ensures.1 in
    rw p.1 (halted-at-once p.0 (g.S.Source.left c.args.src.now) (g.K.Sink.written c.args.out.now) p.2)

pub returns-in_err-buffer-clause-halted : goal.returns-in_err-buffer-clause-halted
returns-in_err-buffer-clause-halted g c =
    let p = err_from_is_err_and c.from_residual-in_err-buffer.result c.from_residual-in_err-buffer.ensures.1 in
    rw p.1 (halted-at-once p.0 (g.S.Source.left c.args.src.now) (g.K.Sink.written c.args.out.now) p.2)
