use Rattle.std.proofs.Common.{List, ℕ, subst}
use Rattle.mj_base.specs.declared.event.Out.TheVariants as outs
use Rattle.mj_prog.specs.Standing.{AddsOut}
use Rattle.mj_prog.proofs.Standing.{stands-given}
use Rattle.mj_prog.proofs.script_ports.ScriptPortsPorts.put.Goals as goal

pub returns-clause-takes : goal.returns-clause-takes
returns-clause-takes g c = λ origin taken given stood.
    let call = c.print_piece-self in
    let adds = subst (λ (piece : List ℕ). AddsOut (g.K.Sink.written c.args.self.now.sink.now) (g.K.Sink.written call.new.out) c.args.self.now.wrote call.result (outs.Piece c.args.lane piece)) c.as_slice.ensures call.ensures.prints in
    stands-given _ _ _ _ _ _ _ _ _ _ _ _ _ _ _ adds call.ensures.later call.ensures.cause stood
