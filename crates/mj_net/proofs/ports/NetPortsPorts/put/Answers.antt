use Rattle.std.proofs.Common.{refl}
use Rattle.mj_base.specs.declared.event.Out.TheVariants as outs
use Rattle.mj_net.proofs.Passing.{stands-gave}
use Rattle.mj_net.proofs.ports.NetPortsPorts.put.Goals as goal

pub returns-clause-takes : goal.returns-clause-takes
returns-clause-takes g c = λ origin taken given stands.
    stands-gave origin c.args.self.now c.put_piece.new.self (outs.Piece c.args.lane c.args.piece) _ taken given refl c.put_piece.ensures.puts stands
