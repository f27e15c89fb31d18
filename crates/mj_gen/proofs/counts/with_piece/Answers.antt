use Rattle.mj_gen.proofs.Tallies.{piece_if}
use Rattle.mj_gen.proofs.counts.with_piece.Goals as goal

pub returns-in-Some : goal.returns-in-Some
returns-in-Some c = λ taken given lane piece size was. piece_if c.args.counts c.in-Some.counts c.args.size c.plus_piece.result c.in-Some.is c.plus_piece.ensures taken given lane piece size was
