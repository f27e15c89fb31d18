use Rattle.mj_gen.proofs.Tallies.{end_if}
use Rattle.mj_gen.proofs.counts.with_end.Goals as goal

pub returns-in-Some : goal.returns-in-Some
returns-in-Some c = λ taken given lane reason at was. end_if c.args.counts c.in-Some.counts c.plus_end.result c.in-Some.is c.plus_end.ensures taken given lane reason at was
