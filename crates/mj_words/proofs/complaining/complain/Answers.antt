use Rattle.mj_words.proofs.LineLemmas.{line-behind}
use Rattle.mj_words.proofs.complaining.complain.Goals as goal

pub returns : goal.returns
returns g c = λ written bytes before first added.
    line-behind written _ _ before _ _ bytes c.args.line.now c.write.result first added c.write.ensures.octets c.write.ensures.cause c.write.ensures.want
