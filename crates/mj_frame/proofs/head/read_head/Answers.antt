use Rattle.std.proofs.Common.{◌≡◌, ◌↔◌, sym, subst, arith}
use Rattle.mj_frame.specs.declared.head.HeadAnswer.{HeadAnswer}
use Rattle.mj_frame.specs.declared.head.HeadAnswer.TheVariants as answers
use Rattle.mj_frame.specs.FrameSpelling.{IsBytes, StartsHead, StartsWrong}
use Rattle.mj_frame.proofs.HeadLemmas.{Reads, found_is_spelled, short_exactly, bad_exactly}
use Rattle.mj_frame.proofs.head.read_head.Goals as goal

pub returns-clause-found : goal.returns-clause-found
returns-clause-found c =
    let bytes : IsBytes c.args.octets.now = λ i. omega (arith, c.type_inv.octets i) in
    subst (λ (a : HeadAnswer). Reads c.args.octets.now a) (sym c.answer_of.ensures) (found_is_spelled c.args.octets.now bytes)

pub returns-clause-short : goal.returns-clause-short
returns-clause-short c =
    let bytes : IsBytes c.args.octets.now = λ i. omega (arith, c.type_inv.octets i) in
    subst (λ (a : HeadAnswer). (a ≡ answers.Short) ↔ StartsHead c.args.octets.now) (sym c.answer_of.ensures) (short_exactly c.args.octets.now bytes)

pub returns-clause-bad_flags : goal.returns-clause-bad_flags
returns-clause-bad_flags c =
    subst (λ (a : HeadAnswer). (a ≡ answers.BadFlags) ↔ StartsWrong c.args.octets.now) (sym c.answer_of.ensures) (bad_exactly c.args.octets.now)
