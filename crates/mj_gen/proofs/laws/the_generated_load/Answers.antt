use Rattle.std.proofs.Common.{◌≡◌, [], ◌∷◌, refl, arith}
use Rattle.std.proofs.lemmas.Fmt.{decimal_digit}
use Rattle.std.specs.Fmt.{decimal}
use Rattle.mj_gen.proofs.laws.the_generated_load.Goals as goal

pub returns-clause-one : goal.returns-clause-one
returns-clause-one c = let d0 : decimal 0 ≡ 48 ∷ [] = decimal_digit 0 (omega arith) in rw d0 refl

pub returns-clause-stored : goal.returns-clause-stored
returns-clause-stored c =
    let d0 : decimal 0 ≡ 48 ∷ [] = decimal_digit 0 (omega arith) in
    let d1 : decimal 1 ≡ 49 ∷ [] = decimal_digit 1 (omega arith) in
    rw d0 (rw d1 refl)
