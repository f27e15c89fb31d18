use Rattle.std.proofs.Common.{◌≡◌, ◌==◌, false, ℕ, ◌+◌, List, ◌++◌, length, take, drop, sym, ap, ◌∙◌, arith}
use Rattle.std.proofs.lemmas.List.{take-append-drop, drop-drop}
use Rattle.std.proofs.lemmas.Bool.Decides.{nat_tests}
use Rattle.mj_base.proofs.memory_source.MemorySourceSource.read.Goals as goal

-- what a read takes stands in front of what is left
taken_then_left : (octets into : List ℕ) (at count : ℕ) → take count into ≡ take count (drop at octets) → drop at octets ≡ take count into ++ drop (at + count) octets
taken_then_left octets into at count copied =
    sym (take-append-drop count (drop at octets)) ∙ ap (λ (xs : List ℕ). xs ++ drop count (drop at octets)) (sym copied) ∙ ap (λ (xs : List ℕ). take count into ++ xs) (drop-drop count at octets)

pub returns-clause-octets : goal.returns-clause-octets
returns-clause-octets c =
    let rest : c.split_at.result.1.now ≡ drop c.args.self.now.at c.args.self.now.octets = cc in
    let copied : take c.copy_front-count.result c.copy_front-count.new.into ≡ take c.copy_front-count.result (drop c.args.self.now.at c.args.self.now.octets) = cc in
    let some : false ≡ length c.split_at.result.1.now == 0 = cc in
    (grind (arith, nat_tests), grind (arith, nat_tests), taken_then_left _ _ _ _ copied)
