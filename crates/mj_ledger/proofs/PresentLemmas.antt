-- The addresses of connections that aren't gone, as one is taken out.
use Rattle.std.proofs.Common.{◌≡◌, ℕ, Bool, true, false, cond, not, List, [], ◌∷◌, refl, sym, ap, ◌∙◌}
use mathlib.Core.Bool.{◌&&◌, ◌||◌}
use Rattle.std.specs.Cmp.Lexicographic.{nat_list_eq_equiv}
use Rattle.std.specs.List.{filter, list_any}
use Rattle.std.specs.Str.{bytes_eq}
use Rattle.mj_ledger.proofs.LawLemmas.{bytes-same}

taken : (b some : Bool) → (some && not b) ≡ ((b || some) && not b)
taken true true = refl
taken true false = refl
taken false some = refl

spared : (a b some : Bool) → (a ≡ true → b ≡ false) → (a || (some && not b)) ≡ ((a || some) && not b)
spared true b some apart = sym (ap not (apart refl))
spared false b some apart = refl

without-step : (q who x : List ℕ) (some rest b : Bool) → bytes_eq x who ≡ b → rest ≡ (some && not (bytes_eq who q)) → cond (not b) (bytes_eq q x || rest) rest ≡ ((bytes_eq q x || some) && not (bytes_eq who q))
without-step q who x some rest true same is =
    let swap : bytes_eq q x ≡ bytes_eq who q = ap (bytes_eq q) (bytes-same x who same) ∙ nat_list_eq_equiv.symm q who in
    is ∙ taken (bytes_eq who q) some ∙ ap (λ (b : Bool). (b || some) && not (bytes_eq who q)) (sym swap)
without-step q who x some rest false other is =
    ap (λ (b : Bool). bytes_eq q x || b) is
    ∙ spared (bytes_eq q x) (bytes_eq who q) some (λ same. ap (bytes_eq who) (bytes-same q x same) ∙ nat_list_eq_equiv.symm who x ∙ other)

any-cond : (q : List ℕ) (b : Bool) (x : List ℕ) (xs : List (List ℕ)) → list_any (bytes_eq q) (cond b (x ∷ xs) xs) ≡ cond b (bytes_eq q x || list_any (bytes_eq q) xs) (list_any (bytes_eq q) xs)
any-cond q true x xs = refl
any-cond q false x xs = refl

pub without : (q who : List ℕ) (xs : List (List ℕ)) → list_any (bytes_eq q) (filter (λ x. not (bytes_eq x who)) xs) ≡ (list_any (bytes_eq q) xs && not (bytes_eq who q))
without q who [] = refl
without q who (x ∷ xs) =
    any-cond q (not (bytes_eq x who)) x (filter (λ y. not (bytes_eq y who)) xs)
    ∙ without-step q who x (list_any (bytes_eq q) xs) (list_any (bytes_eq q) (filter (λ y. not (bytes_eq y who)) xs)) (bytes_eq x who) refl (without q who xs)
