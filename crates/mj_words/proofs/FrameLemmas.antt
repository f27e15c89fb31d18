-- The frames of a body, one by one.
use Rattle.std.proofs.Common.{◌≡◌, ℕ, ◌+◌, ◌≤◌, List, [], drop, length, sym, ap, ◌∙◌, arith}
use Rattle.std.proofs.lemmas.List.{length-drop}
use Rattle.std.proofs.Math.ListN.{drop_of_length-le}

pub nothing-behind : (body : List (List ℕ)) (i : ℕ) → drop i body ≡ [] → drop (i + 1) body ≡ drop i body
nothing-behind body i e =
    let gone : length (drop i body) ≡ 0 = ap length e in
    let long : length body ≤ i + 1 = (let l = length-drop i body in omega (arith, l, gone)) in
    drop_of_length-le body long ∙ sym e
