-- Weights, counted down from the most that is allowed.
use Rattle.std.proofs.Common.{◌≡◌, ℕ, zero, suc, ◌+◌, ◌<◌, ◌≤◌, true, false, cond, nat_le, List, [], ◌∷◌, length, get_or, drop, refl, arith}
use Rattle.std.specs.List.{filter, sum_by}
use Rattle.std.proofs.lemmas.List.Sums.{sum_by-cons}
use Rattle.mj_queue.specs.declared.request.Request.{Request}
use Rattle.mj_base.specs.KeptWeight.{weight_of}
use Rattle.mj_queue.specs.Settling.{is_of_client, queued_weight}

pub queued_weight-cons : (r : Request) (rs : List Request) → queued_weight (r ∷ rs) ≡ cond (is_of_client r.origin) (weight_of r.body) 0 + queued_weight rs
queued_weight-cons r rs =
    elim (is_of_client r.origin) as (λ b. sum_by (λ (q : Request). weight_of q.body) (cond b (r ∷ filter (λ q. is_of_client q.origin) rs) (filter (λ q. is_of_client q.origin) rs)) ≡ cond b (weight_of r.body) 0 + queued_weight rs) [
      | true ↦ sum_by-cons (λ (q : Request). weight_of q.body) r (filter (λ q. is_of_client q.origin) rs)
      | false ↦ omega arith
    ]

-- one request more is counted
pub queued_weight-drop : (i : ℕ) (rs : List Request) (d : Request) → i < length rs → queued_weight (drop i rs) ≡ cond (is_of_client (get_or rs i d).origin) (weight_of (get_or rs i d).body) 0 + queued_weight (drop (suc i) rs)
queued_weight-drop i [] d h = absurd (omega arith)
queued_weight-drop zero (r ∷ rs) d h = queued_weight-cons r rs
queued_weight-drop (suc i) (r ∷ rs) d h = queued_weight-drop i rs d (omega arith)

pub nothing_weighs : (i : ℕ) (rs : List Request) → length rs ≤ i → queued_weight (drop i rs) ≡ 0
nothing_weighs zero [] h = refl
nothing_weighs zero (r ∷ rs) h = absurd (omega arith)
nothing_weighs (suc i) [] h = refl
nothing_weighs (suc i) (r ∷ rs) h = nothing_weighs i rs (omega arith)

-- what is left for the requests from this place on decides
abbrev pub Decides : ℕ → List Request → ℕ → ℕ → ℕ → Type 0
Decides left rest all own most = nat_le (queued_weight rest) left ≡ nat_le (all + own) most
