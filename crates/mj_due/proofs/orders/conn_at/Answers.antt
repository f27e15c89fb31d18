use Rattle.std.proofs.Common.{◌≡◌, ◌∙◌, ℕ, ◌<◌, nat_lt, length, slice_get, true, Option, sym, subst, arith}
use Rattle.std.specs.Option.{IsSome}
use Rattle.std.proofs.lemmas.Bool.Decides.{nat_tests}
use Rattle.mj_due.specs.Leases.{due_pairs}
use Rattle.mj_due.proofs.DueLemmas.{get_due, some_due, walk_due}
use Rattle.mj_due.proofs.orders.conn_at.Goals as goal

less : (n m : ℕ) → n < m → nat_lt n m ≡ true
less n m e = grind (arith, nat_tests)

pub unwrap-deadline-requires : goal.unwrap-deadline-requires
unwrap-deadline-requires g c =
    subst (λ (o : Option (ℕ × ℕ)). IsSome o) (sym c.get.ensures.value)
    (some_due c.args.now (slice_get c.args.order.now.pairs c.args.at) (walk_due c.args.now c.args.at c.args.order.now.pairs c.get.ensures.rising ∙ less c.args.at (length (due_pairs c.args.now c.args.order.now.pairs)) c.requires))

pub returns-clause-value : goal.returns-clause-value
returns-clause-value g c = (c.unwrap-deadline.result.0, get_due c.args.now c.args.at c.args.order.now.pairs c.get.ensures.rising c.requires ∙ sym c.get.ensures.value ∙ c.unwrap-deadline.ensures)
