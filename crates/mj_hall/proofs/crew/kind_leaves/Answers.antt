use Rattle.std.proofs.Common.{◌≡◌, ◌∙◌, Bool, List, not, sym, subst}
use Rattle.mj_chain.specs.Seats.{Seat, seat_key, take_out}
use Rattle.mj_hall.specs.declared.kept.Worker.{Worker}
use Rattle.mj_hall.specs.Ends.{EndsAre}
use Rattle.mj_hall.specs.Serving.{workers_of}
use Rattle.mj_hall.proofs.crew.kind_leaves.Goals as goal

pub returns-then-busy-clause-waiting : goal.returns-then-busy-clause-waiting
returns-then-busy-clause-waiting g c =
    λ ws w a at_k kind are.
    let same = subst (λ (b : Bool). workers_of (not b) (take_out seat_key c.args.key ws) ≡ workers_of (not b) ws) (kind ∙ c.if-busy.true) (c.worker_leaves.ensures.others ws w a at_k) in
    subst (λ (xs : List (Seat Worker)). EndsAre c.args.waiting_first.now c.args.waiting_last.now c.args.waiting_count.now xs) (sym same) are

pub returns-clause-busy : goal.returns-clause-busy
returns-clause-busy g c =
    λ ws w a at_k kind are.
    let same = subst (λ (b : Bool). workers_of (not b) (take_out seat_key c.args.key ws) ≡ workers_of (not b) ws) (kind ∙ c.if-busy.false) (c.worker_leaves-2.ensures.others ws w a at_k) in
    subst (λ (xs : List (Seat Worker)). EndsAre c.args.busy_first.now c.args.busy_last.now c.args.busy_count.now xs) (sym same) are
