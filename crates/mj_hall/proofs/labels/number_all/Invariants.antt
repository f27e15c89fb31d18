use Rattle.std.proofs.Common.{◌≡◌, ◌≤◌, ◌-◌, List}
use Rattle.mj_counted.specs.declared.index.Index.{Index}
use Rattle.mj_counted.specs.Rows.{entries}
use Rattle.mj_chain.specs.Seats.{Seat}
use Rattle.mj_hall.specs.declared.kept.Queued.{Queued}
use Rattle.mj_hall.specs.declared.kept.Worker.{Worker}
use Rattle.mj_hall.specs.Ends.{EndsAre}
use Rattle.mj_hall.specs.Labels.{Marked}
use Rattle.mj_hall.proofs.LabelLemmas.{Counted}
use Rattle.mj_hall.proofs.labels.number_all.Given as goal

abbrev pub invariant-loop-label : goal.invariant-loop-label
invariant-loop-label g l = record {
  counted : (names : Index) (es : List (Seat Queued)) (ws : List (Seat Worker)) → Marked l.fn.requests l.fn.pairs.pairs l.desks names es ws → EndsAre l.first l.last l.count es → Counted l.requests l.pairs.pairs l.desks names es ws l.key l.label;
  within : l.label ≤ l.count;
  count : entries l.requests ≡ entries l.fn.requests;
}

abbrev pub decreases-loop-label : goal.decreases-loop-label
decreases-loop-label g l = l.count - l.label
