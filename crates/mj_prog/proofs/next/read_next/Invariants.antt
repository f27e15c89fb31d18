use Rattle.std.proofs.Common.{◌≡◌, ◌+◌, ◌*◌, ◌≤◌, List, ℕ, Option, length}
use Rattle.mj_base.specs.declared.event.Event.{Event}
use Rattle.mj_prog.specs.ReadSoFar.{IsSoFar}
use Rattle.mj_prog.specs.Reads.{ReadsNoFurther, StopsReading}
use Rattle.mj_prog.proofs.next.read_next.Given as goal

abbrev pub invariant-loop-next : goal.invariant-loop-next
invariant-loop-next g l = record {
  stands : (from : Option (List ℕ)) (taken : List Event) → IsSoFar from (g.S.Source.left l.fn.src) l.fn.progress.lanes l.fn.progress.pending.items l.fn.progress.room l.fn.progress.lines taken
      → IsSoFar from (g.S.Source.left l.src) l.progress.lanes l.progress.pending.items l.progress.room l.progress.lines taken;
  no_further : (from : Option (List ℕ)) (taken : List Event) → IsSoFar from (g.S.Source.left l.fn.src) l.fn.progress.lanes l.fn.progress.pending.items l.fn.progress.room l.fn.progress.lines taken
      → ReadsNoFurther l.fn.progress.lanes from (g.S.Source.last l.fn.src) (g.S.Source.last l.src);
  misses : StopsReading l.fn.progress.room l.progress.room (g.S.Source.misses l.fn.src) (g.S.Source.misses l.src);
  lanes : l.progress.lanes ≡ l.fn.progress.lanes;
  later : g.S.Source.faults l.fn.src ≤ g.S.Source.faults l.src;
  fewer : l.progress.room + length l.progress.pending.items ≤ l.fn.progress.room + length l.fn.progress.pending.items;
}

abbrev pub decreases-loop-next : goal.decreases-loop-next
decreases-loop-next g l = 2 * l.progress.room + length l.progress.pending.items
