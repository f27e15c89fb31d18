use Rattle.std.proofs.Common.{ℕ, subst, ◌∙◌, arith}
use Rattle.mj_prog.specs.Reads.{ReadsNoFurther}
use Rattle.mj_prog.proofs.ReadingStops.{further, stops-on}
use Rattle.mj_prog.proofs.next.read_next.Goals as goal

pub returns-in-Some-clause-stands : goal.returns-in-Some-clause-stands
returns-in-Some-clause-stands g c = λ from taken so_far. c.in-Some.ensures.stands from taken (c.loop-next.invariant.stands from taken so_far)

pub returns-in-Some-clause-no_further : goal.returns-in-Some-clause-no_further
returns-in-Some-clause-no_further g c = λ from taken so_far.
    further c.args.progress.now.lanes from _ _ _ (c.loop-next.invariant.no_further from taken so_far)
    (subst (λ (lanes : ℕ). ReadsNoFurther lanes from (g.S.Source.last c.loop-next.src) (g.S.Source.last c.step.new.src)) c.loop-next.invariant.lanes
    (c.in-Some.ensures.no_further from taken (c.loop-next.invariant.stands from taken so_far)))

pub returns-in-Some-clause-misses : goal.returns-in-Some-clause-misses
returns-in-Some-clause-misses g c = stops-on _ _ _ _ _ _ c.loop-next.invariant.misses c.in-Some.ensures.misses

pub loop-next-preserved : goal.loop-next-preserved
loop-next-preserved g c =
    let e = c.in_default.ensures in
    let before = c.loop-next.invariant in
    record {
      stands = λ from taken so_far. e.stands from taken (before.stands from taken so_far);
      no_further = λ from taken so_far.
          further c.args.progress.now.lanes from _ _ _ (before.no_further from taken so_far)
          (subst (λ (lanes : ℕ). ReadsNoFurther lanes from (g.S.Source.last c.loop-next.src) (g.S.Source.last c.step.new.src)) before.lanes (e.no_further from taken (before.stands from taken so_far)));
      misses = stops-on _ _ _ _ _ _ before.misses e.misses;
      lanes = e.lanes ∙ before.lanes;
      later = omega arith;
      fewer = omega (arith, e.fewer.1);
    }
