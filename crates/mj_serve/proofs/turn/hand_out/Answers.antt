use Rattle.std.proofs.Common.{◌≡◌, ◌∷◌, [], length, ap, ◌∙◌, append_assoc, arith}
use Rattle.std.specs.Vec.Iter.{into_iter_items}
use Rattle.mj_serve.proofs.Counting.{gives-then, pieces-append}
use Rattle.mj_serve.proofs.turn.hand_out.Goals as goal

pub loop-out-preserved : goal.loop-out-preserved
loop-out-preserved g c =
    let at = c.loop-out in
    let out = c.in-Some.out in
    let now = c.hand-count.ensures in
    let steps : into_iter_items at.out-iterator ≡ out ∷ into_iter_items c.next.new.self = c.in-Some.ensures.steps.0 in
    let few = at.invariant.few in
    let gone = c.in-Some.ensures.steps.1 in
    let short = ap length steps in
    let more = pieces-append at.yielded (out ∷ []) in
    record {
      items = append_assoc at.yielded (out ∷ []) _ ∙ rw (← steps) at.invariant.items;
      few = omega arith;
      gives = gives-then g.P.Ports.stand c.args.ports.now at.ports c.hand-count.new.ports (g.D.Disk.time c.args.disk.now) at.yielded (out ∷ []) at.invariant.gives now.gives;
      pieces = omega (arith, at.invariant.pieces, now.pieces, more);
      stopped = now.stopped ∙ at.invariant.stopped;
      no_more = omega (arith, now.no_more, at.invariant.no_more);
      lanes = now.lanes ∙ at.invariant.lanes;
    }
