use Rattle.mj_copying.specs.FollowRun.{after}
use Rattle.mj_copying.specs.Passing.{counts}
use Rattle.mj_copying.proofs.FollowLemmas.{goes_more, goes_not, halt_wider, halts_at}
use Rattle.mj_copying.proofs.LinkLemmas.{later_more, later_none}
use Rattle.mj_copying.proofs.following.meet_all.Goals as goal

pub loop-init : goal.loop-init
loop-init g c = record {
  ready = c.requires.ready;
  runs = c.requires.runs;
  goes = λ start since now r. goes_not g.D.Disk start since now (g.L.Link.told c.args.link.now) c.args.end.now c.args.log.now c.args.disk.now r;
  later = later_none (counts (g.L.Link.read_faults c.args.link.now) (g.L.Link.write_faults c.args.link.now) (g.D.Disk.faults c.args.disk.now));
}

pub loop-preserved : goal.loop-preserved
loop-preserved g c =
    let inv = c.loop.invariant in
    let e = c.in-Ok.ensures in
    record {
      ready = e.ready;
      runs = (let q = inv.runs in let t = e.turned q.0 q.1 q.2 q.3 in (q.0, q.1, after t.doing q.2, t.runs));
      goes = λ start since now r.
          let before = inv.goes start since now r in
          goes_more g.D.Disk start since now (g.L.Link.told c.args.link.now) (g.L.Link.told c.loop.link) (g.L.Link.told c.turn.new.link) c.loop.end c.turn.new.end c.loop.log c.turn.new.log c.loop.disk c.turn.new.disk before (e.turned start since before.last before.runs);
      later = later_more _ _ _ inv.later e.later;
    }

pub returns-in-Err-clause-halted : goal.returns-in-Err-clause-halted
returns-in-Err-clause-halted g c = λ start since now r.
    let before = c.loop.invariant.goes start since now r in
    halts_at g.D.Disk start since now (g.L.Link.told c.args.link.now) (g.L.Link.told c.loop.link) (g.L.Link.told c.turn.new.link) c.loop.end c.loop.log c.loop.disk c.turn.new.disk c.in-Err.stop before (c.in-Err.ensures.cut start since before.last before.runs)

pub returns-in-Err-clause-cause : goal.returns-in-Err-clause-cause
returns-in-Err-clause-cause g c = halt_wider c.in-Err.stop _ _ _ c.loop.invariant.later c.in-Err.ensures.cause
