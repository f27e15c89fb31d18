use Rattle.std.proofs.Common.{subst}
use Rattle.mj_copy.specs.FollowRules.{Following}
use Rattle.mj_copying.specs.FollowRun.{new_copying}
use Rattle.mj_copying.specs.FollowState.{Ended}
use Rattle.mj_copying.specs.declared.stop.Stop.TheVariants as stops
use Rattle.mj_copying.proofs.FollowLemmas.{begins_runs, halts_first}
use Rattle.mj_copying.proofs.following.run_follow.Goals as goal

pub meet_all-requires-clause-runs : goal.meet_all-requires-clause-runs
meet_all-requires-clause-runs g c =
    (g.D.Disk.told c.args.disk.now, g.D.Disk.time c.args.disk.now, new_copying c.args.tries, begins_runs g.D.Disk c.args.tries c.in-Ok.end c.args.disk.now (g.met.D.Disk.in_time c.args.disk.now) c.in-Ok.ensures.fresh)

pub returns-in-Err-clause-halted : goal.returns-in-Err-clause-halted
returns-in-Err-clause-halted g c = halts_first g.D.Disk c.args.tries (g.L.Link.told c.args.link.now) stops.NoMemory c.args.disk.now (g.met.D.Disk.in_time c.args.disk.now)

pub returns-in-Ok-meet_all-clause-followed : goal.returns-in-Ok-meet_all-clause-followed
returns-in-Ok-meet_all-clause-followed g c =
    let goes = c.in-Ok-meet_all.ensures.goes (g.D.Disk.told c.args.disk.now) (g.D.Disk.time c.args.disk.now) (new_copying c.args.tries) (begins_runs g.D.Disk c.args.tries c.in-Ok.end c.args.disk.now (g.met.D.Disk.in_time c.args.disk.now) c.in-Ok.ensures.fresh) in
    (c.meet_all.new.end, c.meet_all.new.log, goes, subst (λ (f : Following). Ended c.ending_of.result f) goes.runs.is c.ending_of.ensures)

pub returns-clause-halted : goal.returns-clause-halted
returns-clause-halted g c =
    c.in-Err-meet_all.ensures.halted (g.D.Disk.told c.args.disk.now) (g.D.Disk.time c.args.disk.now) (new_copying c.args.tries) (begins_runs g.D.Disk c.args.tries c.in-Ok.end c.args.disk.now (g.met.D.Disk.in_time c.args.disk.now) c.in-Ok.ensures.fresh)
