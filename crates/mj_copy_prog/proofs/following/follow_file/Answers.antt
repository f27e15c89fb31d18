use Rattle.std.proofs.Common.{refl}
use Rattle.mj_copying.specs.Passing.{counts}
use Rattle.mj_words.specs.SinkCounts.{counted}
use Rattle.mj_copy_prog.specs.ShipTable.{scene}
use Rattle.mj_copy_prog.proofs.FollowRows.{ending_row, followed_so, halted_row, halted_so}
use Rattle.mj_copy_prog.proofs.following.follow_file.Goals as goal

pub returns-in-Ok : goal.returns-in-Ok
returns-in-Ok g c =
    let f = c.in-Ok.ensures.followed in
    ending_row c.in-Ok.ending c.finish_run.result c.args.tries (g.D.Disk.time c.args.disk.now, g.D.Disk.time c.run_follow.new.disk)
    (scene (g.L.Link.told c.args.link.now) (g.L.Link.told c.run_follow.new.link) (g.D.Disk.told c.args.disk.now) (g.D.Disk.told c.run_follow.new.disk) (g.K.Sink.written c.args.out.now) (g.K.Sink.written c.finish_run.new.out) (counted (g.K.Sink.faults c.args.out.now) (g.K.Sink.wants c.args.out.now)) (counted (g.K.Sink.faults c.finish_run.new.out) (g.K.Sink.wants c.finish_run.new.out)) (g.L.Link.read_faults c.args.link.now, g.L.Link.read_faults c.run_follow.new.link) (g.L.Link.write_faults c.args.link.now, g.L.Link.write_faults c.run_follow.new.link) (g.D.Disk.faults c.args.disk.now, g.D.Disk.faults c.run_follow.new.disk))
    (followed_so g.D.Disk c.args.disk.now c.run_follow.new.disk c.args.tries
    (scene (g.L.Link.told c.args.link.now) (g.L.Link.told c.run_follow.new.link) (g.D.Disk.told c.args.disk.now) (g.D.Disk.told c.run_follow.new.disk) (g.K.Sink.written c.args.out.now) (g.K.Sink.written c.finish_run.new.out) (counted (g.K.Sink.faults c.args.out.now) (g.K.Sink.wants c.args.out.now)) (counted (g.K.Sink.faults c.finish_run.new.out) (g.K.Sink.wants c.finish_run.new.out)) (g.L.Link.read_faults c.args.link.now, g.L.Link.read_faults c.run_follow.new.link) (g.L.Link.write_faults c.args.link.now, g.L.Link.write_faults c.run_follow.new.link) (g.D.Disk.faults c.args.disk.now, g.D.Disk.faults c.run_follow.new.disk))
    c.in-Ok.ending f.0 f.1 refl refl f.2 f.3)
    c.finish_run.ensures

pub returns-in-Err : goal.returns-in-Err
returns-in-Err g c =
    halted_row c.in-Err.stop c.stop_run.result c.args.tries (g.D.Disk.time c.args.disk.now, g.D.Disk.time c.run_follow.new.disk)
    (scene (g.L.Link.told c.args.link.now) (g.L.Link.told c.run_follow.new.link) (g.D.Disk.told c.args.disk.now) (g.D.Disk.told c.run_follow.new.disk) (g.K.Sink.written c.args.out.now) (g.K.Sink.written c.stop_run.new.out) (counted (g.K.Sink.faults c.args.out.now) (g.K.Sink.wants c.args.out.now)) (counted (g.K.Sink.faults c.stop_run.new.out) (g.K.Sink.wants c.stop_run.new.out)) (g.L.Link.read_faults c.args.link.now, g.L.Link.read_faults c.run_follow.new.link) (g.L.Link.write_faults c.args.link.now, g.L.Link.write_faults c.run_follow.new.link) (g.D.Disk.faults c.args.disk.now, g.D.Disk.faults c.run_follow.new.disk))
    (counts (g.L.Link.read_faults c.args.link.now) (g.L.Link.write_faults c.args.link.now) (g.D.Disk.faults c.args.disk.now)) (counts (g.L.Link.read_faults c.run_follow.new.link) (g.L.Link.write_faults c.run_follow.new.link) (g.D.Disk.faults c.run_follow.new.disk))
    (halted_so g.D.Disk c.args.disk.now c.run_follow.new.disk c.args.tries
    (scene (g.L.Link.told c.args.link.now) (g.L.Link.told c.run_follow.new.link) (g.D.Disk.told c.args.disk.now) (g.D.Disk.told c.run_follow.new.disk) (g.K.Sink.written c.args.out.now) (g.K.Sink.written c.stop_run.new.out) (counted (g.K.Sink.faults c.args.out.now) (g.K.Sink.wants c.args.out.now)) (counted (g.K.Sink.faults c.stop_run.new.out) (g.K.Sink.wants c.stop_run.new.out)) (g.L.Link.read_faults c.args.link.now, g.L.Link.read_faults c.run_follow.new.link) (g.L.Link.write_faults c.args.link.now, g.L.Link.write_faults c.run_follow.new.link) (g.D.Disk.faults c.args.disk.now, g.D.Disk.faults c.run_follow.new.disk))
    c.in-Err.stop refl refl c.in-Err.ensures.halted)
    c.in-Err.ensures.cause refl refl refl c.stop_run.ensures
