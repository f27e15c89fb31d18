use Rattle.std.proofs.Common.{refl}
use Rattle.mj_copying.specs.Passing.{counts}
use Rattle.mj_words.specs.SinkCounts.{counted}
use Rattle.mj_copy_prog.specs.ShipTable.{scene}
use Rattle.mj_copy_prog.proofs.ShipRows.{breaks_off, broke_row, ending_row, ships_file}
use Rattle.mj_copy_prog.proofs.shipping.ship_log.Goals as goal

pub returns-in-Ok-clause-row : goal.returns-in-Ok-clause-row
returns-in-Ok-clause-row g c =
    ending_row c.in-Ok.ending c.finish_run.result c.args.tries
    (scene (g.L.Link.told c.args.link.now) (g.L.Link.told c.run_ship.new.link) (g.D.Disk.told c.args.disk.now) (g.D.Disk.told c.run_ship.new.disk) (g.K.Sink.written c.args.out.now) (g.K.Sink.written c.finish_run.new.out) (counted (g.K.Sink.faults c.args.out.now) (g.K.Sink.wants c.args.out.now)) (counted (g.K.Sink.faults c.finish_run.new.out) (g.K.Sink.wants c.finish_run.new.out)) (g.L.Link.read_faults c.args.link.now, g.L.Link.read_faults c.run_ship.new.link) (g.L.Link.write_faults c.args.link.now, g.L.Link.write_faults c.run_ship.new.link) (g.D.Disk.faults c.args.disk.now, g.D.Disk.faults c.run_ship.new.disk))
    (ships_file g.D.Disk c.args.log.now c.args.disk.now (g.D.Disk.told c.run_ship.new.disk) c.args.tries (g.L.Link.told c.args.link.now) (g.L.Link.told c.run_ship.new.link) c.in-Ok.ending c.requires c.run_ship.ensures.same c.in-Ok.ensures.shipped)
    c.finish_run.ensures

pub returns-in-Err-clause-row : goal.returns-in-Err-clause-row
returns-in-Err-clause-row g c =
    broke_row c.in-Err.stop c.break_off.result c.args.tries
    (scene (g.L.Link.told c.args.link.now) (g.L.Link.told c.run_ship.new.link) (g.D.Disk.told c.args.disk.now) (g.D.Disk.told c.run_ship.new.disk) (g.K.Sink.written c.args.out.now) (g.K.Sink.written c.break_off.new.out) (counted (g.K.Sink.faults c.args.out.now) (g.K.Sink.wants c.args.out.now)) (counted (g.K.Sink.faults c.break_off.new.out) (g.K.Sink.wants c.break_off.new.out)) (g.L.Link.read_faults c.args.link.now, g.L.Link.read_faults c.run_ship.new.link) (g.L.Link.write_faults c.args.link.now, g.L.Link.write_faults c.run_ship.new.link) (g.D.Disk.faults c.args.disk.now, g.D.Disk.faults c.run_ship.new.disk))
    (counts (g.L.Link.read_faults c.args.link.now) (g.L.Link.write_faults c.args.link.now) (g.D.Disk.faults c.args.disk.now)) (counts (g.L.Link.read_faults c.run_ship.new.link) (g.L.Link.write_faults c.run_ship.new.link) (g.D.Disk.faults c.run_ship.new.disk))
    (breaks_off g.D.Disk c.args.log.now c.args.disk.now (g.D.Disk.told c.run_ship.new.disk) c.args.tries (g.L.Link.told c.args.link.now) (g.L.Link.told c.run_ship.new.link) c.requires c.run_ship.ensures.same c.in-Err.ensures.broken)
    c.in-Err.ensures.cause refl refl refl c.break_off.ensures
