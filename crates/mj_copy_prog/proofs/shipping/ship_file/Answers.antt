use Rattle.std.proofs.Common.{refl, ◌∙◌}
use Rattle.mj_store.proofs.Beginning.{crash_on}
use Rattle.mj_words.specs.SinkCounts.{counted}
use Rattle.mj_copy_prog.specs.ShipTable.{scene}
use Rattle.mj_copy_prog.proofs.ShipRows.{opened_row, unopened_row}
use Rattle.mj_copy_prog.proofs.shipping.ship_file.Goals as goal

pub ship_log-requires : goal.ship_log-requires
ship_log-requires g c = let o = c.in-Ok.ensures.opened in (o.0, o.1)

pub returns-in-Ok-clause-row : goal.returns-in-Ok-clause-row
returns-in-Ok-clause-row g c =
    opened_row c.ship_log.result c.args.tries
    (scene (g.L.Link.told c.args.link.now) (g.L.Link.told c.ship_log.new.link) (g.D.Disk.told c.open.new.disk) (g.D.Disk.told c.ship_log.new.disk) (g.K.Sink.written c.args.out.now) (g.K.Sink.written c.ship_log.new.out) (counted (g.K.Sink.faults c.args.out.now) (g.K.Sink.wants c.args.out.now)) (counted (g.K.Sink.faults c.ship_log.new.out) (g.K.Sink.wants c.ship_log.new.out)) (g.L.Link.read_faults c.args.link.now, g.L.Link.read_faults c.ship_log.new.link) (g.L.Link.write_faults c.args.link.now, g.L.Link.write_faults c.ship_log.new.link) (g.D.Disk.faults c.open.new.disk, g.D.Disk.faults c.ship_log.new.disk))
    (g.D.Disk.told c.args.disk.now) (g.D.Disk.faults c.args.disk.now) c.open.ensures.count c.ship_log.ensures.row

pub returns-in-Ok-clause-kept : goal.returns-in-Ok-clause-kept
returns-in-Ok-clause-kept g c = λ history is. let k = c.open.ensures.kept history is in (k.0, c.ship_log.ensures.same ∙ k.1, k.2)

pub returns-in-Ok-clause-crash : goal.returns-in-Ok-clause-crash
returns-in-Ok-clause-crash g c = crash_on (g.D.Disk.time c.args.disk.now, g.D.Disk.time c.open.new.disk) (g.D.Disk.time c.ship_log.new.disk) _ _ _ c.ship_log.ensures.same c.ship_log.ensures.time c.open.ensures.crash

pub returns-in-Err-clause-row : goal.returns-in-Err-clause-row
returns-in-Err-clause-row g c =
    unopened_row c.in-Err.fault c.unopened.result c.args.tries
    (scene (g.L.Link.told c.args.link.now) (g.L.Link.told c.args.link.now) (g.D.Disk.told c.args.disk.now) (g.D.Disk.told c.open.new.disk) (g.K.Sink.written c.args.out.now) (g.K.Sink.written c.unopened.new.out) (counted (g.K.Sink.faults c.args.out.now) (g.K.Sink.wants c.args.out.now)) (counted (g.K.Sink.faults c.unopened.new.out) (g.K.Sink.wants c.unopened.new.out)) (g.L.Link.read_faults c.args.link.now, g.L.Link.read_faults c.args.link.now) (g.L.Link.write_faults c.args.link.now, g.L.Link.write_faults c.args.link.now) (g.D.Disk.faults c.args.disk.now, g.D.Disk.faults c.open.new.disk))
    c.in-Err.ensures.unopened refl (λ e. c.in-Err.ensures.cause (cc)) c.unopened.ensures
