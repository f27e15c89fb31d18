use Rattle.mj_serve.proofs.Alone.{alone-still, alone-synced}
use Rattle.mj_serve.proofs.Beginning.{sound-without}
use Rattle.mj_serve.proofs.serving.begin.Goals as goal

pub returns-in-Ok-new-clause-sound : goal.returns-in-Ok-new-clause-sound
returns-in-Ok-new-clause-sound g c = sound-without g.D.Disk c.args.limits.now c.args.seed c.in-Ok-new.broker c.sync.new.self c.in-Ok-new.ensures.keeper c.in-Ok.ensures.settled

pub returns-in-Err-clause-plain : goal.returns-in-Err-clause-plain
returns-in-Err-clause-plain g c =
    alone-still (g.D.Disk.time c.args.disk.now) (g.D.Disk.told c.args.disk.now) (g.met.D.Disk.in_time c.args.disk.now) (g.D.Disk.told c.sync.new.self) c.in-Err.ensures.unsynced

pub returns-in-Ok-new-clause-plain : goal.returns-in-Ok-new-clause-plain
returns-in-Ok-new-clause-plain g c =
    alone-synced (g.D.Disk.time c.args.disk.now) (g.D.Disk.told c.args.disk.now) (g.met.D.Disk.in_time c.args.disk.now) (g.D.Disk.told c.sync.new.self) (g.D.Disk.time c.sync.new.self)
    (g.met.D.Disk.reads_image c.args.disk.now) c.in-Ok.ensures.synced c.in-Ok.ensures.crash c.in-Ok.ensures.later

pub returns-in-Err-new-clause-plain : goal.returns-in-Err-new-clause-plain
returns-in-Err-new-clause-plain g c =
    alone-synced (g.D.Disk.time c.args.disk.now) (g.D.Disk.told c.args.disk.now) (g.met.D.Disk.in_time c.args.disk.now) (g.D.Disk.told c.sync.new.self) (g.D.Disk.time c.sync.new.self)
    (g.met.D.Disk.reads_image c.args.disk.now) c.in-Ok.ensures.synced c.in-Ok.ensures.crash c.in-Ok.ensures.later
