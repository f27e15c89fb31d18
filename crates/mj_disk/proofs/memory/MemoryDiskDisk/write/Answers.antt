use Rattle.std.proofs.Common.{◌<◌, length, arith}
use Rattle.mj_disk.specs.DiskModel.{Touches}
use Rattle.mj_disk.specs.Recorded.{recorded}
use Rattle.mj_disk.proofs.Images.{touched_touches, written_touches}
use Rattle.mj_disk.proofs.Moments.{changes_by}
use Rattle.mj_disk.proofs.memory.MemoryDiskDisk.write.Goals as goal

pub returns-then-is_due-clause-crash : goal.returns-then-is_due-clause-crash
returns-then-is_due-clause-crash c =
    let later : c.args.self.now.calls < c.next_call-call.new.calls = omega arith in
    changes_by (Touches c.args.at (length c.args.octets.now)) _ _ _ (recorded c.args.self.now) _ _ c.touch.ensures.history c.touch.ensures.calls later (touched_touches c.args.at (length c.args.octets.now) (recorded c.args.self.now).now)

pub returns-clause-crash : goal.returns-clause-crash
returns-clause-crash c =
    let later : c.args.self.now.calls < c.next_call-call.new.calls = omega arith in
    changes_by (Touches c.args.at (length c.args.octets.now)) _ _ _ (recorded c.args.self.now) _ _ c.put.ensures.history c.put.ensures.calls later (written_touches c.args.at c.args.octets.now (recorded c.args.self.now).now)
