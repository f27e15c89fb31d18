use Rattle.std.proofs.Common.{◌≤◌, length, arith}
use Rattle.mj_journal.proofs.Appends.{reaches}
use Rattle.mj_journal.proofs.journal.Journal.read.Goals as goal

pub read-requires : goal.read-requires
read-requires g c history is =
    let inside : c.args.self.now.end ≤ length history.now.octets = reaches c.args.self.now.end history.now (c.requires.file history is) in
    omega arith
