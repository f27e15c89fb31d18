use Rattle.std.proofs.lemmas.Result.{MatchResult-from_err}
use Rattle.mj_journal.proofs.Finishing.{finishes, finished_ends, left_or_whole, finishes_or_not}
use Rattle.mj_journal.proofs.making.Making.finish.Goals as goal

pub returns-in_err-write_synced-clause-crash : goal.returns-in_err-write_synced-clause-crash
returns-in_err-write_synced-clause-crash g c =
    finishes_or_not c.args.self.base c.args.self.journal.end _ _ _ c.args.self.low c.args.self.high c.write_synced.ensures.telling c.write_synced.ensures.later c.write_synced.ensures.crash

pub returns-in_err-write_synced-clause-left : goal.returns-in_err-write_synced-clause-left
returns-in_err-write_synced-clause-left g c =
    MatchResult-from_err c.from_residual.result _ _ c.from_residual.ensures.0 (λ y.
    left_or_whole c.args.self.base c.args.self.journal.end c.args.self.low c.args.self.high _ _ c.write_synced.ensures.telling c.in_err-write_synced.ensures.spoiled)

pub returns-clause-finished : goal.returns-clause-finished
returns-clause-finished g c =
    finishes c.args.self.base c.args.self.journal.end c.args.self.low c.args.self.high _ _ c.write_synced.ensures.telling c.in_ok-write_synced.ensures.written

pub returns-clause-ready : goal.returns-clause-ready
returns-clause-ready g c =
    finished_ends c.args.self.base c.args.self.journal.end c.args.self.low c.args.self.high _ _ c.write_synced.ensures.telling (c.requires.file c.requires.unspent) (returns-clause-finished g c)

pub returns-clause-crash : goal.returns-clause-crash
returns-clause-crash g c =
    finishes_or_not c.args.self.base c.args.self.journal.end _ _ _ c.args.self.low c.args.self.high c.write_synced.ensures.telling c.write_synced.ensures.later c.write_synced.ensures.crash
