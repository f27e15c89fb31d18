use Rattle.std.proofs.Common.{ap, subst, ◌∙◌}
use Rattle.mj_words.specs.SinkCounts.{counted}
use Rattle.mj_copy_prog.specs.FollowTable.{IsRow}
use Rattle.mj_copy_prog.specs.ShipTable.{scene}
use Rattle.mj_copy_prog.specs.Statuses.{code_of}
use Rattle.mj_copy_prog.specs.declared.status.Status.{Status}
use Rattle.mj_copy_prog.specs.declared.status.Status.TheVariants as statuses
use Rattle.mj_copy_prog.proofs.StatusLaws.{same_status}
use Rattle.mj_copy_prog.proofs.following.follow.Goals as goal

pub returns-clause-statuses : goal.returns-clause-statuses
returns-clause-statuses g c = (c.run.result, c.code.ensures)

pub returns-clause-words : goal.returns-clause-words
returns-clause-words g c = (
  λ is. c.run.ensures.words.0 (same_status c.run.result statuses.Words c.code.result c.code.ensures is),
  λ none. c.code.ensures ∙ ap code_of (c.run.ensures.words.1 none),
)

pub returns-clause-refused_words : goal.returns-clause-refused_words
returns-clause-refused_words g c = λ is. c.run.ensures.refused_words (same_status c.run.result statuses.Words c.code.result c.code.ensures is)

pub returns-clause-table : goal.returns-clause-table
returns-clause-table g c = λ status tries is asks.
    subst (λ (s : Status). IsRow s tries (g.D.Disk.time c.args.disk.now, g.D.Disk.time c.run.new.disk) (scene (g.L.Link.told c.args.link.now) (g.L.Link.told c.run.new.link) (g.D.Disk.told c.args.disk.now) (g.D.Disk.told c.run.new.disk) (g.K.Sink.written c.args.out.now) (g.K.Sink.written c.run.new.out) (counted (g.K.Sink.faults c.args.out.now) (g.K.Sink.wants c.args.out.now)) (counted (g.K.Sink.faults c.run.new.out) (g.K.Sink.wants c.run.new.out)) (g.L.Link.read_faults c.args.link.now, g.L.Link.read_faults c.run.new.link) (g.L.Link.write_faults c.args.link.now, g.L.Link.write_faults c.run.new.link) (g.D.Disk.faults c.args.disk.now, g.D.Disk.faults c.run.new.disk))) (same_status c.run.result status c.code.result c.code.ensures is) (c.run.ensures.row tries asks)
