use Rattle.std.proofs.Common.{map, string_bytes, ap, ◌∙◌}
use Rattle.mj_bridge_prog.specs.BridgeTable.{code_of, scene}
use Rattle.mj_bridge_prog.specs.BridgeWords.{bridging_in}
use Rattle.mj_bridge_prog.specs.Sides.{counts, sides}
use Rattle.mj_bridge_prog.specs.declared.status.Status.TheVariants as statuses
use Rattle.mj_bridge_prog.proofs.FinishLemmas.{row-of, status-is}
use Rattle.mj_bridge_prog.proofs.top_call.bridge.Goals as goal
use Rattle.mj_words.specs.SinkCounts.{counted}

pub returns-clause-statuses : goal.returns-clause-statuses
returns-clause-statuses g c = (c.run_words.result, c.code.ensures)

pub returns-clause-words : goal.returns-clause-words
returns-clause-words g c = (
  λ is. c.run_words.ensures.words.0 (status-is c.run_words.result statuses.Words c.code.result c.code.ensures is),
  λ none. c.code.ensures ∙ ap code_of (c.run_words.ensures.words.1 none),
)

pub returns-clause-refused_words : goal.returns-clause-refused_words
returns-clause-refused_words g c = λ is. c.run_words.ensures.refused_words (status-is c.run_words.result statuses.Words c.code.result c.code.ensures is)

pub returns-clause-done : goal.returns-clause-done
returns-clause-done g c = λ is.
    row-of (bridging_in (map string_bytes c.args.words.now))
    (scene (sides (g.N.Link.told c.args.near.now) (g.F.Link.told c.args.far.now)) (sides (g.N.Link.told c.run_words.new.near) (g.F.Link.told c.run_words.new.far))
    (counts (g.N.Link.read_faults c.args.near.now) (g.N.Link.write_faults c.args.near.now) (g.F.Link.read_faults c.args.far.now) (g.F.Link.write_faults c.args.far.now))
    (counts (g.N.Link.read_faults c.run_words.new.near) (g.N.Link.write_faults c.run_words.new.near) (g.F.Link.read_faults c.run_words.new.far) (g.F.Link.write_faults c.run_words.new.far))
    (g.K.Sink.written c.args.out.now) (g.K.Sink.written c.run_words.new.out) (counted (g.K.Sink.faults c.args.out.now) (g.K.Sink.wants c.args.out.now))
    (counted (g.K.Sink.faults c.run_words.new.out) (g.K.Sink.wants c.run_words.new.out)))
    c.code.result c.run_words.result statuses.Done c.run_words.ensures.rows c.code.ensures is

pub returns-clause-memory : goal.returns-clause-memory
returns-clause-memory g c = λ is.
    row-of (bridging_in (map string_bytes c.args.words.now))
    (scene (sides (g.N.Link.told c.args.near.now) (g.F.Link.told c.args.far.now)) (sides (g.N.Link.told c.run_words.new.near) (g.F.Link.told c.run_words.new.far))
    (counts (g.N.Link.read_faults c.args.near.now) (g.N.Link.write_faults c.args.near.now) (g.F.Link.read_faults c.args.far.now) (g.F.Link.write_faults c.args.far.now))
    (counts (g.N.Link.read_faults c.run_words.new.near) (g.N.Link.write_faults c.run_words.new.near) (g.F.Link.read_faults c.run_words.new.far) (g.F.Link.write_faults c.run_words.new.far))
    (g.K.Sink.written c.args.out.now) (g.K.Sink.written c.run_words.new.out) (counted (g.K.Sink.faults c.args.out.now) (g.K.Sink.wants c.args.out.now))
    (counted (g.K.Sink.faults c.run_words.new.out) (g.K.Sink.wants c.run_words.new.out)))
    c.code.result c.run_words.result statuses.NoMemory c.run_words.ensures.rows c.code.ensures is

pub returns-clause-read : goal.returns-clause-read
returns-clause-read g c = λ is.
    row-of (bridging_in (map string_bytes c.args.words.now))
    (scene (sides (g.N.Link.told c.args.near.now) (g.F.Link.told c.args.far.now)) (sides (g.N.Link.told c.run_words.new.near) (g.F.Link.told c.run_words.new.far))
    (counts (g.N.Link.read_faults c.args.near.now) (g.N.Link.write_faults c.args.near.now) (g.F.Link.read_faults c.args.far.now) (g.F.Link.write_faults c.args.far.now))
    (counts (g.N.Link.read_faults c.run_words.new.near) (g.N.Link.write_faults c.run_words.new.near) (g.F.Link.read_faults c.run_words.new.far) (g.F.Link.write_faults c.run_words.new.far))
    (g.K.Sink.written c.args.out.now) (g.K.Sink.written c.run_words.new.out) (counted (g.K.Sink.faults c.args.out.now) (g.K.Sink.wants c.args.out.now))
    (counted (g.K.Sink.faults c.run_words.new.out) (g.K.Sink.wants c.run_words.new.out)))
    c.code.result c.run_words.result statuses.Read c.run_words.ensures.rows c.code.ensures is

pub returns-clause-write : goal.returns-clause-write
returns-clause-write g c = λ is.
    row-of (bridging_in (map string_bytes c.args.words.now))
    (scene (sides (g.N.Link.told c.args.near.now) (g.F.Link.told c.args.far.now)) (sides (g.N.Link.told c.run_words.new.near) (g.F.Link.told c.run_words.new.far))
    (counts (g.N.Link.read_faults c.args.near.now) (g.N.Link.write_faults c.args.near.now) (g.F.Link.read_faults c.args.far.now) (g.F.Link.write_faults c.args.far.now))
    (counts (g.N.Link.read_faults c.run_words.new.near) (g.N.Link.write_faults c.run_words.new.near) (g.F.Link.read_faults c.run_words.new.far) (g.F.Link.write_faults c.run_words.new.far))
    (g.K.Sink.written c.args.out.now) (g.K.Sink.written c.run_words.new.out) (counted (g.K.Sink.faults c.args.out.now) (g.K.Sink.wants c.args.out.now))
    (counted (g.K.Sink.faults c.run_words.new.out) (g.K.Sink.wants c.run_words.new.out)))
    c.code.result c.run_words.result statuses.Write c.run_words.ensures.rows c.code.ensures is

pub returns-clause-no_answer : goal.returns-clause-no_answer
returns-clause-no_answer g c = λ is.
    row-of (bridging_in (map string_bytes c.args.words.now))
    (scene (sides (g.N.Link.told c.args.near.now) (g.F.Link.told c.args.far.now)) (sides (g.N.Link.told c.run_words.new.near) (g.F.Link.told c.run_words.new.far))
    (counts (g.N.Link.read_faults c.args.near.now) (g.N.Link.write_faults c.args.near.now) (g.F.Link.read_faults c.args.far.now) (g.F.Link.write_faults c.args.far.now))
    (counts (g.N.Link.read_faults c.run_words.new.near) (g.N.Link.write_faults c.run_words.new.near) (g.F.Link.read_faults c.run_words.new.far) (g.F.Link.write_faults c.run_words.new.far))
    (g.K.Sink.written c.args.out.now) (g.K.Sink.written c.run_words.new.out) (counted (g.K.Sink.faults c.args.out.now) (g.K.Sink.wants c.args.out.now))
    (counted (g.K.Sink.faults c.run_words.new.out) (g.K.Sink.wants c.run_words.new.out)))
    c.code.result c.run_words.result statuses.NoAnswer c.run_words.ensures.rows c.code.ensures is
