use Rattle.std.proofs.Common.{map, string_bytes, ap, ◌∙◌}
use Rattle.mj_peering.specs.Performing.{counts, places}
use Rattle.mj_peer_prog.specs.PeerTable.{scene}
use Rattle.mj_peer_prog.specs.PeerWords.{task_in}
use Rattle.mj_peer_prog.specs.Statuses.{code_of}
use Rattle.mj_peer_prog.specs.declared.status.Status.TheVariants as statuses
use Rattle.mj_peer_prog.proofs.StatusLaws.{row-of, status-is}
use Rattle.mj_peer_prog.proofs.top_call.peer.Goals as goal

pub returns-clause-statuses : goal.returns-clause-statuses
returns-clause-statuses g c = (c.run_peer.result, c.code.ensures)

pub returns-clause-words : goal.returns-clause-words
returns-clause-words g c = (
  λ is. c.run_peer.ensures.words.0 (status-is c.run_peer.result statuses.Words c.code.result c.code.ensures is),
  λ none. c.code.ensures ∙ ap code_of (c.run_peer.ensures.words.1 none),
)

pub returns-clause-refused_words : goal.returns-clause-refused_words
returns-clause-refused_words g c = λ is. c.run_peer.ensures.refused_words (status-is c.run_peer.result statuses.Words c.code.result c.code.ensures is)

pub returns-clause-done : goal.returns-clause-done
returns-clause-done g c = λ is.
    row-of (task_in (map string_bytes c.args.words.now))
    (scene (g.S.Source.left c.args.src.now) (places (g.L.Link.told c.args.link.now) (g.K.Sink.written c.args.out.now)) (places (g.L.Link.told c.run_peer.new.link) (g.K.Sink.written c.run_peer.new.out))
    (counts (g.L.Link.read_faults c.args.link.now) (g.L.Link.write_faults c.args.link.now) (g.K.Sink.faults c.args.out.now) (g.K.Sink.wants c.args.out.now))
    (counts (g.L.Link.read_faults c.run_peer.new.link) (g.L.Link.write_faults c.run_peer.new.link) (g.K.Sink.faults c.run_peer.new.out) (g.K.Sink.wants c.run_peer.new.out)) (g.S.Source.faults c.args.src.now) (g.S.Source.faults c.run_peer.new.src))
    c.code.result c.run_peer.result statuses.Done c.run_peer.ensures.rows c.code.ensures is

pub returns-clause-memory : goal.returns-clause-memory
returns-clause-memory g c = λ is.
    row-of (task_in (map string_bytes c.args.words.now))
    (scene (g.S.Source.left c.args.src.now) (places (g.L.Link.told c.args.link.now) (g.K.Sink.written c.args.out.now)) (places (g.L.Link.told c.run_peer.new.link) (g.K.Sink.written c.run_peer.new.out))
    (counts (g.L.Link.read_faults c.args.link.now) (g.L.Link.write_faults c.args.link.now) (g.K.Sink.faults c.args.out.now) (g.K.Sink.wants c.args.out.now))
    (counts (g.L.Link.read_faults c.run_peer.new.link) (g.L.Link.write_faults c.run_peer.new.link) (g.K.Sink.faults c.run_peer.new.out) (g.K.Sink.wants c.run_peer.new.out)) (g.S.Source.faults c.args.src.now) (g.S.Source.faults c.run_peer.new.src))
    c.code.result c.run_peer.result statuses.NoMemory c.run_peer.ensures.rows c.code.ensures is

pub returns-clause-read : goal.returns-clause-read
returns-clause-read g c = λ is.
    row-of (task_in (map string_bytes c.args.words.now))
    (scene (g.S.Source.left c.args.src.now) (places (g.L.Link.told c.args.link.now) (g.K.Sink.written c.args.out.now)) (places (g.L.Link.told c.run_peer.new.link) (g.K.Sink.written c.run_peer.new.out))
    (counts (g.L.Link.read_faults c.args.link.now) (g.L.Link.write_faults c.args.link.now) (g.K.Sink.faults c.args.out.now) (g.K.Sink.wants c.args.out.now))
    (counts (g.L.Link.read_faults c.run_peer.new.link) (g.L.Link.write_faults c.run_peer.new.link) (g.K.Sink.faults c.run_peer.new.out) (g.K.Sink.wants c.run_peer.new.out)) (g.S.Source.faults c.args.src.now) (g.S.Source.faults c.run_peer.new.src))
    c.code.result c.run_peer.result statuses.Read c.run_peer.ensures.rows c.code.ensures is

pub returns-clause-write : goal.returns-clause-write
returns-clause-write g c = λ is.
    row-of (task_in (map string_bytes c.args.words.now))
    (scene (g.S.Source.left c.args.src.now) (places (g.L.Link.told c.args.link.now) (g.K.Sink.written c.args.out.now)) (places (g.L.Link.told c.run_peer.new.link) (g.K.Sink.written c.run_peer.new.out))
    (counts (g.L.Link.read_faults c.args.link.now) (g.L.Link.write_faults c.args.link.now) (g.K.Sink.faults c.args.out.now) (g.K.Sink.wants c.args.out.now))
    (counts (g.L.Link.read_faults c.run_peer.new.link) (g.L.Link.write_faults c.run_peer.new.link) (g.K.Sink.faults c.run_peer.new.out) (g.K.Sink.wants c.run_peer.new.out)) (g.S.Source.faults c.args.src.now) (g.S.Source.faults c.run_peer.new.src))
    c.code.result c.run_peer.result statuses.Write c.run_peer.ensures.rows c.code.ensures is

pub returns-clause-no_answer : goal.returns-clause-no_answer
returns-clause-no_answer g c = λ is.
    row-of (task_in (map string_bytes c.args.words.now))
    (scene (g.S.Source.left c.args.src.now) (places (g.L.Link.told c.args.link.now) (g.K.Sink.written c.args.out.now)) (places (g.L.Link.told c.run_peer.new.link) (g.K.Sink.written c.run_peer.new.out))
    (counts (g.L.Link.read_faults c.args.link.now) (g.L.Link.write_faults c.args.link.now) (g.K.Sink.faults c.args.out.now) (g.K.Sink.wants c.args.out.now))
    (counts (g.L.Link.read_faults c.run_peer.new.link) (g.L.Link.write_faults c.run_peer.new.link) (g.K.Sink.faults c.run_peer.new.out) (g.K.Sink.wants c.run_peer.new.out)) (g.S.Source.faults c.args.src.now) (g.S.Source.faults c.run_peer.new.src))
    c.code.result c.run_peer.result statuses.NoAnswer c.run_peer.ensures.rows c.code.ensures is
