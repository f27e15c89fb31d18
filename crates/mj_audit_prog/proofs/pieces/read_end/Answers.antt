use Rattle.mj_audit_prog.proofs.RunLemmas.{audited-end}
use Rattle.mj_audit_prog.proofs.pieces.read_end.Goals as goal

pub returns-clause-whole : goal.returns-clause-whole
returns-clause-whole c = λ from left read turned.
    audited-end from left c.args.reader.now read c.take_end.new.self.lines c.in_ok-take_end.field-0 turned (c.in_ok-take_end.ensures read turned.2)
