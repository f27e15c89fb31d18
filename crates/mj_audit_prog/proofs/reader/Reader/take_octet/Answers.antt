use Rattle.std.proofs.Common.{◌<◌, length, rules}
use Rattle.std.proofs.lemmas.Bool.{ne_eqb}
use Rattle.mj_audit_prog.proofs.ReadLemmas.{if-ok, long-step, newline-step}
use Rattle.mj_audit_prog.proofs.reader.Reader.take_octet.Goals as goal

pub returns-then-octet-eq10-clause-goes : goal.returns-then-octet-eq10-clause-goes
returns-then-octet-eq10-clause-goes c = if-ok c.take_line.result (λ over step read r. newline-step over c.args.self.now c.take_line.new.self read c.args.octet c.if-octet-eq10.true step r) c.take_line.ensures.goes

pub returns-then-len-gt-LINE_BYTES-clause-goes : goal.returns-then-len-gt-LINE_BYTES-clause-goes
returns-then-len-gt-LINE_BYTES-clause-goes c = λ read r.
    let size : 131081 < length c.push.new.self.items = search rules in
    long-step c.args.self.now read c.args.octet c.push.new.self.items c.in_ok-push.ensures.items (ne_eqb c.args.octet 10 c.if-octet-eq10.false) size r
