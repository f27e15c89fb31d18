use Rattle.std.proofs.Common.{◌≡◌, ◌<◌, length, rules}
use Rattle.std.proofs.lemmas.List.{nil_from_length}
use Rattle.mj_audit_prog.proofs.ReadLemmas.{if-ok, last-none, last-step}
use Rattle.mj_audit_prog.proofs.reader.Reader.take_last.Goals as goal

pub returns-then-is_empty-clause-goes : goal.returns-then-is_empty-clause-goes
returns-then-is_empty-clause-goes c =
    let none : length c.args.self.now.pending.items ≡ 0 = search rules in
    λ read r. last-none c.args.self.now read (nil_from_length c.args.self.now.pending.items none) r

pub returns-clause-goes : goal.returns-clause-goes
returns-clause-goes c =
    let some : 0 < length c.args.self.now.pending.items = search rules in
    if-ok c.take_line.result (λ over step read r. last-step over c.args.self.now c.take_line.new.self read some step r) c.take_line.ensures.goes
