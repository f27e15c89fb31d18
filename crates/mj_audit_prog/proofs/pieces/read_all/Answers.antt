use Rattle.std.proofs.Common.{arith, subst}
use Rattle.mj_audit_prog.specs.AuditingSoFar.{Turned}
use Rattle.mj_audit_prog.specs.declared.pieces.Turn.{Turn}
use Rattle.mj_audit_prog.proofs.ReadLemmas.{if-ok}
use Rattle.mj_audit_prog.proofs.RunLemmas.{audited-over, turned-full}
use Rattle.mj_audit_prog.proofs.pieces.read_all.Goals as goal

pub returns-in-Over-clause-whole : goal.returns-in-Over-clause-whole
returns-in-Over-clause-whole g c =
    let i = c.loop.invariant in
    let from = g.S.Source.left c.args.src.now in
    let left = g.S.Source.left c.step.new.src in
    audited-over from (g.S.Source.left c.loop.src) left c.loop.reader c.step.new.reader c.loop.taken i.read c.in-Over.verdict i.so_far
    (subst (λ (t : Turn). Turned t from left c.step.new.reader i.read) c.in-Over.is (c.in_ok-count.ensures.goes from i.read i.so_far))

pub returns-clause-whole : goal.returns-clause-whole
returns-clause-whole g c =
    let i = c.loop.invariant in
    let t = i.turns in
    let over = c.loop-test.false in
    let from = g.S.Source.left c.args.src.now in
    let left = g.S.Source.left c.loop.src in
    if-ok c.read_end-2.result (λ verdict whole. whole from left i.read (turned-full from left c.loop.reader c.loop.taken i.read i.so_far (omega (arith, over, t)))) c.read_end-2.ensures.whole
