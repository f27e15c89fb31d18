use Rattle.std.proofs.Common.{◌≡◌, ℕ, ◌≤◌, ◌+◌, length, List, [], subst, sym, ap, ◌∙◌}
use Rattle.std.proofs.lemmas.Result.{MatchResult-from_err, on_err_weaker}
use Rattle.mj_disk.specs.Content.{Content, spliced}
use Rattle.mj_disk.specs.DiskModel.{History}
use Rattle.mj_disk.proofs.Moments.{told_before}
use Rattle.mj_journal.proofs.Appends.{gate_inside, gate_inside_after, first_leaves, both_leave, first_leaves_either, second_leaves_either}
use Rattle.mj_journal.proofs.journal.put.Goals as goal

pub write_record-requires-clause-inside : goal.write_record-requires-clause-inside
write_record-requires-clause-inside g c history is =
    let ends = c.requires.file history is in
    gate_inside ends.0 ends.1 history.now.octets [] c.args.end ends.2 ends.3 ends.4

pub open_gate-requires : goal.open_gate-requires
open_gate-requires g c mid is =
    let old = told_before _ _ mid c.write_record.ensures.telling is in
    let ends = c.requires.file old.0 old.1 in
    let inside = gate_inside ends.0 ends.1 old.0.now.octets [] c.args.end ends.2 ends.3 ends.4 in
    let becomes = c.in_ok-write_record.ensures.written old.0 old.1 in
    let same : becomes.0 ≡ mid = let e = sym becomes.1 ∙ is in cc in
    let held : mid.now.octets ≡ spliced (c.args.end + 1) c.args.octets.now old.0.now.octets = ap (λ (h : History). h.now.octets) (sym same) ∙ ap (λ (k : Content). k.octets) becomes.2 in
    subst (λ (l : List ℕ). c.args.end ≤ length l) (sym held) (gate_inside_after c.args.end c.args.octets.now old.0.now.octets inside)

pub returns-in_err-write_record-clause-crash : goal.returns-in_err-write_record-clause-crash
returns-in_err-write_record-clause-crash g c payload is_payload spelled =
    first_leaves payload c.args.octets.now spelled c.args.end _ _ _ c.write_record.ensures.crash

pub returns-clause-crash : goal.returns-clause-crash
returns-clause-crash g c payload is_payload spelled =
    both_leave payload c.args.octets.now spelled c.args.end _ _ _ _ _ _ is_payload c.write_record.ensures.crash c.in_ok-write_record.ensures.written c.open_gate.ensures.crash

pub returns-in_err-write_record-clause-left : goal.returns-in_err-write_record-clause-left
returns-in_err-write_record-clause-left g c =
    MatchResult-from_err c.from_residual.result _ _ c.from_residual.ensures.0 (λ y payload is_payload spelled.
    first_leaves_either payload c.args.octets.now c.args.end _ _ _ c.in_err-write_record.ensures.spoiled)

pub returns-clause-left : goal.returns-clause-left
returns-clause-left g c =
    on_err_weaker c.open_gate.result
    (λ spoiled payload is_payload spelled.
    second_leaves_either payload c.args.octets.now c.args.end _ _ _ spelled is_payload c.in_ok-write_record.ensures.written spoiled)
    c.open_gate.ensures.spoiled
