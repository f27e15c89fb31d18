use Rattle.std.proofs.Common.{◌≡◌, true, false, not, List, ℕ, ap, length, ltb, sym, ◌∙◌}
use mathlib.Core.Bool.{◌&&◌}
use Rattle.std.specs.List.{list_any}
use Rattle.mj_ledger.specs.Dues.{waits_for_of}
use Rattle.mj_ledger.specs.Events.{is_passed}
use Rattle.mj_ledger.specs.Found.{hand_at, queue_at}
use Rattle.mj_ledger.proofs.ClearLemmas.{clear-none, clear-passed, clear-some}
use Rattle.mj_ledger.proofs.tables.Tables.is_clear.Goals as goal

pub returns-then-is_passed : goal.returns-then-is_passed
returns-then-is_passed c = λ es s kept.
    let passed : is_passed c.in-Some.service ≡ true = ap is_passed (sym c.as_slice.ensures) ∙ sym c.is_passed.ensures ∙ c.if-is_passed.true in
    c.if-is_passed.true ∙ sym (clear-passed c.args.self.now es c.in-Some.service s c.in-Some.is passed)

pub returns-else-is_passed : goal.returns-else-is_passed
returns-else-is_passed c = λ es s kept.
    let judged : is_passed c.in-Some.service ≡ false = ap is_passed (sym c.as_slice.ensures) ∙ sym c.is_passed.ensures ∙ c.if-is_passed.false in
    ap not (c.keeps_from.ensures
    ∙ ap (λ (n : List ℕ). list_any (λ who. waits_for_of (hand_at c.args.self.now.peers who) n) c.args.self.now.present.items && list_any (λ who. ltb 0 (length (queue_at c.args.self.now.peers who n))) c.args.self.now.present.items) c.as_slice-else-is_passed.ensures)
    ∙ clear-some c.args.self.now es c.in-Some.service s kept c.in-Some.is judged

pub returns-in-None : goal.returns-in-None
returns-in-None c = λ es s kept. sym (clear-none c.args.self.now es s c.in-None.is)
