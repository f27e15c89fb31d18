use Rattle.std.proofs.Common.{◌≡◌, cond, true, List, ℕ, subst}
use Rattle.std.specs.Str.{bytes_eq}
use Rattle.mj_ledger.specs.Found.{has}
use Rattle.mj_ledger.proofs.BookLemmas.{set-updates}
use Rattle.mj_ledger.proofs.credit.claim.Goals as goal

pub returns : goal.returns
returns c = λ q.
    subst (λ (k : List ℕ). has c.insert.new.self q ≡ cond (bytes_eq k q) true (has c.args.claimed.now q)) c.in_ok-from_slice.ensures.items
    (set-updates c.in_ok-from_slice.field-0.items c.args.claimed.now c.insert.new.self true c.in_ok-insert.ensures.updates q)
