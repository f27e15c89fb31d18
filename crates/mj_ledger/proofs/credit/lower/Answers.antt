use Rattle.std.proofs.Common.{◌≡◌, ◌-◌, cond, Bool, true, false, Some, ℕ, arith, refl, rules, sym, ◌∙◌}
use Rattle.std.specs.Option.{unwrap_or}
use Rattle.std.specs.Str.{bytes_eq}
use Rattle.mj_ledger.specs.Found.{found}
use Rattle.mj_ledger.proofs.BookLemmas.{book-updates, lent}
use Rattle.mj_ledger.proofs.credit.lower.Goals as goal

less-one : (b : Bool) (n : ℕ) → cond b (n - 1) n ≡ n - cond b 1 0
less-one true n = refl
less-one false n = omega arith

pub returns-in-Some-clause-less : goal.returns-in-Some-clause-less
returns-in-Some-clause-less c = λ q.
    lent c.args.credits.now (c.get_mut.follows.lender c.take_one.new.count) c.args.key.now (Some c.in-Some.count.now) c.take_one.new.count (λ o. unwrap_or o 0) (λ n. n - 1)
    (book-updates c.args.key.now c.args.credits.now (c.get_mut.follows.lender c.take_one.new.count) (Some c.take_one.new.count) ((c.get_mut.follows.holds c.take_one.new.count).3 (search rules)))
    (sym c.in-Some.ensures.value)
    c.take_one.ensures.less
    q
    ∙ less-one (bytes_eq c.args.key.now q) (unwrap_or (found c.args.credits.now q) 0)
