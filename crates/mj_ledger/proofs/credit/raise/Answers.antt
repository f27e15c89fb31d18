use Rattle.std.proofs.Common.{◌≡◌, ◌+◌, cond, Bool, true, false, Some, None, List, ℕ, ap, arith, refl, rules, sym, ◌∙◌, subst}
use Rattle.std.specs.Option.{unwrap_or}
use Rattle.std.specs.Str.{bytes_eq}
use Rattle.mj_ledger.specs.Found.{found}
use Rattle.mj_ledger.proofs.BookLemmas.{book-updates, lent}
use Rattle.mj_ledger.proofs.credit.raise.Goals as goal

one-more : (b : Bool) (n : ℕ) → cond b (n + 1) n ≡ n + cond b 1 0
one-more true n = refl
one-more false n = omega arith

pub returns-in-Some : goal.returns-in-Some
returns-in-Some c = λ q.
    let key = c.as_slice.result.now in
    let w = c.add_one.new.count in
    subst (λ (k : List ℕ). unwrap_or (found (c.get_mut.follows.lender w) q) 0 ≡ unwrap_or (found c.args.credits.now q) 0 + cond {A = ℕ} (bytes_eq k q) 1 0) c.as_slice.ensures.value
    (lent c.args.credits.now (c.get_mut.follows.lender w) key (Some c.in-Some.count.now) w (λ o. unwrap_or o 0) (λ n. n + 1)
    (book-updates key c.args.credits.now (c.get_mut.follows.lender w) (Some w) ((c.get_mut.follows.holds w).3 (search rules)))
    (sym c.in-Some.ensures.value)
    c.in_ok-add_one.ensures
    q
    ∙ one-more (bytes_eq key q) (unwrap_or (found c.args.credits.now q) 0))

pub returns : goal.returns
returns c = λ q.
    let key = c.args.key.items in
    let none : found c.args.credits.now key ≡ None = ap (found c.args.credits.now) (sym c.as_slice.ensures.value) ∙ sym c.in_default.ensures.value in
    lent c.args.credits.now c.insert.new.self key None 1 (λ o. unwrap_or o 0) (λ n. n + 1)
    (λ p. book-updates key c.get_mut.follows.lender-at-none c.insert.new.self (Some 1) c.in_ok-insert.ensures.updates p ∙ ap (λ m. cond (bytes_eq key p) (Some 1) (found m p)) c.get_mut.follows.holds-at-none)
    none
    refl
    q
    ∙ one-more (bytes_eq key q) (unwrap_or (found c.args.credits.now q) 0)
