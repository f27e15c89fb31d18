use Rattle.std.proofs.Common.{◌+◌, cond, Bool, List, ℕ, Option, ap, ◌∙◌, sym}
use Rattle.std.specs.Option.{unwrap_or}
use Rattle.std.specs.Str.{bytes_eq}
use Rattle.mj_ledger.specs.Dues.{is_credit}
use Rattle.mj_ledger.specs.Found.{found}
use Rattle.mj_ledger.specs.Keys.{reply_key}
use Rattle.mj_ledger.proofs.KeyLemmas.{key-kind, on-ok}
use Rattle.mj_ledger.proofs.credit.credit.Goals as goal

pub returns-in_ok-reply_key-in-Some : goal.returns-in_ok-reply_key-in-Some
returns-in_ok-reply_key-in-Some c =
    on-ok c.raise.result
    (λ more q s l b.
    more (reply_key q s l b)
    ∙ ap (λ (x : Bool). unwrap_or (found c.args.credits.now (reply_key q s l b)) 0 + cond {A = ℕ} x 1 0)
    (ap (λ (k : List ℕ). bytes_eq k (reply_key q s l b)) (c.in_ok-reply_key-in-Some.ensures ∙ ap (λ (n : List ℕ). reply_key c.args.to.now n c.args.last c.args.body.now) c.as_slice.ensures)
    ∙ key-kind c.args.to.now c.in-Some.service c.args.last c.args.body.now q s l b
    ∙ ap (λ (o : Option (List ℕ)). is_credit c.args.to.now o c.args.last c.args.body.now q s l b) (sym c.in-Some.is)))
    c.raise.ensures
