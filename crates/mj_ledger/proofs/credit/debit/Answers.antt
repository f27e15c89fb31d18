use Rattle.std.proofs.Common.{◌-◌, cond, Bool, List, ℕ, ap, ◌∙◌}
use Rattle.std.specs.Option.{unwrap_or}
use Rattle.std.specs.Str.{bytes_eq}
use Rattle.mj_ledger.specs.Found.{found}
use Rattle.mj_ledger.specs.Keys.{reply_key}
use Rattle.mj_ledger.proofs.KeyLemmas.{key-kind}
use Rattle.mj_ledger.proofs.credit.debit.Goals as goal

pub returns-clause-less : goal.returns-clause-less
returns-clause-less c = λ q s l b.
    c.lower.ensures.less (reply_key q s l b)
    ∙ ap (λ (x : Bool). unwrap_or (found c.args.credits.now (reply_key q s l b)) 0 - cond {A = ℕ} x 1 0)
    (ap (λ (k : List ℕ). bytes_eq k (reply_key q s l b)) (c.as_slice.ensures.value ∙ c.in_ok-key.ensures) ∙ key-kind c.args.to.now c.args.service.now c.args.last c.args.body.now q s l b)
