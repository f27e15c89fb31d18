-- No two statuses have the same number.
use Rattle.std.proofs.Common.{◌≡◌, ℕ, ◌∙◌, refl, sym, ap, cond, eqb}
use Rattle.mj_copy_prog.specs.Statuses.{code_of}
use Rattle.mj_copy_prog.specs.declared.status.Status.{Status}
use Rattle.mj_copy_prog.specs.declared.status.Status.TheVariants as statuses

abbrev status_of : ℕ → Status
status_of n =
    cond (eqb n 0) statuses.Done (cond (eqb n 1) statuses.Words (cond (eqb n 3) statuses.Store (cond (eqb n 4) statuses.NoMemory
    (cond (eqb n 5) statuses.Disk (cond (eqb n 6) statuses.Read (cond (eqb n 7) statuses.Write statuses.NoAnswer))))))

coded : (s : Status) → status_of (code_of s) ≡ s
coded statuses.Done = refl
coded statuses.Words = refl
coded statuses.Store = refl
coded statuses.NoMemory = refl
coded statuses.Disk = refl
coded statuses.Read = refl
coded statuses.Write = refl
coded statuses.NoAnswer = refl

pub same_status : (a b : Status) (n : ℕ) → n ≡ code_of a → n ≡ code_of b → a ≡ b
same_status a b n one other = sym (coded a) ∙ ap status_of (sym one ∙ other) ∙ coded b
