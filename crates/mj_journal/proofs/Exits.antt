-- Which exit a call took, by its answer.
use Rattle.std.proofs.Common.{◌≡◌, Bool, true, false, refl, sym, ◌∙◌}
use Rattle.std.specs.Prelude.{Result, Ok, Err, IfOk, OnOk, OnErr, IsErrOf}
use Rattle.mj_journal.specs.declared.fault.AppendFault.{AppendFault}
use Rattle.mj_journal.specs.declared.fault.AppendFault.TheVariants.{Spent, NoMemory, DiskFault}

pub all_ok : {T E P Q R S : Type 0} (r : Result T E) → (P → Q → R → S) → OnOk r P → OnOk r Q → OnOk r R → OnOk r S
all_ok (Ok x) f p q s = f p q s
all_ok (Err e) f p q s = tt

-- of an append that isn't spent afterwards
pub unspent_exits : {T : Type 0} (r : Result T AppendFault) (P : Type 0) (spent : Bool) → spent ≡ false → OnOk r P → (IsErrOf r Spent → spent ≡ true) → (IsErrOf r NoMemory → P) → (IsErrOf r DiskFault → spent ≡ true) → P
unspent_exits (Ok x) P spent clean ok was_spent same failed = ok
unspent_exits (Err Spent) P spent clean ok was_spent same failed = absurd (let e : true ≡ false = sym (was_spent refl) ∙ clean in cc)
unspent_exits (Err NoMemory) P spent clean ok was_spent same failed = same refl
unspent_exits (Err DiskFault) P spent clean ok was_spent same failed = absurd (let e : true ≡ false = sym (failed refl) ∙ clean in cc)

pub both_at_ok : {T E : Type 0} (r : Result T E) (P Q S : T → Type 0) → ((x : T) → P x → Q x → S x) → IfOk r P → IfOk r Q → IfOk r S
both_at_ok (Ok x) P Q S f p q = f x p q
both_at_ok (Err e) P Q S f p q = tt

pub either_exit : {T E R S : Type 0} {P : T → Type 0} (r : Result T E) → ((x : T) → P x → S) → (R → S) → IfOk r P → OnErr r R → S
either_exit (Ok x) ok err p q = ok x p
either_exit (Err e) ok err p q = err q
