-- Faults of the opening, as those of a run.
use Rattle.std.proofs.Common.{◌≡◌, Option, Some, None, Result, Ok, Err, IfErr, sym, ◌∙◌}
use Rattle.mj_disk.specs.DiskModel.{History}
use Rattle.mj_journal.specs.declared.fault.OpenFault.{OpenFault}
use Rattle.mj_journal.specs.declared.fault.OpenFault.TheVariants as opening
use Rattle.mj_store.specs.Opening.{IsRefusal, IsUnopened, NoneLawful}
use Rattle.mj_serve.specs.declared.fault.ServeFault.{ServeFault}
use Rattle.mj_serve.specs.declared.fault.ServeFault.TheVariants as faults
use Rattle.mj_serve.specs.Faults.{IsFileFault, IsUnserved, served_as}

pub unserved-of : (fault : OpenFault) (before after : Option History) → IsUnopened fault before after → IsUnserved (served_as fault) before after
unserved-of opening.NotAStore before after is = is
unserved-of (opening.Version version) before after is = is
unserved-of (opening.Damaged at) before after is = is
unserved-of opening.DiskFault before after is = tt
unserved-of opening.NoMemory before after is = tt

pub refusal-of : (fault : OpenFault) → IsFileFault (served_as fault) → IsRefusal fault
refusal-of opening.NotAStore is = tt
refusal-of (opening.Version version) is = tt
refusal-of (opening.Damaged at) is = tt
refusal-of opening.DiskFault is = is
refusal-of opening.NoMemory is = is

-- ---- behind the opening of a disk that tells

told-once : (told opened : Option History) → (opened ≡ None → told ≡ None) → (history : History) × (told ≡ Some history) → opened ≡ None → ⊥
told-once told opened silent telling none = let is : None ≡ Some telling.0 = sym (silent none) ∙ telling.1 in cc

no-file-fault : (fault : ServeFault) (before after : Option History) → (IsFileFault fault → ⊥) → IsUnserved fault before after
no-file-fault faults.NotAStore before after never = absurd (never tt)
no-file-fault (faults.Version version) before after never = absurd (never tt)
no-file-fault (faults.Damaged at) before after never = absurd (never tt)
no-file-fault faults.DiskFault before after never = tt
no-file-fault faults.NoMemory before after never = tt

module _ {S : Type 0} (told opened : Option History) (silent : opened ≡ None → told ≡ None) where
  pub unopened-behind : (result : Result S ServeFault) (after : Option History) → IfErr result (λ fault. IsFileFault fault → opened ≡ None)
      → IfErr result (λ fault. (history : History) × (told ≡ Some history) → IsUnserved fault told after)
  unopened-behind (Ok summary) after refused = tt
  unopened-behind (Err fault) after refused = λ telling. no-file-fault fault told after (λ file. told-once told opened silent telling (refused file))

  pub refused-behind : (R : Type 0) (result : Result S ServeFault) → IfErr result (λ fault. IsFileFault fault → opened ≡ None)
      → IfErr result (λ fault. IsFileFault fault → (history : History) × (told ≡ Some history) → R)
  refused-behind R (Ok summary) refused = tt
  refused-behind R (Err fault) refused = λ file telling. absurd (told-once told opened silent telling (refused file))

  pub lawful-behind : (result : Result S ServeFault) → IfErr result (λ fault. IsFileFault fault → opened ≡ None) → IfErr result (λ fault. IsFileFault fault → NoneLawful told)
  lawful-behind (Ok summary) refused = tt
  lawful-behind (Err fault) refused = λ file base commands opens. told-once told opened silent (opens.history, opens.tells) (refused file)
