-- Why a host fails, seen from an earlier call.
use Rattle.std.proofs.Common.{◌≤◌, ℕ, Result, Ok, Err, IfErr, arith}
use Rattle.mj_base.specs.Rising.{Rose}
use Rattle.mj_net.specs.Hosts.{HostCause}
use Rattle.mj_net.specs.declared.hosting.HostFault.{HostFault}
use Rattle.mj_net.specs.declared.hosting.HostFault.TheVariants.{Listen, Spawn, NoMemory}

rose-from : (a b c : ℕ) → a ≤ b → Rose b c → Rose a c
rose-from a b c first rose = omega arith

pub cause-since : (fault : HostFault) (before now a b c : ℕ) → a ≤ b → HostCause fault before now b c → HostCause fault before now a c
cause-since Listen before now a b c first cause = cause
cause-since Spawn before now a b c first cause = rose-from a b c first cause
cause-since NoMemory before now a b c first cause = tt

pub failed-since : {X : Type 0} (r : Result X HostFault) (a b c : ℕ) → a ≤ b → IfErr r (λ fault. (before now : ℕ) → HostCause fault before now b c)
    → IfErr r (λ fault. (before now : ℕ) → HostCause fault before now a c)
failed-since (Ok x) a b c first failed = tt
failed-since (Err fault) a b c first failed = λ before now. cause-since fault before now a b c first (failed before now)
