-- Why a host fails.
use Rattle.std.specs.Prelude.{ℕ, ⊤}
use Rattle.mj_base.specs.Rising.{Rose}
use Rattle.mj_net.specs.declared.hosting.HostFault.{HostFault}
use Rattle.mj_net.specs.declared.hosting.HostFault.TheVariants.{Listen, Spawn, NoMemory}

-- the door's count of faults before and now, and the spawner's
abbrev pub HostCause : HostFault → ℕ → ℕ → ℕ → ℕ → Type 0
HostCause Listen door_before door spawner_before spawner = Rose door_before door
HostCause Spawn door_before door spawner_before spawner = Rose spawner_before spawner
HostCause NoMemory door_before door spawner_before spawner = ⊤
