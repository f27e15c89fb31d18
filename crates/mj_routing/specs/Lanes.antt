-- Connections by rising number, and the table of the numbers on their lanes.
use Rattle.std.specs.Prelude.{ℕ, zero, suc, ◌≡◌, ◌≢◌, ◌<◌, ◌≤◌, nat_eq, ⊤, List, [], ◌∷◌}
use Rattle.std.specs.HashMap.{HashMap, get}
use Rattle.mj_machine.specs.declared.connection.Connection.{Connection}
use Rattle.mj_machine.specs.declared.connection.Role.TheVariants.{Fresh}
use Rattle.mj_machine.specs.Connections.{number_on}

-- a connection that has sent nothing, and to which nothing was sent
abbrev pub fresh : ℕ → ℕ → Connection
fresh lane number = record { lane = lane; number = number; role = Fresh; outstanding = [] }

-- every number is below this one
abbrev pub AreBelow : ℕ → List Connection → Type 0
AreBelow n [] = ⊤
AreBelow n (c ∷ cs) = (c.number < n) × AreBelow n cs

-- every number is above this one
abbrev pub AllAbove : ℕ → List Connection → Type 0
AllAbove n [] = ⊤
AllAbove n (c ∷ cs) = (n < c.number) × AllAbove n cs

-- the numbers rise
abbrev pub Rise : List Connection → Type 0
Rise [] = ⊤
Rise (c ∷ cs) = AllAbove c.number cs × Rise cs

-- the numbers rise, and are below the next one
abbrev pub AreRising : ℕ → List Connection → Type 0
AreRising next cs = Rise cs × AreBelow next cs

-- none is on this lane
abbrev pub AllElsewhere : ℕ → List Connection → Type 0
AllElsewhere lane [] = ⊤
AllElsewhere lane (c ∷ cs) = (c.lane ≢ lane) × AllElsewhere lane cs

-- each is alone on its lane
abbrev pub AreAlone : List Connection → Type 0
AreAlone [] = ⊤
AreAlone (c ∷ cs) = AllElsewhere c.lane cs × AreAlone cs

-- the numbers rise, each connection is alone on its lane, and the table has the number on each lane
pub record AreIndexed {S : Type 0} (cs : List Connection) (lanes : HashMap ℕ ℕ S) : Type 0 where
  pub rise : Rise cs
  pub alone : AreAlone cs
  pub table : (lane : ℕ) → get nat_eq lanes lane ≡ number_on lane cs

-- the numbers in front of the place are below this one, and the one at the place isn't
abbrev pub IsSplit : ℕ → List Connection → ℕ → Type 0
IsSplit n [] zero = ⊤
IsSplit n [] (suc at) = ⊥
IsSplit n (c ∷ cs) zero = n ≤ c.number
IsSplit n (c ∷ cs) (suc at) = (c.number < n) × IsSplit n cs at
