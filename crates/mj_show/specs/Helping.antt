-- What `help` prints.
use Rattle.std.specs.Prelude.{ℕ, ◌≡◌, List, [], ◌∷◌, ◌++◌, Option, codes}
use Rattle.std.specs.Io.KnownBytes.{Appends, Keeps}
use Rattle.std.specs.List.{flat_map}
use Rattle.mj_base.specs.Rising.{Rose}
use Rattle.mj_base.specs.Writing.{AppendsFront}

-- the commands, in the order in which the documents name them
abbrev pub commands : List (List ℕ)
commands = codes "help" ∷ codes "replay" ∷ codes "tickets" ∷ codes "show" ∷ codes "gen" ∷ codes "broker" ∷ codes "client" ∷ codes "worker" ∷ codes "compact" ∷ codes "bridge" ∷ codes "audit" ∷ codes "ship" ∷ codes "follow" ∷ []

-- `commands`, and each name behind a space
abbrev pub help_line : List ℕ
help_line = codes "commands" ++ (flat_map (λ name. 32 ∷ name) commands ++ codes "\n")

-- what the sink has got before and now, its failures before and now, and the status
pub data Helps (old new : Option (List ℕ)) (before now : ℕ) (status : ℕ) : Type 0 where
  Printed : status ≡ 0 → Appends old new help_line → Helps old new before now status
  Starved : status ≡ 4 → Keeps old new → Helps old new before now status
  Unwritten : status ≡ 7 → Rose before now → AppendsFront old new help_line → Helps old new before now status
