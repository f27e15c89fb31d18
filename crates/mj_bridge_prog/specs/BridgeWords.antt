-- The words of the command `bridge`, which are those behind the program's name.
use Rattle.std.specs.Prelude.{ℕ, ◌≤◌, ◌==◌, ◌&&◌, Bool, not, nat_eq, List, [], ◌∷◌, length, Option, Some, None, if◌then◌else◌, codes}
use Rattle.std.specs.List.{starts_with}
use Rattle.std.specs.Str.{bytes_eq}
use Rattle.mj_base.specs.ServiceName.{name_of}
use Rattle.mj_words.specs.Options.{are_options, is_among, number_between, once_or, values_of}
use Rattle.mj_bridge_prog.specs.declared.words.Bridging.{Bridging}

-- the second, made of the first where there is one
abbrev pub with : {A B : Type 0} → Option A → (A → Option B) → Option B
with None make = None
with (Some a) make = make a

-- at least one byte, and not `--` in front
abbrev pub is_address : List ℕ → Bool
is_address address = not (length address == 0) && not (starts_with nat_eq address (codes "--"))

-- `--tries N`: 1 to 100, and 3 where it isn't given
abbrev pub tries_in : List (List ℕ) → Option ℕ
tries_in options = once_or 3 (number_between 1 100) (values_of (codes "--tries") options)

-- `--wait N`: 1 to 36,000, and 25 where it isn't given
abbrev pub wait_in : List (List ℕ) → Option ℕ
wait_in options = once_or 25 (number_between 1 36000) (values_of (codes "--wait") options)

-- `--count N`: 1 to 1,000,000,000; 0, which has no end, where it isn't given
abbrev pub count_in : List (List ℕ) → Option ℕ
count_in options = once_or 0 (number_between 1 1000000000) (values_of (codes "--count") options)

abbrev pub bridging_with : List ℕ → List ℕ → ℕ → ℕ → ℕ → Option Bridging
bridging_with service remote tries wait count = Some (record { service = service; remote = remote; tries = tries; wait = wait; count = count })

-- options come behind all other words, in any order, each at most once
abbrev pub options_in : List ℕ → List ℕ → List (List ℕ) → Option Bridging
options_in service remote options =
    with (tries_in options) (λ tries. with (wait_in options) (λ wait. with (count_in options) (λ count. bridging_with service remote tries wait count)))

abbrev pub named_in : List ℕ → List ℕ → List (List ℕ) → Option Bridging
named_in name remote options =
    if are_options (is_among (codes "--tries") (codes "--wait") (codes "--count")) options
    then with (name_of name) (λ service. with (name_of remote) (λ other. options_in service other options))
    else None

abbrev pub addressed_in : List ℕ → List ℕ → List ℕ → List ℕ → List ℕ → List (List ℕ) → Option Bridging
addressed_in address command name far remote options =
    if is_address address && (bytes_eq command (codes "bridge") && is_address far) then named_in name remote options else None

-- ADDRESS `bridge` NAME ADDRESS2 NAME2, and the options behind them
abbrev pub bridging_in : List (List ℕ) → Option Bridging
bridging_in [] = None
bridging_in (address ∷ []) = None
bridging_in (address ∷ command ∷ []) = None
bridging_in (address ∷ command ∷ name ∷ []) = None
bridging_in (address ∷ command ∷ name ∷ far ∷ []) = None
bridging_in (address ∷ command ∷ name ∷ far ∷ remote ∷ options) = addressed_in address command name far remote options

-- both sides have at least one try, and a far try one quiet event
abbrev pub IsLawful : Bridging → Type 0
IsLawful bridging = (1 ≤ bridging.tries) × (1 ≤ bridging.wait)
