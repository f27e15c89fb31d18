-- The words of the two commands, which are those behind the program's name.
use Rattle.std.specs.Prelude.{ℕ, ◌≤◌, ◌==◌, ◌&&◌, Bool, not, nat_eq, List, [], ◌∷◌, length, Option, Some, None, if◌then◌else◌, codes}
use Rattle.std.specs.List.{starts_with}
use Rattle.std.specs.Str.{bytes_eq}
use Rattle.mj_base.specs.ServiceName.{name_of}
use Rattle.mj_base.specs.declared.version.Version.{Version}
use Rattle.mj_base.specs.declared.version.Version.TheVariants.{One, Two}
use Rattle.mj_words.specs.Options.{are_options, is_among, number_between, once_or, values_of}
use Rattle.mj_peer_prog.specs.declared.task.Asking.{Asking}
use Rattle.mj_peer_prog.specs.declared.task.Serving.{Serving}
use Rattle.mj_peer_prog.specs.declared.task.Task.{Task}
use Rattle.mj_peer_prog.specs.declared.task.Task.TheVariants as tasks

-- the second, made of the first where there is one
abbrev pub with : {A B : Type 0} → Option A → (A → Option B) → Option B
with None make = None
with (Some a) make = make a

-- at least one byte, and not `--` in front
abbrev pub is_address : List ℕ → Bool
is_address address = not (length address == 0) && not (starts_with nat_eq address (codes "--"))

-- `1` or `2`
abbrev pub version_of : List ℕ → Option Version
version_of text = if bytes_eq text (codes "1") then Some One else if bytes_eq text (codes "2") then Some Two else None

-- `--tries N`: 1 to 100, and 3 where it isn't given
abbrev pub tries_in : List (List ℕ) → Option ℕ
tries_in options = once_or 3 (number_between 1 100) (values_of (codes "--tries") options)

-- `--wait N`: 1 to 36,000, and 25 where it isn't given
abbrev pub wait_in : List (List ℕ) → Option ℕ
wait_in options = once_or 25 (number_between 1 36000) (values_of (codes "--wait") options)

-- `--count N`: 1 to 1,000,000,000; 0, which has no end, where it isn't given
abbrev pub count_in : List (List ℕ) → Option ℕ
count_in options = once_or 0 (number_between 1 1000000000) (values_of (codes "--count") options)

-- partial replies are of 0.2 alone
abbrev pub parts_of : Version → ℕ → Option ℕ
parts_of One parts = if parts == 0 then Some parts else None
parts_of Two parts = Some parts

-- `--parts N`: 0 to 100, and 0 where it isn't given
abbrev pub parts_in : Version → List (List ℕ) → Option ℕ
parts_in version options = with (once_or 0 (number_between 0 100) (values_of (codes "--parts") options)) (parts_of version)

abbrev pub asking_with : Version → ℕ → ℕ → List ℕ → Option Asking
asking_with version tries wait service = Some (record { version = version; service = service; tries = tries; wait = wait })

abbrev pub serving_with : Version → ℕ → ℕ → ℕ → List ℕ → Option Serving
serving_with version tries parts count service = Some (record { version = version; service = service; tries = tries; parts = parts; count = count })

-- options come behind all other words, in any order, each at most once
abbrev pub asking_in : List ℕ → List ℕ → List (List ℕ) → Option Asking
asking_in version name options =
    if are_options (is_among (codes "--tries") (codes "--wait") (codes "--wait")) options
    then with (version_of version) (λ v. with (tries_in options) (λ tries. with (wait_in options) (λ wait. with (name_of name) (asking_with v tries wait))))
    else None

abbrev pub serving_in : List ℕ → List ℕ → List (List ℕ) → Option Serving
serving_in version name options =
    if are_options (is_among (codes "--tries") (codes "--count") (codes "--parts")) options
    then with (version_of version) (λ v. with (tries_in options) (λ tries. with (parts_in v options) (λ parts. with (count_in options) (λ count. with (name_of name) (serving_with v tries parts count)))))
    else None

abbrev pub asks : Option Asking → Option Task
asks None = None
asks (Some asking) = Some (tasks.Client asking)

abbrev pub serves : Option Serving → Option Task
serves None = None
serves (Some serving) = Some (tasks.Worker serving)

abbrev pub command_in : List ℕ → List ℕ → List ℕ → List (List ℕ) → Option Task
command_in command version name options =
    if bytes_eq command (codes "client") then asks (asking_in version name options)
    else if bytes_eq command (codes "worker") then serves (serving_in version name options)
    else None

abbrev pub addressed_in : List ℕ → List ℕ → List ℕ → List ℕ → List (List ℕ) → Option Task
addressed_in address command version name options = if is_address address then command_in command version name options else None

-- ADDRESS `client` V NAME and ADDRESS `worker` V NAME, and the options behind them
abbrev pub task_in : List (List ℕ) → Option Task
task_in [] = None
task_in (address ∷ []) = None
task_in (address ∷ command ∷ []) = None
task_in (address ∷ command ∷ version ∷ []) = None
task_in (address ∷ command ∷ version ∷ name ∷ options) = addressed_in address command version name options

-- a task has at least one try, and a client's try one quiet event
abbrev pub IsLawful : Task → Type 0
IsLawful (tasks.Client asking) = (1 ≤ asking.tries) × (1 ≤ asking.wait)
IsLawful (tasks.Worker serving) = 1 ≤ serving.tries
