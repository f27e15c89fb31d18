-- The words of the program, which are those behind its name.
use Rattle.std.specs.Prelude.{ℕ, ◌≡◌, ◌≤◌, ◌&&◌, ◌||◌, Bool, true, false, not, nat_eq, nat_lt, length, List, [], ◌∷◌, Option, Some, None, if◌then◌else◌, codes, replicate}
use Rattle.std.specs.List.{starts_with}
use Rattle.std.specs.Str.{bytes_eq}
use Rattle.hex.specs.Hex.{decode_sized}
use Rattle.mj_prog.specs.declared.words.Command.{Command}
use Rattle.mj_prog.specs.declared.words.Command.TheVariants as commands
use Rattle.mj_prog.specs.declared.words.Load.{Load}
use Rattle.mj_prog.specs.declared.words.Options.{Options}
use Rattle.mj_prog.specs.declared.words.Tool.{Tool}
use Rattle.mj_prog.specs.declared.words.Tool.TheVariants as tools
use Rattle.mj_words.specs.Options.{are_options, is_among, number_between, once_or, values_of}
use Rattle.mj_prog.specs.Script.{decoded}

-- ---- options

-- a seed: 32 bytes in hex, of either case
abbrev pub seed_of : List ℕ → Option (List ℕ)
seed_of text = decoded (decode_sized text 32)

-- with a store, or without one
abbrev pub options_with : Bool → Option ℕ → Option (List ℕ) → Option Options
options_with stored None seed = None
options_with stored (Some lanes) None = None
options_with stored (Some lanes) (Some seed) = Some (record { stored = stored; lanes = lanes; seed = seed })

-- `--lanes N` and `--seed H`: where they aren't given, 64 lanes and a seed of zeros
abbrev pub options_of : Bool → List (List ℕ) → Option Options
options_of stored words =
    if are_options (is_among (codes "--lanes") (codes "--seed") (codes "--seed")) words
    then options_with stored (once_or 64 (number_between 1 64) (values_of (codes "--lanes") words)) (once_or (replicate 32 0) seed_of (values_of (codes "--seed") words))
    else None

-- ---- the place, and what is asked for

-- a file's name isn't empty, isn't `-`, and doesn't begin with `--`
abbrev pub is_file : List ℕ → Bool
is_file name = nat_lt 0 (length name) && (not (bytes_eq name (codes "-")) && not (starts_with nat_eq name (codes "--")))

-- `-` is no store
abbrev pub is_place : List ℕ → Bool
is_place place = bytes_eq place (codes "-") || is_file place

abbrev pub replay_with : Option Options → Option Command
replay_with None = None
replay_with (Some options) = Some (commands.Replay options)

abbrev pub replay_in : List ℕ → List (List ℕ) → Option Command
replay_in place options = if is_place place then replay_with (options_of (is_file place) options) else None

abbrev pub tickets_in : List ℕ → List (List ℕ) → Option Command
tickets_in file [] = if is_file file then Some commands.Tickets else None
tickets_in file (word ∷ more) = None

-- a load of so many requests
abbrev pub load_with : Bool → Option ℕ → Option Command
load_with stored None = None
load_with stored (Some requests) = Some (commands.Gen (record { stored = stored; requests = requests }))

abbrev pub gen_in : List ℕ → List (List ℕ) → Option Command
gen_in place [] = None
gen_in place (number ∷ []) = if is_place place then load_with (is_file place) (number_between 1 60000 number) else None
gen_in place (number ∷ word ∷ more) = None

-- a place, `replay`, and its options; a file and `tickets`; or a place, `gen`, and a number
abbrev pub command_at : List ℕ → List ℕ → List (List ℕ) → Option Command
command_at place command more =
    if bytes_eq command (codes "replay") then replay_in place more
    else if bytes_eq command (codes "tickets") then tickets_in place more
    else if bytes_eq command (codes "gen") then gen_in place more
    else None

abbrev pub command_in : List (List ℕ) → Option Command
command_in [] = None
command_in (place ∷ []) = None
command_in (place ∷ command ∷ more) = command_at place command more

abbrev pub dashed_tool : List ℕ → Option Tool
dashed_tool word =
    if bytes_eq word (codes "show") then Some tools.Show
    else if bytes_eq word (codes "audit") then Some tools.Audit
    else None

-- what needs no broker: `help` alone, `- show` and `- audit`
abbrev pub tool_in : List (List ℕ) → Option Tool
tool_in [] = None
tool_in (word ∷ []) = if bytes_eq word (codes "help") then Some tools.Help else None
tool_in (place ∷ word ∷ []) = if bytes_eq place (codes "-") then dashed_tool word else None
tool_in (place ∷ word ∷ other ∷ more) = None

-- the words ask for nothing that there is
abbrev pub AskForNothing : List (List ℕ) → Type 0
AskForNothing words = (tool_in words ≡ None) × (command_in words ≡ None)

-- ---- by the command

abbrev pub options_for : Option Command → Option Options
options_for None = None
options_for (Some (commands.Replay options)) = Some options
options_for (Some commands.Tickets) = None
options_for (Some (commands.Gen load)) = None

-- the options, where the words ask for a replay
abbrev pub options_in : List (List ℕ) → Option Options
options_in words = options_for (command_in words)

abbrev pub is_listing : Option Command → Bool
is_listing None = false
is_listing (Some (commands.Replay options)) = false
is_listing (Some commands.Tickets) = true
is_listing (Some (commands.Gen load)) = false

-- the words ask for the tickets of a file
abbrev pub asks_for_tickets : List (List ℕ) → Bool
asks_for_tickets words = is_listing (command_in words)

abbrev pub is_over_file : Option Command → Bool
is_over_file None = false
is_over_file (Some (commands.Replay options)) = options.stored
is_over_file (Some commands.Tickets) = true
is_over_file (Some (commands.Gen load)) = load.stored

abbrev pub load_for : Option Command → Option Load
load_for None = None
load_for (Some (commands.Replay options)) = None
load_for (Some commands.Tickets) = None
load_for (Some (commands.Gen load)) = Some load

-- 1 to 60,000 requests
abbrev pub IsLoad : Load → Type 0
IsLoad load = (1 ≤ load.requests) × (load.requests ≤ 60000)

-- the load, where the words ask for one
abbrev pub load_in : List (List ℕ) → Option Load
load_in words = load_for (command_in words)

-- what they ask for is done over a file
abbrev pub has_file : List (List ℕ) → Bool
has_file words = is_over_file (command_in words)
