-- The words of the two commands, which are those behind the program's name.
use Rattle.std.specs.Prelude.{ℕ, ◌==◌, ◌&&◌, Bool, not, nat_eq, List, [], ◌∷◌, length, Option, None, if◌then◌else◌, codes}
use Rattle.std.specs.List.{starts_with}
use Rattle.std.specs.Str.{bytes_eq}
use Rattle.mj_words.specs.Options.{are_options, is_among, number_between, once_or, values_of}

-- at least one byte, and not `--` in front
abbrev pub is_address : List ℕ → Bool
is_address address = not (length address == 0) && not (starts_with nat_eq address (codes "--"))

-- nor is it `-`
abbrev pub is_file : List ℕ → Bool
is_file name = is_address name && not (bytes_eq name (codes "-"))

-- `--tries N`: 1 to 100, and 3 where it isn't given
abbrev pub tries_behind : List (List ℕ) → Option ℕ
tries_behind options =
    if are_options (is_among (codes "--tries") (codes "--tries") (codes "--tries")) options then once_or 3 (number_between 1 100) (values_of (codes "--tries") options) else None

-- a file, the command, an address, and options; None where the words aren't these
abbrev pub tries_among : List ℕ → List (List ℕ) → Option ℕ
tries_among command [] = None
tries_among command (file ∷ []) = None
tries_among command (file ∷ word ∷ []) = None
tries_among command (file ∷ word ∷ address ∷ options) = if bytes_eq word command && (is_file file && is_address address) then tries_behind options else None
