-- The words of the command, which are those behind the program's name.
use Rattle.std.specs.Prelude.{ℕ, ◌&&◌, Bool, false, not, nat_eq, nat_lt, List, [], ◌∷◌, length, codes}
use Rattle.std.specs.List.{starts_with}
use Rattle.std.specs.Str.{bytes_eq}

-- a file's name isn't empty, isn't `-`, and doesn't begin with `--`
abbrev pub is_file : List ℕ → Bool
is_file name = nat_lt 0 (length name) && (not (bytes_eq name (codes "-")) && not (starts_with nat_eq name (codes "--")))

abbrev pub are_two_files : List ℕ → List ℕ → Bool
are_two_files old new = is_file old && (is_file new && not (bytes_eq old new))

-- a file, `compact`, and another file
abbrev pub asks_to_compact : List (List ℕ) → Bool
asks_to_compact [] = false
asks_to_compact (old ∷ []) = false
asks_to_compact (old ∷ command ∷ []) = false
asks_to_compact (old ∷ command ∷ new ∷ []) = bytes_eq command (codes "compact") && are_two_files old new
asks_to_compact (old ∷ command ∷ new ∷ word ∷ more) = false
