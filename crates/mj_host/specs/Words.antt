-- The words of the broker over sockets, which are those behind the program's name.
use Rattle.std.specs.Prelude.{ℕ, ◌&&◌, Bool, not, nat_lt, false, List, [], ◌∷◌, length, take, Option, Some, None, if◌then◌else◌, codes}
use Rattle.std.specs.Str.{bytes_eq}
use Rattle.mj_words.specs.Options.{are_options, is_among, number_between, once_or, values_of}

-- at least one byte, and not as an option begins
abbrev pub is_word : List ℕ → Bool
is_word word = nat_lt 0 (length word) && not (bytes_eq (take 2 word) (codes "--"))

abbrev pub both : Option ℕ → Option ℕ → Option (ℕ × ℕ)
both None millis = None
both (Some lanes) None = None
both (Some lanes) (Some millis) = Some (lanes, millis)

-- `--lanes N`, from 1 to 64, and `--for N`, from 1 to 1,000,000,000,000 ms; where they aren't given, 64 lanes, and 0 for no
-- end
abbrev pub numbers_of : List (List ℕ) → Option (ℕ × ℕ)
numbers_of words =
    if are_options (is_among (codes "--lanes") (codes "--for") (codes "--for")) words
    then both (once_or 64 (number_between 1 64) (values_of (codes "--lanes") words)) (once_or 0 (number_between 1 1000000000000) (values_of (codes "--for") words))
    else None

-- a place, `broker` and an address, and the options behind them
abbrev pub numbers_in : List (List ℕ) → Option (ℕ × ℕ)
numbers_in [] = None
numbers_in (place ∷ []) = None
numbers_in (place ∷ command ∷ []) = None
numbers_in (place ∷ command ∷ address ∷ options) =
    if is_word place && (bytes_eq command (codes "broker") && is_word address) then numbers_of options else None

-- the place is the file of a store, and not `-`
abbrev pub has_store : List (List ℕ) → Bool
has_store [] = false
has_store (place ∷ rest) = not (bytes_eq place (codes "-"))
