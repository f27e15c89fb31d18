-- Pairs of a connection's number and its deadline, in a list.
use Rattle.std.specs.Prelude.{ℕ, zero, suc, ◌==◌, nat_le, Bool, false, not, if◌then◌else◌, List, [], ◌∷◌, map, Option, None, Some}
use Rattle.std.specs.List.{filter, list_any}

abbrev pub has_entry : ℕ → List (ℕ × ℕ) → Bool
has_entry conn entries = list_any (λ e. e.0 == conn) entries

abbrev pub without_entry : ℕ → List (ℕ × ℕ) → List (ℕ × ℕ)
without_entry conn entries = filter (λ e. not (e.0 == conn)) entries

abbrev pub due_entries : ℕ → List (ℕ × ℕ) → List (ℕ × ℕ)
due_entries moment entries = filter (λ e. nat_le e.1 moment) entries

abbrev pub numbers : List (ℕ × ℕ) → List ℕ
numbers entries = map (λ e. e.0) entries

-- how many numbers in front are below `conn`
abbrev pub place_in : ℕ → List (ℕ × ℕ) → ℕ
place_in conn [] = zero
place_in conn (e ∷ es) = if nat_le conn e.0 then zero else suc (place_in conn es)

-- the entry is that of `conn`
abbrev pub entry_is : ℕ → Option (ℕ × ℕ) → Bool
entry_is conn None = false
entry_is conn (Some e) = e.0 == conn
