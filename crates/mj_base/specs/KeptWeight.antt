-- What bytes and frames count in a bound on memory.
use Rattle.std.specs.Prelude.{ℕ, ◌+◌, ◌*◌, List, length, sum_by}

abbrev pub weight_of_octets : List ℕ → ℕ
weight_of_octets octets = length octets

-- the bytes of a list of frames, as a message's body, and 32 for each frame
abbrev pub weight_of : List (List ℕ) → ℕ
weight_of frames = sum_by length frames + 32 * length frames
