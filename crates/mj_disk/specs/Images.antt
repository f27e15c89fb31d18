-- The three images that a disk in memory shows.
use Rattle.std.specs.Prelude.{ℕ, List, length, take, drop, replicate, fold, if◌then◌else◌, nat_eq}
use Rattle.mj_disk.specs.Content.{Content, spliced}

-- each byte in the range is FF
abbrev pub marked_at : List ℕ → ℕ × ℕ → List ℕ
marked_at octets range = spliced range.0 (replicate (length (take range.1 (drop range.0 octets))) 255) octets

abbrev pub marked : List (ℕ × ℕ) → List ℕ → List ℕ
marked ranges octets = fold marked_at octets ranges

-- what a read gives, what stood there at the last good sync, and what a read gives with all that was written since
-- as FF
abbrev pub chosen_image : ℕ → Content → List ℕ
chosen_image k held =
    if nat_eq k 0 then held.octets else (if nat_eq k 1 then held.synced else marked held.ranges held.octets)
