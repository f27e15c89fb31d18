-- The record of a disk in memory, and what it says that the disk held.
use Rattle.std.specs.Prelude.{ℕ, ◌-◌, List, [], ◌∷◌, length, take, drop, reverse}
use Rattle.mj_disk.specs.Content.{written, touched, settled}
use Rattle.mj_disk.specs.DiskModel.{History, begun, changed}
use Rattle.mj_disk.specs.declared.entry.Entry.{Entry}
use Rattle.mj_disk.specs.declared.entry.Entry.TheVariants.{Wrote, Touched, Synced}

-- the last bytes of a list, and what stands before them
abbrev pub last_of : ℕ → List ℕ → List ℕ
last_of n octets = drop (length octets - n) octets

abbrev pub front_of : ℕ → List ℕ → List ℕ
front_of n octets = take (length octets - n) octets

-- an entry's bytes are the last of those that are kept
abbrev pub entered : Entry → List ℕ → History → History
entered (Wrote moment at len) kept before = changed moment (written at (last_of len kept) before.now) before
entered (Touched moment at len) kept before = changed moment (touched at len before.now) before
entered (Synced moment) kept before = changed moment (settled before.now.octets) before

abbrev pub kept_before : Entry → List ℕ → List ℕ
kept_before (Wrote moment at len) kept = front_of len kept
kept_before (Touched moment at len) kept = kept
kept_before (Synced moment) kept = kept

-- the newest entry stands first
abbrev pub replayed : List ℕ → List Entry → List ℕ → History
replayed start [] kept = begun start
replayed start (entry ∷ older) kept = entered entry kept (replayed start older (kept_before entry kept))

-- from what the disk began with, its entries, and the bytes of all writes one behind the other
unfoldable pub history_of : List ℕ → List Entry → List ℕ → History
history_of start entries kept = replayed start (reverse entries) kept
