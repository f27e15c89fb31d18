-- What a disk holds at one moment, and what a crash at that moment may leave.
use Rattle.std.specs.Prelude.{◌≡◌, ℕ, ◌+◌, ◌<◌, ◌≤◌, ◌⊎◌, max, List, [], ◌∷◌, ◌++◌, length, get_or, take, drop}

-- what a read gives, what stood there at the last good sync, where it was written since (offset and length,
-- oldest first), and the greatest size since
pub record Content : Type 0 where
  pub octets : List ℕ
  pub synced : List ℕ
  pub ranges : List (ℕ × ℕ)
  pub greatest : ℕ

-- the offset is in none of the ranges
abbrev pub InNone : ℕ → List (ℕ × ℕ) → Type 0
InNone k [] = Unit {0}
InNone k (range ∷ ranges) = ((k < range.0) ⊎ (range.0 + range.1 ≤ k)) × InNone k ranges

-- A crash may leave any bytes where it was written since the last good sync, and any size between.
pub record IsImage (held : Content) (image : List ℕ) : Type 0 where
  pub no_shorter : length held.synced ≤ length image
  pub no_longer : length image ≤ held.greatest
  pub kept : (k : ℕ) → k < length held.synced → InNone k held.ranges → get_or image k 0 ≡ get_or held.synced k 0

-- all of it is synced: the only image is what a read gives
abbrev pub settled : List ℕ → Content
settled octets = record { octets = octets; synced = octets; ranges = []; greatest = length octets }

-- these bytes over the old ones, from an offset on
abbrev pub spliced : ℕ → List ℕ → List ℕ → List ℕ
spliced at octets old = take at old ++ octets ++ drop (at + length octets) old

-- the range counts as written
abbrev pub touched : ℕ → ℕ → Content → Content
touched at n held = record {
  octets = held.octets;
  synced = held.synced;
  ranges = held.ranges ++ (at, n) ∷ [];
  greatest = max held.greatest (at + n);
}

-- the bytes are written, and not yet synced
abbrev pub written : ℕ → List ℕ → Content → Content
written at octets held = record {
  octets = spliced at octets held.octets;
  synced = held.synced;
  ranges = held.ranges ++ (at, length octets) ∷ [];
  greatest = max held.greatest (at + length octets);
}

-- any bytes in the range, a size between the old and the intended, and nothing else changed
pub record Spoils (at n : ℕ) (old new : List ℕ) : Type 0 where
  pub before : take at new ≡ take at old
  pub behind : drop (at + n) new ≡ drop (at + n) old
  pub no_shorter : length old ≤ length new
  pub no_longer : length new ≤ max (length old) (at + n)
