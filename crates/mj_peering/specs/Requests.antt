-- The requests of a client's input: each line is one, without its newline; of a line of more than 65,536 bytes each
-- 65,536 are one, and what is left of it.
use Rattle.std.specs.Prelude.{ℕ, ◌≡◌, ◌==◌, nat_lt, ⊤, Bool, true, false, ◌&&◌, List, [], ◌∷◌, ◌++◌, length, take, drop, Option, None, Some, if◌then◌else◌}
use Rattle.std.specs.Option.{option_map}
use Rattle.mj_base.specs.Rising.{Rose}
use Rattle.mj_peering.specs.declared.stop.Stop.{Stop}
use Rattle.mj_peering.specs.declared.stop.Stop.TheVariants as stops

-- the line that is read: whether it was cut, and what came of it since
pub record Line : Type 0 where
  pub cut : Bool
  pub piece : List ℕ

abbrev pub line_start : Line
line_start = record { cut = false; piece = [] }

-- the newline: what came since is a request, unless the line was cut there
abbrev pub ended : Line → List (List ℕ)
ended l = if l.cut && (length l.piece == 0) then [] else l.piece ∷ []

abbrev pub grown : Line → Line × List (List ℕ)
grown l = if nat_lt (length l.piece) 65536 then (l, []) else (record { cut = true; piece = [] }, l.piece ∷ [])

-- one byte more, and the request that it completes
abbrev pub takes : ℕ → Line → Line × List (List ℕ)
takes c l = if c == 10 then (line_start, ended l) else grown (record { cut = l.cut; piece = l.piece ++ c ∷ [] })

-- the last line may lack its newline
abbrev pub last : Line → List (List ℕ)
last l = if length l.piece == 0 then [] else l.piece ∷ []

abbrev pub requests_from : Line → List ℕ → List (List ℕ)
requests_from l [] = last l
requests_from l (c ∷ cs) = (takes c l).1 ++ requests_from (takes c l).0 cs

-- the requests of an input
abbrev pub requests : List ℕ → List (List ℕ)
requests text = requests_from line_start text

-- a known list begins with these, and loses them
abbrev pub Uses : {X : Type 0} → Option (List X) → Option (List X) → List X → Type 0
Uses None now xs = ⊤
Uses (Some all) None xs = ⊥
Uses (Some all) (Some rest) xs = all ≡ xs ++ rest

-- where it is known, nothing is left
abbrev pub IsOver : {X : Type 0} → Option (List X) → Type 0
IsOver None = ⊤
IsOver (Some xs) = xs ≡ []

-- what a feed has read and not given yet stands before what its source has left
abbrev pub unread : List ℕ → ℕ → ℕ → Option (List ℕ) → Option (List ℕ)
unread buffer at len left = option_map (λ l. drop at (take len buffer) ++ l) left

-- the requests that are still to come, behind a line's beginning
abbrev pub to_come : Line → Option (List ℕ) → Option (List (List ℕ))
to_come l known = option_map (requests_from l) known

-- what taking a byte made of a line, where the piece was whole or wasn't
abbrev pub Takes : ℕ → Line → Bool → Bool → List ℕ → Type 0
Takes c l cut true piece = takes c l ≡ (record { cut = cut; piece = [] }, piece ∷ [])
Takes c l cut false piece = takes c l ≡ (record { cut = cut; piece = piece }, [])

-- a read that failed raised its source's count; want of memory is free
abbrev pub ReadCause : Stop → ℕ → ℕ → Type 0
ReadCause stops.NoMemory before now = ⊤
ReadCause stops.Read before now = Rose before now
ReadCause stops.Write before now = ⊥
