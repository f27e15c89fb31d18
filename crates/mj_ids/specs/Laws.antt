-- What holds of ids.
use Rattle.std.specs.Prelude.{ℕ, ◌≡◌, ◌^◌, ◌<◌, List, replicate, codes}
use Rattle.mj_ids.specs.Ids.{id_of, text_of, IsIdText}

-- under whatever seeds, tickets with different numbers have different ids
abbrev pub TellsApart : Type 0
TellsApart = (seed other : List ℕ) (m n : ℕ) → m < 2 ^ 62 → n < 2 ^ 62 → id_of seed m ≡ id_of other n → m ≡ n

-- a text is one id at most
abbrev pub SpellsOne : Type 0
SpellsOne = (id other text : List ℕ) → IsIdText id text → IsIdText other text → id ≡ other

-- the words of a seed of zeros at the places 2 to 5, as texts
abbrev pub FirstId : Type 0
FirstId = text_of (id_of (replicate 32 0) 1) ≡ codes "e56a5d40-28bd-8653-8000-000000000001"

abbrev pub SecondId : Type 0
SecondId = text_of (id_of (replicate 32 0) 2) ≡ codes "b819d2bd-1aed-8da0-8000-000000000002"
