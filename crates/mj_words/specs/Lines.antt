-- Printed lines.
use Rattle.std.specs.Prelude.{ℕ, ◌⊎◌, List, [], ◌∷◌, ◌++◌, take, Option, codes}
use Rattle.std.specs.Fmt.{decimal}
use Rattle.std.specs.Io.KnownBytes.{Appends}
use Rattle.hex.specs.Hex.{encode_lower}
use Rattle.mj_base.specs.Rising.{Rose}
use Rattle.mj_words.specs.SinkCounts.{SinkCounts}

-- ---- frames

-- a frame in hex, an empty one as `-`
abbrev pub frame_word : List ℕ → List ℕ
frame_word [] = codes "-"
frame_word (c ∷ cs) = encode_lower (c ∷ cs)

-- each frame behind a space
abbrev pub frames_text : List (List ℕ) → List ℕ
frames_text [] = []
frames_text (frame ∷ frames) = (32 ∷ frame_word frame) ++ frames_text frames

abbrev pub body_line : List ℕ → List (List ℕ) → List ℕ
body_line word body = word ++ (frames_text body ++ codes "\n")

-- ---- last lines

abbrev pub done_line : ℕ → List ℕ
done_line n = codes "done " ++ (decimal n ++ codes "\n")

abbrev pub fault_words : List ℕ
fault_words = codes "fault words\n"

abbrev pub fault_read : List ℕ
fault_read = codes "fault read\n"

-- behind these bytes a line: whole; not at all, where the sink wanted memory; or a front of it, where the write failed
abbrev pub AppendsLine : Option (List ℕ) → Option (List ℕ) → SinkCounts → SinkCounts → List ℕ → List ℕ → Type 0
AppendsLine old new before now bytes line =
    Appends old new (bytes ++ line)
    ⊎ (Rose before.wants now.wants × Appends old new bytes)
    ⊎ (Rose before.faults now.faults × ((n : ℕ) × Appends old new (bytes ++ take n line)))
