-- The last line of a run.
use Rattle.std.specs.Prelude.{ℕ, Bool, true, false, List, ◌++◌, codes}
use Rattle.std.specs.Fmt.{decimal}
use Rattle.mj_peer_prog.specs.declared.ending.Ending.{Ending}
use Rattle.mj_peer_prog.specs.declared.ending.Ending.TheVariants as endings

abbrev pub no_answer_line : ℕ → List ℕ
no_answer_line n = codes "fault no-answer " ++ (decimal n ++ codes "\n")

-- `done N`, `served N`, `fault no-answer N`
abbrev pub ending_line : Ending → List ℕ
ending_line (endings.Answered n) = codes "done " ++ (decimal n ++ codes "\n")
ending_line (endings.Served n) = codes "served " ++ (decimal n ++ codes "\n")
ending_line (endings.NoAnswer n) = no_answer_line n

-- it wasn't given up
abbrev pub is_good : Ending → Bool
is_good (endings.Answered n) = true
is_good (endings.Served n) = true
is_good (endings.NoAnswer n) = false
