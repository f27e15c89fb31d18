-- The last lines of the two commands.
use Rattle.std.specs.Prelude.{ℕ, List, ◌++◌, codes}
use Rattle.std.specs.Fmt.{decimal}
use Rattle.mj_copy_prog.specs.declared.refusal.Refusal.{Refusal}
use Rattle.mj_copy_prog.specs.declared.refusal.Refusal.TheVariants as refusals

abbrev pub no_answer_line : ℕ → List ℕ
no_answer_line n = codes "fault no-answer " ++ (decimal n ++ codes "\n")

-- why a file is refused
abbrev pub store_line : Refusal → List ℕ
store_line refusals.NotAStore = codes "fault store not-a-store\n"
store_line (refusals.Version version) = codes "fault store version " ++ (decimal version ++ codes "\n")
store_line (refusals.Damaged at) = codes "fault store damaged " ++ (decimal at ++ codes "\n")
store_line (refusals.Base base) = codes "fault store base " ++ (decimal base ++ codes "\n")

abbrev pub fault_disk : List ℕ
fault_disk = codes "fault disk\n"
