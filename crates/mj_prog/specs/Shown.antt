-- The lines that are printed.
use Rattle.std.specs.Prelude.{ℕ, true, false, List, [], ◌∷◌, ◌++◌, codes}
use Rattle.std.specs.Fmt.{decimal}
use Rattle.hex.specs.Hex.{encode_lower}
use Rattle.mj_base.specs.declared.reason.Reason.{Reason}
use Rattle.mj_base.specs.declared.reason.Reason.TheVariants as reasons
use Rattle.mj_base.specs.declared.event.Note.{Note}
use Rattle.mj_base.specs.declared.event.Note.TheVariants as notes
use Rattle.mj_base.specs.declared.event.Out.{Out}
use Rattle.mj_base.specs.declared.event.Out.TheVariants as outs
use Rattle.mj_prog.specs.declared.halt.StoreFault.{StoreFault}
use Rattle.mj_prog.specs.declared.halt.StoreFault.TheVariants as stores

abbrev pub reason_word : Reason → List ℕ
reason_word reasons.BadSignature = codes "bad-signature"
reason_word reasons.BadVersion = codes "bad-version"
reason_word reasons.BadMechanism = codes "bad-mechanism"
reason_word reasons.BadFlags = codes "bad-flags"
reason_word reasons.BadHandshake = codes "bad-handshake"
reason_word reasons.BadSocketType = codes "bad-socket-type"
reason_word reasons.TooMany = codes "too-many"
reason_word reasons.TooLong = codes "too-long"
reason_word reasons.Slow = codes "slow"
reason_word reasons.QueueFull = codes "queue-full"

abbrev pub put_line : ℕ → List ℕ → List ℕ
put_line lane digits = codes "put " ++ (decimal lane ++ (codes " " ++ (digits ++ codes "\n")))

abbrev pub end_line : ℕ → List ℕ → ℕ → List ℕ
end_line lane reason at = codes "end " ++ (decimal lane ++ (codes " " ++ (reason ++ (codes " " ++ (decimal at ++ codes "\n")))))

-- `store shut K`; `store open K kept` where the command in doubt was found, `store open K plain` where it wasn't
abbrev pub note_line : Note → List ℕ
note_line (notes.Shut act) = codes "store shut " ++ (decimal act ++ codes "\n")
note_line (notes.Again act true) = codes "store open " ++ (decimal act ++ codes " kept\n")
note_line (notes.Again act false) = codes "store open " ++ (decimal act ++ codes " plain\n")

-- `put L HEX` for a piece, `end L REASON AT` for an end
abbrev pub line_of_out : Out → List ℕ
line_of_out (outs.Piece lane piece) = put_line lane (encode_lower piece)
line_of_out (outs.End lane reason at) = end_line lane (reason_word reason) at
line_of_out (outs.Note note) = note_line note

abbrev pub shown : List Out → List ℕ
shown [] = []
shown (out ∷ outs) = line_of_out out ++ shown outs

abbrev pub fault_line : ℕ → List ℕ
fault_line number = codes "fault line " ++ (decimal number ++ codes "\n")

-- why a file is refused as a store
abbrev pub store_line : StoreFault → List ℕ
store_line stores.NotAStore = codes "fault store not-a-store\n"
store_line (stores.Version version) = codes "fault store version " ++ (decimal version ++ codes "\n")
store_line (stores.Damaged at) = codes "fault store damaged " ++ (decimal at ++ codes "\n")

abbrev pub fault_disk : List ℕ
fault_disk = codes "fault disk\n"
