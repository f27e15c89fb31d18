-- The notes of lists that are joined.
use Rattle.std.proofs.Common.{◌≡◌, List, [], ◌∷◌, ◌++◌, refl, ap}
use Rattle.mj_base.specs.declared.event.Note.{Note as AnyNote}
use Rattle.mj_base.specs.declared.event.Out.{Out}
use Rattle.mj_base.specs.declared.event.Out.TheVariants.{End, Note, Piece}
use Rattle.mj_machine.specs.DiskActs.{notes_in}

pub notes-append : (xs ys : List Out) → notes_in (xs ++ ys) ≡ notes_in xs ++ notes_in ys
notes-append [] ys = refl
notes-append (Piece lane octets ∷ xs) ys = notes-append xs ys
notes-append (End lane reason at ∷ xs) ys = notes-append xs ys
notes-append (Note note ∷ xs) ys = ap (λ (notes : List AnyNote). note ∷ notes) (notes-append xs ys)
