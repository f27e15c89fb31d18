use Rattle.std.proofs.Common.{arith}
use Rattle.mj_submit_file.proofs.NoteLemmas.{IsBytes, if-note, if-no-note}
use Rattle.mj_submit_file.proofs.reading.read_note.Goals as goal

pub returns-clause-found : goal.returns-clause-found
returns-clause-found c =
    let bytes : IsBytes c.args.payload.now = λ i. omega (arith, c.type_inv.payload i) in
    if-note c.args.payload.now _ bytes c.note_of.ensures

pub returns-clause-only : goal.returns-clause-only
returns-clause-only c = if-no-note c.args.payload.now _ c.note_of.ensures
