use Rattle.std.proofs.Common.{◌≡◌, ℕ, List, Some, None, sym, ap, ◌∙◌}
use Rattle.mj_submit.specs.Notes.{note_in, with_payload}
use Rattle.mj_submit_file.proofs.ReadLemmas.{next-unread, payload-of-none, payload-of-note, reads-bad, reads-more, reads-whole}
use Rattle.mj_submit_file.proofs.opening.read_more.Goals as goal

pub returns-in-Err-clause-unread : goal.returns-in-Err-clause-unread
returns-in-Err-clause-unread g c =
    next-unread _ c.args.opening.now.next c.args.progress.now _ c.in-Err.fault c.requires.read c.in-Err.ensures.kind c.in-Err.ensures.refused

pub returns-then-not-more-clause-all : goal.returns-then-not-more-clause-all
returns-then-not-more-clause-all g c = λ no.
    reads-whole c.args.opening.now.base c.args.opening.now.next _ c.args.progress.now _ (c.in-Ok.ensures.stay c.if-not-more.true).0 c.requires.read (c.in-Ok.ensures.end c.if-not-more.true)

pub returns-in_default-clause-unread : goal.returns-in_default-clause-unread
returns-in_default-clause-unread g c =
    let none : note_in c.next.new.payload ≡ None = ap note_in (sym c.as_slice.ensures) ∙ sym c.read_note.ensures.exact ∙ c.in_default.is in
    reads-bad c.args.opening.now.base c.args.opening.now.next _ c.next.new.self.next c.args.progress.now _ c.next.new.payload (c.gate.ensures ∙ c.in-Ok.ensures.last c.if-not-more.false) c.requires.read (c.in-Ok.ensures.read c.if-not-more.false)
    (payload-of-none c.next.new.payload c.args.progress.now none)

pub returns-in_default-with_note-clause-unread : goal.returns-in_default-with_note-clause-unread
returns-in_default-with_note-clause-unread g c =
    let some : note_in c.next.new.payload ≡ Some c.in-Some.note = ap note_in (sym c.as_slice.ensures) ∙ sym c.read_note.ensures.exact ∙ c.in-Some.is in
    reads-bad c.args.opening.now.base c.args.opening.now.next _ c.next.new.self.next c.args.progress.now _ c.next.new.payload (c.gate-in_default-with_note.ensures ∙ c.in-Ok.ensures.last c.if-not-more.false) c.requires.read (c.in-Ok.ensures.read c.if-not-more.false)
    (payload-of-note c.next.new.payload c.in-Some.note c.args.progress.now some ∙ sym c.with_note.ensures ∙ c.in_default-with_note.is)

pub returns-clause-more : goal.returns-clause-more
returns-clause-more g c = λ yes.
    let some : note_in c.next.new.payload ≡ Some c.in-Some.note = ap note_in (sym c.as_slice.ensures) ∙ sym c.read_note.ensures.exact ∙ c.in-Some.is in
    reads-more c.args.opening.now.base c.args.opening.now.next c.next.new.self.next c.args.progress.now c.in-Some-with_note.next _ c.next.new.payload (c.in-Ok.ensures.place c.if-not-more.false)
    (payload-of-note c.next.new.payload c.in-Some.note c.args.progress.now some ∙ sym c.with_note.ensures ∙ c.in-Some-with_note.is)
    c.requires.read (c.in-Ok.ensures.read c.if-not-more.false)
