use Rattle.std.proofs.Common.{◌≡◌, sym, ◌∙◌, List, ℕ, ap, subst}
use Rattle.mj_submit.specs.Notes.{note_in, payload_of}
use Rattle.mj_submit_file.proofs.AppendLemmas.{appends-note, ends-held, leaves-either, stays-either}
use Rattle.mj_submit_file.proofs.file.SubmitFile.append.Goals as goal

pub returns-in_default-clause-crash : goal.returns-in_default-clause-crash
returns-in_default-clause-crash g c = stays-either g.D.Disk c.args.note.now c.args.self.now c.args.disk.now (g.met.D.Disk.in_time c.args.disk.now)

pub returns-in_default-note_payload-clause-crash : goal.returns-in_default-note_payload-clause-crash
returns-in_default-note_payload-clause-crash g c = stays-either g.D.Disk c.args.note.now c.args.self.now c.args.disk.now (g.met.D.Disk.in_time c.args.disk.now)

pub append-requires-clause-file : goal.append-requires-clause-file
append-requires-clause-file g c = λ unspent. ends-held g.D.Disk c.args.self.now c.args.disk.now c.requires.held

pub returns-in-Ok-append-clause-appended : goal.returns-in-Ok-append-clause-appended
returns-in-Ok-append-clause-appended g c = λ yes.
    appends-note g.D.Disk c.args.self.now _ c.args.disk.now c.append.new.disk c.as_slice.result.now c.args.note.now
    (record {
      spells = c.as_slice.ensures ∙ c.in-Ok.ensures.spells;
      back = ap note_in c.as_slice.ensures ∙ c.in-Ok.ensures.read;
      next = sym c.with_note.ensures ∙ c.in-Some.is;
      end_is = c.in-Ok-append.ensures.end;
      unspent = c.in-Ok-append.ensures.unspent;
    })
    c.append.ensures.telling c.in-Ok-append.ensures.settled (g.met.D.Disk.settled_told c.append.new.disk) c.in-Ok-append.ensures.appended

pub returns-in-Ok-append-clause-crash : goal.returns-in-Ok-append-clause-crash
returns-in-Ok-append-clause-crash g c =
    leaves-either g.D.Disk c.args.note.now c.as_slice.result.now c.args.self.now c.args.disk.now c.append.new.disk (c.as_slice.ensures ∙ c.in-Ok.ensures.spells) c.append.ensures.telling c.append.ensures.later c.append.ensures.crash

pub returns-in-Err-NoMemory-clause-crash : goal.returns-in-Err-NoMemory-clause-crash
returns-in-Err-NoMemory-clause-crash g c =
    leaves-either g.D.Disk c.args.note.now c.as_slice.result.now c.args.self.now c.args.disk.now c.append.new.disk (c.as_slice.ensures ∙ c.in-Ok.ensures.spells) c.append.ensures.telling c.append.ensures.later c.append.ensures.crash

pub returns-clause-crash : goal.returns-clause-crash
returns-clause-crash g c =
    leaves-either g.D.Disk c.args.note.now c.as_slice.result.now c.args.self.now c.args.disk.now c.append.new.disk (c.as_slice.ensures ∙ c.in-Ok.ensures.spells) c.append.ensures.telling c.append.ensures.later c.append.ensures.crash
