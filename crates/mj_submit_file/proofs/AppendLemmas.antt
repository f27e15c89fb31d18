-- What an append makes of a file, and what a crash of it leaves.
use Rattle.std.proofs.Common.{◌≡◌, ℕ, ◌+◌, ◌≤◌, false, List, [], ◌∷◌, ◌++◌, ◌⊎◌, length, Option, Some, None, is_some, refl, sym, ◌∙◌, ap, subst, inl, inr, arith}
use Rattle.mj_disk.specs.Content.{Content, IsImage}
use Rattle.mj_disk.specs.DiskModel.{History, IsSettled, LeavesOnly, Now, latest}
use Rattle.mj_disk.specs.declared.disk.Disk.{Ghosts}
use Rattle.mj_disk.proofs.Images.{settled_is}
use Rattle.mj_disk.proofs.Moments.{leaves_weaker, rests, started, told_before}
use Rattle.mj_journal.specs.Appending.{Appends, CrashesOldOrNew, EndsAt, StandsForEither}
use Rattle.mj_journal.specs.FileText.{IsHeader, Stands, end_of}
use Rattle.mj_journal.proofs.Files.{end_of-push, length-header}
use Rattle.mj_submit.specs.Notes.{note_in, payload_of, with_note}
use Rattle.mj_submit.specs.declared.note.Note.{Note}
use Rattle.mj_submit_file.specs.Files.{AppendsNote, IsEither, IsFile, Holds, IsHeld, IsSettledFile, Knows, LeavesEither}
use Rattle.mj_submit_file.specs.declared.file.SubmitFile.{SubmitFile}
use Rattle.mj_submit_file.proofs.ReadLemmas.{payload-of-note, progress-push}

-- the file, as an append asks for it
pub ends-held : {D : Type 0} (disks : Ghosts D) (file : SubmitFile) (disk : D) → IsHeld disks file disk → Now (disks.told disk) (EndsAt file.journal.end)
ends-held disks file disk held history is =
    let stands = (held.1.stands history is).1 in
    (stands.1.0, held.0, length-header stands.0 stands.1.0 stands.1.1, stands.1.2, held.1.knows.end_is)

-- ---- one more

pub record IsMore (old new : SubmitFile) (payload : List ℕ) (note : Note) : Type 0 where
  pub spells : payload ≡ payload_of note
  pub back : note_in payload ≡ Some note
  pub next : with_note old.progress note ≡ Some new.progress
  pub end_is : new.journal.end ≡ old.journal.end + (length payload + 5)
  pub unspent : new.journal.spent ≡ false

knows-more : (payloads : List (List ℕ)) (old new : SubmitFile) (payload : List ℕ) (note : Note) → Knows payloads old → IsMore old new payload note → Knows (payloads ++ payload ∷ []) new
knows-more payloads old new payload note knows more = record {
  lawful = progress-push payloads payload old.progress knows.lawful ∙ payload-of-note payload note old.progress more.back ∙ more.next;
  end_is = more.end_is ∙ end_of-push payloads payload old.journal.end knows.end_is;
  unspent = more.unspent;
}

pub appends-note : {D : Type 0} (disks : Ghosts D) (old new : SubmitFile) (disk after : D) (payload : List ℕ) (note : Note) → IsMore old new payload note → is_some (disks.told after) ≡ is_some (disks.told disk) → disks.settled_now after
    → ((history : History) → disks.told after ≡ Some history → disks.settled_now after → IsSettled history.now) → Appends payload old.journal.end (disks.told disk) (disks.told after) → AppendsNote disks note old disk new after
appends-note disks old new disk after payload note more telling settled clean appends = (
  more.next,
  λ payloads holds.
      subst (λ (p : List ℕ). Holds disks (payloads ++ p ∷ []) new after) more.spells
      (record {
        knows = knows-more payloads old new payload note holds.knows more;
        settled = settled;
        stands = λ history is.
            let before = told_before (disks.told disk) (disks.told after) history telling is in
            let stands = (holds.stands before.0 before.1).1 in
            let now = appends before.0 stands.1.0 payloads before.1 (length-header stands.0 stands.1.0 stands.1.1) stands.1.2 holds.knows.end_is in
            let same : now.0 ≡ history = cc (now.1, is) in
            let here : Stands stands.1.0 (payloads ++ payload ∷ []) history.now.octets = subst (λ (h : History). Stands stands.1.0 (payloads ++ payload ∷ []) h.now.octets) same now.2 in
            (clean history is settled, (stands.0, (stands.1.0, stands.1.1, here)));
      }),
)

-- ---- images

pub settled-file : (payloads : List (List ℕ)) (held : Content) (image : List ℕ) → IsSettledFile payloads held → IsImage held image → IsFile payloads image
settled-file payloads held image file is =
    let same : image ≡ held.octets = settled_is held.octets image (subst (λ (c : Content). IsImage c image) file.0 is) in
    subst (λ (l : List ℕ). IsFile payloads l) (sym same) file.1

-- where nothing was written
resting : (moment : ℕ) (told : Option History) (P : List ℕ → Type 0) → ((history : History) → told ≡ Some history → latest history.past ≤ moment) → Now told (λ held. (image : List ℕ) → IsImage held image → P image) → LeavesOnly (moment, moment) told told P
resting moment None P timely each = rests (moment, moment) None None P refl refl (omega arith)
resting moment (Some history) P timely each = started (Some history) history moment P refl (timely history refl) (each history refl)

pub stays-either : {D : Type 0} (disks : Ghosts D) (note : Note) (file : SubmitFile) (disk : D) → ((history : History) → disks.told disk ≡ Some history → latest history.past ≤ disks.time disk) → LeavesEither disks note file disk disk
stays-either disks note file disk timely payloads holds =
    resting (disks.time disk) (disks.told disk) (IsEither payloads note) timely (λ history is image now. inl (settled-file payloads history.now image (holds.stands history is) now))

by-head : (base : ℕ) (payloads : List (List ℕ)) (payload head image : List ℕ) → IsHeader base head → StandsForEither head payloads payload image → IsFile payloads image ⊎ IsFile (payloads ++ payload ∷ []) image
by-head base payloads payload head image is (inl old) = inl (base, (head, is, old))
by-head base payloads payload head image is (inr new) = inr (base, (head, is, new))

leaves : (payloads : List (List ℕ)) (payload : List ℕ) (note : Note) (end : ℕ) (moments : ℕ × ℕ) (before after : Option History) → payload ≡ payload_of note → end ≡ end_of payloads → Now before (IsSettledFile payloads) → is_some after ≡ is_some before → moments.0 ≤ moments.1 → CrashesOldOrNew payload end moments before after → LeavesOnly moments before after (IsEither payloads note)
leaves payloads payload note end moments None after spells end_is file telling later crash = rests moments None after (IsEither payloads note) refl telling later
leaves payloads payload note end moments (Some history) after spells end_is file telling later crash =
    let f = file history refl in
    let stands = f.1 in
    leaves_weaker moments (Some history) after (StandsForEither stands.1.0 payloads payload) (IsEither payloads note)
    (crash history stands.1.0 payloads refl f.0 (length-header stands.0 stands.1.0 stands.1.1) stands.1.2 end_is)
    (λ image one. subst (λ (p : List ℕ). IsFile payloads image ⊎ IsFile (payloads ++ p ∷ []) image) spells (by-head stands.0 payloads payload stands.1.0 image stands.1.1 one))

pub leaves-either : {D : Type 0} (disks : Ghosts D) (note : Note) (payload : List ℕ) (file : SubmitFile) (disk after : D) → payload ≡ payload_of note → is_some (disks.told after) ≡ is_some (disks.told disk) → disks.time disk ≤ disks.time after → CrashesOldOrNew payload file.journal.end (disks.time disk, disks.time after) (disks.told disk) (disks.told after) → LeavesEither disks note file disk after
leaves-either disks note payload file disk after spells telling later crash payloads holds =
    leaves payloads payload note file.journal.end (disks.time disk, disks.time after) (disks.told disk) (disks.told after) spells holds.knows.end_is holds.stands telling later crash
