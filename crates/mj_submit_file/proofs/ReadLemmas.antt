-- One note more of a file, or why it can't be read.
use Rattle.std.proofs.Common.{◌≡◌, ℕ, ◌+◌, List, [], ◌∷◌, ◌++◌, length, Option, Some, None, refl, sym, ◌∙◌, ap, subst, inl, inr, arith}
use Rattle.std.specs.Option.{option_and_then}
use Rattle.mj_disk.specs.DiskModel.{History, Now}
use Rattle.mj_journal.specs.FileText.{end_of}
use Rattle.mj_journal.specs.Opening.{IsNextFault, IsNotNext, ReadTo, ReadsAll, ReadsOne}
use Rattle.mj_journal.specs.declared.fault.OpenFault.{OpenFault}
use Rattle.mj_journal.specs.declared.fault.OpenFault.TheVariants.{NotAStore, Version, Damaged, DiskFault, NoMemory}
use Rattle.mj_journal.proofs.Files.{end_of-push}
use Rattle.mj_submit.specs.Notes.{note_in, progress_from, progress_of, with_note, with_payload}
use Rattle.mj_submit.specs.declared.note.Note.{Note}
use Rattle.mj_submit.specs.declared.progress.Progress.{Progress}
use Rattle.mj_submit_file.specs.Files.{HasAll, HasRead, IsBad, IsDamaged, IsUnread}

-- ---- one payload more

last-one : (o : Option Progress) → option_and_then (progress_from []) o ≡ o
last-one None = refl
last-one (Some p) = refl

behind-one : (payloads : List (List ℕ)) (payload : List ℕ) (o : Option Progress) → ((p : Progress) → progress_from (payloads ++ payload ∷ []) p ≡ option_and_then (with_payload payload) (progress_from payloads p)) → option_and_then (progress_from (payloads ++ payload ∷ [])) o ≡ option_and_then (with_payload payload) (option_and_then (progress_from payloads) o)
behind-one payloads payload None more = refl
behind-one payloads payload (Some p) more = more p

from-push : (payloads : List (List ℕ)) (payload : List ℕ) (p : Progress) → progress_from (payloads ++ payload ∷ []) p ≡ option_and_then (with_payload payload) (progress_from payloads p)
from-push [] payload p = last-one (with_payload payload p)
from-push (first ∷ payloads) payload p = behind-one payloads payload (with_payload first p) (λ q. from-push payloads payload q)

pub progress-push : (payloads : List (List ℕ)) (payload : List ℕ) (p : Progress) → progress_of payloads ≡ Some p → progress_of (payloads ++ payload ∷ []) ≡ with_payload payload p
progress-push payloads payload p is = from-push payloads payload _ ∙ ap (option_and_then (with_payload payload)) is

pub payload-of-note : (payload : List ℕ) (note : Note) (p : Progress) → note_in payload ≡ Some note → with_payload payload p ≡ with_note p note
payload-of-note payload note p is = ap (option_and_then (with_note p)) is

pub payload-of-none : (payload : List ℕ) (p : Progress) → note_in payload ≡ None → with_payload payload p ≡ None
payload-of-none payload p is = ap (option_and_then (with_note p)) is

-- ---- reading

pub next-unread : (base gate : ℕ) (p : Progress) (told : Option History) (fault : OpenFault) → HasRead base gate p told → IsNextFault fault → Now told (IsNotNext gate fault) → IsUnread base fault told
next-unread base gate p told NotAStore read kind not_next = absurd kind
next-unread base gate p told (Version version) read kind not_next = absurd kind
next-unread base gate p told (Damaged at) read kind not_next = λ history is.
    let torn = not_next history is in
    subst (λ (n : ℕ). IsDamaged base n history.now) (sym torn.0) (p, read.0, read.1, read.2 history is, inl torn.1)
next-unread base gate p told DiskFault read kind not_next = tt
next-unread base gate p told NoMemory read kind not_next = tt

pub reads-whole : (base gate next : ℕ) (p : Progress) (told : Option History) → next ≡ gate → HasRead base gate p told → Now told (ReadsAll base gate) → HasAll base next p told
reads-whole base gate next p told same read all =
    subst (λ (n : ℕ). HasAll base n p told) (sym same)
    (read.0, read.1, λ history is. let r = read.2 history is in (r.0, r.1.is_header, (all history is).1 r.0 read.0 r.1))

pub reads-bad : (base gate at next : ℕ) (p : Progress) (told : Option History) (payload : List ℕ) → at ≡ gate → HasRead base gate p told → Now told (ReadsOne base gate next payload) → with_payload payload p ≡ None → Now told (IsDamaged base at)
reads-bad base gate at next p told payload same read one bad = λ history is.
    let r = read.2 history is in
    let none : progress_of (read.0 ++ payload ∷ []) ≡ None = progress-push read.0 payload p read.1.lawful ∙ bad in
    let whole : IsBad base gate read.0 history.now.octets = inr (payload, next, r.0, (one history is).1 r.0 read.0 r.1, none) in
    subst (λ (n : ℕ). IsDamaged base n history.now) (sym same) (p, read.0, read.1, r, whole)

pub reads-more : (base gate next : ℕ) (p q : Progress) (told : Option History) (payload : List ℕ) → next ≡ gate + (5 + length payload) → with_payload payload p ≡ Some q → HasRead base gate p told → Now told (ReadsOne base gate next payload) → HasRead base next q told
reads-more base gate next p q told payload next_is some read one =
    let place : gate + (5 + length payload) ≡ gate + (length payload + 5) = omega arith in (
      read.0 ++ payload ∷ [],
      record { lawful = progress-push read.0 payload p read.1.lawful ∙ some; gate_is = next_is ∙ place ∙ end_of-push read.0 payload gate read.1.gate_is },
      λ history at_now. let r = read.2 history at_now in (r.0, (one history at_now).1 r.0 read.0 r.1),
    )
