-- Worked payloads.
use Rattle.std.specs.Prelude.{ℕ, ◌≡◌, List, [], ◌∷◌, map, None, Some}
use Rattle.mj_journal.specs.FileText.{end_of}
use Rattle.mj_submit.specs.Notes.{none_yet, note_in, payload_of, progress_of}
use Rattle.mj_submit.specs.declared.note.Note.{Note}
use Rattle.mj_submit.specs.declared.note.Note.TheVariants.{Issued, Given, Closed}
use Rattle.mj_submit.specs.declared.progress.Stage.TheVariants.{Ticket, Delivered}

-- the id of ticket 1 under a seed of zeros
abbrev pub first_id : List ℕ
first_id = 229 ∷ 106 ∷ 93 ∷ 64 ∷ 40 ∷ 189 ∷ 134 ∷ 83 ∷ 128 ∷ 0 ∷ 0 ∷ 0 ∷ 0 ∷ 0 ∷ 0 ∷ 1 ∷ []

abbrev pub issued_payload : List ℕ
issued_payload = 73 ∷ 0 ∷ 0 ∷ 0 ∷ 0 ∷ 0 ∷ 0 ∷ 1 ∷ 2 ∷ first_id

abbrev pub given_payload : List ℕ
given_payload = 71 ∷ 0 ∷ 0 ∷ 0 ∷ 0 ∷ 0 ∷ 0 ∷ 1 ∷ 2 ∷ []

abbrev pub closed_payload : List ℕ
closed_payload = 68 ∷ 0 ∷ 0 ∷ 0 ∷ 0 ∷ 0 ∷ 0 ∷ 1 ∷ 2 ∷ []

-- of line 258
abbrev pub ThreePayloads : Type 0
ThreePayloads =
    (payload_of (Issued 258 first_id) ≡ issued_payload)
    × (payload_of (Given 258) ≡ given_payload)
    × (payload_of (Closed 258) ≡ closed_payload)
    × (note_in issued_payload ≡ Some (Issued 258 first_id))
    × (note_in given_payload ≡ Some (Given 258))
    × (note_in closed_payload ≡ Some (Closed 258))

abbrev pub payloads : List Note → List (List ℕ)
payloads notes = map payload_of notes

abbrev pub LawfulLists : Type 0
LawfulLists =
    (progress_of [] ≡ Some none_yet)
    × (progress_of (payloads (Issued 1 first_id ∷ [])) ≡ Some (record { closed = 0; stage = Ticket first_id }))
    × (progress_of (payloads (Issued 1 first_id ∷ Given 1 ∷ [])) ≡ Some (record { closed = 0; stage = Delivered first_id }))
    × (progress_of (payloads (Issued 1 first_id ∷ Given 1 ∷ Closed 1 ∷ Issued 2 first_id ∷ [])) ≡ Some (record { closed = 1; stage = Ticket first_id }))

-- nothing is lawful before the ticket, out of order, twice, or of another line
abbrev pub IsUnlawful : List (List ℕ) → Type 0
IsUnlawful payloads = progress_of payloads ≡ None

abbrev pub UnlawfulLists : Type 0
UnlawfulLists =
    IsUnlawful (payloads (Given 1 ∷ []))
    × IsUnlawful (payloads (Closed 1 ∷ []))
    × IsUnlawful (payloads (Issued 2 first_id ∷ []))
    × IsUnlawful (payloads (Issued 1 first_id ∷ Issued 2 first_id ∷ []))
    × IsUnlawful (payloads (Issued 1 first_id ∷ Closed 1 ∷ []))
    × IsUnlawful (payloads (Issued 1 first_id ∷ Given 2 ∷ []))
    × IsUnlawful (payloads (Issued 1 first_id ∷ Given 1 ∷ Given 1 ∷ []))
    × IsUnlawful (payloads (Issued 1 first_id ∷ Given 1 ∷ Closed 1 ∷ Given 2 ∷ []))
    × IsUnlawful (payloads (Issued 1 (0 ∷ first_id) ∷ []))
    × IsUnlawful ([] ∷ [])
    × IsUnlawful ((65 ∷ 0 ∷ 0 ∷ 0 ∷ 0 ∷ 0 ∷ 0 ∷ 0 ∷ 1 ∷ []) ∷ [])

-- where the closed gate stands behind a line's second record, and behind its third
abbrev pub FilesGrow : Type 0
FilesGrow = (end_of (payloads (Issued 1 first_id ∷ Given 1 ∷ [])) ≡ 60) × (end_of (payloads (Issued 1 first_id ∷ Given 1 ∷ Closed 1 ∷ [])) ≡ 74)
