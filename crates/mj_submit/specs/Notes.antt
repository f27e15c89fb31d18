-- The payloads of the submitter's file, and which lists of them are lawful. Numbers have their most significant byte
-- first.
use Rattle.std.specs.Prelude.{ℕ, ◌≡◌, ◌+◌, ◌==◌, ◌<◌, ◌^◌, List, [], ◌∷◌, ◌++◌, length, take, drop, Option, None, Some, option_map, option_and_then, if◌then◌else◌}
use Rattle.std.specs.Int.{from_be_bytes, to_be_bytes, w64}
use Rattle.mj_ids.specs.Ids.{IsId, id_in}
use Rattle.mj_submit.specs.declared.note.Note.{Note}
use Rattle.mj_submit.specs.declared.note.Note.TheVariants.{Issued, Given, Closed}
use Rattle.mj_submit.specs.declared.progress.Progress.{Progress}
use Rattle.mj_submit.specs.declared.progress.Stage.{Stage}
use Rattle.mj_submit.specs.declared.progress.Stage.TheVariants.{Fresh, Ticket, Delivered}

-- ---- payloads

unfoldable pub line_octets : ℕ → List ℕ
line_octets line = to_be_bytes w64 line

-- `I`, `G` and `D`, each with the line's number, and the first one with the ticket's id
abbrev pub payload_of : Note → List ℕ
payload_of (Issued line id) = 73 ∷ (line_octets line ++ id)
payload_of (Given line) = 71 ∷ line_octets line
payload_of (Closed line) = 68 ∷ line_octets line

-- what the parts of a note are
abbrev pub HasParts : Note → Type 0
HasParts (Issued line id) = (line < 2 ^ 64) × IsId id
HasParts (Given line) = line < 2 ^ 64
HasParts (Closed line) = line < 2 ^ 64

-- these bytes are this note
pub record IsNote (note : Note) (octets : List ℕ) : Type 0 where
  pub parts : HasParts note
  pub spells : octets ≡ payload_of note

abbrev pub issued_in : List ℕ → Option Note
issued_in octets = if length octets == 24 then option_map (λ id. Issued (from_be_bytes w64 (take 8 octets)) id) (id_in (drop 8 octets)) else None

abbrev pub given_in : List ℕ → Option Note
given_in octets = if length octets == 8 then Some (Given (from_be_bytes w64 octets)) else None

abbrev pub closed_in : List ℕ → Option Note
closed_in octets = if length octets == 8 then Some (Closed (from_be_bytes w64 octets)) else None

abbrev pub by_kind : ℕ → List ℕ → Option Note
by_kind kind rest = if kind == 73 then issued_in rest else (if kind == 71 then given_in rest else (if kind == 68 then closed_in rest else None))

-- the note that a payload is
abbrev pub note_in : List ℕ → Option Note
note_in [] = None
note_in (kind ∷ rest) = by_kind kind rest

-- ---- lists

-- nothing is done
abbrev pub none_yet : Progress
none_yet = record { closed = 0; stage = Fresh }

-- a note is lawful where it is of the first line that isn't closed, and the next of its three
abbrev pub noted : Note → Stage → Progress → Option Progress
noted (Issued line id) Fresh p = if line == p.closed + 1 then Some (record p { stage = Ticket id }) else None
noted (Issued line id) (Ticket other) p = None
noted (Issued line id) (Delivered other) p = None
noted (Given line) Fresh p = None
noted (Given line) (Ticket id) p = if line == p.closed + 1 then Some (record p { stage = Delivered id }) else None
noted (Given line) (Delivered id) p = None
noted (Closed line) Fresh p = None
noted (Closed line) (Ticket id) p = None
noted (Closed line) (Delivered id) p = if line == p.closed + 1 then Some (record { closed = p.closed + 1; stage = Fresh }) else None

abbrev pub with_note : Progress → Note → Option Progress
with_note p note = noted note p.stage p

-- a payload behind others
abbrev pub with_payload : List ℕ → Progress → Option Progress
with_payload payload p = option_and_then (with_note p) (note_in payload)

-- what payloads come to, where they are lawful
abbrev pub progress_from : List (List ℕ) → Progress → Option Progress
progress_from [] p = Some p
progress_from (payload ∷ payloads) p = option_and_then (progress_from payloads) (with_payload payload p)

-- a file is lawful where this is no None
abbrev pub progress_of : List (List ℕ) → Option Progress
progress_of payloads = progress_from payloads none_yet

-- the same of notes
abbrev pub notes_from : List Note → Progress → Option Progress
notes_from [] p = Some p
notes_from (note ∷ notes) p = option_and_then (notes_from notes) (with_note p note)
