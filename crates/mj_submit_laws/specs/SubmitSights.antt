-- What holds of every run of the submitter, in the words of one who watches it.
use Rattle.std.specs.Prelude.{ℕ, suc, ◌≡◌, ◌+◌, ◌-◌, ◌≤◌, ⊤, ◌⊎◌, Bool, true, false, List, [], ◌∷◌, ◌++◌, Option, None, Some, codes}
use Rattle.mj_base.specs.declared.version.Version.TheVariants.{One}
use Rattle.mj_handshake.specs.declared.socket_type.SocketType.TheVariants.{Req}
use Rattle.mj_ids.specs.Ids.{read_of}
use Rattle.mj_peer.specs.PeerTexts.{hello, request_text}
use Rattle.mj_peer.specs.declared.act.Act.{Act}
use Rattle.mj_peer.specs.declared.act.Act.TheVariants as act
use Rattle.mj_peer_laws.specs.Watching.{AreRight, seen}
use Rattle.mj_submit.specs.Notes.{notes_from, with_note}
use Rattle.mj_submit.specs.SubmitRules.{Acts, AreAllowed, Asks, Call, Closes, Doing, Fetches, Finishes, Hears, NoAnswer, NoReply, Notes, Prints, Question, Refused, Submits, Takes, body_of, doings, fresh, service_of}
use Rattle.mj_submit.specs.declared.note.Note.{Note}
use Rattle.mj_submit.specs.declared.note.Note.TheVariants.{Issued, Given, Closed}
use Rattle.mj_submit.specs.declared.progress.Progress.{Progress}
use Rattle.mj_submit.specs.declared.progress.Stage.{Stage}
use Rattle.mj_submit.specs.declared.progress.Stage.TheVariants.{Fresh, Ticket, Delivered}

-- What was seen so far: how far the file is, and how many lines it had as closed at the start; the lines read; what is
-- asked; the last answer, until it is used; and whether the reply of the first line that isn't closed was printed in this
-- run, or the file had it as given at the start.
pub record Scene : Type 0 where
  pub progress : Progress
  pub had : ℕ
  pub lines : ℕ
  pub question : Option Question
  pub answer : Option (List (List ℕ))
  pub printed : Bool

abbrev pub is_given : Stage → Bool
is_given Fresh = false
is_given (Ticket id) = false
is_given (Delivered id) = true

abbrev pub begins : Progress → Scene
begins p = record { progress = p; had = p.closed; lines = 0; question = None; answer = None; printed = is_given p.stage }

-- the file behind a note; an unlawful one changes nothing
abbrev pub or_same : Progress → Option Progress → Progress
or_same p None = p
or_same p (Some q) = q

-- the reply of a line that is closed is done with
abbrev pub still_printed : Note → Bool → Bool
still_printed (Issued line id) printed = printed
still_printed (Given line) printed = printed
still_printed (Closed line) printed = false

abbrev pub sees : Doing → Scene → Scene
sees (Takes number line) s = record s { lines = number }
sees (Asks question) s = record s { question = Some question }
sees (Acts act) s = s
sees (Hears body) s = record s { answer = Some body }
sees (Prints line body) s = record s { printed = true }
sees (Notes note) s = record s { progress = or_same s.progress (with_note s.progress note); printed = still_printed note s.printed; answer = None }
sees (Refused line code) s = s
sees (NoReply line) s = s
sees (NoAnswer line) s = s
sees (Finishes closed) s = s

abbrev pub IsMessageOf : List ℕ → Option Question → Type 0
IsMessageOf text None = ⊥
IsMessageOf text (Some q) = text ≡ request_text One (service_of q) (body_of q)

-- what is written is how a link begins, or the message of what is asked
abbrev pub IsWritten : Act → Option Question → Type 0
IsWritten (act.Write text) asked = (text ≡ hello Req) ⊎ IsMessageOf text asked
IsWritten act.Reopen asked = ⊤
IsWritten (act.Part body) asked = ⊤
IsWritten (act.Done body) asked = ⊤
IsWritten act.Served asked = ⊤
IsWritten act.Finished asked = ⊤
IsWritten act.NoAnswer asked = ⊤

-- A ticket is asked for where the line has none, its reply is fetched where it has one, and it is closed only where its
-- reply was printed in this run, or the file had it as given.
abbrev pub IsAskedRightly : Question → Scene → Type 0
IsAskedRightly (Submits name line) s = s.progress.stage ≡ Fresh
IsAskedRightly (Fetches id) s = s.progress.stage ≡ Ticket id
IsAskedRightly (Closes id) s = (s.progress.stage ≡ Delivered id) × (s.printed ≡ true)

-- the line's ticket was asked for, and the answer was `200` with this id
abbrev pub IsIssuedRightly : List ℕ → Scene → Type 0
IsIssuedRightly id s =
    (s.progress.stage ≡ Fresh)
    × ((name line : List ℕ) × (s.question ≡ Some (Submits name line)))
    × ((text : List ℕ) × (s.answer ≡ Some (codes "200" ∷ text ∷ [])) × (read_of text ≡ Some id))

-- the line's reply was printed before
abbrev pub IsGivenRightly : Scene → Type 0
IsGivenRightly s = ((id : List ℕ) × (s.progress.stage ≡ Ticket id)) × (s.printed ≡ true)

-- the line's ticket was to be closed, its reply was printed before, and the answer was `200`
abbrev pub IsClosedRightly : Scene → Type 0
IsClosedRightly s =
    ((id : List ℕ) × (s.progress.stage ≡ Delivered id) × (s.question ≡ Some (Closes id)))
    × (s.printed ≡ true)
    × ((rest : List (List ℕ)) × (s.answer ≡ Some (codes "200" ∷ rest)))

-- a record is the next one of the first line that isn't closed
abbrev pub IsNotedRightly : Note → Scene → Type 0
IsNotedRightly (Issued line id) s = (line ≡ s.progress.closed + 1) × IsIssuedRightly id s
IsNotedRightly (Given line) s = (line ≡ s.progress.closed + 1) × IsGivenRightly s
IsNotedRightly (Closed line) s = (line ≡ s.progress.closed + 1) × IsClosedRightly s

-- The reply that is printed is what stood behind the `200` that the fetching of the line's ticket was answered with, and
-- it wasn't printed before.
pub record IsPrintedRightly (line : ℕ) (body : List (List ℕ)) (s : Scene) : Type 0 where
  pub id : List ℕ
  pub ticket : s.progress.stage ≡ Ticket id
  pub asked : s.question ≡ Some (Fetches id)
  pub present : line ≡ s.progress.closed + 1
  pub once : s.printed ≡ false
  pub answered : s.answer ≡ Some (codes "200" ∷ body)

-- at the end of the input each line of it is closed, and the number is that of the lines closed in this run
abbrev pub IsRight : Doing → Scene → Type 0
IsRight (Takes number line) s = number ≡ s.lines + 1
IsRight (Asks question) s = IsAskedRightly question s
IsRight (Acts act) s = IsWritten act s.question
IsRight (Hears body) s = ⊤
IsRight (Prints line body) s = IsPrintedRightly line body s
IsRight (Notes note) s = IsNotedRightly note s
IsRight (Refused line code) s = line ≡ s.progress.closed + 1
IsRight (NoReply line) s = line ≡ s.progress.closed + 1
IsRight (NoAnswer line) s = line ≡ s.progress.closed + 1
IsRight (Finishes closed) s = (s.lines ≤ s.progress.closed) × (closed ≡ s.progress.closed - s.had)

-- of every run, with a file however far
abbrev pub RunsAreRight : Type 0
RunsAreRight = (name : List ℕ) (tries wait polls : ℕ) (p : Progress) (calls : List Call) → AreAllowed calls (fresh name tries wait polls p)
    → AreRight IsRight sees (doings calls (fresh name tries wait polls p)) (begins p)

-- ---- wherever a run breaks off

abbrev pub notes_of : List Doing → List Note
notes_of [] = []
notes_of (Takes number line ∷ ds) = notes_of ds
notes_of (Asks question ∷ ds) = notes_of ds
notes_of (Acts act ∷ ds) = notes_of ds
notes_of (Hears body ∷ ds) = notes_of ds
notes_of (Prints line body ∷ ds) = notes_of ds
notes_of (Notes note ∷ ds) = note ∷ notes_of ds
notes_of (Refused line code ∷ ds) = notes_of ds
notes_of (NoReply line ∷ ds) = notes_of ds
notes_of (NoAnswer line ∷ ds) = notes_of ds
notes_of (Finishes closed ∷ ds) = notes_of ds

abbrev pub printed_of : List Doing → List ℕ
printed_of [] = []
printed_of (Takes number line ∷ ds) = printed_of ds
printed_of (Asks question ∷ ds) = printed_of ds
printed_of (Acts act ∷ ds) = printed_of ds
printed_of (Hears body ∷ ds) = printed_of ds
printed_of (Prints line body ∷ ds) = line ∷ printed_of ds
printed_of (Notes note ∷ ds) = printed_of ds
printed_of (Refused line code ∷ ds) = printed_of ds
printed_of (NoReply line ∷ ds) = printed_of ds
printed_of (NoAnswer line ∷ ds) = printed_of ds
printed_of (Finishes closed ∷ ds) = printed_of ds

-- each number from one on and below another, once and in order
abbrev pub AreAllFrom : ℕ → List ℕ → ℕ → Type 0
AreAllFrom from [] to = from ≡ to
AreAllFrom from (n ∷ ns) to = (n ≡ from) × AreAllFrom (suc from) ns to

-- the next line whose reply is to be printed
abbrev pub next_by : Bool → ℕ → ℕ
next_by true closed = suc (suc closed)
next_by false closed = suc closed

abbrev pub next_printed : Scene → ℕ
next_printed s = next_by s.printed s.progress.closed

-- What was done up to any moment is right; the records so far are lawful behind those of before, and come to what was
-- seen; the replies printed so far are those from the first line on that the file didn't have as given, each once and in
-- order.
pub record BreaksRightly (x : List Doing) (s : Scene) : Type 0 where
  pub right : AreRight IsRight sees x s
  pub file : notes_from (notes_of x) s.progress ≡ Some (seen sees x s).progress
  pub printed : AreAllFrom (next_printed s) (printed_of x) (next_printed (seen sees x s))

abbrev pub BreaksAreRight : Type 0
BreaksAreRight = (name : List ℕ) (tries wait polls : ℕ) (p : Progress) (calls : List Call) (x y : List Doing) → AreAllowed calls (fresh name tries wait polls p)
    → doings calls (fresh name tries wait polls p) ≡ x ++ y → BreaksRightly x (begins p)

-- ---- the messages that close a ticket

abbrev pub message_of : Question → List ℕ
message_of q = request_text One (service_of q) (body_of q)

-- At some earlier moment a closing with this message was asked for: the file had its ticket's reply as given, and that
-- reply was printed in this run, or the file had it as given at the start.
pub record WasPrinted (text : List ℕ) (x : List Doing) (s : Scene) : Type 0 where
  pub id : List ℕ
  pub front : List Doing
  pub rest : List Doing
  pub same : text ≡ message_of (Closes id)
  pub behind : x ≡ front ++ Asks (Closes id) ∷ rest
  pub delivered : (seen sees front s).progress.stage ≡ Delivered id
  pub printed : (seen sees front s).printed ≡ true

-- of whatever bytes are written, wherever in a run
abbrev pub ClosingsFollowReplies : Type 0
ClosingsFollowReplies = (name : List ℕ) (tries wait polls : ℕ) (p : Progress) (calls : List Call) (x y : List Doing) (id text : List ℕ) → AreAllowed calls (fresh name tries wait polls p)
    → doings calls (fresh name tries wait polls p) ≡ x ++ Acts (act.Write text) ∷ y → text ≡ message_of (Closes id) → WasPrinted text x (begins p)
