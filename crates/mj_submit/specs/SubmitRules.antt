-- The submitter's rules. For a line of the input a ticket is asked for, the reply is fetched and printed, and the ticket is
-- closed. Each call is one request of a new client's end on a link of its own.
use Rattle.std.specs.Prelude.{ℕ, ◌+◌, ◌-◌, ◌==◌, nat_lt, nat_le, ⊤, Bool, true, false, ◌&&◌, List, [], ◌∷◌, ◌++◌, length, map, Option, None, Some, if◌then◌else◌, codes}
use Rattle.std.specs.List.{list_any, list_all}
use Rattle.std.specs.Str.{bytes_eq}
use Rattle.mj_base.specs.declared.link.LinkEvent.{LinkEvent}
use Rattle.mj_base.specs.declared.link.LinkEvent.TheVariants as event
use Rattle.mj_base.specs.declared.version.Version.TheVariants.{One}
use Rattle.mj_ids.specs.Ids.{read_of, text_of}
use Rattle.mj_peer.specs.ClientEndRules as client
use Rattle.mj_peer.specs.ClientEndRules.{Client}
use Rattle.mj_peer.specs.declared.act.Act.{Act}
use Rattle.mj_peer.specs.declared.act.Act.TheVariants as act
use Rattle.mj_submit.specs.declared.note.Note.{Note}
use Rattle.mj_submit.specs.declared.note.Note.TheVariants.{Issued, Given, Closed}
use Rattle.mj_submit.specs.declared.progress.Progress.{Progress}
use Rattle.mj_submit.specs.declared.progress.Stage.{Stage}
use Rattle.mj_submit.specs.declared.progress.Stage.TheVariants.{Fresh, Ticket, Delivered}

-- ---- what is asked (ZeroMQ RFC 9)

pub data Question : Type 0 where
  Submits : (name line : List ℕ) → Question
  Fetches : (id : List ℕ) → Question
  Closes : (id : List ℕ) → Question

abbrev pub service_of : Question → List ℕ
service_of (Submits name line) = codes "titanic.request"
service_of (Fetches id) = codes "titanic.reply"
service_of (Closes id) = codes "titanic.close"

abbrev pub body_of : Question → List (List ℕ)
body_of (Submits name line) = name ∷ line ∷ []
body_of (Fetches id) = text_of id ∷ []
body_of (Closes id) = text_of id ∷ []

-- ---- what an answer says

abbrev pub is_code : List ℕ → List (List ℕ) → Bool
is_code code [] = false
is_code code (first ∷ rest) = bytes_eq first code

abbrev pub behind_code : List (List ℕ) → List (List ℕ)
behind_code [] = []
behind_code (first ∷ rest) = rest

-- one frame that is an id
abbrev pub id_alone : List (List ℕ) → Option (List ℕ)
id_alone [] = None
id_alone (text ∷ []) = read_of text
id_alone (text ∷ next ∷ rest) = None

-- `200` and an id
abbrev pub id_answered : List (List ℕ) → Option (List ℕ)
id_answered body = if is_code (codes "200") body then id_alone (behind_code body) else None

abbrev pub is_digit : ℕ → Bool
is_digit octet = nat_le 48 octet && nat_le octet 57

-- the first frame where it is three digits, else `000`
abbrev pub code_of : List (List ℕ) → List ℕ
code_of [] = codes "000"
code_of (first ∷ rest) = if (length first == 3) && list_all is_digit first then first else codes "000"

-- ---- what is done

-- A line is read; something is asked; the client's end acts; its request is answered; a reply is printed; a record is
-- appended to the file. The others are the last thing done: a line's answer is another than it may be, or is still not
-- there at the last poll, a call was given up, or the input is at its end.
pub data Doing : Type 0 where
  Takes : (number : ℕ) (line : List ℕ) → Doing
  Asks : (question : Question) → Doing
  Acts : (act : Act) → Doing
  Hears : (body : List (List ℕ)) → Doing
  Prints : (line : ℕ) (body : List (List ℕ)) → Doing
  Notes : (note : Note) → Doing
  Refused : (line : ℕ) (code : List ℕ) → Doing
  NoReply : (line : ℕ) → Doing
  NoAnswer : (line : ℕ) → Doing
  Finishes : (closed : ℕ) → Doing

-- The service's name and the options; how far the file is, and how many lines it had as closed at the start; the lines
-- read so far, and the one at work; the client's end of the present call; whether there was no call yet; the `300`s of
-- the line at work; the quiet events since the last of them, while it is waited; whether there is nothing more to do.
pub record Submitter : Type 0 where
  pub name : List ℕ
  pub tries : ℕ
  pub wait : ℕ
  pub polls : ℕ
  pub progress : Progress
  pub had : ℕ
  pub lines : ℕ
  pub line : Option (List ℕ)
  pub client : Client
  pub first : Bool
  pub polled : ℕ
  pub paused : Option ℕ
  pub over : Bool

-- the submitter after a call, with what was done
abbrev pub Turn : Type 0
Turn = Submitter × List Doing

abbrev pub stays : Submitter → Turn
stays s = (s, [])

abbrev pub doing : Doing → Turn → Turn
doing d t = (t.0, d ∷ t.1)

-- one turn and the next
infixl 20 ◌then◌
abbrev pub ◌then◌ : Turn → (Submitter → Turn) → Turn
t then more = ((more t.0).0, t.1 ++ (more t.0).1)

abbrev pub stops : Doing → Submitter → Turn
stops d s = (record s { over = true; line = None }, d ∷ [])

-- the number of the line at work
abbrev pub present : Submitter → ℕ
present s = s.progress.closed + 1

-- ---- a call begins: a new client's end, on a link of its own

abbrev pub new_client : Question → ℕ → ℕ → Client
new_client q tries wait = client.fresh One (service_of q) tries wait

-- the first call has the link as it is
abbrev pub reopening : Bool → List Doing
reopening true = []
reopening false = Acts act.Reopen ∷ []

abbrev pub asked : Question → client.Turn → Submitter → Turn
asked q t s = (record s { client = t.0; first = false; paused = None }, Asks q ∷ (reopening s.first ++ map Acts t.1))

abbrev pub asks : Question → Submitter → Turn
asks q s = asked q (client.asks (body_of q) (new_client q s.tries s.wait)) s

-- what is asked for a line that is so far
abbrev pub question_at : Stage → List ℕ → List ℕ → Question
question_at Fresh name line = Submits name line
question_at (Ticket id) name line = Fetches id
question_at (Delivered id) name line = Closes id

-- a line goes on where the file leaves it
abbrev pub goes_on : List ℕ → Submitter → Turn
goes_on line s = asks (question_at s.progress.stage s.name line) s

abbrev pub goes_on_with : Option (List ℕ) → Submitter → Turn
goes_on_with None s = stays s
goes_on_with (Some line) s = goes_on line s

abbrev pub continues : Submitter → Turn
continues s = goes_on_with s.line s

-- ---- an answer

abbrev pub notes : Note → Stage → Submitter → Turn
notes note stage s = (record s { progress = record s.progress { stage = stage } }, Notes note ∷ [])

abbrev pub refuses : List (List ℕ) → Submitter → Turn
refuses body s = stops (Refused (present s) (code_of body)) s

-- the ticket's record is appended
abbrev pub issues : Option (List ℕ) → List (List ℕ) → Submitter → Turn
issues None body s = refuses body s
issues (Some id) body s = notes (Issued (present s) id) (Ticket id) s then continues

-- a reply that isn't there yet is waited for, but for the last poll
abbrev pub pends : Submitter → Turn
pends s = if nat_lt (s.polled + 1) s.polls then stays (record s { polled = s.polled + 1; paused = Some 0 }) else stops (NoReply (present s)) s

-- the reply is printed, and then its record is appended
abbrev pub gives : List ℕ → List (List ℕ) → Submitter → Turn
gives id reply s = doing (Prints (present s) reply) (notes (Given (present s)) (Delivered id) s then continues)

-- the ticket is closed, and its record is appended
abbrev pub closes : Submitter → Turn
closes s = (record s { progress = record { closed = s.progress.closed + 1; stage = Fresh }; line = None }, Notes (Closed (present s)) ∷ [])

abbrev pub answers : Stage → List (List ℕ) → Submitter → Turn
answers Fresh body s = issues (id_answered body) body s
answers (Ticket id) body s = if is_code (codes "300") body then pends s else (if is_code (codes "200") body then gives id (behind_code body) s else refuses body s)
answers (Delivered id) body s = if is_code (codes "200") body then closes s else refuses body s

-- where no line is at work nothing is answered
abbrev pub answers_at : Option (List ℕ) → List (List ℕ) → Submitter → Turn
answers_at None body s = stays s
answers_at (Some line) body s = answers s.progress.stage body s

-- ---- an act of the client's end

-- one more quiet event since the last `300`
abbrev pub quieter : Option ℕ → Option ℕ
quieter None = None
quieter (Some n) = Some (n + 1)

abbrev pub acts : Act → Submitter → Turn
acts (act.Write text) s = (s, Acts (act.Write text) ∷ [])
acts act.Reopen s = (record s { paused = quieter s.paused }, Acts act.Reopen ∷ [])
acts (act.Part body) s = stays s
acts (act.Done body) s = doing (Hears body) (answers_at s.line body s)
acts act.Served s = stays s
acts act.Finished s = stays s
acts act.NoAnswer s = stops (NoAnswer (present s)) s

-- behind these the call is over, and what its end says yet isn't done
abbrev pub is_end : Doing → Bool
is_end (Takes number line) = false
is_end (Asks question) = true
is_end (Acts act) = false
is_end (Hears body) = false
is_end (Prints line body) = false
is_end (Notes note) = true
is_end (Refused line code) = true
is_end (NoReply line) = true
is_end (NoAnswer line) = true
is_end (Finishes closed) = true

abbrev pub behind : (Submitter → Turn) → Bool → Turn → Turn
behind more true t = t
behind more false t = t then more

abbrev pub sweep : List Act → Submitter → Turn
sweep [] s = (s, [])
sweep (a ∷ rest) s = behind (sweep rest) (list_any is_end (acts a s).1) (acts a s)

-- ---- an event of the link

abbrev pub counts : LinkEvent → Submitter → Submitter
counts (event.Given piece) s = s
counts event.Idle s = record s { paused = quieter s.paused }
counts event.End s = s

-- after ten quiet events it is asked again
abbrev pub wakes : Option ℕ → Submitter → Turn
wakes None s = stays s
wakes (Some n) s = if nat_lt n 10 then stays s else continues s

abbrev pub wakes_up : Submitter → Turn
wakes_up s = wakes s.paused s

abbrev pub met : client.Turn → Submitter → Turn
met t s = sweep t.1 (record s { client = t.0 }) then wakes_up

abbrev pub happens : LinkEvent → Submitter → Turn
happens e s = met (client.steps e s.client) (counts e s)

-- ---- a line

-- one that the file has as closed is passed over
abbrev pub takes : List ℕ → Submitter → Turn
takes line s =
    doing (Takes (s.lines + 1) line)
    (if nat_le (s.lines + 1) s.progress.closed then stays (record s { lines = s.lines + 1 }) else goes_on line (record s { lines = s.lines + 1; line = Some line; polled = 0 }))

-- ---- runs

-- a line is read, the link gives something, or the input is at its end
pub data Call : Type 0 where
  Line : (line : List ℕ) → Call
  Gives : (event : LinkEvent) → Call
  Ends : Call

abbrev pub does : Call → Submitter → Turn
does (Line line) s = takes line s
does (Gives e) s = happens e s
does Ends s = stops (Finishes (s.progress.closed - s.had)) s

-- after the last thing nothing is done any more
abbrev pub turn_of : Call → Submitter → Turn
turn_of call s = if s.over then stays s else does call s

abbrev pub doings : List Call → Submitter → List Doing
doings [] s = []
doings (call ∷ calls) s = (turn_of call s).1 ++ doings calls (turn_of call s).0

-- the submitter behind these calls
abbrev pub after : List Call → Submitter → Submitter
after [] s = s
after (call ∷ calls) s = after calls (turn_of call s).0

-- where no line is at work one is read or the input is at its end, and else the link is read
abbrev pub IsAllowed : Call → Option (List ℕ) → Type 0
IsAllowed (Line line) None = ⊤
IsAllowed (Line line) (Some present) = ⊥
IsAllowed (Gives e) None = ⊥
IsAllowed (Gives e) (Some present) = ⊤
IsAllowed Ends None = ⊤
IsAllowed Ends (Some present) = ⊥

abbrev pub AreAllowed : List Call → Submitter → Type 0
AreAllowed [] s = ⊤
AreAllowed (call ∷ calls) s = IsAllowed call s.line × AreAllowed calls (turn_of call s).0

-- a submitter with a file that is so far, before its first line
abbrev pub fresh : List ℕ → ℕ → ℕ → ℕ → Progress → Submitter
fresh name tries wait polls p = record {
  name = name;
  tries = tries;
  wait = wait;
  polls = polls;
  progress = p;
  had = p.closed;
  lines = 0;
  line = None;
  client = client.fresh One [] tries wait;
  first = true;
  polled = 0;
  paused = None;
  over = false;
}
