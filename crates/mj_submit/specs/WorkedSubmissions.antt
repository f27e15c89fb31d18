-- Worked runs of the submitter, from what its link gives.
use Rattle.std.specs.Prelude.{ℕ, ◌≡◌, true, List, [], ◌∷◌, ◌++◌, replicate, codes}
use Rattle.mj_base.specs.declared.link.LinkEvent.TheVariants as event
use Rattle.mj_base.specs.declared.version.Version.TheVariants.{One}
use Rattle.mj_client_cmd.specs.ClientWriting.{reply_frames}
use Rattle.mj_frame.specs.FrameSpelling.{message_octets}
use Rattle.mj_greeting.specs.GreetingGrammar.{broker_greeting}
use Rattle.mj_handshake.specs.ReadyGrammar.{ready_frame}
use Rattle.mj_handshake.specs.declared.socket_type.SocketType.TheVariants.{Req, Router}
use Rattle.mj_peer.specs.PeerTexts.{hello, request_text}
use Rattle.mj_peer.specs.declared.act.Act.TheVariants as act
use Rattle.mj_submit.specs.SubmitRules.{Acts, Asks, Call, Closes, Doing, Ends, Fetches, Finishes, Gives, Hears, Line, NoAnswer, NoReply, Notes, Prints, Refused, Submits, Submitter, Takes, doings, fresh}
use Rattle.mj_submit.specs.WorkedNotes.{first_id}
use Rattle.mj_submit.specs.declared.note.Note.TheVariants.{Issued, Given, Closed}
use Rattle.mj_submit.specs.declared.progress.Stage.{Stage}
use Rattle.mj_submit.specs.declared.progress.Stage.TheVariants.{Fresh, Ticket, Delivered}

-- the broker's greeting, its READY and a final reply, in one piece
abbrev pub answer : List ℕ → List (List ℕ) → Call
answer service body = Gives (event.Given (broker_greeting ++ (ready_frame Router ++ message_octets (reply_frames (record { version = One; lead = true; last = true; service = service; body = body })))))

abbrev pub first_text : List ℕ
first_text = codes "e56a5d40-28bd-8653-8000-000000000001"

-- for the service `echo`, with a file whose first line is so far
abbrev pub submitter : ℕ → Stage → Submitter
submitter polls stage = fresh (codes "echo") 1 1 polls (record { closed = 0; stage = stage })

abbrev pub greets : Doing
greets = Acts (act.Write (hello Req))

abbrev pub writes : List ℕ → List (List ℕ) → Doing
writes service body = Acts (act.Write (request_text One service body))

abbrev pub LinesAreSubmitted : Type 0
LinesAreSubmitted =
    doings (Line (codes "hi") ∷ answer (codes "titanic.request") (codes "200" ∷ first_text ∷ []) ∷ []) (submitter 1000 Fresh)
    ≡ Takes 1 (codes "hi")
    ∷ Asks (Submits (codes "echo") (codes "hi"))
    ∷ greets
    ∷ writes (codes "titanic.request") (codes "echo" ∷ codes "hi" ∷ [])
    ∷ Hears (codes "200" ∷ first_text ∷ [])
    ∷ Notes (Issued 1 first_id)
    ∷ Asks (Fetches first_id)
    ∷ Acts act.Reopen
    ∷ greets
    ∷ []

abbrev pub RepliesAreFetched : Type 0
RepliesAreFetched =
    doings (Line (codes "hi") ∷ answer (codes "titanic.reply") (codes "200" ∷ codes "ho" ∷ []) ∷ []) (submitter 1000 (Ticket first_id))
    ≡ Takes 1 (codes "hi")
    ∷ Asks (Fetches first_id)
    ∷ greets
    ∷ writes (codes "titanic.reply") (first_text ∷ [])
    ∷ Hears (codes "200" ∷ codes "ho" ∷ [])
    ∷ Prints 1 (codes "ho" ∷ [])
    ∷ Notes (Given 1)
    ∷ Asks (Closes first_id)
    ∷ Acts act.Reopen
    ∷ greets
    ∷ []

-- nothing is printed where the file has the reply as given
abbrev pub TicketsAreClosed : Type 0
TicketsAreClosed =
    doings (Line (codes "hi") ∷ answer (codes "titanic.close") (codes "200" ∷ []) ∷ Ends ∷ []) (submitter 1000 (Delivered first_id))
    ≡ Takes 1 (codes "hi")
    ∷ Asks (Closes first_id)
    ∷ greets
    ∷ writes (codes "titanic.close") (first_text ∷ [])
    ∷ Hears (codes "200" ∷ [])
    ∷ Notes (Closed 1)
    ∷ Finishes 1
    ∷ []

abbrev pub ClosedLinesAreSkipped : Type 0
ClosedLinesAreSkipped =
    doings (Line (codes "hi") ∷ Ends ∷ []) (fresh (codes "echo") 1 1 1000 (record { closed = 1; stage = Fresh }))
    ≡ Takes 1 (codes "hi") ∷ Finishes 0 ∷ []

-- after ten quiet events, on a link of its own
abbrev pub PendingRepliesAreAskedForAgain : Type 0
PendingRepliesAreAskedForAgain =
    doings (Line (codes "hi") ∷ answer (codes "titanic.reply") (codes "300" ∷ []) ∷ replicate 10 (Gives event.Idle)) (submitter 2 (Ticket first_id))
    ≡ Takes 1 (codes "hi")
    ∷ Asks (Fetches first_id)
    ∷ greets
    ∷ writes (codes "titanic.reply") (first_text ∷ [])
    ∷ Hears (codes "300" ∷ [])
    ∷ Asks (Fetches first_id)
    ∷ Acts act.Reopen
    ∷ greets
    ∷ []

abbrev pub PollsEnd : Type 0
PollsEnd =
    doings (Line (codes "hi") ∷ answer (codes "titanic.reply") (codes "300" ∷ []) ∷ Ends ∷ []) (submitter 1 (Ticket first_id))
    ≡ Takes 1 (codes "hi")
    ∷ Asks (Fetches first_id)
    ∷ greets
    ∷ writes (codes "titanic.reply") (first_text ∷ [])
    ∷ Hears (codes "300" ∷ [])
    ∷ NoReply 1
    ∷ []

-- a `200` whose second frame is no id
abbrev pub OtherAnswersAreRefused : Type 0
OtherAnswersAreRefused =
    doings (Line (codes "hi") ∷ answer (codes "titanic.request") (codes "200" ∷ codes "ho" ∷ []) ∷ Ends ∷ []) (submitter 1000 Fresh)
    ≡ Takes 1 (codes "hi")
    ∷ Asks (Submits (codes "echo") (codes "hi"))
    ∷ greets
    ∷ writes (codes "titanic.request") (codes "echo" ∷ codes "hi" ∷ [])
    ∷ Hears (codes "200" ∷ codes "ho" ∷ [])
    ∷ Refused 1 (codes "200")
    ∷ []

abbrev pub UnansweredCallsAreGivenUp : Type 0
UnansweredCallsAreGivenUp =
    doings (Line (codes "hi") ∷ Gives event.Idle ∷ Ends ∷ []) (submitter 1000 (Delivered first_id))
    ≡ Takes 1 (codes "hi") ∷ Asks (Closes first_id) ∷ greets ∷ NoAnswer 1 ∷ []
