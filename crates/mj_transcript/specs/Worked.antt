-- Worked transcripts, written out by hand: a worker on lane 0 and a client on lane 1, which the broker knows as aa and bb.
use Rattle.std.specs.Prelude.{ℕ, ◌≡◌, List, [], ◌∷◌, ◌++◌, replicate, codes}
use Rattle.mj_frame.specs.FrameSpelling.{message_octets}
use Rattle.mj_transcript.specs.Verdicts.{judged}
use Rattle.mj_transcript.specs.declared.line.Line.{Line}
use Rattle.mj_transcript.specs.declared.line.Line.TheVariants.{Open, In, Out, Close, Lapse, Silent, Unlawful}
use Rattle.mj_transcript.specs.declared.verdict.Law.TheVariants as laws
use Rattle.mj_transcript.specs.declared.verdict.Verdict.{Verdict}
use Rattle.mj_transcript.specs.declared.verdict.Verdict.TheVariants as verdicts

-- ---- spelling

-- version 3.0, mechanism NULL
abbrev pub greeting : List ℕ
greeting = 255 ∷ replicate 8 0 ++ 127 ∷ 3 ∷ 0 ∷ codes "NULL" ++ replicate 48 0

-- READY of a DEALER, and that of the broker, a ROUTER
abbrev pub dealer : List ℕ
dealer = 4 ∷ 28 ∷ 5 ∷ codes "READY" ++ 11 ∷ codes "Socket-Type" ++ 0 ∷ 0 ∷ 0 ∷ 6 ∷ codes "DEALER"

abbrev pub router : List ℕ
router = 4 ∷ 28 ∷ 5 ∷ codes "READY" ++ 11 ∷ codes "Socket-Type" ++ 0 ∷ 0 ∷ 0 ∷ 6 ∷ codes "ROUTER"

abbrev pub joins : ℕ → Line
joins lane = In lane (greeting ++ dealer)

abbrev pub is_joined : ℕ → Line
is_joined lane = Out lane (greeting ++ router)

abbrev pub says : ℕ → List (List ℕ) → Line
says lane message = In lane (message_octets message)

abbrev pub hears : ℕ → List (List ℕ) → Line
hears lane message = Out lane (message_octets message)

-- ---- messages

abbrev pub worker_ready : List ℕ → List (List ℕ)
worker_ready service = [] ∷ codes "MDPW01" ∷ (1 ∷ []) ∷ service ∷ []

-- a request for a service, and a reply to it
abbrev pub asks : List ℕ → List ℕ → List (List ℕ)
asks service body = [] ∷ codes "MDPC01" ∷ service ∷ body ∷ []

abbrev pub echo : List ℕ → List (List ℕ)
echo body = asks (codes "echo") body

-- a request to a worker and its reply, with the client's address
abbrev pub request_to : List ℕ → List ℕ → List (List ℕ)
request_to address body = [] ∷ codes "MDPW01" ∷ (2 ∷ []) ∷ address ∷ [] ∷ body ∷ []

abbrev pub request : List ℕ → List (List ℕ)
request body = request_to (187 ∷ []) body

abbrev pub reply : List ℕ → List (List ℕ)
reply body = [] ∷ codes "MDPW01" ∷ (3 ∷ []) ∷ (187 ∷ []) ∷ [] ∷ body ∷ []

-- ---- how a transcript is judged

abbrev pub Gives : List Line → ℕ → List Verdict → Type 0
Gives lines held last = judged lines ≡ replicate held verdicts.Held ++ last

abbrev pub joined : List Line
joined = Open 0 (170 ∷ []) ∷ Open 1 (187 ∷ []) ∷ joins 0 ∷ joins 1 ∷ is_joined 0 ∷ is_joined 1 ∷ []

abbrev pub opening : List Line
opening = joined ++ says 0 (worker_ready (codes "echo")) ∷ []

-- a request, its way to the worker, the reply, and its way to the client: held, with a verdict for each line and one for the end
abbrev pub RequestsAreAnswered : Type 0
RequestsAreAnswered = Gives (opening ++ says 1 (echo (codes "a")) ∷ hears 0 (request (codes "a")) ∷ says 0 (reply (codes "A")) ∷ hears 1 (echo (codes "A")) ∷ []) 12 []

-- the request is kept while the worker waits: seen before the next line that comes from outside
abbrev pub KeptRequestsAreSeen : Type 0
KeptRequestsAreSeen = Gives (opening ++ says 1 (echo (codes "a")) ∷ says 0 (reply (codes "A")) ∷ hears 1 (echo (codes "A")) ∷ []) 8 (verdicts.Broken laws.Waiting ∷ [])

-- or at the end
abbrev pub KeptRequestsAreSeenAtTheEnd : Type 0
KeptRequestsAreSeenAtTheEnd = Gives (opening ++ says 1 (echo (codes "a")) ∷ []) 8 (verdicts.Broken laws.Waiting ∷ [])

-- an answer with another body
abbrev pub ForeignAnswersAreSeen : Type 0
ForeignAnswersAreSeen = Gives (opening ++ says 1 (echo (codes "a")) ∷ hears 0 (request (codes "a")) ∷ says 0 (reply (codes "A")) ∷ hears 1 (echo (codes "B")) ∷ []) 10 (verdicts.Broken laws.Owner ∷ [])

-- the same answer twice
abbrev pub SecondAnswersAreSeen : Type 0
SecondAnswersAreSeen =
    Gives (opening ++ says 1 (echo (codes "a")) ∷ hears 0 (request (codes "a")) ∷ says 0 (reply (codes "A")) ∷ hears 1 (echo (codes "A")) ∷ hears 1 (echo (codes "A")) ∷ [])
    11
    (verdicts.Broken laws.Owner ∷ [])

-- an answer that no worker gave
abbrev pub AnswersOfNobodyAreSeen : Type 0
AnswersOfNobodyAreSeen = Gives (opening ++ says 1 (echo (codes "a")) ∷ hears 0 (request (codes "a")) ∷ hears 1 (echo (codes "A")) ∷ []) 9 (verdicts.Broken laws.Owner ∷ [])

-- a REQUEST with another body, and a second one for one request: the law on owners comes before that on busy workers
abbrev pub ChangedRequestsAreSeen : Type 0
ChangedRequestsAreSeen = Gives (opening ++ says 1 (echo (codes "a")) ∷ hears 0 (request (codes "b")) ∷ []) 8 (verdicts.Broken laws.Owner ∷ [])

abbrev pub SecondRequestsAreSeen : Type 0
SecondRequestsAreSeen = Gives (opening ++ says 1 (echo (codes "a")) ∷ hears 0 (request (codes "a")) ∷ hears 0 (request (codes "a")) ∷ []) 9 (verdicts.Broken laws.Owner ∷ [])

-- a worker that holds a request is sent another; one that never said READY; one whose lease has lapsed
abbrev pub BusyWorkersAreSeen : Type 0
BusyWorkersAreSeen =
    Gives (opening ++ says 1 (echo (codes "a")) ∷ hears 0 (request (codes "a")) ∷ says 1 (echo (codes "b")) ∷ hears 0 (request (codes "b")) ∷ []) 10 (verdicts.Broken laws.Busy ∷ [])

abbrev pub UnreadyWorkersAreSeen : Type 0
UnreadyWorkersAreSeen = Gives (joined ++ says 1 (echo (codes "a")) ∷ hears 0 (request (codes "a")) ∷ []) 7 (verdicts.Broken laws.Busy ∷ [])

abbrev pub LapsedWorkersAreSeen : Type 0
LapsedWorkersAreSeen = Gives (opening ++ Lapse 0 ∷ says 1 (echo (codes "a")) ∷ hears 0 (request (codes "a")) ∷ []) 9 (verdicts.Broken laws.Busy ∷ [])

-- the reply of a worker that holds nothing any more
abbrev pub LateRepliesAreSeen : Type 0
LateRepliesAreSeen =
    Gives (opening ++ says 1 (echo (codes "a")) ∷ hears 0 (request (codes "a")) ∷ Lapse 0 ∷ says 0 (reply (codes "A")) ∷ hears 1 (echo (codes "A")) ∷ [])
    11
    (verdicts.Broken laws.Owner ∷ [])

-- a REQUEST with the address of a connection that comes later
abbrev pub LaterOwnersAreSeen : Type 0
LaterOwnersAreSeen =
    Gives (opening ++ hears 0 (request_to (204 ∷ []) (codes "a")) ∷ Open 2 (204 ∷ []) ∷ []) 8 (verdicts.Broken laws.Owner ∷ [])

-- a sent message of neither grammar, and bytes that no frame begins with
abbrev pub WrongMessagesAreSeen : Type 0
WrongMessagesAreSeen = Gives (opening ++ hears 1 (codes "hello" ∷ []) ∷ []) 7 (verdicts.Broken laws.Wire ∷ [])

abbrev pub WrongBytesAreSeen : Type 0
WrongBytesAreSeen = Gives (opening ++ Out 1 (message_octets (echo (codes "A")) ++ 8 ∷ []) ∷ []) 7 (verdicts.Broken laws.Wire ∷ [])

-- names that a broker may answer itself are passed over, and their neighbours aren't
abbrev pub OwnNamesArePassedOver : Type 0
OwnNamesArePassedOver = Gives (opening ++ says 1 (asks (codes "mmi.service") (codes "echo")) ∷ hears 1 (asks (codes "mmi.service") (codes "200")) ∷ []) 10 []

abbrev pub OtherNamesAreJudged : Type 0
OtherNamesAreJudged = Gives (opening ++ says 1 (asks (codes "mmj.service") (codes "echo")) ∷ hears 1 (asks (codes "mmj.service") (codes "200")) ∷ []) 8 (verdicts.Broken laws.Owner ∷ [])

-- unlawful lines: two messages in one, an address once more, a line on a lane that isn't open; comments are counted
abbrev pub TwoMessagesAreUnlawful : Type 0
TwoMessagesAreUnlawful = Gives (opening ++ In 1 (message_octets (echo (codes "a")) ++ message_octets (echo (codes "b"))) ∷ []) 7 (verdicts.Unlawful ∷ [])

abbrev pub OldAddressesAreUnlawful : Type 0
OldAddressesAreUnlawful = Gives (opening ++ Close 1 ∷ Silent ∷ Open 1 (187 ∷ []) ∷ []) 9 (verdicts.Unlawful ∷ [])

abbrev pub ClosedLanesAreUnlawful : Type 0
ClosedLanesAreUnlawful = Gives (opening ++ Close 1 ∷ Lapse 1 ∷ []) 8 (verdicts.Unlawful ∷ [])
