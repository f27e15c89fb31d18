-- Worked runs of version 0.2 and of both versions together, written out by hand from ZeroMQ RFC 7 and the profile after
-- ZeroMQ RFC 18.
use Rattle.std.specs.Prelude.{ℕ, List, [], ◌∷◌, ◌++◌, codes}
use Rattle.mj_base.specs.StandardLimits.{standard_limits}
use Rattle.mj_handshake.specs.declared.socket_type.SocketType.TheVariants.{Req}
use Rattle.mj_machine.specs.EventStep.{Ticks}
use Rattle.mj_machine.specs.RunSpelling.{Gives, Turn, asking, client, code, disconnect, hears, heartbeat, joins, joins_as, ready, reply, request, says, who_serves, ◌gives◌}

-- ---- spelling of 0.2, without the empty frame

abbrev pub worker_two : List (List ℕ) → List (List ℕ)
worker_two frames = codes "MDPW02" ∷ frames

abbrev pub ready_two : List ℕ → List (List ℕ)
ready_two service = worker_two ((1 ∷ []) ∷ service ∷ [])

abbrev pub request_two : ℕ → List (List ℕ) → List (List ℕ)
request_two asker body = worker_two ((2 ∷ []) ∷ client asker ∷ [] ∷ body)

abbrev pub partial_two : ℕ → List (List ℕ) → List (List ℕ)
partial_two asker body = worker_two ((3 ∷ []) ∷ client asker ∷ [] ∷ body)

abbrev pub final_two : ℕ → List (List ℕ) → List (List ℕ)
final_two asker body = worker_two ((4 ∷ []) ∷ client asker ∷ [] ∷ body)

abbrev pub heartbeat_two : List (List ℕ)
heartbeat_two = worker_two ((5 ∷ []) ∷ [])

abbrev pub disconnect_two : List (List ℕ)
disconnect_two = worker_two ((6 ∷ []) ∷ [])

abbrev pub asking_two : List ℕ → List (List ℕ) → List (List ℕ)
asking_two service body = codes "MDPC02" ∷ (1 ∷ []) ∷ service ∷ body

abbrev pub part_two : List ℕ → List (List ℕ) → List (List ℕ)
part_two service body = codes "MDPC02" ∷ (2 ∷ []) ∷ service ∷ body

abbrev pub answer_two : List ℕ → List (List ℕ) → List (List ℕ)
answer_two service body = codes "MDPC02" ∷ (3 ∷ []) ∷ service ∷ body

-- ---- the runs

-- a 0.2 worker's partial replies go to a client of 0.2 alone, and it holds its request until the final one
abbrev pub PartialRepliesArePassedOn : Type 0
PartialRepliesArePassedOn = Gives standard_limits (
    joins 0
    ∷ joins 1
    ∷ joins 2
    ∷ (says 0 (ready_two (codes "echo")) gives [])
    ∷ (says 1 (asking (codes "echo") (codes "a")) gives hears 0 (request_two 2 (codes "a" ∷ [])))
    ∷ (says 2 (asking_two (codes "echo") (codes "b" ∷ [])) gives [])
    ∷ (says 0 (partial_two 2 (codes "p" ∷ [])) gives [])
    ∷ (says 0 (partial_two 2 (codes "q" ∷ [])) gives [])
    ∷ (says 0 (final_two 2 (codes "f" ∷ [])) gives hears 1 (asking (codes "echo") (codes "f")) ++ hears 0 (request_two 3 (codes "b" ∷ [])))
    ∷ (says 0 (partial_two 3 (codes "p" ∷ [])) gives hears 2 (part_two (codes "echo") (codes "p" ∷ [])))
    ∷ (says 0 (partial_two 3 (codes "q" ∷ [])) gives hears 2 (part_two (codes "echo") (codes "q" ∷ [])))
    ∷ (says 0 (final_two 3 (codes "f" ∷ [])) gives hears 2 (answer_two (codes "echo") (codes "f" ∷ [])))
    ∷ [])

-- each peer of 0.2 is answered with the empty frame in front or without it, as it began, whatever it writes later
abbrev pub LeadsAreKept : Type 0
LeadsAreKept = Gives standard_limits (
    joins 0
    ∷ joins 1
    ∷ joins 2
    ∷ (says 0 ([] ∷ ready_two (codes "echo")) gives [])
    ∷ (says 1 (asking_two (codes "echo") (codes "a" ∷ [])) gives hears 0 ([] ∷ request_two 2 (codes "a" ∷ [])))
    ∷ (says 0 (final_two 2 (codes "A" ∷ [])) gives hears 1 (answer_two (codes "echo") (codes "A" ∷ [])))
    ∷ (says 2 ([] ∷ asking_two (codes "echo") (codes "b" ∷ [])) gives hears 0 ([] ∷ request_two 3 (codes "b" ∷ [])))
    ∷ (says 0 (final_two 3 (codes "B" ∷ [])) gives hears 2 ([] ∷ answer_two (codes "echo") (codes "B" ∷ [])))
    ∷ [])

-- DISCONNECT is written in the worker's version, else in that of the refused word
abbrev pub RefusalsAreInTheRightVersion : Type 0
RefusalsAreInTheRightVersion = Gives standard_limits (
    joins 0
    ∷ joins 1
    ∷ joins 2
    ∷ joins 3
    ∷ (says 0 (ready_two (codes "echo")) gives [])
    ∷ (says 0 heartbeat gives hears 0 disconnect_two)
    ∷ (says 1 (ready (codes "echo")) gives [])
    ∷ (says 1 heartbeat_two gives hears 1 disconnect)
    ∷ (says 2 heartbeat_two gives hears 2 disconnect_two)
    ∷ (says 3 ([] ∷ ready_two (codes "mmi.x")) gives hears 3 ([] ∷ disconnect_two))
    ∷ [])

-- a worker's DISCONNECT is taken in either version, and nothing is said to it
abbrev pub LeavingIsTakenInAnyVersion : Type 0
LeavingIsTakenInAnyVersion = Gives standard_limits (
    joins 0
    ∷ joins 1
    ∷ (says 0 (ready_two (codes "echo")) gives [])
    ∷ (says 0 disconnect gives [])
    ∷ (says 1 (who_serves (codes "echo")) gives hears 1 (code (codes "404")))
    ∷ (says 0 (ready_two (codes "echo")) gives [])
    ∷ [])

-- a partial reply is a word of the worker: its long lease begins anew
abbrev pub PartialRepliesRenewLeases : Type 0
PartialRepliesRenewLeases = Gives standard_limits (
    joins 0
    ∷ joins 1
    ∷ (says 0 (ready_two (codes "echo")) gives [])
    ∷ (says 1 (asking_two (codes "echo") (codes "a" ∷ [])) gives hears 0 (request_two 2 (codes "a" ∷ [])))
    ∷ (Ticks 59999 gives hears 0 heartbeat_two)
    ∷ (says 0 (partial_two 2 (codes "p" ∷ [])) gives hears 1 (part_two (codes "echo") (codes "p" ∷ [])))
    ∷ (Ticks 119998 gives hears 0 heartbeat_two)
    ∷ (says 0 (final_two 2 (codes "A" ∷ [])) gives hears 1 (answer_two (codes "echo") (codes "A" ∷ [])))
    ∷ [])

-- the two workers' heartbeats at this moment, and their own
abbrev pub beat : ℕ → List Turn
beat now =
    (Ticks now gives hears 0 heartbeat ++ hears 1 heartbeat_two)
    ∷ (says 0 heartbeat gives [])
    ∷ (says 1 heartbeat_two gives [])
    ∷ []

-- a worker of each version and a client of each, over four heartbeats
abbrev pub long_session : List Turn
long_session = (
    joins 0
    ∷ joins 1
    ∷ joins_as Req 2
    ∷ joins 3
    ∷ (says 0 (ready (codes "echo")) gives [])
    ∷ (says 1 (ready_two (codes "sum")) gives [])
    ∷ (says 2 (asking (codes "echo") (codes "a")) gives hears 0 (request 3 (codes "a")))
    ∷ (says 0 (reply 3 (codes "A")) gives hears 2 (asking (codes "echo") (codes "A")))
    ∷ (says 3 (asking_two (codes "sum") (codes "1" ∷ codes "2" ∷ [])) gives hears 1 (request_two 4 (codes "1" ∷ codes "2" ∷ [])))
    ∷ (says 1 (partial_two 4 (codes "half" ∷ [])) gives hears 3 (part_two (codes "sum") (codes "half" ∷ [])))
    ∷ (says 1 (final_two 4 (codes "3" ∷ [])) gives hears 3 (answer_two (codes "sum") (codes "3" ∷ [])))
    ∷ []) ++ (beat 2500 ++ (beat 5000 ++ (beat 7500 ++ beat 10000)))

abbrev pub TheLongSession : Type 0
TheLongSession = Gives standard_limits long_session
