-- Worked runs of clients and workers of version 0.1, written out by hand from ZeroMQ RFC 7 and RFC 8.
use Rattle.std.specs.Prelude.{[], ◌∷◌, ◌++◌, codes}
use Rattle.mj_base.specs.StandardLimits.{standard_limits}
use Rattle.mj_base.specs.declared.event.Out.TheVariants.{End}
use Rattle.mj_base.specs.declared.reason.Reason.TheVariants.{BadFlags}
use Rattle.mj_wire.specs.declared.item.WireItem.TheVariants.{Ended, Message}
use Rattle.mj_machine.specs.EventStep.{Closes, Gains}
use Rattle.mj_machine.specs.RunSpelling.{Gives, asking, code, disconnect, hears, heartbeat, joins, ready, reply, request, says, who_serves, ◌gives◌}

-- nobody serves anything yet; `mmi.service` looks at the last frame, and is the one name of its kind that is known
abbrev pub QuestionsAreAnswered : Type 0
QuestionsAreAnswered = Gives standard_limits (
    joins 0
    ∷ (says 0 (who_serves (codes "echo")) gives hears 0 (code (codes "404")))
    ∷ (says 0 ([] ∷ codes "MDPC01" ∷ codes "mmi.service" ∷ []) gives hears 0 (code (codes "404")))
    ∷ (says 0 (who_serves []) gives hears 0 (code (codes "404")))
    ∷ (says 0 (asking (codes "mmi.other") (codes "echo")) gives hears 0 (asking (codes "mmi.other") (codes "501")))
    ∷ [])

-- two workers and three requests: the worker that has waited longest gets the oldest request, and the third waits
abbrev pub RequestsAreRouted : Type 0
RequestsAreRouted = Gives standard_limits (
    joins 0
    ∷ joins 1
    ∷ joins 2
    ∷ (says 0 (ready (codes "echo")) gives [])
    ∷ (says 1 (ready (codes "echo")) gives [])
    ∷ (says 2 (asking (codes "echo") (codes "a")) gives hears 0 (request 3 (codes "a")))
    ∷ (says 2 (asking (codes "echo") (codes "b")) gives hears 1 (request 3 (codes "b")))
    ∷ (says 2 (asking (codes "echo") (codes "c")) gives [])
    ∷ (says 1 (reply 3 (codes "B")) gives hears 2 (asking (codes "echo") (codes "B")) ++ hears 1 (request 3 (codes "c")))
    ∷ [])

-- a worker gets requests for its own service alone, whichever was queued first
abbrev pub ServicesAreKeptApart : Type 0
ServicesAreKeptApart = Gives standard_limits (
    joins 0
    ∷ joins 1
    ∷ joins 2
    ∷ (says 2 (asking (codes "sum") (codes "1")) gives [])
    ∷ (says 2 (asking (codes "echo") (codes "a")) gives [])
    ∷ (says 2 (asking (codes "echo") (codes "b")) gives [])
    ∷ (says 0 (ready (codes "echo")) gives hears 0 (request 3 (codes "a")))
    ∷ (says 1 (ready (codes "sum")) gives hears 1 (request 3 (codes "1")))
    ∷ (says 0 (reply 3 (codes "A")) gives hears 2 (asking (codes "echo") (codes "A")) ++ hears 0 (request 3 (codes "b")))
    ∷ [])

-- a worker that replies to an address other than its request's asker is cut off, and what it says then is passed over
abbrev pub ForeignRepliesAreRefused : Type 0
ForeignRepliesAreRefused = Gives standard_limits (
    joins 0
    ∷ joins 1
    ∷ joins 2
    ∷ (says 0 (ready (codes "echo")) gives [])
    ∷ (says 1 (ready (codes "echo")) gives [])
    ∷ (says 2 (asking (codes "echo") (codes "a")) gives hears 0 (request 3 (codes "a")))
    ∷ (says 2 (asking (codes "echo") (codes "b")) gives hears 1 (request 3 (codes "b")))
    ∷ (says 2 (asking (codes "echo") (codes "c")) gives [])
    ∷ (says 0 (reply 9 (codes "z")) gives hears 0 disconnect)
    ∷ (says 0 (reply 3 (codes "A")) gives [])
    ∷ [])

-- a worker registers once
abbrev pub ReadyTwiceIsRefused : Type 0
ReadyTwiceIsRefused = Gives standard_limits (
    joins 0
    ∷ (says 0 (ready (codes "echo")) gives [])
    ∷ (says 0 (ready (codes "echo")) gives hears 0 disconnect)
    ∷ (says 0 (ready (codes "echo")) gives [])
    ∷ [])

-- a heartbeat or a reply of one that never registered is refused, and its DISCONNECT is taken without a word
abbrev pub StrangersAreRefused : Type 0
StrangersAreRefused = Gives standard_limits (
    joins 0
    ∷ joins 1
    ∷ joins 2
    ∷ (says 0 heartbeat gives hears 0 disconnect)
    ∷ (says 1 disconnect gives [])
    ∷ (says 1 (who_serves (codes "echo")) gives [])
    ∷ (says 2 (reply 1 (codes "x")) gives hears 2 disconnect)
    ∷ [])

-- a client is no worker, a worker no client, and what is neither is passed over from then on
abbrev pub RolesAreKept : Type 0
RolesAreKept = Gives standard_limits (
    joins 0
    ∷ joins 1
    ∷ joins 2
    ∷ joins 3
    ∷ (says 0 (who_serves (codes "echo")) gives hears 0 (code (codes "404")))
    ∷ (says 0 (ready (codes "echo")) gives hears 0 disconnect)
    ∷ (says 1 (ready (codes "echo")) gives [])
    ∷ (says 1 (who_serves (codes "echo")) gives hears 1 disconnect)
    ∷ (says 2 (who_serves (codes "echo")) gives hears 2 (code (codes "404")))
    ∷ (says 2 disconnect gives [])
    ∷ (says 2 (who_serves (codes "echo")) gives [])
    ∷ (says 3 (codes "x" ∷ []) gives [])
    ∷ (says 3 (ready (codes "echo")) gives [])
    ∷ [])

-- the asker goes while its request is held: nobody gets the reply, not even the next one on its lane; and the service
-- counts as served while its worker holds a request, and afterwards
abbrev pub RepliesToTheGoneAreDropped : Type 0
RepliesToTheGoneAreDropped = Gives standard_limits (
    joins 0
    ∷ joins 1
    ∷ (says 0 (ready (codes "echo")) gives [])
    ∷ (says 1 (asking (codes "echo") (codes "a")) gives hears 0 (request 2 (codes "a")))
    ∷ (Closes 1 gives [])
    ∷ joins 1
    ∷ (says 1 (who_serves (codes "echo")) gives hears 1 (code (codes "200")))
    ∷ (says 0 (reply 2 (codes "A")) gives [])
    ∷ (says 1 (who_serves (codes "echo")) gives hears 1 (code (codes "200")))
    ∷ [])

-- the asker is still connected, but has said what is no command: it is passed over, and gets no reply
abbrev pub RepliesToThePassedOverAreDropped : Type 0
RepliesToThePassedOverAreDropped = Gives standard_limits (
    joins 0
    ∷ joins 1
    ∷ (says 0 (ready (codes "echo")) gives [])
    ∷ (says 1 (asking (codes "echo") (codes "a")) gives hears 0 (request 2 (codes "a")))
    ∷ (says 1 (codes "x" ∷ []) gives [])
    ∷ (says 0 (reply 2 (codes "A")) gives [])
    ∷ [])

-- what a client that has gone still had queued is dropped, and what others queued behind it is not
abbrev pub RequestsOfTheGoneAreDropped : Type 0
RequestsOfTheGoneAreDropped = Gives standard_limits (
    joins 0
    ∷ joins 1
    ∷ joins 2
    ∷ (says 0 (asking (codes "echo") (codes "a")) gives [])
    ∷ (says 1 (asking (codes "echo") (codes "b")) gives [])
    ∷ (Closes 0 gives [])
    ∷ (says 2 (ready (codes "echo")) gives hears 2 (request 2 (codes "b")))
    ∷ (says 2 (reply 2 (codes "B")) gives hears 1 (asking (codes "echo") (codes "B")))
    ∷ [])

-- a lane that opens again has a new peer, and the old one's place as a worker is gone
abbrev pub ReopenedLanesBeginAnew : Type 0
ReopenedLanesBeginAnew = Gives standard_limits (
    joins 0
    ∷ (says 0 (ready (codes "echo")) gives [])
    ∷ joins 1
    ∷ joins 0
    ∷ (says 1 (who_serves (codes "echo")) gives hears 1 (code (codes "404")))
    ∷ (says 0 (ready (codes "echo")) gives [])
    ∷ (says 1 (asking (codes "echo") (codes "a")) gives hears 0 (request 2 (codes "a")))
    ∷ [])

-- names that begin with `mmi.` are the broker's own; those of Titanic are free as long as there is no store
abbrev pub ReservedNamesAreRefused : Type 0
ReservedNamesAreRefused = Gives standard_limits (
    joins 0
    ∷ joins 1
    ∷ joins 2
    ∷ (says 0 (ready (codes "mmi.x")) gives hears 0 disconnect)
    ∷ (says 1 (ready (codes "titanic.x")) gives [])
    ∷ (says 2 (who_serves (codes "titanic.x")) gives hears 2 (code (codes "200")))
    ∷ (says 2 (asking (codes "titanic.x") (codes "a")) gives hears 1 (request 3 (codes "a")))
    ∷ [])

-- each message of a piece is settled by itself: the request goes to its worker before the fault behind it ends the
-- asker, and the reply then reaches nobody
abbrev pub MessagesSettleOneByOne : Type 0
MessagesSettleOneByOne = Gives standard_limits (
    joins 0
    ∷ joins 1
    ∷ (says 0 (ready (codes "echo")) gives [])
    ∷ (Gains 1 (Message (asking (codes "echo") (codes "a")) ∷ Ended BadFlags 113 ∷ []) gives hears 0 (request 2 (codes "a")) ++ End 1 BadFlags 113 ∷ [])
    ∷ (says 1 (who_serves (codes "echo")) gives [])
    ∷ (says 0 (reply 2 (codes "A")) gives [])
    ∷ [])
