-- Worked runs of heartbeats and leases, in milliseconds, written out by hand from the guide, chapter 4.
use Rattle.std.specs.Prelude.{[], ◌∷◌, codes}
use Rattle.mj_base.specs.StandardLimits.{standard_limits}
use Rattle.mj_machine.specs.EventStep.{Ticks}
use Rattle.mj_machine.specs.RunSpelling.{Gives, asking, code, disconnect, hears, heartbeat, joins, ready, reply, request, says, who_serves, ◌gives◌}

-- a waiting worker that says nothing counts for 7,499 milliseconds, and not for 7,500; it isn't told
abbrev pub WaitingLeasesEnd : Type 0
WaitingLeasesEnd = Gives standard_limits (
    joins 0
    ∷ (says 0 (ready (codes "echo")) gives [])
    ∷ joins 1
    ∷ (Ticks 7499 gives hears 0 heartbeat)
    ∷ (says 1 (who_serves (codes "echo")) gives hears 1 (code (codes "200")))
    ∷ (Ticks 7500 gives [])
    ∷ (says 1 (who_serves (codes "echo")) gives hears 1 (code (codes "404")))
    ∷ (says 0 heartbeat gives hears 0 disconnect)
    ∷ [])

-- a worker that holds a request has 60,000 milliseconds
abbrev pub BusyLeasesAreLonger : Type 0
BusyLeasesAreLonger = Gives standard_limits (
    joins 0
    ∷ (says 0 (ready (codes "echo")) gives [])
    ∷ joins 1
    ∷ (says 1 (asking (codes "echo") (codes "a")) gives hears 0 (request 2 (codes "a")))
    ∷ (Ticks 59999 gives hears 0 heartbeat)
    ∷ (says 0 (reply 2 (codes "A")) gives hears 1 (asking (codes "echo") (codes "A")))
    ∷ [])

-- and not one more: the request is lost
abbrev pub BusyLeasesEnd : Type 0
BusyLeasesEnd = Gives standard_limits (
    joins 0
    ∷ (says 0 (ready (codes "echo")) gives [])
    ∷ joins 1
    ∷ (says 1 (asking (codes "echo") (codes "a")) gives hears 0 (request 2 (codes "a")))
    ∷ (Ticks 60000 gives [])
    ∷ (says 0 (reply 2 (codes "A")) gives hears 0 disconnect)
    ∷ [])

-- a lapsed worker may register again
abbrev pub LapsedWorkersMayReturn : Type 0
LapsedWorkersMayReturn = Gives standard_limits (
    joins 0
    ∷ (says 0 (ready (codes "echo")) gives [])
    ∷ joins 1
    ∷ (Ticks 7500 gives [])
    ∷ (says 0 (ready (codes "sum")) gives [])
    ∷ (says 1 (asking (codes "sum") (codes "1")) gives hears 0 (request 2 (codes "1")))
    ∷ [])

-- one heartbeat where nothing was sent for 2,500 milliseconds, and the moment never goes back
abbrev pub HeartbeatsAreSent : Type 0
HeartbeatsAreSent = Gives standard_limits (
    joins 0
    ∷ (says 0 (ready (codes "echo")) gives [])
    ∷ (Ticks 2499 gives [])
    ∷ (Ticks 2500 gives hears 0 heartbeat)
    ∷ (Ticks 100 gives [])
    ∷ (Ticks 4999 gives [])
    ∷ (Ticks 5000 gives hears 0 heartbeat)
    ∷ [])

-- a request is as good as a heartbeat: the next is due 2,500 milliseconds after it
abbrev pub RequestsPutHeartbeatsOff : Type 0
RequestsPutHeartbeatsOff = Gives standard_limits (
    joins 0
    ∷ (says 0 (ready (codes "echo")) gives [])
    ∷ joins 1
    ∷ (Ticks 2000 gives [])
    ∷ (says 1 (asking (codes "echo") (codes "a")) gives hears 0 (request 2 (codes "a")))
    ∷ (Ticks 4499 gives [])
    ∷ (Ticks 4500 gives hears 0 heartbeat)
    ∷ [])

-- each word of a worker begins its lease anew
abbrev pub WordsRenewLeases : Type 0
WordsRenewLeases = Gives standard_limits (
    joins 0
    ∷ (says 0 (ready (codes "echo")) gives [])
    ∷ joins 1
    ∷ (Ticks 7499 gives hears 0 heartbeat)
    ∷ (says 0 heartbeat gives [])
    ∷ (Ticks 14998 gives hears 0 heartbeat)
    ∷ (says 1 (who_serves (codes "echo")) gives hears 1 (code (codes "200")))
    ∷ (Ticks 14999 gives [])
    ∷ (says 1 (who_serves (codes "echo")) gives hears 1 (code (codes "404")))
    ∷ [])

-- a worker that registers later has its times from then on, and an earlier moment that is told changes nothing
abbrev pub MomentsNeverGoBack : Type 0
MomentsNeverGoBack = Gives standard_limits (
    joins 0
    ∷ joins 1
    ∷ (Ticks 5000 gives [])
    ∷ (Ticks 100 gives [])
    ∷ (says 0 (ready (codes "echo")) gives [])
    ∷ (Ticks 7499 gives [])
    ∷ (Ticks 7500 gives hears 0 heartbeat)
    ∷ (Ticks 12499 gives hears 0 heartbeat)
    ∷ (says 1 (who_serves (codes "echo")) gives hears 1 (code (codes "200")))
    ∷ (Ticks 12500 gives [])
    ∷ (says 1 (who_serves (codes "echo")) gives hears 1 (code (codes "404")))
    ∷ [])

-- the long lease begins when the request is handed out
abbrev pub LongLeasesBeginAtTheRequest : Type 0
LongLeasesBeginAtTheRequest = Gives standard_limits (
    joins 0
    ∷ (says 0 (ready (codes "echo")) gives [])
    ∷ joins 1
    ∷ (Ticks 7000 gives hears 0 heartbeat)
    ∷ (says 1 (asking (codes "echo") (codes "a")) gives hears 0 (request 2 (codes "a")))
    ∷ (Ticks 66999 gives hears 0 heartbeat)
    ∷ (Ticks 67000 gives [])
    ∷ (says 0 (reply 2 (codes "A")) gives hears 0 disconnect)
    ∷ [])
