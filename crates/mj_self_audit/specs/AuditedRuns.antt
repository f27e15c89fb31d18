-- Worked runs of the machine, from bytes on, and what an audit of their transcripts says.
use Rattle.std.specs.Prelude.{ℕ, ◌≡◌, List, [], ◌∷◌, ◌++◌, replicate, codes}
use Rattle.mj_base.specs.StandardLimits.{standard_limits}
use Rattle.mj_base.specs.declared.event.Event.{Event}
use Rattle.mj_base.specs.declared.event.Event.TheVariants.{Bytes, Open, Tick}
use Rattle.mj_frame.specs.FrameSpelling.{message_octets}
use Rattle.mj_machine.specs.ByteRuns.{greeting, hello, router}
use Rattle.mj_machine.specs.MachineRun.{plainly}
use Rattle.mj_machine.specs.MachineState.{start}
use Rattle.mj_machine.specs.RunSpelling.{asking, client, disconnect, ready, reply, request, who_serves}
use Rattle.mj_self_audit.specs.Recorded.{recorded}
use Rattle.mj_transcript.specs.Verdicts.{judged}
use Rattle.mj_transcript.specs.declared.line.Line.{Line}
use Rattle.mj_transcript.specs.declared.line.Line.TheVariants as lines
use Rattle.mj_transcript.specs.declared.verdict.Verdict.TheVariants.{Held}

-- ---- spelling

abbrev pub joins : ℕ → List Event
joins lane = Open lane ∷ Bytes lane hello ∷ []

abbrev pub says : ℕ → List (List ℕ) → List Event
says lane message = Bytes lane (message_octets message) ∷ []

abbrev pub transcript : List Event → List Line
transcript events = recorded standard_limits (start standard_limits) (plainly events)

-- so many lines are held, and so is the end
abbrev pub HoldsIn : ℕ → List Event → Type 0
HoldsIn count events = judged (transcript events) ≡ Held ∷ replicate count Held

-- ---- the runs

-- two workers, and a client that asks three times
abbrev pub RequestsAreRouted : Type 0
RequestsAreRouted = HoldsIn 22 (
    joins 0 ++ joins 1 ++ joins 2
    ++ says 0 (ready (codes "echo"))
    ++ says 1 (ready (codes "echo"))
    ++ says 2 (asking (codes "echo") (codes "a"))
    ++ says 2 (asking (codes "echo") (codes "b"))
    ++ says 2 (asking (codes "echo") (codes "c"))
    ++ says 1 (reply 3 (codes "B")))

-- a worker that holds a request has a longer lease, and is sent a heartbeat meanwhile
abbrev pub BusyLeasesAreLonger : Type 0
BusyLeasesAreLonger = HoldsIn 14 (
    joins 0
    ++ says 0 (ready (codes "echo"))
    ++ joins 1
    ++ says 1 (asking (codes "echo") (codes "a"))
    ++ Tick 59999 ∷ says 0 (reply 2 (codes "A")))

-- it ends in the end: the reply comes too late
abbrev pub busy_lease : List Event
busy_lease =
    joins 0
    ++ says 0 (ready (codes "echo"))
    ++ joins 1
    ++ says 1 (asking (codes "echo") (codes "a"))
    ++ Tick 60000 ∷ says 0 (reply 2 (codes "A"))

abbrev pub BusyLeasesEnd : Type 0
BusyLeasesEnd = HoldsIn 14 busy_lease

-- the lines of that run
abbrev pub LeasesAreRecorded : Type 0
LeasesAreRecorded = transcript busy_lease ≡
    lines.Open 0 (client 1) ∷ lines.Out 0 greeting ∷ lines.In 0 hello ∷ lines.Out 0 router
    ∷ lines.In 0 (message_octets (ready (codes "echo")))
    ∷ lines.Open 1 (client 2) ∷ lines.Out 1 greeting ∷ lines.In 1 hello ∷ lines.Out 1 router
    ∷ lines.In 1 (message_octets (asking (codes "echo") (codes "a"))) ∷ lines.Out 0 (message_octets (request 2 (codes "a")))
    ∷ lines.Lapse 0
    ∷ lines.In 0 (message_octets (reply 2 (codes "A"))) ∷ lines.Out 0 (message_octets disconnect)
    ∷ []

-- a lapsed worker registers again
abbrev pub LapsedWorkersMayReturn : Type 0
LapsedWorkersMayReturn = HoldsIn 13 (
    joins 0
    ++ says 0 (ready (codes "echo"))
    ++ joins 1
    ++ Tick 7500 ∷ says 0 (ready (codes "sum"))
    ++ says 1 (asking (codes "sum") (codes "1")))

-- a lane is opened while its peer is there
abbrev pub ReopenedLanesBeginAnew : Type 0
ReopenedLanesBeginAnew = HoldsIn 19 (
    joins 0
    ++ says 0 (ready (codes "echo"))
    ++ joins 1
    ++ joins 0
    ++ says 1 (who_serves (codes "echo"))
    ++ says 0 (ready (codes "echo"))
    ++ says 1 (asking (codes "echo") (codes "a")))

-- a request and a fault in the same piece: the connection ends behind the request
abbrev pub MessagesSettleOneByOne : Type 0
MessagesSettleOneByOne = HoldsIn 13 (
    joins 0
    ++ joins 1
    ++ says 0 (ready (codes "echo"))
    ++ Bytes 1 (message_octets (asking (codes "echo") (codes "a")) ++ 8 ∷ [])
    ∷ says 1 (who_serves (codes "echo"))
    ++ says 0 (reply 2 (codes "A")))
