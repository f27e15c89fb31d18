-- Worked runs on bytes: what is sent for the bytes that come, written out by hand from ZeroMQ RFC 23 and RFC 7.
use Rattle.std.specs.Prelude.{ℕ, ◌≡◌, List, [], ◌∷◌, ◌++◌, map, replicate, codes}
use Rattle.mj_base.specs.StandardLimits.{standard_limits}
use Rattle.mj_base.specs.declared.event.Event.{Event}
use Rattle.mj_base.specs.declared.event.Event.TheVariants.{Bytes, Open}
use Rattle.mj_base.specs.declared.event.Out.{Out}
use Rattle.mj_base.specs.declared.event.Out.TheVariants.{End, Piece}
use Rattle.mj_base.specs.declared.reason.Reason.TheVariants.{BadFlags, BadMechanism, BadVersion, TooLong}
use Rattle.mj_machine.specs.MachineRun.{plainly, run_outs}
use Rattle.mj_machine.specs.MachineState.{start}

-- ---- spelling

abbrev pub Puts : List Event → List Out → Type 0
Puts events outs = run_outs standard_limits (start standard_limits) (plainly events) ≡ outs

-- version 3.0, mechanism NULL
abbrev pub greeting : List ℕ
greeting = 255 ∷ replicate 8 0 ++ 127 ∷ 3 ∷ 0 ∷ codes "NULL" ++ replicate 48 0

-- READY of a DEALER, and that of the broker, a ROUTER
abbrev pub dealer : List ℕ
dealer = 4 ∷ 28 ∷ 5 ∷ codes "READY" ++ 11 ∷ codes "Socket-Type" ++ 0 ∷ 0 ∷ 0 ∷ 6 ∷ codes "DEALER"

abbrev pub router : List ℕ
router = 4 ∷ 28 ∷ 5 ∷ codes "READY" ++ 11 ∷ codes "Socket-Type" ++ 0 ∷ 0 ∷ 0 ∷ 6 ∷ codes "ROUTER"

abbrev pub hello : List ℕ
hello = greeting ++ dealer

-- who serves `echo`: nobody
abbrev pub question : List ℕ
question = 1 ∷ 0 ∷ 1 ∷ 6 ∷ codes "MDPC01" ++ 1 ∷ 11 ∷ codes "mmi.service" ++ 0 ∷ 4 ∷ codes "echo"

abbrev pub answer : List ℕ
answer = 1 ∷ 0 ∷ 1 ∷ 6 ∷ codes "MDPC01" ++ 1 ∷ 11 ∷ codes "mmi.service" ++ 0 ∷ 3 ∷ codes "404"

-- byte by byte
abbrev pub one_by_one : List ℕ → List Event
one_by_one octets = map (λ octet. Bytes 0 (octet ∷ [])) octets

abbrev pub answered : List Out
answered = Piece 0 greeting ∷ Piece 0 router ∷ Piece 0 answer ∷ []

-- ---- the runs

-- a question in two pieces
abbrev pub PiecesAreRead : Type 0
PiecesAreRead = Puts (Open 0 ∷ Bytes 0 (hello ++ 1 ∷ 0 ∷ 1 ∷ []) ∷ Bytes 0 (6 ∷ codes "MDPC01" ++ 1 ∷ 11 ∷ codes "mmi.service" ++ 0 ∷ 4 ∷ codes "echo") ∷ []) answered

-- the question byte by byte
abbrev pub SingleBytesAreRead : Type 0
SingleBytesAreRead = Puts (Open 0 ∷ Bytes 0 hello ∷ one_by_one question) answered

-- sizes of one byte and of eight are the same
abbrev pub LongSizesAreRead : Type 0
LongSizesAreRead = Puts
    (Open 0 ∷ Bytes 0 hello ∷ Bytes 0 (1 ∷ 0 ∷ 1 ∷ 6 ∷ codes "MDPC01" ++ 1 ∷ 11 ∷ codes "mmi.service" ++ 2 ∷ replicate 7 0 ++ 5 ∷ codes "echoo") ∷ [])
    answered

-- other mechanisms and older versions are refused at the byte that says so
abbrev pub OtherMechanismsAreRefused : Type 0
OtherMechanismsAreRefused = Puts (Open 0 ∷ Bytes 0 (255 ∷ replicate 8 0 ++ 127 ∷ 3 ∷ 0 ∷ codes "PLAIN" ++ replicate 47 0) ∷ []) (Piece 0 greeting ∷ End 0 BadMechanism 12 ∷ [])

abbrev pub OlderVersionsAreRefused : Type 0
OlderVersionsAreRefused = Puts (Open 0 ∷ Bytes 0 (255 ∷ replicate 8 0 ++ 127 ∷ 2 ∷ 0 ∷ []) ∷ []) (Piece 0 greeting ∷ End 0 BadVersion 10 ∷ [])

-- what comes before a fault in the same piece is answered, and what comes after it is passed over
abbrev pub FaultsEndConnections : Type 0
FaultsEndConnections = Puts (Open 0 ∷ Bytes 0 hello ∷ Bytes 0 (question ++ 8 ∷ []) ∷ Bytes 0 (0 ∷ []) ∷ []) (answered ++ End 0 BadFlags 123 ∷ [])

-- a message may have 1,048,576 bytes: behind ten of them a frame of 1,048,567 is refused at its head
abbrev pub LongMessagesAreRefused : Type 0
LongMessagesAreRefused = Puts
    (Open 0 ∷ Bytes 0 hello ∷ Bytes 0 (1 ∷ 0 ∷ 1 ∷ 6 ∷ codes "MDPC01" ++ 1 ∷ 4 ∷ codes "echo" ++ 2 ∷ 0 ∷ 0 ∷ 0 ∷ 0 ∷ 0 ∷ 15 ∷ 255 ∷ []) ∷ Bytes 0 (247 ∷ []) ∷ [])
    (Piece 0 greeting ∷ Piece 0 router ∷ End 0 TooLong 110 ∷ [])

-- a request to a worker, and its reply
abbrev pub RequestsAreRoutedAsBytes : Type 0
RequestsAreRoutedAsBytes = Puts
    (Open 0 ∷ Bytes 0 hello ∷ Bytes 0 (1 ∷ 0 ∷ 1 ∷ 6 ∷ codes "MDPW01" ++ 1 ∷ 1 ∷ 1 ∷ 0 ∷ 4 ∷ codes "echo")
    ∷ Open 1 ∷ Bytes 1 hello ∷ Bytes 1 (1 ∷ 0 ∷ 1 ∷ 6 ∷ codes "MDPC01" ++ 1 ∷ 4 ∷ codes "echo" ++ 0 ∷ 1 ∷ codes "a")
    ∷ Bytes 0 (1 ∷ 0 ∷ 1 ∷ 6 ∷ codes "MDPW01" ++ 1 ∷ 1 ∷ 3 ∷ 1 ∷ 9 ∷ codes "C" ++ replicate 7 0 ++ 2 ∷ 1 ∷ 0 ∷ 0 ∷ 1 ∷ codes "A")
    ∷ [])
    (Piece 0 greeting ∷ Piece 0 router ∷ Piece 1 greeting ∷ Piece 1 router
    ∷ Piece 0 (1 ∷ 0 ∷ 1 ∷ 6 ∷ codes "MDPW01" ++ 1 ∷ 1 ∷ 2 ∷ 1 ∷ 9 ∷ codes "C" ++ replicate 7 0 ++ 2 ∷ 1 ∷ 0 ∷ 0 ∷ 1 ∷ codes "a")
    ∷ Piece 1 (1 ∷ 0 ∷ 1 ∷ 6 ∷ codes "MDPC01" ++ 1 ∷ 4 ∷ codes "echo" ++ 0 ∷ 1 ∷ codes "A")
    ∷ [])
