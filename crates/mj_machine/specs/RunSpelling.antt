-- The spelling of worked runs: what happens turn by turn, and what must be done at each turn.
use Rattle.std.specs.Prelude.{ℕ, ◌≡◌, List, [], ◌∷◌, map, codes}
use Rattle.mj_base.specs.declared.event.Out.{Out}
use Rattle.mj_base.specs.declared.event.Out.TheVariants.{Piece}
use Rattle.mj_base.specs.declared.limits.Limits.{Limits}
use Rattle.mj_frame.specs.FrameSpelling.{message_octets}
use Rattle.mj_greeting.specs.GreetingGrammar.{broker_greeting}
use Rattle.mj_handshake.specs.ReadyGrammar.{ready_frame}
use Rattle.mj_handshake.specs.declared.socket_type.SocketType.{SocketType}
use Rattle.mj_handshake.specs.declared.socket_type.SocketType.TheVariants.{Dealer, Router}
use Rattle.mj_wire.specs.declared.item.WireItem.TheVariants.{Accepted, Message, Ready}
use Rattle.mj_machine.specs.StoreState.{Store, no_store}
use Rattle.mj_machine.specs.MachineState.{Whole, between, entered, start_with}
use Rattle.mj_machine.specs.Acts.{Doing, each}
use Rattle.mj_machine.specs.DiskActs.{notes_in}
use Rattle.mj_machine.specs.EventStep.{Gains, Happening, Opens, happens}

-- ---- runs

-- what happens, and what must be done then
abbrev pub Turn : Type 0
Turn = List Happening × List Out

infixl 5 ◌gives◌
abbrev pub ◌gives◌ : Happening → List Out → Turn
h gives outs = (h ∷ [], outs)

-- the notes of a turn are those that it must give
abbrev pub turned : Turn → Whole → Doing Whole Out
turned turn w = each happens turn.0 (entered w.routing w.store (notes_in turn.1))

abbrev pub and_on : Doing Whole Out → (Whole → List (List Out)) → List (List Out)
and_on d rest = d.1 ∷ rest d.0

-- what is done at each turn
abbrev pub outs_by_turn : List Turn → Whole → List (List Out)
outs_by_turn [] w = []
outs_by_turn (turn ∷ turns) w = and_on (turned turn w) (outs_by_turn turns)

-- from here on each turn gives what it must
abbrev pub Goes : Whole → List Turn → Type 0
Goes w turns = outs_by_turn turns w ≡ map (λ turn. turn.1) turns

-- from the start on, with this store or without one
abbrev pub GivesWith : Limits → Store → List Turn → Type 0
GivesWith limits store turns = Goes (between (start_with limits store)) turns

abbrev pub Gives : Limits → List Turn → Type 0
Gives limits turns = GivesWith limits no_store turns

-- where the turns end
abbrev pub end_of_turns : List Turn → Whole → Whole
end_of_turns [] w = w
end_of_turns (turn ∷ turns) w = end_of_turns turns (turned turn w).0

-- ---- what peers say and hear

-- a peer connects, shakes hands, and is greeted
abbrev pub joins_as : SocketType → ℕ → Turn
joins_as kind lane = (Opens lane ∷ Gains lane (Accepted ∷ Ready kind ∷ []) ∷ [], Piece lane broker_greeting ∷ Piece lane (ready_frame Router) ∷ [])

abbrev pub joins : ℕ → Turn
joins lane = joins_as Dealer lane

abbrev pub says : ℕ → List (List ℕ) → Happening
says lane message = Gains lane (Message message ∷ [])

abbrev pub hears : ℕ → List (List ℕ) → List Out
hears lane message = Piece lane (message_octets message) ∷ []

-- the address of connection n
abbrev pub client : ℕ → List ℕ
client n = 67 ∷ 0 ∷ 0 ∷ 0 ∷ 0 ∷ 0 ∷ 0 ∷ 0 ∷ n ∷ []

-- ---- version 0.1 (ZeroMQ RFC 7)

abbrev pub worker : List (List ℕ) → List (List ℕ)
worker frames = [] ∷ codes "MDPW01" ∷ frames

abbrev pub ready : List ℕ → List (List ℕ)
ready service = worker ((1 ∷ []) ∷ service ∷ [])

abbrev pub request : ℕ → List ℕ → List (List ℕ)
request asker body = worker ((2 ∷ []) ∷ client asker ∷ [] ∷ body ∷ [])

abbrev pub reply : ℕ → List ℕ → List (List ℕ)
reply asker body = worker ((3 ∷ []) ∷ client asker ∷ [] ∷ body ∷ [])

abbrev pub heartbeat : List (List ℕ)
heartbeat = worker ((4 ∷ []) ∷ [])

abbrev pub disconnect : List (List ℕ)
disconnect = worker ((5 ∷ []) ∷ [])

-- a client's request, and the reply to it
abbrev pub asking : List ℕ → List ℕ → List (List ℕ)
asking service body = [] ∷ codes "MDPC01" ∷ service ∷ body ∷ []

-- with any frames
abbrev pub asking_with : List ℕ → List (List ℕ) → List (List ℕ)
asking_with service frames = [] ∷ codes "MDPC01" ∷ service ∷ frames

-- who serves this service, and the answer to it (ZeroMQ RFC 8)
abbrev pub who_serves : List ℕ → List (List ℕ)
who_serves service = asking (codes "mmi.service") service

abbrev pub code : List ℕ → List (List ℕ)
code digits = asking (codes "mmi.service") digits
