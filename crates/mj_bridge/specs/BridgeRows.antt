-- Two runs of a bridge, from the bytes of its links.
use Rattle.std.specs.Prelude.{ℕ, ◌≡◌, List, [], ◌∷◌, ◌++◌}
use Rattle.std.specs.Prelude.{codes}
use Rattle.mj_base.specs.declared.link.LinkEvent.TheVariants as event
use Rattle.mj_bridge.specs.BridgeRules.{Call, FarGave, NearGave, Started, all_acts, doings, fresh}
use Rattle.mj_bridge.specs.declared.act.BridgeAct.{BridgeAct}
use Rattle.mj_bridge.specs.declared.act.BridgeAct.TheVariants.{Near, Far}
use Rattle.mj_frame.specs.FrameSpelling.{message_octets}
use Rattle.mj_greeting.specs.GreetingGrammar.{broker_greeting}
use Rattle.mj_handshake.specs.ReadyGrammar.{ready_frame}
use Rattle.mj_handshake.specs.declared.socket_type.SocketType.TheVariants.{Dealer, Req, Router}
use Rattle.mj_peer.specs.PeerTexts.{hello}
use Rattle.mj_peer.specs.declared.act.Act.TheVariants.{Write, Reopen, Served, Finished}

-- greeting and READY of a broker, and this message
abbrev pub broker_says : List (List ℕ) → List ℕ
broker_says message = broker_greeting ++ (ready_frame Router ++ message_octets message)

-- `M[|MDPW01|x02|C2||hi]` and `M[|MDPC01|sum|ho]`
abbrev pub request : List ℕ
request = broker_says ([] ∷ codes "MDPW01" ∷ (2 ∷ []) ∷ codes "C2" ∷ [] ∷ codes "hi" ∷ [])

abbrev pub reply : List ℕ
reply = broker_says ([] ∷ codes "MDPC01" ∷ codes "sum" ∷ codes "ho" ∷ [])

-- what the bridge writes
abbrev pub registers : BridgeAct
registers = Near (Write (message_octets ([] ∷ codes "MDPW01" ∷ (1 ∷ []) ∷ codes "echo" ∷ [])))

abbrev pub asks : BridgeAct
asks = Far (Write (message_octets ([] ∷ codes "MDPC01" ∷ codes "sum" ∷ codes "hi" ∷ [])))

abbrev pub answers : BridgeAct
answers = Near (Write (message_octets ([] ∷ codes "MDPW01" ∷ (3 ∷ []) ∷ codes "C2" ∷ [] ∷ codes "ho" ∷ [])))

abbrev pub leaves : BridgeAct
leaves = Near (Write (message_octets ([] ∷ codes "MDPW01" ∷ (5 ∷ []) ∷ [])))

-- `bridge echo b sum --count 1`
abbrev pub run : List Call → List BridgeAct
run calls = all_acts (doings calls (fresh (codes "echo") (codes "sum") 3 25 1))

abbrev pub AnsweredRun : Type 0
AnsweredRun =
    run (Started ∷ NearGave (event.Given request) ∷ FarGave (event.Given reply) ∷ [])
    ≡ Near (Write (hello Dealer)) ∷ registers ∷ Far (Write (hello Req)) ∷ asks ∷ answers ∷ Near Served ∷ leaves ∷ Near Finished ∷ []

-- the near link ends before the answer comes
abbrev pub LateRun : Type 0
LateRun =
    run (Started ∷ NearGave (event.Given request) ∷ NearGave event.End ∷ FarGave (event.Given reply) ∷ [])
    ≡ Near (Write (hello Dealer)) ∷ registers ∷ Far (Write (hello Req)) ∷ Near Reopen ∷ Near (Write (hello Dealer)) ∷ asks ∷ []
