-- The generated load. Eight peers connect. The last four ask N requests in turn, of four services; the first four then serve
-- one service each, and answer all requests. Where there is a store, some tickets are asked for at the end.
use Rattle.std.specs.Prelude.{ℕ, zero, suc, ◌+◌, ◌/◌, ◌%◌, min, nat_eq, Bool, true, false, List, [], ◌∷◌, ◌++◌, map, flat_map, codes, if◌then◌else◌}
use Rattle.std.specs.Fmt.{decimal}
use Rattle.std.specs.List.{range_with_len}
use Rattle.mj_base.specs.declared.event.Event.{Event}
use Rattle.mj_base.specs.declared.event.Event.TheVariants.{Open, Bytes, Sent}
use Rattle.mj_base.specs.declared.version.Version.{Version}
use Rattle.mj_base.specs.declared.version.Version.TheVariants.{One, Two}
use Rattle.mj_client_cmd.specs.ClientWriting.{request_frames}
use Rattle.mj_frame.specs.FrameSpelling.{message_octets}
use Rattle.mj_greeting.specs.GreetingGrammar.{broker_greeting}
use Rattle.mj_handshake.specs.ReadyGrammar.{ready_frame}
use Rattle.mj_handshake.specs.declared.socket_type.SocketType.TheVariants.{Dealer}
use Rattle.mj_machine.specs.Sending.{address}
use Rattle.mj_queue.specs.declared.request.Origin.TheVariants.{Client}
use Rattle.mj_worker_cmd.specs.WorkerWriting.{worker_frames}
use Rattle.mj_worker_cmd.specs.declared.command.WorkerAct.{WorkerAct}
use Rattle.mj_worker_cmd.specs.declared.command.WorkerAct.TheVariants.{Ready, Reply}

-- ---- what the peers say (ZeroMQ RFC 7 and 23)

-- the greeting, and READY of a DEALER
abbrev pub hello : List ℕ
hello = broker_greeting ++ ready_frame Dealer

-- a client's request in 0.1
abbrev pub asks : List ℕ → List (List ℕ) → List ℕ
asks service body = message_octets (request_frames (record { version = One; lead = true; service = service; body = body }))

-- in 0.1 the empty frame stands first; in 0.2 the workers leave it out
abbrev pub leads : Version → Bool
leads One = true
leads Two = false

abbrev pub says : Version → WorkerAct → List ℕ
says version act = message_octets (worker_frames (record { version = version; lead = leads version; act = act }))

-- ---- who says it

-- the services are `s0` to `s3`, each of the worker on the lane of its number
abbrev pub service : ℕ → List ℕ
service zero = codes "s0"
service (suc zero) = codes "s1"
service (suc (suc zero)) = codes "s2"
service (suc (suc (suc more))) = codes "s3"

-- lanes 0 and 2 speak 0.1, lanes 1 and 3 speak 0.2
abbrev pub speaks : ℕ → Version
speaks w = if nat_eq (w % 2) 0 then One else Two

-- the lane that asks request i, which is connection `asker i + 1`, and the worker that is asked
abbrev pub asker : ℕ → ℕ
asker i = 4 + i % 4

abbrev pub server : ℕ → ℕ
server i = (i / 4) % 4

-- ---- what happens

abbrev pub joining : ℕ → List Event
joining lane = Open lane ∷ Bytes lane hello ∷ Sent lane ∷ Sent lane ∷ []

abbrev pub asking : ℕ → Event
asking i = Bytes (asker i) (asks (service (server i)) (decimal i ∷ []))

abbrev pub serving : ℕ → Event
serving w = Bytes w (says (speaks w) (Ready (service w)))

abbrev pub replying : ℕ → Event
replying i = Bytes (server i) (says (speaks (server i)) (Reply true (address (Client (asker i + 1))) (decimal i ∷ [])))

-- the worker has taken the request and answers, and the client takes the reply
abbrev pub answering : ℕ → List Event
answering i = Sent (server i) ∷ replying i ∷ Sent (asker i) ∷ []

abbrev pub filing : ℕ → Event
filing j = Bytes 4 (asks (codes "titanic.request") (codes "later" ∷ decimal j ∷ []))

-- ticket j is asked for (ZeroMQ RFC 9), and the client takes the answer
abbrev pub storing : ℕ → List Event
storing j = filing j ∷ Sent 4 ∷ []

-- how many tickets are asked for: as many as requests, but at most 1,000
abbrev pub tickets : ℕ → Bool → ℕ
tickets n stored = if stored then min n 1000 else 0

-- so many numbers from 0 on
abbrev pub below : ℕ → List ℕ
below count = range_with_len 0 count

-- the load of N requests, with a store or without one
abbrev pub generated : ℕ → Bool → List Event
generated n stored =
    flat_map joining (below 8) ++ (map asking (below n) ++ (map serving (below 4) ++ (flat_map answering (below n) ++ flat_map storing (range_with_len 1 (tickets n stored)))))
