-- What one message does (ZeroMQ RFC 7; RFC 8 for names that begin with `mmi.`, RFC 9 for those that begin with
-- `titanic.`), by the sender's role.
use Rattle.std.specs.Prelude.{ℕ, Bool, true, false, ◌&&◌, ◌||◌, List, [], ◌∷◌, ◌++◌, map, Option, None, Some, if◌then◌else◌}
use Rattle.std.specs.Option.{is_some}
use Rattle.std.specs.Str.{bytes_eq}
use Rattle.mj_base.specs.ServiceName.{is_reserved}
use Rattle.mj_base.specs.declared.event.Out.{Out}
use Rattle.mj_base.specs.declared.reason.Reason.TheVariants.{QueueFull}
use Rattle.mj_base.specs.declared.version.Version.{Version}
use Rattle.mj_base.specs.declared.version.Version.TheVariants.{One, Two}
use Rattle.mj_client_cmd.specs.ClientReading.{client_of}
use Rattle.mj_client_cmd.specs.declared.command.ClientCmd.{ClientCmd}
use Rattle.mj_mmi.specs.Asking.{asked, mmi_code}
use Rattle.mj_queue.specs.Settling.{is_served, is_too_much, queued}
use Rattle.mj_queue.specs.declared.request.Origin.{Origin}
use Rattle.mj_queue.specs.declared.request.Origin.TheVariants as origins
use Rattle.mj_queue.specs.declared.request.Request.{Request}
use Rattle.mj_queue.specs.declared.worker.Waiter.{Waiter}
use Rattle.mj_worker_cmd.specs.WorkerReading.{worker_of}
use Rattle.mj_worker_cmd.specs.declared.command.OrderAct.TheVariants as order
use Rattle.mj_worker_cmd.specs.declared.command.WorkerAct.{WorkerAct}
use Rattle.mj_worker_cmd.specs.declared.command.WorkerAct.TheVariants as act
use Rattle.mj_worker_cmd.specs.declared.command.WorkerCmd.{WorkerCmd}
use Rattle.mj_machine.specs.declared.connection.Connection.{Connection}
use Rattle.mj_machine.specs.declared.connection.Voice.{Voice}
use Rattle.mj_machine.specs.declared.connection.Registration.{Registration}
use Rattle.mj_machine.specs.declared.connection.Role.{Role}
use Rattle.mj_machine.specs.declared.connection.Role.TheVariants.{Fresh, Client, Worker, Gone}
use Rattle.mj_machine.specs.declared.held.Held.{Held}
use Rattle.mj_machine.specs.declared.said.Said.{Said}
use Rattle.mj_machine.specs.declared.said.Said.TheVariants.{Asks, Serves, Neither}
use Rattle.mj_machine.specs.StoreState.{Told}
use Rattle.mj_machine.specs.MachineState.{Act, Done, State, Whole}
use Rattle.mj_machine.specs.Connections.{connection_of, is_asking, worker_voice}
use Rattle.mj_machine.specs.Acts.{quiet, ◌then◌}
use Rattle.mj_machine.specs.Leaving.{becomes, ends, goes, held_by}
use Rattle.mj_machine.specs.Sending.{address, order_text, reply_text, sends}
use Rattle.mj_machine.specs.DiskActs.{routes}
use Rattle.mj_machine.specs.Pairing.{marks, settles, waits}
use Rattle.mj_machine.specs.TitanicStep.{answers, serves, stores, titanic_of}

-- ---- what a message is

abbrev pub said_by : Option ClientCmd → Option WorkerCmd → Said
said_by (Some cmd) other = Asks cmd
said_by None (Some cmd) = Serves cmd
said_by None None = Neither

abbrev pub said_in : List (List ℕ) → Said
said_in message = said_by (client_of message) (worker_of message)

-- ---- a command that its sender's role doesn't allow (unexpected): the connection is gone, and is told so

abbrev pub unexpected : ℕ → Voice → Told → State → Done Out
unexpected n voice told s = sends n (order_text voice order.Disconnect) told (goes n told s)

abbrev pub voice_in : WorkerCmd → Voice
voice_in cmd = record { version = cmd.version; lead = cmd.lead }

-- it is gone, and is told nothing
abbrev pub departs : ℕ → Told → State → Done Out
departs n told s = quiet (goes n told s)

-- ---- client requests

abbrev pub request_of : ℕ → ClientCmd → Request
request_of n cmd = record { origin = origins.Client n; service = cmd.service; version = cmd.version; lead = cmd.lead; body = cmd.body }

-- a worker that holds a request, as one that serves its service
abbrev pub busy_of : Held → Waiter
busy_of h = record { worker = h.worker; service = h.request.service }

-- somebody waits for this service or holds a request for it, or it is one of the store's
abbrev pub is_known : Told → Option (List ℕ) → State → Bool
is_known told None s = false
is_known told (Some name) s = is_served name s.waiting (map busy_of s.held) || (told.stored && is_some (titanic_of name))

-- the answer of a service whose name begins with `mmi.` (ZeroMQ RFC 8)
abbrev pub own_answer : Told → Request → State → List (List ℕ)
own_answer told request s = mmi_code request.service (is_known told (asked request.body) s) ∷ []

abbrev pub answers_itself : ℕ → Request → Told → State → Done Out
answers_itself n request told s = answers n request (own_answer told request s) told (becomes n Client s)

abbrev pub enqueues : ℕ → Request → State → State
enqueues n request s = record (becomes n Client s) { queue = s.queue ++ request ∷ [] }

abbrev pub queues : ℕ → ℕ → Request → Told → State → Done Out
queues lane n request told s = if is_too_much s.limits s.waiting s.queue request then ends lane n QueueFull (queued s.queue) told s else quiet (enqueues n request s)

abbrev pub as_client : ℕ → Whole → Whole
as_client n w = record w { routing = becomes n Client w.routing }

-- whether the name is one that the broker always answers itself, and one that it answers itself
abbrev pub asks_by : Bool → Bool → ℕ → ℕ → Request → Act
asks_by true reserved lane n request w = routes (answers_itself n request) w
asks_by false true lane n request w = serves (titanic_of request.service) n request (as_client n w)
asks_by false false lane n request w = routes (queues lane n request) w

-- names that begin with `mmi.`, and with a store those that begin with `titanic.`; every other request is queued, or is
-- one too many
abbrev pub asks : ℕ → ℕ → Request → Act
asks lane n request w = asks_by (is_reserved false request.service) (is_reserved w.store.stored request.service) lane n request w

-- ---- workers

abbrev pub registration : Voice → List ℕ → State → Registration
registration voice service s = record { version = voice.version; lead = voice.lead; service = service; mark = s.now; spoken = s.now }

-- READY: a worker that waits
abbrev pub registers : ℕ → Voice → List ℕ → Told → State → Done Out
registers n voice service told s =
    if is_reserved told.stored service then unexpected n voice told s else quiet (waits n service (becomes n (Worker (registration voice service s)) s))

-- of one that is no worker
abbrev pub begins : ℕ → Voice → WorkerAct → Told → State → Done Out
begins n voice (act.Ready service) told s = registers n voice service told s
begins n voice (act.Reply last to body) told s = unexpected n voice told s
begins n voice act.Heartbeat told s = unexpected n voice told s
begins n voice act.Disconnect told s = departs n told s

-- of one that may not: of a client, or of a worker in another version than its own
abbrev pub strays : ℕ → Voice → WorkerAct → Told → State → Done Out
strays n voice (act.Ready service) told s = unexpected n voice told s
strays n voice (act.Reply last to body) told s = unexpected n voice told s
strays n voice act.Heartbeat told s = unexpected n voice told s
strays n voice act.Disconnect told s = departs n told s

abbrev pub is_two : Version → Bool
is_two One = false
is_two Two = true

-- a final reply goes to its asker, where that is still there; a partial one goes to an asker of 0.2
abbrev pub delivers_back : ℕ → Bool → Request → List (List ℕ) → Told → State → Done Out
delivers_back n last request body told s =
    if is_asking (connection_of n s.connections) && (last || is_two request.version) then sends n (reply_text last request body) told s else quiet s

-- a ticket's final reply is stored, and a partial one is dropped
abbrev pub delivers_to : Origin → Bool → Request → List (List ℕ) → Act
delivers_to (origins.Client n) last request body w = routes (delivers_back n last request body) w
delivers_to (origins.Ticket n) true request body w = stores n body w
delivers_to (origins.Ticket n) false request body w = quiet w

abbrev pub delivers : Bool → Request → List (List ℕ) → Act
delivers last request body w = delivers_to request.origin last request body w

abbrev pub marked : ℕ → Whole → Whole
marked n w = record w { routing = marks n w.routing }

-- behind a final reply the worker waits again
abbrev pub rests : Bool → ℕ → List ℕ → Told → State → Done Out
rests true n service told s = quiet (waits n service s)
rests false n service told s = quiet s

-- a reply counts where it names the asker of the request that the worker holds
abbrev pub replied_by : Bool → ℕ → Registration → Bool → List (List ℕ) → Request → Act
replied_by true n r last body request w = delivers last request body (marked n w) then routes (rests last n r.service)
replied_by false n r last body request w = routes (unexpected n (worker_voice r)) w

abbrev pub replied : ℕ → Registration → Bool → List ℕ → List (List ℕ) → Option Request → Act
replied n r last to body None w = routes (unexpected n (worker_voice r)) w
replied n r last to body (Some request) w = replied_by (bytes_eq to (address request.origin)) n r last body request w

-- of a worker, in its own version
abbrev pub works_on : ℕ → Registration → WorkerAct → Act
works_on n r (act.Ready service) w = routes (unexpected n (worker_voice r)) w
works_on n r (act.Reply last to body) w = replied n r last to body (held_by n w.routing.held) w
works_on n r act.Heartbeat w = quiet (marked n w)
works_on n r act.Disconnect w = routes (departs n) w

abbrev pub same_version : Version → Version → Bool
same_version One One = true
same_version One Two = false
same_version Two One = false
same_version Two Two = true

abbrev pub works_by : Bool → ℕ → Registration → WorkerAct → Act
works_by true n r does w = works_on n r does w
works_by false n r does w = routes (strays n (worker_voice r) does) w

abbrev pub works : ℕ → Registration → WorkerCmd → Act
works n r cmd w = works_by (same_version cmd.version r.version) n r cmd.act w

-- ---- a message, by the sender's role

abbrev pub says : ℕ → ℕ → Role → Said → Act
says lane n Gone said w = quiet w
says lane n Fresh Neither w = routes (departs n) w
says lane n Fresh (Asks cmd) w = asks lane n (request_of n cmd) w
says lane n Fresh (Serves cmd) w = routes (begins n (voice_in cmd) cmd.act) w
says lane n Client Neither w = routes (departs n) w
says lane n Client (Asks cmd) w = asks lane n (request_of n cmd) w
says lane n Client (Serves cmd) w = routes (strays n (voice_in cmd) cmd.act) w
says lane n (Worker r) Neither w = routes (departs n) w
says lane n (Worker r) (Asks cmd) w = routes (unexpected n (worker_voice r)) w
says lane n (Worker r) (Serves cmd) w = works n r cmd w

abbrev pub says_by : ℕ → Option Connection → Said → Act
says_by n None said w = quiet w
says_by n (Some c) said w = says c.lane n c.role said w

-- settling follows each message
abbrev pub message_step : ℕ → List (List ℕ) → Act
message_step n message w = says_by n (connection_of n w.routing.connections) (said_in message) w then settles
