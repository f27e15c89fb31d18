-- What each line says, behind the lines before it.
use Rattle.std.specs.Prelude.{ℕ, Bool, true, false, List, [], ◌∷◌, ◌++◌, Option, Some, None, if◌then◌else◌}
use Rattle.std.specs.List.{flat_map}
use Rattle.mj_base.specs.StandardLimits.{peer_limits, standard_limits}
use Rattle.mj_client_cmd.specs.ClientReading.{client_of, reply_of}
use Rattle.mj_client_cmd.specs.declared.command.ClientCmd.{ClientCmd}
use Rattle.mj_client_cmd.specs.declared.command.ClientReply.{ClientReply}
use Rattle.mj_wire.specs.StreamItems.{gained}
use Rattle.mj_wire.specs.declared.item.WireItem.{WireItem}
use Rattle.mj_wire.specs.declared.item.WireItem.TheVariants as items
use Rattle.mj_worker_cmd.specs.WorkerReading.{order_of, worker_of}
use Rattle.mj_worker_cmd.specs.declared.command.Order.{Order}
use Rattle.mj_worker_cmd.specs.declared.command.OrderAct.{OrderAct}
use Rattle.mj_worker_cmd.specs.declared.command.OrderAct.TheVariants as orders
use Rattle.mj_worker_cmd.specs.declared.command.WorkerAct.{WorkerAct}
use Rattle.mj_worker_cmd.specs.declared.command.WorkerAct.TheVariants as acts
use Rattle.mj_worker_cmd.specs.declared.command.WorkerCmd.{WorkerCmd}
use Rattle.mj_transcript.specs.declared.line.Line.{Line}
use Rattle.mj_transcript.specs.declared.line.Line.TheVariants.{Open, In, Out, Close, Lapse, Silent, Unlawful}
use Rattle.mj_transcript.specs.Lines.{connection_on, received, sent}
use Rattle.mj_ledger.specs.Events.{Event, Opened, Asked, Ready, Replied, Given, Answered, Lapsed, Left, Wrong, is_passed}
use Rattle.mj_ledger.specs.Moments.{moments}

-- ---- a received message

abbrev pub acts_by : List ℕ → WorkerAct → List Event
acts_by who (acts.Ready service) = Ready who service ∷ []
acts_by who (acts.Reply last to body) = Replied who last to body ∷ []
acts_by who acts.Heartbeat = []
acts_by who acts.Disconnect = Left who ∷ []

abbrev pub hears_cmd : List ℕ → Option ClientCmd → Option WorkerCmd → List Event
hears_cmd who (Some cmd) other = if is_passed cmd.service then [] else Asked who cmd.service cmd.body ∷ []
hears_cmd who None (Some cmd) = acts_by who cmd.act
hears_cmd who None None = Left who ∷ []

abbrev pub hears : List ℕ → WireItem → List Event
hears who items.Accepted = []
hears who (items.Ready kind) = []
hears who (items.Message message) = hears_cmd who (client_of message) (worker_of message)
hears who (items.Ended reason at) = []

-- ---- a sent message

abbrev pub ordered : List ℕ → OrderAct → List Event
ordered who (orders.Request to body) = Given who to body ∷ []
ordered who orders.Heartbeat = []
ordered who orders.Disconnect = Left who ∷ []

abbrev pub told_cmd : List ℕ → Option ClientReply → Option Order → List Event
told_cmd who (Some reply) other = if is_passed reply.service then [] else Answered who reply.service reply.last reply.body ∷ []
told_cmd who None (Some order) = ordered who order.act
told_cmd who None None = Wrong ∷ []

abbrev pub told : List ℕ → WireItem → List Event
told who items.Accepted = []
told who (items.Ready kind) = []
told who (items.Message message) = told_cmd who (reply_of message) (order_of message)
told who (items.Ended reason at) = Wrong ∷ []

-- ---- a line, behind others

abbrev pub said_at : List Line → Line → List Event
said_at before (Open lane address) = Opened address ∷ []
said_at before (In lane octets) = flat_map (hears (connection_on lane before)) (gained standard_limits (received lane before) octets)
said_at before (Out lane octets) = flat_map (told (connection_on lane before)) (gained peer_limits (sent lane before) octets)
said_at before (Close lane) = Left (connection_on lane before) ∷ []
said_at before (Lapse lane) = Lapsed (connection_on lane before) ∷ []
said_at before Silent = []
said_at before Unlawful = []

-- what the lines say, in order
abbrev pub said : List Line → List Event
said lines = flat_map (λ m. said_at m.0 m.1) (moments lines)
