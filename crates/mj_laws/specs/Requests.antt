-- Busy workers: one request at a time.
use Rattle.std.specs.Prelude.{ℕ, ◌≡◌, ◌⊎◌, Bool, true, false, List, [], ◌∷◌, ◌++◌, Option, None, Some}
use Rattle.std.specs.List.{AllByRecursion}
use Rattle.mj_base.specs.declared.event.Out.{Out}
use Rattle.mj_base.specs.declared.event.Out.TheVariants.{End, Note, Piece}
use Rattle.mj_base.specs.declared.limits.Limits.{Limits}
use Rattle.mj_wire.specs.declared.item.WireItem.TheVariants.{Message}
use Rattle.mj_queue.specs.Settling.{Pair}
use Rattle.mj_queue.specs.declared.request.Request.{Request as AnyRequest}
use Rattle.mj_worker_cmd.specs.declared.command.OrderAct.TheVariants.{Request}
use Rattle.mj_worker_cmd.specs.declared.command.WorkerAct.TheVariants.{Reply}
use Rattle.mj_worker_cmd.specs.declared.command.WorkerCmd.{WorkerCmd}
use Rattle.mj_machine.specs.declared.connection.Connection.{Connection}
use Rattle.mj_machine.specs.declared.connection.Registration.{Registration}
use Rattle.mj_machine.specs.declared.connection.Role.{Role}
use Rattle.mj_machine.specs.declared.connection.Role.TheVariants.{Client, Fresh, Gone, Worker}
use Rattle.mj_machine.specs.declared.connection.Voice.{Voice}
use Rattle.mj_machine.specs.declared.said.Said.{Said}
use Rattle.mj_machine.specs.declared.said.Said.TheVariants.{Serves}
use Rattle.mj_machine.specs.MachineState.{Machine, State}
use Rattle.mj_machine.specs.EventStep.{Noted}
use Rattle.mj_machine.specs.Leaving.{held_by}
use Rattle.mj_machine.specs.Connections.{connection_of, voice_of}
use Rattle.mj_machine.specs.MessageStep.{said_in}
use Rattle.mj_machine.specs.Sending.{address, order_text}
use Rattle.mj_machine.specs.Pairing.{bodiless, body_for, request_text, with_body}
use Rattle.mj_machine.specs.TickStep.{is_due}
use Rattle.mj_machine.specs.Steps.{Expiry, Item, Paired, Step, run_steps}

-- a REQUEST is put to this connection
pub record IsRequestTo (n : ℕ) (t : Step) : Type 0 where
  pub chosen : Pair
  pub cause : t.cause ≡ Paired chosen
  pub worker : chosen.waiter.worker ≡ n
  pub lane : ℕ
  pub octets : List ℕ
  pub put : t.outs ≡ Piece lane octets ∷ []

-- these words are a reply, the last one where final is true: of a worker, in its version, to the asker of the request that
-- it holds, which is for the service that it serves
pub record Replies (final : Bool) (n : ℕ) (said : Said) (s : State) : Type 0 where
  pub worker : Connection
  pub there : connection_of n s.connections ≡ Some worker
  pub registration : Registration
  pub role_is : worker.role ≡ Worker registration
  pub cmd : WorkerCmd
  pub said_is : said ≡ Serves cmd
  pub version_is : cmd.version ≡ registration.version
  pub to : List ℕ
  pub body : List (List ℕ)
  pub act_is : cmd.act ≡ Reply final to body
  pub request : AnyRequest
  pub holds : held_by n s.held ≡ Some request
  pub service_is : registration.service ≡ request.service
  pub address_is : to ≡ address request.origin

-- the step is the connection's final reply to this request
pub record IsFinalReply (n : ℕ) (request : AnyRequest) (t : Step) : Type 0 where
  pub message : List (List ℕ)
  pub cause : t.cause ≡ Item n (Message message)
  pub says : Replies true n (said_in message) t.before.routing
  pub answers : says.request ≡ request

abbrev pub is_gone : Role → Bool
is_gone Fresh = false
is_gone Client = false
is_gone (Worker r) = false
is_gone Gone = true

-- the connection is there no more, or is passed over until it closes
abbrev pub has_left : Option Connection → Bool
has_left None = true
has_left (Some c) = is_gone c.role

-- its final reply to this request, its lease's end, or its leaving
abbrev pub IsFreeing : ℕ → AnyRequest → Step → Type 0
IsFreeing n request t = IsFinalReply n request t ⊎ ((t.cause ≡ Expiry n) ⊎ (has_left (connection_of n t.after.routing.connections) ≡ true))

abbrev pub OneFrees : ℕ → AnyRequest → List Step → Type 0
OneFrees n request [] = ⊥
OneFrees n request (t ∷ steps) = IsFreeing n request t ⊎ OneFrees n request steps

-- between two REQUESTs to one connection; a final reply there is to the request that the first of the two handed over
abbrev pub OneRequestAtATime : Limits → Machine → List Noted → Type 0
OneRequestAtATime limits m events = (n : ℕ) (front between rest : List Step) (t u : Step)
    → run_steps limits m events ≡ front ++ (t ∷ (between ++ (u ∷ rest)))
    → (first : IsRequestTo n t) → IsRequestTo n u → OneFrees n (bodiless first.chosen.request) between

-- ---- REQUESTs, said of bytes

-- these bytes are some REQUEST to a worker (ZeroMQ RFC 7, Majordomo/Worker)
abbrev pub IsRequest : List ℕ → Type 0
IsRequest octets = (voice : Voice) × (to : List ℕ) × (body : List (List ℕ)) × (octets ≡ order_text voice (Request to body))

-- the step hands a queued request to the worker on this lane, and the bytes say so in the worker's version, with the
-- request's body, or that of its ticket
pub record IsHandedOver (lane : ℕ) (octets : List ℕ) (t : Step) : Type 0 where
  pub chosen : Pair
  pub cause : t.cause ≡ Paired chosen
  pub worker : Connection
  pub there : connection_of chosen.waiter.worker t.before.routing.connections ≡ Some worker
  pub lane_is : worker.lane ≡ lane
  pub text : octets ≡ request_text (voice_of (Some worker)) (with_body (body_for chosen.request t.before.store) chosen.request)
  pub alone : t.outs ≡ Piece lane octets ∷ []

-- a piece that can be read as a REQUEST
abbrev pub IsPaired : Step → Out → Type 0
IsPaired t (Piece lane octets) = IsRequest octets → IsHandedOver lane octets t
IsPaired t (End lane reason at) = Unit {0}
IsPaired t (Note note) = Unit {0}

abbrev pub RequestsArePaired : Limits → Machine → List Noted → Type 0
RequestsArePaired limits m events = AllByRecursion (λ t. AllByRecursion (IsPaired t) t.outs) (run_steps limits m events)

-- ---- leases

-- where a step ends a worker's lease, the worker is there, and was last heard that long ago
abbrev pub LeaseHasPassed : Step → Type 0
LeaseHasPassed t = (n : ℕ) → t.cause ≡ Expiry n → (c : Connection) × (connection_of n t.before.routing.connections ≡ Some c) × (is_due t.before.routing c ≡ true)

abbrev pub LeasesEndInTime : Limits → Machine → List Noted → Type 0
LeasesEndInTime limits m events = AllByRecursion LeaseHasPassed (run_steps limits m events)
