-- What the run of a command does, from its beginning to its end, and at each place where it may break off.
use Rattle.std.specs.Prelude.{ℕ, ◌≡◌, ◌-◌, ◌^◌, min, ⊤, Bool, true, false, List, [], ◌∷◌, ◌++◌, length, Option, None, Some, is_some}
use Rattle.std.specs.List.{list_any}
use Rattle.std.specs.Option.{option_map}
use Rattle.mj_base.specs.declared.link.LinkEvent.{LinkEvent}
use Rattle.mj_peer.specs.ClientEndRules as client
use Rattle.mj_peer.specs.WorkerEndRules as worker
use Rattle.mj_peer.specs.declared.act.Act.{Act}
use Rattle.mj_peer.specs.declared.act.Act.TheVariants as act
use Rattle.mj_peering.specs.ClientRun as client_run
use Rattle.mj_peering.specs.Performing.{Round}
use Rattle.mj_peering.specs.Requests.{requests}
use Rattle.mj_peering.specs.WorkerRun as worker_run
use Rattle.mj_peering.specs.declared.leaving.Leaving.{Leaving}
use Rattle.mj_peering.specs.declared.leaving.Leaving.TheVariants as leaves
use Rattle.mj_peer_prog.specs.declared.ending.Ending.{Ending}
use Rattle.mj_peer_prog.specs.declared.ending.Ending.TheVariants as endings
use Rattle.mj_peer_prog.specs.declared.task.Asking.{Asking}
use Rattle.mj_peer_prog.specs.declared.task.Serving.{Serving}
use Rattle.mj_peer_prog.specs.declared.task.Task.{Task}
use Rattle.mj_peer_prog.specs.declared.task.Task.TheVariants as tasks

-- ---- a client

abbrev pub client_of : Asking → client.Client
client_of a = client.fresh a.version a.service a.tries a.wait

-- where they are known, these are all requests of the input
abbrev pub AreAll : Option (List (List ℕ)) → List (List ℕ) → Type 0
AreAll None texts = ⊤
AreAll (Some all) texts = all ≡ texts

-- and these are the first of them
abbrev pub AreFirst : Option (List (List ℕ)) → List (List ℕ) → Type 0
AreFirst None texts = ⊤
AreFirst (Some all) texts = (rest : List (List ℕ)) × (all ≡ texts ++ rest)

abbrev pub is_no_answer : Act → Bool
is_no_answer (act.Write text) = false
is_no_answer act.Reopen = false
is_no_answer (act.Part body) = false
is_no_answer (act.Done body) = false
is_no_answer act.Served = false
is_no_answer act.Finished = false
is_no_answer act.NoAnswer = true

-- `NoAnswer` is among these acts
abbrev pub gives_up : List Act → Bool
gives_up acts = list_any is_no_answer acts

-- Each request of the input was answered; or the last one that was asked was given up, by the act `NoAnswer`.
abbrev pub ClientEnds : Ending → client.Client → List Act → Option (List (List ℕ)) → List (List ℕ) → Type 0
ClientEnds (endings.Answered n) c acts input texts = (gives_up acts ≡ false) × (is_some c.talk.request ≡ false) × AreAll input texts × (n ≡ min (length texts) (2 ^ 64 - 1))
ClientEnds (endings.Served n) c acts input texts = ⊥
ClientEnds (endings.NoAnswer n) c acts input texts = (gives_up acts ≡ true) × AreFirst input texts × (n ≡ min (length texts) (2 ^ 64 - 1))

-- a request was given up, or the last one was answered
abbrev pub ending_of : Bool → ℕ → Ending
ending_of true n = endings.NoAnswer n
ending_of false n = endings.Answered n

-- the run, to its end
pub record ClientDone (a : Asking) (input : Option (List (List ℕ))) (ending : Ending) (passed : List Round) : Type 0 where
  pub calls : List client.Call
  pub in_turn : client_run.AreInTurn calls (client_of a)
  pub texts : List (List ℕ)
  pub asked : client_run.bodies calls ≡ client_run.framed texts
  pub ends : ClientEnds ending (client.after calls (client_of a)) (client.acts_of calls (client_of a)) input texts
  pub passed_is : passed ≡ client_run.rounds calls (client_of a)

-- its first calls
pub record ClientBegun (a : Asking) (input : Option (List (List ℕ))) (passed : List Round) : Type 0 where
  pub calls : List client.Call
  pub in_turn : client_run.AreInTurn calls (client_of a)
  pub texts : List (List ℕ)
  pub asked : client_run.bodies calls ≡ client_run.framed texts
  pub first : AreFirst input texts
  pub passed_is : passed ≡ client_run.rounds calls (client_of a)

-- its first calls, and the next one
pub record ClientGoes (a : Asking) (input : Option (List (List ℕ))) (passed : List Round) (last : Round) : Type 0 where
  pub calls : List client.Call
  pub call : client.Call
  pub in_turn : client_run.AreInTurn calls (client_of a)
  pub next : client_run.IsNext call (client.after calls (client_of a))
  pub texts : List (List ℕ)
  pub asked : client_run.bodies calls ++ client_run.bodies_of call ≡ client_run.framed texts
  pub first : AreFirst input texts
  pub passed_is : passed ≡ client_run.rounds calls (client_of a)
  pub last_is : last ≡ client_run.round_of call (client.after calls (client_of a))

-- ---- a worker

abbrev pub worker_of : Serving → worker.Worker
worker_of s = worker.fresh s.version s.service s.tries s.parts s.count

-- it left behind so many answers
abbrev pub ending_by : Leaving → ℕ → Ending
ending_by leaves.Finished n = endings.Served n
ending_by leaves.NoAnswer n = endings.NoAnswer n

-- the run, to its end: the last event is the first by which the worker leaves
pub record WorkerDone (s : Serving) (ending : Ending) (passed : List Round) : Type 0 where
  pub events : List LinkEvent
  pub last : LinkEvent
  pub at_work : worker_run.leaving_in (worker.acts_of (worker_run.calls_of events) (worker_of s)) ≡ None
  pub leaving : Leaving
  pub leaves : worker_run.leaving_in (worker.turn_of (worker.Met last) (worker.after (worker_run.calls_of events) (worker_of s))).1 ≡ Some leaving
  pub ends : ending ≡ ending_by leaving (worker.turn_of (worker.Met last) (worker.after (worker_run.calls_of events) (worker_of s))).0.duty.served
  pub passed_is : passed ≡ worker_run.rounds (worker_run.calls_of events) (worker_of s) ++ worker_run.round_of (worker.Met last) (worker.after (worker_run.calls_of events) (worker_of s)) ∷ []

-- its first calls, by which the worker hasn't left
pub record WorkerBegun (s : Serving) (passed : List Round) : Type 0 where
  pub calls : List worker.Call
  pub in_turn : worker_run.AreInTurn calls
  pub at_work : worker_run.leaving_in (worker.acts_of calls (worker_of s)) ≡ None
  pub passed_is : passed ≡ worker_run.rounds calls (worker_of s)

-- its first calls, and the next one
pub record WorkerGoes (s : Serving) (passed : List Round) (last : Round) : Type 0 where
  pub calls : List worker.Call
  pub call : worker.Call
  pub in_turn : worker_run.AreInTurn (calls ++ call ∷ [])
  pub at_work : worker_run.leaving_in (worker.acts_of calls (worker_of s)) ≡ None
  pub passed_is : passed ≡ worker_run.rounds calls (worker_of s)
  pub last_is : last ≡ worker_run.round_of call (worker.after calls (worker_of s))

-- ---- either

-- the requests of an input, where it is known
abbrev pub requests_in : Option (List ℕ) → Option (List (List ℕ))
requests_in from = option_map requests from

-- what passed is the run of the task, to this end
abbrev pub IsDone : Task → Option (List ℕ) → Ending → List Round → Type 0
IsDone (tasks.Client a) from ending passed = ClientDone a (requests_in from) ending passed
IsDone (tasks.Worker s) from ending passed = WorkerDone s ending passed

-- or its beginning
abbrev pub IsBegun : Task → Option (List ℕ) → List Round → Type 0
IsBegun (tasks.Client a) from passed = ClientBegun a (requests_in from) passed
IsBegun (tasks.Worker s) from passed = WorkerBegun s passed

-- or its beginning, behind which this is next
abbrev pub Goes : Task → Option (List ℕ) → List Round → Round → Type 0
Goes (tasks.Client a) from passed last = ClientGoes a (requests_in from) passed last
Goes (tasks.Worker s) from passed last = WorkerGoes s passed last
