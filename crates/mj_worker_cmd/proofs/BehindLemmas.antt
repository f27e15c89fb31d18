-- What holds of a message and of the frames behind its first ones holds of the body of a worker's reply.
use Rattle.std.proofs.Common.{◌≡◌, ℕ, Bool, true, false, cond, List, [], ◌∷◌, Option, None, Some, IfSome}
use Rattle.std.specs.Option.{option_map}
use Rattle.std.specs.Str.{bytes_eq}
use Rattle.mj_base.specs.ServiceName.{is_service_name}
use Rattle.mj_base.specs.declared.version.Version.{Version}
use Rattle.mj_base.specs.declared.version.Version.TheVariants.{Two}
use Rattle.mj_opening.specs.Opening.{Begun, begun, behind_empty, opening_of, version_of, word_of}
use Rattle.mj_opening.specs.declared.party.Party.{Party}
use Rattle.mj_opening.specs.declared.party.Party.TheVariants.{Workers}
use Rattle.mj_worker_cmd.specs.Codes.{worker_kind}
use Rattle.mj_worker_cmd.specs.WorkerReading.{bare_of, envelope_of, ready_of, reply_of, worker_act, worker_begun, worker_cmd, worker_coded, worker_in, worker_of}
use Rattle.mj_worker_cmd.specs.declared.command.WorkerAct.{WorkerAct}
use Rattle.mj_worker_cmd.specs.declared.command.WorkerAct.TheVariants.{Ready, Reply, Heartbeat, Disconnect}
use Rattle.mj_worker_cmd.specs.declared.command.WorkerCmd.{WorkerCmd}
use Rattle.mj_worker_cmd.specs.declared.envelope.Envelope.{Envelope}
use Rattle.mj_worker_cmd.specs.declared.kind.WorkerKind.{WorkerKind}
use Rattle.mj_worker_cmd.specs.declared.kind.WorkerKind.TheVariants as kinds

module _ (P : List (List ℕ) → Type 0) (behind : (f : List ℕ) (fs : List (List ℕ)) → P (f ∷ fs) → P fs)
    (Q : WorkerAct → Type 0) (readies : (service : List ℕ) → Q (Ready service)) (replies : (last : Bool) (address : List ℕ) (body : List (List ℕ)) → P body → Q (Reply last address body))
    (beats : Q Heartbeat) (leaves : Q Disconnect) where
  if-some : {X : Type 0} (R : X → Type 0) (b : Bool) (x : X) → R x → IfSome (cond {A = Option X} b (Some x) None) R
  if-some R true x holds = holds
  if-some R false x holds = tt

  empty-behind : (party : Party) (m : List (List ℕ)) → P m → IfSome (behind_empty party m) (λ b. P b.rest)
  empty-behind party [] is = tt
  empty-behind party (word ∷ rest) is = by (version_of party word) (behind word rest is)
    where
      by : (o : Option Version) → P rest → IfSome (option_map (begun true rest) o) (λ b. P b.rest)
      by None holds = tt
      by (Some version) holds = holds

  opening-behind : (party : Party) (m : List (List ℕ)) → P m → IfSome (opening_of party m) (λ b. P b.rest)
  opening-behind party [] is = tt
  opening-behind party (first ∷ rest) is = by (bytes_eq first (word_of party Two)) (bytes_eq first []) (behind first rest is) (empty-behind party rest (behind first rest is))
    where
      by : (b e : Bool) → P rest → IfSome (behind_empty party rest) (λ b. P b.rest) → IfSome (cond {A = Option Begun} b (Some (begun false rest Two)) (cond {A = Option Begun} e (behind_empty party rest) None)) (λ b. P b.rest)
      by true e holds more = holds
      by false true holds more = more
      by false false holds more = tt

  envelope-behind : (rest : List (List ℕ)) → P rest → IfSome (envelope_of rest) (λ e. P e.body)
  envelope-behind [] is = tt
  envelope-behind (address ∷ []) is = tt
  envelope-behind (address ∷ empty ∷ body) is = if-some (λ (e : Envelope). P e.body) (bytes_eq empty []) (record { address = address; body = body }) (behind empty body (behind address (empty ∷ body) is))

  reply-behind : (last : Bool) (rest : List (List ℕ)) → P rest → IfSome (reply_of last rest) Q
  reply-behind last rest is = by (envelope_of rest) (envelope-behind rest is)
    where
      by : (o : Option Envelope) → IfSome o (λ e. P e.body) → IfSome (option_map (λ e. Reply last e.address e.body) o) Q
      by None holds = tt
      by (Some e) holds = replies last e.address e.body holds

  ready-behind : (rest : List (List ℕ)) → IfSome (ready_of rest) Q
  ready-behind [] = tt
  ready-behind (service ∷ []) = if-some Q (is_service_name service) (Ready service) (readies service)
  ready-behind (service ∷ next ∷ rest) = tt

  bare-behind : (does : WorkerAct) (rest : List (List ℕ)) → Q does → IfSome (bare_of does rest) Q
  bare-behind does [] holds = holds
  bare-behind does (frame ∷ rest) holds = tt

  act-behind : (kind : WorkerKind) (rest : List (List ℕ)) → P rest → IfSome (worker_act kind rest) Q
  act-behind kinds.Ready rest is = ready-behind rest
  act-behind (kinds.Reply last) rest is = reply-behind last rest is
  act-behind kinds.Heartbeat rest is = bare-behind Heartbeat rest beats
  act-behind kinds.Disconnect rest is = bare-behind Disconnect rest leaves

  coded-behind : (version : Version) (rest : List (List ℕ)) → P rest → IfSome (worker_coded version rest) Q
  coded-behind version [] is = tt
  coded-behind version (code ∷ rest) is = by (worker_kind version code) (behind code rest is)
    where
      by : (o : Option WorkerKind) → P rest → IfSome (worker_in o rest) Q
      by None holds = tt
      by (Some kind) holds = act-behind kind rest holds

  pub worker-behind : (message : List (List ℕ)) → P message → IfSome (worker_of message) (λ cmd. Q cmd.act)
  worker-behind message is = by (opening_of Workers message) (opening-behind Workers message is)
    where
      done : (version : Version) (lead : Bool) (o : Option WorkerAct) → IfSome o Q → IfSome (option_map (worker_cmd version lead) o) (λ cmd. Q cmd.act)
      done version lead None holds = tt
      done version lead (Some does) holds = holds

      by : (o : Option Begun) → IfSome o (λ b. P b.rest) → IfSome (worker_begun o) (λ cmd. Q cmd.act)
      by None holds = tt
      by (Some b) holds = done b.version b.lead (worker_coded b.version b.rest) (coded-behind b.version b.rest holds)
