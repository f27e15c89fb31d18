-- Every act is made of few small changes: what each of these keeps, the act keeps.
use Rattle.std.proofs.Common.{◌≡◌, ◌||◌, ◌&&◌, ℕ, Bool, true, false, cond, List, [], Option, None, Some, refl, sym, ap, subst, ◌∙◌, append-nil}
use Rattle.std.specs.Str.{bytes_eq}
use Rattle.std.proofs.lemmas.Slice.Eq.{bytes_eq-Decides}
use Rattle.mj_base.specs.ServiceName.{is_reserved}
use Rattle.mj_base.specs.declared.event.Out.{Out}
use Rattle.mj_base.specs.declared.reason.Reason.{Reason}
use Rattle.mj_base.specs.declared.reason.Reason.TheVariants.{QueueFull}
use Rattle.mj_client_cmd.specs.declared.command.ClientCmd.{ClientCmd}
use Rattle.mj_greeting.specs.GreetingGrammar.{broker_greeting}
use Rattle.mj_handshake.specs.ReadyGrammar.{ready_frame}
use Rattle.mj_handshake.specs.declared.socket_type.SocketType.TheVariants.{Router}
use Rattle.mj_wire.specs.declared.item.WireItem.{WireItem}
use Rattle.mj_wire.specs.declared.item.WireItem.TheVariants as items
use Rattle.mj_queue.specs.Settling.{Pair, is_too_much, pair, queued}
use Rattle.mj_queue.specs.declared.request.Origin.{Origin}
use Rattle.mj_queue.specs.declared.request.Origin.TheVariants as origins
use Rattle.mj_queue.specs.declared.request.Request.{Request}
use Rattle.mj_worker_cmd.specs.declared.command.OrderAct.TheVariants as order
use Rattle.mj_worker_cmd.specs.declared.command.WorkerAct.{WorkerAct}
use Rattle.mj_worker_cmd.specs.declared.command.WorkerAct.TheVariants as act
use Rattle.mj_worker_cmd.specs.declared.command.WorkerCmd.{WorkerCmd}
use Rattle.mj_machine.specs.declared.connection.Connection.{Connection}
use Rattle.mj_machine.specs.declared.connection.Registration.{Registration}
use Rattle.mj_machine.specs.declared.connection.Role.{Role}
use Rattle.mj_machine.specs.declared.connection.Role.TheVariants.{Fresh, Client, Worker, Gone}
use Rattle.mj_machine.specs.declared.connection.Voice.{Voice}
use Rattle.mj_machine.specs.declared.said.Said.{Said}
use Rattle.mj_machine.specs.declared.said.Said.TheVariants.{Asks, Neither, Serves}
use Rattle.mj_machine.specs.StoreState.{told_by}
use Rattle.mj_machine.specs.MachineState.{Done, State, Whole}
use Rattle.mj_machine.specs.Connections.{connection_of, is_asking, number_on, service_in, service_of, voice_of, worker_voice}
use Rattle.mj_machine.specs.Acts.{Doing, quiet, ◌then◌}
use Rattle.mj_machine.specs.Leaving.{comes_back, ends, goes, held_by}
use Rattle.mj_machine.specs.Sending.{address, order_text, reply_text, sends}
use Rattle.mj_machine.specs.DiskActs.{attempted, counted, fails, routed, routes}
use Rattle.mj_machine.specs.Pairing.{body_for, body_from, dispatched, handed, hands, marks, mark_set, passes, request_text, waits, with_body}
use Rattle.mj_machine.specs.MessageStep.{as_client, asks, asks_by, begins, delivers, delivers_to, departs, enqueues, is_two, marked, queues, replied, replied_by, request_of, rests, same_version, said_in, says, says_by, strays, unexpected, voice_in, works, works_by, works_on}
use Rattle.mj_machine.specs.TitanicStep.{titanic_of}
use Rattle.mj_machine.specs.EventStep.{closes, ends_by, opened, reports}
use Rattle.mj_machine.specs.Steps.{Beat, Cause, Closing, Expiry, IsAllowed, Item, Opening, Paired, Report, Time, acts, item_act}
use Rattle.mj_machine.proofs.Changes.{Answers, Beats, Delivers, Finishes, Greets, Hands, HoldsNoPending, IsCarried, IsKept, IsNoServer, IsReplyOf, ReadsTicket, Refuses, Says, Shakes, given_over, kept-carried, on, registered}
use Rattle.mj_machine.proofs.LookLemmas.{delivers-held, delivers-service, heard-client, heard-service, look-changed}
use Rattle.mj_machine.proofs.StoreWalk.{stores-end, walk-serves, walk-stores}
use Rattle.mj_machine.proofs.SendWalk.{walk-sends}

module _ (cause : Cause) (w0 : Whole) (P : Doing Whole Out → Type 0) (carried : IsCarried cause w0 P) where
  abbrev S0 : State
  S0 = w0.routing

  walk-unexpected : (n : ℕ) (voice : Voice) → P (quiet w0) → P (routes (unexpected n voice) w0)
  walk-unexpected n voice p =
      walk-sends cause w0 P carried n (order_text voice order.Disconnect) (on w0 (goes n (told_by w0.store) S0)) [] (Refuses voice refl) (carried.gone n w0 [] p)

  walk-departs : (n : ℕ) → P (quiet w0) → P (routes (departs n) w0)
  walk-departs n p = carried.gone n w0 [] p

  -- ---- a message of n

  module _ (n : ℕ) (c : Connection) (is : connection_of n w0.routing.connections ≡ Some c) (message : List (List ℕ)) (told : Says cause n message) where
    walk-queues : (lane : ℕ) (request : Request) → request.origin ≡ origins.Client n → P (quiet w0) → P (as_client n w0, []) → P (routes (queues lane n request) w0)
    walk-queues lane request origin p asking = by (is_too_much S0.limits S0.waiting S0.queue request)
      where
        by : (b : Bool) → P (routed w0 (cond {A = Done Out} b (ends lane n QueueFull (queued S0.queue) (told_by w0.store) S0) (quiet (enqueues n request S0))))
        by true = carried.ends lane n QueueFull (queued S0.queue) w0 [] p
        by false = carried.queued n c message request [] told is origin asking

    walk-asks : (lane : ℕ) (cmd : ClientCmd) → said_in message ≡ Asks cmd → IsNoServer c.role → P (quiet w0) → P (asks lane n (request_of n cmd) w0)
    walk-asks lane cmd reads plain p = by (is_reserved false cmd.service) (is_reserved w0.store.stored cmd.service) refl refl
      where
        asking : P (as_client n w0, [])
        asking = carried.asking n c [] is plain p

        by : (a b : Bool) → is_reserved false cmd.service ≡ a → is_reserved w0.store.stored cmd.service ≡ b → P (asks_by a b lane n (request_of n cmd) w0)
        by true b own also =
            walk-sends cause w0 P carried n _ (as_client n w0) []
            (Answers (record { message = message; cause_is = told; cmd = cmd; said_is = reads; reserved = own; text = refl })) asking
        by false true own also = walk-serves cause w0 P carried n message told cmd reads own also (titanic_of cmd.service) refl (as_client n w0) refl asking
        by false false own also = walk-queues lane (request_of n cmd) refl p asking

    walk-begins : (voice : Voice) (a : WorkerAct) → c.role ≡ Fresh → P (quiet w0) → P (routes (begins n voice a) w0)
    walk-begins voice (act.Ready service) fresh p = by (is_reserved w0.store.stored service)
      where
        by : (b : Bool) → P (routed w0 (cond {A = Done Out} b (unexpected n voice (told_by w0.store) S0) (quiet (registered n voice service S0))))
        by true = walk-unexpected n voice p
        by false = carried.registers n c message voice service [] told is fresh p
    walk-begins voice (act.Reply last to body) fresh p = walk-unexpected n voice p
    walk-begins voice act.Heartbeat fresh p = walk-unexpected n voice p
    walk-begins voice act.Disconnect fresh p = walk-departs n p

    walk-strays : (voice : Voice) (a : WorkerAct) → P (quiet w0) → P (routes (strays n voice a) w0)
    walk-strays voice (act.Ready service) p = walk-unexpected n voice p
    walk-strays voice (act.Reply last to body) p = walk-unexpected n voice p
    walk-strays voice act.Heartbeat p = walk-unexpected n voice p
    walk-strays voice act.Disconnect p = walk-departs n p

    -- ---- a reply

    abbrev W1 : Whole
    W1 = marked n w0

    walk-delivers : (last : Bool) (reply : IsReplyOf last n (said_in message) S0) (origin : Origin) → reply.request.origin ≡ origin → P (quiet W1)
        → P (delivers_to origin last reply.request reply.body W1)
    walk-delivers true reply (origins.Ticket q) origin p = walk-stores cause w0 P carried n q reply.body W1 [] (reply.request, reply.holds, origin) tt p
    walk-delivers false reply (origins.Ticket q) origin p = p
    walk-delivers last reply (origins.Client q) origin p = by (is_asking (connection_of q (marks n S0).connections)) (last || is_two reply.request.version) refl
      where
        before : is_asking (connection_of q (marks n S0).connections) ≡ true → is_asking (connection_of q S0.connections) ≡ true
        before asks = sym (look-changed is_asking q n (mark_set S0.now) (λ d. refl) (λ d. heard-client S0.now d.role) S0.connections) ∙ asks

        by : (a b : Bool) → is_asking (connection_of q (marks n S0).connections) ≡ a
            → P (routed W1 (cond {A = Done Out} (a && b) (sends q (reply_text last reply.request reply.body) (told_by w0.store) (marks n S0)) (quiet (marks n S0))))
        by true true asks =
            walk-sends cause w0 P carried q (reply_text last reply.request reply.body) W1 []
            (Delivers (record { worker = n; message = message; cause_is = told; last = last; reply = reply; origin = origin; asks = before asks; text = refl })) p
        by true false asks = p
        by false b asks = p

    walk-rests : (last : Bool) (service : List ℕ) (d : Doing Whole Out) → (last ≡ true → Finishes cause S0 n) → service_of (connection_of n d.0.routing.connections) ≡ Some service
        → (last ≡ true → HoldsNoPending n d.0) → P d → P (d then routes (rests last n service))
    walk-rests true service d final serves nothing p =
        subst (λ (xs : List Out). P (on d.0 (waits n service d.0.routing), xs)) (sym (append-nil d.1)) (carried.rested n service d.0 d.1 (final refl) serves (nothing refl) p)
    walk-rests false service d final serves nothing p = subst (λ (xs : List Out). P (d.0, xs)) (sym (append-nil d.1)) p

    module _ (r : Registration) (works_as : c.role ≡ Worker r) (cmd : WorkerCmd) (reads : said_in message ≡ Serves cmd) where
      marked-service : service_of (connection_of n (marks n S0).connections) ≡ Some r.service
      marked-service =
          look-changed service_of n n (mark_set S0.now) (λ d. refl) (λ d. heard-service S0.now d.role) S0.connections ∙ ap service_of is ∙ ap service_in works_as

      same-some : (x y : Request) → Some x ≡ Some y → x ≡ y
      same-some x y e = cc e

      -- the worker serves on behind the delivery
      after-service : (origin : Origin) (last : Bool) (request : Request) (body : List (List ℕ))
          → service_of (connection_of n (delivers_to origin last request body W1).0.routing.connections) ≡ Some r.service
      after-service (origins.Client q) last request body = delivers-service n q last request body (told_by w0.store) (marks n S0) r.service marked-service
      after-service (origins.Ticket q) true request body = ap (λ (cs : List Connection). service_of (connection_of n cs)) (stores-end q body W1).connections ∙ marked-service
      after-service (origins.Ticket q) false request body = marked-service

      -- and holds nothing that comes back to the queue
      after-held : (origin : Origin) (request : Request) (body : List (List ℕ)) → request.origin ≡ origin → held_by n S0.held ≡ Some request
          → HoldsNoPending n (delivers_to origin true request body W1).0
      after-held (origins.Client q) request body origin holds other found =
          let same : request ≡ other =
          same-some request other (sym holds ∙ sym (delivers-held n q true request body (told_by w0.store) (marks n S0) r.service marked-service) ∙ found) in
          ap (λ (x : Request). comes_back (told_by w0.store) x.origin) (sym same) ∙ ap (comes_back (told_by w0.store)) origin
      after-held (origins.Ticket q) request body origin holds other found =
          let end = stores-end q body W1 in
          let same : request ≡ other = same-some request other (sym holds ∙ ap (held_by n) (sym end.held) ∙ found) in
          let told_then = told_by (delivers_to (origins.Ticket q) true request body W1).0.store in
          ap (λ (x : Request). comes_back told_then x.origin) (sym same) ∙ ap (comes_back told_then) origin ∙ end.drops

      walk-replied : same_version cmd.version r.version ≡ true → (last : Bool) (to : List ℕ) (body : List (List ℕ)) → cmd.act ≡ act.Reply last to body
          → (found : Option Request) → held_by n S0.held ≡ found → P (quiet w0) → P (replied n r last to body found w0)
      walk-replied same last to body act_is None holds p = walk-unexpected n (worker_voice r) p
      walk-replied same last to body act_is (Some request) holds p = by (bytes_eq to (address request.origin)) refl
        where
          reply : bytes_eq to (address request.origin) ≡ true → IsReplyOf last n (said_in message) S0
          reply equal = record {
            worker = c;
            there = is;
            registration = r;
            role_is = works_as;
            cmd = cmd;
            said_is = reads;
            same = same;
            to = to;
            body = body;
            act_is = act_is;
            request = request;
            holds = holds;
            address_is = (bytes_eq-Decides to (address request.origin)).0 equal;
          }

          final : bytes_eq to (address request.origin) ≡ true → last ≡ true → Finishes cause S0 n
          final equal ends_it = record { message = message; cause_is = told; reply = subst (λ (b : Bool). IsReplyOf b n (said_in message) S0) ends_it (reply equal) }

          nothing : last ≡ true → HoldsNoPending n (delivers last request body W1).0
          nothing ends_it = subst (λ (b : Bool). HoldsNoPending n (delivers b request body W1).0) (sym ends_it) (after-held request.origin request body refl holds)

          by : (b : Bool) → bytes_eq to (address request.origin) ≡ b → P (replied_by b n r last body request w0)
          by true equal =
              walk-rests last r.service (delivers last request body W1) (final equal) (after-service request.origin last request body) nothing
              (walk-delivers last (reply equal) request.origin refl (carried.marked n w0 [] p))
          by false other = walk-unexpected n (worker_voice r) p

      walk-works_on : same_version cmd.version r.version ≡ true → (a : WorkerAct) → cmd.act ≡ a → P (quiet w0) → P (works_on n r a w0)
      walk-works_on same (act.Ready service) act_is p = walk-unexpected n (worker_voice r) p
      walk-works_on same (act.Reply last to body) act_is p = walk-replied same last to body act_is (held_by n S0.held) refl p
      walk-works_on same act.Heartbeat act_is p = carried.marked n w0 [] p
      walk-works_on same act.Disconnect act_is p = walk-departs n p

      walk-works : P (quiet w0) → P (works n r cmd w0)
      walk-works p = by (same_version cmd.version r.version) refl
        where
          by : (b : Bool) → same_version cmd.version r.version ≡ b → P (works_by b n r cmd.act w0)
          by true same = walk-works_on same cmd.act refl p
          by false other = walk-strays (worker_voice r) cmd.act p

    walk-says : (lane : ℕ) (role : Role) (said : Said) → c.role ≡ role → said_in message ≡ said → P (quiet w0) → P (says lane n role said w0)
    walk-says lane Gone said in_role reads p = p
    walk-says lane Fresh Neither in_role reads p = walk-departs n p
    walk-says lane Fresh (Asks cmd) in_role reads p = walk-asks lane cmd reads (subst IsNoServer (sym in_role) tt) p
    walk-says lane Fresh (Serves cmd) in_role reads p = walk-begins (voice_in cmd) cmd.act in_role p
    walk-says lane Client Neither in_role reads p = walk-departs n p
    walk-says lane Client (Asks cmd) in_role reads p = walk-asks lane cmd reads (subst IsNoServer (sym in_role) tt) p
    walk-says lane Client (Serves cmd) in_role reads p = walk-strays (voice_in cmd) cmd.act p
    walk-says lane (Worker r) Neither in_role reads p = walk-departs n p
    walk-says lane (Worker r) (Asks cmd) in_role reads p = walk-unexpected n (worker_voice r) p
    walk-says lane (Worker r) (Serves cmd) in_role reads p = walk-works r in_role cmd reads p

  -- ---- a pair

  walk-hands : (q : Pair) (w : Whole) (body : List (List ℕ)) → cause ≡ Paired q → pair S0.waiting S0.queue ≡ Some q → body ≡ body_for q.request w0.store → w.routing ≡ S0
      → P (quiet w) → P (routes (hands body q) w)
  walk-hands q w body is allowed body_is same p =
      let found = subst (λ (s : State). pair s.waiting s.queue ≡ Some q) (sym same) allowed in
      let text = request_text (voice_of (connection_of q.waiter.worker w.routing.connections)) (with_body body q.request) in
      let text_is : text ≡ request_text (voice_of (connection_of q.waiter.worker S0.connections)) (with_body (body_for q.request w0.store) q.request) =
      ap (λ (s : State). request_text (voice_of (connection_of q.waiter.worker s.connections)) (with_body body q.request)) same
      ∙ ap (λ (b : List (List ℕ)). request_text (voice_of (connection_of q.waiter.worker S0.connections)) (with_body b q.request)) body_is in
      walk-sends cause w0 P carried q.waiter.worker text (on w (handed q w.routing)) [] (Hands q is text_is)
      (carried.marked q.waiter.worker (on w (given_over q w.routing)) [] (carried.given q w [] is found same p))

  walk-dispatched : (q : Pair) (origin : Origin) → cause ≡ Paired q → pair S0.waiting S0.queue ≡ Some q → q.request.origin ≡ origin → P (quiet w0) → P (dispatched origin q w0)
  walk-dispatched q (origins.Client n) is allowed origin p =
      walk-hands q w0 q.request.body is allowed (ap (λ (o : Origin). body_from o q.request w0.store) (sym origin)) refl p
  walk-dispatched q (origins.Ticket n) is allowed origin p = by (fails w0) refl
    where
      by : (b : Bool) → fails w0 ≡ b → P (attempted b None (routes (passes q)) (routes (hands (body_from (origins.Ticket n) q.request w0.store) q)) w0)
      by true fault = carried.passes q n is allowed origin fault p
      by false works = walk-hands q (counted w0) _ is allowed (ap (λ (o : Origin). body_from o q.request w0.store) (sym origin)) refl (carried.counts w0 [] (ReadsTicket q n is allowed origin) works p)

  -- ---- all acts

  walk-says_by : (n : ℕ) (found : Option Connection) (message : List (List ℕ)) → connection_of n S0.connections ≡ found → Says cause n message → P (quiet w0)
      → P (says_by n found (said_in message) w0)
  walk-says_by n None message is told p = p
  walk-says_by n (Some c) message is told p = walk-says n c is message told c.lane c.role (said_in message) refl refl p

  walk-ends_by : (n : ℕ) (found : Option Connection) (reason : Reason) (at : ℕ) → P (quiet w0) → P (routes (ends_by n found reason at) w0)
  walk-ends_by n None reason at p = p
  walk-ends_by n (Some c) reason at p = carried.ends c.lane n reason at w0 [] p

  walk-item : (n : ℕ) (item : WireItem) → cause ≡ Item n item → P (quiet w0) → P (item_act n item w0)
  walk-item n items.Accepted is p = walk-sends cause w0 P carried n (ready_frame Router) w0 [] (Shakes refl) p
  walk-item n (items.Ready kind) is p = p
  walk-item n (items.Message message) is p = walk-says_by n (connection_of n S0.connections) message refl is p
  walk-item n (items.Ended reason at) is p = walk-ends_by n (connection_of n S0.connections) reason at p

  walk-closes : (found : Option ℕ) → P (quiet w0) → P (on w0 (closes found (told_by w0.store) S0), [])
  walk-closes None p = p
  walk-closes (Some n) p = carried.removes n w0 [] p

  walk-reports : (found : Option ℕ) → P (quiet w0) → P (on w0 (reports found S0), [])
  walk-reports None p = p
  walk-reports (Some n) p = carried.reported n w0 [] p

  walk-act : (k : Cause) → cause ≡ k → IsAllowed k S0 → P (quiet w0) → P (acts k w0)
  walk-act (Closing lane) is allowed p = walk-closes (number_on lane S0.connections) p
  walk-act (Opening lane) is allowed p = walk-sends cause w0 P carried S0.next broker_greeting (on w0 (opened lane S0)) [] (Greets refl) (carried.opens lane [] is p)
  walk-act (Report lane) is allowed p = walk-reports (number_on lane S0.connections) p
  walk-act (Item n item) is allowed p = walk-item n item is p
  walk-act (Time ms) is allowed p = carried.time ms w0 [] p
  walk-act (Expiry n) is allowed p = carried.expired n w0 [] is p
  walk-act (Beat n) is allowed p = walk-sends cause w0 P carried n _ w0 [] (Beats (voice_of (connection_of n S0.connections)) refl) p
  walk-act (Paired q) is allowed p = walk-dispatched q q.request.origin is allowed refl p

pub walk-acts : (cause : Cause) (w0 : Whole) (P : Doing Whole Out → Type 0) → IsCarried cause w0 P → IsAllowed cause w0.routing → P (quiet w0) → P (acts cause w0)
walk-acts cause w0 P carried allowed p = walk-act cause w0 P carried cause refl allowed p

-- of what is routed alone
pub kept-acts : (cause : Cause) (w0 : Whole) (P : State → Type 0) → IsKept cause w0.routing P → IsAllowed cause w0.routing → P w0.routing → P (acts cause w0).0.routing
kept-acts cause w0 P kept allowed p = walk-acts cause w0 (λ d. P d.0.routing) (kept-carried cause w0 P kept) allowed p
