-- Why an act sends what it sends, and of what small changes each act is made.
use Rattle.std.proofs.Common.{◌≡◌, ℕ, Bool, true, false, sym, subst, List, [], ◌∷◌, ◌++◌, length, Option, None, Some}
use Rattle.std.specs.List.{AllByRecursion}
use Rattle.mj_base.specs.ServiceName.{is_reserved}
use Rattle.mj_base.specs.declared.event.Note.TheVariants.{Shut as ShutNote}
use Rattle.mj_base.specs.declared.event.Out.{Out}
use Rattle.mj_base.specs.declared.event.Out.TheVariants.{End, Note, Piece}
use Rattle.mj_base.specs.declared.limits.Limits.{Limits}
use Rattle.mj_base.specs.declared.reason.Reason.{Reason}
use Rattle.mj_client_cmd.specs.declared.command.ClientCmd.{ClientCmd}
use Rattle.mj_greeting.specs.GreetingGrammar.{broker_greeting}
use Rattle.mj_handshake.specs.ReadyGrammar.{ready_frame}
use Rattle.mj_handshake.specs.declared.socket_type.SocketType.TheVariants.{Router}
use Rattle.mj_wire.specs.declared.item.WireItem.TheVariants as items
use Rattle.mj_ids.specs.Ids.{id_of}
use Rattle.mj_queue.specs.Settling.{Pair, pair, without_ticket}
use Rattle.mj_queue.specs.declared.request.Origin.TheVariants as origins
use Rattle.mj_queue.specs.declared.request.Request.{Request}
use Rattle.mj_tickets.specs.declared.command.TicketCmd.{TicketCmd}
use Rattle.mj_tickets.specs.declared.command.TicketCmd.TheVariants as cmds
use Rattle.mj_tickets.specs.Fold.{Ticket, known}
use Rattle.mj_worker_cmd.specs.declared.command.OrderAct.TheVariants as order
use Rattle.mj_worker_cmd.specs.declared.command.WorkerAct.TheVariants as act
use Rattle.mj_worker_cmd.specs.declared.command.WorkerCmd.{WorkerCmd}
use Rattle.mj_machine.specs.declared.connection.Connection.{Connection}
use Rattle.mj_machine.specs.declared.connection.Registration.{Registration}
use Rattle.mj_machine.specs.declared.connection.Role.{Role}
use Rattle.mj_machine.specs.declared.connection.Role.TheVariants.{Fresh, Client, Worker, Gone}
use Rattle.mj_machine.specs.declared.connection.Voice.{Voice}
use Rattle.mj_machine.specs.declared.said.Said.{Said}
use Rattle.mj_machine.specs.declared.said.Said.TheVariants.{Asks, Serves}
use Rattle.mj_machine.specs.StoreState.{Shut, Store, Told, pends, ticket_request, tickets_of, told_by, usable}
use Rattle.mj_machine.specs.MachineState.{State, Whole}
use Rattle.mj_machine.specs.Connections.{changed, connection_of, is_asking, service_of, voice_of}
use Rattle.mj_machine.specs.Acts.{Doing, quiet}
use Rattle.mj_machine.specs.Leaving.{becomes, comes_back, goes, held_by, removed}
use Rattle.mj_machine.specs.Sending.{address, is_slow, order_text, reply_text, sent}
use Rattle.mj_machine.specs.DiskActs.{appended, clients_alone, counted, fails, finds, found_in, queues_tickets, reopened, reopens, shuts}
use Rattle.mj_machine.specs.Pairing.{body_for, held_by_pair, marks, request_text, waits, with_body}
use Rattle.mj_machine.specs.TitanicAnswers.{IsTitanicAnswer}
use Rattle.mj_machine.specs.TitanicStep.{is_full}
use Rattle.mj_machine.specs.MessageStep.{as_client, enqueues, marked, own_answer, registration, request_of, same_version, said_in}
use Rattle.mj_machine.specs.TickStep.{at_moment, expires}
use Rattle.mj_machine.specs.EventStep.{delivered, opened}
use Rattle.mj_machine.specs.Steps.{Cause, Expiry, Item, Opening, Paired}

-- ---- what is done, and why

-- it has asked, or said nothing
abbrev pub IsNoServer : Role → Type 0
IsNoServer Fresh = Unit {0}
IsNoServer Client = Unit {0}
IsNoServer (Worker r) = ⊥
IsNoServer Gone = ⊥

-- the pair taken out of the lists, and its request held
abbrev pub given_over : Pair → State → State
given_over p s = record s { waiting = p.waiting; queue = p.requests; held = s.held ++ held_by_pair p ∷ [] }

abbrev pub registered : ℕ → Voice → List ℕ → State → State
registered n voice service s = waits n service (becomes n (Worker (registration voice service s)) s)

-- n's words are a reply that counts: of a worker, in its version, to the asker of the request that it holds
pub record IsReplyOf (last : Bool) (n : ℕ) (said : Said) (s : State) : Type 0 where
  pub worker : Connection
  pub there : connection_of n s.connections ≡ Some worker
  pub registration : Registration
  pub role_is : worker.role ≡ Worker registration
  pub cmd : WorkerCmd
  pub said_is : said ≡ Serves cmd
  pub same : same_version cmd.version registration.version ≡ true
  pub to : List ℕ
  pub body : List (List ℕ)
  pub act_is : cmd.act ≡ act.Reply last to body
  pub request : Request
  pub holds : held_by n s.held ≡ Some request
  pub address_is : to ≡ address request.origin

-- a message of this connection
abbrev pub Says : Cause → ℕ → List (List ℕ) → Type 0
Says cause n message = cause ≡ Item n (items.Message message)

-- its final reply
pub record Finishes (cause : Cause) (s0 : State) (n : ℕ) : Type 0 where
  pub message : List (List ℕ)
  pub cause_is : Says cause n message
  pub reply : IsReplyOf true n (said_in message) s0

-- its own question for a name that the broker always answers itself
pub record IsAnswered (cause : Cause) (w0 : Whole) (n : ℕ) (piece : List ℕ) : Type 0 where
  pub message : List (List ℕ)
  pub cause_is : Says cause n message
  pub cmd : ClientCmd
  pub said_is : said_in message ≡ Asks cmd
  pub reserved : is_reserved false cmd.service ≡ true
  pub text : piece ≡ reply_text true (request_of n cmd) (own_answer (told_by w0.store) (request_of n cmd) w0.routing)

-- its own question for a name that the broker answers itself where it has a store, which is this one then
pub record IsServed (cause : Cause) (w0 : Whole) (limits : Limits) (store : Store) (n : ℕ) (piece : List ℕ) : Type 0 where
  pub message : List (List ℕ)
  pub cause_is : Says cause n message
  pub cmd : ClientCmd
  pub said_is : said_in message ≡ Asks cmd
  pub free : is_reserved false cmd.service ≡ false
  pub reserved : is_reserved w0.store.stored cmd.service ≡ true
  pub frames : List (List ℕ)
  pub says : IsTitanicAnswer limits cmd.service cmd.body store frames
  pub text : piece ≡ reply_text true (request_of n cmd) frames

-- a worker's reply to its request
pub record IsDelivered (cause : Cause) (s0 : State) (n : ℕ) (piece : List ℕ) : Type 0 where
  pub worker : ℕ
  pub message : List (List ℕ)
  pub cause_is : Says cause worker message
  pub last : Bool
  pub reply : IsReplyOf last worker (said_in message) s0
  pub origin : reply.request.origin ≡ origins.Client n
  pub asks : is_asking (connection_of n s0.connections) ≡ true
  pub text : piece ≡ reply_text last reply.request reply.body

-- why an act that begins at w0 sends these bytes to a connection, over this store
pub data Why (cause : Cause) (w0 : Whole) (limits : Limits) (store : Store) (n : ℕ) (piece : List ℕ) : Type 0 where
  Greets : piece ≡ broker_greeting → Why cause w0 limits store n piece
  Shakes : piece ≡ ready_frame Router → Why cause w0 limits store n piece
  Refuses : (voice : Voice) → piece ≡ order_text voice order.Disconnect → Why cause w0 limits store n piece
  Beats : (voice : Voice) → piece ≡ order_text voice order.Heartbeat → Why cause w0 limits store n piece
  Hands : (p : Pair) → cause ≡ Paired p
      → piece ≡ request_text (voice_of (connection_of p.waiter.worker w0.routing.connections)) (with_body (body_for p.request w0.store) p.request) → Why cause w0 limits store n piece
  Answers : IsAnswered cause w0 n piece → Why cause w0 limits store n piece
  Tells : IsServed cause w0 limits store n piece → Why cause w0 limits store n piece
  Delivers : IsDelivered cause w0.routing n piece → Why cause w0 limits store n piece

-- ---- changes of the store

abbrev pub IsNote : Out → Type 0
IsNote (Piece lane octets) = ⊥
IsNote (End lane reason at) = ⊥
IsNote (Note note) = Unit {0}

-- nothing was done to the lanes yet
abbrev pub OnlyNotes : List Out → Type 0
OnlyNotes outs = AllByRecursion IsNote outs

abbrev pub on : Whole → State → Whole
on w s = record w { routing = s }

abbrev pub next_number : Whole → ℕ
next_number w = (tickets_of w.store).next

-- the command that keeps this as the next ticket
abbrev pub accepts_next : List ℕ → List (List ℕ) → Whole → TicketCmd
accepts_next service body w = cmds.Accept (id_of w.store.seed (next_number w)) service body

-- a ticket was kept, and its request is queued
abbrev pub accepted_at : List ℕ → List (List ℕ) → Whole → Whole
accepted_at service body w =
    on (appended (accepts_next service body w) (counted w)) (record w.routing { queue = w.routing.queue ++ ticket_request (next_number w) service ∷ [] })

-- a reply was kept
abbrev pub stored_at : ℕ → List (List ℕ) → Whole → Whole
stored_at number body w = appended (cmds.Store number body) (counted w)

-- a ticket was closed, and its request is queued no more
abbrev pub closed_at : ℕ → Whole → Whole
closed_at number w = on (appended (cmds.Close number) (counted w)) (record w.routing { queue = without_ticket number w.routing.queue })

-- a ticket wasn't read, and the worker that was to get it waits last
abbrev pub passed_over : Pair → State → State
passed_over p s = waits p.waiter.worker p.waiter.service (clients_alone s)

abbrev pub passed_at : Pair → Whole → Whole
passed_at p w = on (shuts None w).0 (passed_over p w.routing)

-- these commands are appended, each to a store that is open
pub data IsMade (cmd : TicketCmd) (w : Whole) : Type 0 where
  Accepting : (service : List ℕ) (body : List (List ℕ)) → cmd ≡ accepts_next service body w → w.store.stored ≡ true → is_full w.routing.limits w.store cmd ≡ false → IsMade cmd w
  Storing : (number : ℕ) (body : List (List ℕ)) → cmd ≡ cmds.Store number body → pends number (tickets_of w.store) ≡ true → IsMade cmd w
  Closing : (ticket : Ticket (List (List ℕ))) (id : List ℕ) → cmd ≡ cmds.Close ticket.number → known id (tickets_of w.store) ≡ Some ticket → IsMade cmd w

-- what is in doubt when the store is shut: nothing, the command of a failed append, or what was in doubt before
pub data IsDoubt (doubt : Option TicketCmd) (w : Whole) : Type 0 where
  NoDoubt : (ticket : Ticket (List (List ℕ))) (id : List ℕ) → doubt ≡ None → w.store.access ≡ usable → known id (tickets_of w.store) ≡ Some ticket → IsDoubt doubt w
  Tried : (cmd : TicketCmd) → doubt ≡ Some cmd → w.store.access ≡ usable → IsMade cmd w → IsDoubt doubt w
  Remains : w.store.access ≡ Shut doubt → IsDoubt doubt w

-- what is read: the reply of a ticket, or a ticket that a pair hands over
pub data IsRead (cause : Cause) (w : Whole) : Type 0 where
  ReadsReply : (ticket : Ticket (List (List ℕ))) (id : List ℕ) → w.store.access ≡ usable → known id (tickets_of w.store) ≡ Some ticket → IsRead cause w
  ReadsTicket : (p : Pair) (number : ℕ) → cause ≡ Paired p → pair w.routing.waiting w.routing.queue ≡ Some p → p.request.origin ≡ origins.Ticket number → IsRead cause w

-- a worker holds this ticket
abbrev pub IsHeldBy : ℕ → ℕ → State → Type 0
IsHeldBy n number s = (request : Request) × (held_by n s.held ≡ Some request) × (request.origin ≡ origins.Ticket number)

-- what it holds isn't to be queued again
abbrev pub HoldsNoPending : ℕ → Whole → Type 0
HoldsNoPending n w = (request : Request) → held_by n w.routing.held ≡ Some request → comes_back (told_by w.store) request.origin ≡ false

-- ---- small changes

-- what the small changes of an act that begins at w0 keep, of all that there is and of what was added so far. Only a final
-- reply lets its connection rest, only an opening opens, only the lease that this act ends is ended; and the store is
-- changed before anything is done to the lanes
pub record IsCarried (cause : Cause) (w0 : Whole) (P : Doing Whole Out → Type 0) : Type 0 where
  pub marked : (n : ℕ) (w : Whole) (o : List Out) → P (w, o) → P (marked n w, o)
  pub sends : (n : ℕ) (piece : List ℕ) (c : Connection) (w : Whole) (o : List Out) → Why cause w0 w.routing.limits w.store n piece → connection_of n w.routing.connections ≡ Some c
      → is_slow w.routing.limits c (length piece) ≡ false → P (w, o)
      → P (on w (record w.routing { connections = changed n (sent w.routing.now (length piece)) w.routing.connections }), o ++ Piece c.lane piece ∷ [])
  pub reported : (n : ℕ) (w : Whole) (o : List Out) → P (w, o) → P (on w (record w.routing { connections = changed n delivered w.routing.connections }), o)
  pub removes : (n : ℕ) (w : Whole) (o : List Out) → P (w, o) → P (on w (removed n (told_by w.store) w.routing), o)
  pub ends : (lane n : ℕ) (reason : Reason) (at : ℕ) (w : Whole) (o : List Out) → P (w, o) → P (on w (removed n (told_by w.store) w.routing), o ++ End lane reason at ∷ [])
  pub gone : (n : ℕ) (w : Whole) (o : List Out) → P (w, o) → P (on w (goes n (told_by w.store) w.routing), o)
  pub expired : (n : ℕ) (w : Whole) (o : List Out) → cause ≡ Expiry n → P (w, o) → P (on w (expires n (told_by w.store) w.routing), o)
  pub asking : (n : ℕ) (c : Connection) (o : List Out) → connection_of n w0.routing.connections ≡ Some c → IsNoServer c.role → P (w0, o) → P (as_client n w0, o)
  pub queued : (n : ℕ) (c : Connection) (message : List (List ℕ)) (request : Request) (o : List Out) → Says cause n message → connection_of n w0.routing.connections ≡ Some c
      → request.origin ≡ origins.Client n → P (as_client n w0, o) → P (on w0 (enqueues n request w0.routing), o)
  pub registers : (n : ℕ) (c : Connection) (message : List (List ℕ)) (voice : Voice) (service : List ℕ) (o : List Out) → Says cause n message
      → connection_of n w0.routing.connections ≡ Some c → c.role ≡ Fresh → P (w0, o) → P (on w0 (registered n voice service w0.routing), o)
  pub rested : (n : ℕ) (service : List ℕ) (w : Whole) (o : List Out) → Finishes cause w0.routing n → service_of (connection_of n w.routing.connections) ≡ Some service
      → HoldsNoPending n w → P (w, o) → P (on w (waits n service w.routing), o)
  pub given : (p : Pair) (w : Whole) (o : List Out) → cause ≡ Paired p → pair w.routing.waiting w.routing.queue ≡ Some p → w.routing ≡ w0.routing → P (w, o)
      → P (on w (given_over p w.routing), o)
  pub opens : (lane : ℕ) (o : List Out) → cause ≡ Opening lane → P (w0, o) → P (on w0 (opened lane w0.routing), o)
  pub time : (ms : ℕ) (w : Whole) (o : List Out) → P (w, o) → P (on w (at_moment ms w.routing), o)
  pub counts : (w : Whole) (o : List Out) → IsRead cause w → fails w ≡ false → P (w, o) → P (counted w, o)
  pub shuts : (doubt : Option TicketCmd) (w : Whole) (o : List Out) → IsDoubt doubt w → fails w ≡ true → OnlyNotes o → P (w, o)
      → P ((shuts doubt w).0, o ++ Note (ShutNote w.acts) ∷ [])
  pub reopens : (doubt : Option TicketCmd) (w : Whole) (o : List Out) → w.store.access ≡ Shut doubt → fails w ≡ false → OnlyNotes o → P (w, o)
      → P ((reopens (found_in (finds w) doubt) w).0, o ++ (reopens (found_in (finds w) doubt) w).1)
  pub accepts : (service : List ℕ) (body : List (List ℕ)) (w : Whole) (o : List Out) → w.store.access ≡ usable → w.store.stored ≡ true → is_full w.routing.limits w.store (accepts_next service body w) ≡ false
      → fails w ≡ false → OnlyNotes o → P (w, o) → P (accepted_at service body w, o)
  pub stores : (n number : ℕ) (body : List (List ℕ)) (w : Whole) (o : List Out) → w.store.access ≡ usable → pends number (tickets_of w.store) ≡ true
      → IsHeldBy n number w.routing → fails w ≡ false → OnlyNotes o → P (w, o) → P (stored_at number body w, o)
  pub closes : (ticket : Ticket (List (List ℕ))) (id : List ℕ) (w : Whole) (o : List Out) → w.store.access ≡ usable → known id (tickets_of w.store) ≡ Some ticket
      → fails w ≡ false → OnlyNotes o → P (w, o) → P (closed_at ticket.number w, o)
  pub passes : (p : Pair) (number : ℕ) → cause ≡ Paired p → pair w0.routing.waiting w0.routing.queue ≡ Some p → p.request.origin ≡ origins.Ticket number → fails w0 ≡ true
      → P (quiet w0) → P (passed_at p w0, Note (ShutNote w0.acts) ∷ [])

-- the same of what is routed alone
pub record IsKept (cause : Cause) (s0 : State) (P : State → Type 0) : Type 0 where
  pub keeps_marked : (n : ℕ) (s : State) → P s → P (marks n s)
  pub keeps_sent : (n octets : ℕ) (c : Connection) (s : State) → connection_of n s.connections ≡ Some c → is_slow s.limits c octets ≡ false → P s
      → P (record s { connections = changed n (sent s.now octets) s.connections })
  pub keeps_reported : (n : ℕ) (s : State) → P s → P (record s { connections = changed n delivered s.connections })
  pub keeps_removed : (n : ℕ) (told : Told) (s : State) → P s → P (removed n told s)
  pub keeps_gone : (n : ℕ) (told : Told) (s : State) → P s → P (goes n told s)
  pub keeps_expired : (n : ℕ) (told : Told) (s : State) → cause ≡ Expiry n → P s → P (expires n told s)
  pub keeps_asking : (n : ℕ) (c : Connection) → connection_of n s0.connections ≡ Some c → IsNoServer c.role → P s0 → P (becomes n Client s0)
  pub keeps_queued : (n : ℕ) (c : Connection) (message : List (List ℕ)) (request : Request) → Says cause n message → connection_of n s0.connections ≡ Some c
      → request.origin ≡ origins.Client n → P (becomes n Client s0) → P (enqueues n request s0)
  pub keeps_registered : (n : ℕ) (c : Connection) (message : List (List ℕ)) (voice : Voice) (service : List ℕ) → Says cause n message → connection_of n s0.connections ≡ Some c
      → c.role ≡ Fresh → P s0 → P (registered n voice service s0)
  pub keeps_rested : (n : ℕ) (service : List ℕ) (s : State) → Finishes cause s0 n → service_of (connection_of n s.connections) ≡ Some service → P s → P (waits n service s)
  pub keeps_given : (p : Pair) → cause ≡ Paired p → pair s0.waiting s0.queue ≡ Some p → P s0 → P (given_over p s0)
  pub keeps_passed : (p : Pair) → cause ≡ Paired p → pair s0.waiting s0.queue ≡ Some p → P s0 → P (passed_over p s0)
  pub keeps_opened : (lane : ℕ) → cause ≡ Opening lane → P s0 → P (opened lane s0)
  pub keeps_time : (ms : ℕ) (s : State) → P s → P (at_moment ms s)
  pub keeps_emptied : (s : State) → P s → P (clients_alone s)
  pub keeps_refilled : (store : Store) (s : State) → P s → P (queues_tickets store s)
  pub keeps_submitted : (number : ℕ) (service : List ℕ) (s : State) → P s → P (record s { queue = s.queue ++ ticket_request number service ∷ [] })
  pub keeps_dropped : (number : ℕ) (s : State) → P s → P (record s { queue = without_ticket number s.queue })

pub kept-carried : (cause : Cause) (w0 : Whole) (P : State → Type 0) → IsKept cause w0.routing P → IsCarried cause w0 (λ d. P d.0.routing)
kept-carried cause w0 P kept = record {
  marked = λ n w o p. kept.keeps_marked n w.routing p;
  sends = λ n piece c w o why is slow p. kept.keeps_sent n (length piece) c w.routing is slow p;
  reported = λ n w o p. kept.keeps_reported n w.routing p;
  removes = λ n w o p. kept.keeps_removed n (told_by w.store) w.routing p;
  ends = λ lane n reason at w o p. kept.keeps_removed n (told_by w.store) w.routing p;
  gone = λ n w o p. kept.keeps_gone n (told_by w.store) w.routing p;
  expired = λ n w o is p. kept.keeps_expired n (told_by w.store) w.routing is p;
  asking = λ n c o is plain p. kept.keeps_asking n c is plain p;
  queued = λ n c message request o told is origin p. kept.keeps_queued n c message request told is origin p;
  registers = λ n c message voice service o told is fresh p. kept.keeps_registered n c message voice service told is fresh p;
  rested = λ n service w o final serves nothing p. kept.keeps_rested n service w.routing final serves p;
  given = λ p w o is found same q.
      subst (λ (s : State). P (given_over p s)) (sym same)
      (kept.keeps_given p is (subst (λ (s : State). pair s.waiting s.queue ≡ Some p) same found) (subst P same q));
  opens = λ lane o is p. kept.keeps_opened lane is p;
  time = λ ms w o p. kept.keeps_time ms w.routing p;
  counts = λ w o read works p. p;
  shuts = λ doubt w o is fault only p. kept.keeps_emptied w.routing p;
  reopens = λ doubt w o is works only p. kept.keeps_refilled (reopened (found_in (finds w) doubt) w.store) w.routing p;
  accepts = λ service body w o usable has room works only p. kept.keeps_submitted (next_number w) service w.routing p;
  stores = λ n number body w o usable pending holds works only p. p;
  closes = λ ticket id w o usable is works only p. kept.keeps_dropped ticket.number w.routing p;
  passes = λ p number is found origin fault q. kept.keeps_passed p is found q;
}

-- ---- two at once

pub both : (cause : Cause) (s0 : State) (P Q : State → Type 0) → IsKept cause s0 P → IsKept cause s0 Q → IsKept cause s0 (λ s. P s × Q s)
both cause s0 P Q one two = record {
  keeps_marked = λ n s p. (one.keeps_marked n s p.0, two.keeps_marked n s p.1);
  keeps_sent = λ n octets c s is slow p. (one.keeps_sent n octets c s is slow p.0, two.keeps_sent n octets c s is slow p.1);
  keeps_reported = λ n s p. (one.keeps_reported n s p.0, two.keeps_reported n s p.1);
  keeps_removed = λ n told s p. (one.keeps_removed n told s p.0, two.keeps_removed n told s p.1);
  keeps_gone = λ n told s p. (one.keeps_gone n told s p.0, two.keeps_gone n told s p.1);
  keeps_expired = λ n told s is p. (one.keeps_expired n told s is p.0, two.keeps_expired n told s is p.1);
  keeps_asking = λ n c is plain p. (one.keeps_asking n c is plain p.0, two.keeps_asking n c is plain p.1);
  keeps_queued = λ n c message request told is origin p.
      (one.keeps_queued n c message request told is origin p.0, two.keeps_queued n c message request told is origin p.1);
  keeps_registered = λ n c message voice service told is fresh p.
      (one.keeps_registered n c message voice service told is fresh p.0, two.keeps_registered n c message voice service told is fresh p.1);
  keeps_rested = λ n service s final serves p. (one.keeps_rested n service s final serves p.0, two.keeps_rested n service s final serves p.1);
  keeps_given = λ q is found p. (one.keeps_given q is found p.0, two.keeps_given q is found p.1);
  keeps_passed = λ q is found p. (one.keeps_passed q is found p.0, two.keeps_passed q is found p.1);
  keeps_opened = λ lane is p. (one.keeps_opened lane is p.0, two.keeps_opened lane is p.1);
  keeps_time = λ ms s p. (one.keeps_time ms s p.0, two.keeps_time ms s p.1);
  keeps_emptied = λ s p. (one.keeps_emptied s p.0, two.keeps_emptied s p.1);
  keeps_refilled = λ store s p. (one.keeps_refilled store s p.0, two.keeps_refilled store s p.1);
  keeps_submitted = λ number service s p. (one.keeps_submitted number service s p.0, two.keeps_submitted number service s p.1);
  keeps_dropped = λ number s p. (one.keeps_dropped number s p.0, two.keeps_dropped number s p.1);
}
