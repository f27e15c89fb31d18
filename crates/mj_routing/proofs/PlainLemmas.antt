-- Acts on what is routed say nothing of the disk, and leave the limits, the next number and who isn't there.
use Rattle.std.proofs.Common.{◌≡◌, ℕ, Bool, true, false, not, cond, ◌||◌, ◌&&◌, List, [], ◌∷◌, ◌++◌, Option, None, Some, MatchOption, refl, sym, subst, ◌∙◌, length}
use Rattle.std.specs.List.{list_any}
use Rattle.mj_base.specs.ServiceName.{is_reserved}
use Rattle.mj_base.specs.declared.event.Out.{Out}
use Rattle.mj_base.specs.declared.event.Out.TheVariants as outs
use Rattle.mj_base.specs.declared.reason.Reason.{Reason}
use Rattle.mj_base.specs.declared.reason.Reason.TheVariants.{QueueFull}
use Rattle.mj_queue.specs.PairLaw.{IsPair}
use Rattle.mj_queue.specs.Settling.{Pair, has_waiter, is_of_client, is_client, is_too_much, pair, queued, without_client}
use Rattle.mj_queue.specs.declared.request.Request.{Request}
use Rattle.mj_queue.proofs.LawLemmas.{pair-is-first}
use Rattle.mj_worker_cmd.specs.declared.command.OrderAct.TheVariants as order
use Rattle.mj_worker_cmd.specs.declared.command.WorkerAct.{WorkerAct}
use Rattle.mj_worker_cmd.specs.declared.command.WorkerAct.TheVariants as act
use Rattle.mj_machine.specs.declared.connection.Connection.{Connection}
use Rattle.mj_machine.specs.declared.connection.Role.{Role}
use Rattle.mj_machine.specs.declared.connection.Role.TheVariants.{Client, Fresh, Gone, Worker}
use Rattle.mj_machine.specs.declared.connection.Voice.{Voice}
use Rattle.mj_machine.specs.StoreState.{Told}
use Rattle.mj_machine.specs.MachineState.{Done, State}
use Rattle.mj_machine.specs.Connections.{connection_of, is_asking, number_on, voice_of, with_role}
use Rattle.mj_machine.specs.Acts.{each, quiet}
use Rattle.mj_machine.specs.DiskActs.{notes_in}
use Rattle.mj_machine.specs.EventStep.{closes, closes_on, delivered, ends_at, ends_by, reports, reports_on}
use Rattle.mj_machine.specs.Leaving.{becomes, ends, goes, held_by, left, removed}
use Rattle.mj_machine.specs.MessageStep.{answers_itself, begins, delivers_back, departs, enqueues, is_two, queues, registers, registration, rests, strays, unexpected}
use Rattle.mj_machine.specs.Pairing.{handed, hands, mark_set, marks, passes, request_text, waits, with_body}
use Rattle.mj_machine.specs.Sending.{is_slow, order_text, sends, sends_if, sends_to, sent}
use Rattle.mj_machine.specs.TickStep.{all_expire, at_moment, beats, due_numbers, expires, leases_end, silent_numbers, ticks}
use Rattle.mj_machine.proofs.AbsentLemmas.{absent-changed, absent-cut}
use Rattle.mj_machine.proofs.ListLemmas.{all-append, all-filter, all-front, all-rest}
use Rattle.mj_machine.proofs.SettlingLemmas.{nothing_back}
use Rattle.mj_keeper.specs.Standing.{told_on}
use Rattle.mj_keeper.specs.declared.keeper.Shelf.{Shelf}
use Rattle.mj_keeper.specs.declared.keeper.Shelf.TheVariants as shelves
use Rattle.mj_routing.specs.Staying.{IsPlain, IsQueueOf, OnlyClients, Stays, StaysBeside, TellsNothing}

notes-append : (xs ys : List Out) → notes_in xs ≡ [] → notes_in ys ≡ [] → notes_in (xs ++ ys) ≡ []
notes-append [] ys none more = more
notes-append (outs.Piece lane octets ∷ xs) ys none more = notes-append xs ys none more
notes-append (outs.End lane reason at ∷ xs) ys none more = notes-append xs ys none more
notes-append (outs.Note note ∷ xs) ys none more = absurd (cc none)

module _ (told : Told) where
  -- ---- states

  pub stays-same : (s : State) → Stays told s s
  stays-same s = record { limits = refl; next = refl; absent = λ n none. none; clients = λ nothing clients. clients }

  pub stays-then : (s t u : State) → Stays told s t → Stays told t u → Stays told s u
  stays-then s t u one two = record {
    limits = two.limits ∙ one.limits;
    next = two.next ∙ one.next;
    absent = λ n none. two.absent n (one.absent n none);
    clients = λ nothing clients. two.clients nothing (one.clients nothing clients);
  }

  left-clients : (n : ℕ) (s : State) → TellsNothing told → OnlyClients s.queue → OnlyClients (left n told s).queue
  left-clients n s nothing clients =
      subst OnlyClients (sym (nothing_back told nothing (held_by n s.held) (without_client n s.queue))) (all-filter (λ r. is_of_client r.origin ≡ true) (λ r. not (is_client n r.origin)) s.queue clients)

  pub stays-removed : (n : ℕ) (s : State) → Stays told s (removed n told s)
  stays-removed n s = record { limits = refl; next = refl; absent = λ q none. absent-cut q n s.connections none; clients = left-clients n s }

  pub stays-becomes : (n : ℕ) (role : Role) (s : State) → Stays told s (becomes n role s)
  stays-becomes n role s = record { limits = refl; next = refl; absent = λ q none. absent-changed q n (with_role role) (λ c. refl) s.connections none; clients = λ nothing clients. clients }

  pub stays-left : (n : ℕ) (role : Role) (s : State) → Stays told s (becomes n role (left n told s))
  stays-left n role s = record { limits = refl; next = refl; absent = λ q none. absent-changed q n (with_role role) (λ c. refl) s.connections none; clients = left-clients n s }

  pub stays-marks : (n : ℕ) (s : State) → Stays told s (marks n s)
  stays-marks n s = record { limits = refl; next = refl; absent = λ q none. absent-changed q n (mark_set s.now) (λ c. refl) s.connections none; clients = λ nothing clients. clients }

  pub stays-waits : (n : ℕ) (service : List ℕ) (s : State) → Stays told s (waits n service s)
  stays-waits n service s = record { limits = refl; next = refl; absent = λ q none. none; clients = λ nothing clients. clients }

  pub stays-closes : (found : Option ℕ) (s : State) → Stays told s (closes found told s)
  stays-closes None s = stays-same s
  stays-closes (Some n) s = stays-removed n s

  pub stays-reports : (found : Option ℕ) (s : State) → Stays told s (reports found s)
  stays-reports None s = stays-same s
  stays-reports (Some n) s = record { limits = refl; next = refl; absent = λ q none. absent-changed q n delivered (λ c. refl) s.connections none; clients = λ nothing clients. clients }

  pub stays-moment : (ms : ℕ) (s : State) → Stays told s (at_moment ms s)
  stays-moment ms s = record { limits = refl; next = refl; absent = λ q none. none; clients = λ nothing clients. clients }

  pub stays-expire : (ns : List ℕ) (s : State) → Stays told s (all_expire ns told s)
  stays-expire [] s = stays-same s
  stays-expire (n ∷ ns) s = stays-then s (expires n told s) (all_expire ns told (expires n told s)) (stays-left n Fresh s) (stays-expire ns (expires n told s))

  pub stays-enqueues : (n : ℕ) (request : Request) (s : State) → is_of_client request.origin ≡ true → Stays told s (enqueues n request s)
  stays-enqueues n request s client = record {
    limits = refl;
    next = refl;
    absent = (stays-becomes n Client s).absent;
    clients = λ nothing clients. all-append (λ r. is_of_client r.origin ≡ true) s.queue (request ∷ []) clients (client, tt);
  }

  pub stays-handed : (p : Pair) (s : State) → pair s.waiting s.queue ≡ Some p → Stays told s (handed p s)
  stays-handed p s e = record {
    limits = refl;
    next = refl;
    absent = λ q none. absent-changed q p.waiter.worker (mark_set s.now) (λ c. refl) s.connections none;
    clients = λ nothing clients.
        let is : IsPair s.waiting s.queue p = subst (λ (o : Option Pair). MatchOption o (list_any (has_waiter s.waiting) s.queue ≡ false) (IsPair s.waiting s.queue)) e (pair-is-first s.waiting s.queue) in
        let Ours = λ (r : Request). is_of_client r.origin ≡ true in
        let whole : OnlyClients (is.asked.before ++ p.request ∷ is.asked.after) = subst OnlyClients is.asked.whole clients in
        let more : OnlyClients (p.request ∷ is.asked.after) = all-rest Ours is.asked.before (p.request ∷ is.asked.after) whole in
        subst OnlyClients (sym is.asked.rest_is) (all-append Ours is.asked.before is.asked.after (all-front Ours is.asked.before (p.request ∷ is.asked.after) whole) more.1);
  }

  -- ---- acts

  pub plain-quiet : (s t : State) → Stays told s t → IsPlain told s (quiet t)
  plain-quiet s t stays = record { notes = refl; stays = stays }

  -- behind a change that stays
  pub plain-behind : (s t : State) (d : Done Out) → Stays told s t → IsPlain told t d → IsPlain told s d
  plain-behind s t d stays plain = record { notes = plain.notes; stays = stays-then s t d.0 stays plain.stays }

  pub plain-ends : (lane n : ℕ) (reason : Reason) (at : ℕ) (s : State) → IsPlain told s (ends lane n reason at told s)
  plain-ends lane n reason at s = record { notes = refl; stays = stays-removed n s }

  sends_if-plain : (b : Bool) (n : ℕ) (piece : List ℕ) (c : Connection) (s : State) → IsPlain told s (sends_if b n piece c told s)
  sends_if-plain true n piece c s = record { notes = refl; stays = stays-removed n s }
  sends_if-plain false n piece c s = record {
    notes = refl;
    stays = record { limits = refl; next = refl; absent = λ q none. absent-changed q n (sent s.now (length piece)) (λ d. refl) s.connections none; clients = λ nothing clients. clients };
  }

  sends_to-plain : (n : ℕ) (piece : List ℕ) (found : Option Connection) (s : State) → IsPlain told s (sends_to n piece found told s)
  sends_to-plain n piece None s = plain-quiet s s (stays-same s)
  sends_to-plain n piece (Some c) s = sends_if-plain (is_slow s.limits c (length piece)) n piece c s

  pub plain-sends : (n : ℕ) (piece : List ℕ) (s : State) → IsPlain told s (sends n piece told s)
  plain-sends n piece s = sends_to-plain n piece (connection_of n s.connections) s

  pub plain-unexpected : (n : ℕ) (voice : Voice) (s : State) → IsPlain told s (unexpected n voice told s)
  plain-unexpected n voice s =
      plain-behind s (goes n told s) (unexpected n voice told s) (stays-left n Gone s) (plain-sends n (order_text voice order.Disconnect) (goes n told s))

  pub plain-departs : (n : ℕ) (s : State) → IsPlain told s (departs n told s)
  plain-departs n s = plain-quiet s (goes n told s) (stays-left n Gone s)

  pub plain-answers_itself : (n : ℕ) (request : Request) (s : State) → IsPlain told s (answers_itself n request told s)
  plain-answers_itself n request s = plain-behind s (becomes n Client s) (answers_itself n request told s) (stays-becomes n Client s) (plain-sends n _ (becomes n Client s))

  pub plain-queues : (lane n : ℕ) (request : Request) (s : State) → is_of_client request.origin ≡ true → IsPlain told s (queues lane n request told s)
  plain-queues lane n request s client = by (is_too_much s.limits s.waiting s.queue request)
    where
      by : (b : Bool) → IsPlain told s (cond {A = Done Out} b (ends lane n QueueFull (queued s.queue) told s) (quiet (enqueues n request s)))
      by true = plain-ends lane n QueueFull (queued s.queue) s
      by false = plain-quiet s (enqueues n request s) (stays-enqueues n request s client)

  pub plain-registers : (n : ℕ) (voice : Voice) (service : List ℕ) (s : State) → IsPlain told s (registers n voice service told s)
  plain-registers n voice service s = by (is_reserved told.stored service)
    where
      role : Role
      role = Worker (registration voice service s)

      by : (b : Bool) → IsPlain told s (cond {A = Done Out} b (unexpected n voice told s) (quiet (waits n service (becomes n (Worker (registration voice service s)) s))))
      by true = plain-unexpected n voice s
      by false =
          plain-quiet s (waits n service (becomes n (Worker (registration voice service s)) s))
          (stays-then s (becomes n (Worker (registration voice service s)) s) (waits n service (becomes n (Worker (registration voice service s)) s)) (stays-becomes n (Worker (registration voice service s)) s)
          (stays-waits n service (becomes n (Worker (registration voice service s)) s)))

  pub plain-begins : (n : ℕ) (voice : Voice) (does : WorkerAct) (s : State) → IsPlain told s (begins n voice does told s)
  plain-begins n voice (act.Ready service) s = plain-registers n voice service s
  plain-begins n voice (act.Reply last to body) s = plain-unexpected n voice s
  plain-begins n voice act.Heartbeat s = plain-unexpected n voice s
  plain-begins n voice act.Disconnect s = plain-departs n s

  pub plain-strays : (n : ℕ) (voice : Voice) (does : WorkerAct) (s : State) → IsPlain told s (strays n voice does told s)
  plain-strays n voice (act.Ready service) s = plain-unexpected n voice s
  plain-strays n voice (act.Reply last to body) s = plain-unexpected n voice s
  plain-strays n voice act.Heartbeat s = plain-unexpected n voice s
  plain-strays n voice act.Disconnect s = plain-departs n s

  pub plain-delivers_back : (n : ℕ) (last : Bool) (request : Request) (body : List (List ℕ)) (s : State) → IsPlain told s (delivers_back n last request body told s)
  plain-delivers_back n last request body s = by (is_asking (connection_of n s.connections) && (last || is_two request.version)) (plain-sends n _ s)
    where
      by : {d : Done Out} (b : Bool) → IsPlain told s d → IsPlain told s (cond {A = Done Out} b d (quiet s))
      by true sent = sent
      by false sent = plain-quiet s s (stays-same s)

  pub plain-rests : (last : Bool) (n : ℕ) (service : List ℕ) (s : State) → IsPlain told s (rests last n service told s)
  plain-rests true n service s = plain-quiet s (waits n service s) (stays-waits n service s)
  plain-rests false n service s = plain-quiet s s (stays-same s)

  ends_by-plain : (n : ℕ) (found : Option Connection) (reason : Reason) (at : ℕ) (s : State) → IsPlain told s (ends_by n found reason at told s)
  ends_by-plain n None reason at s = plain-quiet s s (stays-same s)
  ends_by-plain n (Some c) reason at s = plain-ends c.lane n reason at s

  pub plain-ends_at : (n : ℕ) (reason : Reason) (at : ℕ) (s : State) → IsPlain told s (ends_at n reason at told s)
  plain-ends_at n reason at s = ends_by-plain n (connection_of n s.connections) reason at s

  pub plain-closes : (lane : ℕ) (s : State) → IsPlain told s (closes_on lane told s)
  plain-closes lane s = plain-quiet s (closes (number_on lane s.connections) told s) (stays-closes (number_on lane s.connections) s)

  pub plain-reports : (lane : ℕ) (s : State) → IsPlain told s (reports_on lane told s)
  plain-reports lane s = plain-quiet s (reports (number_on lane s.connections) s) (stays-reports (number_on lane s.connections) s)

  beats-plain : (ns : List ℕ) (s : State) → IsPlain told s (each (λ n t. beats n told t) ns s)
  beats-plain [] s = plain-quiet s s (stays-same s)
  beats-plain (n ∷ ns) s =
      let one = plain-sends n (order_text (voice_of (connection_of n s.connections)) order.Heartbeat) s in
      let t = (beats n told s).0 in
      let rest = beats-plain ns t in
      record {
        notes = notes-append (beats n told s).1 (each (λ n t. beats n told t) ns t).1 one.notes rest.notes;
        stays = stays-then s t (each (λ n t. beats n told t) ns t).0 one.stays rest.stays;
      }

  pub plain-ticks : (ms : ℕ) (s : State) → IsPlain told s (ticks ms told s)
  plain-ticks ms s =
      let t = at_moment ms s in
      let u = leases_end told t in
      plain-behind s u (ticks ms told s) (stays-then s t u (stays-moment ms s) (stays-expire (due_numbers t) t)) (beats-plain (silent_numbers u) u)

  pub plain-hands : (body : List (List ℕ)) (p : Pair) (s : State) → pair s.waiting s.queue ≡ Some p → IsPlain told s (hands body p told s)
  plain-hands body p s e =
      plain-behind s (handed p s) (hands body p told s) (stays-handed p s e)
      (plain-sends p.waiter.worker (request_text (voice_of (connection_of p.waiter.worker s.connections)) (with_body body p.request)) (handed p s))

  pub plain-passes : (p : Pair) (s : State) → IsPlain told s (passes p told s)
  plain-passes p s = plain-quiet s (waits p.waiter.worker p.waiter.service s) (stays-waits p.waiter.worker p.waiter.service s)

-- ---- beside a shelf

queue-beside : (shelf : Shelf) (old now : State) → Stays (told_on shelf) old now → IsQueueOf shelf old.queue → IsQueueOf shelf now.queue
queue-beside shelves.Absent old now stays clients = stays.clients (λ n. refl) clients
queue-beside (shelves.Open held) old now stays any = any
queue-beside (shelves.Shut end) old now stays clients = stays.clients (λ n. refl) clients

pub beside : (shelf : Shelf) (old now : State) → Stays (told_on shelf) old now → StaysBeside shelf shelf old now
beside shelf old now stays = record { limits = stays.limits; next = stays.next; absent = stays.absent; queue = queue-beside shelf old now stays }

pub beside-then : (first second third : Shelf) (s t u : State) → StaysBeside first second s t → StaysBeside second third t u → StaysBeside first third s u
beside-then first second third s t u one two = record {
  limits = two.limits ∙ one.limits;
  next = two.next ∙ one.next;
  absent = λ n none. two.absent n (one.absent n none);
  queue = λ is. two.queue (one.queue is);
}
