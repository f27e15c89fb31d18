-- Runs as the table has them.
use Rattle.std.proofs.Common.{◌≡◌, ℕ, Bool, true, false, List, [], ◌∷◌, ◌++◌, Option, None, Some, refl, sym, ap, subst, ◌∙◌, inl, inr, append-nil, is_some, Result, Ok, Err, IfOk, IfErr}
use Rattle.mj_peer.specs.ClientEndRules as client
use Rattle.mj_peer.specs.ClientStands as client_stands
use Rattle.mj_peer.specs.WorkerEndRules as worker
use Rattle.mj_peer.specs.WorkerStands as worker_stands
use Rattle.mj_peer.specs.declared.duty.Duty.{Duty}
use Rattle.mj_peer.specs.declared.post.Post.{Post}
use Rattle.mj_peer.specs.declared.session.Session.{Session}
use Rattle.mj_peer.specs.declared.talk.Talk.{Talk}
use Rattle.mj_peering.specs.ClientRun as client_run
use Rattle.mj_peering.specs.Feeding.{ahead}
use Rattle.mj_peering.specs.Performing.{AreDone, Cause, Counts, Places, RunCause}
use Rattle.mj_peering.specs.Requests.{IsOver, Uses}
use Rattle.mj_peering.specs.WorkerRun as worker_run
use Rattle.mj_peering.specs.declared.feed.Feed.{Feed}
use Rattle.mj_peering.specs.declared.leaving.Leaving.{Leaving}
use Rattle.mj_peering.specs.declared.stop.Stop.{Stop}
use Rattle.mj_peering.specs.declared.stop.Stop.TheVariants as stops
use Rattle.mj_peer_prog.specs.PeerRuns.{AreAll, AreFirst, ClientEnds, client_of, ending_by, ending_of, gives_up, requests_in, worker_of}
use Rattle.mj_peer_prog.specs.PeerTable.{Scene, IsBroken, scene}
use Rattle.mj_peer_prog.specs.StatusRows.{Begins, CameTo, IsHalted, IsWhole}
use Rattle.mj_peer_prog.specs.declared.ending.Ending.{Ending}
use Rattle.mj_peer_prog.specs.declared.task.Asking.{Asking}
use Rattle.mj_peer_prog.specs.declared.task.Serving.{Serving}
use Rattle.mj_peer_prog.specs.declared.task.Task.{Task}
use Rattle.mj_peer_prog.specs.declared.task.Task.TheVariants as tasks
use Rattle.mj_peer_prog.proofs.OverLemmas.{over-says}
use Rattle.mj_peer_prog.proofs.SinkLemmas.{moves-none}

-- ---- the input

pub ahead-at-first : (feed : Feed) (from : Option (List ℕ)) → feed.at ≡ 0 → feed.len ≡ 0 → feed.cut ≡ false → ahead feed from ≡ requests_in from
ahead-at-first feed None at len cut = refl
ahead-at-first feed (Some text) at len cut = rw at (rw len (rw cut refl))

uses-first : (input left : Option (List (List ℕ))) (texts : List (List ℕ)) → Uses input left texts → AreFirst input texts
uses-first None left texts u = tt
uses-first (Some all) None texts u = absurd u
uses-first (Some all) (Some rest) texts u = (rest, u)

uses-all : (input left : Option (List (List ℕ))) (texts : List (List ℕ)) → Uses input left texts → IsOver left → AreAll input texts
uses-all None left texts u over = tt
uses-all (Some all) None texts u over = absurd u
uses-all (Some all) (Some rest) texts u over = u ∙ ap (λ (l : List (List ℕ)). texts ++ l) over ∙ append-nil texts

-- ---- a client

over-of : (first : client.Client) (calls : List client.Call) (e : Session) (b : Bool) → client_stands.Stands e (client.after calls first) → e.talk.over ≡ b → (client.after calls first).talk.over ≡ b
over-of first calls e b s o = ap (λ (t : Talk). t.over) (sym s.talk) ∙ o

open-of : (first : client.Client) (calls : List client.Call) (e : Session) (b : Bool) → client_stands.Stands e (client.after calls first) → is_some e.talk.request ≡ b → is_some (client.after calls first).talk.request ≡ b
open-of first calls e b s o = ap (λ (t : Talk). is_some t.request) (sym s.talk) ∙ o

-- whether `NoAnswer` was given is what the end says of itself
gave-up : (a : Asking) (calls : List client.Call) (e : Session) (b : Bool) → client_stands.Stands e (client.after calls (client_of a)) → e.talk.over ≡ b → gives_up (client.acts_of calls (client_of a)) ≡ b
gave-up a calls e b s o = sym (over-says calls (client_of a) refl) ∙ over-of (client_of a) calls e b s o

client-ends : (a : Asking) (old now : Places) (input left : Option (List (List ℕ))) (e : Session) (n : ℕ) (over : Bool) → e.talk.over ≡ over → client_run.IsEnd e left
    → (p : client_run.Played (client_of a) old now input left e n) → ClientEnds (ending_of over n) (client.after p.calls (client_of a)) (client.acts_of p.calls (client_of a)) input p.texts
client-ends a old now input left e n true is end p = (gave-up a p.calls e true p.stands is, uses-first input left p.texts p.used, p.counted)
client-ends a old now input left e n false is (inl over) p = cc
client-ends a old now input left e n false is (inr (isnt, closed, nothing)) p =
    (gave-up a p.calls e false p.stands isnt, open-of (client_of a) p.calls e false p.stands closed, uses-all input left p.texts p.used nothing, p.counted)

pub client-came-to : (a : Asking) (s : Scene) (input left : Option (List (List ℕ))) (e : Session) (n : ℕ) (over : Bool) → input ≡ requests_in s.from → e.talk.over ≡ over → client_run.IsEnd e left
    → client_run.Played (client_of a) s.old s.now input left e n → CameTo (tasks.Client a) s (ending_of over n)
client-came-to a s input left e n over same is end p = (
  client_run.rounds p.calls (client_of a),
  record {
    calls = p.calls;
    in_turn = p.in_turn;
    texts = p.texts;
    asked = p.asked;
    ends = subst (λ (i : Option (List (List ℕ))). ClientEnds (ending_of over n) (client.after p.calls (client_of a)) (client.acts_of p.calls (client_of a)) i p.texts) same (client-ends a s.old s.now input left e n over is end p);
    passed_is = refl;
  },
  p.done,
)

client-whole : (a : Asking) (s : Scene) (input left : Option (List (List ℕ))) (calls : List client.Call) (texts : List (List ℕ)) → input ≡ requests_in s.from → client_run.AreInTurn calls (client_of a) → Uses input left texts
    → client_run.IsWhole (client_of a) s.old s.now calls texts → IsWhole (tasks.Client a) s
client-whole a s input left calls texts same turn used w = (
  client_run.rounds calls (client_of a),
  record { calls = calls; in_turn = turn; texts = texts; asked = w.0; first = subst (λ (i : Option (List (List ℕ))). AreFirst i texts) same (uses-first input left texts used); passed_is = refl },
  w.1,
)

client-broken : (a : Asking) (s : Scene) (input left : Option (List (List ℕ))) (calls : List client.Call) (texts : List (List ℕ)) → input ≡ requests_in s.from → client_run.AreInTurn calls (client_of a) → Uses input left texts
    → client_run.IsPart (client_of a) s.old s.now calls texts → IsBroken (tasks.Client a) s
client-broken a s input left calls texts same turn used w = (
  client_run.rounds calls (client_of a),
  client_run.round_of w.0 (client.after calls (client_of a)),
  record {
    calls = calls;
    call = w.0;
    in_turn = turn;
    next = w.1;
    texts = texts;
    asked = w.2;
    first = subst (λ (i : Option (List (List ℕ))). AreFirst i texts) same (uses-first input left texts used);
    passed_is = refl;
    last_is = refl;
  },
  w.3,
)

pub client-halted : (stop : Stop) (a : Asking) (s : Scene) (input : Option (List (List ℕ))) → input ≡ requests_in s.from → RunCause stop s.before s.after s.reads_before s.reads_after
    → client_run.Halted stop (client_of a) s.old s.now input → IsHalted stop (tasks.Client a) s
client-halted stops.NoMemory a s input same cause h = of h.cut
  where
    of : client_run.IsCutBy stops.NoMemory (client_of a) s.old s.now h.calls h.texts → IsHalted stops.NoMemory (tasks.Client a) s
    of (inl w) = inl (client-whole a s input h.left h.calls h.texts same h.in_turn h.used w)
    of (inr w) = inr (client-broken a s input h.left h.calls h.texts same h.in_turn h.used w)
client-halted stops.Read a s input same cause h = (cause, client-whole a s input h.left h.calls h.texts same h.in_turn h.used h.cut)
client-halted stops.Write a s input same cause h = (cause, client-broken a s input h.left h.calls h.texts same h.in_turn h.used h.cut)

-- nothing was done
pub client-unbegun : (a : Asking) (from : Option (List ℕ)) (old : Places) (c : Counts) (reads : ℕ) (stop : Stop) → stop ≡ stops.NoMemory → IsHalted stop (tasks.Client a) (scene from old old c c reads reads)
client-unbegun a from old c reads stop is =
    subst (λ (x : Stop). IsHalted x (tasks.Client a) (scene from old old c c reads reads)) (sym is)
    (inl ([], record { calls = []; in_turn = tt; texts = []; asked = refl; first = none (requests_in from); passed_is = refl }, moves-none old))
  where
    none : (input : Option (List (List ℕ))) → AreFirst input []
    none None = tt
    none (Some all) = (all, refl)

-- ---- a worker

served-of : (e : Post) (w : worker.Worker) → e.duty ≡ w.duty → e.duty.served ≡ w.duty.served
served-of e w is = ap (λ (d : Duty). d.served) is

pub worker-came-to : (v : Serving) (s : Scene) (e : Post) (leaving : Leaving) (n : ℕ) → n ≡ e.duty.served → worker_run.Left leaving (worker_of v) s.old s.now e → CameTo (tasks.Worker v) s (ending_by leaving n)
worker-came-to v s e leaving n is l =
    let calls = worker_run.calls_of l.events in
    let before = worker.after calls (worker_of v) in (
      worker_run.rounds calls (worker_of v) ++ worker_run.round_of (worker.Met l.last) before ∷ [],
      record {
        events = l.events;
        last = l.last;
        at_work = l.at_work;
        leaving = leaving;
        leaves = l.leaves;
        ends = ap (ending_by leaving) (is ∙ served-of e (worker.turn_of (worker.Met l.last) before).0 l.stands.duty);
        passed_is = refl;
      },
      l.done,
    )

worker-whole : (v : Serving) (s : Scene) (calls : List worker.Call) → worker_run.AreInTurn calls → worker_run.leaving_in (worker.acts_of calls (worker_of v)) ≡ None
    → AreDone s.old s.now (worker_run.rounds calls (worker_of v)) → IsWhole (tasks.Worker v) s
worker-whole v s calls turn work done = (worker_run.rounds calls (worker_of v), record { calls = calls; in_turn = turn; at_work = work; passed_is = refl }, done)

worker-broken : (v : Serving) (s : Scene) (calls : List worker.Call) → worker_run.leaving_in (worker.acts_of calls (worker_of v)) ≡ None → worker_run.IsPart (worker_of v) s.old s.now calls → IsBroken (tasks.Worker v) s
worker-broken v s calls work w = (
  worker_run.rounds calls (worker_of v),
  worker_run.round_of w.0 (worker.after calls (worker_of v)),
  record { calls = calls; call = w.0; in_turn = w.1; at_work = work; passed_is = refl; last_is = refl },
  w.2,
)

pub worker-halted : (stop : Stop) (v : Serving) (s : Scene) → Cause stop s.before s.after → worker_run.Halted stop (worker_of v) s.old s.now → IsHalted stop (tasks.Worker v) s
worker-halted stops.NoMemory v s cause h = of h.cut
  where
    of : worker_run.IsCutBy stops.NoMemory (worker_of v) s.old s.now h.calls → IsHalted stops.NoMemory (tasks.Worker v) s
    of (inl w) = inl (worker-whole v s h.calls h.in_turn h.at_work w)
    of (inr w) = inr (worker-broken v s h.calls h.at_work w)
worker-halted stops.Read v s cause h = (inl cause, worker-whole v s h.calls h.in_turn h.at_work h.cut)
worker-halted stops.Write v s cause h = (cause, worker-broken v s h.calls h.at_work h.cut)

pub worker-unbegun : (v : Serving) (from : Option (List ℕ)) (old : Places) (c : Counts) (reads : ℕ) (stop : Stop) → stop ≡ stops.NoMemory → IsHalted stop (tasks.Worker v) (scene from old old c c reads reads)
worker-unbegun v from old c reads stop is =
    subst (λ (x : Stop). IsHalted x (tasks.Worker v) (scene from old old c c reads reads)) (sym is)
    (inl ([], record { calls = []; in_turn = tt; at_work = refl; passed_is = refl }, moves-none old))

-- ---- what follows of a run for this task

pub given-ok : (r : Result Ending Stop) (s : Scene) (e : Session) (feed : Feed) (from : Option (List ℕ)) (a : Asking) → Begins a e feed from
    → IfOk r (λ ending. (x : Asking) → Begins x e feed from → CameTo (tasks.Client x) s ending) → IfOk r (CameTo (tasks.Client a) s)
given-ok (Ok ending) s e feed from a b f = f a b
given-ok (Err stop) s e feed from a b f = tt

pub given-err : (r : Result Ending Stop) (s : Scene) (e : Session) (feed : Feed) (from : Option (List ℕ)) (a : Asking) → Begins a e feed from
    → IfErr r (λ stop. (x : Asking) → Begins x e feed from → IsHalted stop (tasks.Client x) s) → IfErr r (λ stop. IsHalted stop (tasks.Client a) s)
given-err (Ok ending) s e feed from a b f = tt
given-err (Err stop) s e feed from a b f = f a b

pub begun-ok : (r : Result Ending Stop) (old now : Places) (before after : Counts) (e : Post) (v : Serving) → worker_stands.Stands e (worker_of v)
    → IfOk r (λ ending. (x : Serving) (from : Option (List ℕ)) (reads : ℕ) → worker_stands.Stands e (worker_of x) → CameTo (tasks.Worker x) (scene from old now before after reads reads) ending)
    → IfOk r (λ ending. (from : Option (List ℕ)) (reads : ℕ) → CameTo (tasks.Worker v) (scene from old now before after reads reads) ending)
begun-ok (Ok ending) old now before after e v s f = λ from reads. f v from reads s
begun-ok (Err stop) old now before after e v s f = tt

pub begun-err : (r : Result Ending Stop) (old now : Places) (before after : Counts) (e : Post) (v : Serving) → worker_stands.Stands e (worker_of v)
    → IfErr r (λ stop. (x : Serving) (from : Option (List ℕ)) (reads : ℕ) → worker_stands.Stands e (worker_of x) → IsHalted stop (tasks.Worker x) (scene from old now before after reads reads))
    → IfErr r (λ stop. (from : Option (List ℕ)) (reads : ℕ) → IsHalted stop (tasks.Worker v) (scene from old now before after reads reads))
begun-err (Ok ending) old now before after e v s f = tt
begun-err (Err stop) old now before after e v s f = λ from reads. f v from reads s

-- a worker's run, of whatever input
pub any-ok : (r : Result Ending Stop) (v : Serving) (task : Task) (from : Option (List ℕ)) (old now : Places) (before after : Counts) (reads : ℕ) → task ≡ tasks.Worker v
    → IfOk r (λ ending. (from : Option (List ℕ)) (reads : ℕ) → CameTo (tasks.Worker v) (scene from old now before after reads reads) ending) → IfOk r (CameTo task (scene from old now before after reads reads))
any-ok (Ok ending) v task from old now before after reads is f = subst (λ (t : Task). CameTo t (scene from old now before after reads reads) ending) (sym is) (f from reads)
any-ok (Err stop) v task from old now before after reads is f = tt

pub any-err : (r : Result Ending Stop) (v : Serving) (task : Task) (from : Option (List ℕ)) (old now : Places) (before after : Counts) (reads : ℕ) → task ≡ tasks.Worker v
    → IfErr r (λ stop. (from : Option (List ℕ)) (reads : ℕ) → IsHalted stop (tasks.Worker v) (scene from old now before after reads reads)) → IfErr r (λ stop. IsHalted stop task (scene from old now before after reads reads))
any-err (Ok ending) v task from old now before after reads is f = tt
any-err (Err stop) v task from old now before after reads is f = subst (λ (t : Task). IsHalted stop t (scene from old now before after reads reads)) (sym is) (f from reads)
