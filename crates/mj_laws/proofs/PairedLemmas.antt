-- Only a pair puts a REQUEST, to its worker.
use Rattle.std.proofs.Common.{◌≡◌, ℕ, Bool, true, false, List, [], ◌∷◌, length, Option, None, Some, refl, sym, ap, subst, ◌∙◌}
use Rattle.std.specs.List.{AllByRecursion}
use Rattle.mj_base.specs.declared.event.Out.{Out}
use Rattle.mj_base.specs.declared.event.Out.TheVariants.{End, Note, Piece}
use Rattle.mj_base.specs.declared.limits.Limits.{Limits}
use Rattle.mj_queue.specs.Settling.{Pair}
use Rattle.mj_machine.specs.declared.connection.Connection.{Connection}
use Rattle.mj_queue.specs.declared.request.Origin.{Origin}
use Rattle.mj_queue.specs.declared.request.Origin.TheVariants as origins
use Rattle.mj_machine.specs.StoreState.{Store, Told, ticket_body, told_by}
use Rattle.mj_machine.specs.MachineState.{State, Whole, start_with}
use Rattle.mj_machine.specs.DiskActs.{attempted, counted, fails, routes}
use Rattle.mj_machine.specs.EventStep.{Noted}
use Rattle.mj_machine.specs.Connections.{connection_of, voice_of}
use Rattle.mj_machine.specs.MessageStep.{own_answer, request_of}
use Rattle.mj_machine.specs.Sending.{is_slow, sends_if, sends_to}
use Rattle.mj_machine.specs.Pairing.{body_for, body_from, dispatched, handed, hands, mark_set, passes, request_text, with_body}
use Rattle.mj_machine.specs.Steps.{Beat, Cause, Closing, Expiry, IsAllowed, Item, Opening, Paired, Report, Step, Time, acts, run_steps, step_of}
use Rattle.mj_machine.proofs.ListLemmas.{all-map}
use Rattle.mj_machine.proofs.LookLemmas.{was-there}
use Rattle.mj_machine.proofs.StepLemmas.{IsAct, steps-act}
use Rattle.mj_machine.proofs.Changes.{Answers, Beats, Delivers, Greets, Hands, Refuses, Shakes, Tells, Why}
use Rattle.mj_laws.specs.Requests.{IsHandedOver, IsPaired, IsRequest}
use Rattle.mj_laws.proofs.PutLemmas.{HasReason, acts-have-reasons}
use Rattle.mj_laws.proofs.TextLemmas.{disconnect-no_request, greeting-no_request, heartbeat-no_request, ready-no_request, reply-no_request}

-- ---- a pair's step

-- what is put where it may be put
put_if : (t : Step) (b : Bool) (n : ℕ) (piece : List ℕ) (c : Connection) (told : Told) (s : State) → t.outs ≡ (sends_if b n piece c told s).1
    → (t.outs ≡ Piece c.lane piece ∷ [] → IsHandedOver c.lane piece t) → AllByRecursion (IsPaired t) (sends_if b n piece c told s).1
put_if t true n piece c told s outs handed_over = (tt, tt)
put_if t false n piece c told s outs handed_over = ((λ request. handed_over outs), tt)

put_to : (t : Step) (n : ℕ) (piece : List ℕ) (o : Option Connection) (told : Told) (s : State) → t.outs ≡ (sends_to n piece o told s).1
    → ((c : Connection) → o ≡ Some c → t.outs ≡ Piece c.lane piece ∷ [] → IsHandedOver c.lane piece t) → AllByRecursion (IsPaired t) (sends_to n piece o told s).1
put_to t n piece None told s outs handed_over = tt
put_to t n piece (Some c) told s outs handed_over = put_if t (is_slow s.limits c (length piece)) n piece c told s outs (handed_over c refl)

module _ (p : Pair) (w : Whole) where
  abbrev T : Step
  T = step_of (Paired p) w (acts (Paired p) w)

  hands-paired : (body : List (List ℕ)) (v : Whole) → body ≡ body_for p.request w.store → v.routing ≡ w.routing → T.outs ≡ (routes (hands body p) v).1
      → AllByRecursion (IsPaired T) (routes (hands body p) v).1
  hands-paired body v body_is same outs =
      let n = p.waiter.worker in
      let s = v.routing in
      put_to T n (request_text (voice_of (connection_of n s.connections)) (with_body body p.request)) (connection_of n (handed p s).connections) (told_by v.store) (handed p s) outs
      (λ d found alone.
      let was = was-there n n (mark_set s.now) (λ c. refl) (λ c. refl) s.connections d found in
      record {
        chosen = p;
        cause = refl;
        worker = was.0;
        there = ap (λ (x : State). connection_of n x.connections) (sym same) ∙ was.1;
        lane_is = was.2;
        text = ap (λ (o : Option Connection). request_text (voice_of o) (with_body body p.request)) was.1
            ∙ ap (λ (b : List (List ℕ)). request_text (voice_of (Some was.0)) (with_body b p.request)) body_is;
        alone = alone;
      })

  dispatched-paired : (origin : Origin) → p.request.origin ≡ origin → T.outs ≡ (dispatched origin p w).1 → AllByRecursion (IsPaired T) (dispatched origin p w).1
  dispatched-paired (origins.Client n) is outs = hands-paired p.request.body w (ap (λ (o : Origin). body_from o p.request w.store) (sym is)) refl outs
  dispatched-paired (origins.Ticket n) is outs = by (fails w) outs
    where
      by : (b : Bool) → T.outs ≡ (attempted b None (routes (passes p)) (routes (hands (ticket_body n w.store) p)) w).1
          → AllByRecursion (IsPaired T) (attempted b None (routes (passes p)) (routes (hands (ticket_body n w.store) p)) w).1
      by true outs = (tt, tt)
      by false outs = hands-paired (ticket_body n w.store) (counted w) (ap (λ (o : Origin). body_from o p.request w.store) (sym is)) refl outs

-- ---- all other steps

module _ (cause : Cause) (w : Whole) (other : (p : Pair) → cause ≡ Paired p → ⊥) where
  abbrev U : Step
  U = step_of cause w (acts cause w)

  no-request : (n : ℕ) (octets : List ℕ) → Why cause w U.after.routing.limits U.after.store n octets → IsRequest octets → ⊥
  no-request n octets (Greets text) is = greeting-no_request (subst IsRequest text is)
  no-request n octets (Shakes text) is = ready-no_request (subst IsRequest text is)
  no-request n octets (Refuses voice text) is = disconnect-no_request voice (subst IsRequest text is)
  no-request n octets (Beats voice text) is = heartbeat-no_request voice (subst IsRequest text is)
  no-request n octets (Hands p by text) is = other p by
  no-request n octets (Answers a) is =
      let request = request_of n a.cmd in
      reply-no_request (record { version = request.version; lead = request.lead; last = true; service = request.service; body = own_answer (told_by w.store) request w.routing })
      (subst IsRequest a.text is)
  no-request n octets (Tells a) is =
      let request = request_of n a.cmd in
      reply-no_request (record { version = request.version; lead = request.lead; last = true; service = request.service; body = a.frames }) (subst IsRequest a.text is)
  no-request n octets (Delivers d) is =
      let request = d.reply.request in
      reply-no_request (record { version = request.version; lead = request.lead; last = d.last; service = request.service; body = d.reply.body }) (subst IsRequest d.text is)

  no-request-put : (out : Out) → HasReason cause w U.after.routing.limits U.after.store out → IsPaired U out
  no-request-put (Piece lane octets) put = λ request. absurd (no-request put.number octets put.why request)
  no-request-put (End lane reason at) put = tt
  no-request-put (Note note) put = tt

  quiet : IsAllowed cause w.routing → AllByRecursion (IsPaired U) (acts cause w).1
  quiet allowed = all-map _ _ no-request-put (acts cause w).1 (acts-have-reasons cause w allowed)

paired-acts : (cause : Cause) (w : Whole) → IsAllowed cause w.routing → AllByRecursion (IsPaired (step_of cause w (acts cause w))) (acts cause w).1
paired-acts (Closing lane) w allowed = tt
paired-acts (Opening lane) w allowed = quiet (Opening lane) w (λ p is. cc is) tt
paired-acts (Report lane) w allowed = tt
paired-acts (Item n item) w allowed = quiet (Item n item) w (λ p is. cc is) tt
paired-acts (Time ms) w allowed = tt
paired-acts (Expiry n) w allowed = tt
paired-acts (Beat n) w allowed = quiet (Beat n) w (λ p is. cc is) tt
paired-acts (Paired p) w allowed = dispatched-paired p w p.request.origin refl refl

step-paired : (t : Step) → IsAct t → AllByRecursion (IsPaired t) t.outs
step-paired t act = subst (λ (u : Step). AllByRecursion (IsPaired u) u.outs) (sym act.is) (paired-acts t.cause t.before act.allowed)

pub requests_are_paired : (limits : Limits) (store : Store) (events : List Noted) → AllByRecursion (λ t. AllByRecursion (IsPaired t) t.outs) (run_steps limits (start_with limits store) events)
requests_are_paired limits store events = all-map _ _ step-paired (run_steps limits (start_with limits store) events) (steps-act limits (start_with limits store) events)
