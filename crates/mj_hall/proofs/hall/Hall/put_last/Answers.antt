use Rattle.std.proofs.Common.{◌≡◌, ℕ, ◌+◌, ◌==◌, ◌∙◌, ◌∷◌, [], ◌++◌, List, Some, None, cond, refl, sym, ap, subst}
use Rattle.mj_base.specs.KeptWeight.{weight_of}
use Rattle.mj_counted.specs.Names.{key_of}
use Rattle.mj_chain.specs.Seats.{Seat}
use Rattle.mj_queue.specs.HallState.{HallState}
use Rattle.mj_queue.specs.declared.request.Request.{Request}
use Rattle.mj_queue.specs.Settling.{is_of_client}
use Rattle.mj_hall.specs.declared.kept.Queued.{Queued}
use Rattle.mj_hall.specs.HallValue.{HallValue}
use Rattle.mj_hall.specs.Ready.{ReadyBut}
use Rattle.mj_hall.specs.Stands.{Stands}
use Rattle.mj_hall.proofs.AskLemmas.{asking_same, below-append, number-append, requests-append, rise-append, weight-append}
use Rattle.mj_hall.proofs.DeskLemmas.{part-same}
use Rattle.mj_hall.proofs.HallLemmas.{value_is}
use Rattle.mj_hall.proofs.ReadyLemmas.{hidden_stays}
use Rattle.mj_hall.proofs.WalkLemmas.{flat, seen_is}
use Rattle.mj_hall.proofs.PeopleLemmas.{request_people}
use Rattle.mj_hall.proofs.hall.Hall.put_last.Goals as goal

pub invariant_of-self : goal.invariant_of-self
invariant_of-self g c =
    let asking1 = asking_same c.self.inside.requests c.room_for_request.new.requests c.self.inside.clients.pairs c.room_for_request.new.clients.pairs c.self.inside.tickets.pairs c.room_for_request.new.tickets.pairs c.self.invariant.0 c.self.invariant.2.asking c.room_for_request.ensures.same c.room_for_request.ensures.count c.room_for_request.ensures.clients c.room_for_request.ensures.tickets in
    let desks1 = c.room_for_request.ensures.desks c.self.invariant.0 c.self.invariant.1 c.self.invariant.2.asking.distinct c.self.invariant.2.serving.distinct c.self.invariant.2.desks in
    let ready1 : ReadyBut None c.room_for_request.new.pairs.pairs c.self.invariant.0 c.self.invariant.1 = subst (λ (ps : List (ℕ × ℕ)). ReadyBut None ps c.self.invariant.0 c.self.invariant.1) (sym c.room_for_request.ensures.pairs) c.self.invariant.2.ready in (
      c.self.invariant.0,
      c.self.invariant.1,
      record {
        asking = asking1;
        serving = c.self.invariant.2.serving;
        desks = desks1;
        peopled = λ q d e h. c.self.invariant.2.peopled q d (sym (c.in-Err.ensures.unopened q) ∙ e) h;
        ready = ready1;
        asked = c.self.invariant.2.asked;
        waiting = c.self.invariant.2.waiting;
        busy = c.self.invariant.2.busy;
        rise = c.self.invariant.2.rise;
        below = c.self.invariant.2.below;
        number = c.self.invariant.2.number;
        weight = c.self.invariant.2.weight;
        fits = c.self.invariant.2.fits;
      },
    )

pub returns-in-Err-clause-err : goal.returns-in-Err-clause-err
returns-in-Err-clause-err g c =
    let asking1 = asking_same c.self.inside.requests c.room_for_request.new.requests c.self.inside.clients.pairs c.room_for_request.new.clients.pairs c.self.inside.tickets.pairs c.room_for_request.new.tickets.pairs c.self.invariant.0 c.self.invariant.2.asking c.room_for_request.ensures.same c.room_for_request.ensures.count c.room_for_request.ensures.clients c.room_for_request.ensures.tickets in
    let desks1 = c.room_for_request.ensures.desks c.self.invariant.0 c.self.invariant.1 c.self.invariant.2.asking.distinct c.self.invariant.2.serving.distinct c.self.invariant.2.desks in
    let ready1 : ReadyBut None c.room_for_request.new.pairs.pairs c.self.invariant.0 c.self.invariant.1 = subst (λ (ps : List (ℕ × ℕ)). ReadyBut None ps c.self.invariant.0 c.self.invariant.1) (sym c.room_for_request.ensures.pairs) c.self.invariant.2.ready in
    let stands1 : Stands (record c.self.inside { requests = c.room_for_request.new.requests; clients = c.room_for_request.new.clients; tickets = c.room_for_request.new.tickets; pairs = c.room_for_request.new.pairs; desks = c.room_for_request.new.desks; names = c.room_for_request.new.names }) c.self.invariant.0 c.self.invariant.1 = record {
      asking = asking1;
      serving = c.self.invariant.2.serving;
      desks = desks1;
      peopled = λ q d e h. c.self.invariant.2.peopled q d (sym (c.in-Err.ensures.unopened q) ∙ e) h;
      ready = ready1;
      asked = c.self.invariant.2.asked;
      waiting = c.self.invariant.2.waiting;
      busy = c.self.invariant.2.busy;
      rise = c.self.invariant.2.rise;
      below = c.self.invariant.2.below;
      number = c.self.invariant.2.number;
      weight = c.self.invariant.2.weight;
      fits = c.self.invariant.2.fits;
    } in (
      refl,
      ap (λ (v : HallValue). v.state) (seen_is (record c.self.inside { requests = c.room_for_request.new.requests; clients = c.room_for_request.new.clients; tickets = c.room_for_request.new.tickets; pairs = c.room_for_request.new.pairs; desks = c.room_for_request.new.desks; names = c.room_for_request.new.names }) c.self.invariant.0 c.self.invariant.1 stands1) ∙ ap (λ (v : HallValue). v.state) (value_is c.self.inside c.self.invariant.0 c.self.invariant.1 c.args.self.now c.self.invariant.2 c.self.view_is),
    )

pub invariant_of-self-2 : goal.invariant_of-self-2
invariant_of-self-2 g c =
    let asking1 = asking_same c.self.inside.requests c.room_for_request.new.requests c.self.inside.clients.pairs c.room_for_request.new.clients.pairs c.self.inside.tickets.pairs c.room_for_request.new.tickets.pairs c.self.invariant.0 c.self.invariant.2.asking c.room_for_request.ensures.same c.room_for_request.ensures.count c.room_for_request.ensures.clients c.room_for_request.ensures.tickets in
    let desks1 = c.room_for_request.ensures.desks c.self.invariant.0 c.self.invariant.1 c.self.invariant.2.asking.distinct c.self.invariant.2.serving.distinct c.self.invariant.2.desks in
    let ready1 : ReadyBut None c.room_for_request.new.pairs.pairs c.self.invariant.0 c.self.invariant.1 = subst (λ (ps : List (ℕ × ℕ)). ReadyBut None ps c.self.invariant.0 c.self.invariant.1) (sym c.room_for_request.ensures.pairs) c.self.invariant.2.ready in
    let x : Queued = record { request = c.args.request; label = c.self.inside.next; desk = c.in-Ok.desk } in
    let es : List (Seat Queued) = c.self.invariant.0 ++ record { key = c.request_comes.result; value = x } ∷ [] in
    let named : key_of c.room_for_request.new.names c.args.request.service ≡ Some c.in-Ok.desk = c.in-Ok.ensures.named in
    let hidden = c.unmark.ensures.ready c.self.invariant.0 c.self.invariant.1 asking1.distinct asking1.rows (desks1.each c.args.request.service c.in-Ok.desk named) ready1 in
    let asking2 = c.request_comes.ensures.asking c.room_for_request.new.names c.self.invariant.0 c.self.invariant.1 asking1 desks1 c.self.invariant.2.asked named in
    let desks2 = c.request_comes.ensures.desks c.room_for_request.new.names c.self.invariant.0 c.self.invariant.1 asking1 desks1 named in
    let apart : ReadyBut (Some c.in-Ok.desk) c.unmark.new.pairs.pairs es c.self.invariant.1 = hidden_stays c.in-Ok.desk c.unmark.new.pairs.pairs c.self.invariant.0 es c.self.invariant.1 c.self.invariant.1 (λ m e. part-same (λ (q : Queued). q.desk == m) c.request_comes.result x c.self.invariant.0 e) (λ m e. refl) hidden in (
      es,
      c.self.invariant.1,
      record {
        asking = asking2;
        serving = c.self.invariant.2.serving;
        desks = desks2;
        peopled = request_people c.request_comes.result c.in-Ok.desk x c.self.inside.names c.room_for_request.new.names c.self.invariant.0 c.self.invariant.1 refl c.in-Ok.ensures.opened c.self.invariant.2.peopled;
        ready = c.mark.ensures.ready es c.self.invariant.1 asking2.distinct asking2.rows (desks2.each c.args.request.service c.in-Ok.desk named) apart;
        asked = c.request_comes.ensures.ends c.self.invariant.0 c.self.invariant.2.asked;
        waiting = c.self.invariant.2.waiting;
        busy = c.self.invariant.2.busy;
        rise = rise-append c.self.invariant.0 c.request_comes.result c.self.inside.next x c.self.invariant.2.rise c.self.invariant.2.below refl;
        below = below-append c.self.invariant.0 c.request_comes.result c.self.inside.next x c.self.invariant.2.below refl;
        number = c.count_in.ensures.queued ∙ ap (λ (n : ℕ). n + cond (is_of_client c.args.request.origin) 1 0) c.self.invariant.2.number ∙ sym (number-append c.self.invariant.0 c.request_comes.result x);
        weight = c.count_in.ensures.weight ∙ ap (λ (n : ℕ). n + cond (is_of_client c.args.request.origin) (weight_of c.args.request.body) 0) c.self.invariant.2.weight ∙ sym (weight-append c.self.invariant.0 c.request_comes.result x);
        fits = c.self.invariant.2.fits;
      },
    )

abbrev longer : Request → HallState → HallState
longer r s = record s { requests = s.requests ++ r ∷ [] }

abbrev asked_of : HallState → List Request → HallState
asked_of s rs = record s { requests = rs }

pub returns-clause-ok : goal.returns-clause-ok
unfolding invariant_of-self-2
returns-clause-ok g c =
    let old = value_is c.self.inside c.self.invariant.0 c.self.invariant.1 c.args.self.now c.self.invariant.2 c.self.view_is in
    ap (λ (v : HallValue). v.state) (seen_is _ _ _ (invariant_of-self-2 g c).2)
    ∙ ap (asked_of (flat c.self.inside.limits c.self.invariant.0 c.self.invariant.1 c.self.inside.next).state) (requests-append c.self.invariant.0 c.request_comes.result (record { request = c.args.request; label = c.self.inside.next; desk = c.in-Ok.desk }))
    ∙ ap (λ (v : HallValue). longer c.args.request v.state) old
