use Rattle.std.proofs.Common.{◌≡◌, ◌-◌, ◌^◌, ◌∙◌, ℕ, List, length, refl, sym, ap, arith}
use Rattle.std.proofs.lemmas.List.{length-map}
use Rattle.mj_chain.specs.Seats.{Seat, is_key}
use Rattle.mj_queue.specs.HallState.{HallState}
use Rattle.mj_queue.specs.declared.request.Origin.TheVariants.{Client, Ticket}
use Rattle.mj_queue.specs.declared.request.Request.{Request}
use Rattle.mj_queue.specs.Settling.{queued, queued_weight}
use Rattle.mj_hall.specs.declared.kept.Queued.{Queued}
use Rattle.mj_hall.specs.Asking.{of_origin, same_origin}
use Rattle.mj_hall.specs.Floor.{requests_of}
use Rattle.mj_hall.specs.HallValue.{HallValue}
use Rattle.mj_hall.specs.Labels.{numbered}
use Rattle.mj_hall.proofs.HallLemmas.{value_is}
use Rattle.mj_hall.proofs.LabelLemmas.{bare-numbered, numbered_below, numbered_rise, same-ends, same-filter, same-last, same-length, same-requests, desk_bare}
use Rattle.mj_hall.proofs.WalkLemmas.{flat, seen_is}
use Rattle.mj_hall.specs.Desks.{is_peopled}
use Rattle.mj_hall.proofs.hall.Hall.number_anew.Goals as goal

pub number_all-requires : goal.number_all-requires
number_all-requires g c =
    let stands = c.self.invariant.2 in
    record {
      stands = (c.self.inside.names, c.self.invariant.0, c.self.invariant.1, record { distinct = stands.asking.distinct; rows = stands.asking.rows; desks = stands.desks; ready = stands.ready }, stands.asked);
    }

pub invariant_of-self : goal.invariant_of-self
invariant_of-self g c =
    let stands = c.self.invariant.2 in
    let es = c.self.invariant.0 in
    let ws = c.self.invariant.1 in
    let later = numbered 0 es in
    let bare = sym (bare-numbered 0 es) in
    let marked = c.number_all.ensures.marked c.self.inside.names es ws (record { distinct = stands.asking.distinct; rows = stands.asking.rows; desks = stands.desks; ready = stands.ready }) stands.asked in
    let len = stands.asked.len in (
      later,
      ws,
      record {
        asking = record {
          distinct = marked.distinct;
          rows = marked.rows;
          count = c.number_all.ensures.count ∙ stands.asking.count ∙ same-length es later bare;
          by_client = λ p. stands.asking.by_client p ∙ ap (is_key p.1) (same-last (of_origin (Client p.0) es) (of_origin (Client p.0) later) (same-filter es later bare (λ q. same_origin (Client p.0) q.request.origin) (λ l q. refl)));
          by_ticket = λ p. stands.asking.by_ticket p ∙ ap (is_key p.1) (same-last (of_origin (Ticket p.0) es) (of_origin (Ticket p.0) later) (same-filter es later bare (λ q. same_origin (Ticket p.0) q.request.origin) (λ l q. refl)));
        };
        serving = stands.serving;
        desks = marked.desks;
        peopled = λ q d e h. ap is_peopled (sym (desk_bare es later ws d bare)) ∙ stands.peopled q d e h;
        ready = marked.ready;
        asked = record { ends = stands.asked.ends ∙ same-ends es later bare; len = stands.asked.len ∙ same-length es later bare };
        waiting = stands.waiting;
        busy = stands.busy;
        rise = numbered_rise 0 es;
        below = numbered_below 0 c.self.inside.request_count es (omega arith);
        number = stands.number ∙ ap queued (same-requests es later bare);
        weight = stands.weight ∙ ap queued_weight (same-requests es later bare);
        fits = stands.fits;
      },
    )

abbrev with_requests : List Request → HallState → HallState
with_requests requests s = record s { requests = requests }

pub returns-clause-state : goal.returns-clause-state
unfolding invariant_of-self
returns-clause-state g c =
    let es = c.self.invariant.0 in
    ap (λ (v : HallValue). v.state) (seen_is _ _ _ (invariant_of-self g c).2)
    ∙ ap (λ (rs : List Request). with_requests rs (flat c.self.inside.limits es c.self.invariant.1 c.self.inside.next).state) (sym (same-requests es (numbered 0 es) (sym (bare-numbered 0 es))))
    ∙ ap (λ (v : HallValue). v.state) (value_is c.self.inside es c.self.invariant.1 c.args.self.now c.self.invariant.2 c.self.view_is)

pub returns-clause-labels : goal.returns-clause-labels
returns-clause-labels g c =
    let es = c.self.invariant.0 in
    let long : length (requests_of es) ≡ length es = length-map es (λ (s : Seat Queued). s.value.request) in
    ap (λ (n : ℕ). 2 ^ 64 - 1 - n) (c.self.invariant.2.asked.len ∙ sym long)
    ∙ ap (λ (v : HallValue). 2 ^ 64 - 1 - length v.state.requests) (value_is c.self.inside es c.self.invariant.1 c.args.self.now c.self.invariant.2 c.self.view_is)
