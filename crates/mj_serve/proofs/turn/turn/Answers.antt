use Rattle.std.proofs.Common.{◌≡◌, ◌++◌, List, false, sym, subst, ◌∙◌}
use Rattle.mj_base.specs.declared.event.Event.{Event}
use Rattle.mj_serve.specs.Given.{is_stop}
use Rattle.mj_serve.proofs.Counting.{taken-whole}
use Rattle.mj_serve.proofs.Going.{ran-more, ran-out-last}
use Rattle.mj_serve.proofs.turn.turn.Goals as goal

pub returns-in-Ok-event-clause-ran : goal.returns-in-Ok-event-clause-ran
returns-in-Ok-event-clause-ran g c = λ origin began limits first ran.
    let going : is_stop c.in-Ok.event ≡ false = sym c.is_end.ensures ∙ c.if-is_end.false in
    ran-more g.P.Ports.stand g.D.Disk origin began limits first c.args.ports.now c.next.new.self c.args.disk.now c.event.new.disk c.args.broker.now c.args.summary.now c.in-Ok.event
    (g.met.D.Disk.in_time c.args.disk.now)
    (λ taken given stands. subst (λ (es : List Event). g.P.Ports.stand origin c.next.new.self (taken ++ es) given) (taken-whole c.in-Ok.event going) (c.in-Ok.ensures.gives origin taken given stands))
    ran c.hand_out-summary.new.ports c.event.new.self (record { events = c.saturating_add-summary.result; pieces = c.hand_out-summary.result })
    c.new-outs.result.items c.event.new.outs.items c.new-outs.ensures.items (g.met.D.Disk.in_time c.event.new.disk)
    c.in-Ok-event.ensures.handled c.hand_out-summary.ensures.gives c.event.ensures.limits c.saturating_add-summary.ensures c.hand_out-summary.ensures.pieces

pub returns-in-Err-NoMemory-clause-ran_out : goal.returns-in-Err-NoMemory-clause-ran_out
returns-in-Err-NoMemory-clause-ran_out g c = λ origin began limits first ran.
    let going : is_stop c.in-Ok.event ≡ false = sym c.is_end.ensures ∙ c.if-is_end.false in
    ran-out-last g.P.Ports.stand g.D.Disk origin began limits first c.args.ports.now c.next.new.self c.args.disk.now c.event.new.disk c.args.broker.now c.args.summary.now c.in-Ok.event
    (g.met.D.Disk.in_time c.args.disk.now)
    (λ taken given stands. subst (λ (es : List Event). g.P.Ports.stand origin c.next.new.self (taken ++ es) given) (taken-whole c.in-Ok.event going) (c.in-Ok.ensures.gives origin taken given stands))
    ran _ c.in-Err-NoMemory.ensures.broke

pub returns-clause-ran_out : goal.returns-clause-ran_out
returns-clause-ran_out g c = λ origin began limits first ran.
    let going : is_stop c.in-Ok.event ≡ false = sym c.is_end.ensures ∙ c.if-is_end.false in
    ran-out-last g.P.Ports.stand g.D.Disk origin began limits first c.args.ports.now c.next.new.self c.args.disk.now c.event.new.disk c.args.broker.now c.args.summary.now c.in-Ok.event
    (g.met.D.Disk.in_time c.args.disk.now)
    (λ taken given stands. subst (λ (es : List Event). g.P.Ports.stand origin c.next.new.self (taken ++ es) given) (taken-whole c.in-Ok.event going) (c.in-Ok.ensures.gives origin taken given stands))
    ran _ c.in-Err-Refused.ensures.broke
