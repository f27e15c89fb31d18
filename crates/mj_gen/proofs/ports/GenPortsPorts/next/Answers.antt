use Rattle.std.proofs.Common.{◌≡◌, ◌∷◌, length, ap, sym, ◌∙◌, arith}
use Rattle.mj_base.specs.declared.event.Event.{Event}
use Rattle.mj_serve.specs.Given.{outs_given}
use Rattle.mj_gen.specs.ToCome.{to_come}
use Rattle.mj_gen.proofs.Tallies.{stands-event}
use Rattle.mj_gen.proofs.ports.GenPortsPorts.next.Goals as goal

pub returns-clause-gives : goal.returns-clause-gives
returns-clause-gives c = λ origin taken given stood.
    let comes : to_come c.args.self.now.place.n c.args.self.now.place.stored c.args.self.now.place.turn c.args.self.now.place.number
    ≡ c.in_ok-event.event ∷ to_come c.place_behind-self.result.n c.place_behind-self.result.stored c.place_behind-self.result.turn c.place_behind-self.result.number
    = c.place_behind-self.ensures.goes_on (c.is_over.ensures.going c.if-is_over.false)
    ∙ ap (λ (e : Event). e ∷ to_come c.place_behind-self.result.n c.place_behind-self.result.stored c.place_behind-self.result.turn c.place_behind-self.result.number) (sym c.in_ok-event.ensures.event) in
    stands-event _ _ _ _ _ taken given stood 8 c.in_ok-event.event _ c.with_event-self.result c.in_ok-event.ensures.taken comes c.requires
    (λ counted. c.with_event-self.ensures taken (outs_given given) c.in_ok-event.event counted)

pub returns-clause-no_more : goal.returns-clause-no_more
returns-clause-no_more c =
    let comes : to_come c.args.self.now.place.n c.args.self.now.place.stored c.args.self.now.place.turn c.args.self.now.place.number
    ≡ c.in_ok-event.event ∷ to_come c.place_behind-self.result.n c.place_behind-self.result.stored c.place_behind-self.result.turn c.place_behind-self.result.number
    = c.place_behind-self.ensures.goes_on (c.is_over.ensures.going c.if-is_over.false)
    ∙ ap (λ (e : Event). e ∷ to_come c.place_behind-self.result.n c.place_behind-self.result.stored c.place_behind-self.result.turn c.place_behind-self.result.number) (sym c.in_ok-event.ensures.event) in
    let e = ap length comes in omega (arith, e)

pub returns-clause-fewer : goal.returns-clause-fewer
returns-clause-fewer c = λ going.
    let comes : to_come c.args.self.now.place.n c.args.self.now.place.stored c.args.self.now.place.turn c.args.self.now.place.number
    ≡ c.in_ok-event.event ∷ to_come c.place_behind-self.result.n c.place_behind-self.result.stored c.place_behind-self.result.turn c.place_behind-self.result.number
    = c.place_behind-self.ensures.goes_on (c.is_over.ensures.going c.if-is_over.false)
    ∙ ap (λ (e : Event). e ∷ to_come c.place_behind-self.result.n c.place_behind-self.result.stored c.place_behind-self.result.turn c.place_behind-self.result.number) (sym c.in_ok-event.ensures.event) in
    let e = ap length comes in omega (arith, e)
