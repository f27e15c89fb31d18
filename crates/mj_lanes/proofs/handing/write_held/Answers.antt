use Rattle.std.proofs.Common.{◌≡◌, ◌<◌, ℕ, List, [], ◌∷◌, ◌++◌, length, min, drop, get_or, append-nil, ap, ◌∙◌, subst, arith}
use Rattle.std.specs.Io.KnownBytes.{Appends}
use Rattle.std.proofs.Math.Nat.{le_trans}
use Rattle.mj_base.specs.Writing.{AppendsFront}
use Rattle.mj_base.specs.declared.event.Event.TheVariants.{Sent}
use Rattle.mj_lanes.specs.Passes.{WriterState}
use Rattle.mj_lanes.proofs.Leftovers.{finished-all, handed-front, handed-more}
use Rattle.mj_lanes.proofs.Loops.{nothing_added}
use Rattle.mj_lanes.proofs.handing.write_held.Goals as goal

pub returns-in-NoMemory-clause-writes : goal.returns-in-NoMemory-clause-writes
returns-in-NoMemory-clause-writes g c = λ marked taken sent out given.
    let i = c.loop-place.invariant in
    let made = c.in-NoMemory.ensures in
    let inside : c.loop-place.place < length c.args.pass.now.held = grind arith in
    handed-front c.args.pass.now.lane marked c.args.pass.now.held c.loop-place.place c.loop-place.at taken c.loop-place.pass.taken _ sent c.loop-place.pass.sent _ out (g.K.Sink.written c.loop-place.sink) _ (i.handed marked taken sent out given) inside
    (ap (λ (w : WriterState). w.taken) made.sent) (ap (λ (w : WriterState). w.sent) made.sent ∙ append-nil c.loop-place.pass.sent)
    (nothing_added c.args.pass.now.lane _ _ (drop (min c.loop-place.at (length (get_or c.args.pass.now.held c.loop-place.place []))) (get_or c.args.pass.now.held c.loop-place.place [])) made.octets)

pub returns-in-Failed-clause-writes : goal.returns-in-Failed-clause-writes
returns-in-Failed-clause-writes g c = λ marked taken sent out given.
    let i = c.loop-place.invariant in
    let made = c.in-Failed.ensures in
    let inside : c.loop-place.place < length c.args.pass.now.held = grind arith in
    handed-front c.args.pass.now.lane marked c.args.pass.now.held c.loop-place.place c.loop-place.at taken c.loop-place.pass.taken _ sent c.loop-place.pass.sent _ out (g.K.Sink.written c.loop-place.sink) _ (i.handed marked taken sent out given) inside
    (ap (λ (w : WriterState). w.taken) made.sent) (ap (λ (w : WriterState). w.sent) made.sent ∙ append-nil c.loop-place.pass.sent)
    (subst (λ (hs : List (List ℕ)). AppendsFront (g.K.Sink.written c.loop-place.sink) (g.K.Sink.written c.write_rest.new.sink) (drop (min c.loop-place.at (length (get_or hs c.loop-place.place []))) (get_or hs c.loop-place.place []))) i.held made.octets)

pub loop-place-preserved : goal.loop-place-preserved
loop-place-preserved g c =
    let i = c.loop-place.invariant in
    let made = c.in-Done.ensures in
    let inside : c.loop-place.place < length c.args.pass.now.held = grind arith in
    let tells : c.write_rest.new.pass.sent ≡ c.loop-place.pass.sent ++ Sent c.args.pass.now.lane ∷ []
    = ap (λ (w : WriterState). w.sent) made.sent ∙ ap (λ (n : ℕ). c.loop-place.pass.sent ++ Sent n ∷ []) i.lane in
    record {
      inbox = ap (λ (w : WriterState). w.inbox) made.sent ∙ i.inbox;
      lane = ap (λ (w : WriterState). w.lane) made.sent ∙ i.lane;
      outlet = ap (λ (w : WriterState). w.outlet) made.sent ∙ i.outlet;
      held = ap (λ (w : WriterState). w.held) made.sent ∙ i.held;
      handed = λ marked taken sent out given.
          handed-more c.args.pass.now.lane marked c.args.pass.now.held c.loop-place.place c.loop-place.at taken c.loop-place.pass.taken _ sent c.loop-place.pass.sent _ out (g.K.Sink.written c.loop-place.sink) _ (i.handed marked taken sent out given) inside
          (ap (λ (w : WriterState). w.taken) made.sent) tells
          (subst (λ (hs : List (List ℕ)). Appends (g.K.Sink.written c.loop-place.sink) (g.K.Sink.written c.write_rest.new.sink) (drop (min c.loop-place.at (length (get_or hs c.loop-place.place []))) (get_or hs c.loop-place.place []))) i.held made.octets);
      later = le_trans i.later made.later;
    }

pub returns-clause-writes : goal.returns-clause-writes
returns-clause-writes g c = λ marked taken sent out given.
    let i = c.loop-place.invariant in
    finished-all c.args.pass.now.lane marked c.args.pass.now.held c.loop-place.place c.loop-place.at taken c.loop-place.pass.taken sent c.loop-place.pass.sent out (g.K.Sink.written c.loop-place.sink) (i.handed marked taken sent out given) (grind arith)
