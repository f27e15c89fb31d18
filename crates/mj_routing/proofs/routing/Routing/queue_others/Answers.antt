use Rattle.std.proofs.Common.{ap, sym, ◌∙◌, arith}
use Rattle.mj_machine.specs.MachineState.{State}
use Rattle.mj_machine.specs.StoreState.{holds_ticket}
use Rattle.mj_routing.proofs.WaitingLemmas.{all-queued, none-pending, none-queued, one-queued, rest_above}
use Rattle.mj_routing.proofs.routing.Routing.queue_others.Goals as goal

pub loop-after-init : goal.loop-after-init
loop-after-init c = record {
  numbered = c.next-end.ensures.numbered;
  end = c.next-end.ensures.value;
  held = c.requires;
  rest = none-queued c.args.store.now.index c.next-end.ensures.numbered c.args.self.now;
}

pub returns-in_default : goal.returns-in_default
returns-in_default c = sym (none-pending c.args.store.now.index c.loop-after.invariant.numbered c.loop-after.self c.loop-after.after (sym c.in_default.ensures)) ∙ c.loop-after.invariant.rest

pub loop-after-smaller : goal.loop-after-smaller
loop-after-smaller c =
    let next = one-queued c.args.store.now.index c.loop-after.invariant.numbered c.loop-after.self c.loop-after.after c.in-Some.number c.in-Some.service.now (sym c.in-Some.ensures) in
    let more = next.more in
    omega arith

pub loop-after-preserved : goal.loop-after-preserved
loop-after-preserved c =
    let next = one-queued c.args.store.now.index c.loop-after.invariant.numbered c.loop-after.self c.loop-after.after c.in-Some.number c.in-Some.service.now (sym c.in-Some.ensures) in
    record {
      numbered = c.loop-after.invariant.numbered;
      end = c.loop-after.invariant.end;
      held = λ number. c.loop-after.invariant.held number ∙ ap (λ (s : State). holds_ticket s.held number) (sym c.in_ok-queue_free.ensures);
      rest = ap (rest_above c.in-Some.number c.args.store.now.index) c.in_ok-queue_free.ensures ∙ sym next.same ∙ c.loop-after.invariant.rest;
    }

pub returns : goal.returns
returns c = sym (all-queued c.args.store.now.index c.loop-after.invariant.numbered c.loop-after.self c.loop-after.after (let e = c.loop-after.invariant.end in omega arith)) ∙ c.loop-after.invariant.rest
