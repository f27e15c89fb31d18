use Rattle.mj_routing.specs.Staying.{StaysBeside}
use Rattle.mj_routing.proofs.FewerLemmas.{fewer-hands, fewer-passes}
use Rattle.mj_routing.proofs.PlainLemmas.{beside, beside-then, plain-hands, stays-waits}
use Rattle.mj_titanic.proofs.OnwardLemmas.{dropped-onward, from-open}
use Rattle.std.proofs.Common.{◌≡◌, ◌+◌, ◌<◌, sym, subst, length}
use Rattle.std.proofs.Common.{ℕ, List, Option, ap, refl, ◌∙◌}
use Rattle.mj_machine.specs.Acts.{quiet}
use Rattle.mj_machine.specs.DiskActs.{clients_alone, reading, routes}
use Rattle.mj_titanic.specs.Acting.{core_behind, parts, seen}
use Rattle.mj_titanic.specs.Services.{next_pair}
use Rattle.mj_titanic.proofs.Accepts.{with-some}
use Rattle.mj_queue.specs.Settling.{pair}
use Rattle.mj_queue.specs.declared.offer.Offer.{Offer}
use Rattle.mj_keeper.specs.Standing.{told_on}
use Rattle.mj_machine.specs.MachineState.{State}
use Rattle.mj_machine.specs.Pairing.{hands, passes, waits}
use Rattle.std.proofs.Common.{is_some}
use Rattle.mj_titanic.specs.declared.fault.ActFault.TheVariants.{NoMemory}
use Rattle.mj_titanic.proofs.Handing.{hands_it, next-are, next-read, offer-same, offered, passes-done, passes-plain}
use Rattle.mj_titanic.proofs.Following.{first-stopped, open-is, then-done, then-failed, then-stopped}
use Rattle.mj_titanic.proofs.Composing.{stopped-still}
use Rattle.mj_titanic.proofs.Routed.{hands-plain, routed-did}
use Rattle.mj_titanic.proofs.parts.Parts.dispatch_ticket.Goals as goal

pub returns-in-Ok-clause-done : goal.returns-in-Ok-clause-done
returns-in-Ok-clause-done g c =
    let same = offer-same (pair c.args.self.now.routing.waiting c.args.self.now.routing.queue) c.in-Ok.ensures.0 _ c.in-Ok.ensures.1 c.requires.offer in
    let body = with-some _ c.in-Ok-Some.field-0 c.in-Ok-Some.body c.in-Ok-Some.field-0-is c.in-Ok-Some.ensures.body in
    then-done g.D.Disk (seen c.args.self.now) c.args.disk.now (reading quiet quiet) (routes (passes (c.in-Ok.ensures.0))) (routes (hands c.in-Ok-Some.body (c.in-Ok.ensures.0))) next_pair (λ v. refl) (λ v. refl)
    (next-read g.D.Disk (seen c.args.self.now) c.args.disk.now c.args.ticket (open-is _ c.args.self.now.keeping.keeper.shelf c.requires.open) (c.in-Ok.ensures.0) c.in-Ok.ensures.1 (ap (λ (o : Offer). o.origin) same) c.in-Ok-Some.body body)
    _ (parts c.args.self.now.routing c.read_open.new.self) c.read_open.new.disk _ _ _ _ _
    (ap (λ (o : Option (List (List ℕ))). parts (core_behind (is_some o) c.args.self.now.routing) c.read_open.new.self) c.in-Ok-Some.field-0-is) (c.in-Ok-Some.ensures.usable ∙ ap is_some c.in-Ok-Some.field-0-is) (c.in-Ok-Some.ensures.done c.args.self.now.routing)
    (routed-did g.D.Disk (parts c.args.self.now.routing c.read_open.new.self) _ c.read_open.new.disk _ _ (hands c.in-Ok-Some.body (c.in-Ok.ensures.0)) refl refl c.in-Ok.ensures.2
    (hands-plain c.in-Ok-Some.body (c.in-Ok.ensures.0) (told_on c.read_open.new.self.keeper.shelf) c.args.self.now.routing))

pub returns-in-Err-hand-clause-stopped : goal.returns-in-Err-hand-clause-stopped
returns-in-Err-hand-clause-stopped g c =
    let given = offered (pair c.args.self.now.routing.waiting c.args.self.now.routing.queue) _ c.requires.offer in
    then-stopped g.D.Disk (seen c.args.self.now) c.args.disk.now (reading quiet quiet) (routes (passes given.0)) (hands_it c.args.ticket given.0) next_pair (λ v. refl) (λ v. refl)
    (next-are g.D.Disk (seen c.args.self.now) c.args.disk.now c.args.ticket (open-is _ c.args.self.now.keeping.keeper.shelf c.requires.open) given.0 given.1 (ap (λ (o : Offer). o.origin) given.2))
    _ (parts c.args.self.now.routing c.read_open.new.self) c.read_open.new.disk _ _ NoMemory _
    (ap (λ (o : Option (List (List ℕ))). parts (core_behind (is_some o) c.args.self.now.routing) c.read_open.new.self) c.in-Ok-Some.field-0-is) (c.in-Ok-Some.ensures.done c.args.self.now.routing)
    (stopped-still g.D.Disk NoMemory (parts c.args.self.now.routing c.read_open.new.self) c.read_open.new.disk _ tt (λ refused. absurd refused))

pub returns-in-Ok-wait-clause-done : goal.returns-in-Ok-wait-clause-done
returns-in-Ok-wait-clause-done g c =
    let given = offered (pair c.args.self.now.routing.waiting c.args.self.now.routing.queue) _ c.requires.offer in
    then-failed g.D.Disk (seen c.args.self.now) c.args.disk.now (reading quiet quiet) (routes (passes given.0)) (hands_it c.args.ticket given.0) next_pair (λ v. refl) (λ v. refl)
    (next-are g.D.Disk (seen c.args.self.now) c.args.disk.now c.args.ticket (open-is _ c.args.self.now.keeping.keeper.shelf c.requires.open) given.0 given.1 (ap (λ (o : Offer). o.origin) given.2))
    _ (parts (clients_alone c.args.self.now.routing) c.read_open.new.self) c.read_open.new.disk _ _ _ _ _
    (ap (λ (o : Option (List (List ℕ))). parts (core_behind (is_some o) c.args.self.now.routing) c.read_open.new.self) c.in-Ok-None.field-0-is) (c.in-Ok-None.ensures.usable ∙ ap is_some c.in-Ok-None.field-0-is) c.in-Ok-None.ensures.stored (c.in-Ok-None.ensures.done c.args.self.now.routing)
    (routed-did g.D.Disk (parts (clients_alone c.args.self.now.routing) c.read_open.new.self) _ c.read_open.new.disk _ _ (passes given.0) refl refl
    (passes-done given.0 _ (told_on c.read_open.new.self.keeper.shelf) (clients_alone c.args.self.now.routing) c.wait.new.self c.read_open.new.outs.items given.2
    (c.in-Ok-wait.ensures ∙ ap (λ (s : State). waits c.args.worker c.args.service.now s) c.drop_tickets.ensures))
    (passes-plain given.0 (told_on c.read_open.new.self.keeper.shelf) (clients_alone c.args.self.now.routing)))

pub returns-in-Err-wait-clause-stopped : goal.returns-in-Err-wait-clause-stopped
returns-in-Err-wait-clause-stopped g c =
    let given = offered (pair c.args.self.now.routing.waiting c.args.self.now.routing.queue) _ c.requires.offer in
    then-stopped g.D.Disk (seen c.args.self.now) c.args.disk.now (reading quiet quiet) (routes (passes given.0)) (hands_it c.args.ticket given.0) next_pair (λ v. refl) (λ v. refl)
    (next-are g.D.Disk (seen c.args.self.now) c.args.disk.now c.args.ticket (open-is _ c.args.self.now.keeping.keeper.shelf c.requires.open) given.0 given.1 (ap (λ (o : Offer). o.origin) given.2))
    _ (parts (clients_alone c.args.self.now.routing) c.read_open.new.self) c.read_open.new.disk _ _ NoMemory _
    (ap (λ (o : Option (List (List ℕ))). parts (core_behind (is_some o) c.args.self.now.routing) c.read_open.new.self) c.in-Ok-None.field-0-is) (c.in-Ok-None.ensures.done c.args.self.now.routing)
    (stopped-still g.D.Disk NoMemory (parts (clients_alone c.args.self.now.routing) c.read_open.new.self) c.read_open.new.disk _ tt (λ refused. absurd refused))

pub returns-in-Err-clause-stopped : goal.returns-in-Err-clause-stopped
returns-in-Err-clause-stopped g c =
    let given = offered (pair c.args.self.now.routing.waiting c.args.self.now.routing.queue) _ c.requires.offer in
    first-stopped g.D.Disk (seen c.args.self.now) c.args.disk.now (reading quiet quiet) (routes (passes given.0)) (hands_it c.args.ticket given.0) next_pair (λ v. refl) (λ v. refl)
    (next-are g.D.Disk (seen c.args.self.now) c.args.disk.now c.args.ticket (open-is _ c.args.self.now.keeping.keeper.shelf c.requires.open) given.0 given.1 (ap (λ (o : Offer). o.origin) given.2))
    _ _ (c.in-Err.ensures.stopped c.args.self.now.routing)

pub returns-in-Ok-clause-stays : goal.returns-in-Ok-clause-stays
returns-in-Ok-clause-stays g c =
    let plain = plain-hands (told_on c.read_open.new.self.keeper.shelf) c.in-Ok-Some.body c.in-Ok.ensures.0 c.args.self.now.routing c.in-Ok.ensures.1 in
    from-open c.read_open.new.self.keeper.shelf c.read_open.new.self.keeper.shelf c.args.self.now.routing c.hand.new.self (c.in-Ok-Some.ensures.usable ∙ ap is_some c.in-Ok-Some.field-0-is)
    (subst (λ (s : State). StaysBeside c.read_open.new.self.keeper.shelf c.read_open.new.self.keeper.shelf c.args.self.now.routing s) (sym c.in-Ok.ensures.2.state) (beside c.read_open.new.self.keeper.shelf c.args.self.now.routing _ plain.stays)) c.args.self.now.keeping.keeper.shelf

pub returns-in-Ok-clause-fewer : goal.returns-in-Ok-clause-fewer
returns-in-Ok-clause-fewer g c =
    subst (λ (s : State). length s.waiting + length s.queue < length c.args.self.now.routing.waiting + length c.args.self.now.routing.queue) (sym c.in-Ok.ensures.2.state)
    (fewer-hands (told_on c.read_open.new.self.keeper.shelf) c.in-Ok-Some.body c.in-Ok.ensures.0 c.args.self.now.routing c.in-Ok.ensures.1)

pub returns-in-Ok-wait-clause-stays : goal.returns-in-Ok-wait-clause-stays
returns-in-Ok-wait-clause-stays g c =
    beside-then c.args.self.now.keeping.keeper.shelf c.read_open.new.self.keeper.shelf c.read_open.new.self.keeper.shelf c.args.self.now.routing c.drop_tickets.new.self c.wait.new.self (dropped-onward c.args.self.now.keeping.keeper.shelf c.read_open.new.self.keeper.shelf c.args.self.now.routing c.drop_tickets.new.self c.drop_tickets.ensures)
    (subst (λ (s : State). StaysBeside c.read_open.new.self.keeper.shelf c.read_open.new.self.keeper.shelf c.drop_tickets.new.self s) (sym c.in-Ok-wait.ensures)
    (beside c.read_open.new.self.keeper.shelf c.drop_tickets.new.self _ (stays-waits (told_on c.read_open.new.self.keeper.shelf) c.args.worker c.args.service.now c.drop_tickets.new.self)))

pub returns-in-Ok-wait-clause-fewer : goal.returns-in-Ok-wait-clause-fewer
returns-in-Ok-wait-clause-fewer g c =
    let given = offered (pair c.args.self.now.routing.waiting c.args.self.now.routing.queue) _ c.requires.offer in
    let is : c.wait.new.self ≡ waits given.0.waiter.worker given.0.waiter.service (clients_alone c.args.self.now.routing) =
    c.in-Ok-wait.ensures ∙ ap (λ (s : State). waits c.args.worker c.args.service.now s) c.drop_tickets.ensures
    ∙ ap (λ (n : ℕ). waits n c.args.service.now (clients_alone c.args.self.now.routing)) (ap (λ (o : Offer). o.worker) (sym given.2))
    ∙ ap (λ (name : List ℕ). waits given.0.waiter.worker name (clients_alone c.args.self.now.routing)) (ap (λ (o : Offer). o.service) (sym given.2)) in
    subst (λ (s : State). length s.waiting + length s.queue < length c.args.self.now.routing.waiting + length c.args.self.now.routing.queue) (sym is)
    (fewer-passes given.0 c.args.ticket c.args.self.now.routing given.1 (ap (λ (o : Offer). o.origin) given.2))
