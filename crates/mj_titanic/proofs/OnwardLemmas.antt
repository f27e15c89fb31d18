-- What stays on every disk.
use Rattle.std.proofs.Common.{◌≡◌, ℕ, true, false, List, refl, sym, subst}
use Rattle.mj_base.specs.declared.event.Out.{Out}
use Rattle.mj_queue.specs.declared.request.Request.{Request}
use Rattle.mj_machine.specs.MachineState.{State}
use Rattle.mj_machine.specs.DiskActs.{clients_alone}
use Rattle.mj_machine.specs.Sending.{sends}
use Rattle.mj_keeper.specs.Standing.{is_open, told_on}
use Rattle.mj_keeper.specs.declared.keeper.Shelf.{Shelf}
use Rattle.mj_keeper.specs.declared.keeper.Shelf.TheVariants as shelves
use Rattle.mj_routing.specs.RoutingState.{Does}
use Rattle.mj_routing.specs.Staying.{IsQueueOf, StaysBeside}
use Rattle.mj_routing.proofs.FewerLemmas.{beside-shut}
use Rattle.mj_routing.proofs.PlainLemmas.{beside, plain-sends, stays-same}
use Rattle.mj_titanic.specs.Reopening.{core_opened}

open-queue : (shelf : Shelf) → is_open shelf ≡ true → (queue : List Request) → IsQueueOf shelf queue
open-queue shelves.Absent is queue = cc is
open-queue (shelves.Open held) is queue = tt
open-queue (shelves.Shut end) is queue = cc is

pub same-onward : (shelf : Shelf) (s : State) → StaysBeside shelf shelf s s
same-onward shelf s = beside shelf s s (stays-same (told_on shelf) s)

pub sent-onward : (shelf : Shelf) (s t : State) (n : ℕ) (piece : List ℕ) (before outs : List Out) → Does t before outs (sends n piece (told_on shelf) s) → StaysBeside shelf shelf s t
sent-onward shelf s t n piece before outs d = subst (λ (u : State). StaysBeside shelf shelf s u) (sym d.state) (beside shelf s _ (plain-sends (told_on shelf) n piece s).stays)

-- whatever was queued before the store was open
pub from-open : (one two : Shelf) (s t : State) → is_open one ≡ true → StaysBeside one two s t → (shelf : Shelf) → StaysBeside shelf two s t
from-open one two s t is stays shelf = record { limits = stays.limits; next = stays.next; absent = stays.absent; queue = λ any. stays.queue (open-queue one is s.queue) }

-- the same behind a change of the queue
pub queued-open : (one two : Shelf) (s d t : State) (queue : List Request) → is_open one ≡ true → d ≡ record s { queue = queue } → StaysBeside one two d t → (shelf : Shelf) → StaysBeside shelf two s t
queued-open one two s d t queue is same stays shelf =
    let there = subst (λ (u : State). StaysBeside one two u t) same stays in
    record { limits = there.limits; next = there.next; absent = there.absent; queue = λ any. there.queue (open-queue one is queue) }

-- behind an opening again, or where it failed
pub opened-onward : (one two : Shelf) (s : State) → is_open one ≡ false → StaysBeside one two s (core_opened two s)
opened-onward shelves.Absent shelves.Absent s is = record { limits = refl; next = refl; absent = λ n none. none; queue = λ clients. clients }
opened-onward (shelves.Shut end) shelves.Absent s is = record { limits = refl; next = refl; absent = λ n none. none; queue = λ clients. clients }
opened-onward (shelves.Open held) shelves.Absent s is = cc is
opened-onward one (shelves.Open held) s is = record { limits = refl; next = refl; absent = λ n none. none; queue = λ any. tt }
opened-onward one (shelves.Shut end) s is = beside-shut one (shelves.Shut end) s

-- where what tickets have queued was dropped
pub dropped-onward : (one two : Shelf) (s d : State) → d ≡ clients_alone s → StaysBeside one two s d
dropped-onward one two s d is = subst (λ (u : State). StaysBeside one two s u) (sym is) (beside-shut one two s)
