-- What is routed, as an act of the machine.
use Rattle.std.proofs.Common.{◌≡◌, ℕ, Bool, true, false, List, [], ◌∷◌, ◌++◌, length, Option, None, Some, refl, sym, ap, subst, ◌∙◌, arith}
use Rattle.mj_base.specs.declared.event.Note.{Note}
use Rattle.mj_base.specs.declared.event.Out.{Out}
use Rattle.mj_disk.specs.declared.disk.Disk.{Ghosts}
use Rattle.mj_machine.specs.declared.connection.Connection.{Connection}
use Rattle.mj_machine.specs.StoreState.{IsShut, Told, ticket_request, told_by, usable}
use Rattle.mj_machine.specs.MachineState.{Done, State, Whole}
use Rattle.mj_machine.specs.Connections.{connection_of, voice_of}
use Rattle.mj_machine.specs.DiskActs.{notes_in, routes}
use Rattle.mj_machine.specs.Sending.{is_slow, reply_text, sends, sends_if, sends_to}
use Rattle.mj_machine.specs.Pairing.{handed, hands, request_text, with_body}
use Rattle.mj_machine.specs.TitanicStep.{answers, closed}
use Rattle.mj_queue.specs.Settling.{Pair, without_ticket}
use Rattle.mj_queue.specs.declared.request.Request.{Request}
use Rattle.mj_titanic.specs.Services.{accepted_as}
use Rattle.std.specs.Prelude.{codes}
use Rattle.mj_routing.specs.RoutingState.{Does}
use Rattle.mj_keeper.specs.declared.keeper.Keeper.{Keeper}
use Rattle.mj_keeper.specs.declared.keeper.Shelf.{Shelf}
use Rattle.mj_keeper.specs.declared.keeper.Shelf.TheVariants as shelves
use Rattle.mj_keeper.specs.Standing.{Sees, StandsBy, is_open, told_on}
use Rattle.mj_titanic.specs.Acting.{AreOf, Did, IsAt, Parts, RoseBy, nowhere, parts, shut_count}
use Rattle.mj_titanic.specs.declared.acts.Keeping.{Keeping}
use Rattle.mj_titanic.proofs.Attempts.{none-given}
use Rattle.mj_titanic.proofs.Composing.{goes-nowhere}
use Rattle.mj_titanic.proofs.Telling.{told-sees}

-- it adds no notes, and the limits stay
pub record IsPlain (d : Done Out) (s : State) : Type 0 where
  pub quiet : notes_in d.1 ≡ []
  pub limits : d.0.limits ≡ s.limits

pub sends-plain : (n : ℕ) (piece : List ℕ) (told : Told) (s : State) → IsPlain (sends n piece told s) s
sends-plain n piece told s = by (connection_of n s.connections)
  where
    by_slow : (b : Bool) (c : Connection) → IsPlain (sends_if b n piece c told s) s
    by_slow true c = record { quiet = refl; limits = refl }
    by_slow false c = record { quiet = refl; limits = refl }

    by : (o : Option Connection) → IsPlain (sends_to n piece o told s) s
    by None = record { quiet = refl; limits = refl }
    by (Some c) = by_slow (is_slow s.limits c (length piece)) c

pub answers-plain : (n : ℕ) (request : Request) (frames : List (List ℕ)) (told : Told) (s : State) → IsPlain (answers n request frames told s) s
answers-plain n request frames told s = sends-plain n (reply_text true request frames) told s

pub closed-plain : (n : ℕ) (request : Request) (ticket : ℕ) (told : Told) (s : State) → IsPlain (closed n request ticket told s) s
closed-plain n request ticket told s =
    let p = answers-plain n request (codes "200" ∷ []) told (record s { queue = without_ticket ticket s.queue }) in record { quiet = p.quiet; limits = p.limits }

pub accepted-plain : (ticket : ℕ) (text service : List ℕ) (n : ℕ) (request : Request) (told : Told) (s : State) → IsPlain (accepted_as ticket text service n request told s) s
accepted-plain ticket text service n request told s =
    let p = answers-plain n request (codes "200" ∷ text ∷ []) told (record s { queue = s.queue ++ ticket_request ticket service ∷ [] }) in record { quiet = p.quiet; limits = p.limits }

pub hands-plain : (body : List (List ℕ)) (p : Pair) (told : Told) (s : State) → IsPlain (hands body p told s) s
hands-plain body p told s =
    let q = sends-plain p.waiter.worker (request_text (voice_of (connection_of p.waiter.worker s.connections)) (with_body body p.request)) told (handed p s) in
    record { quiet = q.quiet; limits = q.limits }

-- from a state that is the same
pub does-at : (new : State) (before outs : List Out) (act : State → Done Out) (s t : State) → s ≡ t → Does new before outs (act s) → Does new before outs (act t)
does-at new before outs act s t is does = subst (λ (v : State). Does new before outs (act v)) is does

-- and with the same frames
pub answers-at : (new : State) (before outs : List Out) (n : ℕ) (request : Request) (told : Told) (some frames : List (List ℕ)) (s t : State) → some ≡ frames → s ≡ t
    → Does new before outs (answers n request some told s) → Does new before outs (answers n request frames told t)
answers-at new before outs n request told some frames s t same is does =
    does-at new before outs (answers n request frames told) s t is (subst (λ (fs : List (List ℕ)). Does new before outs (answers n request fs told s)) same does)

pub parts-same : (r s : State) (k l : Keeping) → r ≡ s → k ≡ l → parts r k ≡ parts s l
parts-same r s k l routing keeping = ap (λ (v : State). parts v k) routing ∙ ap (λ (m : Keeping). parts s m) keeping

module _ {D : Type 0} (disks : Ghosts D) (old new : Parts) (disk : D) (before outs : List Out) (act : Told → State → Done Out) where
  pub routed-did : new.keeper ≡ old.keeper → new.acts ≡ old.acts → Does new.core before outs (act (told_on old.keeper.shelf) old.core) → IsPlain (act (told_on old.keeper.shelf) old.core) old.core
      → Did disks old disk new disk before outs (routes act) nowhere
  routed-did keeper acts does plain = record {
    added = (act (told_on old.keeper.shelf) old.core).1;
    outs_are = does.outs;
    given = subst (λ (ns : List Note). AreOf old.acts new.acts ns) (sym plain.quiet) (none-given old.acts new.acts (omega (arith, acts)));
    ends = λ w at agree.
        let same = same_act w at in
        record {
          at = record {
            routing = does.state ∙ ap (λ (d : Done Out). d.0) same;
            limited = ap (λ (k : Keeper). k.limits) keeper ∙ at.limited ∙ sym (ap (λ (s : State). s.limits) at.routing) ∙ sym plain.limits ∙ ap (λ (d : Done Out). d.0.limits) same;
            acts = acts ∙ at.acts;
            store = subst (λ (k : Keeper). Sees disks k disk w.store) (sym keeper) at.store;
          };
          outs = sym (ap (λ (d : Done Out). d.1) same);
          notes = refl;
        };
    crash = λ w at agree. goes-nowhere disks disk disk refl (omega arith);
    count = subst (λ (ns : List Note). RoseBy (shut_count ns) (disks.faults disk) (disks.faults disk)) (sym plain.quiet) (omega arith, omega arith);
    silent = λ none. none;
    plain = λ absent. (ap (λ (k : Keeper). k.shelf) keeper ∙ absent, refl);
  }
    where
      same_act : (w : Whole) → IsAt disks old disk w → act (told_on old.keeper.shelf) old.core ≡ act (told_by w.store) w.routing
      same_act w at =
          ap (λ (t : Told). act t old.core) (sym (told-sees disks old.keeper.limits disk w.store old.keeper refl at.store.stands))
          ∙ ap (λ (s : State). act (told_by w.store) s) at.routing

-- ---- whether the store is open

module _ {D : Type 0} (disks : Ghosts D) (p : Parts) (disk : D) (w : Whole) (at : IsAt disks p disk w) where
  pub at-open : is_open p.keeper.shelf ≡ true → w.store.access ≡ usable
  at-open is = by p.keeper.shelf is at.store.stands.by
    where
      by : (s : Shelf) → is_open s ≡ true → StandsBy disks p.keeper.limits s disk w.store → w.store.access ≡ usable
      by shelves.Absent open_is stands = absurd (cc open_is)
      by (shelves.Open held) open_is stands = stands.2
      by (shelves.Shut end) open_is stands = absurd (cc open_is)

  pub at-shut : is_open p.keeper.shelf ≡ false → (told_on p.keeper.shelf).stored ≡ true → IsShut w.store.access
  at-shut is stored = by p.keeper.shelf is stored at.store.stands.by
    where
      by : (s : Shelf) → is_open s ≡ false → (told_on s).stored ≡ true → StandsBy disks p.keeper.limits s disk w.store → IsShut w.store.access
      by shelves.Absent shut_is there stands = absurd (cc there)
      by (shelves.Open held) shut_is there stands = absurd (cc shut_is)
      by (shelves.Shut end) shut_is there stands = stands.1
