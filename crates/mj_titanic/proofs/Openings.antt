-- An opening again, as an act of the machine.
use Rattle.std.proofs.Common.{◌≡◌, ◌+◌, ◌≤◌, ◌||◌, ◌&&◌, ◌==◌, ℕ, Bool, true, false, not, nat_eq, List, [], ◌∷◌, ◌++◌, Option, None, Some, is_some, refl, sym, ap, subst, ◌∙◌, inl, inr, arith}
use Rattle.std.proofs.lemmas.List.{append-nil}
use Rattle.std.specs.List.{list_any}
use Rattle.mj_base.specs.Rising.{Rose}
use Rattle.mj_base.specs.declared.event.Note.TheVariants as notes
use Rattle.mj_base.specs.declared.event.Out.{Out}
use Rattle.mj_base.specs.declared.event.Out.TheVariants as out
use Rattle.mj_disk.specs.declared.disk.Disk.{Ghosts}
use Rattle.mj_disk.proofs.Moments.{leaves_weaker, then_leaves}
use Rattle.mj_journal.specs.declared.fault.OpenFault.{OpenFault}
use Rattle.mj_tickets.specs.declared.command.TicketCmd.{TicketCmd}
use Rattle.mj_store.specs.Commands.{OpensForOne, payloads_of}
use Rattle.mj_journal.specs.FileText.{end_of}
use Rattle.mj_store.specs.Opening.{FindsDoubt, IsRefusal, LeavesInDoubt, NoneInDoubt, StaysInDoubt, found_if, has_moved}
use Rattle.mj_store.specs.Standing.{Holds, IsHeld, IsInDoubt, IsTelling, StoreValue}
use Rattle.mj_queue.specs.declared.request.Request.{Request}
use Rattle.mj_machine.specs.StoreState.{Access, IsShut, Open, Shut, Store, doubted}
use Rattle.mj_machine.specs.MachineState.{State, Whole}
use Rattle.mj_machine.specs.Acts.{quiet, ◌then◌}
use Rattle.mj_machine.specs.DiskActs.{clients_alone, fails, finds, found_in, opening, opening_again, opening_by, reopened, reopens, says_found, says_shut, with_found}
use Rattle.mj_machine.proofs.ConnectionLemmas.{agrees, equal}
use Rattle.mj_keeper.specs.declared.keeper.Keeper.{Keeper}
use Rattle.mj_keeper.specs.declared.keeper.Shelf.{Shelf}
use Rattle.mj_keeper.specs.declared.keeper.Shelf.TheVariants as shelves
use Rattle.mj_keeper.specs.Standing.{GoesOn, IsOneOf, IsSound, Sees, StandsBy, is_open, told_on}
use Rattle.mj_titanic.specs.Acting.{Agree, AreOf, Did, Ends, IsAt, Parts, Stopped, around, IsActFault, IsRefused}
use Rattle.mj_titanic.specs.declared.fault.ActFault.{ActFault}
use Rattle.mj_titanic.specs.Reopening.{core_opened, core_reopened, with_waiting}
use Rattle.mj_titanic.proofs.Alike.{waiting-alike}
use Rattle.mj_titanic.proofs.Attempts.{none-given, opens-on, shut-given, silent-before, tells-none, tells-on}
use Rattle.mj_titanic.proofs.Composing.{goes-more, goes-nowhere, one-of-first, one-of-second}

-- ---- notes

and_left : (a b : Bool) → ((a && b) || false) ≡ true → a ≡ true
and_left true b is = refl
and_left false b is = absurd (cc is)

told-so : (a b : Bool) → a ≡ true → ((a && b) || false) ≡ b
told-so true true is = refl
told-so true false is = refl
told-so false b is = absurd (cc is)

again-given : (act next : ℕ) (found : Bool) → next ≡ act + 1 → AreOf act next (notes.Again act found ∷ [])
again-given act next found is = record {
  onward = omega (arith, is);
  shut = λ k says. absurd (cc says);
  found = λ k says. let same : act ≡ k = agrees act k (and_left (act == k) found says) in (omega (arith, same), omega (arith, same, is));
}

-- ---- the doubt

-- what was found, as a list and as an option
found-are : (doubt : Option TicketCmd) (moved : Bool) (cmds : List TicketCmd) → cmds ++ found_if moved (doubted (Shut doubt)) ≡ with_found (found_in moved doubt) cmds
found-are None true cmds = append-nil cmds
found-are None false cmds = append-nil cmds
found-are (Some cmd) true cmds = refl
found-are (Some cmd) false cmds = append-nil cmds

nothing-found : (moved : Bool) → found_if moved (doubted (Shut None)) ≡ []
nothing-found true = refl
nothing-found false = refl

unmoved : (end : ℕ) (next : StoreValue) → next.end ≡ end → has_moved end next ≡ false
unmoved end next is = ap not (ap (λ (n : ℕ). nat_eq n end) is ∙ equal end)

-- the gate has moved exactly where a command was found
found-moved : {D : Type 0} (disks : Ghosts D) (doubt : Option TicketCmd) (base : ℕ) (cmds : List TicketCmd) (end : ℕ) (next : StoreValue) (after : D) → end ≡ end_of (payloads_of cmds)
    → Holds disks base (cmds ++ found_if (has_moved end next) (doubted (Shut doubt))) next after → is_some (found_in (has_moved end next) doubt) ≡ has_moved end next
found-moved disks (Some cmd) base cmds end next after end_is holds = by (has_moved end next)
  where
    by : (b : Bool) → is_some (found_in b (Some cmd)) ≡ b
    by true = refl
    by false = refl
found-moved disks None base cmds end next after end_is holds = by (has_moved end next) ∙ sym still
  where
    by : (b : Bool) → is_some (found_in b None) ≡ false
    by true = refl
    by false = refl

    still : has_moved end next ≡ false
    still =
        unmoved end next
        (holds.knows.end_is ∙ ap (λ (some : List TicketCmd). end_of (payloads_of (cmds ++ some))) (nothing-found (has_moved end next)) ∙ ap (λ (some : List TicketCmd). end_of (payloads_of some)) (append-nil cmds) ∙ sym end_is)

-- ---- an open shelf

-- nothing was done
pub opening-open : {D : Type 0} (disks : Ghosts D) (old new : Parts) (held : StoreValue) (disk : D) (before : List Out) → old.keeper.shelf ≡ shelves.Open held → new ≡ old
    → Did disks old disk new disk before before (opening quiet quiet) (around (opening quiet quiet))
opening-open {D} disks old new held disk before is same =
    subst (λ (p : Parts). Did disks old disk p disk before before (opening quiet quiet) (around (opening quiet quiet))) (sym same)
    (record {
      added = [];
      outs_are = sym (append-nil before);
      given = none-given old.acts old.acts (omega arith);
      ends = λ w at agree.
          subst (λ (a : Access). Ends disks old disk [] w (opening_by a quiet quiet w)) (sym (opens-on disks old.keeper.limits old.keeper.shelf held disk w.store is at.store.stands.by).ready)
          (record { at = at; outs = refl; notes = refl });
      crash = λ w at agree. goes-more disks disk disk [] (around (opening quiet quiet) w) (goes-nowhere disks disk disk refl (omega arith));
      count = (omega arith, omega arith);
      silent = λ none. none;
      plain = λ absent. absurd (let no : shelves.Absent ≡ shelves.Open held = sym absent ∙ is in cc no);
    })

-- ---- a shut shelf

pub record ShutOn {D : Type 0} (disks : Ghosts D) (end : ℕ) (disk : D) (store : Store) : Type 0 where
  pub stored : store.stored ≡ true
  pub shut : IsShut store.access
  pub doubt : IsInDoubt disks store.base store.commands (doubted store.access) end disk

pub shut-on : {D : Type 0} (disks : Ghosts D) (keeper : Keeper) (end : ℕ) (disk : D) (store : Store) → keeper.shelf ≡ shelves.Shut end → StandsBy disks keeper.limits keeper.shelf disk store → ShutOn disks end disk store
shut-on disks keeper end disk store is by =
    let b = subst (λ (s : Shelf). StandsBy disks keeper.limits s disk store) is by in record { stored = b.0; shut = b.1; doubt = b.2 }

module _ {D : Type 0} (disks : Ghosts D) (old : Parts) (end : ℕ) (disk after : D) (is : old.keeper.shelf ≡ shelves.Shut end) where
  here : (w : Whole) → IsAt disks old disk w → ShutOn disks end disk w.store
  here w at = shut-on disks old.keeper end disk w.store is at.store.stands.by

  images : (w : Whole) (image : List ℕ) → OpensForOne w.store.base (w.store.commands ∷ (w.store.commands ++ doubted w.store.access) ∷ []) image → IsOneOf (around (opening quiet quiet) w) image
  images w image (inl plain) = inl (inl plain)
  images w image (inr (inl whole)) = inl (inr whole)
  images w image (inr (inr none)) = absurd none

  opening-goes : LeavesInDoubt disks disk after → (w : Whole) → IsAt disks old disk w → GoesOn disks disk after (around (opening quiet quiet) w)
  opening-goes leaves w at start before all so_far =
      then_leaves start (disks.time disk) (disks.time after) before (disks.told disk) (disks.told after) (IsOneOf (all ++ around (opening quiet quiet) w))
      (OpensForOne w.store.base (w.store.commands ∷ (w.store.commands ++ doubted w.store.access) ∷ []))
      (leaves_weaker (start, disks.time disk) before (disks.told disk) (IsOneOf all) (IsOneOf (all ++ around (opening quiet quiet) w)) so_far
      (λ image one. one-of-first all (around (opening quiet quiet) w) image one))
      (leaves w.store.base w.store.commands (doubted w.store.access) end (here w at).doubt)
      (λ image opens. one-of-second all (around (opening quiet quiet) w) image (images w image opens))

  pub opening-stopped : LeavesInDoubt disks disk after → disks.faults disk ≤ disks.faults after → (fault : ActFault) → IsActFault fault → (IsRefused fault → disks.told disk ≡ None)
      → Stopped disks fault old disk after (around (opening quiet quiet))
  opening-stopped leaves count fault kind refused = record {
    some = [];
    upto = old.acts;
    given = none-given old.acts old.acts (omega arith);
    crash = λ w at agree. opening-goes leaves w at;
    count = count;
    kind = kind;
    refused = refused;
    plain = λ absent. absurd (let no : shelves.Absent ≡ shelves.Shut end = sym absent ∙ is in cc no);
  }

  module _ (new : Parts) (acts : new.acts ≡ old.acts + 1) (telling : is_some (disks.told after) ≡ is_some (disks.told disk)) where
    works : (w : Whole) (found : Bool) → IsAt disks old disk w → Agree old.acts new.acts w.notes (notes.Again old.acts found ∷ []) → fails w ≡ false
    works w found at agree =
        subst (λ (k : ℕ). list_any (says_shut k) w.notes ≡ false) at.acts (agree old.acts (omega arith) (omega (arith, acts))).0

    tells : (w : Whole) (found : Bool) → IsAt disks old disk w → Agree old.acts new.acts w.notes (notes.Again old.acts found ∷ []) → finds w ≡ found
    tells w found at agree =
        subst (λ (k : ℕ). list_any (says_found k) w.notes ≡ found) at.acts
        ((agree old.acts (omega arith) (omega (arith, acts))).1 ∙ told-so (old.acts == old.acts) found (equal old.acts))

    breaks : (w : Whole) → IsAt disks old disk w → Agree old.acts new.acts w.notes (notes.Shut old.acts ∷ []) → fails w ≡ true
    breaks w at agree =
        let said : (old.acts == old.acts || false) ≡ true = ap (λ (b : Bool). b || false) (equal old.acts) in
        subst (λ (k : ℕ). list_any (says_shut k) w.notes ≡ true) at.acts ((agree old.acts (omega arith) (omega (arith, acts))).0 ∙ said)

    -- it was opened
    module _ (next : StoreValue) (core : new.core ≡ with_waiting next old.core) (now : new.keeper ≡ record old.keeper { shelf = shelves.Open next }) (limits : next.limits ≡ old.keeper.limits)
        (found : FindsDoubt disks disk next after) where
      opened-at : (w : Whole) → IsAt disks old disk w → (doubt : Option TicketCmd) → w.store.access ≡ Shut doubt
          → Holds disks w.store.base (with_found (found_in (has_moved end next) doubt) w.store.commands) next after
          → IsAt disks new after (reopens (found_in (has_moved end next) doubt) w).0
      opened-at w at doubt shut holds =
          let store = reopened (found_in (has_moved end next) doubt) w.store in
          let sees : Sees disks (record old.keeper { shelf = shelves.Open next }) after store = record {
            stands = record { by = (limits, (here w at).stored, refl, holds); seed = at.store.stands.seed };
            telling = λ stored. tells-on disks disk after telling (at.store.telling stored);
          } in
          let waiting = waiting-alike store next.index holds.knows.index_is w.routing.held in
          record {
            routing =
                core ∙ ap (with_waiting next) at.routing
                ∙ ap (λ (rs : List Request). record w.routing { queue = w.routing.queue ++ rs }) waiting;
            limited = ap (λ (k : Keeper). k.limits) now ∙ at.limited;
            acts = acts ∙ ap (λ (k : ℕ). k + 1) at.acts;
            store = subst (λ (k : Keeper). Sees disks k after store) (sym now) sees;
          }

      opened-ends : (w : Whole) → IsAt disks old disk w → Agree old.acts new.acts w.notes (notes.Again old.acts (has_moved end next) ∷ []) → (access : Access) → w.store.access ≡ access
          → Ends disks new after (out.Note (notes.Again old.acts (has_moved end next)) ∷ []) w (opening_by access quiet quiet w)
      opened-ends w at agree Open usable = absurd (subst IsShut usable (here w at).shut)
      opened-ends w at agree (Shut doubt) shut =
          let o = here w at in
          let in_doubt = subst (λ (a : Access). IsInDoubt disks w.store.base w.store.commands (doubted a) end disk) shut o.doubt in
          let first = found w.store.base w.store.commands (doubted (Shut doubt)) end (at.store.telling o.stored) in_doubt in
          let holds = subst (λ (cs : List TicketCmd). Holds disks w.store.base cs next after) (found-are doubt (has_moved end next) w.store.commands) first in
          let is_found = found-moved disks doubt w.store.base w.store.commands end next after in_doubt.end_is first in
          subst (λ (b : Bool). Ends disks new after (out.Note (notes.Again old.acts (has_moved end next)) ∷ []) w (opening_again b doubt quiet quiet w)) (sym (works w (has_moved end next) at agree))
          (subst (λ (b : Bool). Ends disks new after (out.Note (notes.Again old.acts (has_moved end next)) ∷ []) w (reopens (found_in b doubt) w then quiet)) (sym (tells w (has_moved end next) at agree))
          (record {
            at = opened-at w at doubt shut holds;
            outs =
                ap (λ (k : ℕ). out.Note (notes.Again k (is_some (found_in (has_moved end next) doubt))) ∷ []) (sym at.acts)
                ∙ ap (λ (b : Bool). out.Note (notes.Again old.acts b) ∷ []) is_found;
            notes = refl;
          }))

      pub opening-did : (before outs : List Out) → LeavesInDoubt disks disk after → disks.faults disk ≤ disks.faults after → outs ≡ before ++ out.Note (notes.Again old.acts (has_moved end next)) ∷ []
          → Did disks old disk new after before outs (opening quiet quiet) (around (opening quiet quiet))
      opening-did before outs leaves count more = record {
        added = out.Note (notes.Again old.acts (has_moved end next)) ∷ [];
        outs_are = more;
        given = again-given old.acts new.acts (has_moved end next) acts;
        ends = λ w at agree. opened-ends w at agree w.store.access refl;
        crash = λ w at agree. opening-goes leaves w at;
        count = (count, omega (arith, count));
        silent = silent-before disks disk after telling;
        plain = λ absent. absurd (let no : shelves.Absent ≡ shelves.Shut end = sym absent ∙ is in cc no);
      }

    -- it failed
    module _ (core : new.core ≡ clients_alone old.core) (now : new.keeper ≡ record old.keeper { shelf = shelves.Shut end }) (stays : StaysInDoubt disks disk after) where
      failed-ends : (w : Whole) → IsAt disks old disk w → Agree old.acts new.acts w.notes (notes.Shut old.acts ∷ []) → (access : Access) → w.store.access ≡ access
          → Ends disks new after (out.Note (notes.Shut old.acts) ∷ []) w (opening_by access quiet quiet w)
      failed-ends w at agree Open usable = absurd (subst IsShut usable (here w at).shut)
      failed-ends w at agree (Shut doubt) shut =
          let o = here w at in
          let in_doubt = subst (λ (a : Access). IsInDoubt disks w.store.base w.store.commands (doubted a) end disk) shut o.doubt in
          let store = record w.store { access = Shut doubt } in
          let sees : Sees disks (record old.keeper { shelf = shelves.Shut end }) after store = record {
            stands = record { by = (o.stored, tt, stays w.store.base w.store.commands (doubted (Shut doubt)) end in_doubt); seed = at.store.stands.seed };
            telling = λ stored. tells-on disks disk after telling (at.store.telling stored);
          } in
          subst (λ (b : Bool). Ends disks new after (out.Note (notes.Shut old.acts) ∷ []) w (opening_again b doubt quiet quiet w)) (sym (breaks w at agree))
          (record {
            at = record {
              routing = core ∙ ap clients_alone at.routing;
              limited = ap (λ (k : Keeper). k.limits) now ∙ at.limited;
              acts = acts ∙ ap (λ (k : ℕ). k + 1) at.acts;
              store = subst (λ (k : Keeper). Sees disks k after store) (sym now) sees;
            };
            outs = ap (λ (k : ℕ). out.Note (notes.Shut k) ∷ []) (sym at.acts);
            notes = refl;
          })

      pub opening-failed : (before outs : List Out) → LeavesInDoubt disks disk after → disks.faults disk ≤ disks.faults after → Rose (disks.faults disk) (disks.faults after)
          → outs ≡ before ++ out.Note (notes.Shut old.acts) ∷ []
          → Did disks old disk new after before outs (opening quiet quiet) (around (opening quiet quiet))
      opening-failed before outs leaves count rose more = record {
        added = out.Note (notes.Shut old.acts) ∷ [];
        outs_are = more;
        given = shut-given old.acts new.acts acts;
        ends = λ w at agree. failed-ends w at agree w.store.access refl;
        crash = λ w at agree. opening-goes leaves w at;
        count = (count, rose);
        silent = silent-before disks disk after telling;
        plain = λ absent. absurd (let no : shelves.Absent ≡ shelves.Shut end = sym absent ∙ is in cc no);
      }

-- ---- what is asked on every disk

module _ {D : Type 0} (disks : Ghosts D) (keeper : Keeper) (end : ℕ) (disk : D) (is : keeper.shelf ≡ shelves.Shut end) (sound : IsSound disks keeper disk) where
  pub sound-opened : (new : Keeper) (next : StoreValue) (after : D) → new ≡ record keeper { shelf = shelves.Open next } → next.limits ≡ keeper.limits → IsHeld disks next after → IsSound disks new after
  sound-opened new next after now limits held =
      subst (λ (k : Keeper). IsSound disks k after) (sym now) (
        record { stored = true; seed = keeper.seed; base = held.0; commands = held.1; access = Open },
        record { by = (limits, refl, refl, held.2); seed = λ stored. refl },
      )

  -- a file that stands in doubt is never refused on a disk that tells
  pub refused-silent : (fault : OpenFault) → IsRefusal fault → (IsRefusal fault → IsTelling disks disk → NoneInDoubt disks disk) → disks.told disk ≡ None
  refused-silent fault refusal none =
      let o = shut-on disks keeper end disk sound.0 is sound.1.by in
      tells-none (disks.told disk) (λ tells. none refusal tells sound.0.base sound.0.commands (doubted sound.0.access) end o.doubt)

-- ---- by whether it is open

pub opening-kept : {D : Type 0} (disks : Ghosts D) (old : Parts) (disk : D) (before : List Out) → is_open old.keeper.shelf ≡ true → Did disks old disk old disk before before (opening quiet quiet) (around (opening quiet quiet))
opening-kept disks old disk before is = by old.keeper.shelf refl is
  where
    by : (s : Shelf) → old.keeper.shelf ≡ s → is_open s ≡ true → Did disks old disk old disk before before (opening quiet quiet) (around (opening quiet quiet))
    by shelves.Absent at open_is = absurd (cc open_is)
    by (shelves.Open held) at open_is = opening-open disks old old held disk before at refl
    by (shelves.Shut end) at open_is = absurd (cc open_is)

pub reopened-core : (shelf new : Shelf) (core : State) → is_open shelf ≡ false → (told_on shelf).stored ≡ true → core_reopened shelf new core ≡ core_opened new core
reopened-core shelves.Absent new core shut_is stored = absurd (cc stored)
reopened-core (shelves.Open held) new core shut_is stored = absurd (cc shut_is)
reopened-core (shelves.Shut end) new core shut_is stored = refl
