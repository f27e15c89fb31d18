-- An append, or the reading of a body, as an act of the machine: it was done, it failed, or it was given up.
use Rattle.std.proofs.Common.{◌≡◌, ◌+◌, ◌≤◌, ◌||◌, ◌==◌, ℕ, Bool, true, false, List, [], ◌∷◌, ◌++◌, Option, None, Some, is_some, refl, sym, ap, subst, ◌∙◌, inl, inr, arith}
use Rattle.std.proofs.lemmas.List.{append-nil}
use Rattle.std.specs.List.{list_any}
use Rattle.mj_base.specs.Rising.{Rose}
use Rattle.mj_base.specs.declared.event.Note.TheVariants as notes
use Rattle.mj_base.specs.declared.event.Out.{Out}
use Rattle.mj_base.specs.declared.event.Out.TheVariants as out
use Rattle.mj_base.specs.declared.limits.Limits.{Limits}
use Rattle.mj_disk.specs.DiskModel.{History}
use Rattle.mj_disk.specs.declared.disk.Disk.{Ghosts}
use Rattle.mj_disk.proofs.Moments.{leaves_weaker, then_leaves, told_before}
use Rattle.mj_tickets.specs.declared.command.TicketCmd.{TicketCmd}
use Rattle.mj_store.specs.Commands.{OpensFor, OpensForOne}
use Rattle.mj_store.specs.Standing.{Doubts, Holds, IsHeld, IsTelling, LeavesWithOrWithout, StoreValue}
use Rattle.mj_machine.specs.StoreState.{Open, Shut, Store, doubted, usable}
use Rattle.mj_machine.specs.MachineState.{Act, Whole}
use Rattle.mj_machine.specs.Acts.{quiet}
use Rattle.mj_machine.specs.DiskActs.{attempted, clients_alone, fails, says_shut}
use Rattle.mj_machine.proofs.ConnectionLemmas.{agrees, equal}
use Rattle.mj_titanic.specs.declared.fault.ActFault.{ActFault}
use Rattle.mj_keeper.specs.declared.keeper.Keeper.{Keeper}
use Rattle.mj_keeper.specs.declared.keeper.Shelf.{Shelf}
use Rattle.mj_keeper.specs.declared.keeper.Shelf.TheVariants as shelves
use Rattle.mj_keeper.specs.Standing.{GoesOn, IsOneOf, IsSound, MayLeave, Sees, StandsBy}
use Rattle.mj_titanic.specs.Acting.{Agree, AreOf, Did, Ends, IsActFault, IsAt, IsRefused, Parts, Stopped, around}
use Rattle.mj_titanic.proofs.Composing.{one-of-first, one-of-second}

-- ---- notes of one act

pub none-given : (first next : ℕ) → first ≤ next → AreOf first next []
none-given first next onward = record { onward = onward; shut = λ k says. absurd (cc says); found = λ k says. absurd (cc says) }

or_nil : (b : Bool) → (b || false) ≡ true → b ≡ true
or_nil true is = refl
or_nil false is = is

pub shut-given : (act next : ℕ) → next ≡ act + 1 → AreOf act next (notes.Shut act ∷ [])
shut-given act next is = record {
  onward = omega (arith, is);
  shut = λ k says. let same : act ≡ k = agrees act k (or_nil (act == k) says) in (omega (arith, same), omega (arith, same, is));
  found = λ k says. absurd (cc says);
}

-- ---- disks that tell

module _ {D : Type 0} (disks : Ghosts D) (disk after : D) (telling : is_some (disks.told after) ≡ is_some (disks.told disk)) where
  pub tells-on : IsTelling disks disk → IsTelling disks after
  tells-on tells = told_before (disks.told after) (disks.told disk) tells.0 (sym telling) tells.1

  pub silent-before : disks.told after ≡ None → disks.told disk ≡ None
  silent-before none = by (disks.told disk) (sym telling ∙ ap is_some none)
    where
      by : (o : Option History) → is_some o ≡ false → o ≡ None
      by None is = refl
      by (Some h) is = absurd (cc is)

-- what doesn't tell has no history
pub tells-none : (o : Option History) → ((history : History) × (o ≡ Some history) → ⊥) → o ≡ None
tells-none None silent = refl
tells-none (Some history) silent = absurd (silent (history, refl))

-- ---- an open shelf

pub record OpensOn {D : Type 0} (disks : Ghosts D) (limits : Limits) (held : StoreValue) (disk : D) (store : Store) : Type 0 where
  pub limited : held.limits ≡ limits
  pub stored : store.stored ≡ true
  pub ready : store.access ≡ usable
  pub holds : Holds disks store.base store.commands held disk

pub opens-on : {D : Type 0} (disks : Ghosts D) (limits : Limits) (shelf : Shelf) (held : StoreValue) (disk : D) (store : Store) → shelf ≡ shelves.Open held → StandsBy disks limits shelf disk store → OpensOn disks limits held disk store
opens-on disks limits shelf held disk store is by =
    let b = subst (λ (s : Shelf). StandsBy disks limits s disk store) is by in record { limited = b.0; stored = b.1; ready = b.2; holds = b.3 }

pub sound-held : {D : Type 0} (disks : Ghosts D) (keeper : Keeper) (held : StoreValue) (disk : D) → keeper.shelf ≡ shelves.Open held → IsSound disks keeper disk → IsHeld disks held disk
sound-held disks keeper held disk is sound =
    let o = opens-on disks keeper.limits keeper.shelf held disk sound.0 is sound.1.by in (sound.0.base, sound.0.commands, o.holds)

pub sound-unspent : {D : Type 0} (disks : Ghosts D) (keeper : Keeper) (held : StoreValue) (disk : D) → keeper.shelf ≡ shelves.Open held → IsSound disks keeper disk → held.spent ≡ false
sound-unspent disks keeper held disk is sound = (sound-held disks keeper held disk is sound).2.knows.unspent

-- ---- the act

-- the commands in doubt where it fails, and what the commands are where it doesn't
module _ (doubt : Option TicketCmd) (grown : List TicketCmd → List TicketCmd) where
  abbrev pub attempts : Act
  attempts w = attempted (fails w) doubt quiet (λ v. quiet (record v { store = record v.store { commands = grown v.store.commands } })) w

  module _ {D : Type 0} (disks : Ghosts D) (old : Parts) (held : StoreValue) (disk after : D) (is : old.keeper.shelf ≡ shelves.Open held) where
    here : (w : Whole) → IsAt disks old disk w → OpensOn disks old.keeper.limits held disk w.store
    here w at = opens-on disks old.keeper.limits old.keeper.shelf held disk w.store is at.store.stands.by

    images : ((cs : List TicketCmd) → cs ++ doubted (Shut doubt) ≡ grown cs) → (w : Whole) (image : List ℕ)
        → OpensForOne w.store.base (w.store.commands ∷ (w.store.commands ++ doubted (Shut doubt)) ∷ []) image → IsOneOf (around attempts w) image
    images fits w image (inl plain) = inl (inl plain)
    images fits w image (inr (inr none)) = absurd none
    images fits w image (inr (inl whole)) = inr (inl (by (fails w)))
      where
        by : (b : Bool) → MayLeave (attempted b doubt quiet (λ v. quiet (record v { store = record v.store { commands = grown v.store.commands } })) w).0.store image
        by true = inr whole
        by false = inl (subst (λ (cs : List TicketCmd). OpensFor w.store.base cs image) (fits w.store.commands) whole)

    pub attempt-goes : ((cs : List TicketCmd) → cs ++ doubted (Shut doubt) ≡ grown cs) → LeavesWithOrWithout disks (doubted (Shut doubt)) held disk after → (w : Whole) → IsAt disks old disk w
        → GoesOn disks disk after (around attempts w)
    attempt-goes fits leaves w at start before all so_far =
        then_leaves start (disks.time disk) (disks.time after) before (disks.told disk) (disks.told after) (IsOneOf (all ++ around attempts w))
        (OpensForOne w.store.base (w.store.commands ∷ (w.store.commands ++ doubted (Shut doubt)) ∷ []))
        (leaves_weaker (start, disks.time disk) before (disks.told disk) (IsOneOf all) (IsOneOf (all ++ around attempts w)) so_far (λ image one. one-of-first all (around attempts w) image one))
        (leaves w.store.base w.store.commands (here w at).holds)
        (λ image opens. one-of-second all (around attempts w) image (images fits w image opens))

    -- given up before its end is known
    pub attempt-stopped : ((cs : List TicketCmd) → cs ++ doubted (Shut doubt) ≡ grown cs) → LeavesWithOrWithout disks (doubted (Shut doubt)) held disk after → disks.faults disk ≤ disks.faults after
        → (fault : ActFault) → IsActFault fault → (IsRefused fault → disks.told disk ≡ None) → Stopped disks fault old disk after (around attempts)
    attempt-stopped fits leaves count fault kind refused = record {
      some = [];
      upto = old.acts;
      given = none-given old.acts old.acts (omega arith);
      crash = λ w at agree. attempt-goes fits leaves w at;
      count = count;
      kind = kind;
      refused = refused;
      plain = λ absent. absurd (let no : shelves.Absent ≡ shelves.Open held = sym absent ∙ is in cc no);
    }

    module _ (new : Parts) (acts : new.acts ≡ old.acts + 1) (telling : is_some (disks.told after) ≡ is_some (disks.told disk)) where
      works : (w : Whole) → IsAt disks old disk w → Agree old.acts new.acts w.notes [] → fails w ≡ false
      works w at agree =
          subst (λ (k : ℕ). list_any (says_shut k) w.notes ≡ false) at.acts (agree old.acts (omega arith) (omega (arith, acts))).0

      breaks : (w : Whole) → IsAt disks old disk w → Agree old.acts new.acts w.notes (notes.Shut old.acts ∷ []) → fails w ≡ true
      breaks w at agree =
          let said : (old.acts == old.acts || false) ≡ true = ap (λ (b : Bool). b || false) (equal old.acts) in
          subst (λ (k : ℕ). list_any (says_shut k) w.notes ≡ true) at.acts ((agree old.acts (omega arith) (omega (arith, acts))).0 ∙ said)

      -- it was done
      pub attempt-did : (next : StoreValue) (before outs : List Out) → ((cs : List TicketCmd) → cs ++ doubted (Shut doubt) ≡ grown cs) → new.core ≡ old.core
          → new.keeper ≡ record old.keeper { shelf = shelves.Open next } → next.limits ≡ held.limits
          → ((base : ℕ) (cmds : List TicketCmd) → Holds disks base cmds held disk → Holds disks base (grown cmds) next after)
          → LeavesWithOrWithout disks (doubted (Shut doubt)) held disk after → disks.faults disk ≤ disks.faults after → outs ≡ before
          → Did disks old disk new after before outs attempts (around attempts)
      attempt-did next before outs fits core now limits holds leaves count same = record {
        added = [];
        outs_are = same ∙ sym (append-nil before);
        given = none-given old.acts new.acts (omega (arith, acts));
        ends = λ w at agree.
            let o = here w at in
            let store = record w.store { commands = grown w.store.commands } in
            let sees : Sees disks (record old.keeper { shelf = shelves.Open next }) after store = record {
              stands = record { by = (limits ∙ o.limited, o.stored, o.ready, holds w.store.base w.store.commands o.holds); seed = at.store.stands.seed };
              telling = λ stored. tells-on disks disk after telling (at.store.telling stored);
            } in
            subst (λ (b : Bool). Ends disks new after [] w (attempted b doubt quiet (λ v. quiet (record v { store = record v.store { commands = grown v.store.commands } })) w)) (sym (works w at agree))
            (record {
              at = record {
                routing = core ∙ at.routing;
                limited = ap (λ (k : Keeper). k.limits) now ∙ at.limited;
                acts = acts ∙ ap (λ (k : ℕ). k + 1) at.acts;
                store = subst (λ (k : Keeper). Sees disks k after store) (sym now) sees;
              };
              outs = refl;
              notes = refl;
            });
        crash = λ w at agree. attempt-goes fits leaves w at;
        count = (count, omega (arith, count));
        silent = silent-before disks disk after telling;
        plain = λ absent. absurd (let no : shelves.Absent ≡ shelves.Open held = sym absent ∙ is in cc no);
      }

      -- it failed
      pub attempt-failed : (before outs : List Out) → ((cs : List TicketCmd) → cs ++ doubted (Shut doubt) ≡ grown cs) → new.core ≡ clients_alone old.core
          → new.keeper ≡ record old.keeper { shelf = shelves.Shut held.end }
          → Doubts disks (doubted (Shut doubt)) held disk after
          → LeavesWithOrWithout disks (doubted (Shut doubt)) held disk after → disks.faults disk ≤ disks.faults after → Rose (disks.faults disk) (disks.faults after)
          → outs ≡ before ++ out.Note (notes.Shut old.acts) ∷ []
          → Did disks old disk new after before outs attempts (around attempts)
      attempt-failed before outs fits core now doubts leaves count rose more = record {
        added = out.Note (notes.Shut old.acts) ∷ [];
        outs_are = more;
        given = shut-given old.acts new.acts acts;
        ends = λ w at agree.
            let o = here w at in
            let store = record w.store { access = Shut doubt } in
            let sees : Sees disks (record old.keeper { shelf = shelves.Shut held.end }) after store = record {
              stands = record { by = (o.stored, tt, doubts w.store.base w.store.commands o.holds); seed = at.store.stands.seed };
              telling = λ stored. tells-on disks disk after telling (at.store.telling stored);
            } in
            subst (λ (b : Bool). Ends disks new after (out.Note (notes.Shut old.acts) ∷ []) w (attempted b doubt quiet (λ v. quiet (record v { store = record v.store { commands = grown v.store.commands } })) w)) (sym (breaks w at agree))
            (record {
              at = record {
                routing = core ∙ ap clients_alone at.routing;
                limited = ap (λ (k : Keeper). k.limits) now ∙ at.limited;
                acts = acts ∙ ap (λ (k : ℕ). k + 1) at.acts;
                store = subst (λ (k : Keeper). Sees disks k after store) (sym now) sees;
              };
              outs = ap (λ (k : ℕ). out.Note (notes.Shut k) ∷ []) (sym at.acts);
              notes = refl;
            });
        crash = λ w at agree. attempt-goes fits leaves w at;
        count = (count, rose);
        silent = silent-before disks disk after telling;
        plain = λ absent. absurd (let no : shelves.Absent ≡ shelves.Open held = sym absent ∙ is in cc no);
      }

-- ---- what is asked on every disk

module _ {D : Type 0} (disks : Ghosts D) (keeper new : Keeper) (held : StoreValue) (disk after : D) (is : keeper.shelf ≡ shelves.Open held) (sound : IsSound disks keeper disk) where
  pub sound-done : (next : StoreValue) → new ≡ record keeper { shelf = shelves.Open next } → next.limits ≡ held.limits → IsHeld disks next after → IsSound disks new after
  sound-done next now limits held_after =
      let o = opens-on disks keeper.limits keeper.shelf held disk sound.0 is sound.1.by in
      subst (λ (k : Keeper). IsSound disks k after) (sym now) (
        record { stored = true; seed = keeper.seed; base = held_after.0; commands = held_after.1; access = Open },
        record { by = (limits ∙ o.limited, refl, refl, held_after.2); seed = λ stored. refl },
      )

  pub sound-failed : (doubt : Option TicketCmd) → new ≡ record keeper { shelf = shelves.Shut held.end } → Doubts disks (doubted (Shut doubt)) held disk after → IsSound disks new after
  sound-failed doubt now doubts =
      let o = opens-on disks keeper.limits keeper.shelf held disk sound.0 is sound.1.by in
      subst (λ (k : Keeper). IsSound disks k after) (sym now) (
        record sound.0 { access = Shut doubt },
        record { by = (o.stored, tt, doubts sound.0.base sound.0.commands o.holds); seed = sound.1.seed },
      )
