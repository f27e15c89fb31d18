-- What was done on what is routed, as a part of an event; and two parts in a row.
use Rattle.std.proofs.Common.{◌≡◌, ℕ, Bool, List, [], ◌++◌, Option, None, Some, refl, sym, ap, subst, inl, inr, append-nil, Result, Ok, Err, OnOk}
use Rattle.mj_base.specs.declared.event.Out.{Out}
use Rattle.mj_disk.specs.declared.disk.Disk.{Ghosts}
use Rattle.mj_machine.specs.StoreState.{Store, Told}
use Rattle.mj_machine.specs.MachineState.{Act, Done, State, Whole}
use Rattle.mj_machine.specs.Acts.{quiet, ◌then◌}
use Rattle.mj_machine.specs.DiskActs.{routes}
use Rattle.mj_machine.specs.MessageStep.{rests, says, says_by}
use Rattle.mj_machine.specs.declared.connection.Connection.{Connection}
use Rattle.mj_machine.specs.declared.said.Said.{Said}
use Rattle.mj_routing.specs.Places.{standing_of}
use Rattle.mj_routing.specs.declared.connections.Standing.{Standing}
use Rattle.mj_titanic.proofs.Telling.{told-sees}
use Rattle.mj_keeper.specs.Standing.{IsSound, MayLeave, told_on}
use Rattle.mj_routing.specs.RoutingState.{Does}
use Rattle.mj_routing.specs.Staying.{IsPlain, Stays, StaysBeside}
use Rattle.mj_routing.proofs.PlainLemmas.{beside, beside-then, plain-quiet, stays-same}
use Rattle.mj_titanic.specs.Acting.{Did, IsAt, Stopped, around, nowhere, seen}
use Rattle.mj_titanic.specs.declared.fault.ActFault.{ActFault}
use Rattle.mj_titanic.specs.declared.fault.ActFault.TheVariants.{NoMemory}
use Rattle.mj_titanic.specs.declared.parts.Parts.{Parts}
use Rattle.mj_titanic.proofs.Composing.{did-as, did-nothing, did-stopped, did-then, stopped-still}
use Rattle.mj_titanic.proofs.Continuing.{KeepsStore}
use Rattle.mj_titanic.proofs.Routed.{routed-did}
use Rattle.mj_titanic.proofs.Rowing.{did-among, did-around, did-same, stopped-among, stopped-same}
use Rattle.mj_broker.specs.Acting.{Acted}
use Rattle.mj_broker.specs.BrokerState.{AreAmong}

module _ {D : Type 0} (disks : Ghosts D) where
  module _ (old : Parts) (disk : D) (sound : IsSound disks old.keeping.keeper disk) where
    abbrev told : Told
    told = told_on old.keeping.keeper.shelf

    -- an act on what is routed
    pub lifted : (new : State) (before outs : List Out) (act : Told → State → Done Out) → IsPlain (told_on old.keeping.keeper.shelf) old.routing (act (told_on old.keeping.keeper.shelf) old.routing)
        → Does new before outs (act (told_on old.keeping.keeper.shelf) old.routing)
        → Acted disks old disk (record { routing = new; keeping = old.keeping }) disk before outs (routes act) (around (routes act))
    lifted new before outs act plain does =
        let now : Parts = record { routing = new; keeping = old.keeping } in
        record {
          did = did-around disks (seen old) disk (seen now) disk before outs (routes act)
              (routed-did disks (seen old) (seen now) disk before outs act refl refl does (record { quiet = plain.notes; limits = plain.stays.limits }));
          sound = sound;
          stays = subst (λ (s : State). StaysBeside old.keeping.keeper.shelf old.keeping.keeper.shelf old.routing s) (sym does.state)
              (beside old.keeping.keeper.shelf old.routing (act told old.routing).0 plain.stays);
        }

    -- one that adds nothing
    pub lifted-still : (new : State) (before : List Out) (act : Told → State → State) → Stays (told_on old.keeping.keeper.shelf) old.routing (act (told_on old.keeping.keeper.shelf) old.routing)
        → new ≡ act (told_on old.keeping.keeper.shelf) old.routing
        → Acted disks old disk (record { routing = new; keeping = old.keeping }) disk before before (routes (λ t s. quiet (act t s))) (around (routes (λ t s. quiet (act t s))))
    lifted-still new before act stays is =
        lifted new before before (λ t s. quiet (act t s)) (plain-quiet told old.routing (act told old.routing) stays) (record { state = is; outs = sym (append-nil before) })

    -- nothing
    pub acted-nothing : (before : List Out) (act : Act) → ((w : Whole) → IsAt disks (seen old) disk w → quiet w ≡ act w) → Acted disks old disk old disk before before act (around act)
    acted-nothing before act same = record {
      did = did-among disks (seen old) disk (seen old) disk before before act nowhere (around act)
          (did-as disks (seen old) disk (seen old) disk before before (λ w. (w, [])) act nowhere nowhere (did-nothing disks (seen old) disk before) same (λ w at. refl))
          (λ w at image none. absurd none);
      sound = sound;
      stays = beside old.keeping.keeper.shelf old.routing old.routing (stays-same told old.routing);
    }

  -- another act that is the same where the code is
  pub act-as : (old : Parts) (disk : D) (new : Parts) (after : D) (before outs : List Out) (f g : Act) → ((w : Whole) → IsAt disks (seen old) disk w → f w ≡ g w)
      → Acted disks old disk new after before outs f (around f) → Acted disks old disk new after before outs g (around g)
  act-as old disk new after before outs f g same one = record { did = did-same disks (seen old) disk (seen new) after before outs f g one.did same; sound = one.sound; stays = one.stays }

  pub halt-as : (old : Parts) (disk : D) (fault : ActFault) (after : D) (f g : Act) → ((w : Whole) → IsAt disks (seen old) disk w → f w ≡ g w)
      → Stopped disks fault (seen old) disk after (around f) → Stopped disks fault (seen old) disk after (around g)
  halt-as old disk fault after f g same one = stopped-same disks fault (seen old) disk after f g one same

  pub halted : (old : Parts) (disk : D) (stores : Whole → List Store) → Stopped disks NoMemory (seen old) disk disk stores
  halted old disk stores = stopped-still disks NoMemory (seen old) disk stores tt (λ refused. absurd refused)

  -- ---- two parts, of which one leaves the store

  module _ (f g : Act) (w : Whole) where
    front-among : (f w).0.store ≡ w.store → AreAmong (around f w ++ around g (f w).0) (around (λ v. f v then g) w)
    front-among same image (inl one) = inl one
    front-among same image (inr (inl two)) = inl (subst (λ (s : Store). MayLeave s image) same two)
    front-among same image (inr (inr (inl three))) = inl (subst (λ (s : Store). MayLeave s image) same three)
    front-among same image (inr (inr (inr (inl four)))) = inr (inl four)
    front-among same image (inr (inr (inr (inr none)))) = absurd none

    back-among : (g (f w).0).0.store ≡ (f w).0.store → AreAmong (around f w ++ around g (f w).0) (around (λ v. f v then g) w)
    back-among same image (inl one) = inl one
    back-among same image (inr (inl two)) = inr (inl (subst (λ (s : Store). MayLeave s image) (sym same) two))
    back-among same image (inr (inr (inl three))) = inr (inl (subst (λ (s : Store). MayLeave s image) (sym same) three))
    back-among same image (inr (inr (inr (inl four)))) = inr (inl four)
    back-among same image (inr (inr (inr (inr none)))) = absurd none

    first-front : (f w).0.store ≡ w.store → AreAmong (around f w) (around (λ v. f v then g) w)
    first-front same image (inl one) = inl one
    first-front same image (inr (inl two)) = inl (subst (λ (s : Store). MayLeave s image) same two)
    first-front same image (inr (inr none)) = absurd none

    first-back : (g (f w).0).0.store ≡ (f w).0.store → AreAmong (around f w) (around (λ v. f v then g) w)
    first-back same image (inl one) = inl one
    first-back same image (inr (inl two)) = inr (inl (subst (λ (s : Store). MayLeave s image) (sym same) two))
    first-back same image (inr (inr none)) = absurd none

  module _ (old : Parts) (disk : D) (f g : Act) where
    both-acted : ((w : Whole) → AreAmong (around f w ++ around g (f w).0) (around (λ v. f v then g) w)) → (mid : Parts) (between : D) (new : Parts) (after : D) (before outs_mid outs : List Out)
        → Acted disks old disk mid between before outs_mid f (around f) → Acted disks mid between new after outs_mid outs g (around g)
        → Acted disks old disk new after before outs (λ w. f w then g) (around (λ w. f w then g))
    both-acted among mid between new after before outs_mid outs one two = record {
      did = did-among disks (seen old) disk (seen new) after before outs (λ w. f w then g) (λ w. around f w ++ around g (f w).0) (around (λ w. f w then g))
          (did-then disks (seen old) disk (seen mid) between before outs_mid f (around f) one.did (seen new) after outs g (around g) two.did) (λ w at. among w);
      sound = two.sound;
      stays = beside-then old.keeping.keeper.shelf mid.keeping.keeper.shelf new.keeping.keeper.shelf old.routing mid.routing new.routing one.stays two.stays;
    }

    both-stopped : ((w : Whole) → AreAmong (around f w ++ around g (f w).0) (around (λ v. f v then g) w)) → (mid : Parts) (between : D) (before outs_mid : List Out) (fault : ActFault) (after : D)
        → Acted disks old disk mid between before outs_mid f (around f) → Stopped disks fault (seen mid) between after (around g)
        → Stopped disks fault (seen old) disk after (around (λ w. f w then g))
    both-stopped among mid between before outs_mid fault after one two =
        stopped-among disks fault (seen old) disk after (λ w. around f w ++ around g (f w).0) (around (λ w. f w then g))
        (did-stopped disks (seen old) disk (seen mid) between before outs_mid f (around f) one.did fault after g (around g) two) (λ w at. among w)

    -- the first leaves it
    module _ (keeps : KeepsStore f) where
      pub front : (mid : Parts) (between : D) (new : Parts) (after : D) (before outs_mid outs : List Out)
          → Acted disks old disk mid between before outs_mid f (around f) → Acted disks mid between new after outs_mid outs g (around g)
          → Acted disks old disk new after before outs (λ w. f w then g) (around (λ w. f w then g))
      front mid between new after before outs_mid outs one two = both-acted (λ w. front-among f g w (keeps w)) mid between new after before outs_mid outs one two

      pub front-stopped : (mid : Parts) (between : D) (before outs_mid : List Out) (fault : ActFault) (after : D)
          → Acted disks old disk mid between before outs_mid f (around f) → Stopped disks fault (seen mid) between after (around g)
          → Stopped disks fault (seen old) disk after (around (λ w. f w then g))
      front-stopped mid between before outs_mid fault after one two = both-stopped (λ w. front-among f g w (keeps w)) mid between before outs_mid fault after one two

      pub front-first : (fault : ActFault) (after : D) → Stopped disks fault (seen old) disk after (around f) → Stopped disks fault (seen old) disk after (around (λ w. f w then g))
      front-first fault after one = stopped-among disks fault (seen old) disk after (around f) (around (λ w. f w then g)) one (λ w at. first-front f g w (keeps w))

    -- the second leaves it
    module _ (keeps : KeepsStore g) where
      pub back : (mid : Parts) (between : D) (new : Parts) (after : D) (before outs_mid outs : List Out)
          → Acted disks old disk mid between before outs_mid f (around f) → Acted disks mid between new after outs_mid outs g (around g)
          → Acted disks old disk new after before outs (λ w. f w then g) (around (λ w. f w then g))
      back mid between new after before outs_mid outs one two = both-acted (λ w. back-among f g w (keeps (f w).0)) mid between new after before outs_mid outs one two

      pub back-stopped : (mid : Parts) (between : D) (before outs_mid : List Out) (fault : ActFault) (after : D)
          → Acted disks old disk mid between before outs_mid f (around f) → Stopped disks fault (seen mid) between after (around g)
          → Stopped disks fault (seen old) disk after (around (λ w. f w then g))
      back-stopped mid between before outs_mid fault after one two = both-stopped (λ w. back-among f g w (keeps (f w).0)) mid between before outs_mid fault after one two

      pub back-first : (fault : ActFault) (after : D) → Stopped disks fault (seen old) disk after (around f) → Stopped disks fault (seen old) disk after (around (λ w. f w then g))
      back-first fault after one = stopped-among disks fault (seen old) disk after (around f) (around (λ w. f w then g)) one (λ w at. first-back f g w (keeps (f w).0))

  -- of a call's clauses
  pub acted-ok : (old : Parts) (disk : D) (new : Parts) (after : D) (before outs : List Out) (act : Act) (r : Result (Unit {0}) ActFault) → OnOk r (Did disks (seen old) disk (seen new) after before outs act (around act))
      → OnOk r (IsSound disks new.keeping.keeper after) → OnOk r (StaysBeside old.keeping.keeper.shelf new.keeping.keeper.shelf old.routing new.routing)
      → OnOk r (Acted disks old disk new after before outs act (around act))
  acted-ok old disk new after before outs act (Ok done) did sound stays = record { did = did; sound = sound; stays = stays }
  acted-ok old disk new after before outs act (Err fault) did sound stays = tt

  -- what ended early in an act that leaves the store did so in any act
  pub still-first : (old : Parts) (disk : D) (f whole : Act) → KeepsStore f → (fault : ActFault) (after : D) → Stopped disks fault (seen old) disk after (around f) → Stopped disks fault (seen old) disk after (around whole)
  still-first old disk f whole keeps fault after one = stopped-among disks fault (seen old) disk after (around f) (around whole) one still
    where
      still : (w : Whole) → IsAt disks (seen old) disk w → AreAmong (around f w) (around whole w)
      still w at image (inl here) = inl here
      still w at image (inr (inl there)) = inl (subst (λ (s : Store). MayLeave s image) (keeps w) there)
      still w at image (inr (inr none)) = absurd none

  -- nothing, with no store named
  pub acted-quiet : (old : Parts) (disk : D) (before : List Out) → IsSound disks old.keeping.keeper disk → Acted disks old disk old disk before before (λ w. (w, [])) (λ w. [])
  acted-quiet old disk before sound = record {
    did = did-nothing disks (seen old) disk before;
    sound = sound;
    stays = beside old.keeping.keeper.shelf old.routing old.routing (stays-same (told_on old.keeping.keeper.shelf) old.routing);
  }

  -- whether there is a store
  pub stored-is : (old : Parts) (disk : D) (w : Whole) → IsAt disks (seen old) disk w → w.store.stored ≡ (told_on old.keeping.keeper.shelf).stored
  stored-is old disk w at = ap (λ (t : Told). t.stored) (told-sees disks old.keeping.keeper.limits disk w.store old.keeping.keeper refl at.store.stands)

-- what stands of a connection says what becomes of a message
pub standing-none : (n : ℕ) (found : Option Connection) (said : Said) (w : Whole) → standing_of found ≡ None → quiet w ≡ says_by n found said w
standing-none n None said w e = refl
standing-none n (Some c) said w e = cc

pub standing-some : (n : ℕ) (found : Option Connection) (s : Standing) (said : Said) (w : Whole) → standing_of found ≡ Some s → says s.lane n s.role said w ≡ says_by n found said w
standing-some n None s said w e = cc
standing-some n (Some c) s said w e =
    let is : record { lane = c.lane; role = c.role } ≡ s = cc in
    ap (λ (t : Standing). says t.lane n t.role said w) (sym is)

pub rests-keep : (last : Bool) (n : ℕ) (service : List ℕ) → KeepsStore (routes (rests last n service))
rests-keep last n service w = refl
