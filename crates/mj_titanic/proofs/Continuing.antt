-- What follows an act on the disk, by whether the store is open behind it.
use Rattle.std.proofs.Common.{◌≡◌, ℕ, Bool, true, false, List, Option, None, Some, refl, sym, ap, inl, inr, subst}
use Rattle.std.proofs.lemmas.List.{append-nil}
use Rattle.mj_tickets.specs.declared.command.TicketCmd.{TicketCmd}
use Rattle.mj_store.specs.Commands.{OpensFor}
use Rattle.mj_machine.specs.StoreState.{Access, IsShut, Open, Shut, usable}
use Rattle.mj_machine.specs.MachineState.{Act, Whole}
use Rattle.mj_machine.specs.Acts.{quiet, ◌then◌}
use Rattle.mj_machine.specs.DiskActs.{appended, appending, attempted, counted, fails, finds, found_in, opening, opening_again, opening_by, reading, reopened, with_found}
use Rattle.mj_keeper.specs.Standing.{MayLeave}

abbrev pub after_by : Access → Act → Act → Act
after_by Open failed done v = done v
after_by (Shut doubt) failed done v = failed v

abbrev pub after : Act → Act → Act
after failed done v = after_by v.store.access failed done v

pub after-open : (failed done : Act) (v : Whole) → v.store.access ≡ usable → after failed done v ≡ done v
after-open failed done v is = ap (λ (a : Access). after_by a failed done v) is

pub after-shut : (failed done : Act) (v : Whole) → IsShut v.store.access → after failed done v ≡ failed v
after-shut failed done v = by v.store.access
  where
    by : (a : Access) → IsShut a → after_by a failed done v ≡ failed v
    by Open shut = absurd shut
    by (Shut doubt) shut = refl

-- ---- an attempt

attempted-after : (b : Bool) (doubt : Option TicketCmd) (grown : Whole → Whole) (failed done : Act) (w : Whole) → (grown (counted w)).store.access ≡ usable
    → attempted b doubt failed (λ v. done (grown v)) w ≡ (attempted b doubt quiet (λ v. quiet (grown v)) w then after failed done)
attempted-after true doubt grown failed done w ready = refl
attempted-after false doubt grown failed done w ready = sym (after-open failed done (grown (counted w)) ready)

pub appending-after : (cmd : TicketCmd) (failed done : Act) (w : Whole) → w.store.access ≡ usable → appending cmd failed done w ≡ (appending cmd quiet quiet w then after failed done)
appending-after cmd failed done w ready = attempted-after (fails w) (Some cmd) (appended cmd) failed done w ready

pub reading-after : (failed done : Act) (w : Whole) → w.store.access ≡ usable → reading failed done w ≡ (reading quiet quiet w then after failed done)
reading-after failed done w ready = attempted-after (fails w) None (λ v. v) failed done w ready

-- ---- an opening again

again-after : (b : Bool) (doubt : Option TicketCmd) (failed done : Act) (w : Whole) → opening_again b doubt failed done w ≡ (opening_again b doubt quiet quiet w then after failed done)
again-after true doubt failed done w = refl
again-after false doubt failed done w = refl

pub opening-after : (failed done : Act) (w : Whole) → opening failed done w ≡ (opening quiet quiet w then after failed done)
opening-after failed done w = by w.store.access refl
  where
    by : (a : Access) → w.store.access ≡ a → opening_by a failed done w ≡ (opening_by a quiet quiet w then after failed done)
    by Open ready = sym (after-open failed done w ready)
    by (Shut doubt) shut = again-after (fails w) doubt failed done w

-- a file that may be left behind it may be left in front of it
module _ (w : Whole) (image : List ℕ) where
  found-leaves : (found : Bool) (doubt : Option TicketCmd) → w.store.access ≡ Shut doubt → MayLeave (reopened (found_in found doubt) w.store) image → MayLeave w.store image
  found-leaves found doubt shut leaves = subst (λ (a : Access). MayLeave (record w.store { access = a }) image) (sym shut) (by found doubt (plain leaves))
    where
      plain : MayLeave (reopened (found_in found doubt) w.store) image → OpensFor w.store.base (with_found (found_in found doubt) w.store.commands) image
      plain (inl opens) = opens
      plain (inr opens) = subst (λ (cs : List TicketCmd). OpensFor w.store.base cs image) (append-nil (with_found (found_in found doubt) w.store.commands)) opens

      by : (found : Bool) (doubt : Option TicketCmd) → OpensFor w.store.base (with_found (found_in found doubt) w.store.commands) image → MayLeave (record w.store { access = Shut doubt }) image
      by true None opens = inl opens
      by true (Some cmd) opens = inr opens
      by false None opens = inl opens
      by false (Some cmd) opens = inl opens

  pub opening-leaves : MayLeave (opening quiet quiet w).0.store image → MayLeave w.store image
  opening-leaves = by w.store.access refl
    where
      again : (b : Bool) (doubt : Option TicketCmd) → w.store.access ≡ Shut doubt → MayLeave (opening_again b doubt quiet quiet w).0.store image → MayLeave w.store image
      again true doubt shut leaves = subst (λ (a : Access). MayLeave (record w.store { access = a }) image) (sym shut) leaves
      again false doubt shut leaves = found-leaves (finds w) doubt shut leaves

      by : (a : Access) → w.store.access ≡ a → MayLeave (opening_by a quiet quiet w).0.store image → MayLeave w.store image
      by Open ready leaves = leaves
      by (Shut doubt) shut leaves = again (fails w) doubt shut leaves

-- ---- the store behind an act

-- it leaves the store as it is
abbrev pub KeepsStore : Act → Type 0
KeepsStore act = (v : Whole) → (act v).0.store ≡ v.store

pub after-keeps : (failed done : Act) → KeepsStore failed → KeepsStore done → KeepsStore (after failed done)
after-keeps failed done one two v = by v.store.access
  where
    by : (a : Access) → (after_by a failed done v).0.store ≡ v.store
    by Open = two v
    by (Shut doubt) = one v
