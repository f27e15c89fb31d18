-- A row: an act on the disk, and then this or that, by whether the store is open.
use Rattle.std.proofs.Common.{◌≡◌, true, false, List, refl, sym}
use Rattle.mj_base.specs.declared.event.Out.{Out}
use Rattle.mj_disk.specs.declared.disk.Disk.{Ghosts}
use Rattle.mj_tickets.specs.declared.command.TicketCmd.{TicketCmd}
use Rattle.mj_store.specs.Standing.{StoreValue}
use Rattle.mj_machine.specs.MachineState.{Act, Whole}
use Rattle.mj_machine.specs.Acts.{quiet, ◌then◌}
use Rattle.mj_machine.specs.DiskActs.{appending, opening, reading}
use Rattle.mj_keeper.specs.declared.keeper.Shelf.{Shelf}
use Rattle.mj_keeper.specs.declared.keeper.Shelf.TheVariants as shelves
use Rattle.mj_keeper.specs.Standing.{IsOpenWith, is_open, told_on}
use Rattle.mj_titanic.specs.declared.fault.ActFault.{ActFault}
use Rattle.mj_titanic.specs.Acting.{Did, IsAt, Parts, Stopped, around, nowhere}
use Rattle.mj_titanic.proofs.Composing.{did-to}
use Rattle.mj_titanic.proofs.Continuing.{KeepsStore, after, after-keeps, after-open, after-shut, appending-after, reading-after}
use Rattle.mj_titanic.proofs.Rowing.{acted-stopped, acted-then, acted-then-stopped, did-around, opened-then, opened-then-stopped, stopped-around}
use Rattle.mj_titanic.proofs.Routed.{at-open, at-shut}

pub open-is : (P : StoreValue → Type 0) (shelf : Shelf) → IsOpenWith P shelf → is_open shelf ≡ true
open-is P shelves.Absent with_it = absurd with_it
open-is P (shelves.Open held) with_it = refl
open-is P (shelves.Shut end) with_it = absurd with_it

-- its shelf has this open file
pub opened-shelf : (shelf : Shelf) → is_open shelf ≡ true → (held : StoreValue) × (shelf ≡ shelves.Open held)
opened-shelf shelves.Absent is = absurd (cc is)
opened-shelf (shelves.Open held) is = (held, refl)
opened-shelf (shelves.Shut end) is = absurd (cc is)

module _ {D : Type 0} (disks : Ghosts D) (old : Parts) (disk : D) (f failed done whole : Act) (keep_failed : KeepsStore failed) (keep_done : KeepsStore done)
    (are : (w : Whole) → IsAt disks old disk w → whole w ≡ (f w then after failed done)) where
  keeps : KeepsStore (after failed done)
  keeps = after-keeps failed done keep_failed keep_done

  pub then-done : (mid0 mid : Parts) (between : D) (new : Parts) (end : D) (before outs_mid outs : List Out) → mid0 ≡ mid → is_open mid.keeper.shelf ≡ true
      → Did disks old disk mid0 between before outs_mid f (around f) → Did disks mid between new end outs_mid outs done nowhere
      → Did disks old disk new end before outs whole (around whole)
  then-done mid0 mid between new end before outs_mid outs joined open_is one two =
      acted-then disks old disk f (after failed done) whole keeps are mid between new end before outs_mid outs done
      (did-to disks old disk mid0 mid between before outs_mid f (around f) joined one) two
      (λ v at. sym (after-open failed done v (at-open disks mid between v at open_is)))

  pub then-failed : (mid0 mid : Parts) (between : D) (new : Parts) (end : D) (before outs_mid outs : List Out) → mid0 ≡ mid → is_open mid.keeper.shelf ≡ false → (told_on mid.keeper.shelf).stored ≡ true
      → Did disks old disk mid0 between before outs_mid f (around f) → Did disks mid between new end outs_mid outs failed nowhere
      → Did disks old disk new end before outs whole (around whole)
  then-failed mid0 mid between new end before outs_mid outs joined shut_is stored one two =
      acted-then disks old disk f (after failed done) whole keeps are mid between new end before outs_mid outs failed
      (did-to disks old disk mid0 mid between before outs_mid f (around f) joined one) two
      (λ v at. sym (after-shut failed done v (at-shut disks mid between v at shut_is stored)))

  pub then-stopped : (mid0 mid : Parts) (between : D) (before outs_mid : List Out) (fault : ActFault) (end : D) → mid0 ≡ mid
      → Did disks old disk mid0 between before outs_mid f (around f) → Stopped disks fault mid between end nowhere → Stopped disks fault old disk end (around whole)
  then-stopped mid0 mid between before outs_mid fault end joined one two =
      acted-then-stopped disks old disk f (after failed done) whole keeps are mid between before outs_mid fault end
      (did-to disks old disk mid0 mid between before outs_mid f (around f) joined one) two

  pub first-stopped : (fault : ActFault) (end : D) → Stopped disks fault old disk end (around f) → Stopped disks fault old disk end (around whole)
  first-stopped fault end stopped = acted-stopped disks old disk f (after failed done) whole keeps are fault end stopped

-- the two acts that an open store allows
module _ {D : Type 0} (disks : Ghosts D) (old : Parts) (disk : D) (failed done : Act) (open_is : is_open old.keeper.shelf ≡ true) where
  pub appending-are : (cmd : TicketCmd) (w : Whole) → IsAt disks old disk w → appending cmd failed done w ≡ (appending cmd quiet quiet w then after failed done)
  appending-are cmd w at = appending-after cmd failed done w (at-open disks old disk w at open_is)

  pub reading-are : (w : Whole) → IsAt disks old disk w → reading failed done w ≡ (reading quiet quiet w then after failed done)
  reading-are w at = reading-after failed done w (at-open disks old disk w at open_is)

-- ---- an opening again first

module _ {D : Type 0} (disks : Ghosts D) (old : Parts) (disk : D) (failed done : Act) (mid : Parts) (between : D) (before outs_mid : List Out)
    (one : Did disks old disk mid between before outs_mid (opening quiet quiet) (around (opening quiet quiet))) where
  pub again-done : (new : Parts) (end : D) (outs : List Out) → is_open mid.keeper.shelf ≡ true → Did disks mid between new end outs_mid outs done (around done)
      → Did disks old disk new end before outs (opening failed done) (around (opening failed done))
  again-done new end outs open_is two =
      opened-then disks old disk failed done mid between new end before outs_mid outs done one two (λ v at. sym (after-open failed done v (at-open disks mid between v at open_is)))

  pub again-failed : (new : Parts) (end : D) (outs : List Out) → is_open mid.keeper.shelf ≡ false → (told_on mid.keeper.shelf).stored ≡ true → Did disks mid between new end outs_mid outs failed nowhere
      → Did disks old disk new end before outs (opening failed done) (around (opening failed done))
  again-failed new end outs shut_is stored two =
      opened-then disks old disk failed done mid between new end before outs_mid outs failed one (did-around disks mid between new end outs_mid outs failed two)
      (λ v at. sym (after-shut failed done v (at-shut disks mid between v at shut_is stored)))

  pub again-done-stopped : (fault : ActFault) (end : D) → is_open mid.keeper.shelf ≡ true → Stopped disks fault mid between end (around done) → Stopped disks fault old disk end (around (opening failed done))
  again-done-stopped fault end open_is two =
      opened-then-stopped disks old disk failed done mid between before outs_mid fault end done one two (λ v at. sym (after-open failed done v (at-open disks mid between v at open_is)))

  pub again-failed-stopped : (fault : ActFault) (end : D) → is_open mid.keeper.shelf ≡ false → (told_on mid.keeper.shelf).stored ≡ true → Stopped disks fault mid between end nowhere
      → Stopped disks fault old disk end (around (opening failed done))
  again-failed-stopped fault end shut_is stored two =
      opened-then-stopped disks old disk failed done mid between before outs_mid fault end failed one (stopped-around disks fault mid between end failed two)
      (λ v at. sym (after-shut failed done v (at-shut disks mid between v at shut_is stored)))
