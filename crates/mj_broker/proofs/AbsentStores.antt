-- Without a store no reply is stored.
use Rattle.std.proofs.Common.{◌≡◌, ℕ, false, List, sym, ap, ◌∙◌}
use Rattle.mj_disk.specs.declared.disk.Disk.{Ghosts}
use Rattle.mj_tickets.specs.declared.command.TicketCmd.{TicketCmd}
use Rattle.mj_machine.specs.StoreState.{Access, pends, tickets_of}
use Rattle.mj_machine.specs.MachineState.{Whole}
use Rattle.mj_machine.specs.Acts.{quiet}
use Rattle.mj_machine.specs.DiskActs.{opening_by}
use Rattle.mj_machine.specs.TitanicStep.{stores, stores_by}
use Rattle.mj_keeper.specs.Standing.{Sees, StandsBy, told_on}
use Rattle.mj_keeper.specs.declared.keeper.Keeper.{Keeper}
use Rattle.mj_keeper.specs.declared.keeper.Shelf.{Shelf}
use Rattle.mj_keeper.specs.declared.keeper.Shelf.TheVariants as shelves

pub stores-nothing : {D : Type 0} (disks : Ghosts D) (n : ℕ) (body : List (List ℕ)) (keeper : Keeper) (disk : D) (w : Whole) → (told_on keeper.shelf).stored ≡ false → Sees disks keeper disk w.store → quiet w ≡ stores n body w
stores-nothing disks n body keeper disk w none sees = by keeper.shelf none sees.stands.by
  where
    by : (shelf : Shelf) → (told_on shelf).stored ≡ false → StandsBy disks keeper.limits shelf disk w.store → quiet w ≡ stores n body w
    by shelves.Absent none stands =
        sym (ap (λ (a : Access). opening_by a quiet (λ v. stores_by (pends n (tickets_of v.store)) n body v) w) stands.3
        ∙ ap (λ (cs : List TicketCmd). stores_by (pends n (tickets_of (record w.store { commands = cs }))) n body w) stands.2)
    by (shelves.Open held) none stands = cc none
    by (shelves.Shut end) none stands = cc none
