-- An append, and the reading of a body.
use Rattle.std.proofs.Common.{◌≡◌, ◌+◌, ◌≤◌, List, [], ◌∷◌, ◌++◌, None, Some, is_some, refl}
use Rattle.std.proofs.lemmas.List.{append-nil}
use Rattle.mj_base.specs.Rising.{Rose}
use Rattle.mj_base.specs.declared.event.Note.TheVariants as notes
use Rattle.mj_base.specs.declared.event.Out.{Out}
use Rattle.mj_base.specs.declared.event.Out.TheVariants as out
use Rattle.mj_disk.specs.declared.disk.Disk.{Ghosts}
use Rattle.mj_tickets.specs.declared.command.TicketCmd.{TicketCmd}
use Rattle.mj_store.specs.Standing.{Adds, Doubts, Keeps, LeavesWithOrWithout, StoreValue}
use Rattle.mj_machine.specs.Acts.{quiet}
use Rattle.mj_machine.specs.DiskActs.{appending, clients_alone, reading}
use Rattle.mj_titanic.specs.declared.fault.ActFault.{ActFault}
use Rattle.mj_keeper.specs.declared.keeper.Shelf.TheVariants as shelves
use Rattle.mj_titanic.specs.Acting.{Did, IsActFault, IsRefused, Parts, Stopped, around}
use Rattle.mj_titanic.proofs.Attempts.{attempt-did, attempt-failed, attempt-stopped}

module _ {D : Type 0} (disks : Ghosts D) (cmd : TicketCmd) (old : Parts) (held : StoreValue) (disk after : D) (is : old.keeper.shelf ≡ shelves.Open held)
    (leaves : LeavesWithOrWithout disks (cmd ∷ []) held disk after) (count : disks.faults disk ≤ disks.faults after) where
  pub append-stopped : (fault : ActFault) → IsActFault fault → (IsRefused fault → disks.told disk ≡ None) → Stopped disks fault old disk after (around (appending cmd quiet quiet))
  append-stopped fault kind refused = attempt-stopped (Some cmd) (λ cs. cs ++ cmd ∷ []) disks old held disk after is (λ cs. refl) leaves count fault kind refused

  pub append-did : (new : Parts) (next : StoreValue) (before outs : List Out) → new.acts ≡ old.acts + 1 → is_some (disks.told after) ≡ is_some (disks.told disk) → new.core ≡ old.core
      → new.keeper ≡ record old.keeper { shelf = shelves.Open next } → next.limits ≡ held.limits → Adds disks cmd held disk next after → outs ≡ before
      → Did disks old disk new after before outs (appending cmd quiet quiet) (around (appending cmd quiet quiet))
  append-did new next before outs acts telling core now limits adds same =
      attempt-did (Some cmd) (λ cs. cs ++ cmd ∷ []) disks old held disk after is new acts telling next before outs (λ cs. refl) core now limits adds leaves count same

  pub append-failed : (new : Parts) (before outs : List Out) → new.acts ≡ old.acts + 1 → is_some (disks.told after) ≡ is_some (disks.told disk) → new.core ≡ clients_alone old.core
      → new.keeper ≡ record old.keeper { shelf = shelves.Shut held.end } → Doubts disks (cmd ∷ []) held disk after → Rose (disks.faults disk) (disks.faults after)
      → outs ≡ before ++ out.Note (notes.Shut old.acts) ∷ []
      → Did disks old disk new after before outs (appending cmd quiet quiet) (around (appending cmd quiet quiet))
  append-failed new before outs acts telling core now doubts rose more =
      attempt-failed (Some cmd) (λ cs. cs ++ cmd ∷ []) disks old held disk after is new acts telling before outs (λ cs. refl) core now doubts leaves count rose more

module _ {D : Type 0} (disks : Ghosts D) (old : Parts) (held : StoreValue) (disk after : D) (is : old.keeper.shelf ≡ shelves.Open held)
    (leaves : LeavesWithOrWithout disks [] held disk after) (count : disks.faults disk ≤ disks.faults after) where
  pub read-stopped : (fault : ActFault) → IsActFault fault → (IsRefused fault → disks.told disk ≡ None) → Stopped disks fault old disk after (around (reading quiet quiet))
  read-stopped fault kind refused = attempt-stopped None (λ cs. cs) disks old held disk after is append-nil leaves count fault kind refused

  pub read-did : (new : Parts) (next : StoreValue) (before outs : List Out) → new.acts ≡ old.acts + 1 → is_some (disks.told after) ≡ is_some (disks.told disk) → new.core ≡ old.core
      → new.keeper ≡ record old.keeper { shelf = shelves.Open next } → next.limits ≡ held.limits → Keeps disks held disk next after → outs ≡ before
      → Did disks old disk new after before outs (reading quiet quiet) (around (reading quiet quiet))
  read-did new next before outs acts telling core now limits keeps same =
      attempt-did None (λ cs. cs) disks old held disk after is new acts telling next before outs append-nil core now limits keeps leaves count same

  pub read-failed : (new : Parts) (before outs : List Out) → new.acts ≡ old.acts + 1 → is_some (disks.told after) ≡ is_some (disks.told disk) → new.core ≡ clients_alone old.core
      → new.keeper ≡ record old.keeper { shelf = shelves.Shut held.end } → Doubts disks [] held disk after → Rose (disks.faults disk) (disks.faults after)
      → outs ≡ before ++ out.Note (notes.Shut old.acts) ∷ []
      → Did disks old disk new after before outs (reading quiet quiet) (around (reading quiet quiet))
  read-failed new before outs acts telling core now doubts rose more =
      attempt-failed None (λ cs. cs) disks old held disk after is new acts telling before outs append-nil core now doubts leaves count rose more
