-- What is told by the machine's store is told on the shelf.
use Rattle.std.proofs.Common.{◌≡◌, ℕ, Bool, true, false, List, sym, ap, subst, refl, ◌∙◌}
use Rattle.std.proofs.Math.Path.{fun_ext}
use Rattle.mj_base.specs.declared.limits.Limits.{Limits}
use Rattle.mj_disk.specs.declared.disk.Disk.{Ghosts}
use Rattle.mj_tickets.specs.declared.command.TicketCmd.{TicketCmd}
use Rattle.mj_machine.specs.StoreState.{Access, IsShut, Open, Shut, Store, Told, pends, pends_while, tickets_of, told_by, usable}
use Rattle.mj_keeper.specs.declared.keeper.Keeper.{Keeper}
use Rattle.mj_keeper.specs.declared.keeper.Shelf.{Shelf}
use Rattle.mj_keeper.specs.declared.keeper.Shelf.TheVariants as shelves
use Rattle.mj_keeper.specs.Standing.{StandsBy, Stands, told_on}
use Rattle.mj_titanic.proofs.Alike.{pends-alike}

same-told : (stored : Bool) (some other : ℕ → Bool) → ((n : ℕ) → some n ≡ other n) → ◌≡◌ {A = Told} (record { stored = stored; pends = some }) (record { stored = stored; pends = other })
same-told stored some other same = ap (λ (p : ℕ → Bool). record { stored = stored; pends = p }) (fun_ext same)

told-as : (store : Store) (stored : Bool) (some : ℕ → Bool) → store.stored ≡ stored → ((n : ℕ) → pends_while store.access (tickets_of store) n ≡ some n) → told_by store ≡ record { stored = stored; pends = some }
told-as store stored some is same =
    ap (λ (b : Bool). record { stored = b; pends = pends_while store.access (tickets_of store) }) is
    ∙ same-told stored (pends_while store.access (tickets_of store)) some same

while-shut : (store : Store) (n : ℕ) (access : Access) → IsShut access → pends_while access (tickets_of store) n ≡ false
while-shut store n Open shut = absurd shut
while-shut store n (Shut doubt) shut = refl

module _ {D : Type 0} (disks : Ghosts D) (limits : Limits) (disk : D) (store : Store) where
  told-by : (shelf : Shelf) → StandsBy disks limits shelf disk store → told_by store ≡ told_on shelf
  told-by shelves.Absent by =
      told-as store false (λ n. false) by.1
      (λ n. ap (λ (a : Access). pends_while a (tickets_of store) n) by.3 ∙ ap (λ (cs : List TicketCmd). pends_while usable (tickets_of (record store { commands = cs })) n) by.2)
  told-by (shelves.Open held) by =
      told-as store true (λ n. pends n held.index) by.1
      (λ n. ap (λ (a : Access). pends_while a (tickets_of store) n) by.2 ∙ sym (pends-alike store held.index by.3.knows.index_is n))
  told-by (shelves.Shut end) by = told-as store true (λ n. false) by.0 (λ n. while-shut store n store.access by.1)

  pub told-sees : (keeper : Keeper) → keeper.limits ≡ limits → Stands disks keeper disk store → told_by store ≡ told_on keeper.shelf
  told-sees keeper is stands = told-by keeper.shelf (subst (λ (l : Limits). StandsBy disks l keeper.shelf disk store) is stands.by)
