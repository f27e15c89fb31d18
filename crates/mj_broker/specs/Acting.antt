-- What a part of an event does, and what the next part asks.
use Rattle.std.specs.Prelude.{ℕ, ◌≡◌, Bool, List, [], ◌∷◌, Option, None}
use Rattle.mj_base.specs.declared.event.Out.{Out}
use Rattle.mj_disk.specs.declared.disk.Disk.{Ghosts}
use Rattle.mj_queue.specs.declared.request.Request.{Request}
use Rattle.mj_queue.specs.declared.request.Origin.{Origin}
use Rattle.mj_queue.specs.declared.request.Origin.TheVariants as origins
use Rattle.mj_tickets.specs.Fold.{ticket_of}
use Rattle.mj_wire.specs.declared.item.WireItem.{WireItem}
use Rattle.mj_machine.specs.Acts.{each, quiet, ◌then◌}
use Rattle.mj_machine.specs.EventStep.{Happening}
use Rattle.mj_machine.specs.Steps.{gain_steps, happening_steps, item_steps, stores_in}
use Rattle.mj_machine.specs.DiskActs.{routes}
use Rattle.mj_machine.specs.MachineState.{Act, Whole}
use Rattle.mj_machine.specs.MessageStep.{as_client, delivers, marked, rests}
use Rattle.mj_machine.specs.TitanicStep.{serves, titanic_of}
use Rattle.mj_machine.specs.StoreState.{Store}
use Rattle.mj_keeper.specs.Standing.{IsSound}
use Rattle.mj_keeper.specs.declared.keeper.Shelf.{Shelf}
use Rattle.mj_keeper.specs.declared.keeper.Shelf.TheVariants as shelves
use Rattle.mj_routing.specs.Staying.{StaysBeside}
use Rattle.mj_titanic.specs.Acting.{Did, seen}
use Rattle.mj_titanic.specs.declared.parts.Parts.{Parts}

-- an act of the machine was done, and what keeps tickets and the disk stand for one still
pub record Acted {D : Type 0} (disks : Ghosts D) (old : Parts) (disk : D) (new : Parts) (after : D) (before outs : List Out) (act : Act) (stores : Whole → List Store) : Type 0 where
  pub did : Did disks (seen old) disk (seen new) after before outs act stores
  pub sound : IsSound disks new.keeping.keeper after
  pub stays : StaysBeside old.keeping.keeper.shelf new.keeping.keeper.shelf old.routing new.routing

-- a worker was heard
abbrev pub hears : ℕ → Act
hears n w = quiet (marked n w)

-- it has asked
abbrev pub turns_client : ℕ → Act
turns_client n w = quiet (as_client n w)

-- one that has asked is served by Titanic
abbrev pub serves_client : ℕ → Request → Act
serves_client n request w = serves (titanic_of request.service) n request (as_client n w)

-- a reply that counts
abbrev pub takes_reply : ℕ → List ℕ → Bool → Request → List (List ℕ) → Act
takes_reply n service last request body w = delivers last request body (marked n w) then routes (rests last n service)

-- the store in front of it
abbrev pub as_it_is : Whole → List Store
as_it_is w = w.store ∷ []

-- this is no open ticket's number
abbrev pub IsNotOpen : ℕ → Shelf → Type 0
IsNotOpen n shelves.Absent = Unit {0}
IsNotOpen n (shelves.Open held) = ticket_of n held.index ≡ None
IsNotOpen n (shelves.Shut end) = Unit {0}

abbrev pub IsOfClient : Origin → Type 0
IsOfClient (origins.Client n) = Unit {0}
IsOfClient (origins.Ticket n) = ⊥

-- the stores around the steps of an item, of items, and of what happens
abbrev pub around_item : ℕ → WireItem → Whole → List Store
around_item n item w = stores_in (item_steps n item w).1

abbrev pub stores_each : ℕ → List WireItem → Whole → List Store
stores_each n items w = stores_in (each (item_steps n) items w).1

abbrev pub stores_around : Option ℕ → List WireItem → Whole → List Store
stores_around found items w = stores_in (gain_steps found items w).1

abbrev pub stores_while : Happening → Whole → List Store
stores_while h w = w.store ∷ stores_in (happening_steps h w).1
