-- What no method changes of what is routed and of what keeps tickets, on every disk.
use Rattle.std.specs.Prelude.{◌≡◌, true}
use Rattle.mj_keeper.specs.Standing.{is_open}
use Rattle.mj_keeper.specs.declared.keeper.Keeper.{Keeper}
use Rattle.mj_keeper.specs.declared.keeper.Shelf.{Shelf}
use Rattle.mj_routing.specs.Staying.{StaysBeside}
use Rattle.mj_titanic.specs.declared.parts.Parts.{Parts}

-- the shelf alone is another
abbrev pub SameKeeper : Keeper → Keeper → Type 0
SameKeeper old new = new ≡ record old { shelf = new.shelf }

-- the limits, the next number and who isn't connected stay, and no ticket is queued unless the store is open
abbrev pub Onward : Parts → Parts → Type 0
Onward old new = StaysBeside old.keeping.keeper.shelf new.keeping.keeper.shelf old.routing new.routing

-- the same, whatever was queued
abbrev pub FromAny : Parts → Parts → Type 0
FromAny old new = (shelf : Shelf) → StaysBeside shelf new.keeping.keeper.shelf old.routing new.routing

-- where the store is open, whatever was queued
abbrev pub OpenOnward : Parts → Parts → Type 0
OpenOnward old new = is_open old.keeping.keeper.shelf ≡ true → FromAny old new
