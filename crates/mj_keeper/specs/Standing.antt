-- When what keeps tickets and its disk stand for the machine's store, and what a crash may leave of it.
use Rattle.std.specs.Prelude.{ℕ, ◌≡◌, ◌⊎◌, Bool, true, false, List, [], ◌∷◌, ◌++◌, Option, None, Some}
use Rattle.mj_base.specs.declared.limits.Limits.{Limits}
use Rattle.mj_disk.specs.DiskModel.{History, LeavesOnly}
use Rattle.mj_disk.specs.declared.disk.Disk.{Ghosts}
use Rattle.mj_machine.specs.StoreState.{IsShut, Store, Told, doubted, pends, ticket_body, tickets_of, usable}
use Rattle.mj_store.specs.Commands.{OpensFor}
use Rattle.mj_store.specs.Standing.{Holds, IsInDoubt, IsTelling, StoreValue}
use Rattle.mj_tickets.specs.Fold.{Ticket, ticket_of}
use Rattle.mj_keeper.specs.declared.keeper.Keeper.{Keeper}
use Rattle.mj_keeper.specs.declared.keeper.Shelf.{Shelf}
use Rattle.mj_keeper.specs.declared.keeper.Shelf.TheVariants as shelves

-- ---- the shelf

-- what is told of the store
abbrev pub told_on : Shelf → Told
told_on shelves.Absent = record { stored = false; pends = λ n. false }
told_on (shelves.Open held) = record { stored = true; pends = λ n. pends n held.index }
told_on (shelves.Shut end) = record { stored = true; pends = λ n. false }

abbrev pub is_open : Shelf → Bool
is_open shelves.Absent = false
is_open (shelves.Open held) = true
is_open (shelves.Shut end) = false

-- it is open, and has this of its tickets
abbrev pub IsOpenWith : (StoreValue → Type 0) → Shelf → Type 0
IsOpenWith P shelves.Absent = ⊥
IsOpenWith P (shelves.Open held) = P held
IsOpenWith P (shelves.Shut end) = ⊥

-- ---- the machine's store

-- without a store the disk is settled; an open one holds the machine's commands; of one that is shut the disk holds them
-- with the doubt or without it
abbrev pub StandsBy : {D : Type 0} → Ghosts D → Limits → Shelf → D → Store → Type 0
StandsBy disks limits shelves.Absent disk store = disks.settled_now disk × (store.stored ≡ false) × (store.commands ≡ []) × (store.access ≡ usable)
StandsBy disks limits (shelves.Open held) disk store =
    (held.limits ≡ limits) × (store.stored ≡ true) × (store.access ≡ usable) × Holds disks store.base store.commands held disk
StandsBy disks limits (shelves.Shut end) disk store =
    (store.stored ≡ true) × IsShut store.access × IsInDoubt disks store.base store.commands (doubted store.access) end disk

pub record Stands {D : Type 0} (disks : Ghosts D) (keeper : Keeper) (disk : D) (store : Store) : Type 0 where
  pub by : StandsBy disks keeper.limits keeper.shelf disk store
  pub seed : store.stored ≡ true → keeper.seed ≡ store.seed

-- for some store: what is asked on every disk
abbrev pub IsSound : {D : Type 0} → Ghosts D → Keeper → D → Type 0
IsSound disks keeper disk = (store : Store) × Stands disks keeper disk store

-- with a store the disk tells what it holds
pub record Sees {D : Type 0} (disks : Ghosts D) (keeper : Keeper) (disk : D) (store : Store) : Type 0 where
  pub stands : Stands disks keeper disk store
  pub telling : store.stored ≡ true → IsTelling disks disk

-- a piece may be put: all is synced, or a call has failed since the last good sync
abbrev pub MayPut : {D : Type 0} → Ghosts D → D → Type 0
MayPut disks disk = disks.settled_now disk ⊎ (disks.failed disk ≡ true)

-- ---- crashes

-- the image opens as the store's commands, or as those with the one in doubt
abbrev pub MayLeave : Store → List ℕ → Type 0
MayLeave store image = OpensFor store.base store.commands image ⊎ OpensFor store.base (store.commands ++ doubted store.access) image

abbrev pub IsOneOf : List Store → List ℕ → Type 0
IsOneOf [] image = ⊥
IsOneOf (store ∷ stores) image = MayLeave store image ⊎ IsOneOf stores image

-- what each image since an earlier start is one of, each image is one of still, or of these
abbrev pub GoesOn : {D : Type 0} → Ghosts D → D → D → List Store → Type 0
GoesOn {D} disks disk after stores =
    (start : ℕ) (before : Option History) (all : List Store) → LeavesOnly (start, disks.time disk) before (disks.told disk) (IsOneOf all)
    → LeavesOnly (start, disks.time after) before (disks.told after) (IsOneOf (all ++ stores))

-- ---- bodies

-- the body of the machine's open ticket of this number, where the disk tells
abbrev pub IsTicketBody : {D : Type 0} → Ghosts D → ℕ → Keeper → D → List (List ℕ) → Type 0
IsTicketBody disks number keeper disk frames = (store : Store) → Sees disks keeper disk store → frames ≡ ticket_body number store

abbrev pub reply_of : Option (Ticket (List (List ℕ))) → Option (List (List ℕ))
reply_of None = None
reply_of (Some ticket) = ticket.reply

-- its stored reply
abbrev pub IsTicketReply : {D : Type 0} → Ghosts D → ℕ → Keeper → D → List (List ℕ) → Type 0
IsTicketReply disks number keeper disk frames = (store : Store) → Sees disks keeper disk store → Some frames ≡ reply_of (ticket_of number (tickets_of store))
