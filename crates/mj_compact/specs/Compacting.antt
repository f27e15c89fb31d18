-- What a compaction makes of two disks.
use Rattle.std.specs.Prelude.{◌≡◌, ◌⊎◌, ℕ, ◌<◌, ◌≤◌, ◌^◌, Bool, false, is_some, List, [], ◌++◌, length, Some}
use Rattle.mj_base.specs.Rising.{Rose}
use Rattle.mj_ids.specs.Ids.{number_of}
use Rattle.mj_disk.specs.Content.{Content, settled}
use Rattle.mj_disk.specs.DiskModel.{History, LeavesOn, LeavesOnly, Now}
use Rattle.mj_disk.specs.declared.disk.Disk.{Ghosts}
use Rattle.mj_journal.specs.declared.fault.OpenFault.{OpenFault}
use Rattle.mj_journal.specs.declared.fault.OpenFault.TheVariants as open_faults
use Rattle.mj_journal.specs.declared.making.Making.{Making}
use Rattle.mj_journal.specs.FileText.{Opens}
use Rattle.mj_journal.specs.Making.{IsFinished, IsMade, IsMaking, IsUnfinished, IsUnfinishedOrWhole}
use Rattle.mj_tickets.specs.declared.command.TicketCmd.{TicketCmd}
use Rattle.mj_tickets.specs.declared.command.TicketCmd.TheVariants.{Accept, Store as StoreReply}
use Rattle.mj_tickets.specs.declared.place.Place.{Place}
use Rattle.mj_tickets.specs.Payload.{Fits}
use Rattle.mj_tickets.specs.Fold.{Fold, Ticket, fold_of, open_above, ticket_of}
use Rattle.mj_store.specs.Commands.{IsLawful, payloads_of}
use Rattle.mj_store.specs.Opening.{IsRefusal, IsUnopened}
use Rattle.mj_store.specs.Standing.{Holds, IsTelling, StoreValue}
use Rattle.mj_compact.specs.Kept.{LeavesTickets, kept, kept_reply, kept_ticket, kept_upto, upto}
use Rattle.mj_compact.specs.declared.fault.CompactFault.{CompactFault}
use Rattle.mj_compact.specs.declared.fault.CompactFault.TheVariants.{Unopened, Numbers, NotEmpty, Damaged, NoMemory, DiskFault}

-- the bytes open as a lawful list, which leaves these tickets
pub record HasTickets (base : ℕ) (cmds : List TicketCmd) (f : Fold (List (List ℕ))) (octets : List ℕ) : Type 0 where
  pub lawful : IsLawful base cmds
  pub opens : Opens base (payloads_of cmds) octets
  pub leaves : fold_of base cmds ≡ Some f

-- the new file is settled, and is the whole store of the commands that make the old tickets anew, with the old next number as
-- its base; it is no longer than the old one
pub record IsCompacted (f : Fold (List (List ℕ))) (old held : Content) : Type 0 where
  pub finished : IsFinished f.next (payloads_of (kept f)) held
  pub lawful : IsLawful f.next (kept f)
  pub leaves : LeavesTickets f (kept f)
  pub shorter : length held.octets ≤ length old.octets

-- the old disk tells, and opens as commands that leave these tickets
abbrev pub OldHas : {D : Type 0} → Ghosts D → D → Fold (List (List ℕ)) → Type 0
OldHas disks old f = (history : History) × (disks.told old ≡ Some history) × ((base : ℕ) × (cmds : List TicketCmd) × HasTickets base cmds f history.now.octets)

-- they were counted, and the new file was made of them
abbrev pub Compacts : {D E : Type 0} → Ghosts D → Ghosts E → D → D → E → ℕ → Type 0
Compacts olds news old old_after new_after count =
    (f : Fold (List (List ℕ))) → OldHas olds old f
    → (count ≡ length f.tickets) × ((after : History) → olds.told old_after ≡ Some after → Now (news.told new_after) (IsCompacted f after.now))

-- of an empty settled disk each image since the start is no store, or the whole one
abbrev pub LeavesWholeOrNone : {D E : Type 0} → Ghosts D → Ghosts E → D → E → E → Type 0
LeavesWholeOrNone olds news old new after =
    (f : Fold (List (List ℕ))) → OldHas olds old f → Now (news.told new) (λ held. held ≡ settled [])
    → LeavesOnly (news.time new, news.time after) (news.told new) (news.told after) (IsUnfinishedOrWhole f.next (payloads_of (kept f)))

-- a disk's failure comes only where the count of one of the disks rose
abbrev pub HasCause : ℕ → ℕ → ℕ → ℕ → CompactFault → Type 0
HasCause old old_after new new_after fault = fault ≡ DiskFault → Rose old old_after ⊎ Rose new new_after

-- a fault of the copying itself
abbrev pub IsOfCopying : CompactFault → Type 0
IsOfCopying (Unopened fault) = ⊥
IsOfCopying Numbers = ⊥
IsOfCopying NotEmpty = ⊥
IsOfCopying (Damaged at) = Unit {0}
IsOfCopying NoMemory = Unit {0}
IsOfCopying DiskFault = Unit {0}

abbrev pub IsDamage : CompactFault → Type 0
IsDamage (Unopened fault) = ⊥
IsDamage Numbers = ⊥
IsDamage NotEmpty = ⊥
IsDamage (Damaged at) = Unit {0}
IsDamage NoMemory = ⊥
IsDamage DiskFault = ⊥

-- a fault of an opening
abbrev pub fault_of : OpenFault → CompactFault
fault_of open_faults.NotAStore = Unopened open_faults.NotAStore
fault_of (open_faults.Version version) = Unopened (open_faults.Version version)
fault_of (open_faults.Damaged at) = Unopened (open_faults.Damaged at)
fault_of open_faults.DiskFault = DiskFault
fault_of open_faults.NoMemory = NoMemory

-- why it wasn't done; want of memory says nothing. For what is in the old file the new one is neither opened nor made
abbrev pub IsWhy : {D E : Type 0} → Ghosts D → Ghosts E → D → D → E → E → CompactFault → Type 0
IsWhy olds news old old_after new new_after (Unopened fault) = (new_after ≡ new) × IsRefusal fault × IsUnopened fault (olds.told old) (olds.told old_after)
IsWhy olds news old old_after new new_after Numbers = (new_after ≡ new) × ((f : Fold (List (List ℕ))) → OldHas olds old f → 2 ^ 61 < f.next)
IsWhy olds news old old_after new new_after NotEmpty = Now (news.told new) (λ held. 0 < length held.octets)
IsWhy olds news old old_after new new_after (Damaged at) = IsTelling olds old → ⊥
IsWhy olds news old old_after new new_after NoMemory = Unit {0}
IsWhy olds news old old_after new new_after DiskFault = Rose (olds.faults old) (olds.faults old_after) ⊎ Rose (news.faults new) (news.faults new_after)

-- ---- on the way

-- memory and the old disk stand for a list that leaves these tickets, and the disk tells
pub record IsOf {D : Type 0} (disks : Ghosts D) (store : StoreValue) (disk : D) (f : Fold (List (List ℕ))) : Type 0 where
  pub telling : IsTelling disks disk
  pub base : ℕ
  pub cmds : List TicketCmd
  pub holds : Holds disks base cmds store disk
  pub leaves : fold_of base cmds ≡ Some f

-- the old disk wasn't written
pub record Reads {D : Type 0} (disks : Ghosts D) (disk : D) (after : D) : Type 0 where
  pub told : disks.told after ≡ disks.told disk
  pub later : disks.time disk ≤ disks.time after
  pub count : disks.faults disk ≤ disks.faults after

-- the frames can be kept as the body of this ticket again, or as its reply
abbrev pub FitsAccept : ℕ → Fold Place → List (List ℕ) → Type 0
FitsAccept number index frames = (t : Ticket Place) → ticket_of number index ≡ Some t → Fits (Accept t.id t.service frames)

abbrev pub FitsReply : List (List ℕ) → Type 0
FitsReply frames = (number : ℕ) → Fits (StoreReply number frames)

-- the file in the making may be gone on with
pub record IsGoing {E : Type 0} (disks : Ghosts E) (making : Making) (disk : E) : Type 0 where
  pub unspent : making.journal.spent ≡ false
  pub ready : Now (disks.told disk) (IsMaking making.base making.journal.end)

-- it was gone on with, or its disk failed
pub record Writes {E : Type 0} (disks : Ghosts E) (making : Making) (disk : E) (now : Making) (after : E) : Type 0 where
  pub base : now.base ≡ making.base
  pub crash : LeavesOn IsUnfinished (disks.time disk, disks.time after) (disks.told disk) (disks.told after)
  pub later : disks.time disk ≤ disks.time after
  pub count : disks.faults disk ≤ disks.faults after

-- it has more commands behind those that it had
abbrev pub Adds : {E : Type 0} → Ghosts E → List TicketCmd → Making → E → Making → E → Type 0
Adds disks cmds making disk now after =
    (before : List (List ℕ)) → Now (disks.told disk) (IsMade making.base making.journal.end before) → Now (disks.told after) (IsMade now.base now.journal.end (before ++ payloads_of cmds))

-- the commands of an open ticket were added
abbrev pub Copies : {D E : Type 0} → Ghosts D → Ghosts E → ℕ → StoreValue → D → Making → E → Making → E → Type 0
Copies olds news number store old making new now after =
    (f : Fold (List (List ℕ))) (t : Ticket (List (List ℕ))) → IsOf olds store old f → ticket_of number f ≡ Some t → Adds news (kept_ticket t) making new now after

-- what memory has of the ticket that is listed
pub record IsListed (id service : List ℕ) (stored : Bool) (index : Fold Place) : Type 0 where
  pub ticket : Ticket Place
  pub found : ticket_of (number_of id) index ≡ Some ticket
  pub id_is : ticket.id ≡ id
  pub service_is : ticket.service ≡ service
  pub stored_is : is_some ticket.reply ≡ stored

-- it is the open ticket with the least number above this one
pub record IsNext (n : ℕ) (index : Fold Place) (id service : List ℕ) (stored : Bool) : Type 0 where
  pub ticket : Ticket Place
  pub next : open_above n index ≡ Some ticket
  pub number : ticket.number ≡ number_of id
  pub listed : IsListed id service stored index

-- its reply was added, where it has one
abbrev pub CopiesReply : {D E : Type 0} → Ghosts D → Ghosts E → ℕ → StoreValue → D → Making → E → Making → E → Type 0
CopiesReply olds news number store old making new now after =
    (f : Fold (List (List ℕ))) (t : Ticket (List (List ℕ))) → IsOf olds store old f → ticket_of number f ≡ Some t → Adds news (kept_reply number t.reply) making new now after

-- the commands of all open tickets up to a number were added to what there was, and counted
abbrev pub CopiesUpto : {D E : Type 0} → Ghosts D → Ghosts E → StoreValue → D → Making → E → Making → E → ℕ → ℕ → Type 0
CopiesUpto olds news store old making new now after count n =
    (f : Fold (List (List ℕ))) → IsOf olds store old f → (count ≡ length (upto n f)) × Adds news (kept_upto n f) making new now after

abbrev pub CopiesAll : {D E : Type 0} → Ghosts D → Ghosts E → StoreValue → D → Making → E → Making → E → ℕ → Type 0
CopiesAll olds news store old making new now after count =
    (f : Fold (List (List ℕ))) → IsOf olds store old f → (count ≡ length f.tickets) × Adds news (kept f) making new now after
