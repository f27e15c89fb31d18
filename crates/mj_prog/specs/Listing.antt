-- What `tickets` prints: the open tickets of a file, by number.
use Rattle.std.specs.Prelude.{ℕ, ◌≡◌, ◌-◌, ◌<◌, ◌≤◌, ◌^◌, ⊤, Bool, true, false, min, List, [], ◌∷◌, ◌++◌, length, codes, filter, nat_le, Option, Some, is_some}
use Rattle.std.specs.Fmt.{decimal}
use Rattle.std.specs.Io.KnownBytes.{Appends}
use Rattle.mj_base.specs.Writing.{AppendsFront}
use Rattle.mj_disk.specs.DiskModel.{CrashesAs, History, Turns}
use Rattle.mj_disk.specs.declared.disk.Disk.{Ghosts}
use Rattle.mj_ids.specs.Ids.{text_of}
use Rattle.mj_journal.specs.Opening.{IsImageOrOpensAlike, KeepsFile}
use Rattle.mj_store.specs.Opening.{LeavesBegun, OpensLawfully}
use Rattle.mj_tickets.specs.Fold.{Fold, Ticket, fold_of}
use Rattle.mj_tickets.specs.declared.command.TicketCmd.{TicketCmd}
use Rattle.mj_tickets.specs.declared.place.Place.{Place}
use Rattle.mj_words.specs.Lines.{done_line}
use Rattle.mj_prog.specs.declared.status.Status.{Status}
use Rattle.mj_prog.specs.declared.status.Status.TheVariants as statuses

abbrev pub state_word : Bool → List ℕ
state_word false = codes " pending "
state_word true = codes " stored "

-- `ticket NUMBER ID STATE NAME`
abbrev pub line_with : ℕ → List ℕ → Bool → List ℕ → List ℕ
line_with number id stored service = codes "ticket " ++ (decimal number ++ (codes " " ++ (text_of id ++ (state_word stored ++ (service ++ codes "\n")))))

abbrev pub ticket_line : {B : Type 0} → Ticket B → List ℕ
ticket_line t = line_with t.number t.id (is_some t.reply) t.service

abbrev pub listing : {B : Type 0} → List (Ticket B) → List ℕ
listing [] = []
listing (t ∷ ts) = ticket_line t ++ listing ts

-- those lines, and `done N` with the number of the tickets, which stops at 2^64 - 1
abbrev pub listed : {B : Type 0} → List (Ticket B) → List ℕ
listed ts = listing ts ++ done_line (min (length ts) (2 ^ 64 - 1))

-- what is written of such a text, by the status
abbrev pub ListingRow : List ℕ → Option (List ℕ) → Option (List ℕ) → Status → Type 0
ListingRow text old new statuses.Done = Appends old new text
ListingRow text old new statuses.Words = ⊥
ListingRow text old new statuses.Line = ⊥
ListingRow text old new statuses.Store = ⊥
ListingRow text old new statuses.NoMemory = AppendsFront old new text
ListingRow text old new statuses.Disk = ⊤
ListingRow text old new statuses.Read = ⊥
ListingRow text old new statuses.Write = AppendsFront old new text

-- of a file that opens as commands, the tickets that they leave open
abbrev pub Lists : Option History → (List (Ticket (List (List ℕ))) → Type 0) → Type 0
Lists told Row =
    (base : ℕ) (commands : List TicketCmd) → OpensLawfully base commands told → (tickets : Fold (List (List ℕ))) × (fold_of base commands ≡ Some tickets) × Row tickets.tickets

-- a file that is only opened is as it was, or was made anew in the place of a short one, and so is each image of a crash
pub record IsOpenedAlone {D : Type 0} (disks : Ghosts D) (began after : D) : Type 0 where
  pub kept : Turns KeepsFile (disks.told began) (disks.told after)
  pub first : LeavesBegun disks began after
  pub crash : CrashesAs IsImageOrOpensAlike (disks.time began, disks.time after) (disks.told began) (disks.told after)

-- ---- one after another

-- those of the open tickets in memory whose number is at most this one
abbrev pub upto : ℕ → Fold Place → List (Ticket Place)
upto n index = filter (λ t. nat_le t.number n) index.tickets

-- the open ticket with the least number above this one
pub record Next (n : ℕ) (index : Fold Place) (number : ℕ) (id service : List ℕ) (stored : Bool) : Type 0 where
  pub ticket : Ticket Place
  pub more : upto number index ≡ upto n index ++ ticket ∷ []
  pub above : n < number
  pub within : number ≤ index.highest
  pub line : line_with number id stored service ≡ ticket_line ticket
