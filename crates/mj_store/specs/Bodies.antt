-- What is read of a ticket's body or reply, and why it isn't.
use Rattle.std.specs.Prelude.{◌≡◌, ℕ, List, length, take, drop, Option, Some, None, option_map, option_and_then}
use Rattle.mj_disk.specs.DiskModel.{History, Now}
use Rattle.mj_disk.specs.declared.disk.Disk.{Ghosts}
use Rattle.mj_tickets.specs.declared.command.TicketCmd.{TicketCmd}
use Rattle.mj_tickets.specs.declared.place.Place.{Place}
use Rattle.mj_tickets.specs.Fold.{Fold, ticket_of}
use Rattle.mj_tickets.specs.Payload.{FitsBody, body_text}
use Rattle.mj_tickets.specs.PayloadReading.{body_in}
use Rattle.mj_store.specs.declared.fault.BodyFault.{BodyFault}
use Rattle.mj_store.specs.declared.fault.BodyFault.TheVariants.{Spent, NoMemory, DiskFault, Damaged}
use Rattle.mj_store.specs.Commands.{IsBodyOf, IsReplyOf}
use Rattle.mj_store.specs.Standing.{StoreValue, Holds, IsTelling}

-- where the body of the open ticket with this number stands in the file, and where its reply
abbrev pub body_at : ℕ → Fold Place → Option Place
body_at number f = option_map (λ t. t.body) (ticket_of number f)

abbrev pub reply_at : ℕ → Fold Place → Option Place
reply_at number f = option_and_then (λ t. t.reply) (ticket_of number f)

-- as many bytes as the place has; where the disk tells, those that stand there
pub record IsReadAt (place : Place) (told : Option History) (octets : List ℕ) : Type 0 where
  pub sized : length octets ≡ place.len
  pub stands : Now told (λ held. octets ≡ take place.len (drop place.at held.octets))

-- what was read at the place is this body
abbrev pub IsReadBody : Option Place → Option History → List (List ℕ) → Type 0
IsReadBody None told frames = ⊥
IsReadBody (Some place) told frames = (octets : List ℕ) × IsReadAt place told octets × (body_in octets ≡ Some frames)

-- the place has as many bytes as the text of the body, which is none too long for its counts
abbrev pub HasText : Option Place → List (List ℕ) → Type 0
HasText None frames = ⊥
HasText (Some place) frames = FitsBody frames × (length (body_text frames) ≡ place.len)

-- what was read at the place, which begins here, is no body
abbrev pub IsNoBody : Option Place → Option History → ℕ → Type 0
IsNoBody None told at = ⊥
IsNoBody (Some place) told at = (at ≡ place.at) × ((octets : List ℕ) × IsReadAt place told octets × (body_in octets ≡ None))

-- why a body isn't read
abbrev pub IsUnreadable : Option Place → Option History → BodyFault → Type 0
IsUnreadable place told Spent = Unit {0}
IsUnreadable place told NoMemory = Unit {0}
IsUnreadable place told DiskFault = Unit {0}
IsUnreadable place told (Damaged at) = IsNoBody place told at

abbrev pub IsDamage : BodyFault → Type 0
IsDamage Spent = ⊥
IsDamage NoMemory = ⊥
IsDamage DiskFault = ⊥
IsDamage (Damaged at) = Unit {0}

-- a fault but one of the disk
abbrev pub IsHarmless : BodyFault → Type 0
IsHarmless Spent = Unit {0}
IsHarmless NoMemory = Unit {0}
IsHarmless DiskFault = ⊥
IsHarmless (Damaged at) = Unit {0}

-- of a disk that tells what it holds, the frames are the ticket's body, or its reply, in the tickets of each list for which memory and disk stand
abbrev pub GivesBody : {D : Type 0} → Ghosts D → ℕ → StoreValue → D → List (List ℕ) → Type 0
GivesBody disks number store disk frames =
    IsTelling disks disk → (base : ℕ) (cmds : List TicketCmd) → Holds disks base cmds store disk → IsBodyOf number base cmds frames

abbrev pub GivesReply : {D : Type 0} → Ghosts D → ℕ → StoreValue → D → List (List ℕ) → Type 0
GivesReply disks number store disk frames =
    IsTelling disks disk → (base : ℕ) (cmds : List TicketCmd) → Holds disks base cmds store disk → IsReplyOf number base cmds frames
