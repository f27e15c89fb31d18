-- Which ticket commands a file stands for, and the tickets in memory that they leave.
use Rattle.std.specs.Prelude.{◌≡◌, ℕ, ◌+◌, ◌≤◌, ◌^◌, ◌⊎◌, Bool, false, List, [], ◌∷◌, length, map, Option, Some, None}
use Rattle.std.specs.List.{AllByRecursion}
use Rattle.mj_tickets.specs.declared.command.TicketCmd.{TicketCmd}
use Rattle.mj_tickets.specs.declared.place.Place.{Place}
use Rattle.mj_tickets.specs.Payload.{IsCommand, body_text, payload_of}
use Rattle.mj_tickets.specs.Fold.{Ticket, Fold, start, fold_of, ticket_of, is_pending}
use Rattle.mj_tickets.specs.Index.{Placed, indexed}
use Rattle.mj_journal.specs.FileText.{StandsFor, Opens}

abbrev pub payloads_of : List TicketCmd → List (List ℕ)
payloads_of cmds = map payload_of cmds

-- it can be written as a payload, which is then this command
abbrev pub IsWritten : TicketCmd → Type 0
IsWritten cmd = IsCommand cmd (payload_of cmd)

-- the payload of each stands five bytes behind its gate, and the next gate behind it
abbrev pub placed_from : ℕ → List TicketCmd → List Placed
placed_from gate [] = []
placed_from gate (cmd ∷ cmds) = record { at = gate + 5; cmd = cmd } ∷ placed_from (gate + (length (payload_of cmd) + 5)) cmds

-- the open tickets with the places of their bodies in the file; None where the list isn't lawful
abbrev pub index_of : ℕ → List TicketCmd → Option (Fold Place)
index_of base cmds = indexed (placed_from 16 cmds) (start base)

abbrev pub IsBase : ℕ → Type 0
IsBase base = (1 ≤ base) × (base ≤ 2 ^ 61)

-- the list may stand in a file with this base
pub record IsLawful (base : ℕ) (cmds : List TicketCmd) : Type 0 where
  pub based : IsBase base
  pub written : AllByRecursion IsWritten cmds
  pub index : Fold Place
  pub index_is : index_of base cmds ≡ Some index

abbrev pub StandsForCommands : ℕ → List TicketCmd → List ℕ → Type 0
StandsForCommands base cmds octets = StandsFor base (payloads_of cmds) octets

-- it opens as these commands; of a file with none the base may be another
abbrev pub OpensFor : ℕ → List TicketCmd → List ℕ → Type 0
OpensFor base cmds image = (of : ℕ) × Opens of (payloads_of cmds) image × ((of ≡ base) ⊎ (cmds ≡ []))

abbrev pub OpensForOne : ℕ → List (List TicketCmd) → List ℕ → Type 0
OpensForOne base [] image = ⊥
OpensForOne base (cmds ∷ lists) image = OpensFor base cmds image ⊎ OpensForOne base lists image

-- the body fits behind the head of each command: at most 65,535 frames, and a text of at most 2,096,879 bytes
pub record CanBeKept (body : List (List ℕ)) : Type 0 where
  pub counted : length body ≤ 65535
  pub short : length (body_text body) ≤ 2096879

-- ---- what is asked of the tickets

abbrev pub pends : {B : Type 0} → Option (Ticket B) → Bool
pends None = false
pends (Some t) = is_pending t

-- there is an open ticket of this number without a reply
abbrev pub is_pending_at : {B : Type 0} → ℕ → Fold B → Bool
is_pending_at number f = pends (ticket_of number f)

-- the frames are the body of the open ticket with this number, or its reply, in the tickets of the list
abbrev pub IsBodyOf : ℕ → ℕ → List TicketCmd → List (List ℕ) → Type 0
IsBodyOf number base cmds frames = (f : Fold (List (List ℕ))) (t : Ticket (List (List ℕ))) → fold_of base cmds ≡ Some f → ticket_of number f ≡ Some t → frames ≡ t.body

abbrev pub IsReplyOf : ℕ → ℕ → List TicketCmd → List (List ℕ) → Type 0
IsReplyOf number base cmds frames = (f : Fold (List (List ℕ))) (t : Ticket (List (List ℕ))) → fold_of base cmds ≡ Some f → ticket_of number f ≡ Some t → Some frames ≡ t.reply
