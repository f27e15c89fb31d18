-- The open tickets with the places of their bodies in the ticket file in place of the bodies.
use Rattle.std.specs.Prelude.{ℕ, ◌+◌, Bool, List, length, Option, Some, None, if◌then◌else◌}
use Rattle.std.specs.Option.{is_some}
use Rattle.mj_tickets.specs.declared.command.TicketCmd.{TicketCmd}
use Rattle.mj_tickets.specs.declared.place.Place.{Place}
use Rattle.mj_tickets.specs.declared.state.TicketState.{TicketState}
use Rattle.mj_tickets.specs.declared.state.TicketState.TheVariants.{Unknown, Pending, Stored}
use Rattle.mj_tickets.specs.Payload.{head_of, tail_of}
use Rattle.mj_tickets.specs.Fold.{Ticket, Fold, folded_by}

-- where the body stands of a command whose payload begins at this offset
abbrev pub place_in : ℕ → TicketCmd → Place
place_in at cmd = record { at = at + length (head_of cmd); len = length (tail_of cmd) }

-- what contracts see of the tickets in memory: places, and for how many accepts there is room
pub record Kept : Type 0 where
  pub index : Fold Place
  pub spare : ℕ

-- what is told of a ticket
abbrev pub state_in : {B : Type 0} → Option (Ticket B) → TicketState
state_in None = Unknown
state_in (Some t) = if is_some t.reply then Stored else Pending

-- number and service; id, service, and whether the reply is stored
abbrev pub pending_as : {B : Type 0} → Ticket B → ℕ × List ℕ
pending_as t = (t.number, t.service)

abbrev pub listed_as : {B : Type 0} → Ticket B → List ℕ × List ℕ × Bool
listed_as t = (t.id, t.service, is_some t.reply)

-- a command, and the offset of its payload
pub record Placed : Type 0 where
  pub at : ℕ
  pub cmd : TicketCmd

abbrev pub cmd_of : Placed → TicketCmd
cmd_of p = p.cmd

abbrev pub place_of : Placed → Place
place_of p = place_in p.at p.cmd

-- the tickets of a list of commands with the places of their bodies
abbrev pub indexed : List Placed → Fold Place → Option (Fold Place)
indexed placed f = folded_by cmd_of place_of placed f
