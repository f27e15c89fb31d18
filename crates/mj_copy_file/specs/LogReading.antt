-- What was read of a file so far: commands, the tickets that they leave, and where their payloads stand.
use Rattle.std.specs.Prelude.{◌≡◌, ℕ, List, Option}
use Rattle.mj_disk.specs.DiskModel.{History, Now}
use Rattle.mj_store.specs.Commands.{StandsForCommands, payloads_of}
use Rattle.mj_store.specs.Opening.{ReadIn, Reads}
use Rattle.mj_tickets.specs.Fold.{Fold}
use Rattle.mj_tickets.specs.declared.command.TicketCmd.{TicketCmd}
use Rattle.mj_tickets.specs.declared.place.Place.{Place}
use Rattle.mj_copy_file.specs.Logs.{spots_from}
use Rattle.mj_copy_file.specs.declared.spot.Spot.{Spot}

-- these commands, up to this gate
abbrev pub HasRead : ℕ → ℕ → Fold Place → List Spot → Option History → Type 0
HasRead base gate index spots told =
    (cmds : List TicketCmd) × Reads base gate index cmds × (spots ≡ spots_from 16 (payloads_of cmds)) × Now told (ReadIn base gate cmds)

-- all commands of the file, whose closed gate is this one
abbrev pub HasAll : ℕ → ℕ → Fold Place → List Spot → Option History → Type 0
HasAll base gate index spots told =
    (cmds : List TicketCmd) × Reads base gate index cmds × (spots ≡ spots_from 16 (payloads_of cmds)) × Now told (λ held. StandsForCommands base cmds held.octets)
