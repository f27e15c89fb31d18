-- What becomes of a ticket that is to be kept.
use Rattle.std.specs.Prelude.{ℕ, ◌≡◌, ◌⊎◌, Bool, true, false, List, length}
use Rattle.mj_base.specs.declared.event.Out.{Out}
use Rattle.mj_disk.specs.declared.disk.Disk.{Ghosts}
use Rattle.mj_ids.specs.Ids.{id_of, text_of}
use Rattle.mj_tickets.specs.Payload.{payload_of}
use Rattle.mj_tickets.specs.declared.command.TicketCmd.{TicketCmd}
use Rattle.mj_tickets.specs.declared.command.TicketCmd.TheVariants as cmds
use Rattle.mj_store.specs.Standing as standing
use Rattle.mj_store.specs.Standing.{StoreValue}
use Rattle.mj_machine.specs.MachineState.{Act, State}
use Rattle.mj_machine.specs.Acts.{quiet}
use Rattle.mj_machine.specs.DiskActs.{appending}
use Rattle.mj_keeper.specs.declared.keeper.Keeper.{Keeper}
use Rattle.mj_titanic.specs.declared.acts.Keeping.{Keeping}
use Rattle.mj_titanic.specs.declared.accepting.Accepted.{Accepted}
use Rattle.mj_titanic.specs.declared.accepting.Accepted.TheVariants.{Full, Kept, Failed}
use Rattle.mj_titanic.specs.declared.fault.ActFault.{ActFault}
use Rattle.mj_titanic.specs.Acting.{Did, Stopped, around, core_behind, nowhere, parts}

-- the next number's command
abbrev pub accept_of : Keeper → StoreValue → List ℕ → List (List ℕ) → TicketCmd
accept_of keeper held service body = cmds.Accept (id_of keeper.seed held.index.next) service body

-- too many tickets are open, or the file would be too long with the command
abbrev pub is_full_for : StoreValue → TicketCmd → Bool
is_full_for held cmd = standing.is_full (length (payload_of cmd)) held

abbrev pub appends : TicketCmd → Act
appends cmd w = appending cmd quiet quiet w

abbrev pub is_kept : Accepted → Bool
is_kept Full = true
is_kept (Kept number text) = true
is_kept Failed = false

-- where there is no room nothing was done; else the command was appended, or that failed
abbrev pub Accepts : {D : Type 0} → Ghosts D → State → StoreValue → TicketCmd → Keeping → D → Keeping → D → List Out → List Out → Accepted → Type 0
Accepts disks core held cmd old disk new after before outs Full =
    (is_full_for held cmd ≡ true) × (new ≡ old) × (after ≡ disk) × (outs ≡ before)
Accepts disks core held cmd old disk new after before outs (Kept number text) =
    (is_full_for held cmd ≡ false) × (number ≡ held.index.next) × (text ≡ text_of (id_of old.keeper.seed held.index.next))
    × Did disks (parts core old) disk (parts core new) after before outs (appends cmd) (around (appends cmd))
Accepts disks core held cmd old disk new after before outs Failed =
    (is_full_for held cmd ≡ false) × Did disks (parts core old) disk (parts (core_behind false core) new) after before outs (appends cmd) (around (appends cmd))

-- it ended early in front of the append, or in it
abbrev pub StopsAccepting : {D : Type 0} → Ghosts D → ActFault → State → StoreValue → TicketCmd → Keeping → D → D → Type 0
StopsAccepting disks fault core held cmd old disk after =
    Stopped disks fault (parts core old) disk after nowhere
    ⊎ ((is_full_for held cmd ≡ false) × Stopped disks fault (parts core old) disk after (around (appends cmd)))
