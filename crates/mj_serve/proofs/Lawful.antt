-- A file that is opened and not refused opens as a lawful list.
use Rattle.std.proofs.Common.{◌≡◌, ℕ, List, [], Some, inl, inr, refl, subst, arith}
use Rattle.mj_disk.specs.Content.{Content}
use Rattle.mj_disk.specs.DiskModel.{History, Turns}
use Rattle.mj_disk.specs.declared.disk.Disk.{Ghosts}
use Rattle.mj_store.specs.Commands.{IsLawful, StandsForCommands}
use Rattle.mj_store.specs.Opening.{KeepsOrMakes, OpensLawfully}
use Rattle.mj_store.specs.Standing.{IsHeld, IsTelling, Knows, StoreValue}
use Rattle.mj_tickets.specs.declared.command.TicketCmd.{TicketCmd}

lawful-list : (base : ℕ) (commands : List TicketCmd) (store : StoreValue) → Knows base commands store → IsLawful base commands
lawful-list base commands store knows = record { based = knows.based; written = knows.written; index = store.index; index_is = knows.index_is }

-- a file without commands
no-commands : IsLawful 1 []
no-commands = record { based = (omega arith, omega arith); written = tt; index = _; index_is = refl }

by-how : {D : Type 0} (disks : Ghosts D) (began : D) (history : History) (base : ℕ) (commands : List TicketCmd) (after : Content) → disks.told began ≡ Some history
    → IsLawful base commands → StandsForCommands base commands after.octets → KeepsOrMakes history.now after
    → (of : ℕ) × (found : List TicketCmd) × OpensLawfully of found (disks.told began)
by-how disks began history base commands after tells lawful stands (inl kept) =
    (base, commands, record { history = history; tells = tells; lawful = lawful; opens = inl (subst (StandsForCommands base commands) kept.0 stands) })
by-how disks began history base commands after tells lawful stands (inr made) =
    (1, [], record { history = history; tells = tells; lawful = no-commands; opens = inr (made.0, refl, refl) })

pub opened-lawfully : {D : Type 0} (disks : Ghosts D) (began opened : D) (store : StoreValue) → IsHeld disks store opened → Turns KeepsOrMakes (disks.told began) (disks.told opened) → IsTelling disks began
    → (base : ℕ) × (commands : List TicketCmd) × OpensLawfully base commands (disks.told began)
opened-lawfully disks began opened store held made telling =
    let turned = made telling.0 telling.1 in
    by-how disks began telling.0 held.0 held.1 turned.0.now telling.1 (lawful-list held.0 held.1 store held.2.knows) (held.2.file turned.0 turned.1).1 turned.2
