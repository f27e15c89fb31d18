-- What the broker's call makes of its ports and its disk.
use Rattle.std.specs.Prelude.{ℕ, ◌≡◌, Bool, true, false, List, [], Result, IfOk, IfErr, OnOk, OnErr, IsErrOf}
use Rattle.mj_base.specs.Rising.{Rose}
use Rattle.mj_base.specs.declared.event.Event.{Event}
use Rattle.mj_base.specs.declared.limits.Limits.{Limits}
use Rattle.mj_disk.specs.DiskModel.{Turns}
use Rattle.mj_disk.specs.declared.disk.Disk.{Ghosts}
use Rattle.mj_journal.specs.Opening.{KeepsFile}
use Rattle.mj_serve.specs.Faults.{IsFileFault, IsUnserved}
use Rattle.mj_serve.specs.Given.{Entry}
use Rattle.mj_serve.specs.Serving.{EndedOver, EndedWithout, IsLeftAlone, ServedOver, ServedWithout}
use Rattle.mj_serve.specs.declared.fault.ServeFault.{ServeFault}
use Rattle.mj_serve.specs.declared.fault.ServeFault.TheVariants.{DiskFault}
use Rattle.mj_serve.specs.declared.summary.Summary.{Summary}
use Rattle.mj_store.specs.Opening.{NoneLawful, OpensLawfully}
use Rattle.mj_store.specs.Standing.{IsTelling}
use Rattle.mj_tickets.specs.declared.command.TicketCmd.{TicketCmd}

module _ {P D : Type 0} (stand : P → P → List Event → List Entry → Type 0) (stops : P → Bool) (disks : Ghosts D) (limits : Limits) (seed : List ℕ) (stored : Bool) (origin : P) (began : D) (ports : P) (disk : D) where
  -- a run that gave this answer, from new ports
  pub record HasRun (answer : Result Summary ServeFault) : Type 0 where
    -- all events up to the end were taken, and what was given is what the machine does at them: with a store over each lawful
    -- list as which its file opens, or without one
    pub served : IfOk answer (λ summary. stored ≡ true → stand origin origin [] [] → (base : ℕ) (commands : List TicketCmd) → OpensLawfully base commands (disks.told began) → ServedOver stand disks origin began limits seed base commands ports disk summary)
    pub served_without : IfOk answer (λ summary. stored ≡ false → stand origin origin [] [] → ServedWithout stand disks origin began limits ports disk summary)
    pub stopped : OnOk answer (stops ports ≡ true)
    -- so it is up to where a run ended early
    pub ended : OnErr answer (stored ≡ true → stand origin origin [] [] → (base : ℕ) (commands : List TicketCmd) → OpensLawfully base commands (disks.told began) → EndedOver stand disks origin began limits seed base commands ports disk)
    pub ended_without : OnErr answer (stored ≡ false → stand origin origin [] [] → EndedWithout stand disks origin began limits ports disk)
    -- without a store the disk is left alone
    pub plain : stored ≡ false → IsLeftAlone (disks.time began) (disks.told began) (disks.told disk)
    -- a fault of the disk ends a run at its opening alone
    pub cause : IsErrOf answer DiskFault → Rose (disks.faults began) (disks.faults disk) × (ports ≡ origin)
    -- a file is refused for what is in it, and is left as it was; never one that opens as a lawful list
    pub unopened : IfErr answer (λ fault. IsTelling disks began → IsUnserved fault (disks.told began) (disks.told disk))
    pub refused : IfErr answer (λ fault. IsFileFault fault → IsTelling disks began → (stored ≡ true) × (ports ≡ origin) × Turns KeepsFile (disks.told began) (disks.told disk))
    pub lawful : IfErr answer (λ fault. IsFileFault fault → NoneLawful (disks.told began))
