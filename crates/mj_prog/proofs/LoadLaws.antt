-- What the run of a load says of its status.
use Rattle.std.proofs.Common.{◌≡◌, ◌⊎◌, ℕ, Bool, true, List, [], Option, inl, inr, refl}
use Rattle.mj_disk.specs.DiskModel.{Turns}
use Rattle.mj_disk.specs.declared.disk.Disk.{Ghosts}
use Rattle.mj_gen.specs.Finishing.{fault_line}
use Rattle.mj_gen.specs.Generating.{Generates}
use Rattle.mj_gen.specs.Statuses.{code_of as gen_code}
use Rattle.mj_gen.specs.declared.status.Status.{Status as GenStatus}
use Rattle.mj_gen.specs.declared.status.Status.TheVariants as gens
use Rattle.mj_journal.specs.Opening.{KeepsFile}
use Rattle.mj_serve.specs.Faults.{IsFileFault, IsUnserved}
use Rattle.mj_serve.specs.declared.fault.ServeFault.{ServeFault}
use Rattle.mj_serve.specs.declared.fault.ServeFault.TheVariants as faults
use Rattle.mj_store.specs.Opening.{NoneLawful}
use Rattle.mj_store.specs.Standing.{IsTelling}
use Rattle.mj_words.specs.Lines.{AppendsLine}
use Rattle.mj_words.specs.SinkCounts.{SinkCounts}
use Rattle.mj_prog.specs.StatusRows.{IsFileRow, IsRefusedFile, IsUnopened, LoadCause}
use Rattle.mj_prog.specs.Statuses.{code_of, status_as}
use Rattle.mj_prog.specs.declared.halt.StoreFault.TheVariants as stores
use Rattle.mj_prog.specs.declared.status.Status.TheVariants as statuses

pub same-code : (s : GenStatus) → gen_code s ≡ code_of (status_as s)
same-code gens.Done = refl
same-code gens.Store = refl
same-code gens.NoMemory = refl
same-code gens.Disk = refl
same-code gens.Write = refl

module _ {D : Type 0} (disks : Ghosts D) (n : ℕ) (stored : Bool) (began after : D) (old new : Option (List ℕ)) (before now : SinkCounts) where
  pub load-cause : (s : GenStatus) → Generates disks n stored began after old new before now (gen_code s) → LoadCause before.faults now.faults (status_as s)
  load-cause gens.Done run = tt
  load-cause gens.Store run = tt
  load-cause gens.NoMemory run = tt
  load-cause gens.Disk run = tt
  load-cause gens.Write run = (run.write refl).0

  refused-by : (fault : ServeFault) → IsFileFault fault → IsUnserved fault (disks.told began) (disks.told after) → NoneLawful (disks.told began) → Turns KeepsFile (disks.told began) (disks.told after)
      → AppendsLine old new before now [] (fault_line fault) → IsRefusedFile (disks.told began) (disks.told after) old new before now
  refused-by faults.NotAStore kind why none kept line = (stores.NotAStore, record { why = why; unlawful = none; kept = kept }, line)
  refused-by (faults.Version version) kind why none kept line = (stores.Version version, record { why = why; unlawful = none; kept = kept }, line)
  refused-by (faults.Damaged at) kind why none kept line = (stores.Damaged at, record { why = why; unlawful = none; kept = kept }, line)
  refused-by faults.DiskFault kind why none kept line = absurd kind
  refused-by faults.NoMemory kind why none kept line = absurd kind

  pub load-file : (s : GenStatus) → Generates disks n stored began after old new before now (gen_code s) → IsFileRow (disks.told began) (disks.told after) old new before now (status_as s)
  load-file gens.Done run = tt
  load-file gens.Store run = λ history tells.
      let refused = run.store refl in
      let why = refused.why (history, tells) in
      refused-by refused.fault refused.kind why.1 refused.lawful why.2 refused.line
  load-file gens.NoMemory run = tt
  load-file gens.Disk run = (run.disk refl).0
  load-file gens.Write run = tt

  unopened-by : (s : GenStatus) → (gen_code s ≡ 3) ⊎ (gen_code s ≡ 4) ⊎ (gen_code s ≡ 5) → IsUnopened (status_as s)
  unopened-by gens.Done (inl is) = cc
  unopened-by gens.Done (inr (inl is)) = cc
  unopened-by gens.Done (inr (inr is)) = cc
  unopened-by gens.Store one = tt
  unopened-by gens.NoMemory one = tt
  unopened-by gens.Disk one = tt
  unopened-by gens.Write (inl is) = cc
  unopened-by gens.Write (inr (inl is)) = cc
  unopened-by gens.Write (inr (inr is)) = cc

  pub load-unopened : (s : GenStatus) → Generates disks n stored began after old new before now (gen_code s) → stored ≡ true → IsTelling disks began → NoneLawful (disks.told began) → IsUnopened (status_as s)
  load-unopened s run is telling none = unopened-by s (run.refuses is telling none)

  pub load-stored : (s : GenStatus) → Generates disks n stored began after old new before now (gen_code s) → status_as s ≡ statuses.Store → IsTelling disks began → stored ≡ true
  load-stored gens.Done run is telling = cc
  load-stored gens.Store run is telling = ((run.store refl).why telling).0
  load-stored gens.NoMemory run is telling = cc
  load-stored gens.Disk run is telling = cc
  load-stored gens.Write run is telling = cc
