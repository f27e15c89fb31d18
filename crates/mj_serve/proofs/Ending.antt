-- What a run over a file, and one without a store, made.
use Rattle.std.proofs.Common.{◌≡◌, ◌≤◌, ℕ, true, List, [], Some, refl, inl, inr}
use Rattle.mj_base.specs.LawfulLimits.{are_lawful}
use Rattle.mj_base.specs.declared.event.Event.{Event}
use Rattle.mj_base.specs.declared.limits.Limits.{Limits}
use Rattle.mj_broker.specs.Handling.{BrokerValue, IsBroker, limits_of}
use Rattle.mj_disk.specs.Content.{IsImage}
use Rattle.mj_disk.specs.DiskModel.{History}
use Rattle.mj_disk.specs.declared.disk.Disk.{Ghosts}
use Rattle.mj_machine.specs.MachineState.{start_with}
use Rattle.mj_machine.specs.StoreState.{no_store, opened_store}
use Rattle.mj_store.specs.Opening.{LeavesBegun, OpensLawfully}
use Rattle.mj_tickets.specs.declared.command.TicketCmd.{TicketCmd}
use Rattle.mj_serve.specs.Counts.{no_counts}
use Rattle.mj_serve.specs.Given.{Entry}
use Rattle.mj_serve.specs.Running.{Ran, RanOut}
use Rattle.mj_serve.specs.Serving.{EndedOver, EndedWithout, ServedOver, ServedWithout}
use Rattle.mj_serve.specs.declared.summary.Summary.{Summary}
use Rattle.mj_serve.proofs.Beginning.{ended-none, ended-of, opening-leaves, ran-none, served-of}
use Rattle.mj_serve.proofs.Laws.{keeps-nothing, keeps-tickets, openable}

module _ {P D : Type 0} (stand : P → P → List Event → List Entry → Type 0) (disks : Ghosts D) (origin : P) (began opened : D) (limits : Limits) (stands : stand origin origin [] []) (count : disks.faults began ≤ disks.faults opened) where
  module _ (seed : List ℕ) (lawful : are_lawful limits ≡ true) (leaves : LeavesBegun disks began opened) (base : ℕ) (commands : List TicketCmd) (opens : OpensLawfully base commands (disks.told began)) where
    pub starts-over : (broker : BrokerValue) → IsBroker disks broker opened (start_with limits (opened_store seed base commands)) → limits_of broker ≡ limits
        → Ran stand disks origin began limits (start_with limits (opened_store seed base commands)) origin opened broker no_counts
    starts-over broker at limited =
        ran-none stand disks origin began opened limits (opened_store seed base commands) stands (λ stored settled. opening-leaves disks began opened seed base commands leaves opens settled) count broker at limited

    pub served-over : (broker : BrokerValue) (ports : P) (disk : D) (summary : Summary) → ((history : History) → disks.told disk ≡ Some history → IsImage history.now history.now.octets)
        → Ran stand disks origin began limits (start_with limits (opened_store seed base commands)) ports disk broker summary → ServedOver stand disks origin began limits seed base commands ports disk summary
    served-over broker ports disk summary reads ran =
        let run = served-of stand disks origin began limits (opened_store seed base commands) (inr (seed, base, commands, refl)) ports disk broker summary reads ran in
        (run, keeps-tickets limits seed base commands run.happened (openable limits base commands lawful opens.lawful))

    pub ended-over : (ports : P) (disk : D) → RanOut stand disks origin began limits (start_with limits (opened_store seed base commands)) ports disk → EndedOver stand disks origin began limits seed base commands ports disk
    ended-over ports disk ran =
        let run = ended-of stand disks origin began limits (opened_store seed base commands) (inr (seed, base, commands, refl)) ports disk ran in
        (run, keeps-tickets limits seed base commands run.happened (openable limits base commands lawful opens.lawful))

    -- the opening failed, or there was no memory for a broker
    pub unopened-over : EndedOver stand disks origin began limits seed base commands origin opened
    unopened-over = ended-over origin opened
        (ended-none stand disks origin began opened limits (opened_store seed base commands) stands (λ stored settled. opening-leaves disks began opened seed base commands leaves opens settled) count)

  pub starts-without : (broker : BrokerValue) → IsBroker disks broker opened (start_with limits no_store) → limits_of broker ≡ limits
      → Ran stand disks origin began limits (start_with limits no_store) origin opened broker no_counts
  starts-without broker at limited =
      ran-none stand disks origin began opened limits no_store stands (λ stored settled. absurd (cc stored)) count broker at limited

  pub served-without : (broker : BrokerValue) (ports : P) (disk : D) (summary : Summary) → ((history : History) → disks.told disk ≡ Some history → IsImage history.now history.now.octets)
      → Ran stand disks origin began limits (start_with limits no_store) ports disk broker summary → ServedWithout stand disks origin began limits ports disk summary
  served-without broker ports disk summary reads ran =
      let run = served-of stand disks origin began limits no_store (inl refl) ports disk broker summary reads ran in
      (run, keeps-nothing limits run.happened run.ran.notes)

  pub ended-without : (ports : P) (disk : D) → RanOut stand disks origin began limits (start_with limits no_store) ports disk → EndedWithout stand disks origin began limits ports disk
  ended-without ports disk ran =
      let run = ended-of stand disks origin began limits no_store (inl refl) ports disk ran in
      (run, keeps-nothing limits run.happened run.ran.notes)

  pub unopened-without : EndedWithout stand disks origin began limits origin opened
  unopened-without = ended-without origin opened
      (ended-none stand disks origin began opened limits no_store stands (λ stored settled. absurd (cc stored)) count)
