-- Sending, as small changes.
use Rattle.std.proofs.Common.{◌≡◌, ℕ, Bool, true, false, List, length, sum, Option, None, Some, refl, sym, subst, append-nil}
use Rattle.mj_base.specs.declared.event.Out.{Out}
use Rattle.mj_base.specs.declared.reason.Reason.TheVariants.{Slow}
use Rattle.mj_machine.specs.declared.connection.Connection.{Connection}
use Rattle.mj_machine.specs.StoreState.{told_by}
use Rattle.mj_machine.specs.MachineState.{Whole}
use Rattle.mj_machine.specs.Connections.{connection_of}
use Rattle.mj_machine.specs.Acts.{Doing, behind}
use Rattle.mj_machine.specs.Sending.{is_slow, sends, sends_if, sends_to}
use Rattle.mj_machine.specs.DiskActs.{routed, routes}
use Rattle.mj_machine.specs.Steps.{Cause}
use Rattle.mj_machine.proofs.Changes.{IsCarried, Why}

module _ (cause : Cause) (w0 : Whole) (P : Doing Whole Out → Type 0) (carried : IsCarried cause w0 P) where
  walk-sends_if : (b : Bool) (n : ℕ) (piece : List ℕ) (c : Connection) (w : Whole) (o : List Out) → Why cause w0 w.routing.limits w.store n piece → connection_of n w.routing.connections ≡ Some c
      → is_slow w.routing.limits c (length piece) ≡ b → P (w, o) → P (behind o (routed w (sends_if b n piece c (told_by w.store) w.routing)))
  walk-sends_if true n piece c w o why is slow p = carried.ends c.lane n Slow (sum c.outstanding) w o p
  walk-sends_if false n piece c w o why is slow p = carried.sends n piece c w o why is slow p

  walk-sends_to : (n : ℕ) (piece : List ℕ) (found : Option Connection) (w : Whole) (o : List Out) → Why cause w0 w.routing.limits w.store n piece → connection_of n w.routing.connections ≡ found → P (w, o)
      → P (behind o (routed w (sends_to n piece found (told_by w.store) w.routing)))
  walk-sends_to n piece None w o why is p = subst (λ (xs : List Out). P (w, xs)) (sym (append-nil o)) p
  walk-sends_to n piece (Some c) w o why is p = walk-sends_if (is_slow w.routing.limits c (length piece)) n piece c w o why is refl p

  pub walk-sends : (n : ℕ) (piece : List ℕ) (w : Whole) (o : List Out) → Why cause w0 w.routing.limits w.store n piece → P (w, o) → P (behind o (routes (sends n piece) w))
  walk-sends n piece w o why p = walk-sends_to n piece (connection_of n w.routing.connections) w o why refl p
