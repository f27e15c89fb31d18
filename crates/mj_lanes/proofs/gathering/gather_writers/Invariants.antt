use Rattle.std.proofs.Common.{◌≡◌, All, vec_len}
use Rattle.std.specs.List.{AllZip}
use Rattle.mj_lanes.specs.Rule.{of, Begins}
use Rattle.mj_lanes.specs.Senders.{sender_of, writer}
use Rattle.mj_lanes.specs.Passes.{WriterState, OutletState}
use Rattle.mj_lanes.proofs.gathering.gather_writers.Given as goal

-- the passes that are left are of the inbox and of the outlets that are left, and once they are compared, all are
abbrev pub invariant-loop-pass : goal.invariant-loop-pass
invariant-loop-pass g l =
    let Q : WriterState → Type 0 = λ w. Begins (of sender_of (writer w.lane) l.fn.inbox.taken) w.sent in
    let P : WriterState → OutletState → Type 0 = λ w o. Begins w.taken o.put in
    (l.inbox ≡ l.fn.inbox) × All (λ (w : WriterState). w.inbox ≡ l.fn.inbox.name) l.writers.items × AllZip (λ (w : WriterState) (o : OutletState). w.outlet ≡ o.name) l.writers.items l.outlets.items
    × (All Q l.writers.items → All Q l.fn.writers.items) × (AllZip P l.writers.items l.outlets.items → AllZip P l.fn.writers.items l.fn.outlets.items)

abbrev pub decreases-loop-pass : goal.decreases-loop-pass
decreases-loop-pass g l = vec_len l.writers
