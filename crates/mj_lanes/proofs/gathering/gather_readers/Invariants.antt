use Rattle.std.proofs.Common.{◌≡◌, All}
use Rattle.mj_lanes.specs.Rule.{of, Begins}
use Rattle.mj_lanes.specs.Senders.{sender_of, reader}
use Rattle.mj_lanes.specs.Passes.{ReaderState}
use Rattle.mj_lanes.proofs.gathering.gather_readers.Given as goal

-- the passes that are left are of the inbox, and once they are compared, all are
abbrev pub invariant-loop-pass : goal.invariant-loop-pass
invariant-loop-pass g l =
    let Q : ReaderState → Type 0 = λ p. Begins (of sender_of (reader p.lane) l.fn.inbox.taken) p.sent in
    (l.inbox ≡ l.fn.inbox) × All (λ (p : ReaderState). p.inbox ≡ l.fn.inbox.name) l.lanes.items × (All Q l.lanes.items → All Q l.fn.lanes.items)

abbrev pub decreases-loop-pass : goal.decreases-loop-pass
decreases-loop-pass g l = goal.left-loop-pass g l
