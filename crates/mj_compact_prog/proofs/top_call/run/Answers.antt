use Rattle.std.proofs.Common.{[], inl, refl, arith}
use Rattle.std.proofs.KnownBytes.{Appends-nil}
use Rattle.mj_disk.proofs.Moments.{started}
use Rattle.mj_journal.specs.Opening.{IsImageOrOpensAlike}
use Rattle.mj_compact.proofs.Ending.{nothing_yet}
use Rattle.mj_compact_prog.proofs.top_call.run.Goals as goal

pub returns-then-not-asks_to_compact-clause-row : goal.returns-then-not-asks_to_compact-clause-row
returns-then-not-asks_to_compact-clause-row g c =
    (refl, refl, c.complain.ensures (g.K.Sink.written c.args.out.now) [] _ (record { faults = omega arith; wants = omega arith }) (Appends-nil (g.K.Sink.written c.args.out.now)))

pub returns-then-not-asks_to_compact-clause-crash : goal.returns-then-not-asks_to_compact-clause-crash
returns-then-not-asks_to_compact-clause-crash g c = λ history told.
    started (g.D.Disk.told c.args.old.now) history (g.D.Disk.time c.args.old.now) (IsImageOrOpensAlike history.now) told (g.met.D.Disk.in_time c.args.old.now history told) (λ image here. inl here)

pub returns-then-not-asks_to_compact-clause-images : goal.returns-then-not-asks_to_compact-clause-images
returns-then-not-asks_to_compact-clause-images g c = nothing_yet g.D.Disk g.E.Disk c.args.old.now c.args.new.now (g.met.E.Disk.in_time c.args.new.now)
