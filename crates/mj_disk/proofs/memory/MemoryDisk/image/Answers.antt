use Rattle.std.proofs.Common.{refl, sym, subst, List, ℕ}
use Rattle.mj_disk.specs.Content.{IsImage}
use Rattle.mj_disk.specs.Laws.{recorded_reads, recorded_in_time}
use Rattle.mj_disk.specs.Recorded.{recorded}
use Rattle.mj_disk.proofs.Marking.{chosen_is}
use Rattle.mj_disk.proofs.memory.MemoryDisk.image.Goals as goal

pub returns-clause-left : goal.returns-clause-left
returns-clause-left c history is =
    let held = (recorded c.args.self.now).now in
    let reads = recorded_reads c.args.self.now.start.items c.args.self.now.entries.items c.args.self.now.kept.items (recorded c.args.self.now) refl in
    let here = subst (λ (i : List ℕ). IsImage held i) (sym c.in_ok-image.ensures) (chosen_is c.args.k held reads) in
    recorded_in_time (recorded c.args.self.now) (λ h. IsImage h.now c.in_ok-image.image) history is here
