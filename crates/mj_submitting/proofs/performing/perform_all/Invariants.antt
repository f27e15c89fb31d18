use Rattle.std.proofs.Common.{◌≡◌, ◌≤◌, Some, drop, is_some, take}
use Rattle.mj_peering.specs.Performing.{AreLater, counts}
use Rattle.mj_submit.specs.Notes.{notes_from}
use Rattle.mj_submit.specs.declared.progress.Progress.{Progress}
use Rattle.mj_submit_file.specs.Files.{IsHeld}
use Rattle.mj_submitting.specs.Performing.{Performs, notes, world}
use Rattle.mj_submitting.proofs.performing.perform_all.Given as goal

abbrev pub invariant-loop-effect : goal.invariant-loop-effect
invariant-loop-effect g l = record {
  held : IsHeld g.D.Disk l.file l.disk;
  done : Performs g.D.Disk (world (g.L.Link.told l.fn.link) (g.K.Sink.written l.fn.out) l.fn.file l.fn.disk) (world (g.L.Link.told l.link) (g.K.Sink.written l.out) l.file l.disk) (take l.effect-index l.effects);
  next : (q : Progress) → notes_from (notes l.effects) l.fn.file.progress ≡ Some q → notes_from (notes (drop l.effect-index l.effects)) l.file.progress ≡ Some q;
  later : AreLater (counts (g.L.Link.read_faults l.fn.link) (g.L.Link.write_faults l.fn.link) (g.K.Sink.faults l.fn.out) (g.K.Sink.wants l.fn.out)) (counts (g.L.Link.read_faults l.link) (g.L.Link.write_faults l.link) (g.K.Sink.faults l.out) (g.K.Sink.wants l.out));
  disk_later : g.D.Disk.faults l.fn.disk ≤ g.D.Disk.faults l.disk;
  telling : is_some (g.D.Disk.told l.disk) ≡ is_some (g.D.Disk.told l.fn.disk);
}
