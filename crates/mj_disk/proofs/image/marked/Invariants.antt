use Rattle.std.proofs.Common.{◌≡◌, take}
use Rattle.mj_disk.specs.Images.{marked}
use Rattle.mj_disk.proofs.image.marked.Given as goal

abbrev pub invariant-loop-range : goal.invariant-loop-range
invariant-loop-range l = l.copy.items ≡ marked (take l.range-index l.ranges) l.fn.octets
