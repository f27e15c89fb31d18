use Rattle.std.proofs.Common.{◌≡◌, false, drop}
use Rattle.mj_peer.specs.WorkerEndRules.{Worker, meets}
use Rattle.mj_peer.specs.WorkerStands.{Stands}
use Rattle.mj_peer.specs.Sweeping.{sweep}
use Rattle.mj_peer.proofs.WorkerLemmas.{SoFar}
use Rattle.mj_peer.proofs.post.Post.meet_all.Given as goal

abbrev pub invariant-loop-item : goal.invariant-loop-item
invariant-loop-item l =
    (l.self.wire.spent ≡ false)
    × ((first : Worker) → Stands l.fn.self first → SoFar (sweep meets l.items first) (drop l.item-index l.items) l.self l.fn.acts l.acts)
