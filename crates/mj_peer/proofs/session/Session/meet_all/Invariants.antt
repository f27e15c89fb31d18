use Rattle.std.proofs.Common.{◌≡◌, false, drop}
use Rattle.mj_peer.specs.ClientEndRules.{Client, meets}
use Rattle.mj_peer.specs.ClientStands.{Stands}
use Rattle.mj_peer.specs.Sweeping.{sweep}
use Rattle.mj_peer.proofs.ClientLemmas.{SoFar}
use Rattle.mj_peer.proofs.session.Session.meet_all.Given as goal

abbrev pub invariant-loop-item : goal.invariant-loop-item
invariant-loop-item l =
    (l.self.wire.spent ≡ false)
    × ((first : Client) → Stands l.fn.self first → SoFar (sweep meets l.items first) (drop l.item-index l.items) l.self l.fn.acts l.acts)
