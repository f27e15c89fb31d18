use Rattle.std.proofs.Common.{[], ◌≤◌}
use Rattle.mj_peering.specs.Feeding.{ahead}
use Rattle.mj_peering.specs.Requests.{Uses, to_come, unread}
use Rattle.mj_peering.proofs.feed.Feed.next_request.Given as goal

abbrev pub invariant-loop : goal.invariant-loop
invariant-loop g l = record {
  requests : Uses (ahead l.fn.self (g.S.Source.left l.fn.src)) (to_come (record { cut = l.self.cut; piece = l.piece }) (unread l.self.buffer.items l.self.at l.self.len (g.S.Source.left l.src))) [];
  later : g.S.Source.faults l.fn.src ≤ g.S.Source.faults l.src;
}
