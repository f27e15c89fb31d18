use Rattle.std.proofs.Common.{◌≡◌, ◌≤◌, false}
use Rattle.mj_peer.specs.ClientEndRules.{Client}
use Rattle.mj_peer.specs.ClientStands.{Stands}
use Rattle.mj_peering.specs.ClientRun.{Played}
use Rattle.mj_peering.specs.Feeding.{ahead}
use Rattle.mj_peering.specs.Performing.{AreLater, counts, places}
use Rattle.mj_peering.proofs.client.run_client.Given as goal

abbrev pub invariant-loop : goal.invariant-loop
invariant-loop g l = record {
  ready : l.end.spent ≡ false;
  played : (first : Client) → Stands l.fn.end.session first
      → Played first (places (g.L.Link.told l.fn.link) (g.K.Sink.written l.fn.out)) (places (g.L.Link.told l.link) (g.K.Sink.written l.out)) (ahead l.fn.feed (g.S.Source.left l.fn.src)) (ahead l.feed (g.S.Source.left l.src)) l.end.session l.asked;
  later : AreLater (counts (g.L.Link.read_faults l.fn.link) (g.L.Link.write_faults l.fn.link) (g.K.Sink.faults l.fn.out) (g.K.Sink.wants l.fn.out)) (counts (g.L.Link.read_faults l.link) (g.L.Link.write_faults l.link) (g.K.Sink.faults l.out) (g.K.Sink.wants l.out));
  input_later : g.S.Source.faults l.fn.src ≤ g.S.Source.faults l.src;
}
