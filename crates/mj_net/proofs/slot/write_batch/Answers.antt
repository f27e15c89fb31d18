use Rattle.mj_net.proofs.slot.write_batch.Goals as goal

pub returns : goal.returns
returns g c = (c.write_ready.ensures.writes.behind, c.write_ready.ensures.writes.writes.0)
