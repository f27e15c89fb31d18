use Rattle.std.proofs.Common.{◌∙◌}
use Rattle.mj_store.proofs.Adding.{stays_held}
use Rattle.mj_store.proofs.Asking.{accept_lawful}
use Rattle.mj_store.proofs.store.Store.accept.Goals as goal

pub returns-in_default-clause-crash : goal.returns-in_default-clause-crash
returns-in_default-clause-crash g c = stays_held g.D.Disk _ _ _ (g.met.D.Disk.in_time c.args.disk.now)

pub returns-in_default-payload-clause-crash : goal.returns-in_default-payload-clause-crash
returns-in_default-payload-clause-crash g c = stays_held g.D.Disk _ _ _ (g.met.D.Disk.in_time c.args.disk.now)

pub returns-then-is_full-clause-crash : goal.returns-then-is_full-clause-crash
returns-then-is_full-clause-crash g c = stays_held g.D.Disk _ _ _ (g.met.D.Disk.in_time c.args.disk.now)

pub add-requires-clause-lawful : goal.add-requires-clause-lawful
add-requires-clause-lawful g c =
    accept_lawful c.of-id.result _ _ c.args.self.now.index (c.of-id.ensures.number ∙ c.next.ensures.value) c.next.ensures.numbered
