use Rattle.mj_store.proofs.Adding.{stays_held}
use Rattle.mj_store.proofs.Asking.{close_fits}
use Rattle.mj_store.proofs.store.Store.close.Goals as goal

pub payload-requires : goal.payload-requires
payload-requires g c = close_fits c.args.number

pub returns-in_default-clause-crash : goal.returns-in_default-clause-crash
returns-in_default-clause-crash g c = stays_held g.D.Disk _ _ _ (g.met.D.Disk.in_time c.args.disk.now)
