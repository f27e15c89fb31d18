use Rattle.std.proofs.Common.{◌∙◌, ap}
use Rattle.std.specs.FinMap as map
use Rattle.mj_lease.specs.LeaseMap.{LeaseMap}
use Rattle.mj_due.proofs.OrderLemmas.{map_removed, spare_removed}
use Rattle.mj_due.proofs.leases.Leases.remove.Goals as goal

pub returns-clause-leases : goal.returns-clause-leases
returns-clause-leases g c =
    map_removed c.args.conn c.self.inside.by_conn.pairs c.take_lease-was_there.new.by_conn.pairs c.take_lease-was_there.ensures.changed ∙ ap (λ (m : LeaseMap). map.remove m.leases c.args.conn) c.self.view_is

pub returns-clause-spare : goal.returns-clause-spare
returns-clause-spare g c =
    spare_removed c.args.conn c.self.inside.room c.room_after_remove-self-inside.result c.self.inside.by_conn.pairs c.take_lease-was_there.result c.args.self.now c.self.view_is c.take_lease-was_there.ensures.value c.room_after_remove-self-inside.ensures
