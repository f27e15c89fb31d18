use Rattle.std.proofs.Common.{◌∙◌, ap}
use Rattle.std.specs.FinMap as map
use Rattle.mj_lease.specs.LeaseMap.{LeaseMap}
use Rattle.mj_due.proofs.OrderLemmas.{map_put, room_there, spare_put}
use Rattle.mj_due.proofs.leases.Leases.put.Goals as goal

pub room_after_put-self-inside-requires : goal.room_after_put-self-inside-requires
room_after_put-self-inside-requires g c =
    room_there c.args.conn c.self.inside.room c.self.inside.by_conn.pairs c.take_lease-was_there.result c.args.self.now c.self.view_is c.take_lease-was_there.ensures.value c.requires

pub returns-clause-leases : goal.returns-clause-leases
returns-clause-leases g c =
    map_put c.args.conn c.args.deadline c.self.inside.by_conn.pairs c.take_lease-was_there.new.by_conn.pairs c.add_lease.new.by_conn.pairs c.take_lease-was_there.ensures.changed c.add_lease.ensures.changed
    ∙ ap (λ (m : LeaseMap). map.insert m.leases c.args.conn c.args.deadline) c.self.view_is

pub returns-clause-spare : goal.returns-clause-spare
returns-clause-spare g c =
    spare_put c.args.conn c.self.inside.room c.room_after_put-self-inside.result c.self.inside.by_conn.pairs c.take_lease-was_there.result c.args.self.now c.self.view_is c.take_lease-was_there.ensures.value c.room_after_put-self-inside.ensures
