use Rattle.std.proofs.Common.{ltb, rules}
use Rattle.std.proofs.lemmas.List.Sorted.{IsPartitionPoint-from_clause, IsPartitionedBy-ltb}
use Rattle.mj_machine.specs.declared.connection.Connection.{Connection}
use Rattle.mj_routing.proofs.PlaceLemmas.{rises-by, split-at}
use Rattle.mj_routing.proofs.connections.first_from.Goals as goal

pub returns : goal.returns
returns c =
    split-at c.args.number c.args.connections.now c.partition_point.result c.partition_point.ensures.bound
    (IsPartitionPoint-from_clause (λ (d : Connection). ltb d.number c.args.number) c.args.connections.now c.partition_point.result c.partition_point.ensures.partitioned
    (IsPartitionedBy-ltb (λ (d : Connection). d.number) c.args.connections.now c.args.number (rises-by c.args.connections.now c.requires)) (λ a r f' k. search rules))
