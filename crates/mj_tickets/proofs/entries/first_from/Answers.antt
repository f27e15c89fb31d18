use Rattle.std.proofs.Common.{ltb, rules}
use Rattle.std.proofs.lemmas.List.Sorted.{IsPartitionPoint-from_clause, IsPartitionedBy-ltb}
use Rattle.mj_tickets.specs.declared.entries.Entry.{Entry}
use Rattle.mj_tickets.specs.Entries.{number_at}
use Rattle.mj_tickets.proofs.RisingLemmas.{rises_by}
use Rattle.mj_tickets.proofs.EntryLemmas.{split}
use Rattle.mj_tickets.proofs.entries.first_from.Goals as goal

pub returns : goal.returns
returns c =
    let rise = c.requires in
    split c.args.number c.args.entries.now c.partition_point.result c.partition_point.ensures.bound
    (IsPartitionPoint-from_clause (λ (e : Entry). ltb (number_at e) c.args.number) c.args.entries.now c.partition_point.result c.partition_point.ensures.partitioned
    (IsPartitionedBy-ltb number_at c.args.entries.now c.args.number (rises_by number_at 0 c.args.entries.now rise.0 rise.1)) (λ a r f' k. search rules))
