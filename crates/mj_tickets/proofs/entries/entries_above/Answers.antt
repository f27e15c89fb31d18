use Rattle.std.proofs.Common.{leb, rules, sym, subst, List}
use Rattle.std.proofs.lemmas.List.Sorted.{IsPartitionPoint-from_clause, IsPartitionedBy-leb}
use Rattle.mj_tickets.specs.declared.entries.Entry.{Entry}
use Rattle.mj_tickets.specs.Entries.{number_at, IsAbove}
use Rattle.mj_tickets.proofs.RisingLemmas.{rises_by}
use Rattle.mj_tickets.proofs.EntryLemmas.{split_above}
use Rattle.mj_tickets.proofs.entries.entries_above.Goals as goal

pub returns : goal.returns
returns c =
    let rise = c.requires in
    let point = IsPartitionPoint-from_clause (λ (e : Entry). leb (number_at e) c.args.after) c.args.entries.now c.partition_point-at.result c.partition_point-at.ensures.partitioned
    (IsPartitionedBy-leb number_at c.args.entries.now c.args.after (rises_by number_at 0 c.args.entries.now rise.0 rise.1)) (λ a r f' k. search rules) in
    subst (λ (xs : List Entry). IsAbove c.args.after c.args.entries.now xs) (sym c.split_at.ensures.back) (split_above c.args.after c.args.entries.now c.partition_point-at.result c.partition_point-at.ensures.bound point)
