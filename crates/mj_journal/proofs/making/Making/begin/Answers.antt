use Rattle.std.proofs.Common.{arith, ◌∙◌}
use Rattle.mj_journal.proofs.Finishing.{first_few, settled_kept, spoiled_kept, settled_leaves, begun_leaves, begins_unfinished}
use Rattle.mj_journal.proofs.making.Making.begin.Goals as goal

pub returns-in_default-clause-kept : goal.returns-in_default-clause-kept
returns-in_default-clause-kept g c = settled_kept _ _ c.settle.ensures.kept

pub returns-in_default-clause-crash : goal.returns-in_default-clause-crash
returns-in_default-clause-crash g c = settled_leaves _ _ _ c.settle.ensures.crash

pub returns-in_default-clause-unfinished : goal.returns-in_default-clause-unfinished
returns-in_default-clause-unfinished g c =
    begins_unfinished _ _ _ c.settle.ensures.telling c.settle.ensures.later (returns-in_default-clause-crash g c)

pub returns-then-size-gt0-clause-kept : goal.returns-then-size-gt0-clause-kept
returns-then-size-gt0-clause-kept g c = settled_kept _ _ c.settle.ensures.kept

pub returns-then-size-gt0-clause-crash : goal.returns-then-size-gt0-clause-crash
returns-then-size-gt0-clause-crash g c = settled_leaves _ _ _ c.settle.ensures.crash

pub returns-then-size-gt0-clause-unfinished : goal.returns-then-size-gt0-clause-unfinished
returns-then-size-gt0-clause-unfinished g c =
    begins_unfinished _ _ _ c.settle.ensures.telling c.settle.ensures.later (returns-then-size-gt0-clause-crash g c)

pub returns-in_default-write_synced-clause-kept : goal.returns-in_default-write_synced-clause-kept
returns-in_default-write_synced-clause-kept g c =
    spoiled_kept c.in-Ok.size _ _ _ _ c.if-size-gt0.false (first_few c.args.base c.new_file-file.result c.new_file-file.ensures) c.settle.ensures.kept c.in-Ok.ensures.size c.in_default-write_synced.ensures.spoiled

pub returns-in_default-write_synced-clause-crash : goal.returns-in_default-write_synced-clause-crash
returns-in_default-write_synced-clause-crash g c =
    begun_leaves c.in-Ok.size _ _ _ _ _ _ _ c.if-size-gt0.false (first_few c.args.base c.new_file-file.result c.new_file-file.ensures) c.settle.ensures.crash c.in-Ok.ensures.synced c.in-Ok.ensures.size c.write_synced.ensures.crash

pub returns-in_default-write_synced-clause-unfinished : goal.returns-in_default-write_synced-clause-unfinished
returns-in_default-write_synced-clause-unfinished g c =
    begins_unfinished _ _ _ (c.write_synced.ensures.telling ∙ c.settle.ensures.telling) (omega (arith, c.settle.ensures.later, c.write_synced.ensures.later)) (returns-in_default-write_synced-clause-crash g c)

pub returns-clause-crash : goal.returns-clause-crash
returns-clause-crash g c =
    begun_leaves c.in-Ok.size _ _ _ _ _ _ _ c.if-size-gt0.false (first_few c.args.base c.new_file-file.result c.new_file-file.ensures) c.settle.ensures.crash c.in-Ok.ensures.synced c.in-Ok.ensures.size c.write_synced.ensures.crash

pub returns-clause-unfinished : goal.returns-clause-unfinished
returns-clause-unfinished g c =
    begins_unfinished _ _ _ (c.write_synced.ensures.telling ∙ c.settle.ensures.telling) (omega (arith, c.settle.ensures.later, c.write_synced.ensures.later)) (returns-clause-crash g c)
