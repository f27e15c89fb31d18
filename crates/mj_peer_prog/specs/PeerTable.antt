-- What the two commands do to their link and print, by the status that they answer.
use Rattle.std.specs.Prelude.{ℕ, ◌⊎◌, ◌≡◌, true, List, ◌++◌, take, Option}
use Rattle.mj_base.specs.Linking.{Tells}
use Rattle.mj_base.specs.Rising.{Rose}
use Rattle.mj_peering.specs.Performing.{AreDone, ArePartly, Counts, Moves, Places, Round, printed, tale}
use Rattle.mj_words.specs.Lines.{AppendsLine, fault_read}
use Rattle.mj_words.specs.SinkCounts.{SinkCounts, counted}
use Rattle.mj_peer_prog.specs.Endings.{ending_line, is_good, no_answer_line}
use Rattle.mj_peer_prog.specs.PeerRuns.{Goes, IsBegun, IsDone}
use Rattle.mj_peer_prog.specs.declared.ending.Ending.{Ending}
use Rattle.mj_peer_prog.specs.declared.ending.Ending.TheVariants as endings
use Rattle.mj_peer_prog.specs.declared.task.Task.{Task}

-- what the source had left; what link and sink told before and tell now, and their counts; the counts of the source's failures
pub record Scene : Type 0 where
  pub from : Option (List ℕ)
  pub old : Places
  pub now : Places
  pub before : Counts
  pub after : Counts
  pub reads_before : ℕ
  pub reads_after : ℕ

abbrev pub scene : Option (List ℕ) → Places → Places → Counts → Counts → ℕ → ℕ → Scene
scene from old now before after reads_before reads_after = record {
  from = from;
  old = old;
  now = now;
  before = before;
  after = after;
  reads_before = reads_before;
  reads_after = reads_after;
}

abbrev pub sink_counts : Counts → SinkCounts
sink_counts c = counted c.prints c.wants

-- status 0: the run to a good end, and its last line
abbrev pub IsFinished : Task → Scene → Type 0
IsFinished task s = (passed : List Round) × (ending : Ending) × IsDone task s.from ending passed × (is_good ending ≡ true) × Moves s.old s.now (tale passed) (printed passed ++ ending_line ending)

-- status 8: the run up to the act `NoAnswer`, and `fault no-answer N`
abbrev pub IsGivenUp : Task → Scene → Type 0
IsGivenUp task s =
    (passed : List Round) × (n : ℕ) × IsDone task s.from (endings.NoAnswer n) passed × Tells s.old.told s.now.told (tale passed)
    × AppendsLine s.old.got s.now.got (sink_counts s.before) (sink_counts s.after) (printed passed) (no_answer_line n)

-- status 6: a read of the link or of the input failed; the run up to it, and `fault read`
abbrev pub IsUnread : Task → Scene → Type 0
IsUnread task s =
    (Rose s.before.reads s.after.reads ⊎ Rose s.reads_before s.reads_after)
    × ((passed : List Round) × IsBegun task s.from passed × Tells s.old.told s.now.told (tale passed) × AppendsLine s.old.got s.now.got (sink_counts s.before) (sink_counts s.after) (printed passed) fault_read)

-- the run up to an act that wasn't done
abbrev pub IsBroken : Task → Scene → Type 0
IsBroken task s = (passed : List Round) × (last : Round) × Goes task s.from passed last × ArePartly s.old s.now passed last

-- the run to its end, and of its last line a front
abbrev pub IsCut : Task → Scene → Type 0
IsCut task s = (passed : List Round) × (ending : Ending) × IsDone task s.from ending passed × ((n : ℕ) × Moves s.old s.now (tale passed) (printed passed ++ take n (ending_line ending)))

-- status 7: a write of the link or of a line failed; the run up to it
abbrev pub IsUnwritten : Task → Scene → Type 0
IsUnwritten task s = (Rose s.before.writes s.after.writes ⊎ Rose s.before.prints s.after.prints) × (IsBroken task s ⊎ IsCut task s)

-- status 4: there was no memory; the run up to there
abbrev pub IsStarved : Task → Scene → Type 0
IsStarved task s = ((passed : List Round) × IsBegun task s.from passed × AreDone s.old s.now passed) ⊎ (IsBroken task s ⊎ IsCut task s)
