-- The last line of a run, and its status.
use Rattle.std.proofs.Common.{◌≡◌, ℕ, true, false, List, take, Option, inl, inr, Result, Ok, Err, IfOk, IfErr}
use Rattle.std.specs.Prelude.{MatchResult}
use Rattle.std.specs.Io.KnownBytes.{Appends}
use Rattle.mj_base.specs.Writing.{WriteAdds, WriteCause}
use Rattle.mj_base.specs.declared.sink.WriteAnswer.{WriteAnswer}
use Rattle.mj_base.specs.declared.sink.WriteAnswer.TheVariants as writes
use Rattle.mj_peering.specs.Performing.{places, printed, tale}
use Rattle.mj_peering.specs.declared.stop.Stop.{Stop}
use Rattle.mj_peering.specs.declared.stop.Stop.TheVariants as stops
use Rattle.mj_words.specs.Lines.{AppendsLine, fault_read}
use Rattle.mj_words.specs.SinkCounts.{counted}
use Rattle.mj_peer_prog.specs.Endings.{ending_line, is_good}
use Rattle.mj_peer_prog.specs.PeerTable.{Scene}
use Rattle.mj_peer_prog.specs.StatusRows.{CameTo, IsHalted, IsLater, IsRow, Setting, in_setting, status_after}
use Rattle.mj_peer_prog.specs.declared.ending.Ending.{Ending}
use Rattle.mj_peer_prog.specs.declared.ending.Ending.TheVariants as endings
use Rattle.mj_peer_prog.specs.declared.status.Status.TheVariants as statuses
use Rattle.mj_peer_prog.specs.declared.task.Task.{Task}
use Rattle.mj_peer_prog.proofs.SinkLemmas.{moves-front, moves-kept, moves-line, rose-from}

-- there was no memory for the line
pub row-unmade : (task : Task) (s : Scene) (ending : Ending) → CameTo task s ending → IsRow statuses.NoMemory task s
row-unmade task s ending came =
    inr (inr (came.0, ending, came.1, (0, moves-front s.old s.now (tale came.0) (printed came.0) (ending_line ending) came.2)))

-- the line of a good end was written, or wasn't
pub row-written : (task : Task) (t : Setting) (got new : Option (List ℕ)) (faults wants faults' wants' : ℕ) (ending : Ending) (answer : WriteAnswer) → is_good ending ≡ true → IsLater t faults wants
    → CameTo task (in_setting t got faults wants) ending → WriteAdds got new answer (ending_line ending) → WriteCause faults faults' answer → IsRow (status_after answer) task (in_setting t new faults' wants')
row-written task t got new faults wants faults' wants' ending writes.Done good later came adds cause =
    (came.0, ending, came.1, good, moves-line t.old t.told got new (tale came.0) (printed came.0) (ending_line ending) came.2 adds)
row-written task t got new faults wants faults' wants' ending writes.NoMemory good later came adds cause =
    inr (inr (came.0, ending, came.1, (0, moves-front t.old (places t.told new) (tale came.0) (printed came.0) (ending_line ending) (moves-kept t.old t.told got new (tale came.0) (printed came.0) came.2 adds))))
row-written task t got new faults wants faults' wants' ending writes.Failed good later came adds cause = (
  inr (rose-from t.before.prints faults faults' later.prints cause),
  inr (came.0, ending, came.1, (adds.0, moves-line t.old t.told got new (tale came.0) (printed came.0) (take adds.0 (ending_line ending)) came.2 adds.1)),
)

-- no answer came
pub row-given-up : (task : Task) (t : Setting) (got new : Option (List ℕ)) (faults wants faults' wants' : ℕ) (ending : Ending) → is_good ending ≡ false
    → CameTo task (in_setting t got faults wants) ending
    → ((shown : List ℕ) → Appends t.old.got got shown → AppendsLine t.old.got new (counted t.before.prints t.before.wants) (counted faults' wants') shown (ending_line ending))
    → IsRow statuses.NoAnswer task (in_setting t new faults' wants')
row-given-up task t got new faults wants faults' wants' (endings.Answered n) bad came line = cc
row-given-up task t got new faults wants faults' wants' (endings.Served n) bad came line = cc
row-given-up task t got new faults wants faults' wants' (endings.NoAnswer n) bad came line = (came.0, n, came.1, came.2.told, line (printed came.0) came.2.got)

-- a read failed
pub row-unread : (task : Task) (t : Setting) (got new : Option (List ℕ)) (faults wants faults' wants' : ℕ) → IsHalted stops.Read task (in_setting t got faults wants)
    → ((shown : List ℕ) → Appends t.old.got got shown → AppendsLine t.old.got new (counted t.before.prints t.before.wants) (counted faults' wants') shown fault_read)
    → IsRow statuses.Read task (in_setting t new faults' wants')
row-unread task t got new faults wants faults' wants' (cause, (passed, begun, done)) line = (cause, (passed, begun, done.told, line (printed passed) done.got))

pub row-starved : (task : Task) (s : Scene) → IsHalted stops.NoMemory task s → IsRow statuses.NoMemory task s
row-starved task s (inl whole) = inl whole
row-starved task s (inr broken) = inr (inl broken)

pub row-unwritten : (task : Task) (s : Scene) → IsHalted stops.Write task s → IsRow statuses.Write task s
row-unwritten task s (cause, broken) = (cause, inl broken)

-- what is known of either way in which a run ends
pub ended : (r : Result Ending Stop) (P : Ending → Type 0) (Q : Stop → Type 0) → IfOk r P → IfErr r Q → MatchResult r P Q
ended (Ok ending) P Q ok err = ok
ended (Err stop) P Q ok err = err
