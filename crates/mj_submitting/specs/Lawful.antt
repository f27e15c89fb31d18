-- The notes of a turn may follow those that a file has.
use Rattle.std.specs.Prelude.{◌≡◌, Some}
use Rattle.mj_submit.specs.Notes.{notes_from}
use Rattle.mj_submit.specs.SubmitRules.{Call, Submitter, turn_of}
use Rattle.mj_submitter.specs.Courses.{effects}
use Rattle.mj_submitting.specs.Performing.{notes}

-- of whatever submitter and call: they are lawful behind what its progress says, and come to what it says afterwards
abbrev pub TurnsAreLawful : Type 0
TurnsAreLawful = (call : Call) (s : Submitter) → notes_from (notes (effects (turn_of call s).1)) s.progress ≡ Some (turn_of call s).0.progress
