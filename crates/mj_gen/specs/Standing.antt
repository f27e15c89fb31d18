-- What the ports over the generated load stand for.
use Rattle.std.specs.Prelude.{◌≡◌, Bool, true, false, List, [], ◌++◌, Option}
use Rattle.std.specs.List.{list_any}
use Rattle.mj_base.specs.declared.event.Event.{Event}
use Rattle.mj_laws.specs.Notes.{is_failure}
use Rattle.mj_machine.specs.DiskActs.{notes_in}
use Rattle.mj_serve.specs.Given.{Entry, outs_given}
use Rattle.mj_gen.specs.Counting.{AreCountedIf}
use Rattle.mj_gen.specs.declared.counts.Counts.{Counts}

-- of the events that were to come first these were taken, and the rest is to come; all is counted; an act on the disk has failed
-- exactly where it is said so; and the end is given behind all events, or behind such an act
pub record Stands (first rest : List Event) (counts : Option Counts) (shut stopped : Bool) (taken : List Event) (given : List Entry) : Type 0 where
  pub events : first ≡ taken ++ rest
  pub counted : AreCountedIf counts taken (outs_given given)
  pub failed : list_any is_failure (notes_in (outs_given given)) ≡ shut
  pub whole : stopped ≡ true → shut ≡ false → rest ≡ []
