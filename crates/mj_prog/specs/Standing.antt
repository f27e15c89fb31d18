-- What ports over a script stand for: the events of the lines that were acted on, and what was printed.
use Rattle.std.specs.Prelude.{ℕ, ◌≡◌, ◌+◌, ◌≤◌, ◌^◌, ⊤, List, ◌++◌, length, Option}
use Rattle.std.specs.Io.KnownBytes.{Appends}
use Rattle.mj_base.specs.Rising.{Rose}
use Rattle.mj_base.specs.Writing.{AppendsFront, WriteAdds, WriteCause}
use Rattle.mj_base.specs.declared.event.Event.{Event}
use Rattle.mj_base.specs.declared.event.Out.{Out}
use Rattle.mj_base.specs.declared.sink.WriteAnswer.{WriteAnswer}
use Rattle.mj_base.specs.declared.sink.WriteAnswer.TheVariants as writes
use Rattle.mj_serve.specs.Given.{Entry, outs_given}
use Rattle.mj_prog.specs.declared.next.Next.TheVariants as nexts
use Rattle.mj_prog.specs.declared.progress.Progress.{Progress}
use Rattle.mj_prog.specs.declared.script_ports.Stage.{Stage}
use Rattle.mj_prog.specs.declared.script_ports.Stage.TheVariants as stages
use Rattle.mj_prog.specs.Reads.{ReadsNoFurther, StopsReading}
use Rattle.mj_prog.specs.ReadSoFar.{IsNext, IsSoFar}
use Rattle.mj_prog.specs.ReplayTable.{IsInput}
use Rattle.mj_prog.specs.Script.{script}
use Rattle.mj_prog.specs.Shown.{line_of_out, shown}
use Rattle.mj_words.specs.SinkCounts.{AreLater, SinkCounts}

-- ---- of the source

pub record SourceSeen : Type 0 where
  pub left : Option (List ℕ)
  pub last : Option (List ℕ)
  pub misses : ℕ
  pub faults : ℕ

abbrev pub source_seen : Option (List ℕ) → Option (List ℕ) → ℕ → ℕ → SourceSeen
source_seen left last misses faults = record { left = left; last = last; misses = misses; faults = faults }

-- how far the script was read, by its stage
abbrev pub ReadsTo : Option (List ℕ) → Option (List ℕ) → Progress → List Event → Stage → Type 0
ReadsTo from left p taken stages.Going = IsSoFar from left p.lanes p.pending.items p.room p.lines taken
ReadsTo from left p taken stages.Over = IsNext from left p.lanes p.pending.items p.room p.lines taken nexts.Over
ReadsTo from left p taken (stages.Line number) = IsNext from left p.lanes p.pending.items p.room p.lines taken (nexts.Line number)
ReadsTo from left p taken stages.Unread = IsNext from left p.lanes p.pending.items p.room p.lines taken nexts.Failed
ReadsTo from left p taken stages.Unwritten = ⊤

-- the events that were taken are the first of the script's; nothing is read behind what ends it
pub record HasRead (first now : SourceSeen) (began progress : Progress) (stage : Stage) (taken : List Event) : Type 0 where
  pub reads : ReadsTo first.left now.left progress taken stage
  pub events : (text : List ℕ) × (more : List Event) × IsInput first.left text × ((script began.lanes text).events ≡ taken ++ more)
  pub cause : stage ≡ stages.Unread → Rose first.faults now.faults
  pub later : first.faults ≤ now.faults
  pub no_further : ReadsNoFurther began.lanes first.left first.last now.last
  pub misses : StopsReading began.room progress.room first.misses now.misses
  pub lanes : progress.lanes ≡ began.lanes
  pub few : length taken + (progress.room + length progress.pending.items) ≤ 2 ^ 40

-- ---- of the sink

pub record SinkSeen : Type 0 where
  pub written : Option (List ℕ)
  pub counts : SinkCounts

abbrev pub sink_seen : Option (List ℕ) → SinkCounts → SinkSeen
sink_seen written counts = record { written = written; counts = counts }

-- a text is written, or, where memory or the write failed, a front of it
abbrev pub Prints : Option (List ℕ) → Option (List ℕ) → WriteAnswer → List ℕ → Type 0
Prints old new writes.Done text = Appends old new text
Prints old new writes.NoMemory text = AppendsFront old new text
Prints old new writes.Failed text = AppendsFront old new text

-- all that was given is printed, up to a write that wasn't done
pub record HasPrinted (first now : SinkSeen) (stage : Stage) (wrote : WriteAnswer) (outs : List Out) : Type 0 where
  pub prints : Prints first.written now.written wrote (shown outs)
  pub later : AreLater first.counts now.counts
  pub cause : WriteCause first.counts.faults now.counts.faults wrote
  pub unwritten : stage ≡ stages.Unwritten → Rose first.counts.faults now.counts.faults

-- one of the outs more, behind a last write that went so
abbrev pub AddsOut : Option (List ℕ) → Option (List ℕ) → WriteAnswer → WriteAnswer → Out → Type 0
AddsOut old new writes.Done result out = WriteAdds old new result (line_of_out out)
AddsOut old new writes.NoMemory result out = (result ≡ writes.NoMemory) × (new ≡ old)
AddsOut old new writes.Failed result out = (result ≡ writes.Failed) × (new ≡ old)

abbrev pub AddsCause : ℕ → ℕ → WriteAnswer → WriteAnswer → Type 0
AddsCause old new writes.Done result = WriteCause old new result
AddsCause old new writes.NoMemory result = ⊤
AddsCause old new writes.Failed result = ⊤

-- ---- of both

-- they are over the source and the sink with these names, took these events, and were given these entries
pub record Stands (names now_names : ℕ × ℕ) (source source_now : SourceSeen) (sink sink_now : SinkSeen) (began progress : Progress) (stage : Stage) (wrote : WriteAnswer) (taken : List Event) (given : List Entry) : Type 0 where
  pub same : now_names ≡ names
  pub read : HasRead source source_now began progress stage taken
  pub printed : HasPrinted sink sink_now stage wrote (outs_given given)
