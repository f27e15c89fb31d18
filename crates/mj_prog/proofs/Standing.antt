-- Laws of what ports over a script stand for.
use Rattle.std.proofs.Common.{◌≡◌, ◌≤◌, ◌+◌, ◌^◌, ℕ, false, List, [], ◌∷◌, ◌++◌, length, Option, refl, sym, ap, ◌∙◌, subst, inl, append-nil, arith, length-append}
use Rattle.std.specs.Io.KnownBytes.{Appends}
use Rattle.std.proofs.KnownBytes.{Appends-trans, Appends-kept, Appends-nil, Consumes-nil}
use Rattle.std.proofs.lemmas.List.{map-append}
use Rattle.mj_base.specs.EventBounds.{IsTakenBy}
use Rattle.mj_base.specs.Rising.{Rose}
use Rattle.mj_base.specs.Writing.{AppendsFront, WriteCause}
use Rattle.mj_base.specs.declared.event.Event.{Event}
use Rattle.mj_base.specs.declared.event.Event.TheVariants as events
use Rattle.mj_base.specs.declared.event.Out.{Out}
use Rattle.mj_base.specs.declared.sink.WriteAnswer.{WriteAnswer}
use Rattle.mj_base.specs.declared.sink.WriteAnswer.TheVariants as writes
use Rattle.mj_serve.specs.Given.{Entry, outs_given, taken_as}
use Rattle.mj_prog.specs.declared.next.Next.{Next}
use Rattle.mj_prog.specs.declared.next.Next.TheVariants as nexts
use Rattle.mj_prog.specs.declared.progress.Progress.{Progress}
use Rattle.mj_prog.specs.declared.script_ports.Stage.{Stage}
use Rattle.mj_prog.specs.declared.script_ports.Stage.TheVariants as stages
use Rattle.mj_prog.specs.Reads.{ReadsNoFurther, StopsReading}
use Rattle.mj_prog.specs.ReadSoFar.{IsNext, IsSoFar, NextCause, next_cost}
use Rattle.mj_prog.specs.ReplayTable.{IsInput}
use Rattle.mj_prog.specs.Running.{IsFresh, is_stopped}
use Rattle.mj_prog.specs.Script.{script}
use Rattle.mj_prog.specs.Shown.{line_of_out, shown}
use Rattle.mj_words.specs.SinkCounts.{AreLater, SinkCounts}
use Rattle.mj_prog.specs.Standing.{AddsCause, AddsOut, HasPrinted, HasRead, Prints, ReadsTo, SinkSeen, SourceSeen, Stands}
use Rattle.mj_prog.proofs.Printing.{front-of, front-behind, rose-from, rose-until, shown-append}
use Rattle.mj_prog.proofs.ReadingStops.{further, stops-on}
use Rattle.mj_prog.proofs.SoFar.{acted-nothing, text-of}

-- ---- the script's events

-- what reading on to the script's next event did
pub record ReadsOn (old new : SourceSeen) (before after : Progress) (next : Next) : Type 0 where
  pub stands : (from : Option (List ℕ)) (taken : List Event) → IsSoFar from old.left before.lanes before.pending.items before.room before.lines taken
      → IsNext from new.left after.lanes after.pending.items after.room after.lines taken next
  pub lanes : after.lanes ≡ before.lanes
  pub later : old.faults ≤ new.faults
  pub no_further : (from : Option (List ℕ)) (taken : List Event) → IsSoFar from old.left before.lanes before.pending.items before.room before.lines taken
      → ReadsNoFurther before.lanes from old.last new.last
  pub misses : StopsReading before.room after.room old.misses new.misses
  pub cause : NextCause old.faults new.faults next
  pub fewer : after.room + length after.pending.items + next_cost next ≤ before.room + length before.pending.items

pub going : (stage : Stage) → is_stopped stage ≡ false → stage ≡ stages.Going
going stages.Going is = refl
going stages.Over is = absurd (cc)
going (stages.Line number) is = absurd (cc)
going stages.Unread is = absurd (cc)
going stages.Unwritten is = absurd (cc)

pub taken-one : (lanes : ℕ) (event : Event) → IsTakenBy lanes event → taken_as event ≡ event ∷ []
taken-one lanes (events.Open lane) within = refl
taken-one lanes (events.Bytes lane piece) within = refl
taken-one lanes (events.Sent lane) within = refl
taken-one lanes (events.Close lane) within = refl
taken-one lanes (events.Tick ms) within = refl
taken-one lanes events.Stop within = absurd within

module _ (first old new : SourceSeen) (began before after : Progress) (taken : List Event) (next : Next) (on : ReadsOn old new before after next) (was : HasRead first old began before stages.Going taken) where
  on-further : ReadsNoFurther began.lanes first.left first.last new.last
  on-further =
      further began.lanes first.left first.last old.last new.last was.no_further
      (subst (λ (n : ℕ). ReadsNoFurther n first.left old.last new.last) was.lanes (on.no_further first.left taken was.reads))

  read-stop : (stage : Stage) → ReadsTo first.left new.left after taken stage → (stage ≡ stages.Unread → Rose first.faults new.faults) → HasRead first new began after stage taken
  read-stop stage reads cause = record {
    reads = reads;
    events = was.events;
    cause = cause;
    later = omega (arith, was.later, on.later);
    no_further = on-further;
    misses = stops-on began.room before.room after.room first.misses old.misses new.misses was.misses on.misses;
    lanes = on.lanes ∙ was.lanes;
    few = omega (arith, was.few, on.fewer);
  }

  read-event : (event : Event) → next ≡ nexts.Act event → IsNext first.left new.left after.lanes after.pending.items after.room after.lines taken (nexts.Act event)
      → HasRead first new began after stages.Going (taken ++ event ∷ [])
  read-event event is reads =
      let fewer : after.room + length after.pending.items + 1 ≤ before.room + length before.pending.items
      = subst (λ (n : Next). after.room + length after.pending.items + next_cost n ≤ before.room + length before.pending.items) is on.fewer in
      record {
        reads = reads;
        events = subst (λ (n : ℕ). (text : List ℕ) × (more : List Event) × IsInput first.left text × ((script n text).events ≡ (taken ++ event ∷ []) ++ more)) (on.lanes ∙ was.lanes)
            (text-of first.left new.left after.lanes after.pending.items after.room after.lines (taken ++ event ∷ []) reads);
        cause = λ never. absurd (cc);
        later = omega (arith, was.later, on.later);
        no_further = on-further;
        misses = stops-on began.room before.room after.room first.misses old.misses new.misses was.misses on.misses;
        lanes = on.lanes ∙ was.lanes;
        few = omega (arith, was.few, fewer, length-append taken (event ∷ []));
      }

-- the next event, or what ends the script
module _ (names now_names : ℕ × ℕ) (source old new : SourceSeen) (sink sink_now : SinkSeen) (began before after : Progress) (stage : Stage) (wrote : WriteAnswer) (taken : List Event) (given : List Entry) where
  read-is : is_stopped stage ≡ false → HasRead source old began before stage taken → HasRead source old began before stages.Going taken
  read-is unstopped read = subst (λ (s : Stage). HasRead source old began before s taken) (going stage unstopped) read

  printed-is : (next : Stage) → (next ≡ stages.Unwritten → Rose sink.counts.faults sink_now.counts.faults) → HasPrinted sink sink_now stage wrote (outs_given given) → HasPrinted sink sink_now next wrote (outs_given given)
  printed-is next unwritten printed = record { prints = printed.prints; later = printed.later; cause = printed.cause; unwritten = unwritten }

  pub stands-act : (lanes : ℕ) (event : Event) → IsTakenBy lanes event → is_stopped stage ≡ false → ReadsOn old new before after (nexts.Act event)
      → Stands names now_names source old sink sink_now began before stage wrote taken given
      → Stands names now_names source new sink sink_now began after stage wrote (taken ++ taken_as event) given
  stands-act lanes event within unstopped on stood =
      let was = read-is unstopped stood.read in
      let read = read-event source old new began before after taken (nexts.Act event) on was event refl (on.stands source.left taken was.reads) in
      record {
        same = stood.same;
        read = subst (λ (more : List Event). HasRead source new began after stage (taken ++ more)) (sym (taken-one lanes event within))
            (subst (λ (s : Stage). HasRead source new began after s (taken ++ event ∷ [])) (sym (going stage unstopped)) read);
        printed = stood.printed;
      }

  pub stands-still : is_stopped stage ≡ false → ReadsOn old new before after nexts.NoMemory
      → Stands names now_names source old sink sink_now began before stage wrote taken given
      → Stands names now_names source new sink sink_now began after stage wrote taken given
  stands-still unstopped on stood =
      let was = read-is unstopped stood.read in
      let read = read-stop source old new began before after taken nexts.NoMemory on was stages.Going (on.stands source.left taken was.reads) (λ never. absurd (cc)) in
      record {
        same = stood.same;
        read = subst (λ (s : Stage). HasRead source new began after s taken) (sym (going stage unstopped)) read;
        printed = stood.printed;
      }

  stands-stop : (next : Stage) → HasRead source new began after next taken → (next ≡ stages.Unwritten → Rose sink.counts.faults sink_now.counts.faults)
      → Stands names now_names source old sink sink_now began before stage wrote taken given
      → Stands names now_names source new sink sink_now began after next wrote (taken ++ []) given
  stands-stop next read unwritten stood = record {
    same = stood.same;
    read = subst (λ (more : List Event). HasRead source new began after next more) (sym (append-nil taken)) read;
    printed = printed-is next unwritten stood.printed;
  }

  pub stands-over : is_stopped stage ≡ false → ReadsOn old new before after nexts.Over
      → Stands names now_names source old sink sink_now began before stage wrote taken given
      → Stands names now_names source new sink sink_now began after stages.Over wrote (taken ++ []) given
  stands-over unstopped on stood =
      let was = read-is unstopped stood.read in
      stands-stop stages.Over (read-stop source old new began before after taken nexts.Over on was stages.Over (on.stands source.left taken was.reads) (λ never. absurd (cc))) (λ never. absurd (cc)) stood

  pub stands-line : (number : ℕ) → is_stopped stage ≡ false → ReadsOn old new before after (nexts.Line number)
      → Stands names now_names source old sink sink_now began before stage wrote taken given
      → Stands names now_names source new sink sink_now began after (stages.Line number) wrote (taken ++ []) given
  stands-line number unstopped on stood =
      let was = read-is unstopped stood.read in
      stands-stop (stages.Line number) (read-stop source old new began before after taken (nexts.Line number) on was (stages.Line number) (on.stands source.left taken was.reads) (λ never. absurd (cc))) (λ never. absurd (cc)) stood

  pub stands-unread : is_stopped stage ≡ false → ReadsOn old new before after nexts.Failed
      → Stands names now_names source old sink sink_now began before stage wrote taken given
      → Stands names now_names source new sink sink_now began after stages.Unread wrote (taken ++ []) given
  stands-unread unstopped on stood =
      let was = read-is unstopped stood.read in
      let rose : Rose source.faults new.faults = rose-from source.faults old.faults new.faults was.later on.cause in
      stands-stop stages.Unread (read-stop source old new began before after taken nexts.Failed on was stages.Unread (on.stands source.left taken was.reads) (λ _. rose)) (λ never. absurd (cc)) stood

-- it isn't read on behind a write that failed
pub stands-unwritten : (names now_names : ℕ × ℕ) (source now : SourceSeen) (sink sink_now : SinkSeen) (began progress : Progress) (stage : Stage) (taken : List Event) (given : List Entry)
    → Stands names now_names source now sink sink_now began progress stage writes.Failed taken given
    → Stands names now_names source now sink sink_now began progress stages.Unwritten writes.Failed (taken ++ []) given
stands-unwritten names now_names source now sink sink_now began progress stage taken given stood = record {
  same = stood.same;
  read = subst (λ (more : List Event). HasRead source now began progress stages.Unwritten more) (sym (append-nil taken)) (record {
    reads = tt;
    events = stood.read.events;
    cause = λ never. absurd (cc);
    later = stood.read.later;
    no_further = stood.read.no_further;
    misses = stood.read.misses;
    lanes = stood.read.lanes;
    few = stood.read.few;
  });
  printed = record { prints = stood.printed.prints; later = stood.printed.later; cause = stood.printed.cause; unwritten = λ _. stood.printed.cause };
}

-- ---- what is printed

one-more : (outs : List Out) (out : Out) → shown (outs ++ out ∷ []) ≡ shown outs ++ line_of_out out
one-more outs out = shown-append outs (out ∷ []) ∙ ap (λ (xs : List ℕ). shown outs ++ xs) (append-nil (line_of_out out))

-- a front is one of more, too
front-still : (first now : Option (List ℕ)) (outs : List Out) (out : Out) → AppendsFront first now (shown outs) → AppendsFront first now (shown (outs ++ out ∷ []))
front-still first now outs out front = front-behind first first now [] (shown outs) (line_of_out out) (shown (outs ++ out ∷ [])) (Appends-nil first) front (one-more outs out)

pub prints-more : (first old new : Option (List ℕ)) (wrote result : WriteAnswer) (outs : List Out) (out : Out) → Prints first old wrote (shown outs) → AddsOut old new wrote result out → Prints first new result (shown (outs ++ out ∷ []))
prints-more first old new writes.Done writes.Done outs out was adds = subst (Appends first new) (sym (one-more outs out)) (Appends-trans first old new (shown outs) (line_of_out out) was adds)
prints-more first old new writes.Done writes.NoMemory outs out was adds = front-of first new (shown outs) (line_of_out out) (shown (outs ++ out ∷ [])) (Appends-kept first old new (shown outs) was adds) (one-more outs out)
prints-more first old new writes.Done writes.Failed outs out was adds =
    front-behind first old new (shown outs) (line_of_out out) [] (shown (outs ++ out ∷ [])) was adds (one-more outs out ∙ ap (λ (xs : List ℕ). shown outs ++ xs) (sym (append-nil (line_of_out out))))
prints-more first old new writes.NoMemory result outs out was adds =
    subst (λ (answer : WriteAnswer). Prints first new answer (shown (outs ++ out ∷ []))) (sym adds.0)
    (subst (λ (now : Option (List ℕ)). AppendsFront first now (shown (outs ++ out ∷ []))) (sym adds.1) (front-still first old outs out was))
prints-more first old new writes.Failed result outs out was adds =
    subst (λ (answer : WriteAnswer). Prints first new answer (shown (outs ++ out ∷ []))) (sym adds.0)
    (subst (λ (now : Option (List ℕ)). AppendsFront first now (shown (outs ++ out ∷ []))) (sym adds.1) (front-still first old outs out was))

cause-more : (first old new : SinkCounts) (wrote result : WriteAnswer) (written now : Option (List ℕ)) (out : Out) → AreLater first old → AreLater old new → WriteCause first.faults old.faults wrote
    → AddsCause old.faults new.faults wrote result → AddsOut written now wrote result out → WriteCause first.faults new.faults result
cause-more first old new writes.Done writes.Done written now out was later cause added adds = tt
cause-more first old new writes.Done writes.NoMemory written now out was later cause added adds = tt
cause-more first old new writes.Done writes.Failed written now out was later cause added adds = rose-from first.faults old.faults new.faults was.faults added
cause-more first old new writes.NoMemory result written now out was later cause added adds = subst (WriteCause first.faults new.faults) (sym adds.0) tt
cause-more first old new writes.Failed result written now out was later cause added adds =
    subst (WriteCause first.faults new.faults) (sym adds.0) (rose-until first.faults old.faults new.faults cause later.faults)

-- one of the outs more was given
pub stands-given : (names now_names : ℕ × ℕ) (source now : SourceSeen) (sink old new : SinkSeen) (began progress : Progress) (stage : Stage) (wrote result : WriteAnswer) (taken : List Event) (given : List Entry)
    (entry : Entry) → AddsOut old.written new.written wrote result entry.out → AreLater old.counts new.counts → AddsCause old.counts.faults new.counts.faults wrote result
    → Stands names now_names source now sink old began progress stage wrote taken given
    → Stands names now_names source now sink new began progress stage result taken (given ++ entry ∷ [])
stands-given names now_names source now sink old new began progress stage wrote result taken given entry adds later cause stood = record {
  same = stood.same;
  read = stood.read;
  printed = subst (HasPrinted sink new stage result) (sym (map-append (λ (e : Entry). e.out) given (entry ∷ []))) (record {
    prints = prints-more sink.written old.written new.written wrote result (outs_given given) entry.out stood.printed.prints adds;
    later = record { faults = omega (arith, stood.printed.later.faults, later.faults); wants = omega (arith, stood.printed.later.wants, later.wants) };
    cause = cause-more sink.counts old.counts new.counts wrote result old.written new.written entry.out stood.printed.later later stood.printed.cause cause adds;
    unwritten = λ is. rose-until sink.counts.faults old.counts.faults new.counts.faults (stood.printed.unwritten is) later.faults;
  });
}

-- ---- where they begin

pub stands-fresh : (names : ℕ × ℕ) (source : SourceSeen) (sink : SinkSeen) (began : Progress) → IsFresh began
    → Stands names names source source sink sink began began stages.Going writes.Done [] []
stands-fresh names source sink began fresh =
    let none : IsSoFar source.left source.left began.lanes [] (2 ^ 40) 0 [] = record {
      acted = [];
      before = acted-nothing began.lanes;
      read = record { reading = λ some. (Consumes-nil source.left, refl); over = λ none. absurd (omega arith) };
    } in
    let so_far : IsSoFar source.left source.left began.lanes began.pending.items began.room began.lines []
    = subst (λ (pending : List ℕ). IsSoFar source.left source.left began.lanes pending began.room began.lines []) (sym fresh.pending)
    (subst (λ (room : ℕ). IsSoFar source.left source.left began.lanes [] room began.lines []) (sym fresh.room)
    (subst (λ (lines : ℕ). IsSoFar source.left source.left began.lanes [] (2 ^ 40) lines []) (sym fresh.lines) none)) in
    record {
      same = refl;
      read = record {
        reads = so_far;
        events = text-of source.left source.left began.lanes began.pending.items began.room began.lines [] so_far;
        cause = λ never. absurd (cc);
        later = omega arith;
        no_further = inl refl;
        misses = record { ended = λ is. (is, refl); going = λ some. refl; most = omega arith };
        lanes = refl;
        few = omega (arith, fresh.room, ap (λ (xs : List ℕ). length xs) fresh.pending);
      };
      printed = record {
        prints = Appends-nil sink.written;
        later = record { faults = omega arith; wants = omega arith };
        cause = tt;
        unwritten = λ never. absurd (cc);
      };
    }
