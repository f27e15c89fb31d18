-- Laws of how far a source is read.
use Rattle.std.proofs.Common.{◌≡◌, ◌<◌, ◌⊎◌, ℕ, zero, suc, List, [], ◌++◌, Option, refl, sym, ap, ◌∙◌, subst, inl, inr, append-nil, arith}
use Rattle.mj_base.specs.declared.event.Event.{Event}
use Rattle.mj_prog.specs.Script.{ending_in, lines_of, ended_part}
use Rattle.mj_prog.specs.ReadSoFar.{HasNoNewline, IsSoFar}
use Rattle.mj_prog.specs.Reads.{IsBehindEvents, ReadsNoFurther, StopsReading}

-- one stretch of reading behind another
pub further : (lanes : ℕ) (from first mid last : Option (List ℕ)) → ReadsNoFurther lanes from first mid → ReadsNoFurther lanes from mid last → ReadsNoFurther lanes from first last
further lanes from first mid last before (inl same) = subst (ReadsNoFurther lanes from first) (sym same) before
further lanes from first mid last before (inr behind) = inr behind

-- what is read so far, where no line is pending
pub behind-events : (from now : Option (List ℕ)) (lanes : ℕ) (pending : List ℕ) (room lines : ℕ) (taken : List Event)
    → IsSoFar from now lanes pending room lines taken → HasNoNewline pending → 0 < room → IsBehindEvents lanes from now
behind-events from now lanes pending room lines taken s none some =
    let ended : ended_part (s.acted ++ pending) ≡ s.acted ++ [] = s.before.ended pending none ∙ sym (append-nil s.acted) in (
      s.acted ++ pending,
      (s.read.reading some).0,
      ap (λ (t : List ℕ). ending_in lanes 1 (lines_of t)) ended ∙ s.before.ending [],
    )

pub reads-here : (from now first last : Option (List ℕ)) (lanes : ℕ) (pending : List ℕ) (room lines : ℕ) (taken : List Event) → (last ≡ now) ⊎ (last ≡ first)
    → IsSoFar from now lanes pending room lines taken → HasNoNewline pending → 0 < room → ReadsNoFurther lanes from first last
reads-here from now first last lanes pending room lines taken (inl read) s none some =
    inr (subst (IsBehindEvents lanes from) (sym read) (behind-events from now lanes pending room lines taken s none some))
reads-here from now first last lanes pending room lines taken (inr unread) s none some = inl unread

none-or-some : (n : ℕ) → (n ≡ 0) ⊎ (0 < n)
none-or-some zero = inl refl
none-or-some (suc n) = inr (omega arith)

stops-from : (a b c m n o : ℕ) → StopsReading a b m n → StopsReading b c n o → (b ≡ 0) ⊎ (0 < b) → StopsReading a c m o
stops-from a b c m n o first second (inl none) =
    let end = second.ended none in
    record {
      ended = λ is. (end.0, end.1 ∙ (first.ended is).1);
      going = λ some. absurd (omega (arith, end.0));
      most = omega (arith, first.most, end.1);
    }
stops-from a b c m n o first second (inr some) =
    let same = first.going some in
    record {
      ended = λ is. absurd (omega (arith, (first.ended is).0));
      going = λ more. second.going more ∙ same;
      most = omega (arith, second.most, same);
    }

pub stops-on : (a b c m n o : ℕ) → StopsReading a b m n → StopsReading b c n o → StopsReading a c m o
stops-on a b c m n o first second = stops-from a b c m n o first second (none-or-some b)
