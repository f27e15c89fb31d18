-- Laws of how far a script was acted on.
use Rattle.std.proofs.Common.{◌≡◌, ◌<◌, ◌≤◌, ◌+◌, ◌-◌, ℕ, true, List, [], ◌∷◌, ◌++◌, length, take, drop, Option, Result, Ok, Err, IfOk, refl, sym, ap, ◌∙◌, subst, append_assoc, append-nil, arith, length-append, nat_lt}
use Rattle.std.proofs.lemmas.Bool.Decides.{nat_tests}
use Rattle.std.specs.Io.KnownBytes.{Consumes, Keeps, IsAtEnd}
use Rattle.mj_base.specs.declared.event.Event.{Event}
use Rattle.mj_base.specs.declared.memory.NoMemory.{NoMemory}
use Rattle.mj_prog.specs.declared.progress.Progress.{Progress}
use Rattle.mj_prog.specs.declared.meaning.Meaning.{Meaning}
use Rattle.mj_prog.specs.declared.meaning.Meaning.TheVariants as meanings
use Rattle.mj_prog.specs.declared.next.Next.{Next}
use Rattle.mj_prog.specs.declared.next.Next.TheVariants as nexts
use Rattle.mj_prog.specs.Script.{Ending, IsLawful, lines_of, ended_part, events_in, events_on, ending_in, ending_on, script, meaning_of}
use Rattle.mj_prog.specs.ReplayTable.{IsInput}
use Rattle.mj_prog.specs.ReadSoFar.{HasNoNewline, IsNewlineAt, IsActedOn, IsRead, IsSoFar, IsNext, IsStep, IsBehind, MeansNext, StepCause}
use Rattle.mj_prog.proofs.ScriptLines.{lines-newline, lines-last, lines-ended, lines-long, ended-newline, ended-nothing}
use Rattle.mj_prog.proofs.Lists.{drop-all}
use Rattle.mj_prog.proofs.Inputs.{text-now, read-got, read-end, read-kept}

pub acted-nothing : (lanes : ℕ) → IsActedOn lanes [] [] 0
acted-nothing lanes = record { events = λ rest. refl; ending = λ rest. refl; ended = ended-nothing }

join : (acted line rest : List ℕ) → (acted ++ (line ++ 10 ∷ [])) ++ rest ≡ acted ++ (line ++ 10 ∷ rest)
join acted line rest =
    append_assoc acted (line ++ 10 ∷ []) rest ∙ ap (λ (t : List ℕ). acted ++ t) (append_assoc line (10 ∷ []) rest)

-- after a line that means this, the script goes on with these events
abbrev pub GoesOn : Meaning → List Event → Type 0
GoesOn meaning given =
    ((later : List Event) → events_on meaning later ≡ given ++ later) × ((number : ℕ) (later : Ending) → ending_on meaning number later ≡ later)

-- one more line after which the script goes on
pub acted-line : (lanes : ℕ) (acted line : List ℕ) (taken given : List Event) (lines : ℕ) (meaning : Meaning) → HasNoNewline line
    → meaning_of lanes line ≡ meaning → GoesOn meaning given → IsActedOn lanes acted taken lines
    → IsActedOn lanes (acted ++ (line ++ 10 ∷ [])) (taken ++ given) (lines + 1)
acted-line lanes acted line taken given lines meaning none means on before = record {
  events = λ rest.
      ap (λ (t : List ℕ). events_in lanes (lines_of t)) (join acted line rest)
      ∙ before.events (line ++ 10 ∷ rest)
      ∙ ap (λ (es : List Event). taken ++ es) (ap (events_in lanes) (lines-newline line rest none) ∙ ap (λ (m : Meaning). events_on m (events_in lanes (lines_of rest))) means ∙ on.0 (events_in lanes (lines_of rest)))
      ∙ sym (append_assoc taken given (events_in lanes (lines_of rest)));
  ending = λ rest.
      ap (λ (t : List ℕ). ending_in lanes 1 (lines_of t)) (join acted line rest)
      ∙ before.ending (line ++ 10 ∷ rest)
      ∙ ap (ending_in lanes (lines + 1)) (lines-newline line rest none)
      ∙ ap (λ (m : Meaning). ending_on m (lines + 1) (ending_in lanes (lines + 1 + 1) (lines_of rest))) means
      ∙ on.1 (lines + 1) (ending_in lanes (lines + 1 + 1) (lines_of rest));
  ended = λ rest clean.
      ap ended_part (join acted line rest ∙ sym (append_assoc acted line (10 ∷ rest)))
      ∙ ended-newline (acted ++ line) rest clean
      ∙ append_assoc acted line (10 ∷ []);
}

-- whatever follows the pending bytes, the first line means this
abbrev pub FirstMeans : ℕ → List ℕ → ℕ → Meaning → Type 0
FirstMeans lanes pending room meaning =
    (rest : List ℕ) → (room ≡ 0 → rest ≡ [])
    → (line : List ℕ) × (later : List (List ℕ)) × (lines_of (pending ++ rest) ≡ line ∷ later) × (meaning_of lanes line ≡ meaning)

pub first-newline : (lanes room end : ℕ) (pending : List ℕ) (meaning : Meaning) → IsNewlineAt pending end → meaning_of lanes (take end pending) ≡ meaning
    → FirstMeans lanes pending room meaning
first-newline lanes room end pending meaning at means rest over = (
  take end pending,
  lines_of (drop (end + 1) pending ++ rest),
  ap (λ (t : List ℕ). lines_of (t ++ rest)) at.2 ∙ ap lines_of (append_assoc (take end pending) (10 ∷ drop (end + 1) pending) rest) ∙ lines-newline (take end pending) (drop (end + 1) pending ++ rest) at.1,
  means,
)

pub first-last : (lanes room : ℕ) (pending : List ℕ) (meaning : Meaning) → HasNoNewline pending → room ≡ 0 → 0 < length pending
    → meaning_of lanes pending ≡ meaning → FirstMeans lanes pending room meaning
first-last lanes room pending meaning none over some means rest ends =
    (pending, [], ap (λ (r : List ℕ). lines_of (pending ++ r)) (ends over) ∙ ap lines_of (append-nil pending) ∙ lines-last pending none some, means)

long-unlawful : (lanes : ℕ) (line : List ℕ) → 131081 < length line → meaning_of lanes line ≡ meanings.Unlawful
long-unlawful lanes line long = let test : nat_lt 131081 (length line) ≡ true = grind (arith, nat_tests) in rw test refl

pub first-long : (lanes room : ℕ) (pending : List ℕ) → HasNoNewline pending → 131081 < length pending → FirstMeans lanes pending room meanings.Unlawful
first-long lanes room pending none long rest ends =
    let h = lines-long pending rest none (omega arith) in
    (pending ++ h.0, h.1, h.2, long-unlawful lanes (pending ++ h.0) (omega (arith, length-append pending h.0)))

-- the script's events and its ending, from where the pending bytes begin
script-from : (from now : Option (List ℕ)) (lanes : ℕ) (pending : List ℕ) (room lines : ℕ) (taken : List Event)
    → IsSoFar from now lanes pending room lines taken
    → (text : List ℕ) × (rest : List ℕ) × IsInput from text × (room ≡ 0 → rest ≡ [])
    × ((script lanes text).events ≡ taken ++ events_in lanes (lines_of (pending ++ rest)))
    × ((script lanes text).ending ≡ ending_in lanes (lines + 1) (lines_of (pending ++ rest)))
script-from from now lanes pending room lines taken s =
    let t = text-now from now room (s.acted ++ pending) s.read in
    let same : lines_of t.0 ≡ lines_of (s.acted ++ (pending ++ t.1)) = t.3 ∙ ap lines_of (append_assoc s.acted pending t.1) in (
      t.0,
      t.1,
      t.2,
      t.4,
      ap (events_in lanes) same ∙ s.before.events (pending ++ t.1),
      ap (ending_in lanes 1) same ∙ s.before.ending (pending ++ t.1),
    )

-- the events so far are the first of the script's
pub text-of : (from now : Option (List ℕ)) (lanes : ℕ) (pending : List ℕ) (room lines : ℕ) (taken : List Event)
    → IsSoFar from now lanes pending room lines taken
    → (text : List ℕ) × (more : List Event) × IsInput from text × ((script lanes text).events ≡ taken ++ more)
text-of from now lanes pending room lines taken s =
    let t = script-from from now lanes pending room lines taken s in (t.0, events_in lanes (lines_of (pending ++ t.1)), t.2, t.4)

lawful-stop : (ending : Ending) (number : ℕ) (later : Ending) → ending ≡ ending_on meanings.Stop number later → IsLawful ending
lawful-stop ending number later e = subst IsLawful (sym e) tt

pub over-stop : (from now : Option (List ℕ)) (lanes : ℕ) (pending : List ℕ) (room lines : ℕ) (taken : List Event)
    → IsSoFar from now lanes pending room lines taken → FirstMeans lanes pending room meanings.Stop
    → IsNext from now lanes pending room lines taken nexts.Over
over-stop from now lanes pending room lines taken s first =
    let t = script-from from now lanes pending room lines taken s in
    let f = first t.1 t.3 in (
      t.0,
      t.2,
      t.4 ∙ ap (λ (ls : List (List ℕ)). taken ++ events_in lanes ls) f.2 ∙ ap (λ (m : Meaning). taken ++ events_on m (events_in lanes f.1)) f.3 ∙ append-nil taken,
      lawful-stop _ (lines + 1) (ending_in lanes (lines + 1 + 1) f.1) (t.5 ∙ ap (ending_in lanes (lines + 1)) f.2 ∙ ap (λ (m : Meaning). ending_on m (lines + 1) (ending_in lanes (lines + 1 + 1) f.1)) f.3),
    )

pub line-unlawful : (from now : Option (List ℕ)) (lanes : ℕ) (pending : List ℕ) (room lines : ℕ) (taken : List Event)
    → IsSoFar from now lanes pending room lines taken → FirstMeans lanes pending room meanings.Unlawful
    → IsNext from now lanes pending room lines taken (nexts.Line (lines + 1))
line-unlawful from now lanes pending room lines taken s first =
    let t = script-from from now lanes pending room lines taken s in
    let f = first t.1 t.3 in (
      t.0,
      t.2,
      t.4 ∙ ap (λ (ls : List (List ℕ)). taken ++ events_in lanes ls) f.2 ∙ ap (λ (m : Meaning). taken ++ events_on m (events_in lanes f.1)) f.3 ∙ append-nil taken,
      t.5 ∙ ap (ending_in lanes (lines + 1)) f.2 ∙ ap (λ (m : Meaning). ending_on m (lines + 1) (ending_in lanes (lines + 1 + 1) f.1)) f.3,
    )

pub over-end : (from now : Option (List ℕ)) (lanes : ℕ) (pending : List ℕ) (room lines : ℕ) (taken : List Event)
    → IsSoFar from now lanes pending room lines taken → pending ≡ [] → room ≡ 0
    → IsNext from now lanes pending room lines taken nexts.Over
over-end from now lanes pending room lines taken s empty over =
    let t = script-from from now lanes pending room lines taken s in
    let none : pending ++ t.1 ≡ [] = ap (λ (xs : List ℕ). xs ++ t.1) empty ∙ t.3 over in (
      t.0,
      t.2,
      t.4 ∙ ap (λ (xs : List ℕ). taken ++ events_in lanes (lines_of xs)) none ∙ append-nil taken,
      subst IsLawful (sym (t.5 ∙ ap (λ (xs : List ℕ). ending_in lanes (lines + 1) (lines_of xs)) none)) tt,
    )

pub failed-read : (from now new : Option (List ℕ)) (lanes : ℕ) (pending : List ℕ) (room lines : ℕ) (taken : List Event)
    → IsSoFar from now lanes pending room lines taken → HasNoNewline pending → 0 < room → Keeps now new
    → IsNext from new lanes pending room lines taken nexts.Failed
failed-read from now new lanes pending room lines taken s none some kept =
    let r = read-kept from now new room (s.acted ++ pending) s.read kept in
    let h = r.reading some in
    let ended : ended_part (s.acted ++ pending) ≡ s.acted ++ [] = s.before.ended pending none ∙ sym (append-nil s.acted) in (
      s.acted ++ pending,
      h.0,
      ap (λ (t : List ℕ). events_in lanes (lines_of t)) ended ∙ s.before.events [] ∙ append-nil taken,
      ap (λ (t : List ℕ). ending_in lanes 1 (lines_of t)) ended ∙ s.before.ending [],
    )

pub so_far-got : (from now new : Option (List ℕ)) (lanes : ℕ) (pending octets : List ℕ) (room count lines : ℕ) (taken : List Event)
    → IsSoFar from now lanes pending room lines taken → 0 < room → count ≤ room → length octets ≡ count → Consumes now new octets
    → IsSoFar from new lanes (pending ++ octets) (room - count) lines taken
so_far-got from now new lanes pending octets room count lines taken s some few size took = record {
  acted = s.acted;
  before = s.before;
  read = subst (IsRead from new (room - count)) (append_assoc s.acted pending octets) (read-got from now new room count (s.acted ++ pending) octets s.read some few size took);
}

pub so_far-end : (from now new : Option (List ℕ)) (lanes : ℕ) (pending : List ℕ) (room lines : ℕ) (taken : List Event)
    → IsSoFar from now lanes pending room lines taken → 0 < room → Keeps now new → IsAtEnd new
    → IsSoFar from new lanes pending 0 lines taken
so_far-end from now new lanes pending room lines taken s some kept end = record {
  acted = s.acted;
  before = s.before;
  read = read-end from now new room (s.acted ++ pending) s.read some kept end;
}

pub so_far-kept : (from now new : Option (List ℕ)) (lanes : ℕ) (pending : List ℕ) (room lines : ℕ) (taken : List Event)
    → IsSoFar from now lanes pending room lines taken → Keeps now new → IsSoFar from new lanes pending room lines taken
so_far-kept from now new lanes pending room lines taken s kept = record {
  acted = s.acted;
  before = s.before;
  read = read-kept from now new room (s.acted ++ pending) s.read kept;
}

pub so_far-line : (from now : Option (List ℕ)) (lanes : ℕ) (pending line rest : List ℕ) (room lines : ℕ) (taken given : List Event) (meaning : Meaning)
    → IsSoFar from now lanes pending room lines taken → HasNoNewline line → pending ≡ line ++ 10 ∷ rest → meaning_of lanes line ≡ meaning → GoesOn meaning given
    → IsSoFar from now lanes rest room (lines + 1) (taken ++ given)
so_far-line from now lanes pending line rest room lines taken given meaning s none cut means on = record {
  acted = s.acted ++ (line ++ 10 ∷ []);
  before = acted-line lanes s.acted line taken given lines meaning none means on s.before;
  read = subst (IsRead from now room) (ap (λ (xs : List ℕ). s.acted ++ xs) cut ∙ sym (join s.acted line rest)) s.read;
}

pub so_far-last : (from now : Option (List ℕ)) (lanes : ℕ) (pending : List ℕ) (room lines : ℕ) (taken given : List Event) (meaning : Meaning)
    → IsSoFar from now lanes pending room lines taken → HasNoNewline pending → room ≡ 0 → 0 < length pending → meaning_of lanes pending ≡ meaning → GoesOn meaning given
    → IsSoFar from now lanes [] room (lines + 1) (taken ++ given)
so_far-last from now lanes pending room lines taken given meaning s none over some means on =
    let h = s.read.over over in
    let whole = s.acted ++ (pending ++ 10 ∷ []) in
    record {
      acted = whole;
      before = acted-line lanes s.acted pending taken given lines meaning none means on s.before;
      read = record {
        reading = λ more. absurd (omega arith);
        over = λ _. (h.0, h.1, h.2 ∙ sym (lines-ended s.acted pending none some) ∙ ap lines_of (sym (append-nil whole)));
      };
    }

-- what stands where a line was taken out
behind-is : (from now : Option (List ℕ)) (old new : Progress) (count : ℕ) (taken : List Event) → IsBehind old new count
    → IsSoFar from now old.lanes (drop count old.pending.items) old.room (old.lines + 1) taken
    → IsSoFar from now new.lanes new.pending.items new.room new.lines taken
behind-is from now old new count taken behind s =
    subst (λ (xs : List ℕ). IsSoFar from now new.lanes xs new.room new.lines taken) (sym behind.0)
    (subst (λ (n : ℕ). IsSoFar from now new.lanes (drop count old.pending.items) new.room n taken) (sym behind.1)
    (subst (λ (n : ℕ). IsSoFar from now n (drop count old.pending.items) new.room (old.lines + 1) taken) (sym behind.2)
    (subst (λ (n : ℕ). IsSoFar from now old.lanes (drop count old.pending.items) n (old.lines + 1) taken) (sym behind.3) s)))

-- doing what the first line says, where it and what follows it are known
follow-first : (from now : Option (List ℕ)) (old new : Progress) (count : ℕ) (meaning : Meaning) (next : Option Next) (taken : List Event)
    → ((given : List Event) → GoesOn meaning given → IsSoFar from now old.lanes (drop count old.pending.items) old.room (old.lines + 1) (taken ++ given))
    → FirstMeans old.lanes old.pending.items old.room meaning
    → MeansNext old new count (Ok meaning) next
    → IsSoFar from now old.lanes old.pending.items old.room old.lines taken
    → IsStep from now new.lanes new.pending.items new.room new.lines taken next
follow-first from now old new count (meanings.Act event) next taken behind first means s =
    subst (λ (n : Option Next). IsStep from now new.lanes new.pending.items new.room new.lines taken n) (sym means.0)
    (behind-is from now old new count (taken ++ event ∷ []) means.1 (behind (event ∷ []) (λ later. refl, λ number later. refl)))
follow-first from now old new count meanings.Nothing next taken behind first means s =
    subst (λ (n : Option Next). IsStep from now new.lanes new.pending.items new.room new.lines taken n) (sym means.0)
    (behind-is from now old new count taken means.1
    (subst (λ (es : List Event). IsSoFar from now old.lanes (drop count old.pending.items) old.room (old.lines + 1) es) (append-nil taken) (behind [] (λ later. refl, λ number later. refl))))
follow-first from now old new count meanings.Stop next taken behind first means s =
    subst (λ (n : Option Next). IsStep from now new.lanes new.pending.items new.room new.lines taken n) (sym means.0)
    (subst (λ (p : Progress). IsNext from now p.lanes p.pending.items p.room p.lines taken nexts.Over) (sym means.1)
    (over-stop from now old.lanes old.pending.items old.room old.lines taken s first))
follow-first from now old new count meanings.Unlawful next taken behind first means s =
    subst (λ (n : Option Next). IsStep from now new.lanes new.pending.items new.room new.lines taken n) (sym means.0)
    (subst (λ (p : Progress). IsNext from now p.lanes p.pending.items p.room p.lines taken (nexts.Line (old.lines + 1))) (sym means.1)
    (line-unlawful from now old.lanes old.pending.items old.room old.lines taken s first))

-- nothing was done without memory
follow-memory : (from now : Option (List ℕ)) (old new : Progress) (count : ℕ) (e : NoMemory) (next : Option Next) (taken : List Event)
    → MeansNext old new count (Err e) next
    → IsSoFar from now old.lanes old.pending.items old.room old.lines taken
    → IsStep from now new.lanes new.pending.items new.room new.lines taken next
follow-memory from now old new count e next taken means s =
    subst (λ (n : Option Next). IsStep from now new.lanes new.pending.items new.room new.lines taken n) (sym means.0)
    (subst (λ (p : Progress). IsNext from now p.lanes p.pending.items p.room p.lines taken nexts.NoMemory) (sym means.1) s)

-- doing what the first line says, which has a newline
pub next-line : (from now : Option (List ℕ)) (old new : Progress) (end : ℕ) (meaning : Result Meaning NoMemory) (next : Option Next) (taken : List Event)
    → IsNewlineAt old.pending.items end → IfOk meaning (λ m. m ≡ meaning_of old.lanes (take end old.pending.items))
    → MeansNext old new (end + 1) meaning next
    → IsSoFar from now old.lanes old.pending.items old.room old.lines taken
    → IsStep from now new.lanes new.pending.items new.room new.lines taken next
next-line from now old new end (Ok meaning) next taken at reads means s =
    follow-first from now old new (end + 1) meaning next taken
    (λ given on. so_far-line from now old.lanes old.pending.items (take end old.pending.items) (drop (end + 1) old.pending.items) old.room old.lines taken given meaning s at.1 at.2 (sym reads) on)
    (first-newline old.lanes old.room end old.pending.items meaning at (sym reads)) means s
next-line from now old new end (Err e) next taken at reads means s = follow-memory from now old new (end + 1) e next taken means s

-- the same of the last line, which has none
pub next-last : (from now : Option (List ℕ)) (old new : Progress) (meaning : Result Meaning NoMemory) (next : Option Next) (taken : List Event)
    → HasNoNewline old.pending.items → old.room ≡ 0 → 0 < length old.pending.items → IfOk meaning (λ m. m ≡ meaning_of old.lanes old.pending.items)
    → MeansNext old new (length old.pending.items) meaning next
    → IsSoFar from now old.lanes old.pending.items old.room old.lines taken
    → IsStep from now new.lanes new.pending.items new.room new.lines taken next
next-last from now old new (Ok meaning) next taken none over some reads means s =
    follow-first from now old new (length old.pending.items) meaning next taken
    (λ given on. subst (λ (xs : List ℕ). IsSoFar from now old.lanes xs old.room (old.lines + 1) (taken ++ given)) (sym (drop-all old.pending.items))
    (so_far-last from now old.lanes old.pending.items old.room old.lines taken given meaning s none over some (sym reads) on))
    (first-last old.lanes old.room old.pending.items meaning none over some (sym reads)) means s
next-last from now old new (Err e) next taken none over some reads means s = follow-memory from now old new (length old.pending.items) e next taken means s

-- what a line says fails no read
pub means-unread : (before now : ℕ) (old new : Progress) (count : ℕ) (meaning : Result Meaning NoMemory) (next : Option Next) → MeansNext old new count meaning next → StepCause before now next
means-unread before now old new count (Ok (meanings.Act event)) next means = subst (StepCause before now) (sym means.0) tt
means-unread before now old new count (Ok meanings.Nothing) next means = subst (StepCause before now) (sym means.0) tt
means-unread before now old new count (Ok meanings.Stop) next means = subst (StepCause before now) (sym means.0) tt
means-unread before now old new count (Ok meanings.Unlawful) next means = subst (StepCause before now) (sym means.0) tt
means-unread before now old new count (Err e) next means = subst (StepCause before now) (sym means.0) tt
