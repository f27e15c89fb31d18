-- What is counted of one more, and what the ports stand for then.
use Rattle.std.proofs.Common.{◌≡◌, ◌+◌, ℕ, Bool, true, false, ◌||◌, List, [], ◌∷◌, ◌++◌, length, Option, Some, None, IfSome, refl, sym, ap, ◌∙◌, subst, arith, length-append, append-nil}
use Rattle.std.proofs.lemmas.List.{append_assoc, map-append}
use Rattle.std.proofs.lemmas.List.Folds.{list_any-append}
use Rattle.std.specs.List.{list_any}
use Rattle.mj_base.specs.EventBounds.{IsTakenBy}
use Rattle.mj_base.specs.declared.event.Event.{Event}
use Rattle.mj_base.specs.declared.event.Event.TheVariants as events
use Rattle.mj_base.specs.declared.event.Note.{Note}
use Rattle.mj_base.specs.declared.event.Out.{Out}
use Rattle.mj_base.specs.declared.event.Out.TheVariants as outs
use Rattle.mj_base.specs.declared.reason.Reason.{Reason}
use Rattle.mj_laws.specs.Notes.{is_failure}
use Rattle.mj_machine.specs.DiskActs.{notes_in}
use Rattle.mj_serve.specs.Counts.{pieces_in}
use Rattle.mj_serve.specs.Given.{Entry, is_stop, outs_given, taken_as}
use Rattle.mj_gen.specs.Counting.{AreCounted, AreCountedIf, ends_in, octets_in, plus_end, plus_piece}
use Rattle.mj_gen.specs.Standing.{Stands}
use Rattle.mj_gen.specs.declared.counts.Counts.{Counts}

pieces-append : (given more : List Out) → pieces_in (given ++ more) ≡ pieces_in given + pieces_in more
pieces-append [] more = let e : pieces_in more ≡ 0 + pieces_in more = omega arith in e
pieces-append (outs.Piece lane octets ∷ rest) more = let e = pieces-append rest more in omega (arith, e)
pieces-append (outs.End lane reason at ∷ rest) more = pieces-append rest more
pieces-append (outs.Note note ∷ rest) more = pieces-append rest more

octets-append : (given more : List Out) → octets_in (given ++ more) ≡ octets_in given + octets_in more
octets-append [] more = let e : octets_in more ≡ 0 + octets_in more = omega arith in e
octets-append (outs.Piece lane octets ∷ rest) more = let e = octets-append rest more in omega (arith, e)
octets-append (outs.End lane reason at ∷ rest) more = octets-append rest more
octets-append (outs.Note note ∷ rest) more = octets-append rest more

ends-append : (given more : List Out) → ends_in (given ++ more) ≡ ends_in given + ends_in more
ends-append [] more = let e : ends_in more ≡ 0 + ends_in more = omega arith in e
ends-append (outs.Piece lane octets ∷ rest) more = ends-append rest more
ends-append (outs.End lane reason at ∷ rest) more = let e = ends-append rest more in omega (arith, e)
ends-append (outs.Note note ∷ rest) more = ends-append rest more

pub notes-append : (given more : List Out) → notes_in (given ++ more) ≡ notes_in given ++ notes_in more
notes-append [] more = refl
notes-append (outs.Piece lane octets ∷ rest) more = notes-append rest more
notes-append (outs.End lane reason at ∷ rest) more = notes-append rest more
notes-append (outs.Note note ∷ rest) more = ap (λ (notes : List Note). note ∷ notes) (notes-append rest more)

-- one more of each
pub one_event : (counts : Counts) (taken : List Event) (given : List Out) (event : Event) → AreCounted counts taken given
    → AreCounted (record { events = counts.events + 1; pieces = counts.pieces; octets = counts.octets; ends = counts.ends }) (taken ++ event ∷ []) given
one_event counts taken given event was = record {
  events = let e = length-append taken (event ∷ []) in omega (arith, e, was.events);
  pieces = was.pieces;
  octets = was.octets;
  ends = was.ends;
}

pub one_piece : (counts : Counts) (size : ℕ) (taken : List Event) (given : List Out) (lane : ℕ) (piece : List ℕ) → size ≡ length piece → AreCounted counts taken given
    → AreCounted (plus_piece size counts) taken (given ++ outs.Piece lane piece ∷ [])
one_piece counts size taken given lane piece is was = record {
  events = was.events;
  pieces = let e = pieces-append given (outs.Piece lane piece ∷ []) in omega (arith, e, was.pieces);
  octets = let e = octets-append given (outs.Piece lane piece ∷ []) in omega (arith, e, was.octets, is);
  ends = let e = ends-append given (outs.Piece lane piece ∷ []) in omega (arith, e, was.ends);
}

pub one_end : (counts : Counts) (taken : List Event) (given : List Out) (out : Out) → pieces_in (out ∷ []) ≡ 0 → octets_in (out ∷ []) ≡ 0 → ends_in (out ∷ []) ≡ 1 → AreCounted counts taken given
    → AreCounted (plus_end counts) taken (given ++ out ∷ [])
one_end counts taken given out no_piece no_octets an_end was = record {
  events = was.events;
  pieces = let e = pieces-append given (out ∷ []) in omega (arith, e, was.pieces, no_piece);
  octets = let e = octets-append given (out ∷ []) in omega (arith, e, was.octets, no_octets);
  ends = let e = ends-append given (out ∷ []) in omega (arith, e, was.ends, an_end);
}

one_note : (counts : Option Counts) (taken : List Event) (given : List Out) (note : Note) → AreCountedIf counts taken given → AreCountedIf counts taken (given ++ outs.Note note ∷ [])
one_note None taken given note was = tt
one_note (Some counts) taken given note was = record {
  events = was.events;
  pieces = let e = pieces-append given (outs.Note note ∷ []) in omega (arith, e, was.pieces);
  octets = let e = octets-append given (outs.Note note ∷ []) in omega (arith, e, was.octets);
  ends = let e = ends-append given (outs.Note note ∷ []) in omega (arith, e, was.ends);
}

-- where there is a sum
pub piece_if : (old : Option Counts) (counts : Counts) (size : ℕ) (result : Option Counts) → old ≡ Some counts → IfSome result (λ more. more ≡ plus_piece size counts)
    → (taken : List Event) (given : List Out) (lane : ℕ) (piece : List ℕ) → size ≡ length piece → AreCountedIf old taken given → AreCountedIf result taken (given ++ outs.Piece lane piece ∷ [])
piece_if old counts size None is says taken given lane piece size_is was = tt
piece_if old counts size (Some more) is says taken given lane piece size_is was =
    subst (λ (c : Counts). AreCounted c taken (given ++ outs.Piece lane piece ∷ [])) (sym says) (one_piece counts size taken given lane piece size_is (subst (λ (o : Option Counts). AreCountedIf o taken given) is was))

pub end_if : (old : Option Counts) (counts : Counts) (result : Option Counts) → old ≡ Some counts → IfSome result (λ more. more ≡ plus_end counts)
    → (taken : List Event) (given : List Out) (lane : ℕ) (reason : Reason) (at : ℕ) → AreCountedIf old taken given → AreCountedIf result taken (given ++ outs.End lane reason at ∷ [])
end_if old counts None is says taken given lane reason at was = tt
end_if old counts (Some more) is says taken given lane reason at was =
    subst (λ (c : Counts). AreCounted c taken (given ++ outs.End lane reason at ∷ [])) (sym says) (one_end counts taken given (outs.End lane reason at) refl refl refl (subst (λ (o : Option Counts). AreCountedIf o taken given) is was))

no-both : true ≡ false → ⊥
no-both e = cc

-- ---- the ports

one-given : (given : List Entry) (entry : Entry) → outs_given (given ++ entry ∷ []) ≡ outs_given given ++ entry.out ∷ []
one-given given entry = map-append (λ (e : Entry). e.out) given (entry ∷ [])

pub taken_one : (lanes : ℕ) (event : Event) → IsTakenBy lanes event → taken_as event ≡ event ∷ []
taken_one lanes (events.Open lane) within = refl
taken_one lanes (events.Bytes lane piece) within = refl
taken_one lanes (events.Sent lane) within = refl
taken_one lanes (events.Close lane) within = refl
taken_one lanes (events.Tick ms) within = refl
taken_one lanes events.Stop within = absurd within

pub goes : (lanes : ℕ) (event : Event) → IsTakenBy lanes event → is_stop event ≡ false
goes lanes (events.Open lane) within = refl
goes lanes (events.Bytes lane piece) within = refl
goes lanes (events.Sent lane) within = refl
goes lanes (events.Close lane) within = refl
goes lanes (events.Tick ms) within = refl
goes lanes events.Stop within = absurd within

module _ (first rest : List Event) (counts : Option Counts) (shut stopped : Bool) (taken : List Event) (given : List Entry) (was : Stands first rest counts shut stopped taken given) where
  -- an event
  pub stands-event : (lanes : ℕ) (event : Event) (next : List Event) (now : Option Counts) → IsTakenBy lanes event → rest ≡ event ∷ next → stopped ≡ false
      → (AreCountedIf counts taken (outs_given given) → AreCountedIf now (taken ++ event ∷ []) (outs_given given))
      → Stands first next now shut stopped (taken ++ taken_as event) given
  stands-event lanes event next now within is going counted = record {
    events = was.events ∙ ap (λ (r : List Event). taken ++ r) is ∙ sym (append_assoc taken (event ∷ []) next) ∙ ap (λ (e : List Event). (taken ++ e) ++ next) (sym (taken_one lanes event within));
    counted = subst (λ (e : List Event). AreCountedIf now (taken ++ e) (outs_given given)) (sym (taken_one lanes event within)) (counted was.counted);
    failed = was.failed;
    whole = λ stop. absurd (no-both (sym stop ∙ going));
  }

  -- the end
  pub stands-end : (shut ≡ false → rest ≡ []) → Stands first rest counts shut true (taken ++ []) given
  stands-end whole = subst (λ (e : List Event). Stands first rest counts shut true e given) (sym (append-nil taken))
      (record { events = was.events; counted = was.counted; failed = was.failed; whole = λ stop. whole })

  -- what is given
  stands-given : (entry : Entry) (now : Option Counts) (after : Bool) → AreCountedIf now taken (outs_given given ++ entry.out ∷ []) → list_any is_failure (notes_in (outs_given given ++ entry.out ∷ [])) ≡ after
      → (stopped ≡ true → after ≡ false → rest ≡ [])
      → Stands first rest now after stopped taken (given ++ entry ∷ [])
  stands-given entry now after counted failed whole = record {
    events = was.events;
    counted = subst (AreCountedIf now taken) (sym (one-given given entry)) counted;
    failed = ap (λ (o : List Out). list_any is_failure (notes_in o)) (one-given given entry) ∙ failed;
    whole = whole;
  }

  no-note : (out : Out) → notes_in (out ∷ []) ≡ [] → list_any is_failure (notes_in (outs_given given ++ out ∷ [])) ≡ shut
  no-note out none = ap (list_any is_failure) (notes-append (outs_given given) (out ∷ []) ∙ ap (λ (n : List Note). notes_in (outs_given given) ++ n) none ∙ append-nil (notes_in (outs_given given))) ∙ was.failed

  pub stands-out : (entry : Entry) (now : Option Counts) → notes_in (entry.out ∷ []) ≡ [] → (AreCountedIf counts taken (outs_given given) → AreCountedIf now taken (outs_given given ++ entry.out ∷ []))
      → Stands first rest now shut stopped taken (given ++ entry ∷ [])
  stands-out entry now none counted = stands-given entry now shut (counted was.counted) (no-note entry.out none) was.whole

  or-not : (a b : Bool) → (a || b) ≡ false → a ≡ false
  or-not true b e = e
  or-not false b e = refl

  or-none : (b : Bool) → (b || false) ≡ b
  or-none true = refl
  or-none false = refl

  pub stands-note : (note : Note) (entry : Entry) (after : Bool) → entry.out ≡ outs.Note note → after ≡ (shut || is_failure note) → Stands first rest counts after stopped taken (given ++ entry ∷ [])
  stands-note note entry after is says =
      let noted : list_any is_failure (notes_in (outs_given given ++ outs.Note note ∷ [])) ≡ after
      = ap (list_any is_failure) (notes-append (outs_given given) (outs.Note note ∷ [])) ∙ list_any-append is_failure (notes_in (outs_given given)) (note ∷ []) ∙ ap (λ (b : Bool). b || (is_failure note || false)) was.failed ∙ ap (λ (b : Bool). shut || b) (or-none (is_failure note)) ∙ sym says in
      stands-given entry counts after (subst (λ (o : Out). AreCountedIf counts taken (outs_given given ++ o ∷ [])) (sym is) (one_note counts taken (outs_given given) note was.counted))
      (subst (λ (o : Out). list_any is_failure (notes_in (outs_given given ++ o ∷ [])) ≡ after) (sym is) noted)
      (λ stop not. was.whole stop (or-not shut (is_failure note) (sym says ∙ not)))
