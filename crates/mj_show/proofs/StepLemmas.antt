-- A showing, piece by piece.
use Rattle.std.proofs.Common.{◌≡◌, ◌<◌, ◌≤◌, ◌+◌, ◌-◌, ◌^◌, ℕ, min, Bool, true, false, Result, Ok, Err, IfOk, IfErr, OnOk, OnErr, List, [], ◌++◌, length, take, Option, refl, sym, ap, subst, ◌∙◌, append_assoc, arith, length-append, length-take}
use Rattle.std.specs.Io.KnownBytes.{Appends, Consumes, IsAtEnd, Keeps}
use Rattle.std.proofs.KnownBytes.{Appends-trans, Appends-nil, Consumes-kept, Consumes-nil, Consumes-trans}
use Rattle.mj_base.specs.StandardLimits.{standard_limits}
use Rattle.mj_base.specs.Writing.{AppendsFront}
use Rattle.mj_show.specs.Showing.{item_lines, shown}
use Rattle.mj_show.specs.ShowingSoFar.{HaltCause, IsFront, IsHalted, IsWhole, PrintCause, SoFar, StepsOn}
use Rattle.mj_show.specs.declared.halt.Halt.{Halt}
use Rattle.mj_show.specs.declared.halt.Halt.TheVariants as halts
use Rattle.mj_wire.specs.StreamItems.{gained, items_from, items_within, stream_items}
use Rattle.mj_wire.specs.WireState.{StandsFor, State}
use Rattle.mj_show.proofs.StreamLemmas.{front-behind, shown-append, stream-end, stream-full, stream-reading, take-shorter}

-- nothing was read yet
pub shown-none : shown [] ≡ []
unfolding stream_items items_from items_within
shown-none = refl

pub so-far-at-first : (from old : Option (List ℕ)) (wire : State) → StandsFor standard_limits wire [] → SoFar from from old old wire []
so-far-at-first from old wire s = record { took = Consumes-nil from; few = omega arith; stands = s; added = subst (Appends old old) (sym shown-none) (Appends-nil old) }

pub taken-is : (wire : State) (read : List ℕ) → StandsFor standard_limits wire read → length read ≤ 2 ^ 40 → wire.taken ≡ length read
taken-is wire read s few = let c : wire.taken ≡ min (length read) (2 ^ 64 - 1) = s.counted in omega (arith, c)

fits : (from left old mid : Option (List ℕ)) (wire : State) (read piece : List ℕ) → SoFar from left old mid wire read → wire.taken + length piece ≤ 2 ^ 40 → length read + length piece ≤ 2 ^ 40
fits from left old mid wire read piece s few = let c = taken-is wire read s.stands s.few in omega (arith, c, few)

-- a piece more was read and printed
so-far-more : (from left now old mid new : Option (List ℕ)) (wire wire_now : State) (read piece : List ℕ) → length read + length piece ≤ 2 ^ 40 → SoFar from left old mid wire read → Consumes left now piece
    → StandsFor standard_limits wire_now (read ++ piece) → Appends mid new (item_lines (gained standard_limits read piece)) → SoFar from now old new wire_now (read ++ piece)
so-far-more from left now old mid new wire wire_now read piece few s took stands added = record {
  took = Consumes-trans from left now read piece s.took took;
  few = (let l = length-append read piece in omega (arith, l, few));
  stands = stands;
  added = subst (Appends old new) (sym (shown-append read piece)) (Appends-trans old mid new (shown read) (item_lines (gained standard_limits read piece)) s.added added);
}

-- and of its lines a front was printed
front-more : (from left now old mid new : Option (List ℕ)) (wire : State) (read piece : List ℕ) → length read + length piece ≤ 2 ^ 40 → SoFar from left old mid wire read → Consumes left now piece
    → AppendsFront mid new (item_lines (gained standard_limits read piece)) → IsFront from old new
front-more from left now old mid new wire read piece few s took front =
    let both : length (read ++ piece) ≤ 2 ^ 40 = (let l = length-append read piece in omega (arith, l, few)) in
    let r = stream-reading from now (read ++ piece) (Consumes-trans from left now read piece s.took took) both in
    let whole : shown r.0 ≡ shown read ++ (item_lines (gained standard_limits read piece) ++ item_lines (gained standard_limits (read ++ piece) r.1)) =
    ap shown r.3 ∙ shown-append (read ++ piece) r.1 ∙ ap (λ (l : List ℕ). l ++ item_lines (gained standard_limits (read ++ piece) r.1)) (shown-append read piece)
    ∙ append_assoc (shown read) (item_lines (gained standard_limits read piece)) (item_lines (gained standard_limits (read ++ piece) r.1)) in
    (r.0, r.2, front-behind old mid new (shown read) (item_lines (gained standard_limits read piece)) (item_lines (gained standard_limits (read ++ piece) r.1)) (shown r.0) s.added front whole)

halted-printing : (halt : Halt) (from left old new : Option (List ℕ)) (before after : ℕ) → PrintCause halt before after → IsFront from old new → IsHalted halt from left old new
halted-printing halts.NoMemory from left old new before after cause front = front
halted-printing halts.Read from left old new before after cause front = absurd cause
halted-printing halts.Write from left old new before after cause front = front

-- ---- a read of at most so many bytes

pub got-some : (buffer : List ℕ) (most count : ℕ) → 0 < count → count ≤ length (take most buffer) → 0 < length (take count buffer)
got-some buffer most count some inside = let l = length-take most buffer in let k = length-take count buffer in omega (arith, some, inside, l, k)

pub got-few : (buffer : List ℕ) (taken most count len : ℕ) → count ≤ length (take most buffer) → most ≡ min (2 ^ 40 - taken) len → taken ≤ 2 ^ 40 → taken + length (take count buffer) ≤ 2 ^ 40
got-few buffer taken most count len inside is few = let l = length-take most buffer in let k = length-take count buffer in omega (arith, inside, is, few, l, k)

pub got-took : (buffer : List ℕ) (most count : ℕ) (left now : Option (List ℕ)) → count ≤ length (take most buffer) → Consumes left now (take count (take most buffer)) → Consumes left now (take count buffer)
got-took buffer most count left now inside took =
    let l = length-take most buffer in
    subst (λ (bytes : List ℕ). Consumes left now bytes) (take-shorter count most buffer (omega (arith, inside, l))) took

pub no-room : (taken len most : ℕ) → most ≡ min (2 ^ 40 - taken) len → 0 < len → most ≡ 0 → 2 ^ 40 ≤ taken
no-room taken len most is some none = omega (arith, is, some, none)

pub cause-later : (halt : Halt) (reads reads_mid reads_now writes writes_mid writes_now : ℕ) → reads ≤ reads_mid → writes ≤ writes_mid → HaltCause halt reads_mid reads_now writes_mid writes_now → HaltCause halt reads reads_now writes writes_now
cause-later halts.NoMemory reads reads_mid reads_now writes writes_mid writes_now r w cause = tt
cause-later halts.Read reads reads_mid reads_now writes writes_mid writes_now r w cause = omega (arith, r, cause)
cause-later halts.Write reads reads_mid reads_now writes writes_mid writes_now r w cause = omega (arith, w, cause)

-- a piece was shown, or its showing broke off
pub piece-goes : (r : Result Bool Halt) (left now mid new : Option (List ℕ)) (wire wire_now : State) (piece : List ℕ) → 0 < length piece → wire.taken + length piece ≤ 2 ^ 40 → Consumes left now piece
    → IfOk r (λ more. more ≡ true) → OnOk r ((stream : List ℕ) → StandsFor standard_limits wire stream → StandsFor standard_limits wire_now (stream ++ piece))
    → OnOk r ((stream : List ℕ) → StandsFor standard_limits wire stream → Appends mid new (item_lines (gained standard_limits stream piece)))
    → IfOk r (λ more. (from old : Option (List ℕ)) (read : List ℕ) → SoFar from left old mid wire read → StepsOn more from now old new wire wire_now read)
piece-goes (Err halt) left now mid new wire wire_now piece some few took more stands done = tt
piece-goes (Ok more) left now mid new wire wire_now piece some few took is stands done = λ from old read s.
    subst (λ (b : Bool). StepsOn b from now old new wire wire_now read) (sym is)
    (piece, some, so-far-more from left now old mid new wire wire_now read piece (fits from left old mid wire read piece s few) s took (stands read s.stands) (done read s.stands))

pub piece-halts : (r : Result Bool Halt) (left now mid new : Option (List ℕ)) (wire : State) (piece : List ℕ) (before after : ℕ) → wire.taken + length piece ≤ 2 ^ 40 → Consumes left now piece
    → IfErr r (λ halt. PrintCause halt before after) → OnErr r ((stream : List ℕ) → StandsFor standard_limits wire stream → AppendsFront mid new (item_lines (gained standard_limits stream piece)))
    → IfErr r (λ halt. (from old : Option (List ℕ)) (read : List ℕ) → SoFar from left old mid wire read → IsHalted halt from now old new)
piece-halts (Ok more) left now mid new wire piece before after few took cause broken = tt
piece-halts (Err halt) left now mid new wire piece before after few took cause broken = λ from old read s.
    halted-printing halt from now old new before after cause (front-more from left now old mid new wire read piece (fits from left old mid wire read piece s few) s took (broken read s.stands))

pub piece-cause : (r : Result Bool Halt) (reads_before reads_now before after : ℕ) → IfErr r (λ halt. PrintCause halt before after) → IfErr r (λ halt. HaltCause halt reads_before reads_now before after)
piece-cause (Ok more) reads_before reads_now before after cause = tt
piece-cause (Err halts.NoMemory) reads_before reads_now before after cause = tt
piece-cause (Err halts.Read) reads_before reads_now before after cause = absurd cause
piece-cause (Err halts.Write) reads_before reads_now before after cause = cause

-- the read failed
pub halted-reading : (from left now old new : Option (List ℕ)) (wire : State) (read : List ℕ) → SoFar from left old new wire read → Keeps left now → IsHalted halts.Read from now old new
halted-reading from left now old new wire read s kept = (read, Consumes-kept from left now read s.took kept, s.added)

-- the source is at its end
pub steps-end : (from left now old new : Option (List ℕ)) (wire : State) (read : List ℕ) → SoFar from left old new wire read → Keeps left now → IsAtEnd now → StepsOn false from now old new wire wire read
steps-end from left now old new wire read s kept end = (refl, stream-end from now read (Consumes-kept from left now read s.took kept) end s.few, s.added)

-- no more may be read
pub steps-full : (from left old new : Option (List ℕ)) (wire : State) (read : List ℕ) → SoFar from left old new wire read → 2 ^ 40 ≤ wire.taken → StepsOn false from left old new wire wire read
steps-full from left old new wire read s full =
    let c = taken-is wire read s.stands s.few in
    let f = s.few in
    (refl, stream-full from left read s.took (omega (arith, c, full, f)), s.added)

pub whole-at : (from left left_now old mid new : Option (List ℕ)) (wire wire_now : State) (read : List ℕ) → SoFar from left old mid wire read → StepsOn false from left_now old new wire wire_now read → IsWhole from old new wire_now.taken
whole-at from left left_now old mid new wire wire_now read s (same, is, added) = (read, is, added, ap (λ (w : State). w.taken) same ∙ taken-is wire read s.stands s.few)

-- after so many turns nothing more may be read
pub whole-full : (from left old new : Option (List ℕ)) (wire : State) (read : List ℕ) → SoFar from left old new wire read → 2 ^ 40 ≤ length read → IsWhole from old new wire.taken
whole-full from left old new wire read s full =
    let f = s.few in
    (read, stream-full from left read s.took (omega (arith, full, f)), s.added, taken-is wire read s.stands s.few)
