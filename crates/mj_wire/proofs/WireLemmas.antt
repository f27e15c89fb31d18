-- A piece, and the wire that took it.
use Rattle.std.proofs.Common.{◌≡◌, ℕ, ◌+◌, true, List, [], ◌++◌, length, drop, sym, ap, subst, ◌∙◌, arith, length-append, append_assoc, append-nil}
use Rattle.std.proofs.Math.Seq.{drop-append_seam}
use Rattle.mj_base.specs.declared.limits.Limits.{Limits}
use Rattle.mj_wire.specs.declared.item.WireItem.{WireItem}
use Rattle.mj_wire.specs.declared.place.Place.{Place}
use Rattle.mj_wire.specs.NextReading.{has_ended}
use Rattle.mj_wire.specs.StreamItems.{count, items_from, start, stream_items, gained}
use Rattle.mj_wire.specs.WireState.{State, GoesOn, StandsFor, AppendsFront, IsReadTo, IsReadOut}
use Rattle.mj_wire.proofs.StreamLemmas.{items_ended, items_nil}

-- after a fault a piece changes nothing
pub ended_piece : (limits : Limits) (p : Place) (octets rest : List ℕ) (before : List WireItem) → has_ended p.stage ≡ true → IsReadOut limits p octets before p rest before
ended_piece limits p octets rest before e =
    (record { added = []; grown = sym (append-nil before); goes = λ more. items_ended limits p (octets ++ more) e ∙ sym (items_ended limits p (rest ++ more) e) }, items_ended limits p rest e)

-- nothing need be kept after a fault
pub ended_rest : (limits : Limits) (p q : Place) (octets rest left : List ℕ) (before now : List WireItem) → IsReadOut limits p octets before q rest now → has_ended q.stage ≡ true
    → IsReadOut limits p octets before q left now
ended_rest limits p q octets rest left before now (read, out) e =
    (record { added = read.added; grown = read.grown; goes = λ more. read.goes more ∙ ap (λ (x : List WireItem). read.added ++ x) (items_ended limits q (rest ++ more) e ∙ sym (items_ended limits q (left ++ more) e)) }, items_ended limits q left e)

pub read_of : (limits : Limits) (p q : Place) (octets whole rest : List ℕ) (before now : List WireItem) → octets ≡ whole → IsReadOut limits p octets before q rest now
    → IsReadOut limits p whole before q rest now
read_of limits p q octets whole rest before now e read = subst (λ (o : List ℕ). IsReadOut limits p o before q rest now) e read

-- what a piece adds
due : (limits : Limits) (p : Place) (stream rest piece : List ℕ) → GoesOn limits start stream p rest
    → stream_items limits (stream ++ piece) ≡ stream_items limits stream ++ items_from limits p (rest ++ piece)
unfolding stream_items
due limits p stream rest piece goes = goes piece

pub gained_is : (limits : Limits) (p : Place) (stream rest piece : List ℕ) → GoesOn limits start stream p rest → gained limits stream piece ≡ items_from limits p (rest ++ piece)
gained_is limits p stream rest piece goes =
    ap (λ (x : List WireItem). drop (length (stream_items limits stream)) x) (due limits p stream rest piece goes)
    ∙ drop-append_seam (stream_items limits stream) (items_from limits p (rest ++ piece))

pub read_out : (limits : Limits) (p q : Place) (octets rest : List ℕ) (before now : List WireItem) → (read : IsReadTo limits p octets before q rest now) → items_from limits q rest ≡ []
    → items_from limits p octets ≡ read.added
read_out limits p q octets rest before now read out =
    ap (λ (o : List ℕ). items_from limits p o) (sym (append-nil octets)) ∙ read.goes [] ∙ ap (λ (o : List ℕ). read.added ++ items_from limits q o) (append-nil rest)
    ∙ ap (λ (x : List WireItem). read.added ++ x) out ∙ append-nil read.added

goes_further : (limits : Limits) (p q : Place) (stream rest piece left : List ℕ) (before now : List WireItem) → GoesOn limits start stream p rest
    → IsReadOut limits p (rest ++ piece) before q left now → GoesOn limits start (stream ++ piece) q left
goes_further limits p q stream rest piece left before now goes (read, out) = λ more.
    ap (λ (o : List ℕ). items_from limits start o) (append_assoc stream piece more)
    ∙ goes (piece ++ more)
    ∙ ap (λ (o : List ℕ). items_from limits start stream ++ items_from limits p o) (sym (append_assoc rest piece more))
    ∙ ap (λ (x : List WireItem). items_from limits start stream ++ x) (read.goes more)
    ∙ sym (append_assoc (items_from limits start stream) read.added (items_from limits q (left ++ more)))
    ∙ ap (λ (x : List WireItem). (items_from limits start stream ++ x) ++ items_from limits q (left ++ more)) (sym (read_out limits p q (rest ++ piece) left before now read out))
    ∙ ap (λ (x : List WireItem). x ++ items_from limits q (left ++ more)) (sym (goes piece))

pub new_stands : (limits : Limits) (w : State) → w.limits ≡ limits → w.place ≡ start → w.rest ≡ [] → w.taken ≡ 0 → StandsFor limits w []
new_stands limits w l p r t = record {
  limited = l;
  counted = t;
  goes_on = λ more. sym (ap (λ (x : List WireItem). x ++ items_from limits w.place (w.rest ++ more)) (items_nil limits start)
      ∙ ap (λ (q : Place). items_from limits q (w.rest ++ more)) p ∙ ap (λ (o : List ℕ). items_from limits start (o ++ more)) r);
}

-- of the wire's own limits, as they were given
reads_as : (limits own : Limits) (p q : Place) (octets rest : List ℕ) (before now : List WireItem) → own ≡ limits → IsReadOut own p octets before q rest now → IsReadOut limits p octets before q rest now
reads_as limits own p q octets rest before now e read = subst (λ (l : Limits). IsReadOut l p octets before q rest now) e read

pub fed_stands : (limits : Limits) (old new : State) (stream piece : List ℕ) (before now : List WireItem) → StandsFor limits old stream
    → IsReadOut old.limits old.place (old.rest ++ piece) before new.place new.rest now → new.limits ≡ old.limits → new.taken ≡ count (old.taken + length piece)
    → StandsFor limits new (stream ++ piece)
fed_stands limits old new stream piece before now s read l t = record {
  limited = l ∙ s.limited;
  counted = t ∙ (let c = s.counted in omega (arith, length-append stream piece));
  goes_on = goes_further limits old.place new.place stream old.rest piece new.rest before now s.goes_on (reads_as limits old.limits _ _ _ _ _ _ s.limited read);
}

pub fed_items : (limits : Limits) (old : State) (q : Place) (stream piece left : List ℕ) (before now : List WireItem) → StandsFor limits old stream
    → IsReadOut old.limits old.place (old.rest ++ piece) before q left now → now ≡ before ++ gained limits stream piece
fed_items limits old q stream piece left before now s read =
    let r = reads_as limits old.limits _ _ _ _ _ _ s.limited read in
    r.0.grown ∙ ap (λ (x : List WireItem). before ++ x) (sym (read_out limits old.place q (old.rest ++ piece) left before now r.0 r.1) ∙ sym (gained_is limits old.place stream old.rest piece s.goes_on))

pub fed_part : (limits : Limits) (old : State) (stream piece : List ℕ) (before now : List WireItem) → StandsFor limits old stream
    → AppendsFront before (items_from old.limits old.place (old.rest ++ piece)) now → AppendsFront before (gained limits stream piece) now
fed_part limits old stream piece before now s (added, left, grown, front) =
    (added, left, grown, gained_is limits old.place stream old.rest piece s.goes_on ∙ ap (λ (l : Limits). items_from l old.place (old.rest ++ piece)) (sym s.limited) ∙ front)
