-- A further piece adds items behind those that there are.
use Rattle.std.proofs.Common.{◌≡◌, ℕ, zero, suc, ◌<◌, ◌≤◌, List, [], ◌++◌, length, drop, Option, Some, None, refl, sym, ap, subst, ◌∙◌, arith, append_assoc, append-nil, length-drop}
use Rattle.std.proofs.Math.Seq.{drop-append_seam, drop-length}
use Rattle.mj_base.specs.declared.limits.Limits.{Limits}
use Rattle.mj_wire.specs.declared.item.WireItem.{WireItem}
use Rattle.mj_wire.specs.declared.place.Place.{Place}
use Rattle.mj_wire.specs.declared.next.Next.{Next}
use Rattle.mj_wire.specs.NextReading.{next_of}
use Rattle.mj_wire.specs.StreamItems.{step_of, place_after, items_of, behind, items_from, start, stream_items, gained}
use Rattle.mj_wire.specs.Laws.{HasEnded}
use Rattle.mj_wire.proofs.NextLemmas.{IsProper, next_proper}
use Rattle.mj_wire.proofs.StreamLemmas.{step_proper, items_at, step_goes, stop_goes}
use Rattle.mj_wire.proofs.FaultLemmas.{step_now, fault_is_last}

abbrev Adds : List WireItem → List WireItem → Type 0
Adds before now = (left : List WireItem) × (now ≡ before ++ left)

stop_adds : (limits : Limits) (p : Place) (octets more : List ℕ) (n : Next) → next_of limits p octets ≡ n → step_of n ≡ None
    → Adds (items_from limits p octets) (items_from limits p (octets ++ more))
stop_adds limits p octets more n e s =
    let here : items_from limits p octets ≡ items_of p octets n =
    items_at limits p octets n e
    ∙ ap (λ (x : Option ℕ). items_of p octets n ++ behind (λ q rest. items_from limits q rest) (place_after p octets n) octets x) s
    ∙ append-nil (items_of p octets n) in (
      items_from limits (place_after p octets n) (octets ++ more),
      stop_goes limits p octets n e s more ∙ ap (λ (x : List WireItem). x ++ items_from limits (place_after p octets n) (octets ++ more)) (sym here),
    )

adds_by : (limits : Limits) (p : Place) (octets more : List ℕ)
    → ((q : Place) (step : ℕ) → (0 < step) × (step ≤ length octets) → Adds (items_from limits q (drop step octets)) (items_from limits q (drop step octets ++ more)))
    → (n : Next) → next_of limits p octets ≡ n → (s : Option ℕ) → step_of n ≡ s → Adds (items_from limits p octets) (items_from limits p (octets ++ more))
adds_by limits p octets more ih n e None s = stop_adds limits p octets more n e s
adds_by limits p octets more ih n e (Some step) s =
    let fits = step_proper n octets step (subst (λ (m : Next). IsProper m octets) e (next_proper limits p octets)) s in
    let rest = ih (place_after p octets n) step fits in (
      rest.0,
      step_goes limits p octets n step e s more
          ∙ ap (λ (x : List WireItem). items_of p octets n ++ x) rest.1
          ∙ sym (append_assoc (items_of p octets n) (items_from limits (place_after p octets n) (drop step octets)) rest.0)
          ∙ ap (λ (x : List WireItem). x ++ rest.0) (sym (step_now limits p octets n step e s)),
    )

adds_within : (k : ℕ) (limits : Limits) (p : Place) (octets more : List ℕ) → length octets ≤ k → Adds (items_from limits p octets) (items_from limits p (octets ++ more))
adds_within zero limits p octets more l =
    adds_by limits p octets more (λ q step fits. absurd (omega (arith, fits.0, fits.1))) (next_of limits p octets) refl (step_of (next_of limits p octets)) refl
adds_within (suc k) limits p octets more l =
    adds_by limits p octets more (λ q step fits. adds_within k limits q (drop step octets) more (omega (arith, fits.0, fits.1, length-drop step octets)))
    (next_of limits p octets) refl (step_of (next_of limits p octets)) refl

pub piece_adds : (limits : Limits) (stream piece : List ℕ) → (left : List WireItem) × (stream_items limits (stream ++ piece) ≡ stream_items limits stream ++ left)
unfolding stream_items
piece_adds limits stream piece = adds_within (length stream) limits start stream piece (omega arith)

-- the items of a stream and a piece
pub stream_items-append : (limits : Limits) (stream piece : List ℕ) → stream_items limits (stream ++ piece) ≡ stream_items limits stream ++ gained limits stream piece
stream_items-append limits stream piece =
    let a = piece_adds limits stream piece in
    let left : gained limits stream piece ≡ a.0 = ap (λ (x : List WireItem). drop (length (stream_items limits stream)) x) a.1 ∙ drop-append_seam (stream_items limits stream) a.0 in
    a.1 ∙ ap (λ (x : List WireItem). stream_items limits stream ++ x) (sym left)

-- after a fault nothing is gained
pub gained-ended : (limits : Limits) (stream piece : List ℕ) → HasEnded (stream_items limits stream) → gained limits stream piece ≡ []
gained-ended limits stream piece h =
    ap (λ (x : List WireItem). drop (length (stream_items limits stream)) x) (fault_is_last limits stream piece h) ∙ drop-length (stream_items limits stream)
