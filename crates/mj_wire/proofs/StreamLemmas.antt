-- The items of a stream, step by step, and the loop that reads them.
use Rattle.std.proofs.Common.{◌≡◌, ◌≢◌, ℕ, zero, suc, ◌+◌, ◌-◌, ◌<◌, ◌≤◌, true, cond, List, [], ◌∷◌, ◌++◌, length, take, drop, Option, Some, None, refl, sym, ap, subst, ◌∙◌, inl, inr, arith, length-drop, append_assoc, append-nil, drop-drop}
use Rattle.std.proofs.lemmas.List.{take-append-le, drop-append-le, nil_from_length}
use Rattle.mj_base.specs.declared.limits.Limits.{Limits}
use Rattle.mj_wire.specs.declared.item.WireItem.{WireItem}
use Rattle.mj_wire.specs.declared.item.WireItem.TheVariants as items
use Rattle.mj_wire.specs.declared.place.Place.{Place}
use Rattle.mj_wire.specs.declared.place.Stage.TheVariants as stages
use Rattle.mj_wire.specs.declared.next.Next.{Next}
use Rattle.mj_wire.specs.declared.next.Next.TheVariants as next
use Rattle.mj_wire.specs.NextReading.{has_ended, next_of}
use Rattle.mj_wire.specs.StreamItems.{count, step_of, body_of, passed, place_after, items_of, behind, one_more, items_within, items_from, start, stream_items, IsWithin}
use Rattle.mj_wire.specs.WireState.{AppendsFront, IsReadTo, IsReadOut}
use Rattle.mj_wire.proofs.NextLemmas.{next_stays, IsProper, next_proper, next_nil, next_ended}

-- ---- a step is proper

pub step_proper : (n : Next) (octets : List ℕ) (step : ℕ) → IsProper n octets → step_of n ≡ Some step → (0 < step) × (step ≤ length octets)
step_proper next.Wait octets step p e = cc
step_proper (next.Fault reason at) octets step p e = cc
step_proper next.Greeting octets step p e = let q : 64 ≡ step = cc in (omega arith, omega arith)
step_proper (next.Ready kind end) octets step p e = let q : end ≡ step = cc in (omega (arith, p.0), omega (arith, p.1))
step_proper (next.Command end) octets step p e = let q : end ≡ step = cc in (omega (arith, p.0), omega (arith, p.1))
step_proper (next.Frame more from end) octets step p e = let q : end ≡ step = cc in (omega (arith, p.1.0), omega (arith, p.1.1))

pub proper_within : (n : Next) (octets : List ℕ) → IsProper n octets → IsWithin n octets
proper_within next.Wait octets p = tt
proper_within (next.Fault reason at) octets p = tt
proper_within next.Greeting octets p = tt
proper_within (next.Ready kind end) octets p = tt
proper_within (next.Command end) octets p = tt
proper_within (next.Frame more from end) octets p = (p.0, p.1.1)

-- ---- any number of steps that is enough gives the same

behind_same : (f g : Place → List ℕ → List WireItem) (q : Place) (octets : List ℕ) (s : Option ℕ)
    → ((step : ℕ) → s ≡ Some step → f q (drop step octets) ≡ g q (drop step octets)) → behind f q octets s ≡ behind g q octets s
behind_same f g q octets None h = refl
behind_same f g q octets (Some step) h = h step refl

within_nil : (k : ℕ) (limits : Limits) (p : Place) → items_within k limits p [] ≡ []
unfolding items_within
within_nil zero limits p = refl
within_nil (suc k) limits p = ap (λ (n : Next). one_more (λ q rest. items_within k limits q rest) p [] n) (next_nil limits p)

same_fuel : (j k : ℕ) (limits : Limits) (p : Place) (octets : List ℕ) → length octets ≤ j → length octets ≤ k → items_within j limits p octets ≡ items_within k limits p octets
unfolding items_within
same_fuel zero k limits p octets a b =
    let nil : octets ≡ [] = nil_from_length octets (omega arith) in
    subst (λ (o : List ℕ). items_within zero limits p o ≡ items_within k limits p o) (sym nil) (sym (within_nil k limits p))
same_fuel (suc j) zero limits p octets a b =
    let nil : octets ≡ [] = nil_from_length octets (omega arith) in
    subst (λ (o : List ℕ). items_within (suc j) limits p o ≡ items_within zero limits p o) (sym nil) (within_nil (suc j) limits p)
same_fuel (suc j) (suc k) limits p octets a b =
    let n = next_of limits p octets in
    ap (λ (r : List WireItem). items_of p octets (next_of limits p octets) ++ r)
    (behind_same (λ q rest. items_within j limits q rest) (λ q rest. items_within k limits q rest) (place_after p octets (next_of limits p octets)) octets (step_of (next_of limits p octets))
    (λ step e. let s = step_proper (next_of limits p octets) octets step (next_proper limits p octets) e in
    let l = length-drop step octets in
    same_fuel j k limits (place_after p octets (next_of limits p octets)) (drop step octets) (omega arith) (omega arith)))

step_counted : (k : ℕ) (limits : Limits) (p : Place) (octets : List ℕ) → length octets ≡ k
    → items_within k limits p octets ≡ one_more (λ q rest. items_from limits q rest) p octets (next_of limits p octets)
unfolding items_within items_from
step_counted zero limits p octets l =
    let nil : octets ≡ [] = nil_from_length octets l in
    subst (λ (o : List ℕ). [] ≡ one_more (λ q rest. items_within (length rest) limits q rest) p o (next_of limits p o)) (sym nil)
    (sym (ap (λ (n : Next). one_more (λ q rest. items_within (length rest) limits q rest) p [] n) (next_nil limits p)))
step_counted (suc k) limits p octets l =
    ap (λ (r : List WireItem). items_of p octets (next_of limits p octets) ++ r)
    (behind_same (λ q rest. items_within k limits q rest) (λ q rest. items_within (length rest) limits q rest) (place_after p octets (next_of limits p octets)) octets (step_of (next_of limits p octets))
    (λ step e. let s = step_proper (next_of limits p octets) octets step (next_proper limits p octets) e in
    let d = length-drop step octets in
    same_fuel k (length (drop step octets)) limits (place_after p octets (next_of limits p octets)) (drop step octets) (omega arith) (omega arith)))

-- what stands next, and then the items behind it
pub items_step : (limits : Limits) (p : Place) (octets : List ℕ) → items_from limits p octets ≡ one_more (λ q rest. items_from limits q rest) p octets (next_of limits p octets)
unfolding items_from
items_step limits p octets = step_counted (length octets) limits p octets refl

pub items_at : (limits : Limits) (p : Place) (octets : List ℕ) (n : Next) → next_of limits p octets ≡ n → items_from limits p octets ≡ one_more (λ q rest. items_from limits q rest) p octets n
items_at limits p octets n e = items_step limits p octets ∙ ap (λ (m : Next). one_more (λ q rest. items_from limits q rest) p octets m) e

pub items_ended : (limits : Limits) (p : Place) (octets : List ℕ) → has_ended p.stage ≡ true → items_from limits p octets ≡ []
items_ended limits p octets e = items_at limits p octets next.Wait (next_ended limits p octets e)

pub items_nil : (limits : Limits) (p : Place) → items_from limits p [] ≡ []
items_nil limits p = items_at limits p [] next.Wait (next_nil limits p)

-- a stream of no bytes has no items
pub stream_items-nil : (limits : Limits) → stream_items limits [] ≡ []
unfolding stream_items
stream_items-nil limits = items_nil limits start

-- ---- what was read stays

body_stays : (from end : ℕ) (octets more : List ℕ) → from ≤ end → end ≤ length octets → body_of from end (octets ++ more) ≡ body_of from end octets
body_stays from end octets more a b =
    ap (λ (r : List ℕ). take (end - from) r) (drop-append-le from octets more (omega arith))
    ∙ take-append-le (end - from) (drop from octets) more (omega (arith, length-drop from octets))

pub items_stay : (p : Place) (octets more : List ℕ) (n : Next) → IsProper n octets → items_of p (octets ++ more) n ≡ items_of p octets n
items_stay p octets more next.Wait h = refl
items_stay p octets more (next.Fault reason at) h = refl
items_stay p octets more next.Greeting h = refl
items_stay p octets more (next.Ready kind end) h = refl
items_stay p octets more (next.Command end) h = refl
items_stay p octets more (next.Frame m from end) h = ap (λ (b : List ℕ). cond m [] (items.Message (p.group ++ b ∷ []) ∷ [])) (body_stays from end octets more h.0 h.1.1)

pub place_stays : (p : Place) (octets more : List ℕ) (n : Next) → IsProper n octets → place_after p (octets ++ more) n ≡ place_after p octets n
place_stays p octets more next.Wait h = refl
place_stays p octets more (next.Fault reason at) h = refl
place_stays p octets more next.Greeting h = refl
place_stays p octets more (next.Ready kind end) h = refl
place_stays p octets more (next.Command end) h = refl
place_stays p octets more (next.Frame m from end) h = ap (λ (b : List ℕ). passed p stages.Open end (cond m (p.group ++ b ∷ []) [])) (body_stays from end octets more h.0 h.1.1)

is_proper : (limits : Limits) (p : Place) (octets : List ℕ) (n : Next) → next_of limits p octets ≡ n → IsProper n octets
is_proper limits p octets n e = subst (λ (m : Next). IsProper m octets) e (next_proper limits p octets)

pub found_stays : (limits : Limits) (p : Place) (octets more : List ℕ) (n : Next) → next_of limits p octets ≡ n → n ≢ next.Wait → next_of limits p (octets ++ more) ≡ n
found_stays limits p octets more n e ne =
    elim (next_stays limits p octets more) [ inl wait ↦ absurd (ne (sym e ∙ wait)) | inr same ↦ same ∙ e ]

some_found : (n : Next) (step : ℕ) → step_of n ≡ Some step → n ≢ next.Wait
some_found n step e w = let none : step_of n ≡ None = ap step_of w in cc

-- a step, with whatever comes behind
pub step_goes : (limits : Limits) (p : Place) (octets : List ℕ) (n : Next) (step : ℕ) → next_of limits p octets ≡ n → step_of n ≡ Some step → (more : List ℕ)
    → items_from limits p (octets ++ more) ≡ items_of p octets n ++ items_from limits (place_after p octets n) (drop step octets ++ more)
step_goes limits p octets n step e s more =
    let proper = is_proper limits p octets n e in
    let fits = step_proper n octets step proper s in
    let again = found_stays limits p octets more n e (some_found n step s) in
    items_at limits p (octets ++ more) n again
    ∙ ap (λ (x : Option ℕ). items_of p (octets ++ more) n ++ behind (λ q rest. items_from limits q rest) (place_after p (octets ++ more) n) (octets ++ more) x) s
    ∙ ap (λ (x : List WireItem). x ++ items_from limits (place_after p (octets ++ more) n) (drop step (octets ++ more))) (items_stay p octets more n proper)
    ∙ ap (λ (q : Place). items_of p octets n ++ items_from limits q (drop step (octets ++ more))) (place_stays p octets more n proper)
    ∙ ap (λ (r : List ℕ). items_of p octets n ++ items_from limits (place_after p octets n) r) (drop-append-le step octets more fits.1)

-- where reading stops
pub stop_goes : (limits : Limits) (p : Place) (octets : List ℕ) (n : Next) → next_of limits p octets ≡ n → step_of n ≡ None → (more : List ℕ)
    → items_from limits p (octets ++ more) ≡ items_of p octets n ++ items_from limits (place_after p octets n) (octets ++ more)
stop_goes limits p octets next.Wait e s more = refl
stop_goes limits p octets (next.Fault reason at) e s more =
    let again = found_stays limits p octets more (next.Fault reason at) e (λ w. cc) in
    items_at limits p (octets ++ more) (next.Fault reason at) again
    ∙ ap (λ (x : List WireItem). items.Ended reason (count (p.at + at)) ∷ x) (sym (items_ended limits (place_after p octets (next.Fault reason at)) (octets ++ more) refl))
stop_goes limits p octets next.Greeting e s more = cc
stop_goes limits p octets (next.Ready kind end) e s more = cc
stop_goes limits p octets (next.Command end) e s more = cc
stop_goes limits p octets (next.Frame m from end) e s more = cc

pub stop_out : (limits : Limits) (p : Place) (octets : List ℕ) (n : Next) → next_of limits p octets ≡ n → step_of n ≡ None → items_from limits (place_after p octets n) octets ≡ []
stop_out limits p octets next.Wait e s = items_at limits p octets next.Wait e
stop_out limits p octets (next.Fault reason at) e s = items_ended limits (place_after p octets (next.Fault reason at)) octets refl
stop_out limits p octets next.Greeting e s = cc
stop_out limits p octets (next.Ready kind end) e s = cc
stop_out limits p octets (next.Command end) e s = cc
stop_out limits p octets (next.Frame m from end) e s = cc

-- ---- the loop

pub loop_start : (limits : Limits) (p : Place) (octets : List ℕ) (before : List WireItem) → IsReadTo limits p octets before p octets before
loop_start limits p octets before = record { added = []; grown = sym (append-nil before); goes = λ more. refl }

further : (limits : Limits) (p q r : Place) (octets rest left : List ℕ) (before now later found : List WireItem) → IsReadTo limits p octets before q rest now
    → later ≡ now ++ found → ((more : List ℕ) → items_from limits q (rest ++ more) ≡ found ++ items_from limits r (left ++ more)) → IsReadTo limits p octets before r left later
further limits p q r octets rest left before now later found read e goes = record {
  added = read.added ++ found;
  grown = e ∙ ap (λ (x : List WireItem). x ++ found) read.grown ∙ append_assoc before read.added found;
  goes = λ more. read.goes more ∙ ap (λ (x : List WireItem). read.added ++ x) (goes more) ∙ sym (append_assoc read.added found (items_from limits r (left ++ more)));
}

pub loop_more : (limits : Limits) (p q : Place) (octets : List ℕ) (used step : ℕ) (before now later : List WireItem) (n : Next)
    → IsReadTo limits p octets before q (drop used octets) now → next_of limits q (drop used octets) ≡ n → step_of n ≡ Some step → later ≡ now ++ items_of q (drop used octets) n
    → IsReadTo limits p octets before (place_after q (drop used octets) n) (drop (used + step) octets) later
loop_more limits p q octets used step before now later n read e s l =
    subst (λ (r : List ℕ). IsReadTo limits p octets before (place_after q (drop used octets) n) r later) (drop-drop step used octets)
    (further limits p q (place_after q (drop used octets) n) octets (drop used octets) (drop step (drop used octets)) before now later (items_of q (drop used octets) n) read l
    (step_goes limits q (drop used octets) n step e s))

pub loop_end : (limits : Limits) (p q : Place) (octets : List ℕ) (used : ℕ) (before now later : List WireItem) (n : Next)
    → IsReadTo limits p octets before q (drop used octets) now → next_of limits q (drop used octets) ≡ n → step_of n ≡ None → later ≡ now ++ items_of q (drop used octets) n
    → IsReadOut limits p octets before (place_after q (drop used octets) n) (drop used octets) later
loop_end limits p q octets used before now later n read e s l = (
  further limits p q (place_after q (drop used octets) n) octets (drop used octets) (drop used octets) before now later (items_of q (drop used octets) n) read l
      (stop_goes limits q (drop used octets) n e s),
  stop_out limits q (drop used octets) n e s,
)

pub loop_part : (limits : Limits) (p q : Place) (octets rest : List ℕ) (before now : List WireItem) → IsReadTo limits p octets before q rest now
    → AppendsFront before (items_from limits p octets) now
loop_part limits p q octets rest before now read =
    (read.added, items_from limits q (rest ++ []), read.grown, ap (λ (o : List ℕ). items_from limits p o) (sym (append-nil octets)) ∙ read.goes [])

-- ---- the loop in the code's words: what stands at the rest was taken

pub found_within : (limits : Limits) (p : Place) (octets : List ℕ) (n : Next) → n ≡ next_of limits p octets → IsWithin n octets
found_within limits p octets n e = proper_within n octets (is_proper limits p octets n (sym e))

pub taken_step : (limits : Limits) (q : Place) (octets rest : List ℕ) (used step : ℕ) (n : Next) (found : Option ℕ) → used ≤ length octets → rest ≡ drop used octets
    → n ≡ next_of limits q rest → found ≡ step_of n → found ≡ Some step → (0 < step) × (used + step ≤ length octets)
taken_step limits q octets rest used step n found u r e f s =
    let fits = step_proper n rest step (is_proper limits q rest n (sym e)) (sym f ∙ s) in
    let l = ap length r in
    let d = length-drop used octets in
    (fits.0, omega (arith, fits.1))

pub taken_more : (limits : Limits) (p q q' : Place) (octets rest : List ℕ) (used step : ℕ) (before now later : List WireItem) (n : Next) (found : Option ℕ)
    → (used ≤ length octets) × IsReadTo limits p octets before q (drop used octets) now → rest ≡ drop used octets
    → n ≡ next_of limits q rest → found ≡ step_of n → found ≡ Some step → q' ≡ place_after q rest n → later ≡ now ++ items_of q rest n
    → (used + step ≤ length octets) × IsReadTo limits p octets before q' (drop (used + step) octets) later
taken_more limits p q q' octets rest used step before now later n found (u, read) r e f s pl l =
    let at : next_of limits q (drop used octets) ≡ n = ap (λ (o : List ℕ). next_of limits q o) (sym r) ∙ sym e in
    let grown : later ≡ now ++ items_of q (drop used octets) n = l ∙ ap (λ (o : List ℕ). now ++ items_of q o n) r in
    let place : place_after q (drop used octets) n ≡ q' = ap (λ (o : List ℕ). place_after q o n) (sym r) ∙ sym pl in (
      (taken_step limits q octets rest used step n found u r e f s).1,
      subst (λ (x : Place). IsReadTo limits p octets before x (drop (used + step) octets) later) place
          (loop_more limits p q octets used step before now later n read at (sym f ∙ s) grown),
    )

pub taken_end : (limits : Limits) (p q q' : Place) (octets rest : List ℕ) (used : ℕ) (before now later : List WireItem) (n : Next) (found : Option ℕ)
    → IsReadTo limits p octets before q (drop used octets) now → rest ≡ drop used octets
    → n ≡ next_of limits q rest → found ≡ step_of n → found ≡ None → q' ≡ place_after q rest n → later ≡ now ++ items_of q rest n
    → IsReadOut limits p octets before q' (drop used octets) later
taken_end limits p q q' octets rest used before now later n found read r e f s pl l =
    let at : next_of limits q (drop used octets) ≡ n = ap (λ (o : List ℕ). next_of limits q o) (sym r) ∙ sym e in
    let grown : later ≡ now ++ items_of q (drop used octets) n = l ∙ ap (λ (o : List ℕ). now ++ items_of q o n) r in
    let place : place_after q (drop used octets) n ≡ q' = ap (λ (o : List ℕ). place_after q o n) (sym r) ∙ sym pl in
    subst (λ (x : Place). IsReadOut limits p octets before x (drop used octets) later) place
    (loop_end limits p q octets used before now later n read at (sym f ∙ s) grown)
