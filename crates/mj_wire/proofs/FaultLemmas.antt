-- Streams without a cut, and streams that have had their fault.
use Rattle.std.proofs.Common.{◌≡◌, ◌≢◌, ℕ, zero, suc, ◌+◌, ◌<◌, ◌≤◌, ◌⊎◌, ◌↔◌, Bool, true, false, cond, List, [], ◌∷◌, ◌++◌, length, take, drop, Option, Some, None, refl, sym, ap, subst, ◌∙◌, inl, inr, arith, append-nil, length-append, length-drop, length-take, lt-ltb, take-append-drop}
use Rattle.std.proofs.lemmas.Bool.{cases_lt}
use Rattle.std.proofs.lemmas.List.{length-take-le}
use Rattle.std.proofs.Math.Seq.{take-append_seam}
use Rattle.mj_base.specs.declared.limits.Limits.{Limits}
use Rattle.mj_base.specs.declared.reason.Reason.{Reason}
use Rattle.mj_frame.specs.FrameSpelling.{Frame}
use Rattle.mj_greeting.specs.declared.greeting.GreetingFault.{GreetingFault}
use Rattle.mj_greeting.specs.GreetingGrammar.{reason_at, fault_or, first_wrong, fault_of}
use Rattle.mj_wire.specs.declared.item.WireItem.{WireItem}
use Rattle.mj_wire.specs.declared.item.WireItem.TheVariants as items
use Rattle.mj_wire.specs.declared.place.Place.{Place}
use Rattle.mj_wire.specs.declared.next.Next.{Next}
use Rattle.mj_wire.specs.declared.next.Next.TheVariants as next
use Rattle.mj_wire.specs.NextReading.{fault_or_greeting, next_of}
use Rattle.mj_wire.specs.StreamItems.{count, step_of, body_of, place_after, items_of, items_from, start, stream_items}
use Rattle.mj_wire.specs.StreamCuts.{IsCut}
use Rattle.mj_wire.specs.StreamFault.{greeting_end}
use Rattle.mj_wire.specs.Laws.{HasNoCut, HasEnded}
use Rattle.mj_wire.proofs.NextLemmas.{IsProper, next_proper}
use Rattle.mj_wire.proofs.StreamLemmas.{step_proper, items_at, step_goes, found_stays}
use Rattle.mj_wire.proofs.CutLemmas.{none_small}

-- ---- no cut

greeting_cut : (limits : Limits) (stream : List ℕ) → 64 ≤ length stream → fault_of (take 64 stream) ≡ None → IsCut limits stream [] (drop 64 stream)
greeting_cut limits stream l e = record {
  greeting = take 64 stream;
  octets = [];
  whole = sym (take-append-drop 64 stream);
  accepted = (length-take-le 64 stream l, e);
  spelled = refl;
  ready = tt;
  small = record { commands = tt; messages = tt; last = none_small limits };
}

cut_greets : (limits : Limits) (stream rest : List ℕ) (frames : List Frame) → IsCut limits stream frames rest → (64 ≤ length stream) × (fault_of (take 64 stream) ≡ None)
cut_greets limits stream rest frames c =
    let front : take 64 stream ≡ c.greeting = ap (λ (o : List ℕ). take 64 o) c.whole ∙ ap (λ (k : ℕ). take k (c.greeting ++ (c.octets ++ rest))) (sym c.accepted.0) ∙ take-append_seam c.greeting (c.octets ++ rest) in
    (omega (arith, ap length c.whole, c.accepted.0, length-append c.greeting (c.octets ++ rest)), ap fault_of front ∙ c.accepted.1)

abbrev NoGreeting : List ℕ → Type 0
NoGreeting stream = (length stream < 64) ⊎ (fault_of (take 64 stream) ≢ None)

no_greeting : (limits : Limits) (stream : List ℕ) → HasNoCut limits stream → NoGreeting stream
no_greeting limits stream uncut =
    elim (cases_lt (length stream) 64) [
      | inl lt ↦ inl lt
      | inr le ↦ inr (λ e. uncut [] (drop 64 stream) (greeting_cut limits stream le e))
    ]

no_cut : (limits : Limits) (stream : List ℕ) → NoGreeting stream → HasNoCut limits stream
no_cut limits stream (inl lt) = λ frames rest c. absurd (omega (arith, (cut_greets limits stream rest frames c).0))
no_cut limits stream (inr wrong) = λ frames rest c. wrong (cut_greets limits stream rest frames c).1

pub no_cut_exactly : (limits : Limits) (stream : List ℕ) → HasNoCut limits stream ↔ NoGreeting stream
no_cut_exactly limits stream = (no_greeting limits stream, no_cut limits stream)

or_at : (i n : ℕ) (r : Option Reason) (x : Option GreetingFault) (f : GreetingFault) → (x ≡ Some f → f.at < i + 1 + n) → fault_or i r x ≡ Some f → f.at < i + (n + 1)
or_at i n (Some reason) x f h e = let same : i ≡ f.at = (let q : record { reason = reason; at = i } ≡ f = cc in ap (λ (g : GreetingFault). g.at) q) in omega arith
or_at i n None x f h e = omega (arith, h e)

wrong_at : (i : ℕ) (octets : List ℕ) (f : GreetingFault) → first_wrong i octets ≡ Some f → f.at < i + length octets
wrong_at i [] f e = cc
wrong_at i (o ∷ octets) f e =
    let l = or_at i (length octets) (reason_at i o) (first_wrong (i + 1) octets) f (λ h. wrong_at (i + 1) octets f h) e in
    omega (arith, l)

greeting_read : (limits : Limits) (stream : List ℕ) → NoGreeting stream → (wrong : Option GreetingFault) → fault_of (take 64 stream) ≡ wrong → items_from limits start stream ≡ greeting_end wrong
unfolding next_of
greeting_read limits stream none (Some wrong) e =
    let found : next_of limits start stream ≡ next.Fault wrong.reason wrong.at = ap (λ (f : Option GreetingFault). fault_or_greeting f stream) e in
    let at = wrong_at 0 (take 64 stream) wrong e in
    let here : count (0 + wrong.at) ≡ wrong.at = omega (arith, at, length-take 64 stream) in
    items_at limits start stream (next.Fault wrong.reason wrong.at) found ∙ ap (λ (k : ℕ). items.Ended wrong.reason k ∷ []) here
greeting_read limits stream (inl lt) None e =
    let wait : next_of limits start stream ≡ next.Wait = ap (λ (f : Option GreetingFault). fault_or_greeting f stream) e ∙ ap (λ (b : Bool). cond b next.Wait next.Greeting) (lt-ltb _ _ lt) in
    items_at limits start stream next.Wait wait
greeting_read limits stream (inr wrong) None e = absurd (wrong e)

pub no_cut_read : (limits : Limits) (stream : List ℕ) → HasNoCut limits stream → stream_items limits stream ≡ greeting_end (fault_of (take 64 stream))
unfolding stream_items
no_cut_read limits stream uncut = greeting_read limits stream (no_greeting limits stream uncut) (fault_of (take 64 stream)) refl

-- ---- the fault is the last item

not_nothing : HasEnded [] → ⊥
not_nothing ([], reason, at, e) = cc
not_nothing (x ∷ before, reason, at, e) = cc

tail_ended : (x : WireItem) (tail : List WireItem) → ((reason : Reason) (at : ℕ) → x ≡ items.Ended reason at → ⊥) → HasEnded (x ∷ tail) → HasEnded tail
tail_ended x tail differs ([], reason, at, e) = absurd (differs reason at (let q : x ≡ items.Ended reason at = cc in q))
tail_ended x tail differs (y ∷ before, reason, at, e) = (before, reason, at, (let q : tail ≡ before ++ items.Ended reason at ∷ [] = cc in q))

message_ended : (more : Bool) (message : List (List ℕ)) (tail : List WireItem) → HasEnded (cond more [] (items.Message message ∷ []) ++ tail) → HasEnded tail
message_ended true message tail h = h
message_ended false message tail h = tail_ended (items.Message message) tail (λ reason at e. cc) h

step_ended : (p : Place) (octets : List ℕ) (n : Next) (step : ℕ) (tail : List WireItem) → step_of n ≡ Some step → HasEnded (items_of p octets n ++ tail) → HasEnded tail
step_ended p octets next.Wait step tail s h = cc
step_ended p octets (next.Fault reason at) step tail s h = cc
step_ended p octets next.Greeting step tail s h = tail_ended items.Accepted tail (λ reason at e. cc) h
step_ended p octets (next.Ready kind end) step tail s h = tail_ended (items.Ready kind) tail (λ reason at e. cc) h
step_ended p octets (next.Command end) step tail s h = h
step_ended p octets (next.Frame more from end) step tail s h = message_ended more (p.group ++ body_of from end octets ∷ []) tail h

pub step_now : (limits : Limits) (p : Place) (octets : List ℕ) (n : Next) (step : ℕ) → next_of limits p octets ≡ n → step_of n ≡ Some step
    → items_from limits p octets ≡ items_of p octets n ++ items_from limits (place_after p octets n) (drop step octets)
step_now limits p octets n step e s =
    ap (λ (o : List ℕ). items_from limits p o) (sym (append-nil octets)) ∙ step_goes limits p octets n step e s []
    ∙ ap (λ (o : List ℕ). items_of p octets n ++ items_from limits (place_after p octets n) o) (append-nil (drop step octets))

stop_stays : (limits : Limits) (p : Place) (octets more : List ℕ) (n : Next) → next_of limits p octets ≡ n → step_of n ≡ None → HasEnded (items_from limits p octets)
    → items_from limits p (octets ++ more) ≡ items_from limits p octets
stop_stays limits p octets more next.Wait e s h = absurd (not_nothing (subst (λ (x : List WireItem). HasEnded x) (items_at limits p octets next.Wait e) h))
stop_stays limits p octets more (next.Fault reason at) e s h =
    items_at limits p (octets ++ more) (next.Fault reason at) (found_stays limits p octets more (next.Fault reason at) e (λ w. cc)) ∙ sym (items_at limits p octets (next.Fault reason at) e)
stop_stays limits p octets more next.Greeting e s h = cc
stop_stays limits p octets more (next.Ready kind end) e s h = cc
stop_stays limits p octets more (next.Command end) e s h = cc
stop_stays limits p octets more (next.Frame m from end) e s h = cc

ended_by : (limits : Limits) (p : Place) (octets more : List ℕ)
    → ((q : Place) (step : ℕ) → (0 < step) × (step ≤ length octets) → HasEnded (items_from limits q (drop step octets)) → items_from limits q (drop step octets ++ more) ≡ items_from limits q (drop step octets))
    → (n : Next) → next_of limits p octets ≡ n → (s : Option ℕ) → step_of n ≡ s → HasEnded (items_from limits p octets) → items_from limits p (octets ++ more) ≡ items_from limits p octets
ended_by limits p octets more ih n e None s h = stop_stays limits p octets more n e s h
ended_by limits p octets more ih n e (Some step) s h =
    let fits = step_proper n octets step (subst (λ (m : Next). IsProper m octets) e (next_proper limits p octets)) s in
    let now = step_now limits p octets n step e s in
    let tail = step_ended p octets n step (items_from limits (place_after p octets n) (drop step octets)) s (subst (λ (x : List WireItem). HasEnded x) now h) in
    step_goes limits p octets n step e s more ∙ ap (λ (x : List WireItem). items_of p octets n ++ x) (ih (place_after p octets n) step fits tail) ∙ sym now

ended_within : (k : ℕ) (limits : Limits) (p : Place) (octets more : List ℕ) → length octets ≤ k → HasEnded (items_from limits p octets)
    → items_from limits p (octets ++ more) ≡ items_from limits p octets
ended_within zero limits p octets more l h =
    ended_by limits p octets more (λ q step fits t. absurd (omega (arith, fits.0, fits.1))) (next_of limits p octets) refl (step_of (next_of limits p octets)) refl h
ended_within (suc k) limits p octets more l h =
    ended_by limits p octets more (λ q step fits t. ended_within k limits q (drop step octets) more (omega (arith, fits.0, fits.1, length-drop step octets)) t)
    (next_of limits p octets) refl (step_of (next_of limits p octets)) refl h

pub fault_is_last : (limits : Limits) (stream more : List ℕ) → HasEnded (stream_items limits stream) → stream_items limits (stream ++ more) ≡ stream_items limits stream
unfolding stream_items
fault_is_last limits stream more h = ended_within (length stream) limits start stream more (omega arith) h
