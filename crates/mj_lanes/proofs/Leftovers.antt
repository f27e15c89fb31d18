-- What is left of pieces of which some were written.
use Rattle.std.proofs.Common.{◌≡◌, ℕ, ◌+◌, ◌-◌, ◌<◌, ◌≤◌, zero, suc, Bool, true, false, List, [], ◌∷◌, ◌++◌, length, map, min, take, drop, get_or, replicate, Option, refl, sym, ap, ◌∙◌, subst, append_assoc, append-nil, arith, add-one, length-drop}
use Rattle.std.specs.List.{concat}
use Rattle.std.specs.Io.KnownBytes.{Appends}
use Rattle.std.proofs.KnownBytes.{Appends-trans}
use Rattle.std.proofs.Math.Seq.{drop-cons, take-append-add, take-suc}
use Rattle.std.proofs.lemmas.List.{length-take-le, replicate-append-replicate, take-append-drop, take-append-le, take_all, take_min}
use Rattle.std.proofs.lemmas.List.Folds.{concat-append}
use Rattle.mj_base.specs.Writing.{AppendsFront}
use Rattle.mj_base.specs.declared.event.Event.{Event}
use Rattle.mj_base.specs.declared.sink.WriteAnswer.{WriteAnswer}
use Rattle.mj_base.specs.declared.event.Event.TheVariants.{Sent}
use Rattle.mj_lanes.specs.declared.outlet.Item.{Item}
use Rattle.mj_lanes.specs.declared.outlet.Item.TheVariants.{Piece, Mark}
use Rattle.mj_lanes.specs.Writing.{WritesNow, front_of_next}
use Rattle.mj_lanes.specs.Passes.{WriterState}
use Rattle.mj_lanes.specs.WriteSteps.{DropsIf, FinishedAll, FinishedFront, FinishedUntil, Handed, Writes, as_items, sent_for}
use Rattle.mj_lanes.proofs.Loops.{mapped_twice}

sent-count : (lane : ℕ) (ps : List (List ℕ)) → sent_for lane ps ≡ replicate (length ps) (Sent lane)
sent-count lane [] = refl
sent-count lane (p ∷ ps) = ap (λ (es : List Event). Sent lane ∷ es) (sent-count lane ps)

sent-front : (lane n : ℕ) (ps : List (List ℕ)) → n ≤ length ps → replicate n (Sent lane) ≡ sent_for lane (take n ps)
sent-front lane n ps few = sym (sent-count lane (take n ps) ∙ ap (λ (k : ℕ). replicate k (Sent lane)) (length-take-le n ps few))

pub handed-ready : (lane : ℕ) (marked : Bool) (held : List (List ℕ)) (whole at told : ℕ) (t t' : List Item) (s s' : List Event) (a b : Option (List ℕ)) → t' ≡ t ++ as_items held marked → s' ≡ s ++ replicate told (Sent lane) → WritesNow a b whole at held → told ≤ whole
    → Handed lane marked held whole at told t t' s s' a b
handed-ready lane marked held whole at told t t' s s' a b takes tells writes behind =
    let few = writes.0 in
    record { takes = takes; sends = tells ∙ ap (λ (es : List Event). s ++ es) (sent-front lane told held (omega (arith, few))); writes = writes; behind = behind }

pub handed-told : (lane : ℕ) (marked : Bool) (held : List (List ℕ)) (whole at told : ℕ) (t t' : List Item) (s s' u : List Event) (a b : Option (List ℕ)) → Handed lane marked held whole at told t t' s s' a b → u ≡ s' ++ replicate (whole - told) (Sent lane)
    → Handed lane marked held whole at whole t t' s u a b
handed-told lane marked held whole at told t t' s s' u a b h tells =
    let few = h.writes.0 in
    let behind = h.behind in
    let sum : told + (whole - told) ≡ whole = omega (arith, behind) in
    let both : sent_for lane (take told held) ++ replicate (whole - told) (Sent lane) ≡ sent_for lane (take whole held) =
    ap (λ (es : List Event). es ++ replicate (whole - told) (Sent lane)) (sym (sent-front lane told held (omega (arith, few, behind)))) ∙ replicate-append-replicate told (whole - told) (Sent lane) ∙ ap (λ (k : ℕ). replicate k (Sent lane)) sum ∙ sent-front lane whole held few in
    record {
      takes = h.takes;
      sends = tells ∙ ap (λ (es : List Event). es ++ replicate (whole - told) (Sent lane)) h.sends ∙ append_assoc s (sent_for lane (take told held)) (replicate (whole - told) (Sent lane)) ∙ ap (λ (es : List Event). s ++ es) both;
      writes = h.writes;
      behind = omega arith;
    }

-- what a writer's pass holds, by what was made of it
pub ready-handed : (old mid new : WriterState) (marked : Bool) (whole at told : ℕ) (a b : Option (List ℕ)) (shown : List (List ℕ)) → mid ≡ record old { taken = old.taken ++ as_items mid.held marked; held = mid.held } → shown ≡ mid.held → WritesNow a b whole at shown
    → new ≡ record mid { sent = mid.sent ++ replicate told (Sent mid.lane) } → told ≤ whole → Handed old.lane marked new.held whole at told old.taken new.taken old.sent new.sent a b
ready-handed old mid new marked whole at told a b shown took same writes tells behind =
    let held : new.held ≡ mid.held = ap (λ (w : WriterState). w.held) tells in
    let lane : mid.lane ≡ old.lane = ap (λ (w : WriterState). w.lane) took in
    let sends : new.sent ≡ old.sent ++ replicate told (Sent old.lane) =
    ap (λ (w : WriterState). w.sent) tells ∙ ap (λ (w : WriterState). w.sent ++ replicate told (Sent mid.lane)) took ∙ ap (λ (n : ℕ). old.sent ++ replicate told (Sent n)) lane in
    handed-ready old.lane marked new.held whole at told old.taken new.taken old.sent new.sent a b
    (ap (λ (w : WriterState). w.taken) tells ∙ ap (λ (w : WriterState). w.taken) took ∙ ap (λ (ps : List (List ℕ)). old.taken ++ as_items ps marked) (sym held))
    sends (subst (WritesNow a b whole at) (same ∙ sym held) writes) behind

pub finish-held : (result : WriteAnswer) (old mid : WriterState) (marked : Bool) (whole at told : ℕ) (t u : List Item) (s v : List Event) (a b c : Option (List ℕ)) → mid ≡ record old { sent = old.sent ++ replicate (whole - told) (Sent old.lane) }
    → Handed old.lane marked old.held whole at told t old.taken s old.sent a b
    → (Handed mid.lane marked mid.held whole at whole t mid.taken s mid.sent a b → FinishedUntil result mid.lane marked mid.held t u s v a c) → FinishedUntil result old.lane marked old.held t u s v a c
finish-held result old mid marked whole at told t u s v a b c tells given then' =
    let told' = handed-told old.lane marked old.held whole at told t old.taken s old.sent (old.sent ++ replicate (whole - told) (Sent old.lane)) a b given refl in
    subst (λ (w : WriterState). (Handed w.lane marked w.held whole at whole t w.taken s w.sent a b → FinishedUntil result w.lane marked w.held t u s v a c) → FinishedUntil result old.lane marked old.held t u s v a c) (sym tells) (λ f. f told') then'

-- ---- the next piece

next-piece : (held : List (List ℕ)) (i at : ℕ) → i < length held → front_of_next held i at ≡ take at (get_or held i [])
next-piece held i at inside = ap (λ (ps : List (List ℕ)). take at (concat (take 1 ps))) (drop-cons held i [] inside) ∙ ap (take at) (append-nil (get_or held i []))

next-take : (held : List (List ℕ)) (i : ℕ) → i < length held → take (i + 1) held ≡ take i held ++ get_or held i [] ∷ []
next-take held i inside = ap (λ (n : ℕ). take n held) (add-one i) ∙ take-suc held i [] inside

next-whole : (held : List (List ℕ)) (i : ℕ) → i < length held → concat (take (i + 1) held) ≡ concat (take i held) ++ get_or held i []
next-whole held i inside =
    ap concat (next-take held i inside) ∙ concat-append (take i held) (get_or held i [] ∷ []) ∙ ap (λ (xs : List ℕ). concat (take i held) ++ xs) (append-nil (get_or held i []))

rest-whole : (p : List ℕ) (at : ℕ) → take at p ++ drop (min at (length p)) p ≡ p
rest-whole p at = ap (λ (xs : List ℕ). xs ++ drop (min at (length p)) p) (sym (take_min at p)) ∙ take-append-drop (min at (length p)) p

rest-front : (p : List ℕ) (at n : ℕ) → take at p ++ take n (drop (min at (length p)) p) ≡ take (min at (length p) + n) p
rest-front p at n =
    let k = min at (length p) in
    ap (λ (xs : List ℕ). xs ++ take n (drop k p)) (sym (take_min at p)) ∙ sym (take-append-add (take k p) (drop k p) n)
    ∙ ap (λ (m : ℕ). take (m + n) (take k p ++ drop k p)) (length-take-le k p (omega arith)) ∙ ap (take (k + n)) (take-append-drop k p)

pub handed-more : (lane : ℕ) (marked : Bool) (held : List (List ℕ)) (i at : ℕ) (t t' u : List Item) (s s' v : List Event) (a b c : Option (List ℕ)) → Handed lane marked held i at i t t' s s' a b → i < length held
    → u ≡ t' → v ≡ s' ++ Sent lane ∷ [] → Appends b c (drop (min at (length (get_or held i []))) (get_or held i [])) → Handed lane marked held (i + 1) 0 (i + 1) t u s v a c
handed-more lane marked held i at t t' u s s' v a b c h inside takes tells adds =
    let p = get_or held i [] in
    let rest = drop (min at (length p)) p in
    let same : (concat (take i held) ++ front_of_next held i at) ++ rest ≡ concat (take (i + 1) held) ++ [] =
    append_assoc (concat (take i held)) (front_of_next held i at) rest
    ∙ ap (λ (xs : List ℕ). concat (take i held) ++ xs) (ap (λ (xs : List ℕ). xs ++ rest) (next-piece held i at inside) ∙ rest-whole p at)
    ∙ sym (next-whole held i inside) ∙ sym (append-nil (concat (take (i + 1) held))) in
    record {
      takes = takes ∙ h.takes;
      sends = mapped_twice (λ (_ : List ℕ). Sent lane) s s' v (take i held) (p ∷ []) h.sends tells ∙ ap (λ (ps : List (List ℕ)). s ++ sent_for lane ps) (sym (next-take held i inside));
      writes = (omega (arith, inside), subst (Appends a c) same (Appends-trans a b c (concat (take i held) ++ front_of_next held i at) rest h.writes.1 adds));
      behind = omega arith;
    }

pub handed-front : (lane : ℕ) (marked : Bool) (held : List (List ℕ)) (i at : ℕ) (t t' u : List Item) (s s' v : List Event) (a b c : Option (List ℕ)) → Handed lane marked held i at i t t' s s' a b → i < length held
    → u ≡ t' → v ≡ s' → AppendsFront b c (drop (min at (length (get_or held i []))) (get_or held i [])) → FinishedFront lane marked held t u s v a c
handed-front lane marked held i at t t' u s s' v a b c h inside takes tells front =
    let p = get_or held i [] in
    let k = min at (length p) in
    let n = front.0 in
    let same : (concat (take i held) ++ front_of_next held i at) ++ take n (drop k p) ≡ concat (take i held) ++ front_of_next held i (k + n) =
    append_assoc (concat (take i held)) (front_of_next held i at) (take n (drop k p))
    ∙ ap (λ (xs : List ℕ). concat (take i held) ++ xs) (ap (λ (xs : List ℕ). xs ++ take n (drop k p)) (next-piece held i at inside) ∙ rest-front p at n ∙ sym (next-piece held i (k + n) inside)) in
    record {
      whole = i;
      at = k + n;
      some = inside;
      handed = record {
        takes = takes ∙ h.takes;
        sends = tells ∙ h.sends;
        writes = (h.writes.0, subst (Appends a c) same (Appends-trans a b c (concat (take i held) ++ front_of_next held i at) (take n (drop k p)) h.writes.1 front.1));
        behind = omega arith;
      };
    }

-- ---- all of them

none-behind : (xs : List (List ℕ)) (at : ℕ) → length xs ≡ 0 → take at (concat (take 1 xs)) ≡ []
none-behind [] zero none = refl
none-behind [] (suc at) none = refl
none-behind (x ∷ xs) at none = absurd (omega arith)

pub finished-all : (lane : ℕ) (marked : Bool) (held : List (List ℕ)) (i at : ℕ) (t t' : List Item) (s s' : List Event) (a b : Option (List ℕ)) → Handed lane marked held i at i t t' s s' a b → length held ≤ i
    → FinishedAll lane marked held t t' s s' a b
finished-all lane marked held i at t t' s s' a b h over =
    let all = take_all i held over in
    let left : length (drop i held) ≡ 0 = (let size = length-drop i held in omega (arith, size)) in
    let same : concat (take i held) ++ front_of_next held i at ≡ concat held =
    ap (λ (xs : List ℕ). concat (take i held) ++ xs) (none-behind (drop i held) at left) ∙ append-nil (concat (take i held)) ∙ ap concat all in
    record { takes = h.takes; sends = h.sends ∙ ap (λ (ps : List (List ℕ)). s ++ sent_for lane ps) all; writes = subst (Appends a b) same h.writes.1 }

pub writes-finished : (lane : ℕ) (held : List (List ℕ)) (t t' : List Item) (s s' : List Event) (a b : Option (List ℕ)) → FinishedAll lane true held t t' s s' a b → Writes lane t t' s s' a b
writes-finished lane held t t' s s' a b f = record {
  pieces = held;
  rest = [];
  n = 0;
  takes = f.takes ∙ ap (λ (ps : List (List ℕ)). t ++ (map Piece ps ++ Mark ∷ [])) (sym (append-nil held));
  sends = f.sends;
  writes = subst (Appends a b) (sym (append-nil (concat held))) f.writes;
}

unmarked : (t t' : List Item) (held : List (List ℕ)) → t' ≡ t ++ as_items held false → t' ≡ t ++ map Piece held
unmarked t t' held takes = takes ∙ ap (λ (xs : List Item). t ++ xs) (append-nil (map Piece held))

-- pieces that were taken, and then more, up to the end mark
taken-on : (t t' u : List Item) (held more : List (List ℕ)) → t' ≡ t ++ map Piece held → u ≡ t' ++ (map Piece more ++ Mark ∷ []) → u ≡ t ++ (map Piece (held ++ more) ++ Mark ∷ [])
taken-on t t' u held more before then' =
    then' ∙ sym (append_assoc t' (map Piece more) (Mark ∷ [])) ∙ ap (λ (xs : List Item). xs ++ Mark ∷ []) (mapped_twice Piece t t' (t' ++ map Piece more) held more before refl)
    ∙ append_assoc t (map Piece (held ++ more)) (Mark ∷ [])

pub writes-then : (lane : ℕ) (held : List (List ℕ)) (t t' u : List Item) (s s' v : List Event) (a b c : Option (List ℕ)) → FinishedAll lane false held t t' s s' a b → Writes lane t' u s' v b c → Writes lane t u s v a c
writes-then lane held t t' u s s' v a b c f w =
    let front = take w.n (concat (take 1 w.rest)) in
    record {
      pieces = held ++ w.pieces;
      rest = w.rest;
      n = w.n;
      takes = taken-on t t' u held (w.pieces ++ w.rest) (unmarked t t' held f.takes) w.takes ∙ ap (λ (ps : List (List ℕ)). t ++ (map Piece ps ++ Mark ∷ [])) (sym (append_assoc held w.pieces w.rest));
      sends = mapped_twice (λ (_ : List ℕ). Sent lane) s s' v held w.pieces f.sends w.sends;
      writes = subst (Appends a c) (sym (append_assoc (concat held) (concat w.pieces) front) ∙ ap (λ (xs : List ℕ). xs ++ front) (sym (concat-append held w.pieces))) (Appends-trans a b c (concat held) (concat w.pieces ++ front) f.writes w.writes);
    }

pub writes-dropped : (lane : ℕ) (marked : Bool) (held : List (List ℕ)) (t t' u : List Item) (s s' v : List Event) (a b : Option (List ℕ)) → FinishedFront lane marked held t t' s s' a b → DropsIf marked t' u → v ≡ s' → Writes lane t u s v a b
writes-dropped lane true held t t' u s s' v a b f same tells = record {
  pieces = take f.whole held;
  rest = drop f.whole held;
  n = f.at;
  takes = same ∙ f.handed.takes ∙ ap (λ (ps : List (List ℕ)). t ++ (map Piece ps ++ Mark ∷ [])) (sym (take-append-drop f.whole held));
  sends = tells ∙ f.handed.sends;
  writes = f.handed.writes.1;
}
writes-dropped lane false held t t' u s s' v a b f d tells =
    let size = length-drop f.whole held in
    let some = f.some in
    let first : take 1 (drop f.whole held ++ d.pieces) ≡ take 1 (drop f.whole held) = take-append-le 1 (drop f.whole held) d.pieces (omega (arith, size, some)) in
    let regroup : held ++ d.pieces ≡ take f.whole held ++ (drop f.whole held ++ d.pieces) = ap (λ (ps : List (List ℕ)). ps ++ d.pieces) (sym (take-append-drop f.whole held)) ∙ append_assoc (take f.whole held) (drop f.whole held) d.pieces in
    record {
      pieces = take f.whole held;
      rest = drop f.whole held ++ d.pieces;
      n = f.at;
      takes = taken-on t t' u held d.pieces (unmarked t t' held f.handed.takes) d.takes ∙ ap (λ (ps : List (List ℕ)). t ++ (map Piece ps ++ Mark ∷ [])) regroup;
      sends = tells ∙ f.handed.sends;
      writes = subst (λ (ps : List (List ℕ)). Appends a b (concat (take f.whole held) ++ take f.at (concat ps))) (sym first) f.handed.writes.1;
    }
