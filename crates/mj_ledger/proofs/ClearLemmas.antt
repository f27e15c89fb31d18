-- Whether somebody is kept waiting, by the tables.
use Rattle.std.proofs.Common.{◌≡◌, ◌-◌, ◌<◌, ℕ, Bool, true, false, cond, not, List, [], ◌∷◌, length, Option, Some, None, refl, sym, ap, subst, ◌∙◌, inl, inr, arith, length-drop, ltb}
use mathlib.Core.Bool.{◌&&◌}
use Rattle.std.specs.Prelude.{is_none}
use Rattle.std.specs.List.{list_any}
use Rattle.std.specs.Str.{bytes_eq}
use Rattle.std.proofs.lemmas.Bool.{and_from, and_parts, lt-ltb, ltb-true, not-true, or_cases, or_left, or_right, true≢false, false_from_ne_true}
use Rattle.mj_ledger.specs.Dues.{waits_for_of}
use Rattle.mj_ledger.specs.Events.{Event, is_passed}
use Rattle.mj_ledger.specs.Found.{hand_at, queue_at}
use Rattle.mj_ledger.specs.Hands.{hand}
use Rattle.mj_ledger.specs.Standing.{Stands, is_known, is_of}
use Rattle.mj_ledger.specs.TranscriptLaws.{asked, given, is_kept_from, nobody_is_kept, waits_for}
use Rattle.mj_ledger.specs.Workers.{held, is_gone, is_freed_since, serves, waits}
use Rattle.mj_ledger.specs.declared.hand.Hand.{Hand}
use Rattle.mj_ledger.specs.declared.tables.Tables.{Tables}
use Rattle.mj_ledger.proofs.LawLemmas.{bytes-own, bytes-same}
use Rattle.mj_ledger.proofs.WaitLemmas.{asked-is-of, kept-from, kept-parts, kept-seen, nobody-from, somebody-from, somebody-who, waits-is-of}

-- ---- some address of a list

any-here : (p : List ℕ → Bool) (w : List ℕ) (xs : List (List ℕ)) → p w ≡ true → list_any (bytes_eq w) xs ≡ true → list_any p xs ≡ true
any-here p w [] is h = absurd (true≢false (sym h))
any-here p w (x ∷ xs) is h = elim (or_cases (bytes_eq w x) (list_any (bytes_eq w) xs) h) [
  | inl same ↦ or_left (p x) (list_any p xs) (subst (λ (y : List ℕ). p y ≡ true) (bytes-same w x same) is)
  | inr there ↦ or_right (p x) (list_any p xs) (any-here p w xs is there)
]

any-in : (p : List ℕ → Bool) (xs : List (List ℕ)) → list_any p xs ≡ true → (w : List ℕ) × (p w ≡ true) × (list_any (bytes_eq w) xs ≡ true)
any-in p [] h = absurd (true≢false (sym h))
any-in p (x ∷ xs) h = elim (or_cases (p x) (list_any p xs) h) [
  | inl here ↦ (x, here, or_left (bytes_eq x x) (list_any (bytes_eq x) xs) (bytes-own x))
  | inr there ↦ (let r = any-in p xs there in (r.0, r.1, or_right (bytes_eq r.0 x) (list_any (bytes_eq r.0) xs) r.2))
]

both-ways : (x y : Bool) → (x ≡ true → y ≡ true) → (y ≡ true → x ≡ true) → x ≡ y
both-ways true y there back = sym (there refl)
both-ways false true there back = back refl
both-ways false false there back = refl

-- ---- by the tables

waits-stays : (w n : List ℕ) (es : List Event) → waits_for w n es ≡ true → is_gone w es ≡ false
waits-stays w n es h = not-true (is_gone w es) (and_parts (not (is_gone w es)) (is_none (held w es) && is_freed_since w es) (and_parts (waits w es) (serves w n es) h).0).0

present-is : (t : Tables) (es : List Event) (w : List ℕ) → Stands t es → list_any (is_of w) es ≡ true → is_gone w es ≡ false → list_any (bytes_eq w) t.present.items ≡ true
present-is t es w s of stays = s.present w ∙ and_from (is_known w es) (not (is_gone w es)) (s.heard w of) (ap not stays)

waits-by : (t : Tables) (es : List Event) (w n : List ℕ) → Stands t es → is_known w es ≡ true → waits_for_of (hand_at t.peers w) n ≡ waits_for w n es
waits-by t es w n s there = ap (λ (o : Option Hand). waits_for_of o n) (s.hands w) ∙ ap (λ (k : Bool). waits_for_of (cond k (Some (hand w es)) None) n) there

asks-by : (t : Tables) (es : List Event) (c n : List ℕ) → Stands t es → t.owner ≡ true → is_passed n ≡ false → length (queue_at t.peers c n) ≡ length (asked c n es) - length (given c n es)
asks-by t es c n s kept judged = ap length (s.pending kept c n judged) ∙ length-drop (length (given c n es)) (asked c n es)

none-some : {X A : Type 0} (x : X) → None ≡ Some x → A
none-some x h = cc

some-one : (a b : List ℕ) → Some a ≡ Some b → a ≡ b
some-one a b h = cc

pub clear-none : (t : Tables) (es : List Event) → Stands t es → t.suspect ≡ None → nobody_is_kept es ≡ true
clear-none t es s is = nobody-from es (λ who n kept. none-some n (sym is ∙ s.suspect who n kept))

pub clear-passed : (t : Tables) (es : List Event) (n : List ℕ) → Stands t es → t.suspect ≡ Some n → is_passed n ≡ true → nobody_is_kept es ≡ true
clear-passed t es n s is passed = nobody-from es (λ who m kept.
    let same : n ≡ m = some-one n m (sym is ∙ s.suspect who m kept) in
    let none = ap length (s.named who m (ap is_passed (sym same) ∙ passed)) in
    let less = (kept-parts who m es kept).1 in
    absurd (omega (arith, none, less)))

pub clear-some : (t : Tables) (es : List Event) (n : List ℕ) → Stands t es → t.owner ≡ true → t.suspect ≡ Some n → is_passed n ≡ false
    → not (list_any (λ who. waits_for_of (hand_at t.peers who) n) t.present.items && list_any (λ who. ltb 0 (length (queue_at t.peers who n))) t.present.items) ≡ nobody_is_kept es
clear-some t es n s kept is judged =
    let p = λ (who : List ℕ). waits_for_of (hand_at t.peers who) n in
    let q = λ (who : List ℕ). ltb 0 (length (queue_at t.peers who n)) in
    both-ways (not (list_any p t.present.items && list_any q t.present.items)) (nobody_is_kept es)
    (λ clear. nobody-from es (λ who m here.
    let same : n ≡ m = some-one n m (sym is ∙ s.suspect who m here) in
    let held_up : is_kept_from who n es ≡ true = subst (λ (x : List ℕ). is_kept_from who x es ≡ true) (sym same) here in
    let parts = kept-parts who n es held_up in
    let less = parts.1 in
    let w = somebody-who n es parts.2 in
    let of : list_any (is_of w.0) es ≡ true = waits-is-of w.0 n es w.1 in
    let one : list_any p t.present.items ≡ true =
    any-here p w.0 t.present.items (waits-by t es w.0 n s (s.heard w.0 of) ∙ w.1) (present-is t es w.0 s of (waits-stays w.0 n es w.1)) in
    let some : 0 < length (queue_at t.peers who n) = (let l = asks-by t es who n s kept judged in omega (arith, l, less)) in
    let two : list_any q t.present.items ≡ true =
    any-here q who t.present.items (lt-ltb 0 (length (queue_at t.peers who n)) some) (present-is t es who s (asked-is-of who n es (omega (arith, less))) parts.0) in
    true≢false (sym (and_from (list_any p t.present.items) (list_any q t.present.items) one two) ∙ not-true (list_any p t.present.items && list_any q t.present.items) clear)))
    (λ nobody. ap not (false_from_ne_true (list_any p t.present.items && list_any q t.present.items) (λ h.
    let parts = and_parts (list_any p t.present.items) (list_any q t.present.items) h in
    let w = any-in p t.present.items parts.0 in
    let c = any-in q t.present.items parts.1 in
    let w_here = and_parts (is_known w.0 es) (not (is_gone w.0 es)) (sym (s.present w.0) ∙ w.2) in
    let c_here = and_parts (is_known c.0 es) (not (is_gone c.0 es)) (sym (s.present c.0) ∙ c.2) in
    let some = ltb-true 0 (length (queue_at t.peers c.0 n)) c.1 in
    let less : length (given c.0 n es) < length (asked c.0 n es) = (let l = asks-by t es c.0 n s kept judged in omega (arith, l, some)) in
    true≢false (sym nobody ∙ kept-seen c.0 n es (kept-from c.0 n es (not-true (is_gone c.0 es) c_here.1) less (somebody-from w.0 n es (sym (waits-by t es w.0 n s w_here.0) ∙ w.1)))))))
