-- What one more event makes of the law on waiting.
use Rattle.std.proofs.Common.{◌≡◌, ◌<◌, ℕ, Bool, true, false, cond, not, List, [], ◌∷◌, ◌++◌, length, Option, Some, None, refl, sym, ap, subst, ◌∙◌, inl, inr, ◌⊎◌, append-nil, arith, length-append, ltb}
use mathlib.Core.Bool.{◌&&◌, ◌||◌}
use Rattle.std.specs.Prelude.{is_none}
use Rattle.std.specs.List.{last_or, list_any}
use Rattle.std.specs.Str.{bytes_eq}
use Rattle.std.proofs.lemmas.Bool.{and_from, and_parts, cases_Bool, false_from_ne_true, lt-ltb, ltb-false, ltb-true, not-true, or_cases, or_left, or_right, true≢false}
use Rattle.mj_ledger.specs.Events.{Event, Opened, Asked, Ready, Replied, Given, Answered, Lapsed, Left, Wrong}
use Rattle.mj_ledger.specs.TranscriptLaws.{asked, asked_at, given, given_at, is_kept, is_kept_from, is_waiting_for, nobody_is_kept, somebody_waits, waits_for}
use Rattle.mj_ledger.specs.Workers.{is_gone, is_leaving, is_ready, is_some_of, service_at, service_of, serves, waits, would_count}
use Rattle.mj_ledger.proofs.Lists.{any-push, by-pushes}
use Rattle.mj_ledger.specs.Hands.{hand, hand_after, when_ready, when_replied}
use Rattle.mj_ledger.specs.Standing.{NobodyBut, is_of, touched}
use Rattle.mj_ledger.specs.declared.hand.Hand.{Hand}
use Rattle.mj_ledger.proofs.HandLemmas.{gone-push, hand-push, service-push}
use Rattle.mj_ledger.proofs.LawLemmas.{asked-push, bytes-own, bytes-same, given-push, some-of-is}

-- ---- some item of a list

pub any-some : {X : Type 0} (p : X → Bool) (xs : List X) → list_any p xs ≡ true → (x : X) × (p x ≡ true)
any-some p [] h = absurd (true≢false (sym h))
any-some {X} p (x ∷ xs) h = elim (or_cases (p x) (list_any p xs) h) [ inl here ↦ (x, here) | inr there ↦ any-some p xs there ]

any-more : {X : Type 0} (p q : X → Bool) → ((x : X) → p x ≡ true → q x ≡ true) → (xs : List X) → list_any p xs ≡ true → list_any q xs ≡ true
any-more p q more [] h = h
any-more p q more (x ∷ xs) h = elim (or_cases (p x) (list_any p xs) h) [ inl here ↦ or_left (q x) (list_any q xs) (more x here) | inr there ↦ or_right (q x) (list_any q xs) (any-more p q more xs there) ]

-- ---- who serves has said READY

unready-at : (who : List ℕ) (es : List Event) (e : Event) → is_ready who e ≡ false → service_at who es e ≡ []
unready-at who es (Ready w n) false_is = ap (λ (b : Bool). cond (b && would_count who es) (n ∷ []) []) false_is
unready-at who es (Opened w) false_is = refl
unready-at who es (Asked w s body) false_is = refl
unready-at who es (Replied w l to body) false_is = refl
unready-at who es (Given w to body) false_is = refl
unready-at who es (Answered w s l body) false_is = refl
unready-at who es (Lapsed w) false_is = refl
unready-at who es (Left w) false_is = refl
unready-at who es Wrong false_is = refl

none-some : {X : Type 0} {A : Type 0} (x : X) → None ≡ Some x → A
none-some x h = cc

serving-step : (who : List ℕ) (es : List Event) (e : Event) (b : Bool) → is_ready who e ≡ b → ((s : List ℕ) → service_of who es ≡ Some s → list_any (is_ready who) es ≡ true)
    → (s : List ℕ) → service_of who (es ++ e ∷ []) ≡ Some s → list_any (is_ready who) (es ++ e ∷ []) ≡ true
serving-step who es e true is here s h = any-push (is_ready who) es e ∙ or_right (list_any (is_ready who) es) (is_ready who e) is
serving-step who es e false is here s h =
    any-push (is_ready who) es e
    ∙ or_left (list_any (is_ready who) es) (is_ready who e) (here s (sym (service-push who es e ∙ ap (last_or (service_of who es)) (unready-at who es e is)) ∙ h))

serving : (who : List ℕ) (es : List Event) (s : List ℕ) → service_of who es ≡ Some s → list_any (is_ready who) es ≡ true
serving who =
    by-pushes (λ es. (s : List ℕ) → service_of who es ≡ Some s → list_any (is_ready who) es ≡ true)
    (λ s h. none-some s h)
    (λ es e here. serving-step who es e (is_ready who e) refl here)

ready-is-of : (who : List ℕ) (e : Event) → is_ready who e ≡ true → is_of who e ≡ true
ready-is-of who (Ready w n) h = h
ready-is-of who (Opened w) h = absurd (true≢false (sym h))
ready-is-of who (Asked w s body) h = absurd (true≢false (sym h))
ready-is-of who (Replied w l to body) h = absurd (true≢false (sym h))
ready-is-of who (Given w to body) h = absurd (true≢false (sym h))
ready-is-of who (Answered w s l body) h = absurd (true≢false (sym h))
ready-is-of who (Lapsed w) h = absurd (true≢false (sym h))
ready-is-of who (Left w) h = absurd (true≢false (sym h))
ready-is-of who Wrong h = absurd (true≢false (sym h))

waits-serves : (who s : List ℕ) (es : List Event) → waits_for who s es ≡ true → service_of who es ≡ Some s
waits-serves who s es h = some-of-is s (service_of who es) (and_parts (waits who es) (serves who s es) h).1

pub waits-is-of : (who s : List ℕ) (es : List Event) → waits_for who s es ≡ true → list_any (is_of who) es ≡ true
waits-is-of who s es h = any-more (is_ready who) (is_of who) (ready-is-of who) es (serving who es s (waits-serves who s es h))

-- ---- somebody waits

waiting-who : (s : List ℕ) (es : List Event) (e : Event) → is_waiting_for s es e ≡ true → (w : List ℕ) × (waits_for w s es ≡ true)
waiting-who s es (Ready w n) h = (w, h)
waiting-who s es (Opened w) h = absurd (true≢false (sym h))
waiting-who s es (Asked w n body) h = absurd (true≢false (sym h))
waiting-who s es (Replied w l to body) h = absurd (true≢false (sym h))
waiting-who s es (Given w to body) h = absurd (true≢false (sym h))
waiting-who s es (Answered w n l body) h = absurd (true≢false (sym h))
waiting-who s es (Lapsed w) h = absurd (true≢false (sym h))
waiting-who s es (Left w) h = absurd (true≢false (sym h))
waiting-who s es Wrong h = absurd (true≢false (sym h))

pub somebody-who : (s : List ℕ) (es : List Event) → somebody_waits s es ≡ true → (w : List ℕ) × (waits_for w s es ≡ true)
somebody-who s es h = let x = any-some (is_waiting_for s es) es h in waiting-who s es x.0 x.1

waiting-from : (w s : List ℕ) (es : List Event) → waits_for w s es ≡ true → (e : Event) → is_ready w e ≡ true → is_waiting_for s es e ≡ true
waiting-from w s es waits (Ready v n) h = subst (λ (x : List ℕ). waits_for x s es ≡ true) (sym (bytes-same v w h)) waits
waiting-from w s es waits (Opened v) h = absurd (true≢false (sym h))
waiting-from w s es waits (Asked v n body) h = absurd (true≢false (sym h))
waiting-from w s es waits (Replied v l to body) h = absurd (true≢false (sym h))
waiting-from w s es waits (Given v to body) h = absurd (true≢false (sym h))
waiting-from w s es waits (Answered v n l body) h = absurd (true≢false (sym h))
waiting-from w s es waits (Lapsed v) h = absurd (true≢false (sym h))
waiting-from w s es waits (Left v) h = absurd (true≢false (sym h))
waiting-from w s es waits Wrong h = absurd (true≢false (sym h))

pub somebody-from : (w s : List ℕ) (es : List Event) → waits_for w s es ≡ true → somebody_waits s es ≡ true
somebody-from w s es waits = any-more (is_ready w) (is_waiting_for s es) (waiting-from w s es waits) es (serving w es s (waits-serves w s es waits))

-- ---- who comes to wait

abbrev waits_by : List ℕ → Hand → Bool
waits_by s h = h.waiting && is_some_of s h.service

chosen : (s : List ℕ) (b : Bool) (x y : Hand) → waits_by s (cond b x y) ≡ true → ((b ≡ true) × (waits_by s x ≡ true)) ⊎ (waits_by s y ≡ true)
chosen s true x y h = inl (refl, h)
chosen s false x y h = inr h

ready-waits : (s n : List ℕ) (h : Hand) → waits_by s (when_ready n h) ≡ true → (waits_by s h ≡ true) ⊎ (s ≡ n)
ready-waits s n h is = elim (cases_Bool h.readied) [
  | inl true_is ↦ inl (sym (ap (λ (b : Bool). waits_by s (cond b h (record h { readied = true; service = Some n; waiting = not h.gone && is_none h.held }))) true_is) ∙ is)
  | inr false_is ↦ inr (bytes-same s n (and_parts (not h.gone && is_none h.held) (bytes_eq s n) (sym (ap (λ (b : Bool). waits_by s (cond b h (record h { readied = true; service = Some n; waiting = not h.gone && is_none h.held }))) false_is) ∙ is)).1)
]

replied-waits : (s to : List ℕ) (last : Bool) (h : Hand) → waits_by s (when_replied last to h) ≡ true → (waits_by s h ≡ true) ⊎ (h.service ≡ Some s)
replied-waits s to last h is = elim (chosen s (last && is_some_of to h.held) (record h { held = None; waiting = not h.gone }) h is) [
  | inl freed ↦ inr (some-of-is s h.service (and_parts (not h.gone) (is_some_of s h.service) freed.1).1)
  | inr kept ↦ inl kept
]

waits-after : (w s : List ℕ) (es : List Event) (e : Event) → waits_by s (hand_after w e (hand w es)) ≡ true → (waits_by s (hand w es) ≡ true) ⊎ (touched es e ≡ Some s)
waits-after w s es (Ready v n) is = elim (chosen s (bytes_eq v w) (when_ready n (hand w es)) (hand w es) is) [
  | inl freed ↦ elim (ready-waits s n (hand w es) freed.1) [ inl kept ↦ inl kept | inr same ↦ inr (ap (λ (x : List ℕ). Some x) (sym same)) ]
  | inr kept ↦ inl kept
]
waits-after w s es (Replied v last to body) is = elim (chosen s (bytes_eq v w) (when_replied last to (hand w es)) (hand w es) is) [
  | inl freed ↦ elim (replied-waits s to last (hand w es) freed.1) [ inl kept ↦ inl kept | inr same ↦ inr (ap (λ (x : List ℕ). service_of x es) (bytes-same v w freed.0) ∙ same) ]
  | inr kept ↦ inl kept
]
waits-after w s es (Given v to body) is = elim (chosen s (bytes_eq v w) (record (hand w es) { held = cond (is_gone w es) None (Some to); waiting = false }) (hand w es) is) [ inl false_is ↦ absurd (true≢false (sym false_is.1)) | inr kept ↦ inl kept ]
waits-after w s es (Lapsed v) is = elim (chosen s (bytes_eq v w) (record (hand w es) { readied = false; held = None; waiting = false }) (hand w es) is) [ inl false_is ↦ absurd (true≢false (sym false_is.1)) | inr kept ↦ inl kept ]
waits-after w s es (Left v) is = elim (chosen s (bytes_eq v w) (record (hand w es) { gone = true; held = None; waiting = false }) (hand w es) is) [ inl false_is ↦ absurd (true≢false (sym false_is.1)) | inr kept ↦ inl kept ]
waits-after w s es (Opened v) is = inl is
waits-after w s es (Asked v n body) is = inl is
waits-after w s es (Answered v n l body) is = inl is
waits-after w s es Wrong is = inl is

waits-push : (w s : List ℕ) (es : List Event) (e : Event) → waits_for w s (es ++ e ∷ []) ≡ true → (waits_for w s es ≡ true) ⊎ (touched es e ≡ Some s)
waits-push w s es e is = waits-after w s es e (sym (ap (waits_by s) (hand-push w es e)) ∙ is)

-- ---- who comes to be kept

pub kept-parts : (who s : List ℕ) (es : List Event) → is_kept_from who s es ≡ true → (is_gone who es ≡ false) × (length (given who s es) < length (asked who s es)) × (somebody_waits s es ≡ true)
kept-parts who s es h =
    let a = and_parts (not (is_gone who es)) (ltb (length (given who s es)) (length (asked who s es)) && somebody_waits s es) h in
    let b = and_parts (ltb (length (given who s es)) (length (asked who s es))) (somebody_waits s es) a.1 in
    (not-true (is_gone who es) a.0, ltb-true (length (given who s es)) (length (asked who s es)) b.0, b.1)

pub kept-from : (who s : List ℕ) (es : List Event) → is_gone who es ≡ false → length (given who s es) < length (asked who s es) → somebody_waits s es ≡ true → is_kept_from who s es ≡ true
kept-from who s es stays less waits =
    and_from (not (is_gone who es)) (ltb (length (given who s es)) (length (asked who s es)) && somebody_waits s es) (ap not stays)
    (and_from (ltb (length (given who s es)) (length (asked who s es))) (somebody_waits s es) (lt-ltb (length (given who s es)) (length (asked who s es)) less) waits)

asked-few : (who s : List ℕ) (e : Event) (x : List Event) → (asked_at who s e ≡ []) ⊎ (touched x e ≡ Some s)
asked-few who s (Asked w n body) x = elim (cases_Bool (bytes_eq w who && bytes_eq n s)) [
  | inl true_is ↦ inr (ap (λ (l : List ℕ). Some l) (bytes-same n s (and_parts (bytes_eq w who) (bytes_eq n s) true_is).1))
  | inr false_is ↦ inl (ap (λ (b : Bool). cond b (body ∷ []) []) false_is)
]
asked-few who s (Opened w) x = inl refl
asked-few who s (Ready w n) x = inl refl
asked-few who s (Replied w l to body) x = inl refl
asked-few who s (Given w to body) x = inl refl
asked-few who s (Answered w n l body) x = inl refl
asked-few who s (Lapsed w) x = inl refl
asked-few who s (Left w) x = inl refl
asked-few who s Wrong x = inl refl

stays-before : (a b : Bool) → (a || b) ≡ false → a ≡ false
stays-before true b h = h
stays-before false b h = refl

pub kept-still : (who s : List ℕ) (es : List Event) (e : Event) → is_kept_from who s (es ++ e ∷ []) ≡ true → (is_kept_from who s es ≡ true) ⊎ (touched es e ≡ Some s)
kept-still who s es e h =
    let p = kept-parts who s (es ++ e ∷ []) h in
    let w = somebody-who s (es ++ e ∷ []) p.2 in
    elim (waits-push w.0 s es e w.1) [
      | inr same ↦ inr same
      | inl waits ↦ elim (asked-few who s e es) [
        | inr same ↦ inr same
        | inl none ↦
            let a : asked who s (es ++ e ∷ []) ≡ asked who s es = asked-push who s es e ∙ ap (λ (l : List (List (List ℕ))). asked who s es ++ l) none ∙ append-nil (asked who s es) in
            let a2 = ap length a in
            let g = ap length (given-push who s es e) in
            let g2 = length-append (given who s es) (given_at who s es e) in
            let less : length (given who s es) < length (asked who s es) = (let q = p.1 in omega (arith, a2, g, g2, q)) in
            inl (kept-from who s es (stays-before (is_gone who es) (is_leaving who e) (sym (gone-push who es e) ∙ p.0)) less (somebody-from w.0 s es waits))
      ]
    ]

pub nobody-push : (suspect : Option (List ℕ)) (es : List Event) (e : Event) → touched es e ≡ None → NobodyBut suspect es → NobodyBut suspect (es ++ e ∷ [])
nobody-push suspect es e calm before = λ who s h. elim (kept-still who s es e h) [ inl kept ↦ before who s kept | inr is ↦ none-some s (sym calm ∙ is) ]

pub nobody-touched : (es : List Event) (e : Event) → NobodyBut None es → NobodyBut (touched es e) (es ++ e ∷ [])
nobody-touched es e before = λ who s h. elim (kept-still who s es e h) [ inl kept ↦ none-some s (before who s kept) | inr is ↦ is ]

-- ---- nobody is kept

abbrev asks-some : List ℕ → List ℕ → Event → Bool
asks-some who s e = ltb 0 (length (asked_at who s e))

asked-any : (who s : List ℕ) (es : List Event) → 0 < length (asked who s es) → list_any (asks-some who s) es ≡ true
asked-any who s [] h = absurd (omega arith)
asked-any who s (e ∷ es) h = elim (cases_Bool (ltb 0 (length (asked_at who s e)))) [
  | inl true_is ↦ or_left (ltb 0 (length (asked_at who s e))) (list_any (asks-some who s) es) true_is
  | inr false_is ↦ or_right (ltb 0 (length (asked_at who s e))) (list_any (asks-some who s) es)
      (asked-any who s es (let l = length-append (asked_at who s e) (asked who s es) in let z = ltb-false 0 (length (asked_at who s e)) false_is in omega (arith, l, z)))
]

asks-these : (who s w n : List ℕ) (body : List (List ℕ)) (b : Bool) → (bytes_eq w who && bytes_eq n s) ≡ b → ltb 0 (length (cond b (body ∷ []) [])) ≡ true → (w ≡ who) × (n ≡ s)
asks-these who s w n body true is h = let p = and_parts (bytes_eq w who) (bytes_eq n s) is in (bytes-same w who p.0, bytes-same n s p.1)
asks-these who s w n body false is h = absurd (true≢false (sym h))

asks-kept : (who s : List ℕ) (es : List Event) → is_kept_from who s es ≡ true → (e : Event) → asks-some who s e ≡ true → is_kept es e ≡ true
asks-kept who s es kept (Asked w n body) h =
    let p = asks-these who s w n body (bytes_eq w who && bytes_eq n s) refl h in
    subst (λ (x : List ℕ). is_kept_from x n es ≡ true) (sym p.0) (subst (λ (x : List ℕ). is_kept_from who x es ≡ true) (sym p.1) kept)
asks-kept who s es kept (Opened w) h = absurd (true≢false (sym h))
asks-kept who s es kept (Ready w n) h = absurd (true≢false (sym h))
asks-kept who s es kept (Replied w l to body) h = absurd (true≢false (sym h))
asks-kept who s es kept (Given w to body) h = absurd (true≢false (sym h))
asks-kept who s es kept (Answered w n l body) h = absurd (true≢false (sym h))
asks-kept who s es kept (Lapsed w) h = absurd (true≢false (sym h))
asks-kept who s es kept (Left w) h = absurd (true≢false (sym h))
asks-kept who s es kept Wrong h = absurd (true≢false (sym h))

asks-is-of : (who s : List ℕ) (e : Event) → asks-some who s e ≡ true → is_of who e ≡ true
asks-is-of who s (Asked w n body) h = let p = asks-these who s w n body (bytes_eq w who && bytes_eq n s) refl h in subst (λ (x : List ℕ). bytes_eq x who ≡ true) (sym p.0) (bytes-own who)
asks-is-of who s (Opened w) h = absurd (true≢false (sym h))
asks-is-of who s (Ready w n) h = absurd (true≢false (sym h))
asks-is-of who s (Replied w l to body) h = absurd (true≢false (sym h))
asks-is-of who s (Given w to body) h = absurd (true≢false (sym h))
asks-is-of who s (Answered w n l body) h = absurd (true≢false (sym h))
asks-is-of who s (Lapsed w) h = absurd (true≢false (sym h))
asks-is-of who s (Left w) h = absurd (true≢false (sym h))
asks-is-of who s Wrong h = absurd (true≢false (sym h))

pub asked-is-of : (who s : List ℕ) (es : List Event) → 0 < length (asked who s es) → list_any (is_of who) es ≡ true
asked-is-of who s es h = any-more (asks-some who s) (is_of who) (asks-is-of who s) es (asked-any who s es h)

pub kept-seen : (who s : List ℕ) (es : List Event) → is_kept_from who s es ≡ true → nobody_is_kept es ≡ false
kept-seen who s es kept =
    let p = (kept-parts who s es kept).1 in
    ap not (any-more (asks-some who s) (is_kept es) (asks-kept who s es kept) es (asked-any who s es (omega (arith, p))))

pub nobody-clears : (es : List Event) → nobody_is_kept es ≡ true → NobodyBut None es
nobody-clears es nobody = λ who s kept. absurd (true≢false (sym nobody ∙ kept-seen who s es kept))

kept-who : (es : List Event) (e : Event) → is_kept es e ≡ true → (who : List ℕ) × (s : List ℕ) × (is_kept_from who s es ≡ true)
kept-who es (Asked w n body) h = (w, n, h)
kept-who es (Opened w) h = absurd (true≢false (sym h))
kept-who es (Ready w n) h = absurd (true≢false (sym h))
kept-who es (Replied w l to body) h = absurd (true≢false (sym h))
kept-who es (Given w to body) h = absurd (true≢false (sym h))
kept-who es (Answered w n l body) h = absurd (true≢false (sym h))
kept-who es (Lapsed w) h = absurd (true≢false (sym h))
kept-who es (Left w) h = absurd (true≢false (sym h))
kept-who es Wrong h = absurd (true≢false (sym h))

-- where nobody is kept from any service, nobody is
pub nobody-from : (es : List Event) → ((who s : List ℕ) → is_kept_from who s es ≡ true → ⊥) → nobody_is_kept es ≡ true
nobody-from es none = ap not (false_from_ne_true (list_any (is_kept es) es) (λ h. let e = any-some (is_kept es) es h in let k = kept-who es e.0 e.1 in none k.0 k.1 k.2))
