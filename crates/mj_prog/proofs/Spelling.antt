-- Laws of how lines spell their events.
use Rattle.std.proofs.Common.{◌≡◌, ◌<◌, ◌≤◌, ◌+◌, ◌^◌, ℕ, suc, Bool, true, false, cond, ◌&&◌, nat_lt, nat_le, List, [], ◌∷◌, ◌++◌, length, take, drop, get_or, Option, Some, None, codes, refl, sym, ap, ◌∙◌, subst, arith, length-append}
use Rattle.std.proofs.Math.Seq.{drop-cons, take-append_seam, drop-append-add}
use Rattle.std.proofs.lemmas.Bool.Decides.{nat_tests}
use Rattle.std.proofs.lemmas.List.{take-append-drop}
use Rattle.std.proofs.lemmas.List.Quantifiers.{position-Some}
use Rattle.std.proofs.lemmas.Slice.Eq.{bytes_eq-Decides}
use Rattle.std.specs.List.{position, position_or_len, list_all}
use Rattle.std.specs.Str.{bytes_eq}
use Rattle.std.specs.Fmt.{decimal}
use Rattle.mj_base.specs.declared.event.Event.{Event}
use Rattle.mj_base.specs.declared.event.Event.TheVariants as events
use Rattle.mj_prog.specs.declared.meaning.Meaning.TheVariants as meanings
use Rattle.mj_words.specs.Numbers.{is_digit, number_of}
use Rattle.mj_prog.specs.Script.{is_space, is_silent, lane_in, lane_of, piece_of, on_lane, bytes_on, bytes_at, bytes_of, tick_at, event_named, event_at, event_of, acting, meaning_of}
use Rattle.mj_prog.specs.SpelledLines.{IsSpelled, EventsAreSpelled}
use Rattle.mj_prog.proofs.Digits.{numbers-are-decimal, decimal-digits}

some-is : {A : Type 0} (a b : A) → Some a ≡ Some b → a ≡ b
some-is a b e = cc

cond-some : {A : Type 0} (b : Bool) (x y : A) → cond b (Some x) None ≡ Some y → (b ≡ true) × (x ≡ y)
cond-some true x y e = (refl, some-is x y e)
cond-some false x y e = cc

abbrev HasNoSpace : List ℕ → Type 0
HasNoSpace [] = Unit {0}
HasNoSpace (c ∷ cs) = (is_space c ≡ false) × HasNoSpace cs

space-is : (c : ℕ) → is_space c ≡ true → c ≡ 32
space-is c e = grind (arith, nat_tests)

-- a line is cut at its first space
cut : (line : List ℕ) (space : ℕ) → position is_space line ≡ Some space → line ≡ take space line ++ 32 ∷ drop (space + 1) line
cut line space e =
    let p = position-Some is_space line space 0 e in
    let next : suc space ≡ space + 1 = omega arith in
    sym (take-append-drop space line)
    ∙ ap (λ (rest : List ℕ). take space line ++ rest) (drop-cons line space 0 p.0 ∙ ap (λ (c : ℕ). c ∷ drop (suc space) line) (space-is (get_or line space 0) p.1) ∙ ap (λ (n : ℕ). 32 ∷ drop n line) next)

first-space : (word rest : List ℕ) → HasNoSpace word → position_or_len is_space (word ++ 32 ∷ rest) ≡ length word
first-space [] rest none = refl
first-space (c ∷ cs) rest none = let e = first-space cs rest none.1 in rw (none.0) (omega (arith, e))

position-word : (word rest : List ℕ) → HasNoSpace word → position is_space (word ++ 32 ∷ rest) ≡ Some (length word)
position-word word rest none =
    let size = length-append word (32 ∷ rest) in
    let inside : length word < length (word ++ 32 ∷ rest) = omega (arith, size) in
    let test : nat_lt (length word) (length (word ++ 32 ∷ rest)) ≡ true = grind (arith, nat_tests) in
    ap (λ (n : ℕ). cond (nat_lt n (length (word ++ 32 ∷ rest))) (Some n) None) (first-space word rest none)
    ∙ ap (λ (b : Bool). cond b (Some (length word)) None) test

word-event : (lanes : ℕ) (word rest : List ℕ) → HasNoSpace word → event_of lanes (word ++ 32 ∷ rest) ≡ event_named lanes word rest
word-event lanes word rest none =
    ap (event_at lanes (word ++ 32 ∷ rest)) (position-word word rest none)
    ∙ ap (λ (w : List ℕ). event_named lanes w (drop (length word + 1) (word ++ 32 ∷ rest))) (take-append_seam word (32 ∷ rest))
    ∙ ap (event_named lanes word) (drop-append-add word (32 ∷ rest) 1)

digit-no-space : (c : ℕ) → is_digit c ≡ true → is_space c ≡ false
digit-no-space c e = grind (arith, nat_tests)

both-true : (a b : Bool) → (a && b) ≡ true → (a ≡ true) × (b ≡ true)
both-true true b e = (refl, e)
both-true false b e = cc

digits-no-space : (text : List ℕ) → list_all is_digit text ≡ true → HasNoSpace text
digits-no-space [] e = tt
digits-no-space (c ∷ cs) e =
    let parts = both-true (is_digit c) (list_all is_digit cs) e in (digit-no-space c parts.0, digits-no-space cs parts.1)

-- lanes and ticks in decimal
lane-decimal : (lanes lane : ℕ) → lanes ≤ 2 ^ 32 → lane < lanes → lane_of lanes (decimal lane) ≡ Some lane
lane-decimal lanes lane few below =
    let test : nat_lt lane lanes ≡ true = grind (arith, nat_tests) in
    ap (lane_in lanes) ((numbers-are-decimal (decimal lane) lane).1 (omega arith, refl)) ∙ ap (λ (b : Bool). cond b (Some lane) None) test

tick-decimal : (ms : ℕ) → ms ≤ 1000000000000000 → tick_at (number_of (decimal ms)) ≡ Some (events.Tick ms)
tick-decimal ms few =
    let test : nat_le ms 1000000000000000 ≡ true = grind (arith, nat_tests) in
    ap tick_at ((numbers-are-decimal (decimal ms) ms).1 (omega arith, refl)) ∙ ap (λ (b : Bool). cond b (Some (events.Tick ms)) None) test

lane_by : (lanes lane : ℕ) (text : List ℕ) (number : Option ℕ) → number_of text ≡ number → lane_in lanes number ≡ Some lane → (lane < lanes) × (text ≡ decimal lane)
lane_by lanes lane text None is e = cc
lane_by lanes lane text (Some n) is e =
    let c = cond-some (nat_lt n lanes) n lane e in
    let test : nat_lt n lanes ≡ true = c.0 in
    let below : n < lanes = grind (arith, nat_tests) in
    (subst (λ (m : ℕ). m < lanes) c.1 below, ((numbers-are-decimal text n).0 is).1 ∙ ap decimal c.1)

lane-spelled : (lanes lane : ℕ) (text : List ℕ) → lane_of lanes text ≡ Some lane → (lane < lanes) × (text ≡ decimal lane)
lane-spelled lanes lane text e = lane_by lanes lane text (number_of text) refl e

on_lane-is : (make : ℕ → Event) (lane : Option ℕ) (event : Event) → on_lane make lane ≡ Some event → (n : ℕ) × (lane ≡ Some n) × (make n ≡ event)
on_lane-is make None event e = cc
on_lane-is make (Some n) event e = (n, refl, some-is (make n) event e)

-- the lines of each word
open-line : (lanes : ℕ) (text : List ℕ) (event : Event) → on_lane events.Open (lane_of lanes text) ≡ Some event → IsSpelled lanes event (codes "open" ++ 32 ∷ text)
open-line lanes text event e =
    let l = on_lane-is events.Open (lane_of lanes text) event e in
    let d = lane-spelled lanes l.0 text l.1 in
    subst (λ (ev : Event). IsSpelled lanes ev (codes "open" ++ 32 ∷ text)) l.2 (d.0, ap (λ (t : List ℕ). codes "open " ++ t) d.1)

sent-line : (lanes : ℕ) (text : List ℕ) (event : Event) → on_lane events.Sent (lane_of lanes text) ≡ Some event → IsSpelled lanes event (codes "sent" ++ 32 ∷ text)
sent-line lanes text event e =
    let l = on_lane-is events.Sent (lane_of lanes text) event e in
    let d = lane-spelled lanes l.0 text l.1 in
    subst (λ (ev : Event). IsSpelled lanes ev (codes "sent" ++ 32 ∷ text)) l.2 (d.0, ap (λ (t : List ℕ). codes "sent " ++ t) d.1)

close-line : (lanes : ℕ) (text : List ℕ) (event : Event) → on_lane events.Close (lane_of lanes text) ≡ Some event → IsSpelled lanes event (codes "close" ++ 32 ∷ text)
close-line lanes text event e =
    let l = on_lane-is events.Close (lane_of lanes text) event e in
    let d = lane-spelled lanes l.0 text l.1 in
    subst (λ (ev : Event). IsSpelled lanes ev (codes "close" ++ 32 ∷ text)) l.2 (d.0, ap (λ (t : List ℕ). codes "close " ++ t) d.1)

tick_by : (lanes : ℕ) (text : List ℕ) (event : Event) (number : Option ℕ) → number_of text ≡ number → tick_at number ≡ Some event → IsSpelled lanes event (codes "tick" ++ 32 ∷ text)
tick_by lanes text event None is e = cc
tick_by lanes text event (Some ms) is e =
    let c = cond-some (nat_le ms 1000000000000000) (events.Tick ms) event e in
    let test : nat_le ms 1000000000000000 ≡ true = c.0 in
    let few : ms ≤ 1000000000000000 = grind (arith, nat_tests) in
    subst (λ (ev : Event). IsSpelled lanes ev (codes "tick" ++ 32 ∷ text)) c.1 (few, ap (λ (t : List ℕ). codes "tick " ++ t) ((numbers-are-decimal text ms).0 is).1)

bytes_on-is : (lane : Option ℕ) (piece : Option (List ℕ)) (event : Event) → bytes_on lane piece ≡ Some event
    → (n : ℕ) × (bytes : List ℕ) × (lane ≡ Some n) × (piece ≡ Some bytes) × (events.Bytes n bytes ≡ event)
bytes_on-is None piece event e = cc
bytes_on-is (Some n) None event e = cc
bytes_on-is (Some n) (Some bytes) event e = (n, bytes, refl, refl, some-is (events.Bytes n bytes) event e)

bytes_by : (lanes : ℕ) (text : List ℕ) (event : Event) (place : Option ℕ) → position is_space text ≡ place → bytes_at lanes text place ≡ Some event
    → IsSpelled lanes event (codes "bytes" ++ 32 ∷ text)
bytes_by lanes text event None is e = cc
bytes_by lanes text event (Some space) is e =
    let digits = drop (space + 1) text in
    let b = bytes_on-is (lane_of lanes (take space text)) (piece_of digits) event e in
    let d = lane-spelled lanes b.0 (take space text) b.2 in
    subst (λ (ev : Event). IsSpelled lanes ev (codes "bytes" ++ 32 ∷ text)) b.4
    (d.0, (digits, b.3, ap (λ (t : List ℕ). codes "bytes " ++ t) (cut text space is ∙ ap (λ (t : List ℕ). t ++ 32 ∷ digits) d.1)))

word-is : (word name : List ℕ) → bytes_eq word name ≡ true → name ≡ word
word-is word name e = sym ((bytes_eq-Decides word name).0 e)

named_by : (lanes : ℕ) (word text : List ℕ) (event : Event) (o b s c t : Bool)
    → bytes_eq word (codes "open") ≡ o → bytes_eq word (codes "bytes") ≡ b → bytes_eq word (codes "sent") ≡ s → bytes_eq word (codes "close") ≡ c → bytes_eq word (codes "tick") ≡ t
    → cond o (on_lane events.Open (lane_of lanes text)) (cond b (bytes_of lanes text) (cond s (on_lane events.Sent (lane_of lanes text)) (cond c (on_lane events.Close (lane_of lanes text)) (cond t (tick_at (number_of text)) None)))) ≡ Some event
    → IsSpelled lanes event (word ++ 32 ∷ text)
named_by lanes word text event true b s c t eo eb es ec et e = subst (λ (w : List ℕ). IsSpelled lanes event (w ++ 32 ∷ text)) (word-is word (codes "open") eo) (open-line lanes text event e)
named_by lanes word text event false true s c t eo eb es ec et e = subst (λ (w : List ℕ). IsSpelled lanes event (w ++ 32 ∷ text)) (word-is word (codes "bytes") eb) (bytes_by lanes text event (position is_space text) refl e)
named_by lanes word text event false false true c t eo eb es ec et e = subst (λ (w : List ℕ). IsSpelled lanes event (w ++ 32 ∷ text)) (word-is word (codes "sent") es) (sent-line lanes text event e)
named_by lanes word text event false false false true t eo eb es ec et e = subst (λ (w : List ℕ). IsSpelled lanes event (w ++ 32 ∷ text)) (word-is word (codes "close") ec) (close-line lanes text event e)
named_by lanes word text event false false false false true eo eb es ec et e = subst (λ (w : List ℕ). IsSpelled lanes event (w ++ 32 ∷ text)) (word-is word (codes "tick") et) (tick_by lanes text event (number_of text) refl e)
named_by lanes word text event false false false false false eo eb es ec et e = cc

event_by : (lanes : ℕ) (line : List ℕ) (event : Event) (place : Option ℕ) → position is_space line ≡ place → event_at lanes line place ≡ Some event → IsSpelled lanes event line
event_by lanes line event None is e = cc
event_by lanes line event (Some space) is e =
    let word = take space line in
    subst (IsSpelled lanes event) (sym (cut line space is))
    (named_by lanes word (drop (space + 1) line) event (bytes_eq word (codes "open")) (bytes_eq word (codes "bytes")) (bytes_eq word (codes "sent")) (bytes_eq word (codes "close")) (bytes_eq word (codes "tick")) refl refl refl refl refl e)

spelled-event : (lanes : ℕ) (event : Event) (line : List ℕ) → lanes ≤ 2 ^ 32 → IsSpelled lanes event line → event_of lanes line ≡ Some event
spelled-event lanes (events.Open lane) line few s =
    ap (event_of lanes) s.1 ∙ word-event lanes (codes "open") (decimal lane) (refl, (refl, (refl, (refl, tt)))) ∙ ap (on_lane events.Open) (lane-decimal lanes lane few s.0)
spelled-event lanes (events.Bytes lane piece) line few s =
    let digits = s.1.0 in
    let text = decimal lane ++ 32 ∷ digits in
    let none = digits-no-space (decimal lane) (decimal-digits lane (omega (arith, s.0))) in
    ap (event_of lanes) s.1.2
    ∙ word-event lanes (codes "bytes") text (refl, (refl, (refl, (refl, (refl, tt)))))
    ∙ ap (bytes_at lanes text) (position-word (decimal lane) digits none)
    ∙ ap (λ (t : List ℕ). bytes_on (lane_of lanes t) (piece_of (drop (length (decimal lane) + 1) text))) (take-append_seam (decimal lane) (32 ∷ digits))
    ∙ ap (λ (t : List ℕ). bytes_on (lane_of lanes (decimal lane)) (piece_of t)) (drop-append-add (decimal lane) (32 ∷ digits) 1)
    ∙ ap (λ (l : Option ℕ). bytes_on l (piece_of digits)) (lane-decimal lanes lane few s.0)
    ∙ ap (bytes_on (Some lane)) s.1.1
spelled-event lanes (events.Sent lane) line few s =
    ap (event_of lanes) s.1 ∙ word-event lanes (codes "sent") (decimal lane) (refl, (refl, (refl, (refl, tt)))) ∙ ap (on_lane events.Sent) (lane-decimal lanes lane few s.0)
spelled-event lanes (events.Close lane) line few s =
    ap (event_of lanes) s.1 ∙ word-event lanes (codes "close") (decimal lane) (refl, (refl, (refl, (refl, (refl, tt))))) ∙ ap (on_lane events.Close) (lane-decimal lanes lane few s.0)
spelled-event lanes (events.Tick ms) line few s =
    ap (event_of lanes) s.1 ∙ word-event lanes (codes "tick") (decimal ms) (refl, (refl, (refl, (refl, tt)))) ∙ tick-decimal ms s.0
spelled-event lanes events.Stop line few s = absurd s

-- a line that spells an event is neither silent nor `stop`
spelled-plain : (lanes : ℕ) (event : Event) (line : List ℕ) → IsSpelled lanes event line → (is_silent line ≡ false) × (bytes_eq line (codes "stop") ≡ false)
spelled-plain lanes (events.Open lane) line s = (ap is_silent s.1, ap (λ (l : List ℕ). bytes_eq l (codes "stop")) s.1)
spelled-plain lanes (events.Bytes lane piece) line s = (ap is_silent s.1.2, ap (λ (l : List ℕ). bytes_eq l (codes "stop")) s.1.2)
spelled-plain lanes (events.Sent lane) line s = (ap is_silent s.1, ap (λ (l : List ℕ). bytes_eq l (codes "stop")) s.1)
spelled-plain lanes (events.Close lane) line s = (ap is_silent s.1, ap (λ (l : List ℕ). bytes_eq l (codes "stop")) s.1)
spelled-plain lanes (events.Tick ms) line s = (ap is_silent s.1, ap (λ (l : List ℕ). bytes_eq l (codes "stop")) s.1)
spelled-plain lanes events.Stop line s = absurd s

meaning_by : (long silent stop : Bool) (read : Option Event) (event : Event)
    → cond long meanings.Unlawful (cond silent meanings.Nothing (cond stop meanings.Stop (acting read))) ≡ meanings.Act event → (long ≡ false) × (read ≡ Some event)
meaning_by true silent stop read event e = cc
meaning_by false true stop read event e = cc
meaning_by false false true read event e = cc
meaning_by false false false None event e = cc
meaning_by false false false (Some other) event e = (refl, cc)

line-spelled : (lanes : ℕ) (line : List ℕ) (event : Event) → meaning_of lanes line ≡ meanings.Act event → (length line ≤ 131081) × IsSpelled lanes event line
line-spelled lanes line event e =
    let m = meaning_by (nat_lt 131081 (length line)) (is_silent line) (bytes_eq line (codes "stop")) (event_of lanes line) event e in
    let test : nat_lt 131081 (length line) ≡ false = m.0 in
    (grind (arith, nat_tests), event_by lanes line event (position is_space line) refl m.1)

spelled-line : (lanes : ℕ) (line : List ℕ) (event : Event) → lanes ≤ 2 ^ 32 → length line ≤ 131081 → IsSpelled lanes event line → meaning_of lanes line ≡ meanings.Act event
spelled-line lanes line event few short s =
    let plain = spelled-plain lanes event line s in
    let test : nat_lt 131081 (length line) ≡ false = grind (arith, nat_tests) in
    ap (λ (b : Bool). cond b meanings.Unlawful (cond (is_silent line) meanings.Nothing (cond (bytes_eq line (codes "stop")) meanings.Stop (acting (event_of lanes line))))) test
    ∙ ap (λ (b : Bool). cond b meanings.Nothing (cond (bytes_eq line (codes "stop")) meanings.Stop (acting (event_of lanes line)))) plain.0
    ∙ ap (λ (b : Bool). cond b meanings.Stop (acting (event_of lanes line))) plain.1
    ∙ ap acting (spelled-event lanes event line few s)

pub events-are-spelled : (lanes : ℕ) (line : List ℕ) → lanes ≤ 2 ^ 32 → EventsAreSpelled lanes line
events-are-spelled lanes line few event = (line-spelled lanes line event, λ h. spelled-line lanes line event few h.0 h.1)
