-- What one more event makes of the laws on what is sent.
use Rattle.std.proofs.Common.{◌≡◌, ◌+◌, ◌-◌, ◌≤◌, ◌<◌, ℕ, zero, suc, Bool, true, false, cond, not, List, [], ◌∷◌, ◌++◌, length, drop, Option, Some, None, refl, sym, ap, ◌∙◌, inl, inr, append-nil, arith, length-append, ltb}
use mathlib.Core.Bool.{◌&&◌, ◌||◌}
use lib.Pointwise.{bytes_decides, pointwise_decides}
use Rattle.std.specs.Prelude.{slice_get}
use Rattle.std.specs.List.{list_all, list_any}
use Rattle.std.specs.Str.{bytes_eq}
use Rattle.std.proofs.lemmas.Bool.{and_parts, cases_lt, le-ltb, lt-ltb, ltb-true, true≢false}
use Rattle.std.specs.Cmp.Lexicographic.{nat_list_eq_equiv}
use Rattle.std.proofs.lemmas.List.{drop-append-le, drop-drop}
use Rattle.mj_ledger.specs.Events.{Event, Opened, Asked, Ready, Replied, Given, Answered, Lapsed, Left, Wrong, is_passed}
use Rattle.mj_ledger.specs.Moments.{moments}
use Rattle.mj_ledger.specs.TranscriptLaws.{answers, asked, asked_at, given, given_at, is_answer, is_body, is_given_to_waiting, is_owned_answer, is_owned_request, is_reply_to, is_request_of, is_wrong, keeps_busy, keeps_replies, keeps_requests, keeps_wire, replies, same_body, same_bool}
use Rattle.mj_ledger.specs.Workers.{is_opening, is_some_of, service_of, serves}
use Rattle.mj_ledger.proofs.Lists.{all-moments-push, and-false, and-true, any-moments-push, any-push, by-pushes, count-moments-push, count-push, flat-moments-push, flat-push, or-false, or-true}
use Rattle.mj_ledger.specs.Standing.{claims, credit, is_claimed, is_judged, is_known, is_of, pending}

-- ---- equality

pub bytes-same : (a b : List ℕ) → bytes_eq a b ≡ true → a ≡ b
bytes-same a b h = (bytes_decides a b).0 h

pub bytes-own : (a : List ℕ) → bytes_eq a a ≡ true
bytes-own a = (bytes_decides a a).1 refl

pub body-same : (a b : List (List ℕ)) → same_body a b ≡ true → a ≡ b
body-same a b h = (pointwise_decides bytes_decides a b).0 h

pub body-own : (a : List (List ℕ)) → same_body a a ≡ true
body-own a = (pointwise_decides bytes_decides a a).1 refl

pub bool-same : (a b : Bool) → same_bool a b ≡ true → a ≡ b
bool-same true b h = sym h
bool-same false true h = absurd (true≢false (sym h))
bool-same false false h = refl

pub bool-own : (a : Bool) → same_bool a a ≡ true
bool-own true = refl
bool-own false = refl

-- ---- pushes

pub known-push : (who : List ℕ) (es : List Event) (e : Event) → is_known who (es ++ e ∷ []) ≡ (is_known who es || is_opening who e)
known-push who es e = any-push (is_opening who) es e

pub of-push : (who : List ℕ) (es : List Event) (e : Event) → list_any (is_of who) (es ++ e ∷ []) ≡ (list_any (is_of who) es || is_of who e)
of-push who es e = any-push (is_of who) es e

pub asked-push : (who service : List ℕ) (es : List Event) (e : Event) → asked who service (es ++ e ∷ []) ≡ asked who service es ++ asked_at who service e
asked-push who service es e = flat-push (asked_at who service) es e

pub given-push : (who service : List ℕ) (es : List Event) (e : Event) → given who service (es ++ e ∷ []) ≡ given who service es ++ given_at who service es e
given-push who service es e = flat-moments-push (given_at who service) es e

not-not : (a : Bool) → a ≡ not (not a)
not-not true = refl
not-not false = refl

not-or : (a b : Bool) → not (a || b) ≡ (not a && not b)
not-or true b = refl
not-or false b = refl

pub wire-push : (es : List Event) (e : Event) → keeps_wire (es ++ e ∷ []) ≡ (keeps_wire es && not (is_wrong e))
wire-push es e = ap not (any-push is_wrong es e) ∙ not-or (list_any is_wrong es) (is_wrong e)

pub busy-push : (es : List Event) (e : Event) → keeps_busy (es ++ e ∷ []) ≡ (keeps_busy es && is_given_to_waiting es e)
busy-push es e = all-moments-push is_given_to_waiting es e

pub replies-law-push : (es : List Event) (e : Event) → keeps_replies (es ++ e ∷ []) ≡ (keeps_replies es && is_owned_answer es e)
replies-law-push es e = all-moments-push is_owned_answer es e

pub claimed-push : (who : List ℕ) (es : List Event) (e : Event) → is_claimed who (es ++ e ∷ []) ≡ (is_claimed who es || claims who es e)
claimed-push who es e = any-moments-push (claims who) es e

-- ---- owner, on requests

all-same : {X : Type 0} (f g : X → Bool) → ((x : X) → f x ≡ g x) → (xs : List X) → list_all f xs ≡ list_all g xs
all-same f g same [] = refl
all-same {X} f g same (x ∷ xs) = ap (λ (b : Bool). b && list_all f xs) (same x) ∙ ap (λ (b : Bool). g x && b) (all-same f g same xs)

-- only who is known counts
owned-by : (one other : List Event) → ((to : List ℕ) → is_known to one ≡ is_known to other) → (before : List Event) (e : Event) → is_owned_request one before e ≡ is_owned_request other before e
owned-by one other same before (Given w to body) = ap (λ (b : Bool). not b || is_request_of to body before (service_of w before)) (same to)
owned-by one other same before (Opened w) = refl
owned-by one other same before (Asked w s body) = refl
owned-by one other same before (Ready w s) = refl
owned-by one other same before (Replied w l to body) = refl
owned-by one other same before (Answered w s l body) = refl
owned-by one other same before (Lapsed w) = refl
owned-by one other same before (Left w) = refl
owned-by one other same before Wrong = refl

pub requests-push : (es : List Event) (e : Event) → ((to : List ℕ) → is_opening to e ≡ false) → keeps_requests (es ++ e ∷ []) ≡ (keeps_requests es && is_owned_request es es e)
requests-push es e opens =
    let same = λ (to : List ℕ). known-push to es e ∙ ap (λ (b : Bool). is_known to es || b) (opens to) ∙ or-false (is_known to es) in
    all-moments-push (is_owned_request (es ++ e ∷ [])) es e
    ∙ ap (λ (b : Bool). b && is_owned_request (es ++ e ∷ []) es e) (all-same (λ (m : List Event × Event). is_owned_request (es ++ e ∷ []) m.0 m.1) (λ m. is_owned_request es m.0 m.1) (λ m. owned-by (es ++ e ∷ []) es same m.0 m.1) (moments es))
    ∙ ap (λ (b : Bool). keeps_requests es && b) (owned-by (es ++ e ∷ []) es same es e)

-- of nobody's requests none is the next
none-next : (body : List (List ℕ)) (n : ℕ) → is_body body (slice_get [] n) ≡ false
none-next body zero = refl
none-next body (suc n) = refl

request-of-none : (who : List ℕ) (body : List (List ℕ)) (before : List Event) (o : Option (List ℕ)) → ((s : List ℕ) → asked who s before ≡ []) → is_request_of who body before o ≡ not (is_judged o)
request-of-none who body before None none = refl
request-of-none who body before (Some s) none =
    ap (λ (l : List (List (List ℕ))). is_passed s || is_body body (slice_get l (length (given who s before)))) (none s)
    ∙ ap (λ (b : Bool). is_passed s || b) (none-next body (length (given who s before))) ∙ or-false (is_passed s) ∙ not-not (is_passed s)

symmetric : (a b : List ℕ) → bytes_eq a b ≡ false → bytes_eq b a ≡ false
symmetric a b other = nat_list_eq_equiv.symm b a ∙ other

owned-given : (who : List ℕ) (whole more before : List Event) → is_known who whole ≡ false → ((to : List ℕ) → is_known to more ≡ (is_known to whole || bytes_eq who to)) → ((s : List ℕ) → asked who s before ≡ [])
    → (w to : List ℕ) (body : List (List ℕ)) (b : Bool) → bytes_eq to who ≡ b → is_owned_request more before (Given w to body) ≡ (is_owned_request whole before (Given w to body) && not (claims who before (Given w to body)))
owned-given who whole more before new opened none w to body true same =
    let is : to ≡ who = bytes-same to who same in
    ap (λ (k : Bool). not k || is_request_of to body before (service_of w before)) (opened to ∙ ap (λ (k : Bool). is_known to whole || k) (ap (bytes_eq who) is ∙ bytes-own who) ∙ or-true (is_known to whole))
    ∙ ap (λ (x : List ℕ). is_request_of x body before (service_of w before)) is
    ∙ request-of-none who body before (service_of w before) none
    ∙ sym (ap (λ (k : Bool). (not k || is_request_of to body before (service_of w before)) && not (bytes_eq to who && is_judged (service_of w before))) (ap (λ (x : List ℕ). is_known x whole) is ∙ new)
    ∙ ap (λ (k : Bool). not (k && is_judged (service_of w before))) same)
owned-given who whole more before new opened none w to body false other =
    ap (λ (k : Bool). not k || is_request_of to body before (service_of w before)) (opened to ∙ ap (λ (k : Bool). is_known to whole || k) (symmetric to who other) ∙ or-false (is_known to whole))
    ∙ sym (and-true (not (is_known to whole) || is_request_of to body before (service_of w before)))
    ∙ ap (λ (k : Bool). (not (is_known to whole) || is_request_of to body before (service_of w before)) && not (k && is_judged (service_of w before))) (sym other)

-- a connection that asked nothing owns only REQUESTs for names that are passed over
owned-anew : (who : List ℕ) (whole more before : List Event) → is_known who whole ≡ false → ((to : List ℕ) → is_known to more ≡ (is_known to whole || bytes_eq who to)) → ((s : List ℕ) → asked who s before ≡ [])
    → (e : Event) → is_owned_request more before e ≡ (is_owned_request whole before e && not (claims who before e))
owned-anew who whole more before new opened none (Given w to body) = owned-given who whole more before new opened none w to body (bytes_eq to who) refl
owned-anew who whole more before new opened none (Opened w) = refl
owned-anew who whole more before new opened none (Asked w s body) = refl
owned-anew who whole more before new opened none (Ready w s) = refl
owned-anew who whole more before new opened none (Replied w l to body) = refl
owned-anew who whole more before new opened none (Answered w s l body) = refl
owned-anew who whole more before new opened none (Lapsed w) = refl
owned-anew who whole more before new opened none (Left w) = refl
owned-anew who whole more before new opened none Wrong = refl

-- ---- a connection opens

folded : (a b c p q r : Bool) → a ≡ (b && not c) → p ≡ (q && not r) → (a && p) ≡ ((b && q) && not (c || r))
folded a true true p q r h k = ap (λ (x : Bool). x && p) h ∙ sym (and-false q)
folded a true false p q r h k = ap (λ (x : Bool). x && p) h ∙ k
folded a false c p q r h k = ap (λ (x : Bool). x && p) h

append-none : {X : Type 0} (xs ys : List X) → xs ++ ys ≡ [] → xs ≡ []
append-none [] ys h = refl
append-none (x ∷ xs) ys h = cc

opened-walk : (who : List ℕ) (whole more : List Event) → is_known who whole ≡ false → ((to : List ℕ) → is_known to more ≡ (is_known to whole || bytes_eq who to)) → (es : List Event) → ((s : List ℕ) → asked who s es ≡ [])
    → list_all (λ m. is_owned_request more m.0 m.1) (moments es) ≡ (list_all (λ m. is_owned_request whole m.0 m.1) (moments es) && not (is_claimed who es))
opened-walk who whole more new opened =
    by-pushes (λ es. ((s : List ℕ) → asked who s es ≡ []) → list_all (λ (m : List Event × Event). is_owned_request more m.0 m.1) (moments es) ≡ (list_all (λ (m : List Event × Event). is_owned_request whole m.0 m.1) (moments es) && not (is_claimed who es)))
    (λ none. refl)
    (λ es e here none.
    let before : (s : List ℕ) → asked who s es ≡ [] = λ s. append-none (asked who s es) (asked_at who s e) (sym (asked-push who s es e) ∙ none s) in
    all-moments-push (is_owned_request more) es e
    ∙ folded (list_all (λ (m : List Event × Event). is_owned_request more m.0 m.1) (moments es)) (list_all (λ (m : List Event × Event). is_owned_request whole m.0 m.1) (moments es)) (is_claimed who es)
    (is_owned_request more es e) (is_owned_request whole es e) (claims who es e) (here before) (owned-anew who whole more es new opened before e)
    ∙ ap (λ (b : Bool). b && not (is_claimed who es || claims who es e)) (sym (all-moments-push (is_owned_request whole) es e))
    ∙ ap (λ (b : Bool). list_all (λ (m : List Event × Event). is_owned_request whole m.0 m.1) (moments (es ++ e ∷ [])) && not b) (sym (claimed-push who es e)))

pub requests-opened : (who : List ℕ) (es : List Event) → is_known who es ≡ false → ((s : List ℕ) → asked who s es ≡ []) → keeps_requests (es ++ Opened who ∷ []) ≡ (keeps_requests es && not (is_claimed who es))
requests-opened who es new none =
    all-moments-push (is_owned_request (es ++ Opened who ∷ [])) es (Opened who)
    ∙ and-true (list_all (λ (m : List Event × Event). is_owned_request (es ++ Opened who ∷ []) m.0 m.1) (moments es))
    ∙ opened-walk who es (es ++ Opened who ∷ []) new (λ to. known-push to es (Opened who)) es none

-- ---- requests that weren't sent on

pub pending-same : (who service : List ℕ) (es : List Event) (e : Event) → given_at who service es e ≡ [] → asked_at who service e ≡ [] → pending who service (es ++ e ∷ []) ≡ pending who service es
pending-same who service es e gives asks =
    ap (λ (l : List (List (List ℕ))). drop (length l) (asked who service (es ++ e ∷ []))) (given-push who service es e ∙ ap (λ (l : List (List (List ℕ))). given who service es ++ l) gives ∙ append-nil (given who service es))
    ∙ ap (drop (length (given who service es))) (asked-push who service es e ∙ ap (λ (l : List (List (List ℕ))). asked who service es ++ l) asks ∙ append-nil (asked who service es))

pub pending-asked : (who service : List ℕ) (es : List Event) (e : Event) → given_at who service es e ≡ [] → length (given who service es) ≤ length (asked who service es)
    → pending who service (es ++ e ∷ []) ≡ pending who service es ++ asked_at who service e
pending-asked who service es e gives few =
    ap (λ (l : List (List (List ℕ))). drop (length l) (asked who service (es ++ e ∷ []))) (given-push who service es e ∙ ap (λ (l : List (List (List ℕ))). given who service es ++ l) gives ∙ append-nil (given who service es))
    ∙ ap (drop (length (given who service es))) (asked-push who service es e)
    ∙ drop-append-le (length (given who service es)) (asked who service es) (asked_at who service e) few

pub pending-given : (who service : List ℕ) (es : List Event) (e : Event) (body : List (List ℕ)) → given_at who service es e ≡ body ∷ [] → asked_at who service e ≡ [] → pending who service (es ++ e ∷ []) ≡ drop 1 (pending who service es)
pending-given who service es e body gives asks =
    let long : length (given who service es ++ body ∷ []) ≡ length (given who service es) + 1 = length-append (given who service es) (body ∷ []) in
    ap (λ (l : List (List (List ℕ))). drop (length l) (asked who service (es ++ e ∷ []))) (given-push who service es e ∙ ap (λ (l : List (List (List ℕ))). given who service es ++ l) gives)
    ∙ ap (λ (n : ℕ). drop n (asked who service (es ++ e ∷ []))) long
    ∙ ap (drop (length (given who service es) + 1)) (asked-push who service es e ∙ ap (λ (l : List (List (List ℕ))). asked who service es ++ l) asks ∙ append-nil (asked who service es))
    ∙ sym (drop-drop 1 (length (given who service es)) (asked who service es))

get-drop : {X : Type 0} (n : ℕ) (xs : List X) → slice_get (drop n xs) 0 ≡ slice_get xs n
get-drop zero xs = refl
get-drop (suc n) [] = refl
get-drop (suc n) (x ∷ xs) = get-drop n xs

pub owned-pending : (to : List ℕ) (body : List (List ℕ)) (es : List Event) (service : List ℕ) → is_request_of to body es (Some service) ≡ (is_passed service || is_body body (slice_get (pending to service es) 0))
owned-pending to body es service = ap (λ (o : Option (List (List ℕ))). is_passed service || is_body body o) (sym (get-drop (length (given to service es)) (asked to service es)))

-- ---- no more REQUESTs than requests

get-within : (body : List (List ℕ)) (xs : List (List (List ℕ))) (n : ℕ) → is_body body (slice_get xs n) ≡ true → n < length xs
get-within body [] zero h = absurd (true≢false (sym h))
get-within body [] (suc n) h = absurd (true≢false (sym h))
get-within body (x ∷ xs) zero h = omega arith
get-within body (x ∷ xs) (suc n) h = let k = get-within body xs n h in omega (arith, k)

pub some-of-is : (name : List ℕ) (o : Option (List ℕ)) → is_some_of name o ≡ true → o ≡ Some name
some-of-is name None h = absurd (true≢false (sym h))
some-of-is name (Some other) h = ap (λ (l : List ℕ). Some l) (sym (bytes-same name other h))

or-other : (a b : Bool) → (a || b) ≡ true → a ≡ false → b ≡ true
or-other true b h false_is = absurd (true≢false false_is)
or-other false b h false_is = h

given-few : (who service : List ℕ) (whole es : List Event) → is_passed service ≡ false → is_known who whole ≡ true → (w to : List ℕ) (body : List (List ℕ)) (b : Bool) → (bytes_eq to who && serves w service es) ≡ b
    → is_owned_request whole es (Given w to body) ≡ true → length (given who service es) ≤ length (asked who service es)
    → length (given who service es ++ cond b (body ∷ []) []) ≤ length (asked who service es)
given-few who service whole es judged there w to body false is owned few = let l = length-append (given who service es) [] in omega (arith, l, few)
given-few who service whole es judged there w to body true is owned few =
    let parts = and_parts (bytes_eq to who) (serves w service es) is in
    let to-is : to ≡ who = bytes-same to who parts.0 in
    let service-is : service_of w es ≡ Some service = some-of-is service (service_of w es) parts.1 in
    let all : (not (is_known who whole) || is_request_of who body es (Some service)) ≡ true =
    ap (λ (o : Option (List ℕ)). not (is_known who whole) || is_request_of who body es o) (sym service-is) ∙ ap (λ (x : List ℕ). not (is_known x whole) || is_request_of x body es (service_of w es)) (sym to-is) ∙ owned in
    let next : is_request_of who body es (Some service) ≡ true = or-other (not (is_known who whole)) (is_request_of who body es (Some service)) all (ap not there) in
    let mine = or-other (is_passed service) (is_body body (slice_get (asked who service es) (length (given who service es)))) next judged in
    let within : length (given who service es) < length (asked who service es) = get-within body (asked who service es) (length (given who service es)) mine in
    let l = length-append (given who service es) (body ∷ []) in
    omega (arith, l, within)

few-more : (xs ys : List (List (List ℕ))) (zs : List (List (List ℕ))) → length xs ≤ length ys → length (xs ++ []) ≤ length (ys ++ zs)
few-more xs ys zs few = let l = length-append xs [] in let k = length-append ys zs in omega (arith, l, k, few)

few-step : (who service : List ℕ) (whole es : List Event) → is_passed service ≡ false → is_known who whole ≡ true → (e : Event) → is_owned_request whole es e ≡ true → length (given who service es) ≤ length (asked who service es)
    → length (given who service es ++ given_at who service es e) ≤ length (asked who service es ++ asked_at who service e)
few-step who service whole es judged there (Given w to body) owned few =
    let h = given-few who service whole es judged there w to body (bytes_eq to who && serves w service es) refl owned few in
    let l = length-append (asked who service es) [] in
    omega (arith, h, l)
few-step who service whole es judged there (Opened w) owned few = few-more (given who service es) (asked who service es) [] few
few-step who service whole es judged there (Asked w s body) owned few = few-more (given who service es) (asked who service es) (asked_at who service (Asked w s body)) few
few-step who service whole es judged there (Ready w s) owned few = few-more (given who service es) (asked who service es) [] few
few-step who service whole es judged there (Replied w l to body) owned few = few-more (given who service es) (asked who service es) [] few
few-step who service whole es judged there (Answered w s l body) owned few = few-more (given who service es) (asked who service es) [] few
few-step who service whole es judged there (Lapsed w) owned few = few-more (given who service es) (asked who service es) [] few
few-step who service whole es judged there (Left w) owned few = few-more (given who service es) (asked who service es) [] few
few-step who service whole es judged there Wrong owned few = few-more (given who service es) (asked who service es) [] few

within-asked : (who service : List ℕ) (whole : List Event) → is_passed service ≡ false → is_known who whole ≡ true → (es : List Event) → list_all (λ m. is_owned_request whole m.0 m.1) (moments es) ≡ true
    → length (given who service es) ≤ length (asked who service es)
within-asked who service whole judged there =
    by-pushes (λ es. list_all (λ (m : List Event × Event). is_owned_request whole m.0 m.1) (moments es) ≡ true → length (given who service es) ≤ length (asked who service es))
    (λ h. omega arith)
    (λ es e here h.
    let parts = and_parts (list_all (λ (m : List Event × Event). is_owned_request whole m.0 m.1) (moments es)) (is_owned_request whole es e) (sym (all-moments-push (is_owned_request whole) es e) ∙ h) in
    let step = few-step who service whole es judged there e parts.1 (here parts.0) in
    let g = ap length (given-push who service es e) in
    let a = ap length (asked-push who service es e) in
    omega (arith, step, g, a))

pub requests-few : (who service : List ℕ) (es : List Event) → is_passed service ≡ false → is_known who es ≡ true → keeps_requests es ≡ true → length (given who service es) ≤ length (asked who service es)
requests-few who service es judged there kept = within-asked who service es judged there es kept

-- ---- replies that weren't sent on

pub answer-is : (who service : List ℕ) (last : Bool) (body : List (List ℕ)) (w n : List ℕ) (f : Bool) (o : List (List ℕ)) → is_answer who service last body (Answered w n f o) ≡ true
    → (w ≡ who) × (n ≡ service) × (f ≡ last) × (o ≡ body)
answer-is who service last body w n f o h =
    let a = and_parts (bytes_eq w who) (bytes_eq n service && (same_bool f last && same_body o body)) h in
    let b = and_parts (bytes_eq n service) (same_bool f last && same_body o body) a.1 in
    let c = and_parts (same_bool f last) (same_body o body) b.1 in
    (bytes-same w who a.0, bytes-same n service b.0, bool-same f last c.0, body-same o body c.1)

pub replies-push : (who service : List ℕ) (last : Bool) (body : List (List ℕ)) (es : List Event) (e : Event) → replies who service last body (es ++ e ∷ []) ≡ replies who service last body es + cond (is_reply_to who service last body es e) 1 0
replies-push who service last body es e = count-moments-push (is_reply_to who service last body) es e

pub answers-push : (who service : List ℕ) (last : Bool) (body : List (List ℕ)) (es : List Event) (e : Event) → answers who service last body (es ++ e ∷ []) ≡ answers who service last body es + cond (is_answer who service last body e) 1 0
answers-push who service last body es e = count-push (is_answer who service last body) es e

owed-answer : (who service : List ℕ) (last : Bool) (body : List (List ℕ)) (es : List Event) (w n : List ℕ) (f : Bool) (o : List (List ℕ)) (b : Bool) → is_answer who service last body (Answered w n f o) ≡ b
    → is_owned_answer es (Answered w n f o) ≡ true → answers who service last body es ≤ replies who service last body es → answers who service last body es + cond b 1 0 ≤ replies who service last body es
owed-answer who service last body es w n f o false is owned few = omega (arith, few)
owed-answer who service last body es w n f o true is owned few =
    let p = answer-is who service last body w n f o is in
    let a : answers w n f o es ≡ answers who service last body es =
    ap (λ (x : List ℕ). answers x n f o es) p.0 ∙ ap (λ (x : List ℕ). answers who x f o es) p.1 ∙ ap (λ (x : Bool). answers who service x o es) p.2 ∙ ap (λ (x : List (List ℕ)). answers who service last x es) p.3 in
    let r : replies w n f o es ≡ replies who service last body es =
    ap (λ (x : List ℕ). replies x n f o es) p.0 ∙ ap (λ (x : List ℕ). replies who x f o es) p.1 ∙ ap (λ (x : Bool). replies who service x o es) p.2 ∙ ap (λ (x : List (List ℕ)). replies who service last x es) p.3 in
    let less : answers w n f o es < replies w n f o es = ltb-true (answers w n f o es) (replies w n f o es) owned in
    omega (arith, a, r, less)

at-most : (x y z : ℕ) → x ≤ y → x + 0 ≤ y + z
at-most x y z h = omega (arith, h)

owed-step : (who service : List ℕ) (last : Bool) (body : List (List ℕ)) (es : List Event) (e : Event) → is_owned_answer es e ≡ true → answers who service last body es ≤ replies who service last body es
    → answers who service last body es + cond (is_answer who service last body e) 1 0 ≤ replies who service last body es + cond (is_reply_to who service last body es e) 1 0
owed-step who service last body es (Answered w n f o) owned few = let h = owed-answer who service last body es w n f o (is_answer who service last body (Answered w n f o)) refl owned few in omega (arith, h)
owed-step who service last body es (Opened w) owned few = at-most (answers who service last body es) (replies who service last body es) 0 few
owed-step who service last body es (Asked w s o) owned few = at-most (answers who service last body es) (replies who service last body es) 0 few
owed-step who service last body es (Ready w s) owned few = at-most (answers who service last body es) (replies who service last body es) 0 few
owed-step who service last body es (Replied w l to o) owned few = at-most (answers who service last body es) (replies who service last body es) (cond (is_reply_to who service last body es (Replied w l to o)) 1 0) few
owed-step who service last body es (Given w to o) owned few = at-most (answers who service last body es) (replies who service last body es) 0 few
owed-step who service last body es (Lapsed w) owned few = at-most (answers who service last body es) (replies who service last body es) 0 few
owed-step who service last body es (Left w) owned few = at-most (answers who service last body es) (replies who service last body es) 0 few
owed-step who service last body es Wrong owned few = at-most (answers who service last body es) (replies who service last body es) 0 few

pub owed : (who service : List ℕ) (last : Bool) (body : List (List ℕ)) (es : List Event) → keeps_replies es ≡ true → answers who service last body es ≤ replies who service last body es
owed who service last body =
    by-pushes (λ es. keeps_replies es ≡ true → answers who service last body es ≤ replies who service last body es)
    (λ h. omega arith)
    (λ es e here h.
    let parts = and_parts (keeps_replies es) (is_owned_answer es e) (sym (replies-law-push es e) ∙ h) in
    let step = owed-step who service last body es e parts.1 (here parts.0) in
    let r = replies-push who service last body es e in
    let a = answers-push who service last body es e in
    omega (arith, step, r, a))

minus-both : (R A r a : ℕ) → A ≤ R → (R + r) - (A + a) ≡ ((R - A) + r) - a
minus-both R A r a h = omega (arith, h)

pub credit-push : (who service : List ℕ) (last : Bool) (body : List (List ℕ)) (es : List Event) (e : Event) → keeps_replies es ≡ true
    → credit who service last body (es ++ e ∷ []) ≡ (credit who service last body es + cond (is_reply_to who service last body es e) 1 0) - cond (is_answer who service last body e) 1 0
credit-push who service last body es e kept =
    ap (λ (n : ℕ). n - answers who service last body (es ++ e ∷ [])) (replies-push who service last body es e)
    ∙ ap (λ (n : ℕ). (replies who service last body es + cond (is_reply_to who service last body es e) 1 0) - n) (answers-push who service last body es e)
    ∙ minus-both (replies who service last body es) (answers who service last body es) (cond (is_reply_to who service last body es e) 1 0) (cond (is_answer who service last body e) 1 0) (owed who service last body es kept)

lt-minus : (a b : ℕ) → ltb a b ≡ ltb 0 (b - a)
lt-minus a b = elim (cases_lt a b) [ inl less ↦ lt-ltb a b less ∙ sym (lt-ltb 0 (b - a) (omega (arith, less))) | inr more ↦ le-ltb a b more ∙ sym (le-ltb 0 (b - a) (omega (arith, more))) ]

pub owned-credit : (who service : List ℕ) (last : Bool) (body : List (List ℕ)) (es : List Event) → is_owned_answer es (Answered who service last body) ≡ ltb 0 (credit who service last body es)
owned-credit who service last body es = lt-minus (answers who service last body es) (replies who service last body es)
