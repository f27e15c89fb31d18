-- Each answer has a reply before it.
use Rattle.std.proofs.Common.{◌≡◌, ◌+◌, ◌<◌, ℕ, Bool, true, false, cond, List, [], ◌∷◌, ◌++◌, refl, sym, ap, subst, ◌∙◌, append-nil, append_assoc, arith}
use mathlib.Core.Bool.{◌&&◌}
use Rattle.std.proofs.lemmas.Bool.{and_parts, ltb-true}
use Rattle.std.proofs.lemmas.List.Sums.{sum_by-cons}
use Rattle.std.specs.List.{count_by, list_all}
use Rattle.std.specs.Str.{bytes_eq}
use lib.Pointwise.{bytes_decides}
use Rattle.mj_ledger.specs.Events.{Event, Opened, Asked, Ready, Replied, Given, Answered, Lapsed, Left, Wrong}
use Rattle.mj_ledger.specs.Moments.{moments_from}
use Rattle.mj_ledger.specs.TranscriptLaws.{answers, is_owned_answer, is_reply_to, keeps_replies, keeps_requests, same_bool, same_body}
use Rattle.mj_ledger.specs.Workers.{holds, serves}
use Rattle.mj_ledger.proofs.LawLemmas.{body-same}
use Rattle.mj_transcript.specs.Said.{said}
use Rattle.mj_audit_laws.specs.AnswerLaw.{AnswersAreGiven, HeldAnswersAreGiven, IsGivenBefore}
use Rattle.mj_audit_laws.proofs.HeldLemmas.{held-is-kept}

same-bool : (a b : Bool) → same_bool a b ≡ true → a ≡ b
same-bool true true h = refl
same-bool true false h = cc
same-bool false true h = cc
same-bool false false h = refl

-- what holds of every moment holds of this one
all-at : {X : Type 0} (f : List X → X → Bool) (front before : List X) (x : X) (after : List X)
    → list_all (λ m. f m.0 m.1) (moments_from front (before ++ x ∷ after)) ≡ true → f (front ++ before) x ≡ true
all-at {X} f front [] x after h =
    subst (λ (l : List X). f l x ≡ true) (sym (append-nil front)) (and_parts (f front x) (list_all (λ m. f m.0 m.1) (moments_from (front ++ x ∷ []) after)) h).0
all-at {X} f front (b ∷ before) x after h =
    subst (λ (l : List X). f l x ≡ true) (append_assoc front (b ∷ []) before)
    (all-at f (front ++ b ∷ []) before x after (and_parts (f front b) (list_all (λ m. f m.0 m.1) (moments_from (front ++ b ∷ []) (before ++ x ∷ after))) h).1)

record Found {X : Type 0} (f : List X → X → Bool) (front xs : List X) : Type 0 where
  before : List X
  x : X
  after : List X
  is : xs ≡ before ++ x ∷ after
  holds_there : f (front ++ before) x ≡ true

found-here : {X : Type 0} (f : List X → X → Bool) (front : List X) (x : X) (xs : List X) → f front x ≡ true → Found f front (x ∷ xs)
found-here {X} f front x xs h = record {
  before = [];
  x = x;
  after = xs;
  is = refl;
  holds_there = subst (λ (l : List X). f l x ≡ true) (sym (append-nil front)) h;
}

found-later : {X : Type 0} (f : List X → X → Bool) (front : List X) (b : X) (xs : List X) → Found f (front ++ b ∷ []) xs → Found f front (b ∷ xs)
found-later {X} f front b xs found = record {
  before = b ∷ found.before;
  x = found.x;
  after = found.after;
  is = ap (λ (l : List X). b ∷ l) found.is;
  holds_there = subst (λ (l : List X). f l found.x ≡ true) (append_assoc front (b ∷ []) found.before) found.holds_there;
}

-- where more than some pass, one does
some-counted-by : {X : Type 0} (f : List X → X → Bool) (front : List X) (x : X) (xs : List X) (m : ℕ) (b : Bool) → f front x ≡ b
    → (m < count_by (λ t. f t.0 t.1) (moments_from (front ++ x ∷ []) xs) → Found f (front ++ x ∷ []) xs)
    → m < cond b 1 0 + count_by (λ t. f t.0 t.1) (moments_from (front ++ x ∷ []) xs) → Found f front (x ∷ xs)
some-counted-by {X} f front x xs m true is more h = found-here f front x xs is
some-counted-by {X} f front x xs m false is more h = found-later f front x xs (more (omega (arith, h)))

some-counted : {X : Type 0} (f : List X → X → Bool) (front xs : List X) (m : ℕ) → m < count_by (λ t. f t.0 t.1) (moments_from front xs) → Found f front xs
some-counted {X} f front [] m h = absurd (omega (arith, h))
some-counted {X} f front (x ∷ xs) m h =
    some-counted-by f front x xs m (f front x) refl (some-counted f (front ++ x ∷ []) xs m)
    (subst (λ (n : ℕ). m < n) (sum_by-cons (λ (t : List X × X). cond {A = ℕ} (f t.0 t.1) 1 0) (front, x) (moments_from (front ++ x ∷ []) xs)) h)

replied-is : (w : List ℕ) (final last : Bool) (to who : List ℕ) (other body : List (List ℕ)) → final ≡ last → to ≡ who → other ≡ body → Replied w final to other ≡ Replied w last who body
replied-is w final last to who other body final_is to_is other_is =
    ap (λ (b : Bool). Replied w b to other) final_is ∙ ap (λ (a : List ℕ). Replied w last a other) to_is ∙ ap (λ (l : List (List ℕ)). Replied w last who l) other_is

given-by : (before front rest : List Event) (e : Event) (who service : List ℕ) (last : Bool) (body : List (List ℕ))
    → before ≡ front ++ e ∷ rest → is_reply_to who service last body front e ≡ true → IsGivenBefore before who service last body
given-by before front rest (Replied w final to other) who service last body is h =
    let named = and_parts (bytes_eq to who) (same_bool final last && (same_body other body && (serves w service front && holds w who front))) h in
    let kind = and_parts (same_bool final last) (same_body other body && (serves w service front && holds w who front)) named.1 in
    let text = and_parts (same_body other body) (serves w service front && holds w who front) kind.1 in
    let work = and_parts (serves w service front) (holds w who front) text.1 in
    record {
      front = front;
      worker = w;
      rest = rest;
      replied = is ∙ ap (λ (e : Event). front ++ e ∷ rest)
          (replied-is w final last to who other body (same-bool final last kind.0) ((bytes_decides to who).0 named.0) (body-same other body text.0));
      served = work.0;
      held = work.1;
    }
given-by before front rest (Opened a) who service last body is h = cc
given-by before front rest (Asked a b c) who service last body is h = cc
given-by before front rest (Ready a b) who service last body is h = cc
given-by before front rest (Given a b c) who service last body is h = cc
given-by before front rest (Answered a b c d) who service last body is h = cc
given-by before front rest (Lapsed a) who service last body is h = cc
given-by before front rest (Left a) who service last body is h = cc
given-by before front rest Wrong who service last body is h = cc

answers-given : (events : List Event) → keeps_replies events ≡ true → AnswersAreGiven events
answers-given events kept before after who service last body is =
    let at = all-at is_owned_answer [] before (Answered who service last body) after (subst (λ (l : List Event). keeps_replies l ≡ true) is kept) in
    let found = some-counted (is_reply_to who service last body) [] before (answers who service last body before) (ltb-true _ _ at) in
    given-by before found.before found.after found.x who service last body found.is found.holds_there

pub held-answers-are-given : HeldAnswersAreGiven
held-answers-are-given lines held =
    answers-given (said lines) (and_parts (keeps_requests (said lines)) (keeps_replies (said lines)) (held-is-kept lines held).0.owner).1
