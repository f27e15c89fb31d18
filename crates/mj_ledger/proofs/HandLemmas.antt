-- What one more event changes of a connection.
use Rattle.std.proofs.Common.{◌≡◌, ℕ, Bool, true, false, cond, not, List, [], ◌∷◌, ◌++◌, Option, Some, None, refl, sym, ap, ◌∙◌}
use mathlib.Core.Bool.{◌&&◌, ◌||◌}
use Rattle.std.specs.Prelude.{is_none}
use Rattle.std.specs.List.{after_last, flat_map, last_or, list_any}
use Rattle.std.specs.Str.{bytes_eq}
use Rattle.mj_ledger.specs.Events.{Event, Opened, Asked, Ready, Replied, Given, Answered, Lapsed, Left, Wrong}
use Rattle.mj_ledger.specs.Moments.{moments}
use Rattle.mj_ledger.specs.Workers.{address_given, held, held_of, holds, is_freed, is_freed_since, is_gift, is_gone, is_lapse, is_leaving, is_ready, is_readied, is_some_of, lets_go, service_at, service_of, would_count}
use Rattle.mj_ledger.proofs.Lists.{and-false, and-true, any-behind-push, any-push, flat-moments-push, flat-push, last-append, moments-push, or-false, or-true}
use Rattle.mj_ledger.specs.Hands.{hand, hand_after, when_given, when_lapsed, when_left, when_ready, when_replied}
use Rattle.mj_ledger.specs.declared.hand.Hand.{Hand}

-- ---- part by part

pub gone-push : (who : List ℕ) (es : List Event) (e : Event) → is_gone who (es ++ e ∷ []) ≡ (is_gone who es || is_leaving who e)
gone-push who es e = any-push (is_leaving who) es e

readied-push : (who : List ℕ) (es : List Event) (e : Event) → is_readied who (es ++ e ∷ []) ≡ (not (is_lapse who e) && (is_readied who es || is_ready who e))
readied-push who es e = any-behind-push (is_lapse who) (is_ready who) es e

pub service-push : (who : List ℕ) (es : List Event) (e : Event) → service_of who (es ++ e ∷ []) ≡ last_or (service_of who es) (service_at who es e)
service-push who es e =
    ap (last_or None) (flat-moments-push (service_at who) es e)
    ∙ last-append None (flat_map (λ (m : List Event × Event). service_at who m.0 m.1) (moments es)) (service_at who es e)

freed-push : (who : List ℕ) (es : List Event) (e : Event) → is_freed_since who (es ++ e ∷ []) ≡ (not (is_lapse who e) && (is_freed_since who es || is_freed who es e))
freed-push who es e =
    ap (λ (ms : List (List Event × Event)). list_any (λ (m : List Event × Event). is_freed who m.0 m.1) (after_last (λ (m : List Event × Event). is_lapse who m.1) ms)) (moments-push es e)
    ∙ any-behind-push (λ (m : List Event × Event). is_lapse who m.1) (λ (m : List Event × Event). is_freed who m.0 m.1) (moments es) (es, e)

-- the address of the last REQUEST sent to it
abbrev gift : List ℕ → List Event → Option (List ℕ)
gift who es = last_or None (flat_map (address_given who) es)

gift-push : (who : List ℕ) (es : List Event) (e : Event) → gift who (es ++ e ∷ []) ≡ last_or (gift who es) (address_given who e)
gift-push who es e = ap (last_or None) (flat-push (address_given who) es e) ∙ last-append None (flat_map (address_given who) es) (address_given who e)

-- whether it let go of what it holds under this address
abbrev let_go : List ℕ → List ℕ → List Event → Bool
let_go who address es = list_any (lets_go who address) (after_last (is_gift who) es)

let-go-push : (who address : List ℕ) (es : List Event) (e : Event) → let_go who address (es ++ e ∷ []) ≡ (not (is_gift who e) && (let_go who address es || lets_go who address e))
let-go-push who address es e = any-behind-push (is_gift who) (lets_go who address) es e

-- ---- what is held

held-of-by : (who : List ℕ) (es next : List Event) (g : Option (List ℕ)) (gone : Bool) (f : List ℕ → Bool) → is_gone who next ≡ gone → ((a : List ℕ) → let_go who a next ≡ f a)
    → held_of who next g ≡ elim g [ None ↦ None | Some a ↦ cond (gone || f a) None (Some a) ]
held-of-by who es next None gone f is by = refl
held-of-by who es next (Some a) gone f is by = ap (λ (b : Bool). cond (b || let_go who a next) None (Some a)) is ∙ ap (λ (b : Bool). cond (gone || b) None (Some a)) (by a)

held-same : (who : List ℕ) (es : List Event) (e : Event) → is_leaving who e ≡ false → is_gift who e ≡ false → address_given who e ≡ [] → ((a : List ℕ) → lets_go who a e ≡ false)
    → held who (es ++ e ∷ []) ≡ held who es
held-same who es e leaves gives address lets =
    ap (held_of who (es ++ e ∷ [])) (gift-push who es e ∙ ap (last_or (gift who es)) address)
    ∙ held-of-by who es (es ++ e ∷ []) (gift who es) (is_gone who es) (λ a. let_go who a es)
    (gone-push who es e ∙ ap (λ (b : Bool). is_gone who es || b) leaves ∙ or-false (is_gone who es))
    (λ a. let-go-push who a es e ∙ ap (λ (b : Bool). not b && (let_go who a es || lets_go who a e)) gives ∙ ap (λ (b : Bool). let_go who a es || b) (lets a) ∙ or-false (let_go who a es))
    ∙ sym (held-of-by who es es (gift who es) (is_gone who es) (λ a. let_go who a es) refl (λ a. refl))

reply-held : (a to : List ℕ) (g n l : Bool) → cond (g || (n || (l && bytes_eq to a))) None (Some a) ≡ cond (l && is_some_of to (cond (g || n) None (Some a))) None (cond (g || n) None (Some a))
reply-held a to true n true = refl
reply-held a to true n false = refl
reply-held a to false true true = refl
reply-held a to false true false = refl
reply-held a to false false true = refl
reply-held a to false false false = refl

reply-held-of : (who : List ℕ) (es next : List Event) (g : Option (List ℕ)) (last : Bool) (to : List ℕ) → is_gone who next ≡ is_gone who es → ((a : List ℕ) → let_go who a next ≡ (let_go who a es || (last && bytes_eq to a)))
    → held_of who next g ≡ cond (last && is_some_of to (held_of who es g)) None (held_of who es g)
reply-held-of who es next None true to is by = refl
reply-held-of who es next None false to is by = refl
reply-held-of who es next (Some a) last to is by =
    ap (λ (b : Bool). cond (b || let_go who a next) None (Some a)) is ∙ ap (λ (b : Bool). cond (is_gone who es || b) None (Some a)) (by a)
    ∙ reply-held a to (is_gone who es) (let_go who a es) last

none-held-of : (who : List ℕ) (next : List Event) (g : Option (List ℕ)) → ((a : List ℕ) → (is_gone who next || let_go who a next) ≡ true) → held_of who next g ≡ None
none-held-of who next None all = refl
none-held-of who next (Some a) all = ap (λ (b : Bool). cond b None (Some a)) (all a)

-- ---- all parts at once

abbrev made : Bool → Bool → Option (List ℕ) → Option (List ℕ) → Bool → Hand
made gone readied service holding freed = record { gone = gone; readied = readied; service = service; held = holding; waiting = not gone && (is_none holding && freed) }

made-by : (who : List ℕ) (next : List Event) (g r : Bool) (s h : Option (List ℕ)) (f : Bool) → is_gone who next ≡ g → is_readied who next ≡ r → service_of who next ≡ s → held who next ≡ h → is_freed_since who next ≡ f
    → hand who next ≡ made g r s h f
made-by who next g r s h f eg er es eh ef =
    ap (λ (x : Bool). made x (is_readied who next) (service_of who next) (held who next) (is_freed_since who next)) eg
    ∙ ap (λ (x : Bool). made g x (service_of who next) (held who next) (is_freed_since who next)) er
    ∙ ap (λ (x : Option (List ℕ)). made g r x (held who next) (is_freed_since who next)) es
    ∙ ap (λ (x : Option (List ℕ)). made g r s x (is_freed_since who next)) eh
    ∙ ap (λ (x : Bool). made g r s h x) ef

-- an event that isn't about the connection, or says nothing of it as a worker
record IsQuiet (who : List ℕ) (es : List Event) (e : Event) : Type 0 where
  leaves : is_leaving who e ≡ false
  lapses : is_lapse who e ≡ false
  readies : is_ready who e ≡ false
  serves : service_at who es e ≡ []
  gives : is_gift who e ≡ false
  address : address_given who e ≡ []
  lets : (a : List ℕ) → lets_go who a e ≡ false
  frees : is_freed who es e ≡ false

kept : (x y : Bool) → y ≡ false → (x || y) ≡ x
kept x y false_is = ap (λ (b : Bool). x || b) false_is ∙ or-false x

still : (l x y : Bool) → l ≡ false → y ≡ false → (not l && (x || y)) ≡ x
still l x y calm false_is = ap (λ (b : Bool). not b && (x || y)) calm ∙ kept x y false_is

hand-quiet : (who : List ℕ) (es : List Event) (e : Event) → IsQuiet who es e → hand who (es ++ e ∷ []) ≡ hand who es
hand-quiet who es e q =
    made-by who (es ++ e ∷ []) (is_gone who es) (is_readied who es) (service_of who es) (held who es) (is_freed_since who es)
    (gone-push who es e ∙ kept (is_gone who es) (is_leaving who e) q.leaves)
    (readied-push who es e ∙ still (is_lapse who e) (is_readied who es) (is_ready who e) q.lapses q.readies)
    (service-push who es e ∙ ap (last_or (service_of who es)) q.serves)
    (held-same who es e q.leaves q.gives q.address q.lets)
    (freed-push who es e ∙ still (is_lapse who e) (is_freed_since who es) (is_freed who es e) q.lapses q.frees)

-- ---- the events one by one

ready-made : (g r : Bool) (s h : Option (List ℕ)) (f : Bool) (service : List ℕ)
    → made g (r || true) (last_or s (cond (not r) (service ∷ []) [])) h (f || not r) ≡ when_ready service (made g r s h f)
ready-made g true s h f service = ap (λ (b : Bool). made g true s h b) (or-false f)
ready-made g false s h true service = ap (λ (b : Bool). record { gone = g; readied = true; service = Some service; held = h; waiting = not g && b }) (and-true (is_none h))
ready-made g false s h false service = ap (λ (b : Bool). record { gone = g; readied = true; service = Some service; held = h; waiting = not g && b }) (and-true (is_none h))

ready-same : (who w : List ℕ) (es : List Event) (service : List ℕ) → bytes_eq w who ≡ true → hand who (es ++ Ready w service ∷ []) ≡ when_ready service (hand who es)
ready-same who w es service same =
    let e = Ready w service in
    made-by who (es ++ e ∷ []) (is_gone who es) (is_readied who es || true) (last_or (service_of who es) (cond (not (is_readied who es)) (service ∷ []) [])) (held who es) (is_freed_since who es || not (is_readied who es))
    (gone-push who es e ∙ or-false (is_gone who es))
    (readied-push who es e ∙ ap (λ (b : Bool). is_readied who es || b) same)
    (service-push who es e ∙ ap (λ (b : Bool). last_or (service_of who es) (cond (b && not (is_readied who es)) (service ∷ []) [])) same)
    (held-same who es e refl refl refl (λ a. refl))
    (freed-push who es e ∙ ap (λ (b : Bool). is_freed_since who es || (b && not (is_readied who es))) same)
    ∙ ready-made (is_gone who es) (is_readied who es) (service_of who es) (held who es) (is_freed_since who es) service

replied-made : (g r : Bool) (s h : Option (List ℕ)) (f last : Bool) (to : List ℕ) (k : Bool) → k ≡ (last && is_some_of to h)
    → made g r s (cond k None h) (f || k) ≡ cond k (record (made g r s h f) { held = None; waiting = not g }) (made g r s h f)
replied-made g r s h f last to true is = ap (λ (b : Bool). record { gone = g; readied = r; service = s; held = None; waiting = not g && b }) (or-true f) ∙ ap (λ (b : Bool). record { gone = g; readied = r; service = s; held = None; waiting = b }) (and-true (not g))
replied-made g r s h f last to false is = ap (λ (b : Bool). made g r s h b) (or-false f)

replied-same : (who w : List ℕ) (es : List Event) (last : Bool) (to : List ℕ) (body : List (List ℕ)) → bytes_eq w who ≡ true → hand who (es ++ Replied w last to body ∷ []) ≡ when_replied last to (hand who es)
replied-same who w es last to body same =
    let e = Replied w last to body in
    let k = last && is_some_of to (held who es) in
    made-by who (es ++ e ∷ []) (is_gone who es) (is_readied who es) (service_of who es) (cond k None (held who es)) (is_freed_since who es || k)
    (gone-push who es e ∙ or-false (is_gone who es))
    (readied-push who es e ∙ or-false (is_readied who es))
    (service-push who es e)
    (ap (held_of who (es ++ e ∷ [])) (gift-push who es e)
    ∙ reply-held-of who es (es ++ e ∷ []) (gift who es) last to (gone-push who es e ∙ or-false (is_gone who es))
    (λ a. let-go-push who a es e ∙ ap (λ (b : Bool). let_go who a es || (b && (last && bytes_eq to a))) same))
    (freed-push who es e ∙ ap (λ (b : Bool). is_freed_since who es || (b && k)) same)
    ∙ replied-made (is_gone who es) (is_readied who es) (service_of who es) (held who es) (is_freed_since who es) last to k refl

given-made : (g r : Bool) (s h : Option (List ℕ)) (f : Bool) (to : List ℕ) → made g r s (cond (g || false) None (Some to)) f ≡ when_given to (made g r s h f)
given-made true r s h f to = refl
given-made false r s h f to = refl

given-same : (who w : List ℕ) (es : List Event) (to : List ℕ) (body : List (List ℕ)) → bytes_eq w who ≡ true → hand who (es ++ Given w to body ∷ []) ≡ when_given to (hand who es)
given-same who w es to body same =
    let e = Given w to body in
    made-by who (es ++ e ∷ []) (is_gone who es) (is_readied who es) (service_of who es) (cond (is_gone who es || false) None (Some to)) (is_freed_since who es)
    (gone-push who es e ∙ or-false (is_gone who es))
    (readied-push who es e ∙ or-false (is_readied who es))
    (service-push who es e)
    (ap (held_of who (es ++ e ∷ [])) (gift-push who es e ∙ ap (λ (b : Bool). last_or (gift who es) (cond b (to ∷ []) [])) same)
    ∙ ap (λ (b : Bool). cond (b || let_go who to (es ++ e ∷ [])) None (Some to)) (gone-push who es e ∙ or-false (is_gone who es))
    ∙ ap (λ (b : Bool). cond (is_gone who es || b) None (Some to)) (let-go-push who to es e ∙ ap (λ (b : Bool). not b && (let_go who to es || false)) same))
    (freed-push who es e ∙ or-false (is_freed_since who es))
    ∙ given-made (is_gone who es) (is_readied who es) (service_of who es) (held who es) (is_freed_since who es) to

lapsed-same : (who w : List ℕ) (es : List Event) → bytes_eq w who ≡ true → hand who (es ++ Lapsed w ∷ []) ≡ when_lapsed (hand who es)
lapsed-same who w es same =
    let e = Lapsed w in
    made-by who (es ++ e ∷ []) (is_gone who es) false (service_of who es) None false
    (gone-push who es e ∙ or-false (is_gone who es))
    (readied-push who es e ∙ ap (λ (b : Bool). not b && (is_readied who es || false)) same)
    (service-push who es e)
    (none-held-of who (es ++ e ∷ []) (gift who (es ++ e ∷ []))
    (λ a. ap (λ (b : Bool). is_gone who (es ++ e ∷ []) || b) (let-go-push who a es e ∙ ap (λ (b : Bool). let_go who a es || b) same ∙ or-true (let_go who a es)) ∙ or-true (is_gone who (es ++ e ∷ []))))
    (freed-push who es e ∙ ap (λ (b : Bool). not b && (is_freed_since who es || false)) same)
    ∙ ap (λ (b : Bool). record { gone = is_gone who es; readied = false; service = service_of who es; held = None; waiting = b }) (and-false (not (is_gone who es)))

left-same : (who w : List ℕ) (es : List Event) → bytes_eq w who ≡ true → hand who (es ++ Left w ∷ []) ≡ when_left (hand who es)
left-same who w es same =
    let e = Left w in
    let gone : is_gone who (es ++ e ∷ []) ≡ true = gone-push who es e ∙ ap (λ (b : Bool). is_gone who es || b) same ∙ or-true (is_gone who es) in
    made-by who (es ++ e ∷ []) true (is_readied who es) (service_of who es) None (is_freed_since who es)
    gone
    (readied-push who es e ∙ or-false (is_readied who es))
    (service-push who es e)
    (none-held-of who (es ++ e ∷ []) (gift who (es ++ e ∷ [])) (λ a. ap (λ (b : Bool). b || let_go who a (es ++ e ∷ [])) gone))
    (freed-push who es e ∙ or-false (is_freed_since who es))

-- ---- any event

quiet : (who : List ℕ) (es : List Event) (e : Event) → IsQuiet who es e → hand who (es ++ e ∷ []) ≡ hand who es
quiet who es e q = hand-quiet who es e q

ready-other : (who w : List ℕ) (es : List Event) (service : List ℕ) → bytes_eq w who ≡ false → IsQuiet who es (Ready w service)
ready-other who w es service other = record {
  leaves = refl;
  lapses = refl;
  readies = other;
  gives = refl;
  address = refl;
  lets = λ a. refl;
  serves = ap (λ (b : Bool). cond (b && would_count who es) (service ∷ []) []) other;
  frees = ap (λ (b : Bool). b && would_count who es) other;
}

replied-other : (who w : List ℕ) (es : List Event) (last : Bool) (to : List ℕ) (body : List (List ℕ)) → bytes_eq w who ≡ false → IsQuiet who es (Replied w last to body)
replied-other who w es last to body other = record {
  leaves = refl;
  lapses = refl;
  readies = refl;
  serves = refl;
  gives = refl;
  address = refl;
  lets = λ a. ap (λ (b : Bool). b && (last && bytes_eq to a)) other;
  frees = ap (λ (b : Bool). b && (last && holds who to es)) other;
}

given-other : (who w : List ℕ) (es : List Event) (to : List ℕ) (body : List (List ℕ)) → bytes_eq w who ≡ false → IsQuiet who es (Given w to body)
given-other who w es to body other = record {
  leaves = refl;
  lapses = refl;
  readies = refl;
  serves = refl;
  gives = other;
  lets = λ a. refl;
  frees = refl;
  address = ap (λ (b : Bool). cond b (to ∷ []) []) other;
}

lapsed-other : (who w : List ℕ) (es : List Event) → bytes_eq w who ≡ false → IsQuiet who es (Lapsed w)
lapsed-other who w es other = record { leaves = refl; lapses = other; readies = refl; serves = refl; gives = refl; address = refl; lets = λ a. other; frees = refl }

left-other : (who w : List ℕ) (es : List Event) → bytes_eq w who ≡ false → IsQuiet who es (Left w)
left-other who w es other = record { leaves = other; lapses = refl; readies = refl; serves = refl; gives = refl; address = refl; lets = λ a. refl; frees = refl }

either : {A : Type 0} (b : Bool) (x y z : A) → (b ≡ true → x ≡ y) → (b ≡ false → x ≡ z) → x ≡ cond b y z
either true x y z true_is false_is = true_is refl
either false x y z true_is false_is = false_is refl

pub hand-push : (who : List ℕ) (es : List Event) (e : Event) → hand who (es ++ e ∷ []) ≡ hand_after who e (hand who es)
hand-push who es (Opened w) = quiet who es (Opened w) (record { leaves = refl; lapses = refl; readies = refl; serves = refl; gives = refl; address = refl; lets = λ a. refl; frees = refl })
hand-push who es (Asked w service body) = quiet who es (Asked w service body) (record { leaves = refl; lapses = refl; readies = refl; serves = refl; gives = refl; address = refl; lets = λ a. refl; frees = refl })
hand-push who es (Ready w service) = either (bytes_eq w who) (hand who (es ++ Ready w service ∷ [])) (when_ready service (hand who es)) (hand who es) (ready-same who w es service) (λ other. quiet who es (Ready w service) (ready-other who w es service other))
hand-push who es (Replied w last to body) = either (bytes_eq w who) (hand who (es ++ Replied w last to body ∷ [])) (when_replied last to (hand who es)) (hand who es) (replied-same who w es last to body) (λ other. quiet who es (Replied w last to body) (replied-other who w es last to body other))
hand-push who es (Given w to body) = either (bytes_eq w who) (hand who (es ++ Given w to body ∷ [])) (when_given to (hand who es)) (hand who es) (given-same who w es to body) (λ other. quiet who es (Given w to body) (given-other who w es to body other))
hand-push who es (Answered w service last body) = quiet who es (Answered w service last body) (record { leaves = refl; lapses = refl; readies = refl; serves = refl; gives = refl; address = refl; lets = λ a. refl; frees = refl })
hand-push who es (Lapsed w) = either (bytes_eq w who) (hand who (es ++ Lapsed w ∷ [])) (when_lapsed (hand who es)) (hand who es) (lapsed-same who w es) (λ other. quiet who es (Lapsed w) (lapsed-other who w es other))
hand-push who es (Left w) = either (bytes_eq w who) (hand who (es ++ Left w ∷ [])) (when_left (hand who es)) (hand who es) (left-same who w es) (λ other. quiet who es (Left w) (left-other who w es other))
hand-push who es Wrong = quiet who es Wrong (record { leaves = refl; lapses = refl; readies = refl; serves = refl; gives = refl; address = refl; lets = λ a. refl; frees = refl })
