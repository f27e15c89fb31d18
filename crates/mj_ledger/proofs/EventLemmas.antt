-- The tables behind each kind of event.
use Rattle.std.proofs.Common.{◌≡◌, ◌+◌, ◌-◌, ℕ, Bool, true, false, cond, not, List, [], ◌∷◌, ◌++◌, length, drop, Option, Some, None, refl, sym, ap, subst, ◌∙◌, arith, inl, inr, ltb}
use mathlib.Core.Bool.{◌&&◌, ◌||◌}
use Rattle.std.specs.Prelude.{IsSome, is_some, option_map, slice_get}
use Rattle.std.specs.Cmp.Lexicographic.{nat_list_eq_equiv}
use Rattle.std.specs.List.{list_any}
use Rattle.std.specs.Str.{bytes_eq}
use Rattle.std.proofs.lemmas.Bool.{and_parts, cases_Bool, true≢false}
use Rattle.mj_ledger.specs.Dues.{is_credit, is_kind, is_owned_of, judged_name, owing_of, service_in, waits_of}
use Rattle.mj_ledger.specs.Events.{Event, Asked, Ready, Replied, Given, Answered, Lapsed, Left, Wrong, is_passed}
use Rattle.mj_ledger.specs.Found.{hand_at, has, queue_at}
use Rattle.mj_ledger.specs.Hands.{hand, when_given, when_lapsed, when_left, when_ready, when_replied}
use Rattle.mj_ledger.specs.Standing.{NobodyBut, Stands, count, is_judged, is_known, known, pending}
use Rattle.mj_ledger.specs.TranscriptLaws.{asked, given, is_body, is_owned_answer, is_owned_request, is_reply_to, is_request_of, keeps_replies, keeps_requests, nobody_is_kept, same_body, same_bool}
use Rattle.mj_ledger.specs.Workers.{held, is_some_of, service_of, serves, waits}
use Rattle.mj_ledger.specs.declared.hand.Hand.{Hand}
use Rattle.mj_ledger.specs.declared.tables.Tables.{Tables}
use Rattle.mj_ledger.proofs.Lists.{and-false, and-true, or-false, or-true}
use Rattle.mj_ledger.proofs.LawLemmas.{bytes-own, bytes-same, owned-credit, owned-pending, pending-asked, pending-given, pending-same, requests-few}
use Rattle.mj_ledger.proofs.StandLemmas.{plus-none, stands-push}
use Rattle.mj_ledger.proofs.WaitLemmas.{nobody-clears, nobody-push, nobody-touched}

-- ---- small steps

minus-none : (x : ℕ) → x ≡ x - 0
minus-none x = omega arith

plus-zero : (x : ℕ) → x ≡ x + 0
plus-zero x = omega arith

keep : (a b : Bool) → a ≡ b → a ≡ (b && true)
keep a b h = h ∙ sym (and-true b)

and-when : (a x y : Bool) → (a ≡ true → x ≡ y) → (a && x) ≡ (a && y)
and-when true x y h = h refl
and-when false x y h = refl

mapped-own : (o : Option Hand) → o ≡ option_map (λ h. h) o
mapped-own None = refl
mapped-own (Some h) = refl

changed : (o : Option Hand) (b : Bool) (f : Hand → Hand) → cond b (option_map f o) o ≡ option_map (λ h. cond b (f h) h) o
changed None true f = refl
changed None false f = refl
changed (Some h) true f = refl
changed (Some h) false f = refl

pub there-known : (t : Tables) (es : List Event) (who : List ℕ) → is_known who es ≡ true → Stands t es → IsSome (hand_at t.peers who)
there-known t es who there s = ap (λ (o : Option Hand). is_some o) (s.hands who) ∙ ap (λ (k : Bool). is_some (cond k (Some (hand who es)) None)) there

same-known : (es : List Event) (who q : List ℕ) → is_known who es ≡ true → bytes_eq who q ≡ true → is_known q es ≡ true
same-known es who q there same = subst (λ (x : List ℕ). is_known x es ≡ true) (bytes-same who q same) there

counted : (n m : ℕ) → n ≡ m → n ≡ (m + 0) - 0
counted n m is = is ∙ plus-none m

replies-kept : (t : Tables) (es : List Event) → Stands t es → t.owner ≡ true → keeps_requests es ≡ true
replies-kept t es s kept = (and_parts (keeps_requests es) (keeps_replies es) (sym s.owner ∙ kept)).0

-- ---- events that send nothing on and ask nothing

pub stands-wrong : (t after : Tables) (es : List Event) → after.wire ≡ false → after.owner ≡ t.owner → after.busy ≡ t.busy → ((q : List ℕ) → hand_at after.peers q ≡ hand_at t.peers q)
    → ((q n : List ℕ) → queue_at after.peers q n ≡ queue_at t.peers q n) → ((q : List ℕ) → list_any (bytes_eq q) after.present.items ≡ list_any (bytes_eq q) t.present.items)
    → ((q n : List ℕ) (l : Bool) (b : List (List ℕ)) → count after q n l b ≡ count t q n l b) → ((q : List ℕ) → has after.claimed q ≡ has t.claimed q) → after.suspect ≡ t.suspect → Stands t es → Stands after (es ++ Wrong ∷ [])
stands-wrong t after es wire owner busy hands queues present credits claimed suspect s =
    stands-push t after es Wrong (λ q. refl)
    (wire ∙ sym (and-false t.wire))
    (keep after.owner t.owner owner)
    (keep after.busy t.busy busy)
    (λ q. hands q ∙ mapped-own (hand_at t.peers q))
    (λ q. keep (list_any (bytes_eq q) after.present.items) (list_any (bytes_eq q) t.present.items) (present q))
    (λ before kept q n judged. queues q n ∙ s.pending before q n judged ∙ sym (pending-same q n es Wrong refl refl))
    (λ before q n l b. counted (count after q n l b) (count t q n l b) (credits q n l b))
    (λ q new. claimed q ∙ sym (or-false (has t.claimed q)))
    (subst (λ (o : Option (List ℕ)). NobodyBut o (es ++ Wrong ∷ [])) (sym suspect) (nobody-push t.suspect es Wrong refl s.suspect))
    (λ q of. absurd (true≢false (sym of)))
    (λ q n passed. refl)
    s

pub stands-ready : (t after : Tables) (es : List Event) (who service : List ℕ) → after.wire ≡ t.wire → after.owner ≡ t.owner → after.busy ≡ t.busy
    → ((q : List ℕ) → hand_at after.peers q ≡ cond (bytes_eq who q) (option_map (when_ready service) (hand_at t.peers q)) (hand_at t.peers q))
    → ((q n : List ℕ) → queue_at after.peers q n ≡ queue_at t.peers q n) → ((q : List ℕ) → list_any (bytes_eq q) after.present.items ≡ list_any (bytes_eq q) t.present.items)
    → ((q n : List ℕ) (l : Bool) (b : List (List ℕ)) → count after q n l b ≡ count t q n l b) → ((q : List ℕ) → has after.claimed q ≡ has t.claimed q) → after.suspect ≡ Some service
    → t.suspect ≡ None → is_known who es ≡ true → Stands t es → Stands after (es ++ Ready who service ∷ [])
stands-ready t after es who service wire owner busy hands queues present credits claimed suspect settled there s =
    let e = Ready who service in
    stands-push t after es e (λ q. refl)
    (keep after.wire t.wire wire)
    (keep after.owner t.owner owner)
    (keep after.busy t.busy busy)
    (λ q. hands q ∙ changed (hand_at t.peers q) (bytes_eq who q) (when_ready service))
    (λ q. keep (list_any (bytes_eq q) after.present.items) (list_any (bytes_eq q) t.present.items) (present q))
    (λ before kept q n judged. queues q n ∙ s.pending before q n judged ∙ sym (pending-same q n es e refl refl))
    (λ before q n l b. counted (count after q n l b) (count t q n l b) (credits q n l b))
    (λ q new. claimed q ∙ sym (or-false (has t.claimed q)))
    (subst (λ (o : Option (List ℕ)). NobodyBut o (es ++ e ∷ [])) (sym suspect) (nobody-touched es e (subst (λ (o : Option (List ℕ)). NobodyBut o es) settled s.suspect)))
    (λ q of. same-known es who q there of)
    (λ q n passed. refl)
    s

pub stands-lapsed : (t after : Tables) (es : List Event) (who : List ℕ) → after.wire ≡ t.wire → after.owner ≡ t.owner → after.busy ≡ t.busy
    → ((q : List ℕ) → hand_at after.peers q ≡ cond (bytes_eq who q) (option_map when_lapsed (hand_at t.peers q)) (hand_at t.peers q))
    → ((q n : List ℕ) → queue_at after.peers q n ≡ queue_at t.peers q n) → ((q : List ℕ) → list_any (bytes_eq q) after.present.items ≡ list_any (bytes_eq q) t.present.items)
    → ((q n : List ℕ) (l : Bool) (b : List (List ℕ)) → count after q n l b ≡ count t q n l b) → ((q : List ℕ) → has after.claimed q ≡ has t.claimed q) → after.suspect ≡ t.suspect
    → is_known who es ≡ true → Stands t es → Stands after (es ++ Lapsed who ∷ [])
stands-lapsed t after es who wire owner busy hands queues present credits claimed suspect there s =
    let e = Lapsed who in
    stands-push t after es e (λ q. refl)
    (keep after.wire t.wire wire)
    (keep after.owner t.owner owner)
    (keep after.busy t.busy busy)
    (λ q. hands q ∙ changed (hand_at t.peers q) (bytes_eq who q) when_lapsed)
    (λ q. keep (list_any (bytes_eq q) after.present.items) (list_any (bytes_eq q) t.present.items) (present q))
    (λ before kept q n judged. queues q n ∙ s.pending before q n judged ∙ sym (pending-same q n es e refl refl))
    (λ before q n l b. counted (count after q n l b) (count t q n l b) (credits q n l b))
    (λ q new. claimed q ∙ sym (or-false (has t.claimed q)))
    (subst (λ (o : Option (List ℕ)). NobodyBut o (es ++ e ∷ [])) (sym suspect) (nobody-push t.suspect es e refl s.suspect))
    (λ q of. same-known es who q there of)
    (λ q n passed. refl)
    s

pub stands-left : (t after : Tables) (es : List Event) (who : List ℕ) → after.wire ≡ t.wire → after.owner ≡ t.owner → after.busy ≡ t.busy
    → ((q : List ℕ) → hand_at after.peers q ≡ cond (bytes_eq who q) (option_map when_left (hand_at t.peers q)) (hand_at t.peers q))
    → ((q n : List ℕ) → queue_at after.peers q n ≡ queue_at t.peers q n) → ((q : List ℕ) → list_any (bytes_eq q) after.present.items ≡ (list_any (bytes_eq q) t.present.items && not (bytes_eq who q)))
    → ((q n : List ℕ) (l : Bool) (b : List (List ℕ)) → count after q n l b ≡ count t q n l b) → ((q : List ℕ) → has after.claimed q ≡ has t.claimed q) → after.suspect ≡ t.suspect
    → is_known who es ≡ true → Stands t es → Stands after (es ++ Left who ∷ [])
stands-left t after es who wire owner busy hands queues present credits claimed suspect there s =
    let e = Left who in
    stands-push t after es e (λ q. refl)
    (keep after.wire t.wire wire)
    (keep after.owner t.owner owner)
    (keep after.busy t.busy busy)
    (λ q. hands q ∙ changed (hand_at t.peers q) (bytes_eq who q) when_left)
    present
    (λ before kept q n judged. queues q n ∙ s.pending before q n judged ∙ sym (pending-same q n es e refl refl))
    (λ before q n l b. counted (count after q n l b) (count t q n l b) (credits q n l b))
    (λ q new. claimed q ∙ sym (or-false (has t.claimed q)))
    (subst (λ (o : Option (List ℕ)). NobodyBut o (es ++ e ∷ [])) (sym suspect) (nobody-push t.suspect es e refl s.suspect))
    (λ q of. same-known es who q there of)
    (λ q n passed. refl)
    s

-- ---- a request comes

asked-pending : (es : List Event) (who service : List ℕ) (body : List (List ℕ)) (q n : List ℕ) → is_known who es ≡ true → keeps_requests es ≡ true → is_passed n ≡ false → (b : Bool) → (bytes_eq who q && bytes_eq service n) ≡ b
    → (xs : List (List (List ℕ))) → xs ≡ pending q n es → cond b (xs ++ body ∷ []) xs ≡ pending q n (es ++ Asked who service body ∷ [])
asked-pending es who service body q n there kept judged true is xs same =
    let e = Asked who service body in
    let p = and_parts (bytes_eq who q) (bytes_eq service n) is in
    ap (λ (l : List (List (List ℕ))). l ++ body ∷ []) same
    ∙ sym (pending-asked q n es e refl (requests-few q n es judged (same-known es who q there p.0) kept) ∙ ap (λ (b : Bool). pending q n es ++ cond b (body ∷ []) []) is)
asked-pending es who service body q n there kept judged false is xs same =
    same ∙ sym (pending-same q n es (Asked who service body) refl (ap (λ (b : Bool). cond b (body ∷ []) []) is))

passed-other : (n service : List ℕ) → is_passed n ≡ true → is_passed service ≡ false → bytes_eq service n ≡ false
passed-other n service passed judged = elim (cases_Bool (bytes_eq service n)) [ inl same ↦ absurd (true≢false (sym passed ∙ ap is_passed (sym (bytes-same service n same)) ∙ judged)) | inr other ↦ other ]

pub stands-asked : (t after : Tables) (es : List Event) (who service : List ℕ) (body : List (List ℕ)) → after.wire ≡ t.wire → after.owner ≡ t.owner → after.busy ≡ t.busy
    → ((q : List ℕ) → hand_at after.peers q ≡ hand_at t.peers q)
    → ((q n : List ℕ) → queue_at after.peers q n ≡ cond (bytes_eq who q && bytes_eq service n) (queue_at t.peers q n ++ body ∷ []) (queue_at t.peers q n))
    → ((q : List ℕ) → list_any (bytes_eq q) after.present.items ≡ list_any (bytes_eq q) t.present.items)
    → ((q n : List ℕ) (l : Bool) (b : List (List ℕ)) → count after q n l b ≡ count t q n l b) → ((q : List ℕ) → has after.claimed q ≡ has t.claimed q) → after.suspect ≡ Some service
    → t.suspect ≡ None → is_known who es ≡ true → is_passed service ≡ false → Stands t es → Stands after (es ++ Asked who service body ∷ [])
stands-asked t after es who service body wire owner busy hands queues present credits claimed suspect settled there judged s =
    let e = Asked who service body in
    stands-push t after es e (λ q. refl)
    (keep after.wire t.wire wire)
    (keep after.owner t.owner owner)
    (keep after.busy t.busy busy)
    (λ q. hands q ∙ mapped-own (hand_at t.peers q))
    (λ q. keep (list_any (bytes_eq q) after.present.items) (list_any (bytes_eq q) t.present.items) (present q))
    (λ before kept q n open_n. queues q n ∙ asked-pending es who service body q n there (replies-kept t es s before) open_n (bytes_eq who q && bytes_eq service n) refl (queue_at t.peers q n) (s.pending before q n open_n))
    (λ before q n l b. counted (count after q n l b) (count t q n l b) (credits q n l b))
    (λ q new. claimed q ∙ sym (or-false (has t.claimed q)))
    (subst (λ (o : Option (List ℕ)). NobodyBut o (es ++ e ∷ [])) (sym suspect) (nobody-touched es e (subst (λ (o : Option (List ℕ)). NobodyBut o es) settled s.suspect)))
    (λ q of. same-known es who q there of)
    (λ q n passed. ap (λ (b : Bool). cond (bytes_eq who q && b) (body ∷ []) []) (passed-other n service passed judged) ∙ ap (λ (b : Bool). cond b (body ∷ []) []) (and-false (bytes_eq who q)))
    s

-- ---- a reply comes

turned : (x y z v : Bool) → x ≡ v → (x && (y && z)) ≡ (y && (z && (v && true)))
turned true true true v is = is ∙ sym (and-true v)
turned true true false v is = refl
turned true false z v is = refl
turned false true true v is = is ∙ sym (and-true v)
turned false true false v is = refl
turned false false z v is = refl

lacks : (a b : Bool) → (a && (b && false)) ≡ false
lacks true b = and-false b
lacks false b = refl

reply-some : (to q n : List ℕ) (l last : Bool) (b body : List (List ℕ)) (service : Option (List ℕ)) → is_credit to service last body to n l b ≡ (same_bool last l && (same_body body b && (is_some_of n service && true)))
reply-some to q n l last b body None = sym (lacks (same_bool last l) (same_body body b))
reply-some to q n l last b body (Some m) =
    ap (λ (x : Bool). x && (bytes_eq m n && (same_bool last l && same_body body b))) (bytes-own to)
    ∙ turned (bytes_eq m n) (same_bool last l) (same_body body b) (bytes_eq n m) (nat_list_eq_equiv.symm m n)

credit-other : (to q n : List ℕ) (l last : Bool) (b body : List (List ℕ)) (service : Option (List ℕ)) → bytes_eq to q ≡ false → is_credit to service last body q n l b ≡ false
credit-other to q n l last b body None other = refl
credit-other to q n l last b body (Some m) other = ap (λ (x : Bool). x && (bytes_eq m n && (same_bool last l && same_body body b))) other

reply-credit : (to q n : List ℕ) (l last : Bool) (b body : List (List ℕ)) (holding service : Option (List ℕ)) (same holds_to : Bool) → bytes_eq to q ≡ same → is_some_of to holding ≡ holds_to
    → is_credit to (cond holds_to service None) last body q n l b ≡ (same && (same_bool last l && (same_body body b && (is_some_of n service && is_some_of q holding))))
reply-credit to q n l last b body holding service false holds_to other is = credit-other to q n l last b body (cond holds_to service None) other
reply-credit to q n l last b body holding service true true same is =
    let one = bytes-same to q same in
    ap (λ (x : List ℕ). is_credit to service last body x n l b) (sym one) ∙ reply-some to q n l last b body service
    ∙ ap (λ (x : Bool). same_bool last l && (same_body body b && (is_some_of n service && x))) (sym is ∙ ap (λ (x : List ℕ). is_some_of x holding) one)
reply-credit to q n l last b body holding service true false same is =
    sym (ap (λ (x : Bool). same_bool last l && (same_body body b && (is_some_of n service && x))) (ap (λ (x : List ℕ). is_some_of x holding) (sym (bytes-same to q same)) ∙ is)
    ∙ ap (λ (x : Bool). same_bool last l && (same_body body b && x)) (and-false (is_some_of n service)) ∙ lacks (same_bool last l) (same_body body b))

owing-known : (who to : List ℕ) (es : List Event) → is_known who es ≡ true → owing_of (known who es) to ≡ cond (is_some_of to (held who es)) (service_of who es) None
owing-known who to es there = ap (λ (k : Bool). owing_of (cond k (Some (hand who es)) None) to) there

service-known : (who : List ℕ) (es : List Event) → is_known who es ≡ true → service_in (known who es) ≡ service_of who es
service-known who es there = ap (λ (k : Bool). service_in (cond k (Some (hand who es)) None)) there

waits-known : (who : List ℕ) (es : List Event) → is_known who es ≡ true → waits_of (known who es) ≡ waits who es
waits-known who es there = ap (λ (k : Bool). waits_of (cond k (Some (hand who es)) None)) there

pub stands-replied : (t after : Tables) (es : List Event) (who : List ℕ) (last : Bool) (to : List ℕ) (body : List (List ℕ)) (owing : Option (List ℕ)) → after.wire ≡ t.wire → after.owner ≡ t.owner → after.busy ≡ t.busy
    → ((q : List ℕ) → hand_at after.peers q ≡ cond (bytes_eq who q) (option_map (when_replied last to) (hand_at t.peers q)) (hand_at t.peers q))
    → ((q n : List ℕ) → queue_at after.peers q n ≡ queue_at t.peers q n) → ((q : List ℕ) → list_any (bytes_eq q) after.present.items ≡ list_any (bytes_eq q) t.present.items)
    → ((q n : List ℕ) (l : Bool) (b : List (List ℕ)) → count after q n l b ≡ count t q n l b + cond (is_credit to owing last body q n l b) 1 0) → owing ≡ owing_of (hand_at t.peers who) to
    → ((q : List ℕ) → has after.claimed q ≡ has t.claimed q) → after.suspect ≡ service_in (hand_at t.peers who)
    → t.suspect ≡ None → is_known who es ≡ true → Stands t es → Stands after (es ++ Replied who last to body ∷ [])
stands-replied t after es who last to body owing wire owner busy hands queues present credits owes claimed suspect settled there s =
    let e = Replied who last to body in
    stands-push t after es e (λ q. refl)
    (keep after.wire t.wire wire)
    (keep after.owner t.owner owner)
    (keep after.busy t.busy busy)
    (λ q. hands q ∙ changed (hand_at t.peers q) (bytes_eq who q) (when_replied last to))
    (λ q. keep (list_any (bytes_eq q) after.present.items) (list_any (bytes_eq q) t.present.items) (present q))
    (λ before kept q n judged. queues q n ∙ s.pending before q n judged ∙ sym (pending-same q n es e refl refl))
    (λ before q n l b.
    let counts : is_credit to owing last body q n l b ≡ is_reply_to q n l b es e =
    ap (λ (o : Option (List ℕ)). is_credit to o last body q n l b) (owes ∙ ap (λ (o : Option Hand). owing_of o to) (s.hands who) ∙ owing-known who to es there)
    ∙ reply-credit to q n l last b body (held who es) (service_of who es) (bytes_eq to q) (is_some_of to (held who es)) refl refl in
    credits q n l b ∙ ap (λ (x : Bool). count t q n l b + cond {A = ℕ} x 1 0) counts ∙ minus-none (count t q n l b + cond {A = ℕ} (is_reply_to q n l b es e) 1 0))
    (λ q new. claimed q ∙ sym (or-false (has t.claimed q)))
    (subst (λ (o : Option (List ℕ)). NobodyBut o (es ++ e ∷ [])) (sym (suspect ∙ ap service_in (s.hands who) ∙ service-known who es there)) (nobody-touched es e (subst (λ (o : Option (List ℕ)). NobodyBut o es) settled s.suspect)))
    (λ q of. same-known es who q there of)
    (λ q n passed. refl)
    s

-- ---- an answer is sent

pub stands-answered : (t after : Tables) (es : List Event) (who service : List ℕ) (last : Bool) (body : List (List ℕ)) → after.wire ≡ t.wire → after.owner ≡ (t.owner && ltb 0 (count t who service last body)) → after.busy ≡ t.busy
    → ((q : List ℕ) → hand_at after.peers q ≡ hand_at t.peers q) → ((q n : List ℕ) → queue_at after.peers q n ≡ queue_at t.peers q n)
    → ((q : List ℕ) → list_any (bytes_eq q) after.present.items ≡ list_any (bytes_eq q) t.present.items)
    → ((q n : List ℕ) (l : Bool) (b : List (List ℕ)) → count after q n l b ≡ count t q n l b - cond (is_kind who service last body q n l b) 1 0)
    → ((q : List ℕ) → has after.claimed q ≡ has t.claimed q) → after.suspect ≡ t.suspect → Stands t es → Stands after (es ++ Answered who service last body ∷ [])
stands-answered t after es who service last body wire owner busy hands queues present credits claimed suspect s =
    let e = Answered who service last body in
    stands-push t after es e (λ q. refl)
    (keep after.wire t.wire wire)
    (owner ∙ and-when t.owner (ltb 0 (count t who service last body)) (is_owned_answer es e) (λ kept. ap (ltb 0) (s.credits kept who service last body) ∙ sym (owned-credit who service last body es)))
    (keep after.busy t.busy busy)
    (λ q. hands q ∙ mapped-own (hand_at t.peers q))
    (λ q. keep (list_any (bytes_eq q) after.present.items) (list_any (bytes_eq q) t.present.items) (present q))
    (λ before kept q n judged. queues q n ∙ s.pending before q n judged ∙ sym (pending-same q n es e refl refl))
    (λ before q n l b. credits q n l b ∙ ap (λ (x : ℕ). x - cond {A = ℕ} (is_kind who service last body q n l b) 1 0) (plus-zero (count t q n l b)))
    (λ q new. claimed q ∙ sym (or-false (has t.claimed q)))
    (subst (λ (o : Option (List ℕ)). NobodyBut o (es ++ e ∷ [])) (sym suspect) (nobody-push t.suspect es e refl s.suspect))
    (λ q of. absurd (true≢false (sym of)))
    (λ q n passed. refl)
    s

-- ---- a request is sent

judged-of : (n : List ℕ) (o : Option (List ℕ)) → is_passed n ≡ false → is_some_of n (judged_name o) ≡ is_some_of n o
judged-of n None open_n = refl
judged-of n (Some m) open_n = elim (cases_Bool (is_passed m)) [
  | inl passed ↦ ap (λ (b : Bool). is_some_of n (cond b None (Some m))) passed ∙ sym (elim (cases_Bool (bytes_eq n m)) [ inl same ↦ absurd (true≢false (sym passed ∙ ap is_passed (sym (bytes-same n m same)) ∙ open_n)) | inr other ↦ other ])
  | inr judged ↦ ap (λ (b : Bool). is_some_of n (cond b None (Some m))) judged
]

judged-if : (m : List ℕ) (b : Bool) → is_some (cond b None (Some m)) ≡ not b
judged-if m true = refl
judged-if m false = refl

judged-some : (o : Option (List ℕ)) → is_some (judged_name o) ≡ is_judged o
judged-some None = refl
judged-some (Some m) = judged-if m (is_passed m)

is-some-known : (k : Bool) (h : Hand) → is_some (cond k (Some h) None) ≡ k
is-some-known true h = refl
is-some-known false h = refl

owned-passed : (k p : Bool) (o : Option Hand) (m : List ℕ) (queue : List ℕ → List (List (List ℕ))) (body : List (List ℕ)) (next : Bool) → is_some o ≡ k → next ≡ is_body body (slice_get (queue m) 0) → is_owned_of o (cond p None (Some m)) queue body ≡ (not k || (p || next))
owned-passed k true o m queue body next is same = sym (or-true (not k))
owned-passed k false o m queue body next is same = ap (λ (b : Bool). not b || is_body body (slice_get (queue m) 0)) is ∙ ap (λ (b : Bool). not k || b) (sym same)

next-given : (to : List ℕ) (body : List (List ℕ)) (es : List Event) (m : List ℕ) (p : Bool) (queue : List ℕ → List (List (List ℕ))) → is_passed m ≡ p → (is_passed m ≡ false → queue m ≡ pending to m es)
    → (p || is_body body (slice_get (queue m) 0)) ≡ is_request_of to body es (Some m)
next-given to body es m true queue is same = sym (ap (λ (b : Bool). b || is_body body (slice_get (asked to m es) (length (given to m es)))) is)
next-given to body es m false queue is same =
    ap (λ (l : List (List (List ℕ))). is_body body (slice_get l 0)) (same is) ∙ sym (owned-pending to body es m ∙ ap (λ (b : Bool). b || is_body body (slice_get (pending to m es) 0)) is)

owned-judged : (t : Tables) (es : List Event) (to : List ℕ) (body : List (List ℕ)) → Stands t es → t.owner ≡ true → (m : List ℕ) (p : Bool) → is_passed m ≡ p
    → is_owned_of (hand_at t.peers to) (cond p None (Some m)) (queue_at t.peers to) body ≡ (not (is_known to es) || is_request_of to body es (Some m))
owned-judged t es to body s kept m p is =
    owned-passed (is_known to es) p (hand_at t.peers to) m (queue_at t.peers to) body (is_body body (slice_get (queue_at t.peers to m) 0)) (ap (λ (o : Option Hand). is_some o) (s.hands to) ∙ is-some-known (is_known to es) (hand to es)) refl
    ∙ ap (λ (b : Bool). not (is_known to es) || b) (next-given to body es m p (queue_at t.peers to) is (λ judged. s.pending kept to m judged))

owned-given : (t : Tables) (es : List Event) (w to : List ℕ) (body : List (List ℕ)) → Stands t es → t.owner ≡ true → (service : Option (List ℕ)) → is_owned_of (hand_at t.peers to) (judged_name service) (queue_at t.peers to) body ≡ (not (is_known to es) || is_request_of to body es service)
owned-given t es w to body s kept None = sym (or-true (not (is_known to es)))
owned-given t es w to body s kept (Some m) = owned-judged t es to body s kept m (is_passed m) refl

given-pending : (es : List Event) (w to : List ℕ) (body : List (List ℕ)) (q n : List ℕ) (b : Bool) → (bytes_eq to q && serves w n es) ≡ b → (xs : List (List (List ℕ))) → xs ≡ pending q n es → cond b (drop 1 xs) xs ≡ pending q n (es ++ Given w to body ∷ [])
given-pending es w to body q n true is xs same = ap (drop 1) same ∙ sym (pending-given q n es (Given w to body) body (ap (λ (b : Bool). cond b (body ∷ []) []) is) refl)
given-pending es w to body q n false is xs same = same ∙ sym (pending-same q n es (Given w to body) (ap (λ (b : Bool). cond b (body ∷ []) []) is) refl)

pub stands-given : (t after : Tables) (es : List Event) (w to : List ℕ) (body : List (List ℕ)) (service : Option (List ℕ)) (owned : Bool) → after.wire ≡ t.wire → after.owner ≡ (t.owner && owned) → after.busy ≡ (t.busy && waits_of (hand_at t.peers w))
    → service ≡ judged_name (service_in (hand_at t.peers w))
    → owned ≡ is_owned_of (hand_at t.peers to) service (queue_at t.peers to) body
    → ((q : List ℕ) → hand_at after.peers q ≡ cond (bytes_eq w q) (option_map (when_given to) (hand_at t.peers q)) (hand_at t.peers q))
    → ((q n : List ℕ) → queue_at after.peers q n ≡ cond (bytes_eq to q && is_some_of n service) (drop 1 (queue_at t.peers q n)) (queue_at t.peers q n))
    → ((q : List ℕ) → list_any (bytes_eq q) after.present.items ≡ list_any (bytes_eq q) t.present.items)
    → ((q n : List ℕ) (l : Bool) (b : List (List ℕ)) → count after q n l b ≡ count t q n l b)
    → ((q : List ℕ) → hand_at t.peers q ≡ None → has after.claimed q ≡ (has t.claimed q || (bytes_eq to q && is_some service)))
    → after.suspect ≡ t.suspect → is_known w es ≡ true → Stands t es → Stands after (es ++ Given w to body ∷ [])
stands-given t after es w to body service owned wire owner busy named owned-is hands queues present credits claimed suspect there s =
    let e = Given w to body in
    let name : service ≡ judged_name (service_of w es) = named ∙ ap judged_name (ap service_in (s.hands w) ∙ service-known w es there) in
    stands-push t after es e (λ q. refl)
    (keep after.wire t.wire wire)
    (owner ∙ and-when t.owner owned (is_owned_request es es e && true)
    (λ kept. owned-is ∙ ap (λ (o : Option (List ℕ)). is_owned_of (hand_at t.peers to) o (queue_at t.peers to) body) name ∙ owned-given t es w to body s kept (service_of w es) ∙ sym (and-true (is_owned_request es es e))))
    (busy ∙ ap (λ (b : Bool). t.busy && b) (ap waits_of (s.hands w) ∙ waits-known w es there))
    (λ q. hands q ∙ changed (hand_at t.peers q) (bytes_eq w q) (when_given to))
    (λ q. keep (list_any (bytes_eq q) after.present.items) (list_any (bytes_eq q) t.present.items) (present q))
    (λ before kept q n judged. queues q n
    ∙ ap (λ (b : Bool). cond (bytes_eq to q && b) (drop 1 (queue_at t.peers q n)) (queue_at t.peers q n)) (ap (is_some_of n) name ∙ judged-of n (service_of w es) judged)
    ∙ given-pending es w to body q n (bytes_eq to q && serves w n es) refl (queue_at t.peers q n) (s.pending before q n judged))
    (λ before q n l b. counted (count after q n l b) (count t q n l b) (credits q n l b))
    (λ q new. claimed q (s.hands q ∙ ap (λ (k : Bool). cond k (Some (hand q es)) None) new) ∙ ap (λ (b : Bool). has t.claimed q || (bytes_eq to q && b)) (ap (λ (o : Option (List ℕ)). is_some o) name ∙ judged-some (service_of w es)))
    (subst (λ (o : Option (List ℕ)). NobodyBut o (es ++ e ∷ [])) (sym suspect) (nobody-push t.suspect es e refl s.suspect))
    (λ q of. same-known es w q there of)
    (λ q n passed. refl)
    s

-- ---- nobody is kept

pub stands-clear : (t after : Tables) (es : List Event) → after.wire ≡ t.wire → after.owner ≡ t.owner → after.busy ≡ t.busy → ((q : List ℕ) → hand_at after.peers q ≡ hand_at t.peers q)
    → ((q n : List ℕ) → queue_at after.peers q n ≡ queue_at t.peers q n) → ((q : List ℕ) → list_any (bytes_eq q) after.present.items ≡ list_any (bytes_eq q) t.present.items)
    → ((q n : List ℕ) (l : Bool) (b : List (List ℕ)) → count after q n l b ≡ count t q n l b) → ((q : List ℕ) → has after.claimed q ≡ has t.claimed q) → after.suspect ≡ None → nobody_is_kept es ≡ true → Stands t es → Stands after es
stands-clear t after es wire owner busy hands queues present credits claimed suspect nobody s = record {
  wire = wire ∙ s.wire;
  owner = owner ∙ s.owner;
  busy = busy ∙ s.busy;
  hands = λ q. hands q ∙ s.hands q;
  present = λ q. present q ∙ s.present q;
  pending = λ kept q n judged. queues q n ∙ s.pending (sym owner ∙ kept) q n judged;
  credits = λ kept q n l b. credits q n l b ∙ s.credits (sym owner ∙ kept) q n l b;
  claimed = λ q new. claimed q ∙ s.claimed q new;
  suspect = subst (λ (o : Option (List ℕ)). NobodyBut o es) (sym suspect) (nobody-clears es nobody);
  heard = s.heard;
  named = s.named;
}
