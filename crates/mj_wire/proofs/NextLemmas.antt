-- What stands next: it is within the bytes, and where it isn't Wait it stays when bytes come behind.
use Rattle.std.proofs.Common.{◌≡◌, ℕ, ◌+◌, ◌-◌, ◌<◌, ◌≤◌, ◌⊎◌, Bool, true, false, not, cond, ◌&&◌, ltb, List, [], ◌∷◌, ◌++◌, length, take, drop, Option, Some, None, Result, Ok, Err, refl, sym, ap, subst, ◌∙◌, inl, inr, arith, length-append, length-drop, length-take, lt-ltb, le-ltb}
use Rattle.std.proofs.lemmas.Bool.{cases_lt}
use Rattle.std.proofs.lemmas.List.{take-append-le, drop-append-le, take_all}
use Rattle.std.proofs.Math.Seq.{take-append-add}
use Rattle.mj_base.specs.declared.limits.Limits.{Limits}
use Rattle.mj_base.specs.declared.reason.Reason.{Reason}
use Rattle.mj_base.specs.declared.reason.Reason.TheVariants.{BadHandshake}
use Rattle.mj_frame.specs.declared.head.Head.{Head}
use Rattle.mj_frame.specs.declared.head.HeadAnswer.{HeadAnswer}
use Rattle.mj_frame.specs.declared.head.HeadAnswer.TheVariants as answers
use Rattle.mj_frame.specs.HeadReading.{head_at}
use Rattle.mj_frame.proofs.HeadLemmas.{head_stays, bad_stays, head_fits, bad_exactly}
use Rattle.mj_greeting.specs.declared.greeting.GreetingFault.{GreetingFault}
use Rattle.mj_greeting.specs.GreetingGrammar.{reason_at, fault_or, first_wrong, fault_of}
use Rattle.mj_handshake.specs.declared.socket_type.SocketType.{SocketType}
use Rattle.mj_handshake.specs.ReadyGrammar.{ready_of}
use Rattle.mj_wire.specs.declared.place.Place.{Place}
use Rattle.mj_wire.specs.declared.place.Stage.{Stage}
use Rattle.mj_wire.specs.declared.place.Stage.TheVariants as stages
use Rattle.mj_wire.specs.declared.next.Next.{Next}
use Rattle.mj_wire.specs.declared.next.Next.TheVariants as next
use Rattle.mj_wire.specs.NextReading.{in_handshake, has_ended, starts_message, head_fault, ready_next, body_next, whole_next, fault_or_whole, headed_next, short_next, answer_next, frame_next, fault_or_greeting, greeting_next, stage_next, next_of}

-- it waits, or it stays
abbrev pub Stays : Next → Next → Type 0
Stays before now = (before ≡ next.Wait) ⊎ (now ≡ before)

-- ---- frames

whole_stays : (stage : Stage) (h : Head) (used : ℕ) (rest more : List ℕ) → Stays (whole_next stage h used rest) (whole_next stage h used (rest ++ more))
whole_stays stage h used rest more =
    elim (cases_lt (length rest) h.size) [
      | inl lt ↦ let t : ltb (length rest) h.size ≡ true = lt-ltb _ _ lt in inl (ap (λ (b : Bool). cond b next.Wait (body_next stage h used (take h.size rest))) t)
      | inr le ↦
          let t : ltb (length rest) h.size ≡ false = le-ltb _ _ le in
          let far : ltb (length (rest ++ more)) h.size ≡ false = le-ltb _ _ (omega (arith, length-append rest more)) in
          inr (ap (λ (b : Bool). cond b next.Wait (body_next stage h used (take h.size (rest ++ more)))) far
          ∙ ap (λ (b : List ℕ). body_next stage h used b) (take-append-le h.size rest more le)
          ∙ sym (ap (λ (b : Bool). cond b next.Wait (body_next stage h used (take h.size rest))) t))
    ]

fault_stays : (fault : Option Reason) (stage : Stage) (h : Head) (used : ℕ) (rest more : List ℕ)
    → Stays (fault_or_whole fault stage h used rest) (fault_or_whole fault stage h used (rest ++ more))
fault_stays (Some reason) stage h used rest more = inr refl
fault_stays None stage h used rest more = whole_stays stage h used rest more

short_not_bad : (o : ℕ) (rest more : List ℕ) → head_at (o ∷ rest) ≡ answers.Short → head_at (o ∷ (rest ++ more)) ≡ answers.BadFlags → ⊥
short_not_bad o rest more short bad =
    let wrong = (bad_exactly (o ∷ (rest ++ more))).0 bad in
    let again = (bad_exactly (o ∷ rest)).1 wrong in
    cc

pub message_faulted : (limits : Limits) (p : Place) (h : Head) → in_handshake p.stage ≡ true → not h.command ≡ true → head_fault limits p h ≡ Some BadHandshake
message_faulted limits p h a b = rw a (rw b refl)

handshake_answer : (limits : Limits) (p : Place) (o : ℕ) (rest more : List ℕ) → in_handshake p.stage ≡ true → ltb o 4 ≡ true → head_at (o ∷ rest) ≡ answers.Short
    → (answer : HeadAnswer) → head_at (o ∷ (rest ++ more)) ≡ answer → answer_next answer limits p (o ∷ (rest ++ more)) ≡ next.Fault BadHandshake 0
handshake_answer limits p o rest more a b short answers.BadFlags e = absurd (short_not_bad o rest more short e)
handshake_answer limits p o rest more a b short answers.Short e = rw a (rw b refl)
handshake_answer limits p o rest more a b short (answers.Head h n) e =
    let fits = head_fits o (rest ++ more) h n e in
    let message : not h.command ≡ true = sym fits.1.1 ∙ b in
    ap (λ (f : Option Reason). fault_or_whole f p.stage h n (drop n (o ∷ (rest ++ more)))) (message_faulted limits p h a message)

handshake_stays : (limits : Limits) (p : Place) (octets more : List ℕ) → in_handshake p.stage ≡ true → starts_message octets ≡ true → head_at octets ≡ answers.Short
    → frame_next limits p (octets ++ more) ≡ next.Fault BadHandshake 0
unfolding frame_next
handshake_stays limits p [] more a b short = cc
handshake_stays limits p (o ∷ rest) more a b short = handshake_answer limits p o rest more a b short (head_at (o ∷ (rest ++ more))) refl

short_stays : (limits : Limits) (p : Place) (octets more : List ℕ) → head_at octets ≡ answers.Short → (a b : Bool) → in_handshake p.stage ≡ a → starts_message octets ≡ b
    → Stays (short_next p.stage octets) (frame_next limits p (octets ++ more))
short_stays limits p octets more short false b ea eb = inl (rw ea refl)
short_stays limits p octets more short true false ea eb = inl (rw ea (rw eb refl))
short_stays limits p octets more short true true ea eb =
    let here : short_next p.stage octets ≡ next.Fault BadHandshake 0 = rw ea (rw eb refl) in
    inr (handshake_stays limits p octets more ea eb short ∙ sym here)

head_used : (octets : List ℕ) (h : Head) (n : ℕ) → head_at octets ≡ answers.Head h n → (n ≤ length octets) × (0 < n)
unfolding head_at
head_used [] h n e = cc
head_used (o ∷ rest) h n e = let f = head_fits o rest h n e in (f.0, f.1.0)

answer_stays : (limits : Limits) (p : Place) (octets more : List ℕ) (answer : HeadAnswer) → head_at octets ≡ answer
    → Stays (answer_next answer limits p octets) (frame_next limits p (octets ++ more))
unfolding frame_next
answer_stays limits p octets more answers.BadFlags e = inr (ap (λ (a : HeadAnswer). answer_next a limits p (octets ++ more)) (bad_stays octets more e))
answer_stays limits p octets more answers.Short e = short_stays limits p octets more e (in_handshake p.stage) (starts_message octets) refl refl
answer_stays limits p octets more (answers.Head h n) e =
    let fits = head_used octets h n e in
    let now : answer_next (head_at (octets ++ more)) limits p (octets ++ more) ≡ headed_next limits p h n (drop n octets ++ more) =
    ap (λ (a : HeadAnswer). answer_next a limits p (octets ++ more)) (head_stays octets more h n e)
    ∙ ap (λ (r : List ℕ). headed_next limits p h n r) (drop-append-le n octets more fits.0) in
    subst (λ (x : Next). Stays (headed_next limits p h n (drop n octets)) x) (sym now) (fault_stays (head_fault limits p h) p.stage h n (drop n octets) more)

frame_stays : (limits : Limits) (p : Place) (octets more : List ℕ) → Stays (frame_next limits p octets) (frame_next limits p (octets ++ more))
unfolding frame_next
frame_stays limits p octets more = answer_stays limits p octets more (head_at octets) refl

-- ---- the greeting

or_stays : (i : ℕ) (r : Option Reason) (x y : Option GreetingFault) (f : GreetingFault) → (x ≡ Some f → y ≡ Some f) → fault_or i r x ≡ Some f → fault_or i r y ≡ Some f
or_stays i (Some reason) x y f h e = e
or_stays i None x y f h e = h e

pub wrong_stays : (i : ℕ) (a b : List ℕ) (f : GreetingFault) → first_wrong i a ≡ Some f → first_wrong i (a ++ b) ≡ Some f
wrong_stays i [] b f e = cc
wrong_stays i (o ∷ a) b f e = or_stays i (reason_at i o) (first_wrong (i + 1) a) (first_wrong (i + 1) (a ++ b)) f (λ h. wrong_stays (i + 1) a b f h) e

pub front_grows : (octets more : List ℕ) → length octets ≤ 64 → take 64 (octets ++ more) ≡ octets ++ take (64 - length octets) more
front_grows octets more l =
    let n : 64 ≡ length octets + (64 - length octets) = omega arith in
    ap (λ (k : ℕ). take k (octets ++ more)) n ∙ take-append-add octets more (64 - length octets)

young_stays : (octets more : List ℕ) → length octets < 64 → (fault : Option GreetingFault) → fault_of octets ≡ fault
    → Stays (fault_or_greeting fault octets) (greeting_next (octets ++ more))
young_stays octets more l None e = inl (ap (λ (b : Bool). cond b next.Wait next.Greeting) (lt-ltb (length octets) 64 l))
young_stays octets more l (Some fault) e =
    let later : fault_of (take 64 (octets ++ more)) ≡ Some fault = ap fault_of (front_grows octets more (omega arith)) ∙ wrong_stays 0 octets (take (64 - length octets) more) fault e in
    inr (ap (λ (f : Option GreetingFault). fault_or_greeting f (octets ++ more)) later)

old_stays : (octets more : List ℕ) → 64 ≤ length octets → (fault : Option GreetingFault) → fault_or_greeting fault (octets ++ more) ≡ fault_or_greeting fault octets
old_stays octets more l None =
    ap (λ (b : Bool). cond b next.Wait next.Greeting) (le-ltb (length (octets ++ more)) 64 (omega (arith, length-append octets more)))
    ∙ sym (ap (λ (b : Bool). cond b next.Wait next.Greeting) (le-ltb (length octets) 64 l))
old_stays octets more l (Some fault) = refl

greeting_stays : (octets more : List ℕ) → Stays (greeting_next octets) (greeting_next (octets ++ more))
greeting_stays octets more =
    elim (cases_lt (length octets) 64) [
      | inl lt ↦
          let all : fault_of (take 64 octets) ≡ fault_of octets = ap fault_of (take_all 64 octets (omega arith)) in
          subst (λ (f : Option GreetingFault). Stays (fault_or_greeting f octets) (greeting_next (octets ++ more))) (sym all) (young_stays octets more lt (fault_of octets) refl)
      | inr le ↦
          inr (ap (λ (t : List ℕ). fault_or_greeting (fault_of t) (octets ++ more)) (take-append-le 64 octets more le) ∙ old_stays octets more le (fault_of (take 64 octets)))
    ]

-- ---- all stages

stage_stays : (stage : Stage) (limits : Limits) (p : Place) (octets more : List ℕ) → Stays (stage_next stage limits p octets) (stage_next stage limits p (octets ++ more))
stage_stays stages.Greeting limits p octets more = greeting_stays octets more
stage_stays stages.Handshake limits p octets more = frame_stays limits p octets more
stage_stays stages.Open limits p octets more = frame_stays limits p octets more
stage_stays stages.Ended limits p octets more = inr refl

pub next_stays : (limits : Limits) (p : Place) (octets more : List ℕ) → Stays (next_of limits p octets) (next_of limits p (octets ++ more))
unfolding next_of
next_stays limits p octets more = stage_stays p.stage limits p octets more

-- ---- within the bytes

abbrev pub IsProper : Next → List ℕ → Type 0
IsProper next.Wait octets = Unit {0}
IsProper (next.Fault reason at) octets = Unit {0}
IsProper next.Greeting octets = 64 ≤ length octets
IsProper (next.Ready kind end) octets = (0 < end) × (end ≤ length octets)
IsProper (next.Command end) octets = (0 < end) × (end ≤ length octets)
IsProper (next.Frame more start end) octets = (start ≤ end) × ((0 < end) × (end ≤ length octets))

cond_proper : (b : Bool) (m n : Next) (octets : List ℕ) → IsProper m octets → IsProper n octets → IsProper (cond b m n) octets
cond_proper true m n octets a b = a
cond_proper false m n octets a b = b

ready_proper : (answer : Result SocketType Reason) (end : ℕ) (octets : List ℕ) → 0 < end → end ≤ length octets → IsProper (ready_next answer end) octets
ready_proper (Ok kind) end octets a b = (a, b)
ready_proper (Err reason) end octets a b = tt

body_proper : (stage : Stage) (h : Head) (used : ℕ) (body octets : List ℕ) → 0 < used → used + length body ≤ length octets → IsProper (body_next stage h used body) octets
body_proper stage h used body octets a b =
    let pos : 0 < used + length body = omega arith in
    let le : used ≤ used + length body = omega arith in
    cond_proper (in_handshake stage) _ _ octets (ready_proper (ready_of body) (used + length body) octets pos b)
    (cond_proper h.command _ _ octets (pos, b) (le, (pos, b)))

whole_proper : (stage : Stage) (h : Head) (used : ℕ) (octets : List ℕ) → 0 < used → used ≤ length octets → IsProper (whole_next stage h used (drop used octets)) octets
whole_proper stage h used octets a b =
    let fits : used + length (take h.size (drop used octets)) ≤ length octets = omega (arith, length-take h.size (drop used octets), length-drop used octets) in
    cond_proper (ltb (length (drop used octets)) h.size) _ _ octets tt (body_proper stage h used (take h.size (drop used octets)) octets a fits)

fault_proper : (fault : Option Reason) (stage : Stage) (h : Head) (used : ℕ) (octets : List ℕ) → 0 < used → used ≤ length octets
    → IsProper (fault_or_whole fault stage h used (drop used octets)) octets
fault_proper (Some reason) stage h used octets a b = tt
fault_proper None stage h used octets a b = whole_proper stage h used octets a b

answer_proper : (limits : Limits) (p : Place) (octets : List ℕ) (answer : HeadAnswer) → head_at octets ≡ answer → IsProper (answer_next answer limits p octets) octets
answer_proper limits p octets answers.BadFlags e = tt
answer_proper limits p octets answers.Short e = cond_proper (in_handshake p.stage && starts_message octets) (next.Fault BadHandshake 0) next.Wait octets tt tt
answer_proper limits p octets (answers.Head h n) e = let fits = head_used octets h n e in fault_proper (head_fault limits p h) p.stage h n octets fits.1 fits.0

frame_proper : (limits : Limits) (p : Place) (octets : List ℕ) → IsProper (frame_next limits p octets) octets
unfolding frame_next
frame_proper limits p octets = answer_proper limits p octets (head_at octets) refl

greeting_proper : (fault : Option GreetingFault) (octets : List ℕ) → IsProper (fault_or_greeting fault octets) octets
greeting_proper (Some fault) octets = tt
greeting_proper None octets =
    elim (cases_lt (length octets) 64) [
      | inl lt ↦ let t : ltb (length octets) 64 ≡ true = lt-ltb _ _ lt in rw t tt
      | inr le ↦ let t : ltb (length octets) 64 ≡ false = le-ltb _ _ le in rw t le
    ]

stage_proper : (stage : Stage) (limits : Limits) (p : Place) (octets : List ℕ) → IsProper (stage_next stage limits p octets) octets
stage_proper stages.Greeting limits p octets = greeting_proper (fault_of (take 64 octets)) octets
stage_proper stages.Handshake limits p octets = frame_proper limits p octets
stage_proper stages.Open limits p octets = frame_proper limits p octets
stage_proper stages.Ended limits p octets = tt

pub next_proper : (limits : Limits) (p : Place) (octets : List ℕ) → IsProper (next_of limits p octets) octets
unfolding next_of
next_proper limits p octets = stage_proper p.stage limits p octets

-- ---- of no bytes, and after a fault

short_nil : (stage : Stage) → short_next stage [] ≡ next.Wait
short_nil stages.Greeting = refl
short_nil stages.Handshake = refl
short_nil stages.Open = refl
short_nil stages.Ended = refl

frame_nil : (limits : Limits) (p : Place) → frame_next limits p [] ≡ next.Wait
unfolding frame_next head_at
frame_nil limits p = short_nil p.stage

stage_nil : (stage : Stage) (limits : Limits) (p : Place) → stage_next stage limits p [] ≡ next.Wait
stage_nil stages.Greeting limits p = refl
stage_nil stages.Handshake limits p = frame_nil limits p
stage_nil stages.Open limits p = frame_nil limits p
stage_nil stages.Ended limits p = refl

pub next_nil : (limits : Limits) (p : Place) → next_of limits p [] ≡ next.Wait
unfolding next_of
next_nil limits p = stage_nil p.stage limits p

stage_ended : (stage : Stage) (limits : Limits) (p : Place) (octets : List ℕ) → has_ended stage ≡ true → stage_next stage limits p octets ≡ next.Wait
stage_ended stages.Greeting limits p octets e = cc
stage_ended stages.Handshake limits p octets e = cc
stage_ended stages.Open limits p octets e = cc
stage_ended stages.Ended limits p octets e = refl

pub next_ended : (limits : Limits) (p : Place) (octets : List ℕ) → has_ended p.stage ≡ true → next_of limits p octets ≡ next.Wait
unfolding next_of
next_ended limits p octets e = stage_ended p.stage limits p octets e
