-- One frame where a frame has to begin: it is taken where its head has no fault, and what is taken is one.
use Rattle.std.proofs.Common.{◌≡◌, ℕ, ◌+◌, ◌<◌, ◌≤◌, Bool, true, false, not, cond, ◌&&◌, ltb, leb, List, [], ◌∷◌, ◌++◌, length, take, drop, Option, Some, None, Result, Ok, Err, sum_by, refl, sym, ap, subst, ◌∙◌, inl, inr, arith, append_assoc, length-append, lt-ltb, le-ltb, ltb-false, leb-false, take-append-drop}
use Rattle.std.proofs.lemmas.Bool.{cases_lt, lt-leb}
use Rattle.std.proofs.lemmas.List.{length-take-le}
use Rattle.std.proofs.Math.Seq.{take-append_seam, drop-append_seam}
use Rattle.mj_base.specs.declared.limits.Limits.{Limits}
use Rattle.mj_base.specs.declared.reason.Reason.{Reason}
use Rattle.mj_base.specs.declared.reason.Reason.TheVariants.{BadHandshake, TooMany, TooLong}
use Rattle.mj_frame.specs.declared.head.Head.{Head}
use Rattle.mj_frame.specs.declared.head.HeadAnswer.{HeadAnswer}
use Rattle.mj_frame.specs.declared.head.HeadAnswer.TheVariants as answers
use Rattle.mj_frame.specs.FrameSpelling.{Frame, IsBytes, IsHead, head_of, IsFrame}
use Rattle.mj_frame.specs.HeadReading.{head_at}
use Rattle.mj_frame.proofs.HeadLemmas.{every_head_is_read, found_is_spelled, Reads, head_fits}
use Rattle.mj_handshake.specs.declared.socket_type.SocketType.{SocketType}
use Rattle.mj_handshake.specs.ReadyGrammar.{ready_of}
use Rattle.mj_wire.specs.declared.place.Place.{Place}
use Rattle.mj_wire.specs.declared.place.Stage.{Stage}
use Rattle.mj_wire.specs.declared.next.Next.{Next}
use Rattle.mj_wire.specs.declared.next.Next.TheVariants as next
use Rattle.mj_wire.specs.NextReading.{in_handshake, starts_message, is_too_long, head_fault, ready_next, body_next, whole_next, fault_or_whole, headed_next, answer_next, frame_next}
use Rattle.mj_wire.specs.StreamItems.{step_of}
use Rattle.mj_wire.specs.StreamFault.{reason_of, ready_fault, fault_by}

-- ---- a spelled frame stands next

abbrev pub unless_fault : Option Reason → Next → Next
unless_fault (Some reason) n = next.Fault reason 0
unless_fault None n = n

whole_body : (fault : Option Reason) (stage : Stage) (h : Head) (used : ℕ) (body others : List ℕ) → h.size ≡ length body
    → fault_or_whole fault stage h used (body ++ others) ≡ unless_fault fault (body_next stage h used body)
whole_body (Some reason) stage h used body others e = refl
whole_body None stage h used body others e =
    let t : ltb (length (body ++ others)) h.size ≡ false = le-ltb _ _ (omega (arith, length-append body others)) in
    ap (λ (b : Bool). cond b next.Wait (body_next stage h used (take h.size (body ++ others)))) t
    ∙ ap (λ (k : ℕ). body_next stage h used (take k (body ++ others))) e
    ∙ ap (λ (b : List ℕ). body_next stage h used b) (take-append_seam body others)

pub spelled_next : (limits : Limits) (p : Place) (f : Frame) (first others : List ℕ) → (s : IsFrame f first)
    → frame_next limits p (first ++ others) ≡ unless_fault (head_fault limits p (head_of f)) (body_next p.stage (head_of f) (length s.0) f.body)
unfolding frame_next
spelled_next limits p f first others (head, spelled, whole) =
    let front : first ++ others ≡ head ++ (f.body ++ others) = ap (λ (z : List ℕ). z ++ others) whole ∙ append_assoc head f.body others in
    ap (λ (o : List ℕ). answer_next (head_at o) limits p o) front
    ∙ ap (λ (a : HeadAnswer). answer_next a limits p (head ++ (f.body ++ others))) (every_head_is_read (head_of f) head (f.body ++ others) spelled)
    ∙ ap (λ (r : List ℕ). headed_next limits p (head_of f) (length head) r) (drop-append_seam head (f.body ++ others))
    ∙ whole_body (head_fault limits p (head_of f)) p.stage (head_of f) (length head) f.body others refl

-- ---- what is taken is a frame

pub record FoundFrame (limits : Limits) (p : Place) (octets : List ℕ) (n : Next) : Type 0 where
  pub frame : Frame
  pub first : List ℕ
  pub others : List ℕ
  pub spelled : IsFrame frame first
  pub whole : octets ≡ first ++ others
  pub fine : head_fault limits p (head_of frame) ≡ None
  pub used : ℕ
  pub found : n ≡ body_next p.stage (head_of frame) used frame.body

abbrev frame_with : Head → List ℕ → Frame
frame_with h body = record { more = h.more; command = h.command; body = body }

abbrev head_with : Head → ℕ → Head
head_with h size = record { more = h.more; command = h.command; size = size }

body_found : (limits : Limits) (p : Place) (octets : List ℕ) (n : Next) (h : Head) (used : ℕ) → (used ≤ length octets) × IsHead h (take used octets)
    → h.size ≤ length (drop used octets) → head_fault limits p h ≡ None → n ≡ body_next p.stage h used (take h.size (drop used octets)) → FoundFrame limits p octets n
body_found limits p octets n h used reads long fine e =
    let size : length (take h.size (drop used octets)) ≡ h.size = length-take-le h.size (drop used octets) long in
    let same : head_with h (length (take h.size (drop used octets))) ≡ h = ap (λ (k : ℕ). head_with h k) size in
    record {
      frame = frame_with h (take h.size (drop used octets));
      first = take used octets ++ take h.size (drop used octets);
      others = drop h.size (drop used octets);
      spelled = (take used octets, subst (λ (g : Head). IsHead g (take used octets)) (sym same) reads.1, refl);
      whole = sym (take-append-drop used octets) ∙ ap (λ (r : List ℕ). take used octets ++ r) (sym (take-append-drop h.size (drop used octets)))
          ∙ sym (append_assoc (take used octets) (take h.size (drop used octets)) (drop h.size (drop used octets)));
      fine = ap (λ (g : Head). head_fault limits p g) same ∙ fine;
      used = used;
      found = e ∙ ap (λ (g : Head). body_next p.stage g used (take h.size (drop used octets))) (sym same);
    }

head_found : (limits : Limits) (p : Place) (octets : List ℕ) (n : Next) (step : ℕ) (h : Head) (used : ℕ) → (used ≤ length octets) × IsHead h (take used octets)
    → (fault : Option Reason) → head_fault limits p h ≡ fault → fault_or_whole fault p.stage h used (drop used octets) ≡ n → step_of n ≡ Some step → FoundFrame limits p octets n
head_found limits p octets n step h used reads (Some reason) f e s = let none = ap step_of e in cc
head_found limits p octets n step h used reads None f e s =
    elim (cases_lt (length (drop used octets)) h.size) [
      | inl lt ↦
          let t : ltb (length (drop used octets)) h.size ≡ true = lt-ltb _ _ lt in
          let wait : next.Wait ≡ n = ap (λ (b : Bool). cond b next.Wait (body_next p.stage h used (take h.size (drop used octets)))) (sym t) ∙ e in
          let none = ap step_of wait in
          cc
      | inr le ↦
          let t : ltb (length (drop used octets)) h.size ≡ false = le-ltb _ _ le in
          let is : n ≡ body_next p.stage h used (take h.size (drop used octets)) = sym e ∙ ap (λ (b : Bool). cond b next.Wait (body_next p.stage h used (take h.size (drop used octets)))) t in
          body_found limits p octets n h used reads le f is
    ]

short_stops : (b : Bool) (n : Next) (step : ℕ) → cond b (next.Fault BadHandshake 0) next.Wait ≡ n → step_of n ≡ Some step → ⊥
short_stops true n step e s = let none = ap step_of e in cc
short_stops false n step e s = let none = ap step_of e in cc

answer_found : (limits : Limits) (p : Place) (octets : List ℕ) (n : Next) (step : ℕ) (answer : HeadAnswer) → Reads octets answer
    → answer_next answer limits p octets ≡ n → step_of n ≡ Some step → FoundFrame limits p octets n
answer_found limits p octets n step answers.BadFlags reads e s = let none = ap step_of e in cc
answer_found limits p octets n step answers.Short reads e s = absurd (short_stops (in_handshake p.stage && starts_message octets) n step e s)
answer_found limits p octets n step (answers.Head h used) reads e s = head_found limits p octets n step h used reads (head_fault limits p h) refl e s

pub frame_found : (limits : Limits) (p : Place) (octets : List ℕ) (n : Next) (step : ℕ) → IsBytes octets → frame_next limits p octets ≡ n → step_of n ≡ Some step
    → FoundFrame limits p octets n
unfolding frame_next
frame_found limits p octets n step bytes e s = answer_found limits p octets n step (head_at octets) (found_is_spelled octets bytes) e s

-- ---- the faults of a head, by its fields

abbrev pub fields_fault : Limits → Bool → Bool → ℕ → ℕ → ℕ → Option Reason
fields_fault limits first command count octets size =
    cond (first && not command) (Some BadHandshake)
    (cond (not command && leb limits.frames count) (Some TooMany) (cond (cond command (ltb limits.command size) (ltb limits.message (octets + size))) (Some TooLong) None))

pub fields_are : (limits : Limits) (p : Place) (h : Head) → head_fault limits p h ≡ fields_fault limits (in_handshake p.stage) h.command (length p.group) (sum_by length p.group) h.size
fields_are limits p h = refl

pub command_fine : (limits : Limits) (first : Bool) (count octets size : ℕ) → size ≤ limits.command → fields_fault limits first true count octets size ≡ None
command_fine limits true count octets size l = let t : ltb limits.command size ≡ false = le-ltb _ _ l in rw t refl
command_fine limits false count octets size l = let t : ltb limits.command size ≡ false = le-ltb _ _ l in rw t refl

pub message_fine : (limits : Limits) (count octets size : ℕ) → count < limits.frames → octets + size ≤ limits.message → fields_fault limits false false count octets size ≡ None
message_fine limits count octets size few l =
    let t : leb limits.frames count ≡ false = lt-leb limits.frames count few in
    let u : ltb limits.message (octets + size) ≡ false = le-ltb _ _ l in
    rw t (rw u refl)

some_none : (b : Bool) (reason : Reason) → cond b (Some reason) None ≡ None → b ≡ false
some_none true reason e = cc
some_none false reason e = refl

both_none : (a b : Bool) (first second : Reason) → cond a (Some first) (cond b (Some second) None) ≡ None → (a ≡ false) × (b ≡ false)
both_none true b first second e = cc
both_none false b first second e = (refl, some_none b second e)

pub command_small : (limits : Limits) (first : Bool) (count octets size : ℕ) → fields_fault limits first true count octets size ≡ None → size ≤ limits.command
command_small limits true count octets size e = ltb-false _ _ (some_none (ltb limits.command size) TooLong e)
command_small limits false count octets size e = ltb-false _ _ (some_none (ltb limits.command size) TooLong e)

pub message_small : (limits : Limits) (count octets size : ℕ) → fields_fault limits false false count octets size ≡ None → (count < limits.frames) × (octets + size ≤ limits.message)
message_small limits count octets size e =
    let b = both_none (leb limits.frames count) (ltb limits.message (octets + size)) TooMany TooLong e in
    (leb-false limits.frames count b.0, ltb-false _ _ b.1)

-- in READY's place a frame without a fault is a command, and has none elsewhere
pub first_is_command : (limits : Limits) (command : Bool) (count octets size : ℕ) → fields_fault limits true command count octets size ≡ None
    → (command ≡ true) × (fields_fault limits false command count octets size ≡ None)
first_is_command limits true count octets size e = (refl, e)
first_is_command limits false count octets size e = cc

-- ---- the table of faults

abbrev pub fault_in : Next → Option Reason
fault_in next.Wait = None
fault_in (next.Fault reason at) = Some reason
fault_in next.Greeting = None
fault_in (next.Ready kind end) = None
fault_in (next.Command end) = None
fault_in (next.Frame more start end) = None

short_row : (a b : Bool) → fault_in (cond (a && b) (next.Fault BadHandshake 0) next.Wait) ≡ cond (a && b) (Some BadHandshake) (cond a None None)
short_row true true = refl
short_row true false = refl
short_row false true = refl
short_row false false = refl

head_rows : (a b c : Bool) (stage : Stage) (h : Head) (used : ℕ) (rest : List ℕ)
    → fault_in (fault_or_whole (cond a (Some BadHandshake) (cond b (Some TooMany) (cond c (Some TooLong) None))) stage h used rest)
    ≡ cond a (Some BadHandshake) (cond b (Some TooMany) (cond c (Some TooLong) (fault_in (whole_next stage h used rest))))
head_rows true b c stage h used rest = refl
head_rows false true c stage h used rest = refl
head_rows false false true stage h used rest = refl
head_rows false false false stage h used rest = refl

ready_row : (short first command more : Bool) (answer : Result SocketType Reason) (used end : ℕ)
    → fault_in (cond short next.Wait (cond first (ready_next answer end) (cond command (next.Command end) (next.Frame more used end))))
    ≡ cond first (cond short None (reason_of answer)) None
ready_row true true command more answer used end = refl
ready_row true false command more answer used end = refl
ready_row false true command more (Ok kind) used end = refl
ready_row false true command more (Err reason) used end = refl
ready_row false false true more answer used end = refl
ready_row false false false more answer used end = refl

starts_as : (octets : List ℕ) (h : Head) (n : ℕ) → head_at octets ≡ answers.Head h n → starts_message octets ≡ not h.command
unfolding head_at
starts_as [] h n e = cc
starts_as (o ∷ rest) h n e = (head_fits o rest h n e).1.1

answer_fault : (limits : Limits) (p : Place) (octets : List ℕ) (answer : HeadAnswer) → head_at octets ≡ answer
    → fault_in (answer_next answer limits p octets) ≡ fault_by limits (in_handshake p.stage) p.group octets answer
answer_fault limits p octets answers.BadFlags e = refl
answer_fault limits p octets answers.Short e = short_row (in_handshake p.stage) (starts_message octets)
answer_fault limits p octets (answers.Head h n) e =
    head_rows (in_handshake p.stage && not h.command) (not h.command && leb limits.frames (length p.group)) (is_too_long limits (sum_by length p.group) h) p.stage h n (drop n octets)
    ∙ ap (λ (x : Option Reason). cond (in_handshake p.stage && not h.command) (Some BadHandshake)
    (cond (not h.command && leb limits.frames (length p.group)) (Some TooMany) (cond (is_too_long limits (sum_by length p.group) h) (Some TooLong) x)))
    (ready_row (ltb (length (drop n octets)) h.size) (in_handshake p.stage) h.command h.more (ready_of (take h.size (drop n octets))) n (n + length (take h.size (drop n octets))))
    ∙ ap (λ (b : Bool). cond (in_handshake p.stage && b) (Some BadHandshake)
    (cond (not h.command && leb limits.frames (length p.group)) (Some TooMany) (cond (is_too_long limits (sum_by length p.group) h) (Some TooLong)
    (cond (in_handshake p.stage) (ready_fault octets (answers.Head h n)) None)))) (sym (starts_as octets h n e))

pub frame_fault : (limits : Limits) (p : Place) (octets : List ℕ) → fault_in (frame_next limits p octets) ≡ fault_by limits (in_handshake p.stage) p.group octets (head_at octets)
unfolding frame_next
frame_fault limits p octets = answer_fault limits p octets (head_at octets) refl

-- a frame's fault is at its first byte
abbrev pub AtFront : Next → Type 0
AtFront next.Wait = Unit {0}
AtFront (next.Fault reason at) = at ≡ 0
AtFront next.Greeting = Unit {0}
AtFront (next.Ready kind end) = Unit {0}
AtFront (next.Command end) = Unit {0}
AtFront (next.Frame more start end) = Unit {0}

cond_front : (b : Bool) (m n : Next) → AtFront m → AtFront n → AtFront (cond b m n)
cond_front true m n a b = a
cond_front false m n a b = b

ready_front : (answer : Result SocketType Reason) (end : ℕ) → AtFront (ready_next answer end)
ready_front (Ok kind) end = tt
ready_front (Err reason) end = refl

fault_front : (fault : Option Reason) (stage : Stage) (h : Head) (used : ℕ) (rest : List ℕ) → AtFront (fault_or_whole fault stage h used rest)
fault_front (Some reason) stage h used rest = refl
fault_front None stage h used rest =
    cond_front (ltb (length rest) h.size) _ _ tt (cond_front (in_handshake stage) _ _ (ready_front (ready_of (take h.size rest)) (used + length (take h.size rest))) (cond_front h.command _ _ tt tt))

answer_front : (limits : Limits) (p : Place) (octets : List ℕ) (answer : HeadAnswer) → AtFront (answer_next answer limits p octets)
answer_front limits p octets answers.BadFlags = refl
answer_front limits p octets answers.Short = cond_front (in_handshake p.stage && starts_message octets) (next.Fault BadHandshake 0) next.Wait refl tt
answer_front limits p octets (answers.Head h n) = fault_front (head_fault limits p h) p.stage h n (drop n octets)

pub frame_front : (limits : Limits) (p : Place) (octets : List ℕ) → AtFront (frame_next limits p octets)
unfolding frame_next
frame_front limits p octets = answer_front limits p octets (head_at octets)
