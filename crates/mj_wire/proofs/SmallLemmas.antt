-- Each message of a stream is within the limits.
use Rattle.std.proofs.Common.{◌≡◌, ℕ, zero, suc, ◌+◌, ◌-◌, ◌≤◌, Bool, true, false, cond, ◌&&◌, ltb, List, [], ◌∷◌, ◌++◌, length, take, drop, Option, Some, None, Result, Ok, Err, sum_by, refl, ap, subst, ◌∙◌, arith, ltb-false}
use Rattle.std.proofs.lemmas.List.{length-take-le}
use Rattle.mj_base.specs.declared.limits.Limits.{Limits}
use Rattle.mj_base.specs.declared.reason.Reason.{Reason}
use Rattle.mj_base.specs.declared.reason.Reason.TheVariants.{BadHandshake}
use Rattle.mj_frame.specs.declared.head.Head.{Head}
use Rattle.mj_frame.specs.declared.head.HeadAnswer.{HeadAnswer}
use Rattle.mj_frame.specs.declared.head.HeadAnswer.TheVariants as answers
use Rattle.mj_frame.specs.HeadReading.{head_at}
use Rattle.mj_greeting.specs.declared.greeting.GreetingFault.{GreetingFault}
use Rattle.mj_greeting.specs.GreetingGrammar.{fault_of}
use Rattle.mj_handshake.specs.declared.socket_type.SocketType.{SocketType}
use Rattle.mj_handshake.specs.ReadyGrammar.{ready_of}
use Rattle.mj_wire.specs.declared.item.WireItem.{WireItem}
use Rattle.mj_wire.specs.declared.place.Place.{Place}
use Rattle.mj_wire.specs.declared.place.Stage.{Stage}
use Rattle.mj_wire.specs.declared.place.Stage.TheVariants as stages
use Rattle.mj_wire.specs.declared.next.Next.{Next}
use Rattle.mj_wire.specs.declared.next.Next.TheVariants as next
use Rattle.mj_wire.specs.NextReading.{in_handshake, starts_message, head_fault, ready_next, body_next, fault_or_whole, answer_next, frame_next, fault_or_greeting, stage_next, next_of}
use Rattle.mj_wire.specs.StreamItems.{items_of, behind, body_of, items_from, items_within, place_after, step_of}
use Rattle.mj_wire.specs.SmallItems.{AddsSmall, AreSmallItems}
use Rattle.mj_wire.specs.WireState.{IsReadOut}
use Rattle.mj_wire.proofs.FrameLemmas.{fields_fault, message_small}
use Rattle.mj_wire.proofs.CutLemmas.{grow}
use Rattle.mj_wire.proofs.WireLemmas.{read_out}

-- ---- what stands next

-- what this says of a place and its bytes
abbrev Small : Limits → Place → List ℕ → Next → Type 0
Small limits p octets n = AreSmallItems limits (items_of p octets n)

body_fits : (p : Place) (used size : ℕ) (octets : List ℕ) → size ≤ length (drop used octets)
    → length (body_of used (used + length (take size (drop used octets))) octets) ≡ size
body_fits p used size octets long =
    let t : length (take size (drop used octets)) ≡ size = length-take-le size (drop used octets) long in
    let e : (used + length (take size (drop used octets))) - used ≡ size = omega (arith, t) in
    ap (λ (k : ℕ). length (take k (drop used octets))) e ∙ t

frame_small : (limits : Limits) (p : Place) (octets : List ℕ) (h : Head) (used : ℕ) → h.size ≤ length (drop used octets) → (more : Bool)
    → fields_fault limits false false (length p.group) (sum_by length p.group) h.size ≡ None
    → Small limits p octets (next.Frame more used (used + length (take h.size (drop used octets))))
frame_small limits p octets h used long true fine = tt
frame_small limits p octets h used long false fine =
    let body = body_of used (used + length (take h.size (drop used octets))) octets in
    let l = message_small limits (length p.group) (sum_by length p.group) h.size fine in
    let f : length body ≡ h.size = body_fits p used h.size octets long in
    (grow limits p.group body l.0 (omega (arith, l.1, f)), tt)

ready_small : (limits : Limits) (p : Place) (octets : List ℕ) (read : Result SocketType Reason) (end : ℕ) → Small limits p octets (ready_next read end)
ready_small limits p octets (Ok kind) end = (tt, tt)
ready_small limits p octets (Err reason) end = (tt, tt)

body_small_by : (limits : Limits) (p : Place) (octets : List ℕ) (h : Head) (used : ℕ) → h.size ≤ length (drop used octets) → (first command : Bool)
    → fields_fault limits first command (length p.group) (sum_by length p.group) h.size ≡ None
    → Small limits p octets (cond first (ready_next (ready_of (take h.size (drop used octets))) (used + length (take h.size (drop used octets))))
    (cond command (next.Command (used + length (take h.size (drop used octets)))) (next.Frame h.more used (used + length (take h.size (drop used octets))))))
body_small_by limits p octets h used long true command fine = ready_small limits p octets (ready_of (take h.size (drop used octets))) (used + length (take h.size (drop used octets)))
body_small_by limits p octets h used long false true fine = tt
body_small_by limits p octets h used long false false fine = frame_small limits p octets h used long h.more fine

whole_small_by : (limits : Limits) (p : Place) (octets : List ℕ) (h : Head) (used : ℕ) → head_fault limits p h ≡ None → (short : Bool) → ltb (length (drop used octets)) h.size ≡ short
    → Small limits p octets (cond short next.Wait (body_next p.stage h used (take h.size (drop used octets))))
whole_small_by limits p octets h used fine true e = tt
whole_small_by limits p octets h used fine false e = body_small_by limits p octets h used (ltb-false _ _ e) (in_handshake p.stage) h.command fine

headed_small : (limits : Limits) (p : Place) (octets : List ℕ) (h : Head) (used : ℕ) (fault : Option Reason) → head_fault limits p h ≡ fault
    → Small limits p octets (fault_or_whole fault p.stage h used (drop used octets))
headed_small limits p octets h used (Some reason) e = (tt, tt)
headed_small limits p octets h used None e = whole_small_by limits p octets h used e (ltb (length (drop used octets)) h.size) refl

short_small : (limits : Limits) (p : Place) (octets : List ℕ) (b : Bool) → Small limits p octets (cond b (next.Fault BadHandshake 0) next.Wait)
short_small limits p octets true = (tt, tt)
short_small limits p octets false = tt

answer_small : (limits : Limits) (p : Place) (octets : List ℕ) (answer : HeadAnswer) → Small limits p octets (answer_next answer limits p octets)
answer_small limits p octets answers.BadFlags = (tt, tt)
answer_small limits p octets answers.Short = short_small limits p octets (in_handshake p.stage && starts_message octets)
answer_small limits p octets (answers.Head h used) = headed_small limits p octets h used (head_fault limits p h) refl

frame_next_small : (limits : Limits) (p : Place) (octets : List ℕ) → Small limits p octets (frame_next limits p octets)
unfolding frame_next
frame_next_small limits p octets = answer_small limits p octets (head_at octets)

greeting_whole_small : (limits : Limits) (p : Place) (octets : List ℕ) (b : Bool) → Small limits p octets (cond b next.Wait next.Greeting)
greeting_whole_small limits p octets true = tt
greeting_whole_small limits p octets false = (tt, tt)

greeting_small : (limits : Limits) (p : Place) (octets : List ℕ) (fault : Option GreetingFault) → Small limits p octets (fault_or_greeting fault octets)
greeting_small limits p octets (Some fault) = (tt, tt)
greeting_small limits p octets None = greeting_whole_small limits p octets (ltb (length octets) 64)

stage_small : (limits : Limits) (p : Place) (octets : List ℕ) (stage : Stage) → Small limits p octets (stage_next stage limits p octets)
stage_small limits p octets stages.Greeting = greeting_small limits p octets (fault_of (take 64 octets))
stage_small limits p octets stages.Handshake = frame_next_small limits p octets
stage_small limits p octets stages.Open = frame_next_small limits p octets
stage_small limits p octets stages.Ended = tt

next_small : (limits : Limits) (p : Place) (octets : List ℕ) → Small limits p octets (next_of limits p octets)
unfolding next_of
next_small limits p octets = stage_small limits p octets p.stage

-- ---- all of them

joined_small : (limits : Limits) (some others : List WireItem) → AreSmallItems limits some → AreSmallItems limits others → AreSmallItems limits (some ++ others)
joined_small limits [] others s t = t
joined_small limits (i ∷ some) others s t = (s.0, joined_small limits some others s.1 t)

behind_small : (limits : Limits) (k : ℕ) → ((p : Place) (octets : List ℕ) → AreSmallItems limits (items_within k limits p octets)) → (p : Place) (octets : List ℕ) (step : Option ℕ)
    → AreSmallItems limits (behind (λ q rest. items_within k limits q rest) p octets step)
behind_small limits k all p octets None = tt
behind_small limits k all p octets (Some step) = all p (drop step octets)

within_small : (k : ℕ) (limits : Limits) (p : Place) (octets : List ℕ) → AreSmallItems limits (items_within k limits p octets)
unfolding items_within
within_small zero limits p octets = tt
within_small (suc k) limits p octets =
    let n = next_of limits p octets in
    joined_small limits (items_of p octets n) (behind (λ q rest. items_within k limits q rest) (place_after p octets n) octets (step_of n)) (next_small limits p octets)
    (behind_small limits k (λ q rest. within_small k limits q rest) (place_after p octets n) octets (step_of n))

items_small : (limits : Limits) (p : Place) (octets : List ℕ) → AreSmallItems limits (items_from limits p octets)
unfolding items_from
items_small limits p octets = within_small (length octets) limits p octets

-- what a piece adds
pub adds_small : (limits : Limits) (p q : Place) (octets rest : List ℕ) (before now : List WireItem) → IsReadOut limits p octets before q rest now → AddsSmall limits before now
adds_small limits p q octets rest before now read =
    (read.0.added, read.0.grown, subst (λ (found : List WireItem). AreSmallItems limits found) (read_out limits p q octets rest before now read.0 read.1) (items_small limits p octets))
