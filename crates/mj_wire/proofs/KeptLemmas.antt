-- What a wire keeps: within the limits, and no more than it was fed.
use Rattle.std.proofs.Common.{◌≡◌, ℕ, zero, suc, ◌+◌, ◌-◌, ◌*◌, ◌<◌, ◌≤◌, ◌⊎◌, Bool, true, false, cond, ◌&&◌, ltb, List, [], ◌∷◌, ◌++◌, length, take, drop, Option, Some, None, Result, Ok, Err, sum_by, refl, sym, ap, subst, ◌∙◌, inl, inr, arith, length-append, length-drop, ltb-false, ltb-true, le-ltb}
use Rattle.std.proofs.lemmas.Bool.{cases_lt}
use Rattle.std.proofs.lemmas.List.{length-take-le}
use Rattle.std.proofs.lemmas.List.Sums.{sum_by-append}
use Rattle.mj_base.specs.KeptWeight.{weight_of}
use Rattle.mj_base.specs.declared.limits.Limits.{Limits}
use Rattle.mj_base.specs.declared.reason.Reason.{Reason}
use Rattle.mj_base.specs.declared.reason.Reason.TheVariants.{BadFlags, BadHandshake}
use Rattle.mj_frame.specs.declared.head.Head.{Head}
use Rattle.mj_frame.specs.declared.head.HeadAnswer.{HeadAnswer}
use Rattle.mj_frame.specs.declared.head.HeadAnswer.TheVariants as answers
use Rattle.mj_frame.specs.HeadReading.{kind_of, short_size, long_size, head_from, head_behind, head_at}
use Rattle.std.specs.Int.{from_be_bytes, w64}
use Rattle.mj_greeting.specs.declared.greeting.GreetingFault.{GreetingFault}
use Rattle.mj_greeting.specs.GreetingGrammar.{fault_of}
use Rattle.mj_handshake.specs.declared.socket_type.SocketType.{SocketType}
use Rattle.mj_handshake.specs.ReadyGrammar.{ready_of}
use Rattle.mj_wire.specs.declared.item.WireItem.{WireItem}
use Rattle.mj_wire.specs.declared.place.Place.{Place}
use Rattle.mj_wire.specs.declared.place.Stage.{Stage}
use Rattle.mj_wire.specs.declared.place.Stage.TheVariants as stages
use Rattle.mj_wire.specs.declared.next.Next.{Next}
use Rattle.mj_wire.specs.declared.next.Next.TheVariants as next
use Rattle.mj_wire.specs.NextReading.{in_handshake, has_ended, starts_message, head_fault, ready_next, body_next, fault_or_whole, answer_next, frame_next, fault_or_greeting, stage_next, next_of}
use Rattle.mj_wire.specs.StreamCuts.{IsSmallMessage}
use Rattle.mj_wire.specs.StreamItems.{items_of, body_of, place_after, step_of}
use Rattle.mj_wire.specs.KeptByWire.{most_kept, weight_of_item, weight_of_items, reserved, IsTidy, IsLight, Weighs}
use Rattle.mj_wire.proofs.FrameLemmas.{fields_fault, command_small, message_small}
use Rattle.mj_wire.proofs.CutLemmas.{grow}

-- ---- heads

-- how long a head is, and bytes that are none yet
abbrev HasSize : List ℕ → HeadAnswer → Type 0
HasSize octets answers.BadFlags = Unit {0}
HasSize octets answers.Short = length octets ≤ 8
HasSize octets (answers.Head h n) = (2 ≤ n) × (n ≤ 9)

nine_long : (2 ≤ 9) × (9 ≤ 9)
nine_long = (omega arith, omega arith)

two_long : (2 ≤ 2) × (2 ≤ 9)
two_long = (omega arith, omega arith)

long_none : (rest : List ℕ) → long_size rest ≡ None → length rest ≤ 7
long_none rest e =
    elim (cases_lt (length rest) 8) [
      | inl lt ↦ omega (arith, lt)
      | inr le ↦
          let t : ltb (length rest) 8 ≡ false = le-ltb _ _ le in
          let n : long_size rest ≡ Some (from_be_bytes w64 (take 8 rest)) = rw t refl in
          cc
    ]

long_by : (o : ℕ) (rest : List ℕ) (f : Option ℕ → HeadAnswer) → f None ≡ answers.Short → ((size : ℕ) → HasSize (o ∷ rest) (f (Some size))) → (size : Option ℕ) → long_size rest ≡ size
    → HasSize (o ∷ rest) (f size)
long_by o rest f n s None e = let l = long_none rest e in subst (λ (a : HeadAnswer). HasSize (o ∷ rest) a) (sym n) (omega (arith, l))
long_by o rest f n s (Some size) e = s size

short_by : (o : ℕ) (rest : List ℕ) (f : Option ℕ → HeadAnswer) → f None ≡ answers.Short → ((size : ℕ) → HasSize (o ∷ rest) (f (Some size))) → HasSize (o ∷ rest) (f (short_size rest))
short_by o [] f n s = subst (λ (a : HeadAnswer). HasSize (o ∷ []) a) (sym n) (omega arith)
short_by o (size ∷ rest) f n s = s size

byte_size : (o : ℕ) (rest : List ℕ) → HasSize (o ∷ rest) (head_behind (kind_of o) rest)
byte_size zero rest = short_by 0 rest (λ s. head_from (record { more = false; long = false; command = false }) s) refl (λ size. two_long)
byte_size (suc zero) rest = short_by 1 rest (λ s. head_from (record { more = true; long = false; command = false }) s) refl (λ size. two_long)
byte_size (suc (suc zero)) rest = long_by 2 rest (λ s. head_from (record { more = false; long = true; command = false }) s) refl (λ size. nine_long) (long_size rest) refl
byte_size (suc (suc (suc zero))) rest = long_by 3 rest (λ s. head_from (record { more = true; long = true; command = false }) s) refl (λ size. nine_long) (long_size rest) refl
byte_size (suc (suc (suc (suc zero)))) rest = short_by 4 rest (λ s. head_from (record { more = false; long = false; command = true }) s) refl (λ size. two_long)
byte_size (suc (suc (suc (suc (suc zero))))) rest = tt
byte_size (suc (suc (suc (suc (suc (suc zero)))))) rest = long_by 6 rest (λ s. head_from (record { more = false; long = true; command = true }) s) refl (λ size. nine_long) (long_size rest) refl
byte_size (suc (suc (suc (suc (suc (suc (suc o))))))) rest = tt

head_size : (octets : List ℕ) → HasSize octets (head_at octets)
unfolding head_at
head_size [] = omega arith
head_size (o ∷ rest) = byte_size o rest

size_at : (octets : List ℕ) (answer : HeadAnswer) → head_at octets ≡ answer → HasSize octets answer
size_at octets answer e = subst (λ (a : HeadAnswer). HasSize octets a) e (head_size octets)

-- ---- a step

-- what a step's bytes count
abbrev paid : Option ℕ → ℕ
paid None = 0
paid (Some step) = 17 * step

abbrev Fits : Limits → Place → List ℕ → Next → Type 0
Fits limits p octets n =
    (IsTidy limits p → IsTidy limits (place_after p octets n))
    × (weight_of_items (items_of p octets n) + weight_of (place_after p octets n).group ≤ weight_of p.group + paid (step_of n))

none_small : (limits : Limits) → IsSmallMessage limits []
none_small limits = (omega arith, omega arith)

wait_fits : (limits : Limits) (p : Place) (octets : List ℕ) → Fits limits p octets next.Wait
wait_fits limits p octets = (λ t. t, omega arith)

fault_fits : (limits : Limits) (p : Place) (octets : List ℕ) (reason : Reason) (at : ℕ) → Fits limits p octets (next.Fault reason at)
fault_fits limits p octets reason at = (λ t. (none_small limits, λ e. refl), omega arith)

greeting_fits : (limits : Limits) (p : Place) (octets : List ℕ) → Fits limits p octets next.Greeting
greeting_fits limits p octets = (λ t. (t.0, λ e. cc), omega arith)

command_fits : (limits : Limits) (p : Place) (octets : List ℕ) (end : ℕ) → Fits limits p octets (next.Command end)
command_fits limits p octets end = (λ t. (t.0, λ e. cc), omega arith)

ready_fits : (limits : Limits) (p : Place) (octets : List ℕ) (read : Result SocketType Reason) (end : ℕ) → Fits limits p octets (ready_next read end)
ready_fits limits p octets (Ok kind) end = (λ t. (t.0, λ e. cc), omega arith)
ready_fits limits p octets (Err reason) end = fault_fits limits p octets reason 0

body_fits : (used size : ℕ) (octets : List ℕ) → size ≤ length (drop used octets)
    → length (body_of used (used + length (take size (drop used octets))) octets) ≡ size
body_fits used size octets long =
    let t : length (take size (drop used octets)) ≡ size = length-take-le size (drop used octets) long in
    let e : (used + length (take size (drop used octets))) - used ≡ size = omega (arith, t) in
    ap (λ (k : ℕ). length (take k (drop used octets))) e ∙ t

grown_weight : (group : List (List ℕ)) (body : List ℕ) → weight_of (group ++ body ∷ []) ≡ weight_of group + length body + 32
grown_weight group body =
    let l = length-append group (body ∷ []) in
    let o = sum_by-append length group (body ∷ []) in
    omega (arith, l, o)

frame_by : (limits : Limits) (p : Place) (octets : List ℕ) (used end : ℕ) → IsSmallMessage limits (p.group ++ body_of used end octets ∷ []) → length (body_of used end octets) + 2 ≤ end → (more : Bool)
    → Fits limits p octets (next.Frame more used end)
frame_by limits p octets used end small paid true =
    let w = grown_weight p.group (body_of used end octets) in
    (λ t. (small, λ e. cc), omega (arith, w, paid))
frame_by limits p octets used end small paid false =
    let w = grown_weight p.group (body_of used end octets) in
    (λ t. (none_small limits, λ e. cc), omega (arith, w, paid))

frame_fits : (limits : Limits) (p : Place) (octets : List ℕ) (h : Head) (used : ℕ) → 2 ≤ used → h.size ≤ length (drop used octets) → (more : Bool)
    → fields_fault limits false false (length p.group) (sum_by length p.group) h.size ≡ None
    → Fits limits p octets (next.Frame more used (used + length (take h.size (drop used octets))))
frame_fits limits p octets h used two long more fine =
    let body = body_of used (used + length (take h.size (drop used octets))) octets in
    let t : length (take h.size (drop used octets)) ≡ h.size = length-take-le h.size (drop used octets) long in
    let l = message_small limits (length p.group) (sum_by length p.group) h.size fine in
    let f : length body ≡ h.size = body_fits used h.size octets long in
    frame_by limits p octets used (used + length (take h.size (drop used octets))) (grow limits p.group body l.0 (omega (arith, l.1, f))) (omega (arith, f, two, t)) more

body_fits_by : (limits : Limits) (p : Place) (octets : List ℕ) (h : Head) (used : ℕ) → 2 ≤ used → h.size ≤ length (drop used octets) → (first command : Bool)
    → fields_fault limits first command (length p.group) (sum_by length p.group) h.size ≡ None
    → Fits limits p octets (cond first (ready_next (ready_of (take h.size (drop used octets))) (used + length (take h.size (drop used octets))))
    (cond command (next.Command (used + length (take h.size (drop used octets)))) (next.Frame h.more used (used + length (take h.size (drop used octets))))))
body_fits_by limits p octets h used two long true command fine = ready_fits limits p octets (ready_of (take h.size (drop used octets))) (used + length (take h.size (drop used octets)))
body_fits_by limits p octets h used two long false true fine = command_fits limits p octets (used + length (take h.size (drop used octets)))
body_fits_by limits p octets h used two long false false fine = frame_fits limits p octets h used two long h.more fine

whole_fits_by : (limits : Limits) (p : Place) (octets : List ℕ) (h : Head) (used : ℕ) → 2 ≤ used → head_fault limits p h ≡ None → (short : Bool) → ltb (length (drop used octets)) h.size ≡ short
    → Fits limits p octets (cond short next.Wait (body_next p.stage h used (take h.size (drop used octets))))
whole_fits_by limits p octets h used two fine true e = wait_fits limits p octets
whole_fits_by limits p octets h used two fine false e = body_fits_by limits p octets h used two (ltb-false _ _ e) (in_handshake p.stage) h.command fine

headed_fits : (limits : Limits) (p : Place) (octets : List ℕ) (h : Head) (used : ℕ) → 2 ≤ used → (fault : Option Reason) → head_fault limits p h ≡ fault
    → Fits limits p octets (fault_or_whole fault p.stage h used (drop used octets))
headed_fits limits p octets h used two (Some reason) e = fault_fits limits p octets reason 0
headed_fits limits p octets h used two None e = whole_fits_by limits p octets h used two e (ltb (length (drop used octets)) h.size) refl

short_fits : (limits : Limits) (p : Place) (octets : List ℕ) (b : Bool) → Fits limits p octets (cond b (next.Fault BadHandshake 0) next.Wait)
short_fits limits p octets true = fault_fits limits p octets BadHandshake 0
short_fits limits p octets false = wait_fits limits p octets

answer_fits : (limits : Limits) (p : Place) (octets : List ℕ) (answer : HeadAnswer) → head_at octets ≡ answer → Fits limits p octets (answer_next answer limits p octets)
answer_fits limits p octets answers.BadFlags e = fault_fits limits p octets BadFlags 0
answer_fits limits p octets answers.Short e = short_fits limits p octets (in_handshake p.stage && starts_message octets)
answer_fits limits p octets (answers.Head h used) e = headed_fits limits p octets h used (size_at octets (answers.Head h used) e).0 (head_fault limits p h) refl

frame_next_fits : (limits : Limits) (p : Place) (octets : List ℕ) → Fits limits p octets (frame_next limits p octets)
unfolding frame_next
frame_next_fits limits p octets = answer_fits limits p octets (head_at octets) refl

greeting_whole_fits : (limits : Limits) (p : Place) (octets : List ℕ) (b : Bool) → Fits limits p octets (cond b next.Wait next.Greeting)
greeting_whole_fits limits p octets true = wait_fits limits p octets
greeting_whole_fits limits p octets false = greeting_fits limits p octets

greeting_next_fits : (limits : Limits) (p : Place) (octets : List ℕ) (fault : Option GreetingFault) → Fits limits p octets (fault_or_greeting fault octets)
greeting_next_fits limits p octets (Some fault) = fault_fits limits p octets fault.reason fault.at
greeting_next_fits limits p octets None = greeting_whole_fits limits p octets (ltb (length octets) 64)

stage_fits : (limits : Limits) (p : Place) (octets : List ℕ) (stage : Stage) → Fits limits p octets (stage_next stage limits p octets)
stage_fits limits p octets stages.Greeting = greeting_next_fits limits p octets (fault_of (take 64 octets))
stage_fits limits p octets stages.Handshake = frame_next_fits limits p octets
stage_fits limits p octets stages.Open = frame_next_fits limits p octets
stage_fits limits p octets stages.Ended = wait_fits limits p octets

next_fits : (limits : Limits) (p : Place) (octets : List ℕ) → Fits limits p octets (next_of limits p octets)
unfolding next_of
next_fits limits p octets = stage_fits limits p octets p.stage

-- ---- steps

pub weighs_none : (limits : Limits) (p : Place) (before : List WireItem) → Weighs limits p before p before 0
weighs_none limits p before = record { tidy = λ t. t; weight = omega arith }

weighs_step : (limits : Limits) (p q q' : Place) (rest : List ℕ) (used : ℕ) (before now later : List WireItem) (n : Next)
    → Weighs limits p before q now used → n ≡ next_of limits q rest → q' ≡ place_after q rest n → later ≡ now ++ items_of q rest n
    → (IsTidy limits p → IsTidy limits q') × (weight_of_items later + weight_of q'.group ≤ weight_of_items before + weight_of p.group + 17 * used + paid (step_of n))
weighs_step limits p q q' rest used before now later n k e pl l =
    let f = subst (λ (m : Next). Fits limits q rest m) (sym e) (next_fits limits q rest) in
    let w = sum_by-append weight_of_item now (items_of q rest n) in
    let g : weight_of_items later ≡ weight_of_items (now ++ items_of q rest n) = ap weight_of_items l in
    let d : weight_of q'.group ≡ weight_of (place_after q rest n).group = ap (λ (x : Place). weight_of x.group) pl in
    (λ t. subst (λ (x : Place). IsTidy limits x) (sym pl) (f.0 (k.tidy t)), omega (arith, w, g, d, f.1, k.weight))

pub weighs_more : (limits : Limits) (p q q' : Place) (rest : List ℕ) (used step : ℕ) (before now later : List WireItem) (n : Next) (found : Option ℕ)
    → Weighs limits p before q now used → n ≡ next_of limits q rest → found ≡ step_of n → found ≡ Some step → q' ≡ place_after q rest n → later ≡ now ++ items_of q rest n
    → Weighs limits p before q' later (used + step)
weighs_more limits p q q' rest used step before now later n found k e f s pl l =
    let w = weighs_step limits p q q' rest used before now later n k e pl l in
    let c : paid (step_of n) ≡ 17 * step = ap paid (sym f ∙ s) in
    record { tidy = w.0; weight = omega (arith, w.1, c) }

pub weighs_end : (limits : Limits) (p q q' : Place) (rest : List ℕ) (used : ℕ) (before now later : List WireItem) (n : Next) (found : Option ℕ)
    → Weighs limits p before q now used → n ≡ next_of limits q rest → found ≡ step_of n → found ≡ None → q' ≡ place_after q rest n → later ≡ now ++ items_of q rest n
    → Weighs limits p before q' later used
weighs_end limits p q q' rest used before now later n found k e f s pl l =
    let w = weighs_step limits p q q' rest used before now later n k e pl l in
    let c : paid (step_of n) ≡ 0 = ap paid (sym f ∙ s) in
    record { tidy = w.0; weight = omega (arith, w.1, c) }

-- ---- where reading stops

stops : (limits : Limits) (q : Place) (rest : List ℕ) (n : Next) → next_of limits q rest ≡ n → step_of n ≡ None → next_of limits (place_after q rest n) rest ≡ next.Wait
unfolding next_of
stops limits q rest next.Wait e s = e
stops limits q rest (next.Fault reason at) e s = refl
stops limits q rest next.Greeting e s = cc
stops limits q rest (next.Ready kind end) e s = cc
stops limits q rest (next.Command end) e s = cc
stops limits q rest (next.Frame m from end) e s = cc

pub stops_here : (limits : Limits) (q q' : Place) (octets rest : List ℕ) (used : ℕ) (n : Next) (found : Option ℕ) → rest ≡ drop used octets
    → n ≡ next_of limits q rest → found ≡ step_of n → found ≡ None → q' ≡ place_after q rest n → next_of limits q' (drop used octets) ≡ next.Wait
stops_here limits q q' octets rest used n found r e f s pl =
    ap (λ (o : List ℕ). next_of limits q' o) (sym r) ∙ ap (λ (x : Place). next_of limits x rest) pl ∙ stops limits q rest n (sym e) (sym f ∙ s)

size_bound : (limits : Limits) (first command : Bool) (count octets size : ℕ) → fields_fault limits first command count octets size ≡ None
    → (size ≤ limits.command) ⊎ (octets + size ≤ limits.message)
size_bound limits first true count octets size e = inl (command_small limits first count octets size e)
size_bound limits false false count octets size e = inr (message_small limits count octets size e).1
size_bound limits true false count octets size e = cc

ready_goes : (read : Result SocketType Reason) (end : ℕ) → ready_next read end ≡ next.Wait → ⊥
ready_goes (Ok kind) end e = cc
ready_goes (Err reason) end e = cc

body_goes : (first command more : Bool) (read : Result SocketType Reason) (used end : ℕ) → cond first (ready_next read end) (cond command (next.Command end) (next.Frame more used end)) ≡ next.Wait → ⊥
body_goes true command more read used end e = ready_goes read end e
body_goes false true more read used end e = cc
body_goes false false more read used end e = cc

whole_waits : (h : Head) (stage : Stage) (used : ℕ) (rest : List ℕ) (short : Bool) → ltb (length rest) h.size ≡ short
    → cond short next.Wait (body_next stage h used (take h.size rest)) ≡ next.Wait → ltb (length rest) h.size ≡ true
whole_waits h stage used rest true e w = e
whole_waits h stage used rest false e w = absurd (body_goes (in_handshake stage) h.command h.more (ready_of (take h.size rest)) used (used + length (take h.size rest)) w)

abbrev Few : Limits → Place → List ℕ → Type 0
Few limits p octets = weight_of p.group + length octets ≤ most_kept limits

headed_few : (limits : Limits) (p : Place) (octets : List ℕ) (h : Head) (used : ℕ) → used ≤ 9 → IsTidy limits p → (fault : Option Reason) → head_fault limits p h ≡ fault
    → fault_or_whole fault p.stage h used (drop used octets) ≡ next.Wait → Few limits p octets
headed_few limits p octets h used nine t (Some reason) e w = cc
headed_few limits p octets h used nine t None e w =
    let short = ltb-true _ _ (whole_waits h p.stage used (drop used octets) (ltb (length (drop used octets)) h.size) refl w) in
    let d = length-drop used octets in
    elim (size_bound limits (in_handshake p.stage) h.command (length p.group) (sum_by length p.group) h.size e) [
      | inl c ↦ omega (arith, c, short, d, nine, t.0.0, t.0.1)
      | inr m ↦ omega (arith, m, short, d, nine, t.0.0, t.0.1)
    ]

answer_few : (limits : Limits) (p : Place) (octets : List ℕ) → IsTidy limits p → (answer : HeadAnswer) → head_at octets ≡ answer
    → answer_next answer limits p octets ≡ next.Wait → Few limits p octets
answer_few limits p octets t answers.BadFlags e w = cc
answer_few limits p octets t answers.Short e w = let s : length octets ≤ 8 = size_at octets answers.Short e in omega (arith, s, t.0.0, t.0.1)
answer_few limits p octets t (answers.Head h used) e w = headed_few limits p octets h used (size_at octets (answers.Head h used) e).1 t (head_fault limits p h) refl w

frame_few : (limits : Limits) (p : Place) (octets : List ℕ) → IsTidy limits p → frame_next limits p octets ≡ next.Wait → Few limits p octets
unfolding frame_next
frame_few limits p octets t w = answer_few limits p octets t (head_at octets) refl w

greeting_waits : (octets : List ℕ) (short : Bool) → ltb (length octets) 64 ≡ short → cond short next.Wait next.Greeting ≡ next.Wait → length octets < 64
greeting_waits octets true e w = ltb-true _ _ e
greeting_waits octets false e w = cc

greeting_few : (limits : Limits) (p : Place) (octets : List ℕ) → IsTidy limits p → (fault : Option GreetingFault) → fault_or_greeting fault octets ≡ next.Wait → Few limits p octets
greeting_few limits p octets t (Some fault) w = cc
greeting_few limits p octets t None w = let s = greeting_waits octets (ltb (length octets) 64) refl w in omega (arith, s, t.0.0, t.0.1)

stage_few : (limits : Limits) (p : Place) (octets : List ℕ) → IsTidy limits p → (stage : Stage) → has_ended stage ≡ false → stage_next stage limits p octets ≡ next.Wait → Few limits p octets
stage_few limits p octets t stages.Greeting e w = greeting_few limits p octets t (fault_of (take 64 octets)) w
stage_few limits p octets t stages.Handshake e w = frame_few limits p octets t w
stage_few limits p octets t stages.Open e w = frame_few limits p octets t w
stage_few limits p octets t stages.Ended e w = cc

few_wait : (limits : Limits) (p : Place) (octets : List ℕ) → IsTidy limits p → has_ended p.stage ≡ false → next_of limits p octets ≡ next.Wait → Few limits p octets
unfolding next_of
few_wait limits p octets t e w = stage_few limits p octets t p.stage e w

-- ---- pieces

pub light_here : (limits : Limits) (p q : Place) (octets whole rest : List ℕ) (used : ℕ) (before now : List WireItem) → octets ≡ whole → rest ≡ drop used whole → has_ended q.stage ≡ false
    → Weighs limits p before q now used → next_of limits q (drop used octets) ≡ next.Wait → IsTidy limits p → IsLight limits q rest
light_here limits p q octets whole rest used before now o r e k w t =
    let tidy = k.tidy t in
    let f = few_wait limits q (drop used octets) tidy e w in
    let l : length rest ≡ length (drop used octets) = ap length r ∙ ap (λ (x : List ℕ). length (drop used x)) (sym o) in
    record { tidy = tidy; few = omega (arith, f, l); none = λ y. cc }

pub light_ended : (limits : Limits) (p q : Place) (rest : List ℕ) (used : ℕ) (before now : List WireItem) → rest ≡ [] → has_ended q.stage ≡ true
    → Weighs limits p before q now used → IsTidy limits p → IsLight limits q rest
light_ended limits p q rest used before now r e k t =
    let tidy = k.tidy t in
    let l : length rest ≡ 0 = ap length r in
    record { tidy = tidy; few = omega (arith, l, tidy.0.0, tidy.0.1); none = λ y. r }

pub kept_here : (limits : Limits) (p q : Place) (octets whole old piece rest : List ℕ) (used : ℕ) (before now : List WireItem) → octets ≡ whole → whole ≡ old ++ piece → used ≤ length octets → rest ≡ drop used whole
    → Weighs limits p before q now used → weight_of_items now + reserved q rest ≤ weight_of_items before + reserved p old + 17 * length piece
kept_here limits p q octets whole old piece rest used before now o wh u r k =
    let l : length rest ≡ length (drop used whole) = ap length r in
    let d = length-drop used whole in
    let a = length-append old piece in
    let w : length whole ≡ length (old ++ piece) = ap length wh in
    let b : length octets ≡ length whole = ap length o in
    omega (arith, k.weight, l, d, a, b, w, u)

pub kept_ended : (limits : Limits) (p q : Place) (octets old piece rest : List ℕ) (used : ℕ) (before now : List WireItem) → octets ≡ old ++ piece → used ≤ length octets → rest ≡ []
    → Weighs limits p before q now used → weight_of_items now + reserved q rest ≤ weight_of_items before + reserved p old + 17 * length piece
kept_ended limits p q octets old piece rest used before now o u r k =
    let l : length rest ≡ 0 = ap length r in
    let a = length-append old piece in
    let b : length octets ≡ length (old ++ piece) = ap length o in
    omega (arith, k.weight, l, a, b, u)

pub kept_same : (p : Place) (rest piece : List ℕ) (before : List WireItem) → weight_of_items before + reserved p rest ≤ weight_of_items before + reserved p rest + 17 * length piece
kept_same p rest piece before = omega arith
