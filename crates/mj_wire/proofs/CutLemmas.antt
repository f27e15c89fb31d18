-- A cut is read: its items come, and then those of its rest, at the place behind it.
use Rattle.std.proofs.Common.{◌≡◌, ℕ, ◌+◌, ◌-◌, ◌<◌, ◌≤◌, Bool, true, false, cond, ltb, List, [], ◌∷◌, ◌++◌, length, take, drop, map, Option, None, Result, Ok, Err, IsOk, IsTrue, sum_by, refl, sym, ap, subst, ◌∙◌, arith, append_assoc, length-append, le-ltb}
use Rattle.std.proofs.lemmas.List.Sums.{sum_by-append}
use Rattle.std.proofs.Math.Seq.{take-append_seam, drop-append_seam}
use Rattle.mj_base.specs.declared.limits.Limits.{Limits}
use Rattle.mj_base.specs.declared.reason.Reason.{Reason}
use Rattle.mj_frame.specs.FrameSpelling.{Frame, head_of, IsFrame, AreFrames}
use Rattle.mj_greeting.specs.declared.greeting.GreetingFault.{GreetingFault}
use Rattle.mj_greeting.specs.GreetingGrammar.{fault_of, IsGreeting}
use Rattle.mj_handshake.specs.declared.socket_type.SocketType.{SocketType}
use Rattle.mj_handshake.specs.ReadyGrammar.{ready_of}
use Rattle.mj_wire.specs.declared.item.WireItem.{WireItem}
use Rattle.mj_wire.specs.declared.item.WireItem.TheVariants as items
use Rattle.mj_wire.specs.declared.place.Place.{Place}
use Rattle.mj_wire.specs.declared.place.Stage.TheVariants as stages
use Rattle.mj_wire.specs.declared.next.Next.TheVariants as next
use Rattle.mj_wire.specs.NextReading.{ready_next, body_next, fault_or_greeting, next_of}
use Rattle.mj_wire.specs.StreamItems.{count, body_of, items_from, start, stream_items}
use Rattle.mj_wire.specs.StreamCuts.{finished, unfinished, IsSmallMessage, AreSmall, BeginsReady, IsCut, ready_items, frame_items, cut_items}
use Rattle.mj_wire.proofs.StreamLemmas.{items_at}
use Rattle.mj_wire.proofs.FrameLemmas.{unless_fault, spelled_next, fields_fault, command_fine, message_fine, command_small, message_small}

-- ---- places between the frames

abbrev pub open_at : ℕ → List (List ℕ) → Place
open_at n group = record { stage = stages.Open; at = count n; group = group }

abbrev pub ready_at : Place
ready_at = record { stage = stages.Handshake; at = 64; group = [] }

-- behind so many bytes and these frames
abbrev pub cut_place : ℕ → List Frame → Place
cut_place n [] = ready_at
cut_place n (f ∷ frames) = open_at n (unfinished [] (f ∷ frames))

abbrev pub make : Bool → Bool → List ℕ → Frame
make more command body = record { more = more; command = command; body = body }

abbrev pub group_by : Bool → Bool → List (List ℕ) → List ℕ → List (List ℕ)
group_by more command group body = cond command group (cond more (group ++ body ∷ []) [])

abbrev pub items_by : Bool → Bool → List (List ℕ) → List ℕ → List WireItem
items_by more command group body = cond command [] (cond more [] (items.Message (group ++ body ∷ []) ∷ []))

abbrev pub messages : List (List (List ℕ)) → List WireItem
messages found = map (λ message. items.Message message) found

pub unfinished_step : (more command : Bool) (group : List (List ℕ)) (body : List ℕ) (frames : List Frame)
    → unfinished group (make more command body ∷ frames) ≡ unfinished (group_by more command group body) frames
unfinished_step more true group body frames = refl
unfinished_step true false group body frames = refl
unfinished_step false false group body frames = refl

finished_step : (more command : Bool) (group : List (List ℕ)) (body : List ℕ) (frames : List Frame)
    → messages (finished group (make more command body ∷ frames)) ≡ items_by more command group body ++ messages (finished (group_by more command group body) frames)
finished_step more true group body frames = refl
finished_step true false group body frames = refl
finished_step false false group body frames = refl

-- ---- small frames

shrink : (limits : Limits) (group : List (List ℕ)) (body : List ℕ) → IsSmallMessage limits (group ++ body ∷ [])
    → (length group < limits.frames) × (sum_by length group + length body ≤ limits.message)
shrink limits group body s =
    let l = length-append group (body ∷ []) in
    let o = sum_by-append length group (body ∷ []) in
    (omega (arith, s.0), omega (arith, s.1))

pub grow : (limits : Limits) (group : List (List ℕ)) (body : List ℕ) → length group < limits.frames → sum_by length group + length body ≤ limits.message
    → IsSmallMessage limits (group ++ body ∷ [])
grow limits group body a b =
    let l = length-append group (body ∷ []) in
    let o = sum_by-append length group (body ∷ []) in
    (omega (arith, l), omega (arith, o))

smaller : (limits : Limits) (group : List (List ℕ)) (body : List ℕ) → IsSmallMessage limits (group ++ body ∷ []) → IsSmallMessage limits group
smaller limits group body s = let t = shrink limits group body s in (omega (arith, t.0), omega (arith, t.1))

group_small_by : (limits : Limits) (more command : Bool) (group : List (List ℕ)) (body : List ℕ) (frames : List Frame)
    → ((g : List (List ℕ)) → AreSmall limits g frames → IsSmallMessage limits g) → AreSmall limits group (make more command body ∷ frames) → IsSmallMessage limits group
group_small_by limits more true group body frames ih s = ih group (record { commands = s.commands.1; messages = s.messages; last = s.last })
group_small_by limits true false group body frames ih s = smaller limits group body (ih (group ++ body ∷ []) (record { commands = s.commands.1; messages = s.messages; last = s.last }))
group_small_by limits false false group body frames ih s = smaller limits group body s.messages.0

-- a message that has begun is no larger than the message that it becomes
group_small : (limits : Limits) (frames : List Frame) (group : List (List ℕ)) → AreSmall limits group frames → IsSmallMessage limits group
group_small limits [] group s = s.last
group_small limits (f ∷ frames) group s = group_small_by limits f.more f.command group f.body frames (λ g t. group_small limits frames g t) s

small_step_by : (limits : Limits) (more command : Bool) (group : List (List ℕ)) (body : List ℕ) (frames : List Frame) → AreSmall limits group (make more command body ∷ frames)
    → (fields_fault limits false command (length group) (sum_by length group) (length body) ≡ None) × AreSmall limits (group_by more command group body) frames
small_step_by limits more true group body frames s =
    (command_fine limits false (length group) (sum_by length group) (length body) (s.commands.0 refl), record { commands = s.commands.1; messages = s.messages; last = s.last })
small_step_by limits true false group body frames s =
    let rest : AreSmall limits (group ++ body ∷ []) frames = record { commands = s.commands.1; messages = s.messages; last = s.last } in
    let t = shrink limits group body (group_small limits frames (group ++ body ∷ []) rest) in
    (message_fine limits (length group) (sum_by length group) (length body) t.0 t.1, rest)
small_step_by limits false false group body frames s =
    let t = shrink limits group body s.messages.0 in
    (message_fine limits (length group) (sum_by length group) (length body) t.0 t.1, record { commands = s.commands.1; messages = s.messages.1; last = s.last })

pub small_step : (limits : Limits) (group : List (List ℕ)) (f : Frame) (frames : List Frame) → AreSmall limits group (f ∷ frames)
    → (fields_fault limits false f.command (length group) (sum_by length group) (length f.body) ≡ None) × AreSmall limits (group_by f.more f.command group f.body) frames
small_step limits group f frames s = small_step_by limits f.more f.command group f.body frames s

pub none_small : (limits : Limits) → IsSmallMessage limits []
none_small limits = (omega arith, omega arith)

small_one : (limits : Limits) (more command : Bool) (group : List (List ℕ)) (body : List ℕ) → IsSmallMessage limits group
    → fields_fault limits false command (length group) (sum_by length group) (length body) ≡ None → AreSmall limits group (make more command body ∷ [])
small_one limits more true group body s e =
    let l = command_small limits false (length group) (sum_by length group) (length body) e in
    record { commands = ((λ t. l), tt); messages = tt; last = s }
small_one limits true false group body s e =
    let l = message_small limits (length group) (sum_by length group) (length body) e in
    record { commands = ((λ t. cc), tt); messages = tt; last = grow limits group body l.0 l.1 }
small_one limits false false group body s e =
    let l = message_small limits (length group) (sum_by length group) (length body) e in
    record { commands = ((λ t. cc), tt); messages = (grow limits group body l.0 l.1, tt); last = none_small limits }

small_more_by : (limits : Limits) (more command : Bool) (group : List (List ℕ)) (body : List ℕ) (frames longer : List Frame)
    → (AreSmall limits (group_by more command group body) frames → AreSmall limits (group_by more command group body) longer)
    → AreSmall limits group (make more command body ∷ frames) → AreSmall limits group (make more command body ∷ longer)
small_more_by limits more true group body frames longer ih s =
    let r = ih (record { commands = s.commands.1; messages = s.messages; last = s.last }) in
    record { commands = (s.commands.0, r.commands); messages = r.messages; last = r.last }
small_more_by limits true false group body frames longer ih s =
    let r = ih (record { commands = s.commands.1; messages = s.messages; last = s.last }) in
    record { commands = (s.commands.0, r.commands); messages = r.messages; last = r.last }
small_more_by limits false false group body frames longer ih s =
    let r = ih (record { commands = s.commands.1; messages = s.messages.1; last = s.last }) in
    record { commands = (s.commands.0, r.commands); messages = (s.messages.0, r.messages); last = r.last }

-- one more frame behind small ones, without a fault of its own
pub small_more : (limits : Limits) (frames : List Frame) (group : List (List ℕ)) (f : Frame) → AreSmall limits group frames
    → fields_fault limits false f.command (length (unfinished group frames)) (sum_by length (unfinished group frames)) (length f.body) ≡ None → AreSmall limits group (frames ++ f ∷ [])
small_more limits [] group f s e = small_one limits f.more f.command group f.body s.last e
small_more limits (g ∷ frames) group f s e =
    let u = unfinished_step g.more g.command group g.body frames in
    let fine = subst (λ (x : List (List ℕ)). fields_fault limits false f.command (length x) (sum_by length x) (length f.body) ≡ None) u e in
    small_more_by limits g.more g.command group g.body frames (frames ++ f ∷ [])
    (λ t. small_more limits frames (group_by g.more g.command group g.body) f t fine) s

-- ---- reading on where messages and commands stand

frame_end : (f : Frame) (first : List ℕ) → (s : IsFrame f first) → length s.0 + length f.body ≡ length first
frame_end f first (head, spelled, whole) = omega (arith, length-append head f.body, ap length whole)

drop_front : (first others : List ℕ) (n : ℕ) → n ≡ length first → drop n (first ++ others) ≡ others
drop_front first others n e = ap (λ (k : ℕ). drop k (first ++ others)) e ∙ drop-append_seam first others

frame_body : (f : Frame) (first others : List ℕ) → (s : IsFrame f first) → body_of (length s.0) (length s.0 + length f.body) (first ++ others) ≡ f.body
frame_body f first others (head, spelled, whole) =
    let front : first ++ others ≡ head ++ (f.body ++ others) = ap (λ (z : List ℕ). z ++ others) whole ∙ append_assoc head f.body others in
    let n : length head + length f.body - length head ≡ length f.body = omega arith in
    ap (λ (o : List ℕ). take (length head + length f.body - length head) (drop (length head) o)) front
    ∙ ap (λ (r : List ℕ). take (length head + length f.body - length head) r) (drop-append_seam head (f.body ++ others))
    ∙ ap (λ (k : ℕ). take k (f.body ++ others)) n
    ∙ take-append_seam f.body others

counted : (n end l : ℕ) → end ≡ l → count (count n + end) ≡ count (n + l)
counted n end l e = omega arith

open_same : (limits : Limits) (a b : ℕ) (g h : List (List ℕ)) (rest others : List ℕ) → a ≡ b → g ≡ h → rest ≡ others
    → items_from limits (record { stage = stages.Open; at = a; group = g }) rest ≡ items_from limits (record { stage = stages.Open; at = b; group = h }) others
open_same limits a b g h rest others p q r =
    ap (λ (x : ℕ). items_from limits (record { stage = stages.Open; at = x; group = g }) rest) p
    ∙ ap (λ (x : List (List ℕ)). items_from limits (record { stage = stages.Open; at = b; group = x }) rest) q
    ∙ ap (λ (x : List ℕ). items_from limits (record { stage = stages.Open; at = b; group = h }) x) r

open_done : (limits : Limits) (n used end l : ℕ) (more command : Bool) (group : List (List ℕ)) (body octets others : List ℕ)
    → next_of limits (open_at n group) octets ≡ cond command (next.Command end) (next.Frame more used end) → end ≡ l → drop end octets ≡ others → body_of used end octets ≡ body
    → items_from limits (open_at n group) octets ≡ items_by more command group body ++ items_from limits (open_at (n + l) (group_by more command group body)) others
open_done limits n used end l more true group body octets others e c d b =
    items_at limits (open_at n group) octets (next.Command end) e
    ∙ open_same limits (count (count n + end)) (count (n + l)) group group (drop end octets) others (counted n end l c) refl d
open_done limits n used end l true false group body octets others e c d b =
    items_at limits (open_at n group) octets (next.Frame true used end) e
    ∙ open_same limits (count (count n + end)) (count (n + l)) (group ++ body_of used end octets ∷ []) (group ++ body ∷ []) (drop end octets) others (counted n end l c)
    (ap (λ (x : List ℕ). group ++ x ∷ []) b) d
open_done limits n used end l false false group body octets others e c d b =
    items_at limits (open_at n group) octets (next.Frame false used end) e
    ∙ ap (λ (x : List ℕ). items.Message (group ++ x ∷ []) ∷ items_from limits (record { stage = stages.Open; at = count (count n + end); group = [] }) (drop end octets)) b
    ∙ ap (λ (x : List WireItem). items.Message (group ++ body ∷ []) ∷ x) (open_same limits (count (count n + end)) (count (n + l)) [] [] (drop end octets) others (counted n end l c) refl d)

pub open_next : (limits : Limits) (n : ℕ) (group : List (List ℕ)) (f : Frame) (first others : List ℕ) → (s : IsFrame f first)
    → fields_fault limits false f.command (length group) (sum_by length group) (length f.body) ≡ None
    → next_of limits (open_at n group) (first ++ others) ≡ cond f.command (next.Command (length s.0 + length f.body)) (next.Frame f.more (length s.0) (length s.0 + length f.body))
unfolding next_of
open_next limits n group f first others s e =
    spelled_next limits (open_at n group) f first others s
    ∙ ap (λ (x : Option Reason). unless_fault x (body_next stages.Open (head_of f) (length s.0) f.body)) e

open_step : (limits : Limits) (n : ℕ) (group : List (List ℕ)) (f : Frame) (first others : List ℕ) → IsFrame f first
    → fields_fault limits false f.command (length group) (sum_by length group) (length f.body) ≡ None
    → items_from limits (open_at n group) (first ++ others) ≡ items_by f.more f.command group f.body ++ items_from limits (open_at (n + length first) (group_by f.more f.command group f.body)) others
open_step limits n group f first others s e =
    let end = frame_end f first s in
    open_done limits n (length s.0) (length s.0 + length f.body) (length first) f.more f.command group f.body (first ++ others) others
    (open_next limits n group f first others s e) end (drop_front first others (length s.0 + length f.body) end) (frame_body f first others s)

pub open_read : (limits : Limits) (frames : List Frame) (n : ℕ) (group : List (List ℕ)) (octets rest : List ℕ) → AreFrames frames octets → AreSmall limits group frames
    → items_from limits (open_at n group) (octets ++ rest) ≡ messages (finished group frames) ++ items_from limits (open_at (n + length octets) (unfinished group frames)) rest
open_read limits [] n group octets rest p s =
    let l : n ≡ n + length octets = omega (arith, ap length p) in
    ap (λ (o : List ℕ). items_from limits (open_at n group) (o ++ rest)) p ∙ ap (λ (k : ℕ). items_from limits (open_at k group) rest) l
open_read limits (f ∷ frames) n group octets rest (first, others, ff, fs, e) s =
    let t = small_step limits group f frames s in
    let front : octets ++ rest ≡ first ++ (others ++ rest) = ap (λ (z : List ℕ). z ++ rest) e ∙ append_assoc first others rest in
    let far : n + length first + length others ≡ n + length octets = omega (arith, length-append first others, ap length e) in
    ap (λ (o : List ℕ). items_from limits (open_at n group) o) front
    ∙ open_step limits n group f first (others ++ rest) ff t.0
    ∙ ap (λ (x : List WireItem). items_by f.more f.command group f.body ++ x)
    (open_read limits frames (n + length first) (group_by f.more f.command group f.body) others rest fs t.1
    ∙ ap (λ (k : ℕ). messages (finished (group_by f.more f.command group f.body) frames) ++ items_from limits (open_at k (unfinished (group_by f.more f.command group f.body) frames)) rest) far)
    ∙ sym (append_assoc (items_by f.more f.command group f.body) (messages (finished (group_by f.more f.command group f.body) frames))
    (items_from limits (open_at (n + length octets) (unfinished (group_by f.more f.command group f.body) frames)) rest))
    ∙ ap (λ (x : List WireItem). x ++ items_from limits (open_at (n + length octets) (unfinished (group_by f.more f.command group f.body) frames)) rest)
    (sym (finished_step f.more f.command group f.body frames))
    ∙ ap (λ (g : List (List ℕ)). messages (finished group (f ∷ frames)) ++ items_from limits (open_at (n + length octets) g) rest) (sym (unfinished_step f.more f.command group f.body frames))

-- ---- READY

pub ready_small : (limits : Limits) (f : Frame) (frames : List Frame) → IsTrue f.command → AreSmall limits [] (f ∷ frames)
    → (fields_fault limits true f.command 0 0 (length f.body) ≡ None) × AreSmall limits [] frames
ready_small limits f frames c s =
    let t = small_step limits [] f frames s in
    let small = command_small limits false 0 0 (length f.body) (rw c at t.0) in
    let fine : fields_fault limits true f.command 0 0 (length f.body) ≡ None = rw c (command_fine limits true 0 0 (length f.body) small) in
    let group : group_by f.more f.command [] f.body ≡ [] = rw c refl in
    (fine, subst (λ (g : List (List ℕ)). AreSmall limits g frames) group t.1)

pub ready_next_is : (limits : Limits) (f : Frame) (first others : List ℕ) → (s : IsFrame f first) → fields_fault limits true f.command 0 0 (length f.body) ≡ None
    → next_of limits ready_at (first ++ others) ≡ ready_next (ready_of f.body) (length s.0 + length f.body)
unfolding next_of
ready_next_is limits f first others s e =
    spelled_next limits ready_at f first others s
    ∙ ap (λ (x : Option Reason). unless_fault x (body_next stages.Handshake (head_of f) (length s.0) f.body)) e

ready_done : (limits : Limits) (answer : Result SocketType Reason) (end l : ℕ) (octets others : List ℕ) → IsOk answer → next_of limits ready_at octets ≡ ready_next answer end
    → end ≡ l → drop end octets ≡ others → items_from limits ready_at octets ≡ ready_items answer ++ items_from limits (open_at (64 + l) []) others
ready_done limits (Ok kind) end l octets others ok e c d =
    items_at limits ready_at octets (next.Ready kind end) e
    ∙ ap (λ (x : List WireItem). items.Ready kind ∷ x) (open_same limits (count (64 + end)) (count (64 + l)) [] [] (drop end octets) others (ap (λ (k : ℕ). count (64 + k)) c) refl d)
ready_done limits (Err reason) end l octets others ok e c d = cc

ready_read : (limits : Limits) (f : Frame) (first others : List ℕ) → IsFrame f first → IsOk (ready_of f.body) → fields_fault limits true f.command 0 0 (length f.body) ≡ None
    → items_from limits ready_at (first ++ others) ≡ ready_items (ready_of f.body) ++ items_from limits (open_at (64 + length first) []) others
ready_read limits f first others s ok e =
    let end = frame_end f first s in
    ready_done limits (ready_of f.body) (length s.0 + length f.body) (length first) (first ++ others) others ok (ready_next_is limits f first others s e) end
    (drop_front first others (length s.0 + length f.body) end)

pub ready_unfinished : (f : Frame) (frames : List Frame) → IsTrue f.command → unfinished [] (f ∷ frames) ≡ unfinished [] frames
ready_unfinished f frames c = ap (λ (b : Bool). cond b (unfinished [] frames) (cond f.more (unfinished ([] ++ f.body ∷ []) frames) (unfinished [] frames))) c

pub frames_read : (limits : Limits) (frames : List Frame) (octets rest : List ℕ) → AreFrames frames octets → BeginsReady frames → AreSmall limits [] frames
    → items_from limits ready_at (octets ++ rest) ≡ frame_items frames ++ items_from limits (cut_place (64 + length octets) frames) rest
frames_read limits [] octets rest p r s = ap (λ (o : List ℕ). items_from limits ready_at (o ++ rest)) p
frames_read limits (f ∷ frames) octets rest (first, others, ff, fs, e) r s =
    let t = ready_small limits f frames r.0 s in
    let front : octets ++ rest ≡ first ++ (others ++ rest) = ap (λ (z : List ℕ). z ++ rest) e ∙ append_assoc first others rest in
    let far : 64 + length first + length others ≡ 64 + length octets = omega (arith, length-append first others, ap length e) in
    ap (λ (o : List ℕ). items_from limits ready_at o) front
    ∙ ready_read limits f first (others ++ rest) ff r.1 t.0
    ∙ ap (λ (x : List WireItem). ready_items (ready_of f.body) ++ x)
    (open_read limits frames (64 + length first) [] others rest fs t.1
    ∙ ap (λ (k : ℕ). messages (finished [] frames) ++ items_from limits (open_at k (unfinished [] frames)) rest) far)
    ∙ sym (append_assoc (ready_items (ready_of f.body)) (messages (finished [] frames)) (items_from limits (open_at (64 + length octets) (unfinished [] frames)) rest))
    ∙ ap (λ (g : List (List ℕ)). frame_items (f ∷ frames) ++ items_from limits (open_at (64 + length octets) g) rest) (sym (ready_unfinished f frames r.0))

-- ---- the greeting

pub greeting_next_is : (limits : Limits) (greeting more : List ℕ) → IsGreeting greeting → next_of limits start (greeting ++ more) ≡ next.Greeting
unfolding next_of
greeting_next_is limits greeting more (l, fine) =
    let front : take 64 (greeting ++ more) ≡ greeting = ap (λ (k : ℕ). take k (greeting ++ more)) (sym l) ∙ take-append_seam greeting more in
    let t : ltb (length (greeting ++ more)) 64 ≡ false = le-ltb _ _ (omega (arith, length-append greeting more)) in
    ap (λ (f : Option GreetingFault). fault_or_greeting f (greeting ++ more)) (ap fault_of front ∙ fine)
    ∙ ap (λ (b : Bool). cond b next.Wait next.Greeting) t

pub greeting_read : (limits : Limits) (greeting more : List ℕ) → IsGreeting greeting → items_from limits start (greeting ++ more) ≡ items.Accepted ∷ items_from limits ready_at more
greeting_read limits greeting more accepted =
    items_at limits start (greeting ++ more) next.Greeting (greeting_next_is limits greeting more accepted)
    ∙ ap (λ (r : List ℕ). items.Accepted ∷ items_from limits ready_at r) (drop_front greeting more 64 (sym accepted.0))

-- the items of a cut, and then those of its rest
pub cut_read : (limits : Limits) (stream rest : List ℕ) (frames : List Frame) → (c : IsCut limits stream frames rest)
    → stream_items limits stream ≡ cut_items frames ++ items_from limits (cut_place (64 + length c.octets) frames) rest
unfolding stream_items
cut_read limits stream rest frames c =
    ap (λ (o : List ℕ). items_from limits start o) c.whole
    ∙ greeting_read limits c.greeting (c.octets ++ rest) c.accepted
    ∙ ap (λ (x : List WireItem). items.Accepted ∷ x) (frames_read limits frames c.octets rest c.spelled c.ready c.small)
