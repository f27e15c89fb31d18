-- The longest cut: reading stops behind it, no other is as long, and there is one wherever there is a cut.
use Rattle.std.proofs.Common.{◌≡◌, ℕ, zero, suc, ◌+◌, ◌-◌, ◌<◌, ◌≤◌, Bool, true, false, cond, List, [], ◌∷◌, ◌++◌, length, Option, Some, None, Result, Ok, Err, IsOk, sum_by, refl, sym, ap, subst, ◌∙◌, arith, append_assoc, append-nil, length-append}
use Rattle.mj_base.specs.declared.limits.Limits.{Limits}
use Rattle.mj_base.specs.declared.reason.Reason.{Reason}
use Rattle.mj_frame.specs.FrameSpelling.{Frame, IsBytes, IsFrame, AreFrames}
use Rattle.mj_frame.proofs.FrameLemmas.{same_front, one_frame, frame_long, one_reading}
use Rattle.mj_handshake.specs.declared.socket_type.SocketType.{SocketType}
use Rattle.mj_handshake.specs.ReadyGrammar.{ready_of}
use Rattle.mj_wire.specs.declared.item.WireItem.{WireItem}
use Rattle.mj_wire.specs.declared.item.WireItem.TheVariants as items
use Rattle.mj_wire.specs.declared.place.Place.{Place}
use Rattle.mj_wire.specs.declared.next.Next.{Next}
use Rattle.mj_wire.specs.declared.next.Next.TheVariants as next
use Rattle.mj_wire.specs.NextReading.{ready_next, frame_next, next_of}
use Rattle.mj_wire.specs.StreamItems.{count, step_of, items_from, stream_items}
use Rattle.mj_wire.specs.StreamCuts.{unfinished, AreSmall, BeginsReady, IsCut, IsLongest, cut_items}
use Rattle.mj_wire.specs.StreamFault.{fault, ended_at}
use Rattle.mj_wire.proofs.StreamLemmas.{items_at}
use Rattle.mj_wire.proofs.FrameLemmas.{FoundFrame, frame_found, fields_fault, first_is_command, fault_in, frame_fault, AtFront, frame_front}
use Rattle.mj_wire.proofs.CutLemmas.{open_at, ready_at, cut_place, group_by, unfinished_step, small_step, small_more, open_next, ready_small, ready_next_is, ready_unfinished, cut_read}

-- ---- where reading stops

next_framed : (limits : Limits) (n : ℕ) (frames : List Frame) (rest : List ℕ) → next_of limits (cut_place n frames) rest ≡ frame_next limits (cut_place n frames) rest
unfolding next_of
next_framed limits n [] rest = refl
next_framed limits n (f ∷ frames) rest = refl

place_at : (frames : List Frame) (octets : List ℕ) → AreFrames frames octets → (cut_place (64 + length octets) frames).at ≡ count (64 + length octets)
place_at [] octets p = let l : length octets ≡ 0 = ap length p in omega arith
place_at (f ∷ frames) octets p = refl

fault_is : (limits : Limits) (n : ℕ) (frames : List Frame) (rest : List ℕ) → fault_in (frame_next limits (cut_place n frames) rest) ≡ fault limits frames rest
fault_is limits n [] rest = frame_fault limits ready_at rest
fault_is limits n (f ∷ frames) rest = frame_fault limits (open_at n (unfinished [] (f ∷ frames))) rest

stop_items : (limits : Limits) (q : Place) (rest : List ℕ) (m : ℕ) (n : Next) → q.at ≡ count m → next_of limits q rest ≡ n → AtFront n → step_of n ≡ None
    → items_from limits q rest ≡ ended_at (count m) (fault_in n)
stop_items limits q rest m next.Wait a e f s = items_at limits q rest next.Wait e
stop_items limits q rest m (next.Fault reason at) a e f s =
    let here : count (q.at + at) ≡ count m = omega arith in
    items_at limits q rest (next.Fault reason at) e ∙ ap (λ (k : ℕ). items.Ended reason k ∷ []) here
stop_items limits q rest m next.Greeting a e f s = cc
stop_items limits q rest m (next.Ready kind end) a e f s = cc
stop_items limits q rest m (next.Command end) a e f s = cc
stop_items limits q rest m (next.Frame more from end) a e f s = cc

abbrev Stops : Limits → List Frame → List ℕ → List ℕ → Type 0
Stops limits frames octets rest = step_of (next_of limits (cut_place (64 + length octets) frames) rest) ≡ None

stopped_read : (limits : Limits) (stream rest : List ℕ) (frames : List Frame) → (c : IsCut limits stream frames rest) → Stops limits frames c.octets rest
    → stream_items limits stream ≡ cut_items frames ++ ended_at (count (length stream - length rest)) (fault limits frames rest)
stopped_read limits stream rest frames c s =
    let q = next_framed limits (64 + length c.octets) frames rest in
    let at : 64 + length c.octets ≡ length stream - length rest =
    omega (arith, ap length c.whole, c.accepted.0, length-append c.greeting (c.octets ++ rest), length-append c.octets rest) in
    cut_read limits stream rest frames c
    ∙ ap (λ (x : List WireItem). cut_items frames ++ x)
    (stop_items limits (cut_place (64 + length c.octets) frames) rest (64 + length c.octets) (frame_next limits (cut_place (64 + length c.octets) frames) rest)
    (place_at frames c.octets c.spelled) q (frame_front limits (cut_place (64 + length c.octets) frames) rest) (sym (ap step_of q) ∙ s)
    ∙ ap (λ (r : Option Reason). ended_at (count (64 + length c.octets)) r) (fault_is limits (64 + length c.octets) frames rest)
    ∙ ap (λ (k : ℕ). ended_at (count k) (fault limits frames rest)) at)

-- ---- where it goes on, the cut grows

pub record Longer (limits : Limits) (stream : List ℕ) (frames : List Frame) (rest : List ℕ) : Type 0 where
  pub frame : Frame
  pub others : List ℕ
  pub cut : IsCut limits stream (frames ++ frame ∷ []) others
  pub less : length others < length rest

bytes_behind : (front rest : List ℕ) → IsBytes (front ++ rest) → IsBytes rest
bytes_behind [] rest b = b
bytes_behind (o ∷ front) rest b = bytes_behind front rest (λ i. b (suc i))

frames_more : (frames : List Frame) (f : Frame) (octets first : List ℕ) → AreFrames frames octets → IsFrame f first → AreFrames (frames ++ f ∷ []) (octets ++ first)
frames_more [] f octets first p s = (first, [], s, refl, ap (λ (z : List ℕ). z ++ first) p ∙ sym (append-nil first))
frames_more (g ∷ frames) f octets first (a, b, ga, fs, e) s = (a, b ++ first, ga, frames_more frames f b first fs s, ap (λ (z : List ℕ). z ++ first) e ∙ append_assoc a b first)

ok_of_step : (answer : Result SocketType Reason) (end step : ℕ) → step_of (ready_next answer end) ≡ Some step → IsOk answer
ok_of_step (Ok kind) end step s = refl
ok_of_step (Err reason) end step s = cc

fine_more : (limits : Limits) (n step : ℕ) (frames : List Frame) (rest : List ℕ) (m : Next) → (g : FoundFrame limits (cut_place n frames) rest m) → step_of m ≡ Some step → BeginsReady frames
    → (fields_fault limits false g.frame.command (length (unfinished [] frames)) (sum_by length (unfinished [] frames)) (length g.frame.body) ≡ None) × BeginsReady (frames ++ g.frame ∷ [])
fine_more limits n step [] rest m g s r =
    let first = first_is_command limits g.frame.command 0 0 (length g.frame.body) g.fine in
    let ok = ok_of_step (ready_of g.frame.body) (g.used + length g.frame.body) step (sym (ap step_of g.found) ∙ s) in
    (first.1, (first.0, ok))
fine_more limits n step (f ∷ frames) rest m g s r = (g.fine, r)

longer_by : (limits : Limits) (stream rest : List ℕ) (frames : List Frame) (q : Place) (m : Next) → (c : IsCut limits stream frames rest) → (g : FoundFrame limits q rest m)
    → fields_fault limits false g.frame.command (length (unfinished [] frames)) (sum_by length (unfinished [] frames)) (length g.frame.body) ≡ None
    → BeginsReady (frames ++ g.frame ∷ []) → Longer limits stream frames rest
longer_by limits stream rest frames q m c g fine ready = record {
  frame = g.frame;
  others = g.others;
  cut = record {
    greeting = c.greeting;
    octets = c.octets ++ g.first;
    whole = c.whole ∙ ap (λ (r : List ℕ). c.greeting ++ (c.octets ++ r)) g.whole ∙ ap (λ (r : List ℕ). c.greeting ++ r) (sym (append_assoc c.octets g.first g.others));
    accepted = c.accepted;
    spelled = frames_more frames g.frame c.octets g.first c.spelled g.spelled;
    ready = ready;
    small = small_more limits frames [] g.frame c.small fine;
  };
  less = omega (arith, ap length g.whole, length-append g.first g.others, frame_long g.frame g.first g.spelled);
}

cut_longer : (limits : Limits) (stream rest : List ℕ) (frames : List Frame) (step : ℕ) → IsBytes stream → (c : IsCut limits stream frames rest)
    → step_of (next_of limits (cut_place (64 + length c.octets) frames) rest) ≡ Some step → Longer limits stream frames rest
cut_longer limits stream rest frames step bytes c s =
    let q = next_framed limits (64 + length c.octets) frames rest in
    let goes = sym (ap step_of q) ∙ s in
    let parts : IsBytes (c.greeting ++ (c.octets ++ rest)) = subst (λ (o : List ℕ). IsBytes o) c.whole bytes in
    let small : IsBytes rest = bytes_behind c.octets rest (bytes_behind c.greeting (c.octets ++ rest) parts) in
    let g = frame_found limits (cut_place (64 + length c.octets) frames) rest (frame_next limits (cut_place (64 + length c.octets) frames) rest) step small refl goes in
    let fine = fine_more limits (64 + length c.octets) step frames rest (frame_next limits (cut_place (64 + length c.octets) frames) rest) g goes c.ready in
    longer_by limits stream rest frames (cut_place (64 + length c.octets) frames) (frame_next limits (cut_place (64 + length c.octets) frames) rest) c g fine.0 fine.1

stops_by : (limits : Limits) (stream rest : List ℕ) (frames : List Frame) → IsBytes stream → (l : IsLongest limits stream frames rest)
    → (s : Option ℕ) → step_of (next_of limits (cut_place (64 + length l.cut.octets) frames) rest) ≡ s → Stops limits frames l.cut.octets rest
stops_by limits stream rest frames bytes l None e = e
stops_by limits stream rest frames bytes l (Some step) e =
    let g = cut_longer limits stream rest frames step bytes l.cut e in
    absurd (omega (arith, l.longest (frames ++ g.frame ∷ []) g.others g.cut, g.less))

pub longest_read : (limits : Limits) (stream rest : List ℕ) (frames : List Frame) → IsBytes stream → IsLongest limits stream frames rest
    → stream_items limits stream ≡ cut_items frames ++ ended_at (count (length stream - length rest)) (fault limits frames rest)
longest_read limits stream rest frames bytes l =
    stopped_read limits stream rest frames l.cut (stops_by limits stream rest frames bytes l (step_of (next_of limits (cut_place (64 + length l.cut.octets) frames) rest)) refl)

-- ---- where reading stops, no cut is longer

step_some : (command more : Bool) (used end : ℕ) → step_of (cond command (next.Command end) (next.Frame more used end)) ≡ Some end
step_some true more used end = refl
step_some false more used end = refl

ready_some : (answer : Result SocketType Reason) (end : ℕ) → IsOk answer → step_of (ready_next answer end) ≡ Some end
ready_some (Ok kind) end ok = refl
ready_some (Err reason) end ok = cc

goes_and_stops : (limits : Limits) (q : Place) (rest other : List ℕ) (n : Next) (end : ℕ) → next_of limits q other ≡ n → step_of n ≡ Some end → rest ≡ other → step_of (next_of limits q rest) ≡ None → ⊥
goes_and_stops limits q rest other n end e s r stop =
    let goes : step_of (next_of limits q rest) ≡ Some end = ap (λ (o : List ℕ). step_of (next_of limits q o)) r ∙ ap step_of e ∙ s in
    cc

no_front : (octets rest whole : List ℕ) → octets ≡ [] → octets ++ rest ≡ whole → rest ≡ whole
no_front octets rest whole p e = ap (λ (z : List ℕ). z ++ rest) (sym p) ∙ e

open_meets : (limits : Limits) (frames others : List Frame) (n : ℕ) (group : List (List ℕ)) (octets rest octets' left : List ℕ) → AreFrames frames octets → AreFrames others octets'
    → octets ++ rest ≡ octets' ++ left → AreSmall limits group others → step_of (next_of limits (open_at (n + length octets) (unfinished group frames)) rest) ≡ None → length rest ≤ length left
open_meets limits [] [] n group octets rest octets' left p p' e s stop =
    omega (arith, ap length e, ap length p, ap length p', length-append octets rest, length-append octets' left)
open_meets limits [] (g ∷ others) n group octets rest octets' left p (b, y, gb, gs, e') e s stop =
    let t = small_step limits group g others s in
    let front : rest ≡ b ++ (y ++ left) = no_front octets rest (octets' ++ left) p e ∙ ap (λ (z : List ℕ). z ++ left) e' ∙ append_assoc b y left in
    absurd (goes_and_stops limits (open_at (n + length octets) group) rest (b ++ (y ++ left)) _ _ (open_next limits (n + length octets) group g b (y ++ left) gb t.0)
    (step_some g.command g.more (length gb.0) (length gb.0 + length g.body)) front stop)
open_meets limits (f ∷ frames) [] n group octets rest octets' left p p' e s stop =
    omega (arith, ap length e, ap length p', length-append octets rest, length-append octets' left)
open_meets limits (f ∷ frames) (g ∷ others) n group octets rest octets' left (a, x, fa, fs, e1) (b, y, gb, gs, e2) e s stop =
    let both : a ++ (x ++ rest) ≡ b ++ (y ++ left) =
    sym (ap (λ (z : List ℕ). z ++ rest) e1 ∙ append_assoc a x rest) ∙ e ∙ (ap (λ (z : List ℕ). z ++ left) e2 ∙ append_assoc b y left) in
    let r = one_frame f g a b (x ++ rest) (y ++ left) fa gb both in
    let t = small_step limits group g others s in
    let small : AreSmall limits (group_by f.more f.command group f.body) others = subst (λ (h : Frame). AreSmall limits (group_by h.more h.command group h.body) others) (sym r.0) t.1 in
    let far : n + length octets ≡ n + length a + length x = omega (arith, ap length e1, length-append a x) in
    let stops = sym (ap (λ (k : ℕ). step_of (next_of limits (open_at k (unfinished group (f ∷ frames))) rest)) far
    ∙ ap (λ (u : List (List ℕ)). step_of (next_of limits (open_at (n + length a + length x) u) rest)) (unfinished_step f.more f.command group f.body frames)) ∙ stop in
    open_meets limits frames others (n + length a) (group_by f.more f.command group f.body) x rest y left fs gs r.1.1 small stops

frames_meet : (limits : Limits) (frames others : List Frame) (octets rest octets' left : List ℕ) → AreFrames frames octets → AreFrames others octets' → BeginsReady frames → BeginsReady others
    → octets ++ rest ≡ octets' ++ left → AreSmall limits [] others → Stops limits frames octets rest → length rest ≤ length left
frames_meet limits [] [] octets rest octets' left p p' ready ready' e s stop =
    omega (arith, ap length e, ap length p, ap length p', length-append octets rest, length-append octets' left)
frames_meet limits [] (g ∷ others) octets rest octets' left p (b, y, gb, gs, e') ready ready' e s stop =
    let t = ready_small limits g others ready'.0 s in
    let front : rest ≡ b ++ (y ++ left) = no_front octets rest (octets' ++ left) p e ∙ ap (λ (z : List ℕ). z ++ left) e' ∙ append_assoc b y left in
    absurd (goes_and_stops limits ready_at rest (b ++ (y ++ left)) _ _ (ready_next_is limits g b (y ++ left) gb t.0) (ready_some (ready_of g.body) (length gb.0 + length g.body) ready'.1) front stop)
frames_meet limits (f ∷ frames) [] octets rest octets' left p p' ready ready' e s stop =
    omega (arith, ap length e, ap length p', length-append octets rest, length-append octets' left)
frames_meet limits (f ∷ frames) (g ∷ others) octets rest octets' left (a, x, fa, fs, e1) (b, y, gb, gs, e2) ready ready' e s stop =
    let both : a ++ (x ++ rest) ≡ b ++ (y ++ left) =
    sym (ap (λ (z : List ℕ). z ++ rest) e1 ∙ append_assoc a x rest) ∙ e ∙ (ap (λ (z : List ℕ). z ++ left) e2 ∙ append_assoc b y left) in
    let r = one_frame f g a b (x ++ rest) (y ++ left) fa gb both in
    let t = ready_small limits g others ready'.0 s in
    let far : 64 + length octets ≡ 64 + length a + length x = omega (arith, ap length e1, length-append a x) in
    let stops = sym (ap (λ (k : ℕ). step_of (next_of limits (open_at k (unfinished [] (f ∷ frames))) rest)) far
    ∙ ap (λ (u : List (List ℕ)). step_of (next_of limits (open_at (64 + length a + length x) u) rest)) (ready_unfinished f frames ready.0)) ∙ stop in
    open_meets limits frames others (64 + length a) [] x rest y left fs gs r.1.1 t.1 stops

-- two cuts of one stream have one greeting
same_behind : (limits : Limits) (stream rest left : List ℕ) (frames others : List Frame) → (c : IsCut limits stream frames rest) → (d : IsCut limits stream others left) → c.octets ++ rest ≡ d.octets ++ left
same_behind limits stream rest left frames others c d =
    (same_front c.greeting d.greeting (c.octets ++ rest) (d.octets ++ left) (c.accepted.0 ∙ sym d.accepted.0) (sym c.whole ∙ d.whole)).1

stopped_is_longest : (limits : Limits) (stream rest : List ℕ) (frames : List Frame) → (c : IsCut limits stream frames rest) → Stops limits frames c.octets rest → IsLongest limits stream frames rest
stopped_is_longest limits stream rest frames c stop = record {
  cut = c;
  longest = λ others left d. frames_meet limits frames others c.octets rest d.octets left c.spelled d.spelled c.ready d.ready (same_behind limits stream rest left frames others c d) d.small stop;
}

-- ---- there is one, and no other

abbrev HasLongest : Limits → List ℕ → Type 0
HasLongest limits stream = (others : List Frame) × (left : List ℕ) × IsLongest limits stream others left

exists_by : (limits : Limits) (stream rest : List ℕ) (frames : List Frame) → IsBytes stream → ((others : List Frame) (left : List ℕ) → length left < length rest → IsCut limits stream others left → HasLongest limits stream)
    → (c : IsCut limits stream frames rest) → (s : Option ℕ) → step_of (next_of limits (cut_place (64 + length c.octets) frames) rest) ≡ s → HasLongest limits stream
exists_by limits stream rest frames bytes shorter c None e = (frames, rest, stopped_is_longest limits stream rest frames c e)
exists_by limits stream rest frames bytes shorter c (Some step) e =
    let g = cut_longer limits stream rest frames step bytes c e in
    shorter (frames ++ g.frame ∷ []) g.others g.less g.cut

exists_within : (limits : Limits) (stream : List ℕ) → IsBytes stream → (k : ℕ) (frames : List Frame) (rest : List ℕ) → length rest ≤ k → IsCut limits stream frames rest → HasLongest limits stream
exists_within limits stream bytes zero frames rest l c =
    exists_by limits stream rest frames bytes (λ others left less d. absurd (omega (arith, less))) c (step_of (next_of limits (cut_place (64 + length c.octets) frames) rest)) refl
exists_within limits stream bytes (suc k) frames rest l c =
    exists_by limits stream rest frames bytes (λ others left less d. exists_within limits stream bytes k others left (omega (arith, less)) d) c (step_of (next_of limits (cut_place (64 + length c.octets) frames) rest)) refl

pub longest_exists : (limits : Limits) (stream rest : List ℕ) (frames : List Frame) → IsBytes stream → IsCut limits stream frames rest
    → (others : List Frame) × (left : List ℕ) × IsLongest limits stream others left
longest_exists limits stream rest frames bytes c = exists_within limits stream bytes (length rest) frames rest (omega arith) c

pub longest_is_one : (limits : Limits) (stream rest left : List ℕ) (frames others : List Frame) → IsLongest limits stream frames rest → IsLongest limits stream others left → (frames ≡ others) × (rest ≡ left)
longest_is_one limits stream rest left frames others a b =
    let same = same_behind limits stream rest left frames others a.cut b.cut in
    let le = a.longest others left b.cut in
    let ge = b.longest frames rest a.cut in
    let long : length a.cut.octets ≡ length b.cut.octets = omega (arith, ap length same, length-append a.cut.octets rest, length-append b.cut.octets left) in
    let parts = same_front a.cut.octets b.cut.octets rest left long same in
    (one_reading frames others a.cut.octets a.cut.spelled (subst (λ (o : List ℕ). AreFrames others o) (sym parts.0) b.cut.spelled), parts.1)
