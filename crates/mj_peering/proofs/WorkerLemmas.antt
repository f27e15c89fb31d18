-- A run of a worker, call by call.
use Rattle.std.proofs.Common.{◌≡◌, ◌<◌, ◌≤◌, ◌+◌, ℕ, drop, get_or, length, true, false, Bool, List, [], ◌∷◌, ◌++◌, map, refl, sym, ap, subst, ◌∙◌, append_assoc, append-nil, inl, inr, Option, None, Some, Result, Ok, Err, OnErr, IfErr, IfOk}
use Rattle.std.proofs.lemmas.List.{drop_more, map-append}
use Rattle.std.proofs.Math.ListN.{drop_of_length-le}
use Rattle.mj_base.specs.declared.link.LinkEvent.{LinkEvent}
use Rattle.mj_peer.specs.WorkerEndRules.{Call, Met, Started, Worker, acts_of, after, starts, turn_of}
use Rattle.mj_peer.specs.WorkerStands.{Follows, Stands}
use Rattle.mj_peer.specs.declared.act.Act.{Act}
use Rattle.mj_peer.specs.declared.post.Post.{Post}
use Rattle.mj_peering.specs.Performing.{AreDone, Breaks, Counts, Moves, PerformCause, Performs, Places, Round, entry_of}
use Rattle.mj_peering.specs.Requests.{ReadCause}
use Rattle.mj_peering.specs.WorkerRun.{AreInTurn, AreMet, BrokeOff, Halted, IsCut, IsCutBy, IsPart, Left, Turned, Worked, calls_of, first_of, leaving_by, leaving_in, read_of, round_of, rounds}
use Rattle.mj_peering.specs.declared.leaving.Leaving.{Leaving}
use Rattle.mj_peering.specs.declared.stop.Stop.{Stop}
use Rattle.mj_peering.specs.declared.stop.Stop.TheVariants as stops
use Rattle.mj_peering.proofs.PlaceLemmas.{moves-none}
use Rattle.mj_peering.proofs.RunLemmas.{done-more, partly-more}
use Rattle.mj_peering.proofs.TurnLemmas.{round-cut, round-done}

-- ---- lists of calls

after-more : (calls : List Call) (call : Call) (first : Worker) → after (calls ++ call ∷ []) first ≡ (turn_of call (after calls first)).0
after-more [] call first = refl
after-more (x ∷ calls) call first = after-more calls call (turn_of x first).0

rounds-more : (calls : List Call) (call : Call) (first : Worker) → rounds (calls ++ call ∷ []) first ≡ rounds calls first ++ round_of call (after calls first) ∷ []
rounds-more [] call first = refl
rounds-more (x ∷ calls) call first = ap (λ (l : List Round). round_of x first ∷ l) (rounds-more calls call (turn_of x first).0)

acts-more : (calls : List Call) (call : Call) (first : Worker) → acts_of (calls ++ call ∷ []) first ≡ acts_of calls first ++ (turn_of call (after calls first)).1
acts-more [] call first = append-nil (turn_of call first).1
acts-more (x ∷ calls) call first =
    ap (λ (l : List Act). (turn_of x first).1 ++ l) (acts-more calls call (turn_of x first).0)
    ∙ sym (append_assoc (turn_of x first).1 (acts_of calls (turn_of x first).0) (turn_of call (after calls (turn_of x first).0)).1)

calls-more : (events : List LinkEvent) (e : LinkEvent) → calls_of events ++ Met e ∷ [] ≡ calls_of (events ++ e ∷ [])
calls-more events e = ap (λ (l : List Call). Started ∷ l) (sym (map-append Met events (e ∷ [])))

are-met : (events : List LinkEvent) → AreMet (map Met events)
are-met [] = tt
are-met (e ∷ events) = are-met events

in-turn : (events : List LinkEvent) → AreInTurn (calls_of events)
in-turn events = are-met events

in-turn-more : (events : List LinkEvent) (e : LinkEvent) → AreInTurn (calls_of events ++ Met e ∷ [])
in-turn-more events e = subst (λ (l : List Call). AreInTurn l) (sym (calls-more events e)) (in-turn (events ++ e ∷ []))

-- ---- leaving

none-first : (a b : Option Leaving) → a ≡ None → first_of a b ≡ b
none-first a b e = ap (λ (o : Option Leaving). first_of o b) e

first-assoc : (a b c : Option Leaving) → first_of (first_of a b) c ≡ first_of a (first_of b c)
first-assoc None b c = refl
first-assoc (Some x) b c = refl

leaving-append : (xs ys : List Act) → leaving_in (xs ++ ys) ≡ first_of (leaving_in xs) (leaving_in ys)
leaving-append [] ys = refl
leaving-append (x ∷ xs) ys =
    ap (λ (o : Option Leaving). first_of (leaving_by x) o) (leaving-append xs ys) ∙ sym (first-assoc (leaving_by x) (leaving_in xs) (leaving_in ys))

stays : (xs ys : List Act) → leaving_in xs ≡ None → leaving_in ys ≡ None → leaving_in (xs ++ ys) ≡ None
stays xs ys a b = leaving-append xs ys ∙ none-first (leaving_in xs) (leaving_in ys) a ∙ b

-- an act more
leaving-at : (acts : List Act) (i : ℕ) (a : Act) → i < length acts → a ≡ get_or acts i a → leaving_in (drop i acts) ≡ first_of (leaving_by a) (leaving_in (drop (i + 1) acts))
leaving-at acts i a inside is = ap leaving_in (drop_more acts i a inside ∙ ap (λ (x : Act). x ∷ drop (i + 1) acts) (sym is))

pub leaving-some : (acts : List Act) (i : ℕ) (a : Act) (leaving : Leaving) → i < length acts → a ≡ get_or acts i a → leaving_by a ≡ Some leaving → leaving_in acts ≡ leaving_in (drop i acts) → leaving_in acts ≡ Some leaving
leaving-some acts i a leaving inside is leaves so_far = so_far ∙ leaving-at acts i a inside is ∙ ap (λ (o : Option Leaving). first_of o (leaving_in (drop (i + 1) acts))) leaves

pub leaving-none : (acts : List Act) (i : ℕ) (a : Act) → i < length acts → a ≡ get_or acts i a → leaving_by a ≡ None → leaving_in acts ≡ leaving_in (drop i acts) → leaving_in acts ≡ leaving_in (drop (i + 1) acts)
leaving-none acts i a inside is leaves so_far = so_far ∙ leaving-at acts i a inside is ∙ ap (λ (o : Option Leaving). first_of o (leaving_in (drop (i + 1) acts))) leaves

pub leaving-end : (acts : List Act) (i : ℕ) → length acts ≤ i → leaving_in acts ≡ leaving_in (drop i acts) → leaving_in acts ≡ None
leaving-end acts i over so_far = so_far ∙ ap leaving_in (drop_of_length-le acts over)

starting-stays : (over : Bool) (w : Worker) → w.duty.over ≡ over → leaving_in (starts w).1 ≡ None
starting-stays true w e = rw e refl
starting-stays false w e = rw e refl

-- ---- a call

-- the end gave the call's acts, and they were done
pub turned : (leaving : Option Leaving) (e now_e : Post) (acts : List Act) (call : Call) (old mid now : Places)
    → Follows e now_e [] acts (turn_of call) → Moves old mid (read_of call) [] → Performs mid now acts → leaving ≡ leaving_in acts → Turned leaving e now_e old now call
turned leaving e now_e acts call old mid now f r p is = λ w s.
    let d = f w s in
    (d.stands, is ∙ ap leaving_in d.acts, round-done old mid now (round_of call w) r (subst (λ (l : List Act). Performs mid now l) d.acts p))

pub cut : (e now_e : Post) (acts : List Act) (call : Call) (old mid now : Places) → Follows e now_e [] acts (turn_of call) → Moves old mid (read_of call) [] → Breaks mid now acts → IsCut e old now call
cut e now_e acts call old mid now f r b = λ w s.
    let d = f w s in
    round-cut old mid now (round_of call w) r (subst (λ (l : List Act). Breaks mid now l) d.acts b)

-- nothing of its acts was done
cut-before : (e : Post) (call : Call) (old now : Places) → Moves old now (read_of call) [] → IsCut e old now call
cut-before e call old now r = λ w s.
    let acts = (turn_of call w).1 in
    round-cut old now now (round_of call w) r (record { done = []; rest = acts; whole = refl; n = 0; moved = moves-none now })

-- ---- where a meeting broke off

pub broke-off-reading : (stop : Stop) (e : Post) (old now : Places) (before after : ℕ) → Moves old now [] [] → ReadCause stop before after → BrokeOff stop e old now
broke-off-reading stops.NoMemory e old now before after m c = inl m
broke-off-reading stops.Read e old now before after m c = m
broke-off-reading stops.Write e old now before after m c = absurd c

pub broke-off-before : (stop : Stop) (e : Post) (event : LinkEvent) (old now : Places) → stop ≡ stops.NoMemory → Moves old now (entry_of event ∷ []) [] → BrokeOff stop e old now
broke-off-before stop e event old now is m = subst (λ (x : Stop). BrokeOff x e old now) (sym is) (inr (event, cut-before e (Met event) old now m))

broke-off-by : (stop : Stop) (e : Post) (event : LinkEvent) (old now : Places) (before after : Counts) → IsCut e old now (Met event) → PerformCause stop before after → BrokeOff stop e old now
broke-off-by stops.NoMemory e event old now before after k c = inr (event, k)
broke-off-by stops.Read e event old now before after k c = absurd c
broke-off-by stops.Write e event old now before after k c = (event, k)

pub broke-off-performing : {T : Type 0} (r : Result T Stop) (e : Post) (event : LinkEvent) (acts : List Act) (old mid now : Places) (before after : Counts)
    → (Breaks mid now acts → IsCut e old now (Met event)) → OnErr r (Breaks mid now acts) → IfErr r (λ stop. PerformCause stop before after) → IfErr r (λ stop. BrokeOff stop e old now)
broke-off-performing (Ok x) e event acts old mid now before after f b c = tt
broke-off-performing (Err stop) e event acts old mid now before after f b c = broke-off-by stop e event old now before after (f b) c

pub turned-performing : (r : Result (Option Leaving) Stop) (e now_e : Post) (event : LinkEvent) (acts : List Act) (old mid now : Places) → Follows e now_e [] acts (turn_of (Met event)) → Moves old mid (entry_of event ∷ []) []
    → IfOk r (λ leaving. Performs mid now acts × (leaving ≡ leaving_in acts)) → IfOk r (λ leaving. (event : LinkEvent) × Turned leaving e now_e old now (Met event))
turned-performing (Err stop) e now_e event acts old mid now f m p = tt
turned-performing (Ok leaving) e now_e event acts old mid now f m p = (event, turned leaving e now_e acts (Met event) old mid now f m p.0 p.1)

-- ---- the start

pub worked-start : (first : Worker) (old now : Places) (e now_e : Post) (acts : List Act) → Follows e now_e [] acts starts → Performs old now acts → Stands e first → Worked first old now now_e
worked-start first old now e now_e acts f p s =
    let t = turned (leaving_in acts) e now_e acts Started old old now f (moves-none old) p refl first s in
    record {
      events = [];
      at_work = ap leaving_in (append-nil (starts first).1) ∙ starting-stays first.duty.over first refl;
      stands = t.0;
      done = t.2;
    }

halts-at-start : (stop : Stop) (first : Worker) (old now : Places) → IsCutBy stop first old now [] → Halted stop first old now
halts-at-start stop first old now c = record { calls = []; in_turn = tt; at_work = refl; cut = c }

pub halted-unstarted : (stop : Stop) (first : Worker) (old : Places) → stop ≡ stops.NoMemory → Halted stop first old old
halted-unstarted stop first old is = subst (λ (x : Stop). Halted x first old old) (sym is) (halts-at-start stops.NoMemory first old old (inl (moves-none old)))

pub halted-start : (stop : Stop) (first : Worker) (old now : Places) (e now_e : Post) (acts : List Act) (before after : Counts)
    → Follows e now_e [] acts starts → Breaks old now acts → PerformCause stop before after → Stands e first → Halted stop first old now
halted-start stop first old now e now_e acts before after f b cause s =
    let part : IsPart first old now [] = (Started, tt, cut e now_e acts Started old old now f (moves-none old) b first s) in
    halts-at-start stop first old now (of part stop cause)
  where
    of : IsPart first old now [] → (stop : Stop) → PerformCause stop before after → IsCutBy stop first old now []
    of part stops.NoMemory k = inr part
    of part stops.Read k = absurd k
    of part stops.Write k = part

pub halted-performing : {T : Type 0} (r : Result T Stop) (old now : Places) (e now_e : Post) (acts : List Act) (before after : Counts)
    → Follows e now_e [] acts starts → OnErr r (Breaks old now acts) → IfErr r (λ stop. PerformCause stop before after) → IfErr r (λ stop. (first : Worker) → Stands e first → Halted stop first old now)
halted-performing (Ok x) old now e now_e acts before after f b cause = tt
halted-performing (Err stop) old now e now_e acts before after f b cause = λ first s. halted-start stop first old now e now_e acts before after f b cause s

-- ---- an event

pub worked-met : (first : Worker) (old mid now : Places) (e now_e : Post) (event : LinkEvent) → Turned None e now_e mid now (Met event) → Worked first old mid e → Worked first old now now_e
worked-met first old mid now e now_e event t w =
    let calls = calls_of w.events in
    let turn = t (after calls first) w.stands in
    let more = calls-more w.events event in
    record {
      events = w.events ++ event ∷ [];
      at_work =
          ap (λ (l : List Call). leaving_in (acts_of l first)) (sym more)
          ∙ ap leaving_in (acts-more calls (Met event) first)
          ∙ stays (acts_of calls first) (turn_of (Met event) (after calls first)).1 w.at_work (sym turn.1);
      stands = subst (λ (l : List Call). Stands now_e (after l first)) more (subst (λ (x : Worker). Stands now_e x) (sym (after-more calls (Met event) first)) turn.0);
      done =
          subst (λ (l : List Call). AreDone old now (rounds l first)) more
          (subst (λ (l : List Round). AreDone old now l) (sym (rounds-more calls (Met event) first))
          (done-more old mid now (rounds calls first) (round_of (Met event) (after calls first) ∷ []) w.done turn.2));
    }

pub left-met : (leaving : Leaving) (first : Worker) (old mid now : Places) (e now_e : Post) (event : LinkEvent) → Turned (Some leaving) e now_e mid now (Met event) → Worked first old mid e → Left leaving first old now now_e
left-met leaving first old mid now e now_e event t w =
    let calls = calls_of w.events in
    let turn = t (after calls first) w.stands in
    record {
      events = w.events;
      last = event;
      at_work = w.at_work;
      leaves = sym turn.1;
      stands = turn.0;
      done = done-more old mid now (rounds calls first) (round_of (Met event) (after calls first) ∷ []) w.done turn.2;
    }

met-part : (first : Worker) (old mid now : Places) (e : Post) (event : LinkEvent) → IsCut e mid now (Met event) → (w : Worked first old mid e) → IsPart first old now (calls_of w.events)
met-part first old mid now e event c w =
    let calls = calls_of w.events in
    (Met event, in-turn-more w.events event, partly-more old mid now (rounds calls first) (round_of (Met event) (after calls first)) w.done (c (after calls first) w.stands))

still : (first : Worker) (old mid now : Places) (e : Post) → Moves mid now [] [] → (w : Worked first old mid e) → AreDone old now (rounds (calls_of w.events) first)
still first old mid now e m w =
    let r = rounds (calls_of w.events) first in
    subst (λ (l : List Round). AreDone old now l) (append-nil r) (done-more old mid now r [] w.done m)

halts : (stop : Stop) (first : Worker) (old mid now : Places) (e : Post) → (w : Worked first old mid e) → IsCutBy stop first old now (calls_of w.events) → Halted stop first old now
halts stop first old mid now e w c = record { calls = calls_of w.events; in_turn = in-turn w.events; at_work = w.at_work; cut = c }

pub halted-met : (stop : Stop) (first : Worker) (old mid now : Places) (e : Post) → BrokeOff stop e mid now → Worked first old mid e → Halted stop first old now
halted-met stops.NoMemory first old mid now e (inl m) w = halts stops.NoMemory first old mid now e w (inl (still first old mid now e m w))
halted-met stops.NoMemory first old mid now e (inr (event, c)) w = halts stops.NoMemory first old mid now e w (inr (met-part first old mid now e event c w))
halted-met stops.Read first old mid now e m w = halts stops.Read first old mid now e w (still first old mid now e m w)
halted-met stops.Write first old mid now e (event, c) w = halts stops.Write first old mid now e w (met-part first old mid now e event c w)
