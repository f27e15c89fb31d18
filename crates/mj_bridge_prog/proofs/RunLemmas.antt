-- A run of a bridge, call by call.
use Rattle.std.proofs.Common.{◌≡◌, ◌<◌, ◌≤◌, ◌+◌, ℕ, drop, get_or, length, true, false, Bool, List, [], ◌∷◌, ◌++◌, refl, sym, ap, subst, ◌∙◌, append_assoc, append-nil, inl, inr, Option, None, Some, Result, Ok, Err, OnErr, IfErr, IfOk, cond}
use Rattle.std.proofs.lemmas.List.{drop_more}
use Rattle.std.proofs.Math.ListN.{drop_of_length-le}
use Rattle.mj_base.specs.declared.link.LinkEvent.{LinkEvent}
use Rattle.mj_bridge.specs.BridgeRules.{Bridge, Call, FarGave, NearGave, Started, after, all_acts, near_turn, starts, turn_of}
use Rattle.mj_bridge.specs.BridgeStands.{Follows, Stands}
use Rattle.mj_bridge.specs.declared.act.BridgeAct.{BridgeAct}
use Rattle.mj_bridge.specs.declared.deck.Deck.{Deck}
use Rattle.mj_bridge_prog.specs.BridgeRun.{AreTurns, BrokeOff, Halted, IsCut, IsCutBy, IsPart, Left, Turned, Worked, acts_by, acts_of, far_read_of, leaving_by, leaving_in, near_read_of, round_of, rounds}
use Rattle.mj_bridge_prog.specs.Sides.{AreDone, Breaks, Counts, Moves, PerformCause, Performs, Round, Sides}
use Rattle.mj_peer.specs.WorkerEndRules as Worker
use Rattle.mj_peering.specs.Requests.{ReadCause}
use Rattle.mj_peering.specs.WorkerRun.{first_of}
use Rattle.mj_peering.specs.declared.leaving.Leaving.{Leaving}
use Rattle.mj_peering.specs.declared.stop.Stop.{Stop}
use Rattle.mj_peering.specs.declared.stop.Stop.TheVariants as stops
use Rattle.mj_bridge_prog.proofs.SideLemmas.{done-more, moves-none, partly-more, round-cut, round-done}

-- ---- lists of calls

after-more : (calls : List Call) (call : Call) (first : Bridge) → after (calls ++ call ∷ []) first ≡ (turn_of call (after calls first)).0
after-more [] call first = refl
after-more (x ∷ calls) call first = after-more calls call (turn_of x first).0

rounds-more : (calls : List Call) (call : Call) (first : Bridge) → rounds (calls ++ call ∷ []) first ≡ rounds calls first ++ round_of call (after calls first) ∷ []
rounds-more [] call first = refl
rounds-more (x ∷ calls) call first = ap (λ (l : List Round). round_of x first ∷ l) (rounds-more calls call (turn_of x first).0)

acts-more : (calls : List Call) (call : Call) (first : Bridge) → acts_of (calls ++ call ∷ []) first ≡ acts_of calls first ++ acts_by call (after calls first)
acts-more [] call first = append-nil (acts_by call first)
acts-more (x ∷ calls) call first =
    ap (λ (l : List BridgeAct). acts_by x first ++ l) (acts-more calls call (turn_of x first).0)
    ∙ sym (append_assoc (acts_by x first) (acts_of calls (turn_of x first).0) (acts_by call (after calls (turn_of x first).0)))

-- a call more, where it's the turn of its link
abbrev pub IsNext : Bool → Call → Bool → Type 0
IsNext next call now = AreTurns next (call ∷ []) now

turns-more : (turns : List Call) (start next now : Bool) (call : Call) → AreTurns start turns next → IsNext next call now → AreTurns start (turns ++ call ∷ []) now
turns-more [] start next now call a b = subst (λ (s : Bool). AreTurns s (call ∷ []) now) (sym a) b
turns-more (Started ∷ turns) start next now call a b = absurd a
turns-more (NearGave e ∷ turns) true next now call a b = turns-more turns false next now call a b
turns-more (NearGave e ∷ turns) false next now call a b = absurd a
turns-more (FarGave e ∷ turns) true next now call a b = absurd a
turns-more (FarGave e ∷ turns) false next now call a b = turns-more turns true next now call a b

-- ---- leaving

none-first : (a b : Option Leaving) → a ≡ None → first_of a b ≡ b
none-first a b e = ap (λ (o : Option Leaving). first_of o b) e

first-assoc : (a b c : Option Leaving) → first_of (first_of a b) c ≡ first_of a (first_of b c)
first-assoc None b c = refl
first-assoc (Some x) b c = refl

leaving-append : (xs ys : List BridgeAct) → leaving_in (xs ++ ys) ≡ first_of (leaving_in xs) (leaving_in ys)
leaving-append [] ys = refl
leaving-append (x ∷ xs) ys = ap (λ (o : Option Leaving). first_of (leaving_by x) o) (leaving-append xs ys) ∙ sym (first-assoc (leaving_by x) (leaving_in xs) (leaving_in ys))

stays : (xs ys : List BridgeAct) → leaving_in xs ≡ None → leaving_in ys ≡ None → leaving_in (xs ++ ys) ≡ None
stays xs ys a b = leaving-append xs ys ∙ none-first (leaving_in xs) (leaving_in ys) a ∙ b

-- an act more
leaving-at : (acts : List BridgeAct) (i : ℕ) (a : BridgeAct) → i < length acts → a ≡ get_or acts i a → leaving_in (drop i acts) ≡ first_of (leaving_by a) (leaving_in (drop (i + 1) acts))
leaving-at acts i a inside is = ap leaving_in (drop_more acts i a inside ∙ ap (λ (x : BridgeAct). x ∷ drop (i + 1) acts) (sym is))

pub leaving-some : (acts : List BridgeAct) (i : ℕ) (a : BridgeAct) (leaving : Leaving) → i < length acts → a ≡ get_or acts i a → leaving_by a ≡ Some leaving → leaving_in acts ≡ leaving_in (drop i acts)
    → leaving_in acts ≡ Some leaving
leaving-some acts i a leaving inside is leaves so_far = so_far ∙ leaving-at acts i a inside is ∙ ap (λ (o : Option Leaving). first_of o (leaving_in (drop (i + 1) acts))) leaves

pub leaving-none : (acts : List BridgeAct) (i : ℕ) (a : BridgeAct) → i < length acts → a ≡ get_or acts i a → leaving_by a ≡ None → leaving_in acts ≡ leaving_in (drop i acts)
    → leaving_in acts ≡ leaving_in (drop (i + 1) acts)
leaving-none acts i a inside is leaves so_far = so_far ∙ leaving-at acts i a inside is ∙ ap (λ (o : Option Leaving). first_of o (leaving_in (drop (i + 1) acts))) leaves

pub leaving-end : (acts : List BridgeAct) (i : ℕ) → length acts ≤ i → leaving_in acts ≡ leaving_in (drop i acts) → leaving_in acts ≡ None
leaving-end acts i over so_far = so_far ∙ ap leaving_in (drop_of_length-le acts over)

starting-stays : (over : Bool) (b : Bridge) → leaving_in (all_acts (near_turn (cond {A = Worker.Turn} over (b.near, []) (b.near, Worker.greets)) b).1) ≡ None
starting-stays true b = refl
starting-stays false b = refl

-- ---- a call

-- the bridge gave the call's acts, and they were done
pub turned : (leaving : Option Leaving) (e now_e : Deck) (acts : List BridgeAct) (call : Call) (old mid now : Sides)
    → Follows e now_e [] acts (turn_of call) → Moves old mid (near_read_of call) (far_read_of call) → Performs mid now acts → leaving ≡ leaving_in acts → Turned leaving e now_e old now call
turned leaving e now_e acts call old mid now f r p is = λ b s.
    let d = f b s in
    (d.stands, is ∙ ap leaving_in d.acts, round-done old mid now (round_of call b) r (subst (λ (l : List BridgeAct). Performs mid now l) d.acts p))

pub cut : (e now_e : Deck) (acts : List BridgeAct) (call : Call) (old mid now : Sides) → Follows e now_e [] acts (turn_of call) → Moves old mid (near_read_of call) (far_read_of call) → Breaks mid now acts → IsCut e old now call
cut e now_e acts call old mid now f r k = λ b s.
    let d = f b s in
    round-cut old mid now (round_of call b) r (subst (λ (l : List BridgeAct). Breaks mid now l) d.acts k)

-- nothing of its acts was done
cut-before : (e : Deck) (call : Call) (old now : Sides) → Moves old now (near_read_of call) (far_read_of call) → IsCut e old now call
cut-before e call old now r = λ b s.
    let acts = acts_by call b in
    round-cut old now now (round_of call b) r (record { done = []; rest = acts; whole = refl; moved = moves-none now })

-- ---- where a call broke off

pub broke-off-reading : (stop : Stop) (call : LinkEvent → Call) (e : Deck) (old now : Sides) (before later : ℕ) → Moves old now [] [] → ReadCause stop before later → BrokeOff stop call e old now
broke-off-reading stops.NoMemory call e old now before later m c = inl m
broke-off-reading stops.Read call e old now before later m c = m
broke-off-reading stops.Write call e old now before later m c = absurd c

pub broke-off-before : (stop : Stop) (call : LinkEvent → Call) (e : Deck) (event : LinkEvent) (old now : Sides) → stop ≡ stops.NoMemory → Moves old now (near_read_of (call event)) (far_read_of (call event)) → BrokeOff stop call e old now
broke-off-before stop call e event old now is m = subst (λ (x : Stop). BrokeOff x call e old now) (sym is) (inr (event, cut-before e (call event) old now m))

broke-off-by : (stop : Stop) (call : LinkEvent → Call) (e : Deck) (event : LinkEvent) (old now : Sides) (before later : Counts) → IsCut e old now (call event) → PerformCause stop before later → BrokeOff stop call e old now
broke-off-by stops.NoMemory call e event old now before later k c = inr (event, k)
broke-off-by stops.Read call e event old now before later k c = absurd c
broke-off-by stops.Write call e event old now before later k c = (event, k)

pub broke-off-performing : {T : Type 0} (r : Result T Stop) (call : LinkEvent → Call) (e : Deck) (event : LinkEvent) (acts : List BridgeAct) (old mid now : Sides) (before later : Counts)
    → (Breaks mid now acts → IsCut e old now (call event)) → OnErr r (Breaks mid now acts) → IfErr r (λ stop. PerformCause stop before later) → IfErr r (λ stop. BrokeOff stop call e old now)
broke-off-performing (Ok x) call e event acts old mid now before later f b c = tt
broke-off-performing (Err stop) call e event acts old mid now before later f b c = broke-off-by stop call e event old now before later (f b) c

pub turned-performing : (r : Result (Option Leaving) Stop) (call : LinkEvent → Call) (e now_e : Deck) (event : LinkEvent) (acts : List BridgeAct) (old mid now : Sides) → Follows e now_e [] acts (turn_of (call event))
    → Moves old mid (near_read_of (call event)) (far_read_of (call event)) → IfOk r (λ leaving. Performs mid now acts × (leaving ≡ leaving_in acts))
    → IfOk r (λ leaving. (event : LinkEvent) × Turned leaving e now_e old now (call event))
turned-performing (Err stop) call e now_e event acts old mid now f m p = tt
turned-performing (Ok leaving) call e now_e event acts old mid now f m p = (event, turned leaving e now_e acts (call event) old mid now f m p.0 p.1)

-- ---- the start

pub worked-start : (first : Bridge) (old now : Sides) (e now_e : Deck) (acts : List BridgeAct) → Follows e now_e [] acts starts → Performs old now acts → Stands e first → Worked first old now now_e true
worked-start first old now e now_e acts f p s =
    let t = turned (leaving_in acts) e now_e acts Started old old now f (moves-none old) p refl first s in
    record {
      turns = [];
      in_turn = refl;
      at_work = ap leaving_in (append-nil (acts_by Started first)) ∙ starting-stays first.near.duty.over first;
      stands = t.0;
      done = t.2;
    }

halts-at-start : (stop : Stop) (first : Bridge) (old now : Sides) → IsCutBy stop first old now [] → Halted stop first old now
halts-at-start stop first old now c = record { calls = []; in_turn = tt; at_work = refl; cut = c }

pub halted-unstarted : (stop : Stop) (first : Bridge) (old : Sides) → stop ≡ stops.NoMemory → Halted stop first old old
halted-unstarted stop first old is = subst (λ (x : Stop). Halted x first old old) (sym is) (halts-at-start stops.NoMemory first old old (inl (moves-none old)))

halted-start : (stop : Stop) (first : Bridge) (old now : Sides) (e now_e : Deck) (acts : List BridgeAct) (before later : Counts)
    → Follows e now_e [] acts starts → Breaks old now acts → PerformCause stop before later → Stands e first → Halted stop first old now
halted-start stop first old now e now_e acts before later f b cause s =
    let part : IsPart first old now [] = (Started, (true, refl), cut e now_e acts Started old old now f (moves-none old) b first s) in
    halts-at-start stop first old now (of part stop cause)
  where
    of : IsPart first old now [] → (stop : Stop) → PerformCause stop before later → IsCutBy stop first old now []
    of part stops.NoMemory k = inr part
    of part stops.Read k = absurd k
    of part stops.Write k = part

pub halted-performing : {T : Type 0} (r : Result T Stop) (old now : Sides) (e now_e : Deck) (acts : List BridgeAct) (before later : Counts)
    → Follows e now_e [] acts starts → OnErr r (Breaks old now acts) → IfErr r (λ stop. PerformCause stop before later) → IfErr r (λ stop. (first : Bridge) → Stands e first → Halted stop first old now)
halted-performing (Ok x) old now e now_e acts before later f b cause = tt
halted-performing (Err stop) old now e now_e acts before later f b cause = λ first s. halted-start stop first old now e now_e acts before later f b cause s

-- ---- a turn

pub worked-met : (first : Bridge) (old mid now : Sides) (e now_e : Deck) (call : Call) (next later : Bool) → IsNext next call later → Turned None e now_e mid now call → Worked first old mid e next → Worked first old now now_e later
worked-met first old mid now e now_e call next later is t w =
    let calls = Started ∷ w.turns in
    let turn = t (after calls first) w.stands in
    record {
      turns = w.turns ++ call ∷ [];
      in_turn = turns-more w.turns true next later call w.in_turn is;
      at_work = ap leaving_in (acts-more calls call first) ∙ stays (acts_of calls first) (acts_by call (after calls first)) w.at_work (sym turn.1);
      stands = subst (λ (x : Bridge). Stands now_e x) (sym (after-more calls call first)) turn.0;
      done =
          subst (λ (l : List Round). AreDone old now l) (sym (rounds-more calls call first))
          (done-more old mid now (rounds calls first) (round_of call (after calls first) ∷ []) w.done turn.2);
    }

pub left-met : (leaving : Leaving) (first : Bridge) (old mid now : Sides) (e now_e : Deck) (call : Call) (next later : Bool) → IsNext next call later → Turned (Some leaving) e now_e mid now call → Worked first old mid e next
    → Left leaving first old now now_e
left-met leaving first old mid now e now_e call next later is t w =
    let calls = Started ∷ w.turns in
    let turn = t (after calls first) w.stands in
    record {
      calls = calls;
      last = call;
      in_turn = (later, turns-more w.turns true next later call w.in_turn is);
      at_work = w.at_work;
      leaves = sym turn.1;
      stands = turn.0;
      done = done-more old mid now (rounds calls first) (round_of call (after calls first) ∷ []) w.done turn.2;
    }

met-part : (first : Bridge) (old mid now : Sides) (e : Deck) (call : Call) (next later : Bool) → IsNext next call later → IsCut e mid now call → (w : Worked first old mid e next) → IsPart first old now (Started ∷ w.turns)
met-part first old mid now e call next later is c w =
    let calls = Started ∷ w.turns in
    (call, (later, turns-more w.turns true next later call w.in_turn is), partly-more old mid now (rounds calls first) (round_of call (after calls first)) w.done (c (after calls first) w.stands))

still : (first : Bridge) (old mid now : Sides) (e : Deck) (next : Bool) → Moves mid now [] [] → (w : Worked first old mid e next) → AreDone old now (rounds (Started ∷ w.turns) first)
still first old mid now e next m w =
    let r = rounds (Started ∷ w.turns) first in
    subst (λ (l : List Round). AreDone old now l) (append-nil r) (done-more old mid now r [] w.done m)

halts : (stop : Stop) (first : Bridge) (old mid now : Sides) (e : Deck) (next : Bool) → (w : Worked first old mid e next) → IsCutBy stop first old now (Started ∷ w.turns) → Halted stop first old now
halts stop first old mid now e next w c = record { calls = Started ∷ w.turns; in_turn = (next, w.in_turn); at_work = w.at_work; cut = c }

pub halted-met : (stop : Stop) (call : LinkEvent → Call) (first : Bridge) (old mid now : Sides) (e : Deck) (next later : Bool) → ((event : LinkEvent) → IsNext next (call event) later) → BrokeOff stop call e mid now
    → Worked first old mid e next → Halted stop first old now
halted-met stops.NoMemory call first old mid now e next later is (inl m) w = halts stops.NoMemory first old mid now e next w (inl (still first old mid now e next m w))
halted-met stops.NoMemory call first old mid now e next later is (inr (event, c)) w = halts stops.NoMemory first old mid now e next w (inr (met-part first old mid now e (call event) next later (is event) c w))
halted-met stops.Read call first old mid now e next later is m w = halts stops.Read first old mid now e next w (still first old mid now e next m w)
halted-met stops.Write call first old mid now e next later is (event, c) w = halts stops.Write first old mid now e next w (met-part first old mid now e (call event) next later (is event) c w)
