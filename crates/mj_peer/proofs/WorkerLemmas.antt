-- The worker's end, call by call.
use Rattle.std.proofs.Common.{◌≡◌, ℕ, zero, suc, Bool, true, false, ◌||◌, List, [], ◌∷◌, ◌++◌, refl, sym, ap, subst, ◌∙◌, append_assoc, cond, ◌+◌, ◌%◌, ◌==◌}
use Rattle.std.proofs.lemmas.List.Folds.{list_any-append}
use Rattle.std.specs.List.{list_any}
use Rattle.mj_base.specs.declared.limits.Limits.{Limits}
use Rattle.mj_base.specs.declared.link.LinkEvent.{LinkEvent}
use Rattle.mj_base.specs.declared.version.Version.{Version}
use Rattle.mj_base.specs.declared.version.Version.TheVariants.{One, Two}
use Rattle.std.specs.Prelude.{replicate}
use Rattle.mj_base.specs.StandardLimits.{peer_limits}
use Rattle.mj_wire.specs.WireState.{StandsFor, State}
use Rattle.mj_wire.specs.declared.item.WireItem.{WireItem}
use Rattle.mj_peer.specs.WorkerEndRules.{Call, Met, Started, Turn, Worker, after, answer, answers, beat_acts, counted, finishing, fresh, fresh_duty, gives, greets, happens, heard, hearing, idles_on, idling, meets, obeys, partials, quiets, reopens, rests, served, serves, takes, turn_of, verdict}
use Rattle.mj_peer.specs.WorkerStands.{Does, Follows, FollowsTo, GoesOn, Stands}
use Rattle.mj_peer.specs.Sweeping.{beyond, ends, is_end, is_ready, is_ready_item, items, sweep}
use Rattle.mj_peer.specs.declared.act.Act.{Act}
use Rattle.mj_peer.specs.declared.act.Act.TheVariants as act
use Rattle.mj_peer.specs.declared.duty.Duty.{Duty}
use Rattle.mj_peer.specs.declared.verdict.Verdict.TheVariants.{Again, Stay}
use Rattle.mj_worker_cmd.specs.declared.command.OrderAct.{OrderAct}
use Rattle.mj_worker_cmd.specs.declared.command.OrderAct.TheVariants as order
use Rattle.mj_worker_cmd.specs.declared.command.WorkerAct.TheVariants as said
use Rattle.mj_peer.specs.PeerTexts.{said_text}
use Rattle.mj_peer.specs.declared.post.Post.{Post}
use Rattle.mj_peer.proofs.SweepLemmas.{Goes, goes-done, goes-on, goes-stops, items-grow, nothing-ready}

-- a sweep over a piece's items so far
pub record SoFar (whole : Turn) (rest : List WireItem) (e : Post) (before now : List Act) : Type 0 where
  pub mid : Worker
  pub stands : Stands e mid
  pub goes : Goes whole (sweep meets rest mid) before now

pub sweep-begins : (its : List WireItem) (e : Post) (acts : List Act) (w : Worker) → Stands e w → SoFar (sweep meets its w) its e acts acts
sweep-begins its e acts w s = record { mid = w; stands = s; goes = record { state = refl; acts = refl } }

pub sweep-goes : (whole : Turn) (x : WireItem) (rest : List WireItem) (e next : Post) (before now later : List Act)
    → SoFar whole (x ∷ rest) e before now → FollowsTo false e next now later (meets x) → SoFar whole rest next before later
sweep-goes whole x rest e next before now later h f =
    let d = f h.mid h.stands in
    record {
      mid = (meets x h.mid).0;
      stands = d.0.stands;
      goes = goes-on (sweep meets rest) (ends (meets x h.mid)) (meets x h.mid) whole before now later (sym d.1) d.0.acts h.goes;
    }

does : (e : Post) (before now : List Act) (w : Worker) (whole : Turn) → Stands e w → w ≡ whole.0 → now ≡ before ++ whole.1 → Does e before now whole
does e before now w whole s state acts = record { stands = subst (λ (k : Worker). Stands e k) state s; acts = acts }

pub sweep-stops : (whole : Turn) (x : WireItem) (rest : List WireItem) (e next : Post) (before now later : List Act)
    → SoFar whole (x ∷ rest) e before now → FollowsTo true e next now later (meets x) → Does next before later whole
sweep-stops whole x rest e next before now later h f =
    let d = f h.mid h.stands in
    let g = goes-stops (sweep meets rest) (ends (meets x h.mid)) (meets x h.mid) whole before now later (sym d.1) d.0.acts h.goes in
    does next before later (meets x h.mid).0 whole d.0.stands g.0 g.1

pub sweep-is_done : (whole : Turn) (e : Post) (before now : List Act) → SoFar whole [] e before now → Does e before now whole
sweep-is_done whole e before now h = let g = goes-done h.mid whole before now h.goes in does e before now h.mid whole h.stands g.0 g.1

-- the reader took a piece
pub taken : (e next : Post) (w : Worker) (piece : List ℕ) (added : List WireItem) → Stands e w → next.duty ≡ e.duty → next.beat ≡ e.beat → StandsFor peer_limits next.wire (w.stream ++ piece)
    → added ≡ beyond w.stream piece → next.ready ≡ (e.ready || list_any is_ready_item added) → Stands next (takes piece w)
taken e next w piece added s duty beat wire added_is ready = record {
  duty = duty ∙ s.duty;
  wire = wire;
  ready = ready ∙ ap (λ (r : Bool). r || list_any is_ready_item added) s.ready ∙ ap (λ (l : List WireItem). is_ready w.stream || list_any is_ready_item l) added_is
      ∙ sym (ap (λ (l : List WireItem). list_any is_ready_item l) (items-grow peer_limits e.wire w.stream piece s.wire) ∙ list_any-append is_ready_item (items w.stream) (beyond w.stream piece));
  beat = beat ∙ s.beat;
}

-- and its items were met
pub given : (e next now : Post) (piece : List ℕ) (added : List WireItem) (before later : List Act) → ((w : Worker) → Stands e w → Stands next (takes piece w))
    → ((w : Worker) → Stands e w → added ≡ beyond w.stream piece) → Follows next now before later (sweep meets added) → Follows e now before later (gives piece)
given e next now piece added before later stands its f = λ w s.
    subst (λ (l : List WireItem). Does now before later (sweep meets l (takes piece w))) (its w s) (f (takes piece w) (stands w s))

-- ---- REQUESTs

replies-end-nothing : (n : ℕ) (text : List ℕ) → list_any is_end (replicate n (act.Write text)) ≡ false
replies-end-nothing zero text = refl
replies-end-nothing (suc n) text = replies-end-nothing n text

partials-end-nothing : (version : Version) (parts : ℕ) (address : List ℕ) (body : List (List ℕ)) → list_any is_end (partials version parts address body) ≡ false
partials-end-nothing One parts address body = refl
partials-end-nothing Two parts address body = replies-end-nothing parts (said_text Two (said.Reply false address body))

answers-end-nothing : (d : Duty) (address : List ℕ) (body : List (List ℕ)) → list_any is_end (answers d address body) ≡ false
answers-end-nothing d address body =
    list_any-append is_end (partials d.version d.parts address body) (answer d.version true address body ∷ act.Served ∷ []) ∙ ap (λ (b : Bool). b || false) (partials-end-nothing d.version d.parts address body)

pub answered : (old now : Post) (address : List ℕ) (body : List (List ℕ)) (text : List ℕ) (before one two three later : List Act) (ended : Bool)
    → one ≡ before ++ partials old.duty.version old.duty.parts address body → act.Write text ≡ answer old.duty.version true address body
    → two ≡ one ++ act.Write text ∷ [] → three ≡ two ++ act.Served ∷ []
    → FollowsTo ended (record old { duty = served old.duty }) now three later finishing → FollowsTo ended old now before later (serves address body)
answered old now address body text before one two three later ended parts final two_is three_is f = λ w s.
    let v : Worker = record w { duty = served w.duty } in
    let d = f v (record { duty = ap served s.duty; wire = s.wire; ready = s.ready; beat = s.beat }) in
    let front = partials old.duty.version old.duty.parts address body in
    let said_so : three ≡ before ++ answers old.duty address body =
    three_is ∙ ap (λ (l : List Act). l ++ act.Served ∷ []) (two_is ∙ ap (λ (l : List Act). l ++ act.Write text ∷ []) parts)
    ∙ append_assoc (before ++ front) (act.Write text ∷ []) (act.Served ∷ []) ∙ append_assoc before front (act.Write text ∷ act.Served ∷ [])
    ∙ ap (λ (a : Act). before ++ (front ++ (a ∷ act.Served ∷ []))) final in
    let whole : later ≡ before ++ (answers w.duty address body ++ (finishing v).1) =
    d.0.acts ∙ ap (λ (l : List Act). l ++ (finishing v).1) said_so ∙ append_assoc before (answers old.duty address body) (finishing v).1
    ∙ ap (λ (e : Duty). before ++ (answers e address body ++ (finishing v).1)) s.duty in
    let stops : ended ≡ list_any is_end (answers w.duty address body ++ (finishing v).1) =
    d.1 ∙ sym (list_any-append is_end (answers w.duty address body) (finishing v).1 ∙ ap (λ (b : Bool). b || ends (finishing v)) (answers-end-nothing w.duty address body)) in
    (record { stands = d.0.stands; acts = whole }, stops)

pub requested : (old now : Post) (asked : OrderAct) (address : List ℕ) (body : List (List ℕ)) (before later : List Act) (ended : Bool) → asked ≡ order.Request address body
    → FollowsTo ended (record old { duty = heard old.duty }) now before later (serves address body) → FollowsTo ended old now before later (obeys asked)
requested old now asked address body before later ended is f = λ w s.
    rw is (f (hearing w) (record { duty = ap heard s.duty; wire = s.wire; ready = s.ready; beat = s.beat }))

-- ---- links

pub reader : (limits : Limits) (w : State) → limits ≡ peer_limits → StandsFor limits w [] → StandsFor peer_limits w []
reader limits w e s = subst (λ (l : Limits). StandsFor l w []) e s

pub new-stands : (w : State) (duty : Duty) (version : Version) (service : List ℕ) (tries parts count : ℕ) → StandsFor peer_limits w [] → duty ≡ fresh_duty version service tries parts count
    → Stands (record { wire = w; ready = false; beat = 0; duty = duty }) (fresh version service tries parts count)
new-stands w duty version service tries parts count stands duty_is = record { duty = duty_is; wire = stands; ready = sym nothing-ready; beat = refl }

pub reopened : (old : Post) (w : State) (before one later : List Act) → StandsFor peer_limits w [] → one ≡ before ++ act.Reopen ∷ [] → later ≡ one ++ greets
    → Follows old (record { wire = w; ready = false; beat = 0; duty = old.duty }) before later reopens
reopened old w before one later stands o a = λ v s. record {
  stands = record { duty = s.duty; wire = stands; ready = sym nothing-ready; beat = refl };
  acts = a ∙ ap (λ (l : List Act). l ++ greets) o ∙ append_assoc before (act.Reopen ∷ []) greets;
}

-- ---- quiet events

count-stands : (old : Post) (w : Worker) → Stands old w → Stands (record old { duty = counted old.duty }) (record w { duty = counted w.duty })
count-stands old w s = record { duty = ap counted s.duty; wire = s.wire; ready = s.ready; beat = s.beat }

pub quiet-again : (old now : Post) (ended : Bool) (before later : List Act) → verdict ended old.duty ≡ Again
    → Follows (record old { duty = counted old.duty }) now before later reopens → FollowsTo true old now before later (quiets ended)
quiet-again old now ended before later v f = λ w s.
    let k : verdict ended w.duty ≡ Again = subst (λ (d : Duty). verdict ended d ≡ Again) s.duty v in
    rw k (f (record w { duty = counted w.duty }) (count-stands old w s), refl)

pub rest-again : (old now : Post) (before later : List Act) → verdict false old.duty ≡ Again
    → Follows (record old { duty = counted old.duty }) now before later reopens → FollowsTo true old now before later rests
rest-again old now before later v f = λ w s.
    let k : verdict false w.duty ≡ Again = subst (λ (d : Duty). verdict false d ≡ Again) s.duty v in
    rw k (f (record w { duty = counted w.duty }) (count-stands old w s), refl)

beats-end-nothing : (version : Version) (idles : ℕ) → list_any is_end (beat_acts version idles) ≡ false
beats-end-nothing version idles = by (idles % 25 == 0)
  where
    by : (b : Bool) → list_any is_end (cond b (act.Write (said_text version said.Heartbeat) ∷ []) []) ≡ false
    by true = refl
    by false = refl

idling-ends-nothing : (w : Worker) → ends (idling w) ≡ false
idling-ends-nothing w = by (is_ready w.stream)
  where
    by : (b : Bool) → ends (idles_on b w) ≡ false
    by true = beats-end-nothing w.duty.version (w.idles + 1)
    by false = refl

pub rest-stays : (old now : Post) (before later : List Act) → verdict false old.duty ≡ Stay
    → Follows (record old { duty = counted old.duty }) now before later idling → FollowsTo false old now before later rests
rest-stays old now before later v f = λ w s.
    let k : verdict false w.duty ≡ Stay = subst (λ (d : Duty). verdict false d ≡ Stay) s.duty v in
    let counted_w : Worker = record w { duty = counted w.duty } in
    rw k (f counted_w (count-stands old w s), sym (idling-ends-nothing counted_w))

-- ---- runs

pub after-one-more : (calls : List Call) (call : Call) (first : Worker) → after (calls ++ call ∷ []) first ≡ (turn_of call (after calls first)).0
after-one-more [] call first = refl
after-one-more (x ∷ calls) call first = after-one-more calls call (turn_of x first).0

pub run-goes-on : (old now : Post) (acts : List Act) (call : Call) → Follows old now [] acts (turn_of call) → GoesOn old now acts call
run-goes-on old now acts call f = λ first calls s.
    let d = f (after calls first) s in
    (subst (λ (k : Worker). Stands now k) (sym (after-one-more calls call first)) d.stands, d.acts)

over-turn : (call : Call) (w : Worker) → w.duty.over ≡ true → turn_of call w ≡ (w, [])
over-turn Started w o = rw o refl
over-turn (Met event) w o = rw o refl

-- after `Finished` or `NoAnswer`
pub run-is-over : (e : Post) (acts : List Act) (call : Call) → e.duty.over ≡ true → acts ≡ [] → GoesOn e e acts call
run-is-over e acts call o none = run-goes-on e e acts call (λ w s.
    let still = over-turn call w (ap (λ (d : Duty). d.over) (sym s.duty) ∙ o) in
    record { stands = subst (λ (k : Worker). Stands e k) (ap (λ (t : Turn). t.0) (sym still)) s; acts = none ∙ ap (λ (t : Turn). t.1) (sym still) })

starts-go : (w : Worker) → w.duty.over ≡ false → (w, greets) ≡ turn_of Started w
starts-go w e = sym (ap (λ (b : Bool). cond {A = Turn} b (w, []) (w, greets)) e)

steps-go : (event : LinkEvent) (w : Worker) → w.duty.over ≡ false → happens event w ≡ turn_of (Met event) w
steps-go event w e = sym (ap (λ (b : Bool). cond {A = Turn} b (w, []) (happens event w)) e)

goes-on-as : (old now : Post) (before acts : List Act) (call : Call) (turn : Worker → Turn) → old.duty.over ≡ false → before ≡ [] → ((w : Worker) → w.duty.over ≡ false → turn w ≡ turn_of call w)
    → Follows old now before acts turn → GoesOn old now acts call
goes-on-as old now before acts call turn go none is f = run-goes-on old now acts call (λ w s.
    let fine : w.duty.over ≡ false = ap (λ (d : Duty). d.over) (sym s.duty) ∙ go in
    subst (λ (t : Turn). Does now [] acts t) (is w fine) (subst (λ (l : List Act). Does now l acts (turn w)) none (f w s)))

pub started-run : (e : Post) (before acts : List Act) → e.duty.over ≡ false → before ≡ [] → acts ≡ before ++ greets → GoesOn e e acts Started
started-run e before acts go none a = goes-on-as e e before acts Started (λ w. (w, greets)) go none starts-go (λ w s. record { stands = s; acts = a })

pub met-run : (old now : Post) (before acts : List Act) (event : LinkEvent) → old.duty.over ≡ false → before ≡ [] → Follows old now before acts (happens event) → GoesOn old now acts (Met event)
met-run old now before acts event go none f = goes-on-as old now before acts (Met event) (happens event) go none (steps-go event) f
