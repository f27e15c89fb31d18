-- The client's end, call by call.
use Rattle.std.proofs.Common.{◌≡◌, ℕ, Bool, true, false, ◌||◌, List, [], ◌∷◌, ◌++◌, refl, sym, ap, subst, ◌∙◌, append_assoc, cond, Option, None, Some}
use Rattle.std.proofs.lemmas.List.Folds.{list_any-append}
use Rattle.std.specs.List.{list_any}
use Rattle.mj_base.specs.declared.limits.Limits.{Limits}
use Rattle.mj_base.specs.declared.link.LinkEvent.{LinkEvent}
use Rattle.mj_base.specs.declared.version.Version.{Version}
use Rattle.mj_base.specs.StandardLimits.{peer_limits}
use Rattle.mj_client_cmd.specs.declared.command.ClientReply.{ClientReply}
use Rattle.mj_wire.specs.StreamItems.{gained}
use Rattle.mj_wire.specs.WireState.{StandsFor, State}
use Rattle.mj_wire.specs.declared.item.WireItem.{WireItem}
use Rattle.mj_peer.specs.ClientEndRules.{Asked, Call, Client, Met, Turn, after, answers, counted, fresh, fresh_talk, gives, greets, happens, hears, is_its, meets, opens, quiets, reopens, request_acts, turn_of, verdict}
use Rattle.mj_peer.specs.ClientStands.{Does, Follows, FollowsTo, GoesOn, Stands}
use Rattle.mj_peer.specs.Sweeping.{beyond, ends, is_end, is_ready, is_ready_item, items, sweep}
use Rattle.mj_peer.specs.declared.act.Act.{Act}
use Rattle.mj_peer.specs.declared.act.Act.TheVariants as act
use Rattle.mj_peer.specs.declared.verdict.Verdict.TheVariants.{Again}
use Rattle.mj_peer.specs.declared.session.Session.{Session}
use Rattle.mj_peer.specs.declared.talk.Talk.{Talk}
use Rattle.mj_peer.proofs.SweepLemmas.{Goes, goes-done, goes-on, goes-stops, items-grow, nothing-ready}

-- a sweep over a piece's items so far
pub record SoFar (whole : Turn) (rest : List WireItem) (e : Session) (before now : List Act) : Type 0 where
  pub mid : Client
  pub stands : Stands e mid
  pub goes : Goes whole (sweep meets rest mid) before now

pub sweep-begins : (its : List WireItem) (e : Session) (acts : List Act) (c : Client) → Stands e c → SoFar (sweep meets its c) its e acts acts
sweep-begins its e acts c s = record { mid = c; stands = s; goes = record { state = refl; acts = refl } }

pub sweep-goes : (whole : Turn) (x : WireItem) (rest : List WireItem) (e next : Session) (before now later : List Act)
    → SoFar whole (x ∷ rest) e before now → FollowsTo false e next now later (meets x) → SoFar whole rest next before later
sweep-goes whole x rest e next before now later h f =
    let d = f h.mid h.stands in
    record {
      mid = (meets x h.mid).0;
      stands = d.0.stands;
      goes = goes-on (sweep meets rest) (ends (meets x h.mid)) (meets x h.mid) whole before now later (sym d.1) d.0.acts h.goes;
    }

does : (e : Session) (before now : List Act) (c : Client) (whole : Turn) → Stands e c → c ≡ whole.0 → now ≡ before ++ whole.1 → Does e before now whole
does e before now c whole s state acts = record { stands = subst (λ (k : Client). Stands e k) state s; acts = acts }

pub sweep-stops : (whole : Turn) (x : WireItem) (rest : List WireItem) (e next : Session) (before now later : List Act)
    → SoFar whole (x ∷ rest) e before now → FollowsTo true e next now later (meets x) → Does next before later whole
sweep-stops whole x rest e next before now later h f =
    let d = f h.mid h.stands in
    let g = goes-stops (sweep meets rest) (ends (meets x h.mid)) (meets x h.mid) whole before now later (sym d.1) d.0.acts h.goes in
    does next before later (meets x h.mid).0 whole d.0.stands g.0 g.1

pub sweep-is_done : (whole : Turn) (e : Session) (before now : List Act) → SoFar whole [] e before now → Does e before now whole
sweep-is_done whole e before now h = let g = goes-done h.mid whole before now h.goes in does e before now h.mid whole h.stands g.0 g.1

-- the reader took a piece
pub taken : (e next : Session) (c : Client) (piece : List ℕ) (added : List WireItem) → Stands e c → next.talk ≡ e.talk → StandsFor peer_limits next.wire (c.stream ++ piece)
    → added ≡ beyond c.stream piece → next.ready ≡ (e.ready || list_any is_ready_item added) → Stands next (record c { stream = c.stream ++ piece })
taken e next c piece added s talk wire added_is ready = record {
  talk = talk ∙ s.talk;
  wire = wire;
  ready = ready ∙ ap (λ (r : Bool). r || list_any is_ready_item added) s.ready ∙ ap (λ (l : List WireItem). is_ready c.stream || list_any is_ready_item l) added_is
      ∙ sym (ap (λ (l : List WireItem). list_any is_ready_item l) (items-grow peer_limits e.wire c.stream piece s.wire) ∙ list_any-append is_ready_item (items c.stream) (beyond c.stream piece));
}

-- and its items were met
pub given : (e next now : Session) (piece : List ℕ) (added : List WireItem) (before later : List Act)
    → ((limits : Limits) (stream : List ℕ) → StandsFor limits e.wire stream → StandsFor limits next.wire (stream ++ piece))
    → ((limits : Limits) (stream : List ℕ) → StandsFor limits e.wire stream → added ≡ gained limits stream piece)
    → next.talk ≡ e.talk → next.ready ≡ (e.ready || list_any is_ready_item added) → Follows next now before later (sweep meets added) → Follows e now before later (gives piece)
given e next now piece added before later wire its talk ready f = λ c s.
    let fed = wire peer_limits c.stream s.wire in
    let due = its peer_limits c.stream s.wire in
    subst (λ (l : List WireItem). Does now before later (sweep meets l (record c { stream = c.stream ++ piece }))) due
    (f (record c { stream = c.stream ++ piece }) (taken e next c piece added s talk fed due ready))

-- ---- links

pub reader : (limits : Limits) (w : State) → limits ≡ peer_limits → StandsFor limits w [] → StandsFor peer_limits w []
reader limits w e s = subst (λ (l : Limits). StandsFor l w []) e s

pub new-stands : (w : State) (talk : Talk) (version : Version) (service : List ℕ) (tries wait : ℕ) → StandsFor peer_limits w [] → talk ≡ fresh_talk version service tries wait
    → Stands (record { wire = w; ready = false; talk = talk }) (fresh version service tries wait)
new-stands w talk version service tries wait stands talk_is = record { talk = talk_is; wire = stands; ready = sym nothing-ready }

pub reopened : (old : Session) (w : State) (before one later : List Act) → StandsFor peer_limits w [] → one ≡ before ++ act.Reopen ∷ [] → later ≡ one ++ greets old.talk.version
    → Follows old (record { wire = w; ready = false; talk = record old.talk { linked = true } }) before later reopens
reopened old w before one later stands o a = λ c s. record {
  stands = record { talk = ap (λ (t : Talk). record t { linked = true }) s.talk; wire = stands; ready = sym nothing-ready };
  acts = a ∙ ap (λ (l : List Act). l ++ greets old.talk.version) o ∙ append_assoc before (act.Reopen ∷ []) (greets old.talk.version)
      ∙ ap (λ (t : Talk). before ++ act.Reopen ∷ greets t.version) s.talk;
}

-- ---- quiet events

pub quiet-again : (old now : Session) (ended : Bool) (before later : List Act) → verdict ended old.talk.request old.talk ≡ Again
    → Follows (record old { talk = counted old.talk.request old.talk }) now before later reopens → FollowsTo true old now before later (quiets ended)
quiet-again old now ended before later v f = λ c s.
    let k : verdict ended c.talk.request c.talk ≡ Again = subst (λ (t : Talk). verdict ended t.request t ≡ Again) s.talk v in
    let counted_c : Client = record c { talk = counted c.talk.request c.talk } in
    rw k (f counted_c (record { talk = ap (λ (t : Talk). counted t.request t) s.talk; wire = s.wire; ready = s.ready }), refl)

-- what ends nothing
pub requests-end-nothing : (request : Option (List (List ℕ))) (t : Talk) → list_any is_end (request_acts request t) ≡ false
requests-end-nothing None t = refl
requests-end-nothing (Some body) t = refl

answers-end-nothing : (last : Bool) (body : List (List ℕ)) (c : Client) → ends (answers last body c) ≡ false
answers-end-nothing true body c = refl
answers-end-nothing false body c = refl

pub hearing-ends-nothing : (r : Option ClientReply) (c : Client) → ends (hears r c) ≡ false
hearing-ends-nothing None c = refl
hearing-ends-nothing (Some r) c = by (is_its c.talk r)
  where
    by : (b : Bool) → ends (cond {A = Turn} b (answers r.last r.body c) (c, [])) ≡ false
    by true = answers-end-nothing r.last r.body c
    by false = refl

-- ---- runs

pub after-one-more : (calls : List Call) (call : Call) (first : Client) → after (calls ++ call ∷ []) first ≡ (turn_of call (after calls first)).0
after-one-more [] call first = refl
after-one-more (x ∷ calls) call first = after-one-more calls call (turn_of x first).0

over-turn : (call : Call) (c : Client) → c.talk.over ≡ true → turn_of call c ≡ (c, [])
over-turn (Asked body) c o = rw o refl
over-turn (Met event) c o = rw o refl

pub run-goes-on : (old now : Session) (acts : List Act) (call : Call) → Follows old now [] acts (turn_of call) → GoesOn old now acts call
run-goes-on old now acts call f = λ first calls s.
    let d = f (after calls first) s in
    (subst (λ (k : Client). Stands now k) (sym (after-one-more calls call first)) d.stands, d.acts)

-- after `NoAnswer`
pub run-is-over : (e : Session) (acts : List Act) (call : Call) → e.talk.over ≡ true → acts ≡ [] → GoesOn e e acts call
run-is-over e acts call o none = run-goes-on e e acts call (λ c s.
    let still = over-turn call c (ap (λ (t : Talk). t.over) (sym s.talk) ∙ o) in
    record { stands = subst (λ (k : Client). Stands e k) (ap (λ (t : Turn). t.0) (sym still)) s; acts = none ∙ ap (λ (t : Turn). t.1) (sym still) })

asks-go : (body : List (List ℕ)) (c : Client) → c.talk.over ≡ false → opens body c ≡ turn_of (Asked body) c
asks-go body c e = sym (ap (λ (b : Bool). cond {A = Turn} b (c, []) (opens body c)) e)

steps-go : (event : LinkEvent) (c : Client) → c.talk.over ≡ false → happens event c ≡ turn_of (Met event) c
steps-go event c e = sym (ap (λ (b : Bool). cond {A = Turn} b (c, []) (happens event c)) e)

goes-on-as : (old now : Session) (before acts : List Act) (call : Call) (turn : Client → Turn) → old.talk.over ≡ false → before ≡ [] → ((c : Client) → c.talk.over ≡ false → turn c ≡ turn_of call c)
    → Follows old now before acts turn → GoesOn old now acts call
goes-on-as old now before acts call turn go none is f = run-goes-on old now acts call (λ c s.
    let fine : c.talk.over ≡ false = ap (λ (t : Talk). t.over) (sym s.talk) ∙ go in
    subst (λ (t : Turn). Does now [] acts t) (is c fine) (subst (λ (l : List Act). Does now l acts (turn c)) none (f c s)))

pub asked-run : (old now : Session) (before acts : List Act) (body : List (List ℕ)) → old.talk.over ≡ false → before ≡ [] → Follows old now before acts (opens body) → GoesOn old now acts (Asked body)
asked-run old now before acts body go none f = goes-on-as old now before acts (Asked body) (opens body) go none (asks-go body) f

pub met-run : (old now : Session) (before acts : List Act) (event : LinkEvent) → old.talk.over ≡ false → before ≡ [] → Follows old now before acts (happens event) → GoesOn old now acts (Met event)
met-run old now before acts event go none f = goes-on-as old now before acts (Met event) (happens event) go none (steps-go event) f
