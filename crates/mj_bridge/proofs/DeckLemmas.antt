-- The bridge's machine, call by call.
use Rattle.std.proofs.Common.{◌≡◌, ◌≤◌, ◌==◌, ℕ, suc, Bool, true, false, List, [], ◌∷◌, ◌++◌, map, length, refl, sym, ap, subst, ◌∙◌, append_assoc, append-nil, cond, Option, None, Some, inl, inr, arith, eqb-true}
use Rattle.std.proofs.lemmas.Bool.{eqb-false, false≢true}
use Rattle.std.specs.Prelude.{is_some, ◌⊎◌}
use Rattle.std.specs.Iterator.{Yields}
use Rattle.std.specs.Vec.Iter.{into_iter_items, into_iter_steps}
use Rattle.std.specs.declared.vec.IntoIter.{IntoIter}
use Rattle.mj_base.specs.declared.link.LinkEvent.{LinkEvent}
use Rattle.mj_base.specs.declared.version.Version.{Version}
use Rattle.mj_base.specs.declared.version.Version.TheVariants.{One}
use Rattle.mj_bridge.specs.BridgeRules as Rules
use Rattle.mj_bridge.specs.BridgeRules.{Asked, Bridge, Call, Doing, Far, FarGave, Near, NearGave, Opens, Reads, Started, Turn, after, all_acts, answered, asking, closing, ends, ends_as, far_act, far_acts, far_steps, far_turn, follows, gives, gives_up, goes_on, hearing, is_over, keeps, meets, meets_all, meets_as, move_all, moves, near_happens, near_steps, near_turn, opens, opens_next, replies, requested, starts, stays, takes, turn_of, unless}
use Rattle.mj_bridge.specs.BridgeStands.{Does, Follows, FollowsTo, GoesOn, HandsOut, Holds, IsHeld, IsLive, IsKept, Passes, PassesOn, Stands}
use Rattle.mj_bridge.specs.BridgeStands as Stand
use Rattle.mj_bridge.specs.declared.act.BridgeAct.{BridgeAct}
use Rattle.mj_bridge.specs.declared.act.BridgeAct.TheVariants as side
use Rattle.mj_bridge.specs.declared.deck.Deck.{Deck}
use Rattle.mj_bridge.proofs.FreeLemmas.{far_acts-free, near_turn-free, opens-free, steps-fine}
use Rattle.mj_bridge.proofs.WorkerTurns.{Told, finishes-works, meets-works, quiets-works, rests-works}
use Rattle.mj_peer.specs.ClientEndRules as Client
use Rattle.mj_peer.specs.ClientStands as ClientStand
use Rattle.mj_peer.specs.PeerTexts.{said_text}
use Rattle.mj_peer.specs.Sweeping.{beyond}
use Rattle.mj_peer.specs.WorkerEndRules as Worker
use Rattle.mj_peer.specs.WorkerEndRules.{request_in}
use Rattle.mj_peer.specs.WorkerStands as PostStand
use Rattle.mj_peer.specs.declared.act.Act.{Act}
use Rattle.mj_peer.specs.declared.act.Act.TheVariants as act
use Rattle.mj_peer.specs.declared.client_end.ClientEnd.{ClientEnd}
use Rattle.mj_peer.specs.declared.duty.Duty.{Duty}
use Rattle.mj_peer.specs.declared.post.Handed.{Handed}
use Rattle.mj_peer.specs.declared.post.Post.{Post}
use Rattle.mj_peer.specs.declared.talk.Talk.{Talk}
use Rattle.mj_wire.specs.declared.item.WireItem.{WireItem}
use Rattle.mj_worker_cmd.specs.declared.command.WorkerAct.TheVariants as said

-- ---- what is to be answered

other-link : (a link : ℕ) (same : Bool) → same ≡ (a == suc link) → a ≤ link → false ≡ same
other-link a link false e below = refl
other-link a link true e below = absurd (omega (arith, eqb-true a (suc link) (sym e), below))

held-elsewhere : (address : Option (List ℕ)) (here : Bool) (held : Option Asked) (link : ℕ) → IsHeld address here held link → IsHeld address false held (suc link)
held-elsewhere None here None link h = tt
held-elsewhere None here (Some asked) link h = absurd h
held-elsewhere (Some address) here None link h = absurd h
held-elsewhere (Some address) here (Some asked) link h = (h.0, other-link asked.link link (asked.link == suc link) refl h.2, omega (arith, h.2))

pub moved : (e : Deck) (b : Bridge) → Holds e b → Holds (record e { here = false; next = None }) (moves act.Reopen b)
moved e b h = record { near = h.near; one = h.one; far = h.far; held = held-elsewhere e.held e.here b.held b.link h.held; next = tt }

pub move_all-more : (acts : List Act) (a : Act) (b : Bridge) → move_all (acts ++ a ∷ []) b ≡ moves a (move_all acts b)
move_all-more [] a b = refl
move_all-more (x ∷ acts) a b = move_all-more acts a (moves x b)

pub none-is-held : (here : Bool) (held : Option Asked) (link : ℕ) → IsHeld None here held link → held ≡ None
none-is-held here None link h = refl
none-is-held here (Some asked) link h = absurd h

pub none-is-kept : (next : Option Asked) (link : ℕ) → IsKept None next link → next ≡ None
none-is-kept None link h = refl
none-is-kept (Some asked) link h = absurd h

pub is-none : {X : Type 0} (o : Option X) → is_some o ≡ false → o ≡ None
is-none None e = refl
is-none (Some x) e = absurd (false≢true (sym e))

-- ---- lists that are given out item by item

pub taken-front : {X A : Type 0} (s : IntoIter X A) (xs : List X) (t : IntoIter X A) → Yields into_iter_steps s xs t → into_iter_items s ≡ xs ++ into_iter_items t
taken-front s [] t y = ap into_iter_items y
taken-front s (x ∷ xs) t y = y.1.0 ∙ ap (λ ys. x ∷ ys) (taken-front y.0 xs t y.2)

nothing-left : {X : Type 0} (xs : List X) → length xs ≡ 0 → xs ≡ []
nothing-left [] e = refl
nothing-left (x ∷ xs) e = absurd (omega (arith, e))

pub next-taken : {X A : Type 0} (items : List X) (s : IntoIter X A) (xs : List X) (t : IntoIter X A) (x : X) (rest : List X) → into_iter_items s ≡ items → Yields into_iter_steps s xs t → into_iter_items t ≡ x ∷ rest
    → items ≡ xs ++ x ∷ rest
next-taken items s xs t x rest e y next = sym e ∙ taken-front s xs t y ∙ ap (λ l. xs ++ l) next

pub all-taken : {X A : Type 0} (items : List X) (s : IntoIter X A) (xs : List X) (t : IntoIter X A) → into_iter_items s ≡ items → Yields into_iter_steps s xs t → t.rest.len ≡ 0 → items ≡ xs
all-taken items s xs t e y none = sym e ∙ taken-front s xs t y ∙ ap (λ l. xs ++ l) (nothing-left (into_iter_items t) (sym t.rest.ok.0 ∙ none)) ∙ append-nil xs

map-more : (f : Act → BridgeAct) (acts : List Act) (a : Act) → map f (acts ++ a ∷ []) ≡ map f acts ++ f a ∷ []
map-more f [] a = refl
map-more f (x ∷ acts) a = ap (λ (l : List BridgeAct). f x ∷ l) (map-more f acts a)

pub hands-more : (old e next : Deck) (before now later : List BridgeAct) (handed : List Act) (a : Act) → HandsOut old e before now handed → ((b : Bridge) → Holds e b → Holds next (moves a b))
    → (next.near ≡ e.near) × (next.far ≡ e.far) → later ≡ now ++ side.Near a ∷ [] → HandsOut old next before later (handed ++ a ∷ [])
hands-more old e next before now later handed a h m same l = record {
  holds = λ b s. subst (λ (k : Bridge). Holds next k) (sym (move_all-more handed a b)) (m (move_all handed b) (h.holds b s));
  acts = l ∙ ap (λ (x : List BridgeAct). x ++ side.Near a ∷ []) h.acts ∙ append_assoc before (map side.Near handed) (side.Near a ∷ [])
      ∙ ap (λ (x : List BridgeAct). before ++ x) (sym (map-more side.Near handed a));
  near = same.0 ∙ h.near;
  far = same.1 ∙ h.far;
}

-- ---- the near side's turns

near-acts : (acts : List Act) → all_acts (map Near acts) ≡ map side.Near acts
near-acts [] = refl
near-acts (a ∷ acts) = ap (λ (l : List BridgeAct). side.Near a ∷ l) (near-acts acts)

far-acts : (acts : List Act) → all_acts (map Far acts) ≡ map side.Far acts
far-acts [] = refl
far-acts (a ∷ acts) = ap (λ (l : List BridgeAct). side.Far a ∷ l) (far-acts acts)

near-holds : (old now : Deck) (p : Post) (acts : List Act) (before later : List BridgeAct) (turn : Worker.Turn) (b : Bridge) → Holds old b → PostStand.Does p [] acts turn → turn.0.duty.version ≡ One
    → HandsOut (record old { near = p }) now before later acts → Holds now (near_turn turn b).0
near-holds old now p acts before later turn b s d one h =
    subst (λ (l : List Act). Holds now (move_all l (record b { near = turn.0 }))) d.acts
    (h.holds (record b { near = turn.0 }) (record { near = d.stands; one = one; far = s.far; held = s.held; next = s.next }))

near-given : (acts : List Act) (turn : List Act) (before later : List BridgeAct) → acts ≡ turn → later ≡ before ++ map side.Near acts → later ≡ before ++ all_acts (map Near turn)
near-given acts turn before later d e = e ∙ ap (λ (l : List Act). before ++ map side.Near l) d ∙ ap (λ (l : List BridgeAct). before ++ l) (sym (near-acts turn))

near-done : (old now : Deck) (p : Post) (acts : List Act) (before later : List BridgeAct) (turn : Worker.Turn) (b : Bridge) → Stands old b → PostStand.Does p [] acts turn
    → turn.0.duty.version ≡ One → HandsOut (record old { near = p }) now before later acts → Does now before later (near_turn turn b)
near-done old now p acts before later turn b s d one h = record {
  stands = record { holds = near-holds old now p acts before later turn b s.holds d one h; free = near_turn-free turn b s.free };
  acts = near-given acts turn.1 before later d.acts h.acts;
}

from-nothing : (p q : Post) (none acts : List Act) (turn : Worker.Worker → Worker.Turn) → none ≡ [] → PostStand.Follows p q none acts turn → PostStand.Follows p q [] acts turn
from-nothing p q none acts turn e f = subst (λ (l : List Act). PostStand.Follows p q l acts turn) e f

told : (b : Bridge) → b.near.duty.version ≡ One → Told b.near.duty.service b.near.duty
told b one = record { version = one; service = refl }

pub greeted : (old now : Deck) (none acts : List Act) (before later : List BridgeAct) → none ≡ [] → acts ≡ none ++ Worker.greets → HandsOut old now before later acts
    → Follows old now before later (λ b. near_turn (b.near, Worker.greets) b)
greeted old now none acts before later n a h = λ b s.
    near-done old now old.near acts before later (b.near, Worker.greets) b s (record { stands = s.holds.near; acts = a ∙ ap (λ (l : List Act). l ++ Worker.greets) n }) s.holds.one h

pub rested : (old now : Deck) (p : Post) (none acts : List Act) (before later : List BridgeAct) (ended : Bool) → none ≡ [] → PostStand.FollowsTo ended old.near p none acts Worker.rests
    → HandsOut (record old { near = p }) now before later acts → Follows old now before later (λ b. near_turn (Worker.rests b.near) b)
rested old now p none acts before later ended n f h = λ b s.
    let w = rests-works b.near.duty.service b.near (told b s.holds.one) in
    near-done old now p acts before later (Worker.rests b.near) b s (from-nothing old.near p none acts Worker.rests n (λ v t. (f v t).0) b.near s.holds.near) w.told.version h

pub ended : (old now : Deck) (p : Post) (none acts : List Act) (before later : List BridgeAct) (stop : Bool) → none ≡ [] → PostStand.FollowsTo stop old.near p none acts (Worker.quiets true)
    → HandsOut (record old { near = p }) now before later acts → Follows old now before later (λ b. near_turn (Worker.quiets true b.near) b)
ended old now p none acts before later stop n f h = λ b s.
    let w = quiets-works b.near.duty.service true b.near (told b s.holds.one) in
    near-done old now p acts before later (Worker.quiets true b.near) b s (from-nothing old.near p none acts (Worker.quiets true) n (λ v t. (f v t).0) b.near s.holds.near) w.told.version h

pub met-other : (old now : Deck) (p : Post) (none acts : List Act) (before later : List BridgeAct) (stop : Bool) (x : WireItem) → none ≡ []
    → PostStand.FollowsTo stop old.near p none acts (Worker.meets x) → HandsOut (record old { near = p }) now before later acts
    → Stand.Meets stop old now before later x
met-other old now p none acts before later stop x n f h = λ b s other.
    let w = meets-works b.near.duty.service x b.near other (told b s.holds.one) in (
      near-done old now p acts before later (Worker.meets x b.near) b s (from-nothing old.near p none acts (Worker.meets x) n (λ v t. (f v t).0) b.near s.holds.near) w.told.version h,
      (f b.near s.holds.near).1,
    )

-- ---- a near REQUEST

pub not-asking : (e now : Deck) (before later : List BridgeAct) (handed : Handed) → is_some e.far.session.talk.request ≡ true → Stand.Opens e now before later handed
not-asking e now before later handed some = λ b asked s none is link.
    absurd (false≢true (sym (ap is_some (ap (λ (t : Talk). t.request) s.holds.far.talk ∙ s.free none)) ∙ some))

link-here : (a link : ℕ) → a ≡ link → true ≡ (a == link)
link-here a link e = by (a == link) refl
  where
    by : (same : Bool) → same ≡ (a == link) → true ≡ same
    by true is = refl
    by false is = absurd (eqb-false a link (sym is) e)

pub opened : (old now : Deck) (far : ClientEnd) (none acts : List Act) (before later : List BridgeAct) (handed : Handed) → none ≡ []
    → ClientStand.Follows old.far.session far.session none acts (Client.asks handed.body) → later ≡ before ++ map side.Far acts
    → now ≡ record old { far = far; held = Some handed.address; here = true; next = None } → Stand.Opens old now before later handed
opened old now far none acts before later handed n f e is = λ b asked s free same link.
    let d = subst (λ (l : List Act). ClientStand.Does far.session l acts (Client.asks handed.body b.far)) n (f b.far s.holds.far) in
    let one : asked.handed ≡ handed = same in
    let whole : ClientStand.Does far.session [] acts (Client.asks asked.handed.body b.far) = subst (λ (h : Handed). ClientStand.Does far.session [] acts (Client.asks h.body b.far)) (sym one) d in
    rw is (record {
      stands = record {
        holds = record {
          near = s.holds.near;
          one = s.holds.one;
          far = whole.stands;
          held = (ap (λ (h : Handed). h.address) (sym one), link-here asked.link b.link link, omega (arith, link));
          next = tt;
        };
        free = opens-free asked b;
      };
      acts = e ∙ ap (λ (l : List Act). before ++ map side.Far l) whole.acts ∙ ap (λ (l : List BridgeAct). before ++ l) (sym (far-acts (Client.asks asked.handed.body b.far).1));
    })

heard-stands : (e : Deck) (p : Post) (b : Bridge) → Stands e b → ((w : Worker.Worker) → PostStand.Stands e.near w → PostStand.Stands p (Worker.hearing w)) → Stands (record e { near = p }) (hearing b)
heard-stands e p b s h = record {
  holds = record { near = h b.near s.holds.near; one = s.holds.one; far = s.holds.far; held = s.holds.held; next = s.holds.next };
  free = s.free;
}

requested-as : (now : Deck) (before later : List BridgeAct) (handed : Handed) (b : Bridge) → Does now before later (takes b.held b.next (asking handed b) (hearing b)) → Does now before later (requested handed b)
requested-as now before later handed b d = record { stands = d.stands; acts = d.acts }

-- none is open
pub requested-opens : (old now : Deck) (p : Post) (before later : List BridgeAct) (handed : Handed) → old.held ≡ None
    → ((w : Worker.Worker) → PostStand.Stands old.near w → PostStand.Stands p (Worker.hearing w))
    → Stand.Opens (record old { near = p }) now before later handed → Follows old now before later (requested handed)
requested-opens old now p before later handed none h f = λ b s.
    let free : b.held ≡ None = none-is-held old.here b.held b.link (subst (λ (o : Option (List ℕ)). IsHeld o old.here b.held b.link) none s.holds.held) in
    let d = f (hearing b) (asking handed b) (heard-stands old p b s h) free refl refl in
    requested-as now before later handed b (subst (λ (o : Option Asked). Does now before later (takes o b.next (asking handed b) (hearing b))) (sym free) d)

-- one is open: the REQUEST is kept
pub requested-keeps : (old : Deck) (p : Post) (acts : List BridgeAct) (handed : Handed) → is_some old.held ≡ true → old.next ≡ None → old.here ≡ false
    → ((w : Worker.Worker) → PostStand.Stands old.near w → PostStand.Stands p (Worker.hearing w))
    → Follows old (record old { near = p; next = Some handed }) acts acts (requested handed)
requested-keeps old p acts handed some none away h = λ b s.
    requested-as (record old { near = p; next = Some handed }) acts acts handed b (keeps-it old.held old.here b.held old.next b.next b s some none away s.holds.held s.holds.next)
  where
    keeps-it : (address : Option (List ℕ)) (here : Bool) (held : Option Asked) (kept : Option Handed) (next : Option Asked) (b : Bridge) → Stands old b → is_some address ≡ true → kept ≡ None → here ≡ false
        → IsHeld address here held b.link → IsKept kept next b.link
        → Does (record old { near = p; next = Some handed }) acts acts (takes held next (asking handed b) (hearing b))
    keeps-it None here held kept next b s some none away i k = absurd (false≢true some)
    keeps-it (Some address) here None kept next b s some none away i k = absurd i
    keeps-it (Some address) here (Some asked) (Some other) next b s some none away i k = absurd (false≢true (sym (ap is_some none)))
    keeps-it (Some address) here (Some asked) None (Some other) b s some none away i k = absurd k
    keeps-it (Some address) here (Some asked) None None b s some none away i k =
        let h' = heard-stands old p b s h in
        subst (λ (same : Bool). Does (record old { near = p; next = Some handed }) acts acts (keeps same (asking handed b) (hearing b))) (sym away ∙ i.1)
        (record {
          stands = record {
            holds = record { near = h'.holds.near; one = h'.holds.one; far = h'.holds.far; held = h'.holds.held; next = (refl, refl) };
            free = h'.free;
          };
          acts = sym (append-nil acts);
        })

-- one is open, and the REQUEST isn't kept
pub requested-drops : (old : Deck) (p : Post) (acts : List BridgeAct) (handed : Handed) → is_some old.held ≡ true → (is_some old.next ≡ true) ⊎ (old.here ≡ true)
    → ((w : Worker.Worker) → PostStand.Stands old.near w → PostStand.Stands p (Worker.hearing w))
    → Follows old (record old { near = p }) acts acts (requested handed)
requested-drops old p acts handed some why h = λ b s.
    requested-as (record old { near = p }) acts acts handed b (drops old.held old.here b.held old.next b.next b (heard-stands old p b s h) some why s.holds.held s.holds.next)
  where
    stay : (b : Bridge) → Stands (record old { near = p }) (hearing b) → Does (record old { near = p }) acts acts (stays (hearing b))
    stay b s = record { stands = s; acts = sym (append-nil acts) }

    drops : (address : Option (List ℕ)) (here : Bool) (held : Option Asked) (kept : Option Handed) (next : Option Asked) (b : Bridge) → Stands (record old { near = p }) (hearing b) → is_some address ≡ true
        → (is_some kept ≡ true) ⊎ (here ≡ true) → IsHeld address here held b.link → IsKept kept next b.link
        → Does (record old { near = p }) acts acts (takes held next (asking handed b) (hearing b))
    drops None here held kept next b s some why i k = absurd (false≢true some)
    drops (Some address) here None kept next b s some why i k = absurd i
    drops (Some address) here (Some asked) kept (Some other) b s some why i k = stay b s
    drops (Some address) here (Some asked) (Some handed) None b s some why i k = absurd k
    drops (Some address) here (Some asked) None None b s some (inl is) i k = absurd (false≢true is)
    drops (Some address) here (Some asked) None None b s some (inr is) i k =
        subst (λ (same : Bool). Does (record old { near = p }) acts acts (keeps same (asking handed b) (hearing b))) (sym is ∙ i.1) (stay b s)

-- ---- the near stream's items

pub meets-request : (old now : Deck) (before later : List BridgeAct) (x : WireItem) (handed : Handed) (found : Option Handed) → found ≡ Some handed → found ≡ request_in old.near.duty.version x
    → Follows old now before later (requested handed) → FollowsTo false old now before later (meets x) (ends x)
meets-request old now before later x handed found is e f = λ b s.
    let same : request_in b.near.duty.version x ≡ Some handed = ap (λ (d : Duty). request_in d.version x) (sym s.holds.near.duty) ∙ sym e ∙ is in
    rw same (f b s, refl)

pub meets-another : (old now : Deck) (before later : List BridgeAct) (x : WireItem) (found : Option Handed) (ended : Bool) → found ≡ None → found ≡ request_in old.near.duty.version x
    → Stand.Meets ended old now before later x → FollowsTo ended old now before later (meets x) (ends x)
meets-another old now before later x found ended is e f = λ b s.
    let same : request_in b.near.duty.version x ≡ None = ap (λ (d : Duty). request_in d.version x) (sym s.holds.near.duty) ∙ sym e ∙ is in
    let d = f b s same in
    rw same d

-- what was done so far and what is left are the whole
pub record Goes (whole left : Turn) (before now : List BridgeAct) : Type 0 where
  pub state : left.0 ≡ whole.0
  pub acts : now ++ all_acts left.1 ≡ before ++ all_acts whole.1

pub all-append : (xs ys : List Doing) → all_acts (xs ++ ys) ≡ all_acts xs ++ all_acts ys
all-append [] ys = refl
all-append (x ∷ xs) ys = ap (λ (l : List BridgeAct). Rules.acts_of x ++ l) (all-append xs ys) ∙ sym (append_assoc (Rules.acts_of x) (all_acts xs) (all_acts ys))

goes-on : (more : Bridge → Turn) (stop : Bool) (turn whole : Turn) (before now next : List BridgeAct) → stop ≡ false → next ≡ now ++ all_acts turn.1
    → Goes whole (unless more stop turn) before now → Goes whole (more turn.0) before next
goes-on more true turn whole before now next e a g = absurd (false≢true (sym e))
goes-on more false turn whole before now next e a g = record {
  state = g.state;
  acts = ap (λ (l : List BridgeAct). l ++ all_acts (more turn.0).1) a ∙ append_assoc now (all_acts turn.1) (all_acts (more turn.0).1)
      ∙ ap (λ (l : List BridgeAct). now ++ l) (sym (all-append turn.1 (more turn.0).1)) ∙ g.acts;
}

goes-stops : (more : Bridge → Turn) (stop : Bool) (turn whole : Turn) (before now next : List BridgeAct) → stop ≡ true → next ≡ now ++ all_acts turn.1
    → Goes whole (unless more stop turn) before now → (turn.0 ≡ whole.0) × (next ≡ before ++ all_acts whole.1)
goes-stops more true turn whole before now next e a g = (g.state, a ∙ g.acts)
goes-stops more false turn whole before now next e a g = absurd (false≢true e)

-- a sweep over a piece's items so far
pub record SoFar (whole : Turn) (rest : List WireItem) (e : Deck) (before now : List BridgeAct) : Type 0 where
  pub mid : Bridge
  pub stands : Stands e mid
  pub goes : Goes whole (meets_all rest mid) before now

pub sweep-begins : (items : List WireItem) (e : Deck) (acts : List BridgeAct) (b : Bridge) → Stands e b → SoFar (meets_all items b) items e acts acts
sweep-begins items e acts b s = record { mid = b; stands = s; goes = record { state = refl; acts = refl } }

pub sweep-goes : (whole : Turn) (x : WireItem) (rest : List WireItem) (e next : Deck) (before now later : List BridgeAct)
    → SoFar whole (x ∷ rest) e before now → FollowsTo false e next now later (meets x) (ends x) → SoFar whole rest next before later
sweep-goes whole x rest e next before now later h f =
    let d = f h.mid h.stands in
    record {
      mid = (meets x h.mid).0;
      stands = d.0.stands;
      goes = goes-on (meets_all rest) (ends x h.mid) (meets x h.mid) whole before now later (sym d.1) d.0.acts h.goes;
    }

does : (e : Deck) (before now : List BridgeAct) (b : Bridge) (whole : Turn) → Stands e b → b ≡ whole.0 → now ≡ before ++ all_acts whole.1 → Does e before now whole
does e before now b whole s state acts = record { stands = subst (λ (k : Bridge). Stands e k) state s; acts = acts }

pub sweep-stops : (whole : Turn) (x : WireItem) (rest : List WireItem) (e next : Deck) (before now later : List BridgeAct)
    → SoFar whole (x ∷ rest) e before now → FollowsTo true e next now later (meets x) (ends x) → Does next before later whole
sweep-stops whole x rest e next before now later h f =
    let d = f h.mid h.stands in
    let g = goes-stops (meets_all rest) (ends x h.mid) (meets x h.mid) whole before now later (sym d.1) d.0.acts h.goes in
    does next before later (meets x h.mid).0 whole d.0.stands g.0 g.1

pub sweep-is_done : (whole : Turn) (e : Deck) (before now : List BridgeAct) → SoFar whole [] e before now → Does e before now whole
sweep-is_done whole e before now h = does e before now h.mid whole h.stands h.goes.state (sym (append-nil now) ∙ h.goes.acts)

pub given : (old now : Deck) (p : Post) (piece : List ℕ) (items : List WireItem) (before later : List BridgeAct)
    → ((w : Worker.Worker) → PostStand.Stands old.near w → PostStand.Stands p (Worker.takes piece w)) → ((w : Worker.Worker) → PostStand.Stands old.near w → items ≡ beyond w.stream piece)
    → Follows (record old { near = p }) now before later (meets_all items) → Follows old now before later (gives piece)
given old now p piece items before later t i f = λ b s.
    let c : Bridge = record b { near = Worker.takes piece b.near } in
    subst (λ (l : List WireItem). Does now before later (meets_all l c)) (i b.near s.holds.near)
    (f c (record {
      holds = record { near = t b.near s.holds.near; one = s.holds.one; far = s.holds.far; held = s.holds.held; next = s.holds.next };
      free = s.free;
    }))

-- ---- the far side's acts

near-passed : (old now : Deck) (p : Post) (acts : List Act) (before later : List BridgeAct) (turn : Worker.Turn) (b : Bridge) → Holds old b → PostStand.Does p [] acts turn
    → turn.0.duty.version ≡ One → HandsOut (record old { near = p }) now before later acts → Passes now before later (near_turn turn b)
near-passed old now p acts before later turn b s d one h = record {
  holds = near-holds old now p acts before later turn b s d one h;
  acts = near-given acts turn.1 before later d.acts h.acts;
}

pub served : (old now : Deck) (p : Post) (none acts : List Act) (before later : List BridgeAct) (stop : Bool) (address : List ℕ) (body : List (List ℕ)) → none ≡ []
    → PostStand.FollowsTo stop old.near p none acts (Worker.serves address body) → HandsOut (record old { near = p }) now before later acts
    → PassesOn old now before later (λ b. near_turn (Worker.serves address body b.near) b)
served old now p none acts before later stop address body n f h = λ b s.
    let v : Worker.Worker = record b.near { duty = Worker.served b.near.duty } in
    let w = finishes-works b.near.duty.service (Worker.is_finished v.duty) v (record { version = s.one; service = refl }) in
    near-passed old now p acts before later (Worker.serves address body b.near) b s (from-nothing old.near p none acts (Worker.serves address body) n (λ u t. (f u t).0) b.near s.near) w.told.version h

one-answer : (version : Version) (parts : ℕ) (address : List ℕ) (body : List (List ℕ)) → version ≡ One
    → Worker.partials version parts address body ++ (Worker.answer version true address body ∷ act.Served ∷ []) ≡ act.Write (said_text One (said.Reply true address body)) ∷ act.Served ∷ []
one-answer version parts address body e = rw e refl

answer-as : (now : Deck) (before later : List BridgeAct) (asked : Asked) (body : List (List ℕ)) (b : Bridge) → b.near.duty.version ≡ One
    → Passes now before later (near_turn (Worker.serves asked.handed.address body b.near) b) → Passes now before later (replies true asked body b)
answer-as now before later asked body b one d =
    let fin = Worker.finishing (Rules.serving b).near in
    let e = subst (λ (l : List Act). Passes now before later (near_turn (fin.0, l ++ fin.1) b)) (one-answer b.near.duty.version b.near.duty.parts asked.handed.address body one) d in
    record { holds = e.holds; acts = e.acts }

got-as : (now : Deck) (before later : List BridgeAct) (asked : Asked) (body : List (List ℕ)) (b : Bridge) → Passes now before later (replies (asked.link == b.link) asked body (closing b))
    → Passes now before later (answered (Some asked) body b)
got-as now before later asked body b d = record { holds = d.holds; acts = d.acts }

-- the open REQUEST is closed
closed : (e : Deck) (b : Bridge) → Holds e b → Holds (record e { held = None }) (closing b)
closed e b h = record { near = h.near; one = h.one; far = h.far; held = tt; next = h.next }

passed-nothing : (e : Deck) (acts : List BridgeAct) (b : Bridge) → Holds e b → Passes e acts acts (stays b)
passed-nothing e acts b h = record { holds = h; acts = sym (append-nil acts) }

pub nothing-open : (e : Deck) (acts : List BridgeAct) (body : List (List ℕ)) → e.held ≡ None → PassesOn e (record e { held = None }) acts acts (λ b. answered b.held body b)
nothing-open e acts body none = λ b h.
    let free : b.held ≡ None = none-is-held e.here b.held b.link (subst (λ (o : Option (List ℕ)). IsHeld o e.here b.held b.link) none h.held) in
    subst (λ (o : Option Asked). Passes (record e { held = None }) acts acts (answered o body b)) (sym free)
    (passed-nothing (record e { held = None }) acts b (record { near = h.near; one = h.one; far = h.far; held = subst (λ (o : Option Asked). IsHeld None e.here o b.link) (sym free) tt; next = h.next }))

pub answered-late : (e : Deck) (acts : List BridgeAct) (body : List (List ℕ)) (address : List ℕ) → e.held ≡ Some address → e.here ≡ false
    → PassesOn e (record e { held = None }) acts acts (λ b. answered b.held body b)
answered-late e acts body address is away = λ b h. late b.held b h (subst (λ (o : Option (List ℕ)). IsHeld o e.here b.held b.link) is h.held)
  where
    late : (held : Option Asked) (b : Bridge) → Holds e b → IsHeld (Some address) e.here held b.link → Passes (record e { held = None }) acts acts (answered held body b)
    late None b h i = absurd i
    late (Some asked) b h i =
        got-as (record e { held = None }) acts acts asked body b
        (subst (λ (same : Bool). Passes (record e { held = None }) acts acts (replies same asked body (closing b))) (sym away ∙ i.1) (passed-nothing (record e { held = None }) acts (closing b) (closed e b h)))

pub answered-here : (e now : Deck) (before later : List BridgeAct) (body : List (List ℕ)) (address : List ℕ) → e.held ≡ Some address → e.here ≡ true
    → PassesOn (record e { held = None }) now before later (λ b. near_turn (Worker.serves address body b.near) b) → PassesOn e now before later (λ b. answered b.held body b)
answered-here e now before later body address is here f = λ b h. in_time b.held b h (subst (λ (o : Option (List ℕ)). IsHeld o e.here b.held b.link) is h.held)
  where
    in_time : (held : Option Asked) (b : Bridge) → Holds e b → IsHeld (Some address) e.here held b.link → Passes now before later (answered held body b)
    in_time None b h i = absurd i
    in_time (Some asked) b h i =
        got-as now before later asked body b
        (subst (λ (same : Bool). Passes now before later (replies same asked body (closing b))) (sym here ∙ i.1)
        (answer-as now before later asked body (closing b) h.one
        (subst (λ (a : List ℕ). Passes now before later (near_turn (Worker.serves a body (closing b).near) (closing b))) i.0 (f (closing b) (closed e b h)))))

pub answered-by : (e now : Deck) (before later : List BridgeAct) (body : List (List ℕ)) (address found : List ℕ) (kept : Option (List ℕ)) → e.held ≡ Some address → e.here ≡ true → kept ≡ None → found ≡ address
    → PassesOn (record e { held = kept }) now before later (λ b. near_turn (Worker.serves found body b.near) b) → PassesOn e now before later (λ b. answered b.held body b)
answered-by e now before later body address found kept is here none same f =
    answered-here e now before later body address is here
    (subst (λ (a : List ℕ). PassesOn (record e { held = None }) now before later (λ b. near_turn (Worker.serves a body b.near) b)) same
    (subst (λ (o : Option (List ℕ)). PassesOn (record e { held = o }) now before later (λ b. near_turn (Worker.serves found body b.near) b)) none f))

pub gave-up : (old : Deck) (p : Post) (text : List ℕ) (before one later : List BridgeAct) → text ≡ said_text old.near.duty.version said.Disconnect
    → ((w : Worker.Worker) → PostStand.Stands old.near w → PostStand.Stands p (Worker.leaving w)) → one ≡ before ++ side.Near (act.Write text) ∷ [] → later ≡ one ++ side.Far act.NoAnswer ∷ []
    → PassesOn old (record old { near = p }) before later gives_up
gave-up old p text before one later t h o a = λ b s. record {
  holds = record { near = h b.near s.near; one = s.one; far = s.far; held = s.held; next = s.next };
  acts = a ∙ ap (λ (l : List BridgeAct). l ++ side.Far act.NoAnswer ∷ []) o ∙ append_assoc before (side.Near (act.Write text) ∷ []) (side.Far act.NoAnswer ∷ [])
      ∙ ap (λ (x : List ℕ). before ++ side.Near (act.Write x) ∷ side.Far act.NoAnswer ∷ [])
      (t ∙ ap (λ (d : Duty). said_text d.version said.Disconnect) s.near.duty ∙ ap (λ (v : Version). said_text v said.Disconnect) s.one);
}

-- acts that were passed so far
pub record Passing (old : Deck) (e : Deck) (before now : List BridgeAct) (passed : List Act) (b : Bridge) : Type 0 where
  pub mid : Bridge
  pub holds : Holds e mid
  pub goes : (rest : List Act) → Goes (far_acts (passed ++ rest) b) (far_acts rest mid) before now

pub passing-begins : (e : Deck) (acts : List BridgeAct) (b : Bridge) → Holds e b → Passing e e acts acts [] b
passing-begins e acts b h = record { mid = b; holds = h; goes = λ rest. record { state = refl; acts = refl } }

over-is : (e : Deck) (b : Bridge) → Holds e b → e.near.duty.over ≡ is_over b
over-is e b h = ap (λ (d : Duty). d.over) h.near.duty

pub passing-goes : (old e next : Deck) (before now later : List BridgeAct) (passed : List Act) (a : Act) (b : Bridge) → Passing old e before now passed b → PassesOn e next now later (far_act a)
    → next.near.duty.over ≡ false → Passing old next before later (passed ++ a ∷ []) b
passing-goes old e next before now later passed a b h f go =
    let d = f h.mid h.holds in
    record {
      mid = (far_act a h.mid).0;
      holds = d.holds;
      goes = λ rest.
          subst (λ (l : List Act). Goes (far_acts l b) (far_acts rest (far_act a h.mid).0) before later) (sym (append_assoc passed (a ∷ []) rest))
          (goes-on (far_acts rest) (is_over (far_act a h.mid).0) (far_act a h.mid) (far_acts (passed ++ (a ∷ rest)) b) before now later (sym (over-is next (far_act a h.mid).0 d.holds) ∙ go) d.acts (h.goes (a ∷ rest)));
    }

passes : (e : Deck) (before now : List BridgeAct) (b : Bridge) (whole : Turn) → Holds e b → b ≡ whole.0 → now ≡ before ++ all_acts whole.1 → Passes e before now whole
passes e before now b whole s state acts = record { holds = subst (λ (k : Bridge). Holds e k) state s; acts = acts }

pub passing-stops : (old e next : Deck) (before now later : List BridgeAct) (passed : List Act) (a : Act) (rest whole : List Act) (b : Bridge) → whole ≡ passed ++ a ∷ rest → Passing old e before now passed b
    → PassesOn e next now later (far_act a) → next.near.duty.over ≡ true → Passes next before later (far_acts whole b)
passing-stops old e next before now later passed a rest whole b is h f over =
    let d = f h.mid h.holds in
    let all : Turn = far_acts (passed ++ a ∷ rest) b in
    let g = goes-stops (far_acts rest) (is_over (far_act a h.mid).0) (far_act a h.mid) all before now later (sym (over-is next (far_act a h.mid).0 d.holds) ∙ over) d.acts (h.goes (a ∷ rest)) in
    subst (λ (l : List Act). Passes next before later (far_acts l b)) (sym is) (passes next before later (far_act a h.mid).0 all d.holds g.0 g.1)

pub passing-is_done : (old e : Deck) (before now : List BridgeAct) (passed whole : List Act) (b : Bridge) → whole ≡ passed → Passing old e before now passed b → Passes e before now (far_acts whole b)
passing-is_done old e before now passed whole b is h =
    let g = h.goes [] in
    subst (λ (l : List Act). Passes e before now (far_acts l b)) (append-nil passed ∙ sym is)
    (passes e before now h.mid (far_acts (passed ++ []) b) h.holds g.state (sym (append-nil now) ∙ g.acts))

-- ---- a far turn

pub goes-over : (e : Deck) (acts : List BridgeAct) → e.near.duty.over ≡ true → Follows e e acts acts goes_on
goes-over e acts over = λ b s.
    subst (λ (o : Bool). Does e acts acts (cond {A = Turn} o (stays b) (opens_next b.held b.next b))) (sym over ∙ over-is e b s.holds) (record { stands = s; acts = sym (append-nil acts) })

goes-by : (e now : Deck) (before later : List BridgeAct) (b : Bridge) → Stands e b → e.near.duty.over ≡ false → Does now before later (opens_next b.held b.next b) → Does now before later (goes_on b)
goes-by e now before later b s go d =
    subst (λ (o : Bool). Does now before later (cond {A = Turn} o (stays b) (opens_next b.held b.next b))) (sym go ∙ over-is e b s.holds) d

pub goes-held : (e : Deck) (acts : List BridgeAct) → e.near.duty.over ≡ false → is_some e.held ≡ true → Follows e e acts acts goes_on
goes-held e acts go some = λ b s. goes-by e e acts acts b s go (by e.held b.held b.next b s some s.holds.held)
  where
    by : (address : Option (List ℕ)) (held next : Option Asked) (b : Bridge) → Stands e b → is_some address ≡ true → IsHeld address e.here held b.link → Does e acts acts (opens_next held next b)
    by None held next b s some i = absurd (false≢true some)
    by (Some address) None next b s some i = absurd i
    by (Some address) (Some asked) next b s some i = record { stands = s; acts = sym (append-nil acts) }

is-free : (e : Deck) (b : Bridge) → Holds e b → is_some e.held ≡ false → b.held ≡ None
is-free e b h none = by e.held b.held none h.held
  where
    by : (address : Option (List ℕ)) (held : Option Asked) → is_some address ≡ false → IsHeld address e.here held b.link → held ≡ None
    by None None none i = refl
    by None (Some asked) none i = absurd i
    by (Some address) held none i = absurd (false≢true (sym none))

pub goes-nowhere : (e : Deck) (acts : List BridgeAct) → e.near.duty.over ≡ false → is_some e.held ≡ false → e.next ≡ None → Follows e (record e { next = None }) acts acts goes_on
goes-nowhere e acts go none kept = λ b s.
    let free = is-free e b s.holds none in
    let nothing : b.next ≡ None = none-is-kept b.next b.link (subst (λ (o : Option Handed). IsKept o b.next b.link) kept s.holds.next) in
    let now : Deck = record e { next = None } in
    goes-by e now acts acts b s go
    (subst (λ (o : Option Asked). Does now acts acts (opens_next o b.next b)) (sym free)
    (subst (λ (o : Option Asked). Does now acts acts (opens_next None o b)) (sym nothing)
    (record {
      stands = record {
        holds = record { near = s.holds.near; one = s.holds.one; far = s.holds.far; held = s.holds.held; next = subst (λ (o : Option Asked). IsKept None o b.link) (sym nothing) tt };
        free = s.free;
      };
      acts = sym (append-nil acts);
    })))

pub goes-next : (e now : Deck) (before later : List BridgeAct) (handed : Handed) → e.near.duty.over ≡ false → is_some e.held ≡ false → e.next ≡ Some handed
    → Stand.Opens (record e { next = None }) now before later handed → Follows e now before later goes_on
goes-next e now before later handed go none kept f = λ b s.
    let free = is-free e b s.holds none in
    goes-by e now before later b s go
    (subst (λ (o : Option Asked). Does now before later (opens_next o b.next b)) (sym free)
    (next_is b.next b s free (subst (λ (o : Option Handed). IsKept o b.next b.link) kept s.holds.next)))
  where
    next_is : (next : Option Asked) (b : Bridge) → Stands e b → b.held ≡ None → IsKept (Some handed) next b.link → Does now before later (opens_next None next b)
    next_is None b s free k = absurd k
    next_is (Some asked) b s free k =
        let c : Bridge = record b { next = None } in
        f c asked (record {
          holds = record { near = s.holds.near; one = s.holds.one; far = s.holds.far; held = s.holds.held; next = tt };
          free = s.free;
        }) free (sym k.0) k.1

pub far-turned : (old mid now : Deck) (far : ClientEnd) (event : LinkEvent) (acts : List Act) (before one later : List BridgeAct)
    → ClientStand.Follows old.far.session far.session [] acts (Client.steps event) → PassesOn (record old { far = far }) mid before one (far_acts acts) → Follows mid now one later goes_on
    → Follows old now before later (λ b. far_turn (Client.steps event b.far) b)
far-turned old mid now far event acts before one later f g h = λ b s.
    let turn = Client.steps event b.far in
    let d = f b.far s.holds.far in
    let c : Bridge = record b { far = turn.0 } in
    let p : Passes mid before one (far_acts turn.1 c) =
    subst (λ (l : List Act). Passes mid before one (far_acts l c)) d.acts (g c (record { near = s.holds.near; one = s.holds.one; far = d.stands; held = s.holds.held; next = s.holds.next })) in
    let first = far_acts turn.1 c in
    let e = h first.0 (record { holds = p.holds; free = far_acts-free turn b s.free (steps-fine event b.far) }) in
    record {
      stands = e.stands;
      acts = e.acts ∙ ap (λ (l : List BridgeAct). l ++ all_acts (goes_on first.0).1) p.acts ∙ append_assoc before (all_acts first.1) (all_acts (goes_on first.0).1)
          ∙ ap (λ (l : List BridgeAct). before ++ l) (sym (all-append first.1 (goes_on first.0).1));
    }

-- ---- runs

pub after-one-more : (calls : List Call) (call : Call) (first : Bridge) → after (calls ++ call ∷ []) first ≡ (turn_of call (after calls first)).0
after-one-more [] call first = refl
after-one-more (x ∷ calls) call first = after-one-more calls call (turn_of x first).0

pub run-goes-on : (old now : Deck) (acts : List BridgeAct) (call : Call) → Follows old now [] acts (turn_of call) → GoesOn old now acts call
run-goes-on old now acts call f = λ first calls s.
    let d = f (after calls first) s in
    (subst (λ (k : Bridge). Stands now k) (sym (after-one-more calls call first)) d.stands, d.acts)

-- ---- memory

pub still-live : (old now : Deck) (before later : List BridgeAct) (acts : List Act) → HandsOut old now before later acts → old.near.wire.spent ≡ false → old.far.spent ≡ false → IsLive now
still-live old now before later acts h near far = (ap (λ (p : Post). p.wire.spent) h.near ∙ near, ap (λ (f : ClientEnd). f.spent) h.far ∙ far)

-- ---- calls

over-turn : (call : Call) (b : Bridge) → b.near.duty.over ≡ true → turn_of call b ≡ stays b
over-turn Started b o = over-start b.near.duty.over o
  where
    over-start : (over : Bool) → over ≡ true → near_turn (cond {A = Worker.Turn} over (b.near, []) (b.near, Worker.greets)) b ≡ stays b
    over-start true o = refl
    over-start false o = absurd (false≢true o)
over-turn (NearGave event) b o = ap (λ (over : Bool). cond {A = Turn} over (stays b) (near_happens event b)) o
over-turn (FarGave event) b o = ap (λ (over : Bool). cond {A = Turn} over (stays b) (far_turn (Client.steps event b.far) b)) o

pub run-is-over : (e : Deck) (acts : List BridgeAct) (call : Call) → e.near.duty.over ≡ true → acts ≡ [] → GoesOn e e acts call
run-is-over e acts call o none = run-goes-on e e acts call (λ b s.
    subst (λ (t : Turn). Does e [] acts t) (sym (over-turn call b (sym (over-is e b s.holds) ∙ o))) (record { stands = s; acts = none }))

goes-on-as : (old now : Deck) (before acts : List BridgeAct) (call : Call) (turn : Bridge → Turn) → old.near.duty.over ≡ false → before ≡ [] → ((b : Bridge) → b.near.duty.over ≡ false → turn b ≡ turn_of call b)
    → Follows old now before acts turn → GoesOn old now acts call
goes-on-as old now before acts call turn go none is f = run-goes-on old now acts call (λ b s.
    let fine : b.near.duty.over ≡ false = sym (over-is old b s.holds) ∙ go in
    subst (λ (t : Turn). Does now [] acts t) (is b fine) (subst (λ (l : List BridgeAct). Does now l acts (turn b)) none (f b s)))

pub started-run : (old now : Deck) (before acts : List BridgeAct) → old.near.duty.over ≡ false → before ≡ [] → Follows old now before acts (λ b. near_turn (b.near, Worker.greets) b) → GoesOn old now acts Started
started-run old now before acts go none f = goes-on-as old now before acts Started (λ b. near_turn (b.near, Worker.greets) b) go none
    (λ b o. sym (ap (λ (over : Bool). near_turn (cond {A = Worker.Turn} over (b.near, []) (b.near, Worker.greets)) b) o)) f

pub near-run : (old now : Deck) (before acts : List BridgeAct) (event : LinkEvent) → old.near.duty.over ≡ false → before ≡ [] → Follows old now before acts (near_happens event) → GoesOn old now acts (NearGave event)
near-run old now before acts event go none f = goes-on-as old now before acts (NearGave event) (near_happens event) go none
    (λ b o. sym (ap (λ (over : Bool). cond {A = Turn} over (stays b) (near_happens event b)) o)) f

pub far-run : (old now : Deck) (before acts : List BridgeAct) (event : LinkEvent) → old.near.duty.over ≡ false → before ≡ [] → Follows old now before acts (λ b. far_turn (Client.steps event b.far) b)
    → GoesOn old now acts (FarGave event)
far-run old now before acts event go none f = goes-on-as old now before acts (FarGave event) (λ b. far_turn (Client.steps event b.far) b) go none
    (λ b o. sym (ap (λ (over : Bool). cond {A = Turn} over (stays b) (far_turn (Client.steps event b.far) b)) o)) f
