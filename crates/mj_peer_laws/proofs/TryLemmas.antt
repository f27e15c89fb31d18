-- A client's end gives a request up exactly at the last quiet event of its last try.
use Rattle.std.proofs.Common.{◌≡◌, ◌≢◌, ◌<◌, ◌≤◌, ◌+◌, ◌-◌, ◌*◌, ◌==◌, ℕ, suc, Bool, true, false, ◌||◌, ◌&&◌, List, [], ◌∷◌, ◌++◌, refl, sym, ap, subst, ◌∙◌, cond, Option, None, Some, is_some, inl, inr, arith, eq-eqb}
use Rattle.std.specs.Prelude.{◌⊎◌, ⊤, nat_lt, not}
use Rattle.std.proofs.Math.Nat.{suc-mul}
use Rattle.std.proofs.lemmas.Bool.{false≢true, ltb-false, ltb-true}
use Rattle.std.proofs.lemmas.Bool.Decides.{eqb_tells}
use Rattle.std.proofs.lemmas.Nat.{mul-le}
use Rattle.std.specs.List.{list_any}
use Rattle.mj_base.specs.declared.link.LinkEvent.{LinkEvent}
use Rattle.mj_base.specs.declared.link.LinkEvent.TheVariants as event
use Rattle.mj_base.specs.declared.version.Version.{Version}
use Rattle.mj_client_cmd.specs.declared.command.ClientReply.{ClientReply}
use Rattle.mj_peer.specs.ClientEndRules.{Asked, Call, Client, Met, Turn, answers, asked, begins, counted, follows, fresh, happens, hears, is_its, meets, opened, opens, quiets, request_acts, turn_of, verdict}
use Rattle.mj_peer.specs.PeerTexts.{reply_in}
use Rattle.mj_peer.specs.Sweeping.{behind, beyond, ends, is_ready, sweep}
use Rattle.mj_peer.specs.declared.act.Act.{Act}
use Rattle.mj_peer.specs.declared.act.Act.TheVariants as act
use Rattle.mj_peer.specs.declared.talk.Talk.{Talk}
use Rattle.mj_peer.specs.declared.verdict.Verdict.TheVariants.{Again, Lost, Stay}
use Rattle.mj_peer_laws.specs.ClientTries.{IsRight, Scene, counts, given, is_done, is_fault, is_no_answer, is_quiet, is_reopen, nothing, sees, sights}
use Rattle.mj_peer_laws.specs.Watching.{AreRight}
use Rattle.mj_wire.specs.declared.item.WireItem.{WireItem}
use Rattle.mj_wire.specs.declared.item.WireItem.TheVariants as item

-- ---- counting: `n` quiet events are `a` tries and `q` of the next one

next : (a W : ℕ) → (a + 1) * W ≡ a * W + W
next a W = let e : a + 1 ≡ suc a = omega arith in ap (λ (k : ℕ). k * W) e ∙ suc-mul a W

not-equal : (a b : ℕ) → a ≢ b → (a == b) ≡ false
not-equal a b apart = by (eqb_tells a b)
  where
    by : ((a == b) ≡ true) × (a ≡ b) ⊎ ((a == b) ≡ false) × (a ≢ b) → (a == b) ≡ false
    by (inl e) = absurd (apart e.1)
    by (inr e) = e.0

-- not the last one of a try
pub early : (T W a q n : ℕ) → n ≡ a * W + q → a < T → q + 1 < W → (n + 1 == T * W) ≡ false
early T W a q n is few less =
    let up : a + 1 ≤ T = omega arith in
    let whole = mul-le (a + 1) W T W up (let e : W ≤ W = omega arith in e) in
    let step = next a W in
    not-equal (n + 1) (T * W) (let apart : n + 1 ≢ T * W = omega (arith, is, whole, step, less) in apart)

-- the last one of a try that isn't the last
pub between : (T W a q n : ℕ) → n ≡ a * W + q → a + 1 < T → q + 1 ≡ W → 1 ≤ W → (n + 1 == T * W) ≡ false
between T W a q n is few last some =
    let up : (a + 1) + 1 ≤ T = omega arith in
    let whole = mul-le ((a + 1) + 1) W T W up (let e : W ≤ W = omega arith in e) in
    let step = next a W in
    let further = next (a + 1) W in
    not-equal (n + 1) (T * W) (let apart : n + 1 ≢ T * W = omega (arith, is, whole, step, further, last, some) in apart)

pub moved : (W a q n : ℕ) → n ≡ a * W + q → q + 1 ≡ W → n + 1 ≡ (a + 1) * W + 0
moved W a q n is last = let step = next a W in omega (arith, is, last, step)

pub final : (T W a q n : ℕ) → n ≡ a * W + q → a + 1 ≡ T → q + 1 ≡ W → (n + 1 == T * W) ≡ true
final T W a q n is all last =
    let step = next a W in
    let whole : T * W ≡ (a + 1) * W = ap (λ (k : ℕ). k * W) (sym all) in
    eq-eqb (n + 1) (T * W) (omega (arith, is, last, step, whole))

-- ---- what an end has counted

pub record Counts (T W a q n : ℕ) : Type 0 where
  pub sum : n ≡ a * W + q
  pub few : a < T
  pub less : q < W

-- of the open request: so many quiet events, in tries that have ended and in the present one
abbrev CountsAs : ℕ → ℕ → Option (List (List ℕ)) → ℕ → ℕ → ℕ → Type 0
CountsAs T W None a q n = ⊤
CountsAs T W (Some body) a q n = Counts T W a q n

-- it hasn't given up
record Going (T W n : ℕ) (c : Client) : Type 0 where
  over : c.talk.over ≡ false
  tries : c.talk.tries ≡ T
  wait : c.talk.wait ≡ W
  some_tries : 1 ≤ T
  some_wait : 1 ≤ W
  counts : CountsAs T W c.talk.request c.talk.tried c.talk.quiet n

-- whether a request is open behind these acts
abbrev remains : Bool → List Act → Bool
remains asking acts = asking && not (list_any is_done acts)

abbrev more_if : Bool → ℕ → ℕ
more_if b n = cond b (n + 1) n

record GivenUp (t : Turn) : Type 0 where
  over : t.0.talk.over ≡ true
  says : list_any is_no_answer t.1 ≡ true

record GoesOn (T W n : ℕ) (asking : Bool) (t : Turn) : Type 0 where
  going : Going T W n t.0
  open_is : is_some t.0.talk.request ≡ asking
  says : list_any is_no_answer t.1 ≡ false

-- a turn of an end: the quiet events before, whether a request was open, whether it was a quiet event, the link's stream before
record Swept (T W n : ℕ) (asking quiet : Bool) (stream : List ℕ) (t : Turn) : Type 0 where
  answer : list_any is_no_answer t.1 ≡ ((remains asking t.1 && quiet) && (n + 1 == T * W))
  stream_is : t.0.stream ≡ cond (list_any is_reopen t.1) [] stream
  behind_is : GivenUp t ⊎ GoesOn T W (more_if (remains asking t.1 && quiet) n) (remains asking t.1) t

-- ---- quiet events

-- with no request open nothing is counted
idle-swept : (T W n : ℕ) (ended : Bool) (c : Client) → Going T W n c → c.talk.request ≡ None → Swept T W n false true c.stream (follows (cond ended Again Stay) c)
idle-swept T W n true c g none = record {
  answer = refl;
  stream_is = refl;
  behind_is = inr (record {
    going = record { over = g.over; tries = g.tries; wait = g.wait; some_tries = g.some_tries; some_wait = g.some_wait; counts = g.counts };
    open_is = ap is_some none;
    says = refl;
  });
}
idle-swept T W n false c g none = record {
  answer = refl;
  stream_is = refl;
  behind_is = inr (record { going = g; open_is = ap is_some none; says = refl });
}

-- of an open request, and not the last quiet event
wait-swept : (T W n : ℕ) (ended : Bool) (c : Client) → Going T W (n + 1) c → is_some c.talk.request ≡ true → (n + 1 == T * W) ≡ false
    → Swept T W n true true c.stream (follows (cond ended Again Stay) c)
wait-swept T W n true c g asks late = record {
  answer = sym late;
  stream_is = refl;
  behind_is = inr (record {
    going = record { over = g.over; tries = g.tries; wait = g.wait; some_tries = g.some_tries; some_wait = g.some_wait; counts = g.counts };
    open_is = asks;
    says = refl;
  });
}
wait-swept T W n false c g asks late = record {
  answer = sym late;
  stream_is = refl;
  behind_is = inr (record { going = g; open_is = asks; says = refl });
}

lost-swept : (T W n : ℕ) (c : Client) → c.talk.over ≡ true → (n + 1 == T * W) ≡ true → Swept T W n true true c.stream (c, act.NoAnswer ∷ [])
lost-swept T W n c over last = record {
  answer = sym last;
  stream_is = refl;
  behind_is = inl (record { over = over; says = refl });
}

quiet-swept : (T W n : ℕ) (ended : Bool) (c : Client) → Going T W n c → Swept T W n (is_some c.talk.request) true c.stream (quiets ended c)
quiet-swept T W n ended c g = of c.talk.request refl
  where
    tried : ℕ
    tried = c.talk.tried

    quiet : ℕ
    quiet = c.talk.quiet

    counts : (body : List (List ℕ)) → c.talk.request ≡ Some body → (few more : Bool) → nat_lt c.talk.quiet (c.talk.wait - 1) ≡ few → nat_lt c.talk.tried (c.talk.tries - 1) ≡ more
        → Swept T W n true true c.stream
        (follows (cond few (cond ended Again Stay) (cond more Again Lost)) (record c { talk = cond few (record c.talk { quiet = c.talk.quiet + 1 }) (cond more (record c.talk { tried = c.talk.tried + 1; quiet = 0 }) (record c.talk { over = true; request = None })) }))
    counts body e true more f m =
        let k : Counts T W c.talk.tried c.talk.quiet n = subst (λ (r : Option (List (List ℕ))). CountsAs T W r c.talk.tried c.talk.quiet n) e g.counts in
        let less : c.talk.quiet + 1 < W = (let l = ltb-true c.talk.quiet (c.talk.wait - 1) f in let w = g.wait in omega (arith, l, w)) in
        let count : Counts T W c.talk.tried (c.talk.quiet + 1) (n + 1) = record { sum = (let s = k.sum in omega (arith, s)); few = k.few; less = less } in
        let u : Client = record c { talk = record c.talk { quiet = c.talk.quiet + 1 } } in
        wait-swept T W n ended u
        (record {
          over = g.over;
          tries = g.tries;
          wait = g.wait;
          some_tries = g.some_tries;
          some_wait = g.some_wait;
          counts = subst (λ (r : Option (List (List ℕ))). CountsAs T W r c.talk.tried (c.talk.quiet + 1) (n + 1)) (sym e) count;
        })
        (ap is_some e) (early T W c.talk.tried c.talk.quiet n k.sum k.few less)
    counts body e false true f m =
        let k : Counts T W c.talk.tried c.talk.quiet n = subst (λ (r : Option (List (List ℕ))). CountsAs T W r c.talk.tried c.talk.quiet n) e g.counts in
        let last : c.talk.quiet + 1 ≡ W = (let l = ltb-false c.talk.quiet (c.talk.wait - 1) f in let w = g.wait in let h = k.less in omega (arith, l, w, h)) in
        let few : c.talk.tried + 1 < T = (let l = ltb-true c.talk.tried (c.talk.tries - 1) m in let t = g.tries in omega (arith, l, t)) in
        let count : Counts T W (c.talk.tried + 1) 0 (n + 1) = record { sum = moved W c.talk.tried c.talk.quiet n k.sum last; few = few; less = (let h = g.some_wait in omega (arith, h)) } in
        let u : Client = record c { talk = record c.talk { tried = c.talk.tried + 1; quiet = 0 } } in
        wait-swept T W n true u
        (record {
          over = g.over;
          tries = g.tries;
          wait = g.wait;
          some_tries = g.some_tries;
          some_wait = g.some_wait;
          counts = subst (λ (r : Option (List (List ℕ))). CountsAs T W r (c.talk.tried + 1) 0 (n + 1)) (sym e) count;
        })
        (ap is_some e) (between T W c.talk.tried c.talk.quiet n k.sum few last g.some_wait)
    counts body e false false f m =
        let k : Counts T W c.talk.tried c.talk.quiet n = subst (λ (r : Option (List (List ℕ))). CountsAs T W r c.talk.tried c.talk.quiet n) e g.counts in
        let last : c.talk.quiet + 1 ≡ W = (let l = ltb-false c.talk.quiet (c.talk.wait - 1) f in let w = g.wait in let h = k.less in omega (arith, l, w, h)) in
        let all : c.talk.tried + 1 ≡ T = (let l = ltb-false c.talk.tried (c.talk.tries - 1) m in let t = g.tries in let h = k.few in omega (arith, l, t, h)) in
        lost-swept T W n (record c { talk = record c.talk { over = true; request = None } }) refl (final T W c.talk.tried c.talk.quiet n k.sum all last)

    of : (request : Option (List (List ℕ))) → c.talk.request ≡ request
        → Swept T W n (is_some request) true c.stream (follows (verdict ended request c.talk) (record c { talk = counted request c.talk }))
    of None e = idle-swept T W n ended c g e
    of (Some body) e = counts body e (nat_lt c.talk.quiet (c.talk.wait - 1)) (nat_lt c.talk.tried (c.talk.tries - 1)) refl refl

fault-ends : (c : Client) → ends (quiets true c) ≡ true
fault-ends c = of c.talk.request
  where
    counts : (few more : Bool) (u : Client) → ends (follows (cond few Again (cond more Again Lost)) u) ≡ true
    counts true more u = refl
    counts false true u = refl
    counts false false u = refl

    of : (request : Option (List (List ℕ))) → ends (follows (verdict true request c.talk) (record c { talk = counted request c.talk })) ≡ true
    of None = refl
    of (Some body) = counts (nat_lt c.talk.quiet (c.talk.wait - 1)) (nat_lt c.talk.tried (c.talk.tries - 1)) (record c { talk = counted (Some body) c.talk })

-- ---- a piece

-- behind a final reply no request is open
done-swept : (T W n : ℕ) (asking quiet : Bool) (stream : List ℕ) (body : List (List ℕ)) (t : Turn) → Swept T W n false quiet stream t → Swept T W n asking quiet stream (t.0, act.Done body ∷ t.1)
done-swept T W n true quiet stream body t s = record { answer = s.answer; stream_is = s.stream_is; behind_is = of s.behind_is }
  where
    of : GivenUp t ⊎ GoesOn T W n false t → GivenUp (t.0, act.Done body ∷ t.1) ⊎ GoesOn T W n false (t.0, act.Done body ∷ t.1)
    of (inl g) = inl (record { over = g.over; says = g.says })
    of (inr g) = inr (record { going = g.going; open_is = g.open_is; says = g.says })
done-swept T W n false quiet stream body t s = record { answer = s.answer; stream_is = s.stream_is; behind_is = of s.behind_is }
  where
    of : GivenUp t ⊎ GoesOn T W n false t → GivenUp (t.0, act.Done body ∷ t.1) ⊎ GoesOn T W n false (t.0, act.Done body ∷ t.1)
    of (inl g) = inl (record { over = g.over; says = g.says })
    of (inr g) = inr (record { going = g.going; open_is = g.open_is; says = g.says })

-- an act that says nothing of a request
plain-swept : (T W n : ℕ) (asking quiet : Bool) (stream : List ℕ) (a : Act) (t : Turn) → is_done a ≡ false → is_no_answer a ≡ false → is_reopen a ≡ false
    → Swept T W n asking quiet stream t → Swept T W n asking quiet stream (t.0, a ∷ t.1)
plain-swept T W n asking quiet stream a t d o r s = record {
  answer = ap (λ (b : Bool). b || list_any is_no_answer t.1) o ∙ s.answer ∙ ap (λ (b : Bool). ((asking && not b) && quiet) && (n + 1 == T * W)) (sym done);
  stream_is = s.stream_is ∙ ap (λ (b : Bool). cond b [] stream) (sym (ap (λ (b : Bool). b || list_any is_reopen t.1) r));
  behind_is = of s.behind_is;
}
  where
    done : list_any is_done (a ∷ t.1) ≡ list_any is_done t.1
    done = ap (λ (b : Bool). b || list_any is_done t.1) d

    says : list_any is_no_answer (a ∷ t.1) ≡ list_any is_no_answer t.1
    says = ap (λ (b : Bool). b || list_any is_no_answer t.1) o

    of : GivenUp t ⊎ GoesOn T W (more_if (remains asking t.1 && quiet) n) (remains asking t.1) t
        → GivenUp (t.0, a ∷ t.1) ⊎ GoesOn T W (more_if (remains asking (a ∷ t.1) && quiet) n) (remains asking (a ∷ t.1)) (t.0, a ∷ t.1)
    of (inl g) = inl (record { over = g.over; says = says ∙ g.says })
    of (inr g) = inr (record {
      going = subst (λ (b : Bool). Going T W (more_if ((asking && not b) && quiet) n) t.0) (sym done) g.going;
      open_is = g.open_is ∙ ap (λ (b : Bool). asking && not b) (sym done);
      says = says ∙ g.says;
    })

none-swept : (T W n : ℕ) (c : Client) → Going T W n c → Swept T W n (is_some c.talk.request) false c.stream (c, [])
none-swept T W n c g = of (is_some c.talk.request) refl
  where
    of : (b : Bool) → is_some c.talk.request ≡ b → Swept T W n b false c.stream (c, [])
    of true e = record { answer = refl; stream_is = refl; behind_is = inr (record { going = g; open_is = e; says = refl }) }
    of false e = record { answer = refl; stream_is = refl; behind_is = inr (record { going = g; open_is = e; says = refl }) }

ready-swept : (T W n : ℕ) (quiet : Bool) (more : Client → Turn) (c : Client) → Swept T W n (is_some c.talk.request) quiet c.stream (more c) → (request : Option (List (List ℕ)))
    → Swept T W n (is_some c.talk.request) quiet c.stream (behind more (ends (c, request_acts request c.talk)) (c, request_acts request c.talk))
ready-swept T W n quiet more c s None = s
ready-swept T W n quiet more c s (Some body) = plain-swept T W n (is_some c.talk.request) quiet c.stream (act.Write _) (more c) refl refl refl s

-- what comes behind a reply: of an open request, and of none
replied-swept : (T W n : ℕ) (quiet : Bool) (more : Client → Turn) (c : Client) (body : List (List ℕ)) → Swept T W n (is_some c.talk.request) quiet c.stream (more c)
    → Swept T W n false quiet c.stream (more (record c { talk = record c.talk { request = None } })) → (final : Bool)
    → Swept T W n (is_some c.talk.request) quiet c.stream (behind more (ends (answers final body c)) (answers final body c))
replied-swept T W n quiet more c body s shut true =
    done-swept T W n (is_some c.talk.request) quiet c.stream body (more (record c { talk = record c.talk { request = None } })) shut
replied-swept T W n quiet more c body s shut false = plain-swept T W n (is_some c.talk.request) quiet c.stream (act.Part body) (more c) refl refl refl s

heard-swept : (T W n : ℕ) (quiet : Bool) (more : Client → Turn) (c : Client) → Swept T W n (is_some c.talk.request) quiet c.stream (more c)
    → Swept T W n false quiet c.stream (more (record c { talk = record c.talk { request = None } })) → (found : Option ClientReply)
    → Swept T W n (is_some c.talk.request) quiet c.stream (behind more (ends (hears found c)) (hears found c))
heard-swept T W n quiet more c s shut None = s
heard-swept T W n quiet more c s shut (Some r) = by (is_its c.talk r)
  where
    by : (b : Bool)
        → Swept T W n (is_some c.talk.request) quiet c.stream (behind more (ends (cond {A = Turn} b (answers r.last r.body c) (c, []))) (cond {A = Turn} b (answers r.last r.body c) (c, [])))
    by true = replied-swept T W n quiet more c r.body s shut r.last
    by false = s

sweeps-swept : (T W n : ℕ) (xs : List WireItem) (c : Client) → Going T W n c → Swept T W n (is_some c.talk.request) (list_any is_fault xs) c.stream (sweep meets xs c)
sweeps-swept T W n [] c g = none-swept T W n c g
sweeps-swept T W n (item.Accepted ∷ xs) c g = sweeps-swept T W n xs c g
sweeps-swept T W n (item.Ready kind ∷ xs) c g = ready-swept T W n (list_any is_fault xs) (sweep meets xs) c (sweeps-swept T W n xs c g) c.talk.request
sweeps-swept T W n (item.Message message ∷ xs) c g =
    let shut : Client = record c { talk = record c.talk { request = None } } in
    heard-swept T W n (list_any is_fault xs) (sweep meets xs) c (sweeps-swept T W n xs c g)
    (sweeps-swept T W n xs shut (record { over = g.over; tries = g.tries; wait = g.wait; some_tries = g.some_tries; some_wait = g.some_wait; counts = tt })) (reply_in message)
sweeps-swept T W n (item.Ended reason at ∷ xs) c g =
    subst (λ (b : Bool). Swept T W n (is_some c.talk.request) true c.stream (behind (sweep meets xs) b (quiets true c))) (sym (fault-ends c)) (quiet-swept T W n true c g)

-- ---- runs

record Live (T W : ℕ) (c : Client) (s : Scene) : Type 0 where
  going : Going T W s.waited c
  asking : s.asking ≡ is_some c.talk.request
  stream : s.stream ≡ c.stream
  seen_going : s.over ≡ false

record Lost-for-good (c : Client) (s : Scene) : Type 0 where
  over : c.talk.over ≡ true
  seen_over : s.over ≡ true

abbrev Fits : ℕ → ℕ → Client → Scene → Type 0
Fits T W c s = Lost-for-good c s ⊎ Live T W c s

record Goes (T W : ℕ) (call : Call) (t : Turn) (s : Scene) : Type 0 where
  right : IsRight (T * W) (record { call = call; acts = t.1 }) s
  fits : Fits T W t.0 (sees (record { call = call; acts = t.1 }) s)

-- what a link gives, met by an end that hasn't given up
met-goes : (T W : ℕ) (e : LinkEvent) (asking over : Bool) (waited : ℕ) (stream : List ℕ) (t : Turn) → over ≡ false
    → Swept T W waited asking (is_quiet e stream) (given e stream) t → Goes T W (Met e) t (record { asking = asking; waited = waited; stream = stream; over = over })
met-goes T W e asking true waited stream t going s = absurd (false≢true (sym going))
met-goes T W e asking false waited stream t going s = record { right = s.answer; fits = of s.behind_is }
  where
    k : Scene
    k = record { asking = asking; waited = waited; stream = stream; over = false }

    of : GivenUp t ⊎ GoesOn T W (more_if (remains asking t.1 && is_quiet e stream) waited) (remains asking t.1) t
        → Fits T W t.0 (counts (Met e) t.1 (record { asking = asking; waited = waited; stream = stream; over = false }))
    of (inl g) = inl (record { over = g.over; seen_over = g.says })
    of (inr g) = inr (record { going = g.going; asking = sym g.open_is; stream = sym s.stream_is; seen_going = g.says })

happens-goes : (T W : ℕ) (e : LinkEvent) (c : Client) (s : Scene) → Live T W c s → Goes T W (Met e) (happens e c) s
happens-goes T W e c s l = met-goes T W e s.asking s.over s.waited s.stream (happens e c) l.seen_going (of e)
  where
    fit : (quiet : Bool) (after : List ℕ) (t : Turn) → Swept T W s.waited (is_some c.talk.request) quiet after t → Swept T W s.waited s.asking quiet after t
    fit quiet after t k = subst (λ (b : Bool). Swept T W s.waited b quiet after t) (sym l.asking) k

    of : (e : LinkEvent) → Swept T W s.waited s.asking (is_quiet e s.stream) (given e s.stream) (happens e c)
    of (event.Given piece) =
        let more : Client = record c { stream = c.stream ++ piece } in
        let g = l.going in
        let k = sweeps-swept T W s.waited (beyond c.stream piece) more (record { over = g.over; tries = g.tries; wait = g.wait; some_tries = g.some_tries; some_wait = g.some_wait; counts = g.counts }) in
        fit (is_quiet (event.Given piece) s.stream) (s.stream ++ piece) (happens (event.Given piece) c)
        (subst (λ (x : List ℕ). Swept T W s.waited (is_some c.talk.request) (list_any is_fault (beyond x piece)) (x ++ piece) (happens (event.Given piece) c)) (sym l.stream) k)
    of event.Idle = fit true s.stream (quiets false c) (subst (λ (x : List ℕ). Swept T W s.waited (is_some c.talk.request) true x (quiets false c)) (sym l.stream) (quiet-swept T W s.waited false c l.going))
    of event.End = fit true s.stream (quiets true c) (subst (λ (x : List ℕ). Swept T W s.waited (is_some c.talk.request) true x (quiets true c)) (sym l.stream) (quiet-swept T W s.waited true c l.going))

-- a request says nothing of giving up
begins-no-answer : (linked ready : Bool) (version : Version) (t : Talk) → list_any is_no_answer (begins linked version ++ opened ready t) ≡ false
begins-no-answer true true version t = of t.request
  where
    of : (request : Option (List (List ℕ))) → list_any is_no_answer (request_acts request t) ≡ false
    of None = refl
    of (Some body) = refl
begins-no-answer false true version t = of t.request
  where
    of : (request : Option (List (List ℕ))) → list_any is_no_answer (request_acts request t) ≡ false
    of None = refl
    of (Some body) = refl
begins-no-answer true false version t = refl
begins-no-answer false false version t = refl

opens-goes : (T W : ℕ) (body : List (List ℕ)) (c : Client) (s : Scene) → Live T W c s → Goes T W (Asked body) (opens body c) s
opens-goes T W body c s l = of s.over l.seen_going
  where
    fresh-counts : Counts T W 0 0 0
    fresh-counts = record { sum = (let z : 0 ≡ 0 * W + 0 = omega arith in z); few = (let h = l.going.some_tries in omega (arith, h)); less = (let h = l.going.some_wait in omega (arith, h)) }

    of : (over : Bool) → over ≡ false → Goes T W (Asked body) (opens body c) (record s { over = over })
    of true e = absurd (false≢true (sym e))
    of false e = record {
      right = begins-no-answer c.talk.linked (is_ready c.stream) c.talk.version (asked body c.talk);
      fits = inr (record {
        going = record { over = l.going.over; tries = l.going.tries; wait = l.going.wait; some_tries = l.going.some_tries; some_wait = l.going.some_wait; counts = fresh-counts };
        asking = refl;
        stream = l.stream;
        seen_going = refl;
      });
    }

over-goes : (T W : ℕ) (call : Call) (c : Client) (s : Scene) → c.talk.over ≡ true → (over : Bool) → s.over ≡ over → over ≡ true → Goes T W call (c, []) s
over-goes T W call c s o over is holds =
    subst (λ (b : Bool). Goes T W call (c, []) (record s { over = b })) (sym (is ∙ holds)) (record { right = refl; fits = inl (record { over = o; seen_over = refl }) })

call-goes : (T W : ℕ) (call : Call) (c : Client) (s : Scene) → Fits T W c s → Goes T W call (turn_of call c) s
call-goes T W (Asked body) c s (inl o) = subst (λ (b : Bool). Goes T W (Asked body) (cond {A = Turn} b (c, []) (opens body c)) s) (sym o.over) (over-goes T W (Asked body) c s o.over s.over refl o.seen_over)
call-goes T W (Met e) c s (inl o) = subst (λ (b : Bool). Goes T W (Met e) (cond {A = Turn} b (c, []) (happens e c)) s) (sym o.over) (over-goes T W (Met e) c s o.over s.over refl o.seen_over)
call-goes T W (Asked body) c s (inr l) = subst (λ (b : Bool). Goes T W (Asked body) (cond {A = Turn} b (c, []) (opens body c)) s) (sym l.going.over) (opens-goes T W body c s l)
call-goes T W (Met e) c s (inr l) = subst (λ (b : Bool). Goes T W (Met e) (cond {A = Turn} b (c, []) (happens e c)) s) (sym l.going.over) (happens-goes T W e c s l)

runs-go : (T W : ℕ) (calls : List Call) (c : Client) (s : Scene) → Fits T W c s → AreRight (IsRight (T * W)) sees (sights calls c) s
runs-go T W [] c s f = tt
runs-go T W (call ∷ calls) c s f =
    let g = call-goes T W call c s f in
    (g.right, runs-go T W calls (turn_of call c).0 (sees (record { call = call; acts = (turn_of call c).1 }) s) g.fits)

pub runs-are-right : (v : Version) (n : List ℕ) (tries wait : ℕ) (calls : List Call) → 1 ≤ tries → 1 ≤ wait
    → AreRight (IsRight (tries * wait)) sees (sights calls (fresh v n tries wait)) nothing
runs-are-right v n tries wait calls some_tries some_wait =
    runs-go tries wait calls (fresh v n tries wait) nothing
    (inr (record { going = record { over = refl; tries = refl; wait = refl; some_tries = some_tries; some_wait = some_wait; counts = tt }; asking = refl; stream = refl; seen_going = refl }))
