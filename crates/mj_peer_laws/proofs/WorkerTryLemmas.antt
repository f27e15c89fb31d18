-- A worker's end gives up exactly at the last quiet event of its last try.
use Rattle.std.proofs.Common.{◌≡◌, ◌<◌, ◌≤◌, ◌+◌, ◌-◌, ◌*◌, ◌==◌, ℕ, zero, suc, Bool, true, false, ◌||◌, ◌&&◌, List, [], ◌∷◌, ◌++◌, refl, sym, ap, subst, ◌∙◌, cond, Option, None, Some, append-nil, inl, inr, arith}
use Rattle.std.specs.Prelude.{◌⊎◌, nat_lt, not, ◌%◌, replicate}
use Rattle.std.proofs.lemmas.Bool.{false≢true, ltb-false, ltb-true}
use Rattle.std.proofs.lemmas.List.Folds.{list_any-append}
use Rattle.std.specs.List.{list_any}
use Rattle.mj_base.specs.declared.link.LinkEvent.{LinkEvent}
use Rattle.mj_base.specs.declared.link.LinkEvent.TheVariants as event
use Rattle.mj_base.specs.declared.version.Version.{Version}
use Rattle.mj_base.specs.declared.version.Version.TheVariants.{One, Two}
use Rattle.mj_peer.specs.PeerTexts.{order_in, said_text, same_version}
use Rattle.mj_peer.specs.Sweeping.{behind, beyond, ends, is_end, is_ready, sweep}
use Rattle.mj_peer.specs.WorkerEndRules.{Call, Met, Started, Turn, Worker, answer, answers, finishes, finishing, follows, follows_idle, fresh, greets, happens, hearing, hears, idles_on, meets, obeys, partials, quiets, reopens, rests, served, serves, takes, turn_of}
use Rattle.mj_peer.specs.WorkerEndRules as rules
use Rattle.mj_peer.specs.declared.act.Act.{Act}
use Rattle.mj_peer.specs.declared.act.Act.TheVariants as act
use Rattle.mj_peer.specs.declared.duty.Duty.{Duty}
use Rattle.mj_peer.specs.declared.verdict.Verdict.TheVariants.{Again, Lost, Stay}
use Rattle.mj_peer_laws.proofs.TryLemmas.{Counts, between, early, final, moved}
use Rattle.mj_peer_laws.specs.ClientTries.{given, is_no_answer, is_reopen}
use Rattle.mj_peer_laws.specs.Watching.{AreRight}
use Rattle.mj_peer_laws.specs.WorkerTries.{IsRight, Mark, Neither, Quiet, Scene, before, comes, counted, counts, is_finished, is_quiet, mark_by, mark_of, marks, met, nothing, sees, sights, streamed}
use Rattle.mj_wire.specs.declared.item.WireItem.{WireItem}
use Rattle.mj_wire.specs.declared.item.WireItem.TheVariants as item
use Rattle.mj_worker_cmd.specs.declared.command.Order.{Order}
use Rattle.mj_worker_cmd.specs.declared.command.OrderAct.{OrderAct}
use Rattle.mj_worker_cmd.specs.declared.command.OrderAct.TheVariants as order
use Rattle.mj_worker_cmd.specs.declared.command.WorkerAct.TheVariants as said

-- ---- what an end has counted

-- it has neither left nor given up, and so many quiet events were counted since it heard of the broker
record Going (T : ℕ) (v : Version) (n : ℕ) (w : Worker) : Type 0 where
  over : w.duty.over ≡ false
  tries : w.duty.tries ≡ T
  version : w.duty.version ≡ v
  counts : Counts T 75 w.duty.tried w.duty.quiet n

-- it leaves or gives up with these acts
abbrev leaves : List Act → Bool
leaves acts = list_any is_no_answer acts || list_any is_finished acts

record Left (t : Turn) : Type 0 where
  over : t.0.duty.over ≡ true
  says : leaves t.1 ≡ true

record GoesOn (T : ℕ) (v : Version) (n : ℕ) (t : Turn) : Type 0 where
  going : Going T v n t.0
  says : leaves t.1 ≡ false

-- a turn of an end: the quiet events before, what came, the link's stream before
record Swept (T : ℕ) (v : Version) (n : ℕ) (ms : List Mark) (stream : List ℕ) (t : Turn) : Type 0 where
  answer : list_any is_no_answer t.1 ≡ (not (list_any is_finished t.1) && (list_any is_quiet ms && (counted n ms == T * 75)))
  stream_is : t.0.stream ≡ cond (list_any is_reopen t.1) [] stream
  behind_is : Left t ⊎ GoesOn T v (counted n ms) t

none-heard : (T : ℕ) (a : ℕ) → a < T → Counts T 75 0 0 0
none-heard T a few = record { sum = refl; few = (let h = few in omega (arith, h)); less = omega arith }

-- ---- acts that tell neither of leaving nor of a new link

record IsSilent (acts : List Act) : Type 0 where
  no_answer : list_any is_no_answer acts ≡ false
  no_end : list_any is_finished acts ≡ false
  no_opening : list_any is_reopen acts ≡ false

silent-skips : (p : Act → Bool) (xs ys : List Act) → list_any p xs ≡ false → list_any p (xs ++ ys) ≡ list_any p ys
silent-skips p xs ys e = list_any-append p xs ys ∙ ap (λ (b : Bool). b || list_any p ys) e

then-swept : (T : ℕ) (v : Version) (n : ℕ) (ms : List Mark) (stream : List ℕ) (xs : List Act) (t : Turn) → IsSilent xs → Swept T v n ms stream t → Swept T v n ms stream (t.0, xs ++ t.1)
then-swept T v n ms stream xs t quiet s = record {
  answer = answers-alike ∙ s.answer ∙ ap (λ (b : Bool). not b && (list_any is_quiet ms && (counted n ms == T * 75))) (sym ends-alike);
  stream_is = s.stream_is ∙ ap (λ (b : Bool). cond b [] stream) (sym (silent-skips is_reopen xs t.1 quiet.no_opening));
  behind_is = of s.behind_is;
}
  where
    answers-alike : list_any is_no_answer (xs ++ t.1) ≡ list_any is_no_answer t.1
    answers-alike = silent-skips is_no_answer xs t.1 quiet.no_answer

    ends-alike : list_any is_finished (xs ++ t.1) ≡ list_any is_finished t.1
    ends-alike = silent-skips is_finished xs t.1 quiet.no_end

    alike : leaves (xs ++ t.1) ≡ leaves t.1
    alike = ap (λ (b : Bool). b || list_any is_finished (xs ++ t.1)) answers-alike ∙ ap (λ (b : Bool). list_any is_no_answer t.1 || b) ends-alike

    of : Left t ⊎ GoesOn T v (counted n ms) t → Left (t.0, xs ++ t.1) ⊎ GoesOn T v (counted n ms) (t.0, xs ++ t.1)
    of (inl l) = inl (record { over = l.over; says = alike ∙ l.says })
    of (inr g) = inr (record { going = g.going; says = alike ∙ g.says })

none-swept : (T : ℕ) (v : Version) (n : ℕ) (w : Worker) → Going T v n w → Swept T v n [] w.stream (w, [])
none-swept T v n w g = record { answer = refl; stream_is = refl; behind_is = inr (record { going = g; says = refl }) }

-- ---- quiet events

stay-swept : (T : ℕ) (v : Version) (n : ℕ) (w : Worker) → Going T v (n + 1) w → (n + 1 == T * 75) ≡ false → Swept T v n (Quiet ∷ []) w.stream (w, [])
stay-swept T v n w g late = record { answer = sym late; stream_is = refl; behind_is = inr (record { going = g; says = refl }) }

again-swept : (T : ℕ) (v : Version) (n : ℕ) (w : Worker) → Going T v (n + 1) w → (n + 1 == T * 75) ≡ false → Swept T v n (Quiet ∷ []) w.stream (reopens w)
again-swept T v n w g late = record {
  answer = sym late;
  stream_is = refl;
  behind_is = inr (record { going = record { over = g.over; tries = g.tries; version = g.version; counts = g.counts }; says = refl });
}

lost-swept : (T : ℕ) (v : Version) (n : ℕ) (w : Worker) → w.duty.over ≡ true → (n + 1 == T * 75) ≡ true → Swept T v n (Quiet ∷ []) w.stream (w, act.NoAnswer ∷ [])
lost-swept T v n w over last = record { answer = sym last; stream_is = refl; behind_is = inl (record { over = over; says = refl }) }

-- what it has counted behind a quiet event that isn't the last of the last try
record Within (T : ℕ) (v : Version) (n : ℕ) (w : Worker) : Type 0 where
  going : Going T v (n + 1) w
  late : (n + 1 == T * 75) ≡ false

within : (T : ℕ) (v : Version) (n : ℕ) (w : Worker) → Going T v n w → nat_lt w.duty.quiet 74 ≡ true → Within T v n (record w { duty = record w.duty { quiet = w.duty.quiet + 1 } })
within T v n w g f =
    let k = g.counts in
    let less : w.duty.quiet + 1 < 75 = (let l = ltb-true w.duty.quiet 74 f in omega (arith, l)) in
    record {
      going = record { over = g.over; tries = g.tries; version = g.version; counts = record { sum = (let s = k.sum in omega (arith, s)); few = k.few; less = less } };
      late = early T 75 w.duty.tried w.duty.quiet n k.sum k.few less;
    }

last-of : (T : ℕ) (v : Version) (n : ℕ) (w : Worker) → Going T v n w → nat_lt w.duty.quiet 74 ≡ false → w.duty.quiet + 1 ≡ 75
last-of T v n w g f = let l = ltb-false w.duty.quiet 74 f in let h = g.counts.less in omega (arith, l, h)

nexts : (T : ℕ) (v : Version) (n : ℕ) (w : Worker) → Going T v n w → nat_lt w.duty.quiet 74 ≡ false → nat_lt w.duty.tried (w.duty.tries - 1) ≡ true
    → Within T v n (record w { duty = record w.duty { tried = w.duty.tried + 1; quiet = 0 } })
nexts T v n w g f m =
    let k = g.counts in
    let last = last-of T v n w g f in
    let few : w.duty.tried + 1 < T = (let l = ltb-true w.duty.tried (w.duty.tries - 1) m in let t = g.tries in omega (arith, l, t)) in
    record {
      going = record { over = g.over; tries = g.tries; version = g.version; counts = record { sum = moved 75 w.duty.tried w.duty.quiet n k.sum last; few = few; less = omega arith } };
      late = between T 75 w.duty.tried w.duty.quiet n k.sum few last (omega arith);
    }

ended : (T : ℕ) (v : Version) (n : ℕ) (w : Worker) → Going T v n w → nat_lt w.duty.quiet 74 ≡ false → nat_lt w.duty.tried (w.duty.tries - 1) ≡ false → (n + 1 == T * 75) ≡ true
ended T v n w g f m =
    let k = g.counts in
    let all : w.duty.tried + 1 ≡ T = (let l = ltb-false w.duty.tried (w.duty.tries - 1) m in let t = g.tries in let h = k.few in omega (arith, l, t, h)) in
    final T 75 w.duty.tried w.duty.quiet n k.sum all (last-of T v n w g f)

quiet-swept : (T : ℕ) (v : Version) (n : ℕ) (w : Worker) → Going T v n w → Swept T v n (Quiet ∷ []) w.stream (quiets true w)
quiet-swept T v n w g = of (nat_lt w.duty.quiet 74) (nat_lt w.duty.tried (w.duty.tries - 1)) refl refl
  where
    of : (few more : Bool) → nat_lt w.duty.quiet 74 ≡ few → nat_lt w.duty.tried (w.duty.tries - 1) ≡ more
        → Swept T v n (Quiet ∷ []) w.stream
        (follows (cond few Again (cond more Again Lost)) (record w { duty = cond few (record w.duty { quiet = w.duty.quiet + 1 }) (cond more (record w.duty { tried = w.duty.tried + 1; quiet = 0 }) (record w.duty { over = true })) }))
    of true more f m =
        let k = within T v n w g f in
        again-swept T v n (record w { duty = record w.duty { quiet = w.duty.quiet + 1 } }) k.going k.late
    of false true f m =
        let k = nexts T v n w g f m in
        again-swept T v n (record w { duty = record w.duty { tried = w.duty.tried + 1; quiet = 0 } }) k.going k.late
    of false false f m = lost-swept T v n (record w { duty = record w.duty { over = true } }) refl (ended T v n w g f m)

quiet-ends : (w : Worker) → ends (quiets true w) ≡ true
quiet-ends w = of (nat_lt w.duty.quiet 74) (nat_lt w.duty.tried (w.duty.tries - 1))
  where
    of : (few more : Bool)
        → ends (follows (cond few Again (cond more Again Lost)) (record w { duty = cond few (record w.duty { quiet = w.duty.quiet + 1 }) (cond more (record w.duty { tried = w.duty.tried + 1; quiet = 0 }) (record w.duty { over = true })) })) ≡ true
    of true more = refl
    of false true = refl
    of false false = refl

-- within a try the worker may say HEARTBEAT
idle-swept : (T : ℕ) (v : Version) (n : ℕ) (w : Worker) → Within T v n w → (ready : Bool) → Swept T v n (Quiet ∷ []) w.stream (idles_on ready w)
idle-swept T v n w k false = stay-swept T v n w k.going k.late
idle-swept T v n w k true = of ((w.idles + 1) % 25 == 0)
  where
    still : Swept T v n (Quiet ∷ []) w.stream (record w { idles = w.idles + 1 }, [])
    still = stay-swept T v n (record w { idles = w.idles + 1 }) (record { over = k.going.over; tries = k.going.tries; version = k.going.version; counts = k.going.counts }) k.late

    of : (b : Bool) → Swept T v n (Quiet ∷ []) w.stream (record w { idles = w.idles + 1 }, cond b (act.Write (said_text w.duty.version said.Heartbeat) ∷ []) [])
    of true = then-swept T v n (Quiet ∷ []) w.stream (act.Write _ ∷ []) (record w { idles = w.idles + 1 }, []) (record { no_answer = refl; no_end = refl; no_opening = refl }) still
    of false = still

rest-swept : (T : ℕ) (v : Version) (n : ℕ) (w : Worker) → Going T v n w → Swept T v n (Quiet ∷ []) w.stream (rests w)
rest-swept T v n w g = of (nat_lt w.duty.quiet 74) (nat_lt w.duty.tried (w.duty.tries - 1)) refl refl
  where
    of : (few more : Bool) → nat_lt w.duty.quiet 74 ≡ few → nat_lt w.duty.tried (w.duty.tries - 1) ≡ more
        → Swept T v n (Quiet ∷ []) w.stream
        (follows_idle (cond few Stay (cond more Again Lost)) (record w { duty = cond few (record w.duty { quiet = w.duty.quiet + 1 }) (cond more (record w.duty { tried = w.duty.tried + 1; quiet = 0 }) (record w.duty { over = true })) }))
    of true more f m = idle-swept T v n (record w { duty = record w.duty { quiet = w.duty.quiet + 1 } }) (within T v n w g f) (is_ready w.stream)
    of false true f m =
        let k = nexts T v n w g f m in
        again-swept T v n (record w { duty = record w.duty { tried = w.duty.tried + 1; quiet = 0 } }) k.going k.late
    of false false f m = lost-swept T v n (record w { duty = record w.duty { over = true } }) refl (ended T v n w g f m)

-- ---- answers

writes-none : (p : Act → Bool) (k : ℕ) (a : Act) → p a ≡ false → list_any p (replicate k a) ≡ false
writes-none p zero a e = refl
writes-none p (suc k) a e = ap (λ (b : Bool). b || list_any p (replicate k a)) e ∙ writes-none p k a e

partials-none : (p : Act → Bool) (v : Version) (k : ℕ) (address : List ℕ) (body : List (List ℕ)) → ((text : List ℕ) → p (act.Write text) ≡ false) → list_any p (partials v k address body) ≡ false
partials-none p One k address body e = refl
partials-none p Two k address body e = writes-none p k (answer Two false address body) (e _)

-- of replies, and the mark that a REQUEST was served
answers-none : (p : Act → Bool) (d : Duty) (address : List ℕ) (body : List (List ℕ)) → ((text : List ℕ) → p (act.Write text) ≡ false) → p act.Served ≡ false → list_any p (answers d address body) ≡ false
answers-none p d address body e s =
    silent-skips p (partials d.version d.parts address body) (answer d.version true address body ∷ act.Served ∷ []) (partials-none p d.version d.parts address body e)
    ∙ ap (λ (b : Bool). b || (p act.Served || false)) (e _) ∙ ap (λ (b : Bool). b || false) s

answers-silent : (d : Duty) (address : List ℕ) (body : List (List ℕ)) → IsSilent (answers d address body)
answers-silent d address body = record {
  no_answer = answers-none is_no_answer d address body (λ text. refl) refl;
  no_end = answers-none is_finished d address body (λ text. refl) refl;
  no_opening = answers-none is_reopen d address body (λ text. refl) refl;
}

-- what comes behind a REQUEST that was answered, where the worker doesn't leave
served-swept : (T : ℕ) (v : Version) (ms : List Mark) (more : Worker → Turn) (w : Worker) (xs : List Act) → IsSilent xs → list_any is_end xs ≡ false → Swept T v 0 ms w.stream (more w) → (finished : Bool)
    → Swept T v 0 ms w.stream (behind more (ends ((finishes finished w).0, xs ++ (finishes finished w).1)) ((finishes finished w).0, xs ++ (finishes finished w).1))
served-swept T v ms more w xs silent goes s true =
    let t : Turn = finishes true w in
    let left : Swept T v 0 ms w.stream t = record { answer = refl; stream_is = refl; behind_is = inl (record { over = refl; says = refl }) } in
    subst (λ (b : Bool). Swept T v 0 ms w.stream (behind more b (t.0, xs ++ t.1))) (sym (silent-skips is_end xs t.1 goes)) (then-swept T v 0 ms w.stream xs t silent left)
served-swept T v ms more w xs silent goes s false =
    subst (λ (b : Bool). Swept T v 0 ms w.stream (behind more b (w, xs ++ []))) (sym (silent-skips is_end xs [] goes))
    (subst (λ (l : List Act). Swept T v 0 ms w.stream ((more w).0, l ++ (more w).1)) (sym (append-nil xs)) (then-swept T v 0 ms w.stream xs (more w) silent s))

-- ---- a piece

-- what comes behind an item, for whatever the worker has counted then
abbrev GoesBehind : ℕ → Version → List Mark → (Worker → Turn) → Type 0
GoesBehind T v ms more = (n : ℕ) (w : Worker) → Going T v n w → Swept T v n ms w.stream (more w)

gone-quiet : (T : ℕ) (v : Version) (n : ℕ) (more : Worker → Turn) (w : Worker) → Going T v n w → Swept T v n (Quiet ∷ []) w.stream (behind more (ends (quiets true w)) (quiets true w))
gone-quiet T v n more w g = subst (λ (b : Bool). Swept T v n (Quiet ∷ []) w.stream (behind more b (quiets true w))) (sym (quiet-ends w)) (quiet-swept T v n w g)

heard-going : (T : ℕ) (v : Version) (n : ℕ) (w : Worker) → Going T v n w → Going T v 0 (hearing w)
heard-going T v n w g = record { over = g.over; tries = g.tries; version = g.version; counts = none-heard T w.duty.tried g.counts.few }

served-going : (T : ℕ) (v : Version) (w : Worker) → Going T v 0 w → Going T v 0 (record w { duty = served w.duty })
served-going T v w g = record { over = g.over; tries = g.tries; version = g.version; counts = g.counts }

obeys-swept : (T : ℕ) (v : Version) (n : ℕ) (ms : List Mark) (more : Worker → Turn) (a : OrderAct) (w : Worker) → Going T v n w → GoesBehind T v ms more
    → Swept T v n (before (mark_by a) ms) w.stream (behind more (ends (obeys a w)) (obeys a w))
obeys-swept T v n ms more (order.Request address body) w g goes =
    let u : Worker = record (hearing w) { duty = served (hearing w).duty } in
    let k = goes 0 u (served-going T v (hearing w) (heard-going T v n w g)) in
    let d = (hearing w).duty in
    let s = served-swept T v ms more u (answers d address body) (answers-silent d address body) (answers-none is_end d address body (λ text. refl) refl) k (rules.is_finished u.duty) in
    record { answer = s.answer; stream_is = s.stream_is; behind_is = s.behind_is }
obeys-swept T v n ms more order.Heartbeat w g goes =
    let s = goes 0 (hearing w) (heard-going T v n w g) in
    record { answer = s.answer; stream_is = s.stream_is; behind_is = s.behind_is }
obeys-swept T v n ms more order.Disconnect w g goes = gone-quiet T v n more w g

hears-swept : (T : ℕ) (v : Version) (n : ℕ) (ms : List Mark) (more : Worker → Turn) (found : Option Order) (w : Worker) → Going T v n w → GoesBehind T v ms more
    → Swept T v n (before (mark_of w.duty.version found) ms) w.stream (behind more (ends (hears found w)) (hears found w))
hears-swept T v n ms more None w g goes = goes n w g
hears-swept T v n ms more (Some o) w g goes = by (same_version o.version w.duty.version)
  where
    by : (b : Bool)
        → Swept T v n (before (cond {A = Mark} b (mark_by o.act) Neither) ms) w.stream (behind more (ends (cond {A = Turn} b (obeys o.act w) (w, []))) (cond {A = Turn} b (obeys o.act w) (w, [])))
    by true = obeys-swept T v n ms more o.act w g goes
    by false = goes n w g

sweeps-swept : (T : ℕ) (v : Version) (xs : List WireItem) → GoesBehind T v (marks v xs) (sweep meets xs)
sweeps-swept T v [] n w g = none-swept T v n w g
sweeps-swept T v (item.Accepted ∷ xs) n w g = sweeps-swept T v xs n w g
sweeps-swept T v (item.Ready kind ∷ xs) n w g =
    then-swept T v n (marks v xs) w.stream (act.Write _ ∷ []) (sweep meets xs w) (record { no_answer = refl; no_end = refl; no_opening = refl }) (sweeps-swept T v xs n w g)
sweeps-swept T v (item.Message message ∷ xs) n w g =
    subst (λ (x : Version). Swept T v n (before (mark_of x (order_in message)) (marks v xs)) w.stream (behind (sweep meets xs) (ends (hears (order_in message) w)) (hears (order_in message) w))) g.version
    (hears-swept T v n (marks v xs) (sweep meets xs) (order_in message) w g (sweeps-swept T v xs))
sweeps-swept T v (item.Ended reason at ∷ xs) n w g = gone-quiet T v n (sweep meets xs) w g

-- ---- runs

record Live (T : ℕ) (v : Version) (w : Worker) (s : Scene) : Type 0 where
  going : Going T v s.waited w
  stream : s.stream ≡ w.stream
  seen_going : s.over ≡ false

record Gone (w : Worker) (s : Scene) : Type 0 where
  over : w.duty.over ≡ true
  seen_over : s.over ≡ true

abbrev Fits : ℕ → Version → Worker → Scene → Type 0
Fits T v w s = Gone w s ⊎ Live T v w s

record Goes (T : ℕ) (v : Version) (call : Call) (t : Turn) (s : Scene) : Type 0 where
  right : IsRight v (T * 75) (record { call = call; acts = t.1 }) s
  fits : Fits T v t.0 (sees v (record { call = call; acts = t.1 }) s)

-- a call of an end that has neither left nor given up
call-goes : (T : ℕ) (v : Version) (call : Call) (waited : ℕ) (stream : List ℕ) (over : Bool) (t : Turn) → over ≡ false
    → Swept T v waited (met v call stream) (streamed call stream) t → Goes T v call t (record { waited = waited; stream = stream; over = over })
call-goes T v call waited stream true t going s = absurd (false≢true (sym going))
call-goes T v call waited stream false t going s = record { right = s.answer; fits = of s.behind_is }
  where
    of : Left t ⊎ GoesOn T v (counted waited (met v call stream)) t → Fits T v t.0 (counts v (record { call = call; acts = t.1 }) (record { waited = waited; stream = stream; over = false }))
    of (inl g) = inl (record { over = g.over; seen_over = g.says })
    of (inr g) = inr (record { going = g.going; stream = sym s.stream_is; seen_going = g.says })

happens-swept : (T : ℕ) (v : Version) (e : LinkEvent) (n : ℕ) (w : Worker) → Going T v n w → Swept T v n (comes v e w.stream) (given e w.stream) (happens e w)
happens-swept T v (event.Given piece) n w g =
    sweeps-swept T v (beyond w.stream piece) n (takes piece w) (record { over = g.over; tries = g.tries; version = g.version; counts = g.counts })
happens-swept T v event.Idle n w g = rest-swept T v n w g
happens-swept T v event.End n w g = quiet-swept T v n w g

turn-goes : (T : ℕ) (v : Version) (call : Call) (w : Worker) (s : Scene) → Fits T v w s → Goes T v call (turn_of call w) s
turn-goes T v call w s (inl o) = of call
  where
    still : (call : Call) (over : Bool) → s.over ≡ over → over ≡ true → Goes T v call (w, []) s
    still call over is holds =
        subst (λ (b : Bool). Goes T v call (w, []) (record s { over = b })) (sym (is ∙ holds)) (record { right = refl; fits = inl (record { over = o.over; seen_over = refl }) })

    of : (call : Call) → Goes T v call (turn_of call w) s
    of Started = subst (λ (b : Bool). Goes T v Started (cond {A = Turn} b (w, []) (w, greets)) s) (sym o.over) (still Started s.over refl o.seen_over)
    of (Met e) = subst (λ (b : Bool). Goes T v (Met e) (cond {A = Turn} b (w, []) (happens e w)) s) (sym o.over) (still (Met e) s.over refl o.seen_over)
turn-goes T v call w s (inr l) = of call
  where
    starts-swept : Swept T v s.waited [] w.stream (w, greets)
    starts-swept = then-swept T v s.waited [] w.stream greets (w, []) (record { no_answer = refl; no_end = refl; no_opening = refl }) (none-swept T v s.waited w l.going)

    of : (call : Call) → Goes T v call (turn_of call w) s
    of Started =
        subst (λ (b : Bool). Goes T v Started (cond {A = Turn} b (w, []) (w, greets)) s) (sym l.going.over)
        (call-goes T v Started s.waited s.stream s.over (w, greets) l.seen_going (subst (λ (x : List ℕ). Swept T v s.waited [] x (w, greets)) (sym l.stream) starts-swept))
    of (Met e) =
        subst (λ (b : Bool). Goes T v (Met e) (cond {A = Turn} b (w, []) (happens e w)) s) (sym l.going.over)
        (call-goes T v (Met e) s.waited s.stream s.over (happens e w) l.seen_going
        (subst (λ (x : List ℕ). Swept T v s.waited (comes v e x) (given e x) (happens e w)) (sym l.stream) (happens-swept T v e s.waited w l.going)))

runs-go : (T : ℕ) (v : Version) (calls : List Call) (w : Worker) (s : Scene) → Fits T v w s → AreRight (IsRight v (T * 75)) (sees v) (sights calls w) s
runs-go T v [] w s f = tt
runs-go T v (call ∷ calls) w s f =
    let g = turn-goes T v call w s f in
    (g.right, runs-go T v calls (turn_of call w).0 (sees v (record { call = call; acts = (turn_of call w).1 }) s) g.fits)

pub runs-are-right : (v : Version) (n : List ℕ) (tries parts count : ℕ) (calls : List Call) → 1 ≤ tries
    → AreRight (IsRight v (tries * 75)) (sees v) (sights calls (fresh v n tries parts count)) nothing
runs-are-right v n tries parts count calls some =
    runs-go tries v calls (fresh v n tries parts count) nothing
    (inr (record {
      going = record { over = refl; tries = refl; version = refl; counts = record { sum = refl; few = (let h = some in omega (arith, h)); less = omega arith } };
      stream = refl;
      seen_going = refl;
    }))
