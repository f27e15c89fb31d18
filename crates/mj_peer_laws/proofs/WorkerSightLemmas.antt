-- Every run of a worker's end is right.
use Rattle.std.proofs.Common.{◌≡◌, ℕ, zero, suc, Bool, true, false, ◌||◌, List, [], ◌∷◌, ◌++◌, map, refl, sym, ap, subst, ◌∙◌, cond, Option, None, Some, append_assoc, append-nil, inl, inr, drop}
use Rattle.std.specs.Prelude.{◌⊎◌, nat_lt, ◌-◌, ◌+◌, ◌%◌, ◌==◌, replicate, option_to_list}
use Rattle.std.proofs.lemmas.List.{map-append}
use Rattle.std.proofs.lemmas.List.Folds.{list_any-append}
use Rattle.std.specs.List.{list_any}
use Rattle.mj_base.specs.declared.link.LinkEvent.{LinkEvent}
use Rattle.mj_base.specs.declared.link.LinkEvent.TheVariants as event
use Rattle.mj_base.specs.declared.version.Version.{Version}
use Rattle.mj_base.specs.declared.version.Version.TheVariants.{One, Two}
use Rattle.mj_handshake.specs.declared.socket_type.SocketType.TheVariants.{Dealer}
use Rattle.mj_peer.specs.WorkerEndRules.{Call, Met, Started, Turn, Worker, answers, finishes, finishing, follows, follows_idle, fresh, greets, handed_by, happens, hearing, hears, idles_on, is_finished, meets, obeys, partials, quiets, reopens, request_by, request_in, rests, served, serves, takes, turn_of}
use Rattle.mj_peer.specs.PeerTexts.{hello, order_in, said_text, same_version}
use Rattle.mj_peer.specs.Sweeping.{behind, beyond, ends, is_end, is_ready, sweep}
use Rattle.mj_peer.specs.declared.act.Act.{Act}
use Rattle.mj_peer.specs.declared.act.Act.TheVariants as act
use Rattle.mj_peer.specs.declared.duty.Duty.{Duty}
use Rattle.mj_peer.specs.declared.post.Handed.{Handed}
use Rattle.mj_peer.specs.declared.verdict.Verdict.TheVariants.{Again, Lost, Stay}
use Rattle.mj_peer_laws.specs.WorkerSights.{AreOwn, Does, IsAnswer, IsOwn, IsQuiet, IsRight, Scene, Sight, comes, nothing, partial_texts, reply_texts, requests, sees, sight_of, sights}
use Rattle.mj_peer_laws.specs.Watching.{AreRight, seen}
use Rattle.mj_peer_laws.proofs.WatchLemmas.{right-append, seen-append}
use Rattle.mj_wire.specs.declared.item.WireItem.{WireItem}
use Rattle.mj_wire.specs.declared.item.WireItem.TheVariants as item
use Rattle.mj_worker_cmd.specs.declared.command.Order.{Order}
use Rattle.mj_worker_cmd.specs.declared.command.OrderAct.{OrderAct}
use Rattle.mj_worker_cmd.specs.declared.command.OrderAct.TheVariants as order
use Rattle.mj_worker_cmd.specs.declared.command.WorkerAct.TheVariants as said

-- what one sees of acts
abbrev did : List Act → List Sight
did acts = map Does acts

-- what was told
record Told (v : Version) (n : List ℕ) (p : ℕ) (d : Duty) : Type 0 where
  version : d.version ≡ v
  service : d.service ≡ n
  parts : d.parts ≡ p
  going : d.over ≡ false

-- the worker is what was seen of it, with these REQUESTs due
record Live (v : Version) (n : List ℕ) (p : ℕ) (rest : List Handed) (w : Worker) (s : Scene) : Type 0 where
  told : Told v n p w.duty
  stream : s.stream ≡ w.stream
  due : s.due ≡ rest
  own : AreOwn v n s.written

-- it has left or given up
record Over (v : Version) (n : List ℕ) (w : Worker) (s : Scene) : Type 0 where
  over : w.duty.over ≡ true
  seen_over : s.over ≡ true
  own : AreOwn v n s.written

abbrev Fits : Version → List ℕ → ℕ → Worker → Scene → Type 0
Fits v n p w s = Over v n w s ⊎ Live v n p [] w s

-- the acts of a turn are right, what it made is what was seen of it, and no REQUEST is due
record Goes (v : Version) (n : List ℕ) (p : ℕ) (t : Turn) (s : Scene) : Type 0 where
  right : AreRight (IsRight v n p) (sees v) (did t.1) s
  fits : Fits v n p t.0 (seen (sees v) (did t.1) s)

-- and the link is the same, with these REQUESTs due
record Stays (v : Version) (n : List ℕ) (p : ℕ) (rest : List Handed) (t : Turn) (s : Scene) : Type 0 where
  right : AreRight (IsRight v n p) (sees v) (did t.1) s
  live : Live v n p rest t.0 (seen (sees v) (did t.1) s)

abbrev Outcome : Version → List ℕ → ℕ → List Handed → Bool → Turn → Scene → Type 0
Outcome v n p rest true t s = Goes v n p t s
Outcome v n p rest false t s = Stays v n p rest t s

goes-of : (v : Version) (n : List ℕ) (p : ℕ) (b : Bool) (t : Turn) (s : Scene) → Outcome v n p [] b t s → Goes v n p t s
goes-of v n p true t s o = o
goes-of v n p false t s o = record { right = o.right; fits = inr o.live }

then-right : (v : Version) (n : List ℕ) (p : ℕ) (xs ys : List Act) (s : Scene) → AreRight (IsRight v n p) (sees v) (did xs) s
    → AreRight (IsRight v n p) (sees v) (did ys) (seen (sees v) (did xs) s) → AreRight (IsRight v n p) (sees v) (did (xs ++ ys)) s
then-right v n p xs ys s a b =
    subst (λ (l : List Sight). AreRight (IsRight v n p) (sees v) l s) (sym (map-append Does xs ys)) (right-append (IsRight v n p) (sees v) (did xs) (did ys) s a b)

then-seen : (v : Version) (xs ys : List Act) (s : Scene) → seen (sees v) (did (xs ++ ys)) s ≡ seen (sees v) (did ys) (seen (sees v) (did xs) s)
then-seen v xs ys s = ap (λ (l : List Sight). seen (sees v) l s) (map-append Does xs ys) ∙ seen-append (sees v) (did xs) (did ys) s

then-goes : (v : Version) (n : List ℕ) (p : ℕ) (xs : List Act) (u : Turn) (s : Scene) → AreRight (IsRight v n p) (sees v) (did xs) s → Goes v n p u (seen (sees v) (did xs) s)
    → Goes v n p (u.0, xs ++ u.1) s
then-goes v n p xs u s right g = record {
  right = then-right v n p xs u.1 s right g.right;
  fits = subst (λ (k : Scene). Fits v n p u.0 k) (sym (then-seen v xs u.1 s)) g.fits;
}

then-stays : (v : Version) (n : List ℕ) (p : ℕ) (rest : List Handed) (xs : List Act) (u : Turn) (s : Scene) → AreRight (IsRight v n p) (sees v) (did xs) s
    → Stays v n p rest u (seen (sees v) (did xs) s) → Stays v n p rest (u.0, xs ++ u.1) s
then-stays v n p rest xs u s right g = record {
  right = then-right v n p xs u.1 s right g.right;
  live = subst (λ (k : Scene). Live v n p rest u.0 k) (sym (then-seen v xs u.1 s)) g.live;
}

then-outcome : (v : Version) (n : List ℕ) (p : ℕ) (rest : List Handed) (b : Bool) (xs : List Act) (u : Turn) (s : Scene) → AreRight (IsRight v n p) (sees v) (did xs) s
    → Outcome v n p rest b u (seen (sees v) (did xs) s) → Outcome v n p rest b (u.0, xs ++ u.1) s
then-outcome v n p rest true xs u s right g = then-goes v n p xs u s right g
then-outcome v n p rest false xs u s right g = then-stays v n p rest xs u s right g

behind-goes : (v : Version) (n : List ℕ) (p : ℕ) (rest : List Handed) (more : Worker → Turn) (b : Bool) (t : Turn) (s : Scene) → Outcome v n p rest b t s
    → ((k : Scene) → Live v n p rest t.0 k → Goes v n p (more t.0) k) → Goes v n p (behind more b t) s
behind-goes v n p rest more true t s o h = o
behind-goes v n p rest more false t s o h = then-goes v n p t.1 (more t.0) s o.right (h (seen (sees v) (did t.1) s) o.live)

-- ---- quiet events

stay : (v : Version) (n : List ℕ) (p : ℕ) (rest : List Handed) (w : Worker) (s : Scene) → Live v n p rest w s → Stays v n p rest (w, []) s
stay v n p rest w s l = record { right = tt; live = l }

again : (v : Version) (n : List ℕ) (p : ℕ) (rest : List Handed) (w : Worker) (s : Scene) → Live v n p rest w s → Goes v n p (reopens w) s
again v n p rest w s l = record {
  right = (l.own, (tt, tt));
  fits = inr (record { told = l.told; stream = refl; due = refl; own = (inl refl, tt) });
}

lost : (v : Version) (n : List ℕ) (p : ℕ) (rest : List Handed) (w : Worker) (d : Duty) (s : Scene) → Live v n p rest w s → d.over ≡ true → Goes v n p (record w { duty = d }, act.NoAnswer ∷ []) s
lost v n p rest w d s l o = record { right = (l.own, tt); fits = inl (record { over = o; seen_over = refl; own = l.own }) }

-- other counts
counts : (v : Version) (n : List ℕ) (p : ℕ) (rest : List Handed) (w : Worker) (tried quiet served : ℕ) (s : Scene) → Live v n p rest w s
    → Live v n p rest (record w { duty = record w.duty { tried = tried; quiet = quiet; served = served } }) s
counts v n p rest w tried quiet served s l = record {
  told = record { version = l.told.version; service = l.told.service; parts = l.told.parts; going = l.told.going };
  stream = l.stream;
  due = l.due;
  own = l.own;
}

quiets-goes : (v : Version) (n : List ℕ) (p : ℕ) (rest : List Handed) (ended : Bool) (w : Worker) (s : Scene) → Live v n p rest w s → Outcome v n p rest (ends (quiets ended w)) (quiets ended w) s
quiets-goes v n p rest ended w s l = of (nat_lt w.duty.quiet 74) (nat_lt w.duty.tried (w.duty.tries - 1))
  where
    wait : (e : Bool) (u : Worker) → Live v n p rest u s → Outcome v n p rest (ends (follows (cond e Again Stay) u)) (follows (cond e Again Stay) u) s
    wait true u k = again v n p rest u s k
    wait false u k = stay v n p rest u s k

    of : (few more : Bool)
        → Outcome v n p rest
        (ends (follows (cond few (cond ended Again Stay) (cond more Again Lost)) (record w { duty = cond few (record w.duty { quiet = w.duty.quiet + 1 }) (cond more (record w.duty { tried = w.duty.tried + 1; quiet = 0 }) (record w.duty { over = true })) })))
        (follows (cond few (cond ended Again Stay) (cond more Again Lost)) (record w { duty = cond few (record w.duty { quiet = w.duty.quiet + 1 }) (cond more (record w.duty { tried = w.duty.tried + 1; quiet = 0 }) (record w.duty { over = true })) })) s
    of true more = wait ended (record w { duty = record w.duty { quiet = w.duty.quiet + 1 } }) (counts v n p rest w w.duty.tried (w.duty.quiet + 1) w.duty.served s l)
    of false true =
        again v n p rest (record w { duty = record w.duty { tried = w.duty.tried + 1; quiet = 0 } }) s (counts v n p rest w (w.duty.tried + 1) 0 w.duty.served s l)
    of false false = lost v n p rest w (record w.duty { over = true }) s l refl

-- ---- texts

own-more : (v : Version) (n : List ℕ) (texts : List (List ℕ)) (text : List ℕ) → AreOwn v n texts → IsOwn v n text → AreOwn v n (texts ++ text ∷ [])
own-more v n [] text a b = (b, tt)
own-more v n (t ∷ ts) text a b = (a.0, own-more v n ts text a.1 b)

-- one of the worker's own words
own-goes : (v : Version) (n : List ℕ) (p : ℕ) (rest : List Handed) (w : Worker) (text : List ℕ) (s : Scene) → Live v n p rest w s → IsOwn v n text → Stays v n p rest (w, act.Write text ∷ []) s
own-goes v n p rest w text s l is = record {
  right = (tt, tt);
  live = record { told = l.told; stream = l.stream; due = l.due; own = own-more v n s.written text l.own is };
}

writes-right : (v : Version) (n : List ℕ) (p : ℕ) (texts : List (List ℕ)) (s : Scene) → AreRight (IsRight v n p) (sees v) (did (map act.Write texts)) s
writes-right v n p [] s = tt
writes-right v n p (t ∷ ts) s = (tt, writes-right v n p ts (record s { written = s.written ++ t ∷ [] }))

writes-seen : (v : Version) (texts : List (List ℕ)) (s : Scene) → seen (sees v) (did (map act.Write texts)) s ≡ record s { written = s.written ++ texts }
writes-seen v [] s = ap (λ (l : List (List ℕ)). record s { written = l }) (sym (append-nil s.written))
writes-seen v (t ∷ ts) s = writes-seen v ts (record s { written = s.written ++ t ∷ [] }) ∙ ap (λ (l : List (List ℕ)). record s { written = l }) (append_assoc s.written (t ∷ []) ts)

writes-end-nothing : (texts : List (List ℕ)) → list_any is_end (map act.Write texts) ≡ false
writes-end-nothing [] = refl
writes-end-nothing (t ∷ ts) = writes-end-nothing ts

-- ---- REQUESTs

writes-alike : (k : ℕ) (text : List ℕ) → replicate k (act.Write text) ≡ map act.Write (replicate k text)
writes-alike zero text = refl
writes-alike (suc k) text = ap (λ (l : List Act). act.Write text ∷ l) (writes-alike k text)

partials-are : (v : Version) (p : ℕ) (r : Handed) → partials v p r.address r.body ≡ map act.Write (partial_texts v p r)
partials-are One p r = refl
partials-are Two p r = writes-alike p (said_text Two (said.Reply false r.address r.body))

answers-are : (d : Duty) (r : Handed) → answers d r.address r.body ≡ map act.Write (reply_texts d.version d.parts r) ++ act.Served ∷ []
answers-are d r =
    let final = said_text d.version (said.Reply true r.address r.body) in
    ap (λ (l : List Act). l ++ act.Write final ∷ act.Served ∷ []) (partials-are d.version d.parts r)
    ∙ sym (append_assoc (map act.Write (partial_texts d.version d.parts r)) (act.Write final ∷ []) (act.Served ∷ []))
    ∙ ap (λ (l : List Act). l ++ act.Served ∷ []) (sym (map-append act.Write (partial_texts d.version d.parts r) (final ∷ [])))

-- a REQUEST is answered
answer-goes : (v : Version) (n : List ℕ) (p : ℕ) (rest : List Handed) (r : Handed) (w : Worker) (s : Scene) → Live v n p (r ∷ rest) w s
    → Stays v n p rest (w, map act.Write (reply_texts v p r) ++ act.Served ∷ []) s
answer-goes v n p rest r w s l =
    let texts = reply_texts v p r in
    let k : Scene = record s { written = s.written ++ texts } in
    let answered : IsAnswer v n p k = record { request = r; later = rest; due_is = l.due; own = s.written; are_own = l.own; written_is = refl } in
    let last : Stays v n p rest (w, act.Served ∷ []) k = record {
      right = (answered, tt);
      live = record { told = l.told; stream = l.stream; due = ap (λ (d : List Handed). drop 1 d) l.due; own = tt };
    } in
    then-stays v n p rest (map act.Write texts) (w, act.Served ∷ []) s (writes-right v n p texts s) (subst (λ (h : Scene). Stays v n p rest (w, act.Served ∷ []) h) (sym (writes-seen v texts s)) last)

finishes-goes : (v : Version) (n : List ℕ) (p : ℕ) (rest : List Handed) (b : Bool) (w : Worker) (s : Scene) → Live v n p rest w s → Outcome v n p rest (ends (finishes b w)) (finishes b w) s
finishes-goes v n p rest true w s l = record {
  right = (tt, (own-more v n s.written _ l.own (inr (inr (inr (ap (λ (x : Version). said_text x said.Disconnect) l.told.version)))), tt));
  fits = inl (record { over = refl; seen_over = refl; own = own-more v n s.written _ l.own (inr (inr (inr (ap (λ (x : Version). said_text x said.Disconnect) l.told.version)))) });
}
finishes-goes v n p rest false w s l = stay v n p rest w s l

serves-goes : (v : Version) (n : List ℕ) (p : ℕ) (rest : List Handed) (r : Handed) (w : Worker) (s : Scene) → Live v n p (r ∷ rest) w s
    → Outcome v n p rest (ends (serves r.address r.body w)) (serves r.address r.body w) s
serves-goes v n p rest r w s l =
    let u : Worker = record w { duty = served w.duty } in
    let live : Live v n p (r ∷ rest) u s = counts v n p (r ∷ rest) w w.duty.tried w.duty.quiet (served w.duty).served s l in
    let xs = map act.Write (reply_texts v p r) ++ act.Served ∷ [] in
    let first = answer-goes v n p rest r u s live in
    let whole = then-outcome v n p rest (ends (finishing u)) xs (finishing u) s first.right (finishes-goes v n p rest (is_finished u.duty) u (seen (sees v) (did xs) s) first.live) in
    let are : xs ≡ answers w.duty r.address r.body =
    ap (λ (x : Version). map act.Write (reply_texts x p r) ++ act.Served ∷ []) (sym l.told.version) ∙ ap (λ (k : ℕ). map act.Write (reply_texts w.duty.version k r) ++ act.Served ∷ []) (sym l.told.parts)
    ∙ sym (answers-are w.duty r) in
    let nothing_ends : list_any is_end xs ≡ false =
    list_any-append is_end (map act.Write (reply_texts v p r)) (act.Served ∷ []) ∙ ap (λ (b : Bool). b || false) (writes-end-nothing (reply_texts v p r)) in
    let same : ends (finishing u) ≡ list_any is_end (xs ++ (finishing u).1) =
    sym (list_any-append is_end xs (finishing u).1 ∙ ap (λ (b : Bool). b || ends (finishing u)) nothing_ends) in
    subst (λ (l : List Act). Outcome v n p rest (list_any is_end (l ++ (finishing u).1)) ((finishing u).0, l ++ (finishing u).1) s) are
    (subst (λ (b : Bool). Outcome v n p rest b ((finishing u).0, xs ++ (finishing u).1) s) same whole)

obeys-goes : (v : Version) (n : List ℕ) (p : ℕ) (rest : List Handed) (a : OrderAct) (w : Worker) (s : Scene) → Live v n p (option_to_list (handed_by a) ++ rest) w s
    → Outcome v n p rest (ends (obeys a w)) (obeys a w) s
obeys-goes v n p rest (order.Request address body) w s l =
    let r : Handed = record { address = address; body = body } in
    serves-goes v n p rest r (hearing w) s (counts v n p (r ∷ rest) w 0 0 w.duty.served s l)
obeys-goes v n p rest order.Heartbeat w s l = stay v n p rest (hearing w) s (counts v n p rest w 0 0 w.duty.served s l)
obeys-goes v n p rest order.Disconnect w s l = quiets-goes v n p rest true w s l

hears-goes : (v : Version) (n : List ℕ) (p : ℕ) (rest : List Handed) (found : Option Order) (w : Worker) (s : Scene) → Live v n p (option_to_list (request_by w.duty.version found) ++ rest) w s
    → Outcome v n p rest (ends (hears found w)) (hears found w) s
hears-goes v n p rest None w s l = stay v n p rest w s l
hears-goes v n p rest (Some o) w s l = by (same_version o.version w.duty.version) l
  where
    by : (b : Bool) → Live v n p (option_to_list (cond {A = Option Handed} b (handed_by o.act) None) ++ rest) w s
        → Outcome v n p rest (ends (cond {A = Turn} b (obeys o.act w) (w, []))) (cond {A = Turn} b (obeys o.act w) (w, [])) s
    by true k = obeys-goes v n p rest o.act w s k
    by false k = stay v n p rest w s k

-- REQUESTs of the worker's version
in-version : (v : Version) (n : List ℕ) (p : ℕ) (found : Option Order) (rest : List Handed) (w : Worker) (s : Scene) → Live v n p (option_to_list (request_by v found) ++ rest) w s
    → Live v n p (option_to_list (request_by w.duty.version found) ++ rest) w s
in-version v n p found rest w s l = subst (λ (x : Version). Live v n p (option_to_list (request_by x found) ++ rest) w s) (sym l.told.version) l

meets-goes : (v : Version) (n : List ℕ) (p : ℕ) (rest : List Handed) (x : WireItem) (w : Worker) (s : Scene) → Live v n p (option_to_list (request_in v x) ++ rest) w s
    → Outcome v n p rest (ends (meets x w)) (meets x w) s
meets-goes v n p rest item.Accepted w s l = stay v n p rest w s l
meets-goes v n p rest (item.Ready kind) w s l =
    own-goes v n p rest w (said_text w.duty.version (said.Ready w.duty.service)) s l
    (inr (inl (ap (λ (x : Version). said_text x (said.Ready w.duty.service)) l.told.version ∙ ap (λ (x : List ℕ). said_text v (said.Ready x)) l.told.service)))
meets-goes v n p rest (item.Message message) w s l = hears-goes v n p rest (order_in message) w s (in-version v n p (order_in message) rest w s l)
meets-goes v n p rest (item.Ended reason at) w s l = quiets-goes v n p rest true w s l

sweeps-goes : (v : Version) (n : List ℕ) (p : ℕ) (xs : List WireItem) (w : Worker) (s : Scene) → Live v n p (requests v xs) w s → Goes v n p (sweep meets xs w) s
sweeps-goes v n p [] w s l = record { right = tt; fits = inr l }
sweeps-goes v n p (x ∷ xs) w s l =
    behind-goes v n p (requests v xs) (sweep meets xs) (ends (meets x w)) (meets x w) s (meets-goes v n p (requests v xs) x w s l) (λ k live. sweeps-goes v n p xs (meets x w).0 k live)

-- ---- calls

-- something comes, and nothing is due but its own
fresh-scene : (v : Version) (n : List ℕ) (p : ℕ) (w : Worker) (s : Scene) → Live v n p [] w s → Live v n p [] w (record s { written = [] })
fresh-scene v n p w s l = record { told = l.told; stream = l.stream; due = l.due; own = tt }

beats-goes : (v : Version) (n : List ℕ) (p : ℕ) (b : Bool) (w : Worker) (s : Scene) → Live v n p [] w s
    → Goes v n p (w, cond b (act.Write (said_text w.duty.version said.Heartbeat) ∷ []) []) s
beats-goes v n p true w s l =
    let k = own-goes v n p [] w (said_text w.duty.version said.Heartbeat) s l (inr (inr (inl (ap (λ (x : Version). said_text x said.Heartbeat) l.told.version)))) in
    record { right = k.right; fits = inr k.live }
beats-goes v n p false w s l = record { right = tt; fits = inr l }

idles-goes : (v : Version) (n : List ℕ) (p : ℕ) (b : Bool) (w : Worker) (s : Scene) → Live v n p [] w s → Goes v n p (idles_on b w) s
idles-goes v n p true w s l =
    beats-goes v n p ((w.idles + 1) % 25 == 0) (record w { idles = w.idles + 1 }) s (record { told = l.told; stream = l.stream; due = l.due; own = l.own })
idles-goes v n p false w s l = record { right = tt; fits = inr l }

rests-goes : (v : Version) (n : List ℕ) (p : ℕ) (w : Worker) (s : Scene) → Live v n p [] w s → Goes v n p (rests w) s
rests-goes v n p w s l = of (nat_lt w.duty.quiet 74) (nat_lt w.duty.tried (w.duty.tries - 1))
  where
    of : (few more : Bool)
        → Goes v n p (follows_idle (cond few Stay (cond more Again Lost)) (record w { duty = cond few (record w.duty { quiet = w.duty.quiet + 1 }) (cond more (record w.duty { tried = w.duty.tried + 1; quiet = 0 }) (record w.duty { over = true })) })) s
    of true more =
        let u : Worker = record w { duty = record w.duty { quiet = w.duty.quiet + 1 } } in
        idles-goes v n p (is_ready w.stream) u s (counts v n p [] w w.duty.tried (w.duty.quiet + 1) w.duty.served s l)
    of false true = again v n p [] (record w { duty = record w.duty { tried = w.duty.tried + 1; quiet = 0 } }) s (counts v n p [] w (w.duty.tried + 1) 0 w.duty.served s l)
    of false false = lost v n p [] w (record w.duty { over = true }) s l refl

happens-goes : (v : Version) (n : List ℕ) (p : ℕ) (e : LinkEvent) (w : Worker) (s : Scene) → Live v n p [] w s → Goes v n p (happens e w) (comes v e s)
happens-goes v n p (event.Given piece) w s l =
    let live : Live v n p (requests v (beyond w.stream piece)) (takes piece w) (comes v (event.Given piece) s) = record {
      told = l.told;
      stream = ap (λ (x : List ℕ). x ++ piece) l.stream;
      due = ap (λ (d : List Handed). d ++ requests v (beyond s.stream piece)) l.due ∙ ap (λ (x : List ℕ). requests v (beyond x piece)) l.stream;
      own = tt;
    } in
    sweeps-goes v n p (beyond w.stream piece) (takes piece w) (comes v (event.Given piece) s) live
happens-goes v n p event.Idle w s l = rests-goes v n p w (comes v event.Idle s) (fresh-scene v n p w s l)
happens-goes v n p event.End w s l =
    goes-of v n p (ends (quiets true w)) (quiets true w) (comes v event.End s) (quiets-goes v n p [] true w (comes v event.End s) (fresh-scene v n p w s l))

over-goes : (v : Version) (n : List ℕ) (p : ℕ) (call : Call) (w : Worker) (s : Scene) → Over v n w s → Goes v n p (turn_of call w) (sees v (sight_of call) s)
over-goes v n p Started w s o =
    subst (λ (b : Bool). Goes v n p (cond {A = Turn} b (w, []) (w, greets)) (sees v (sight_of Started) s)) (sym o.over) (record { right = tt; fits = inl (record { over = o.over; seen_over = o.seen_over; own = tt }) })
over-goes v n p (Met e) w s o = subst (λ (b : Bool). Goes v n p (cond {A = Turn} b (w, []) (happens e w)) (comes v e s)) (sym o.over) (record { right = tt; fits = inl (still e) })
  where
    still : (e : LinkEvent) → Over v n w (comes v e s)
    still (event.Given piece) = record { over = o.over; seen_over = o.seen_over; own = tt }
    still event.Idle = record { over = o.over; seen_over = o.seen_over; own = tt }
    still event.End = record { over = o.over; seen_over = o.seen_over; own = tt }

call-goes : (v : Version) (n : List ℕ) (p : ℕ) (call : Call) (w : Worker) (s : Scene) → Fits v n p w s → Goes v n p (turn_of call w) (sees v (sight_of call) s)
call-goes v n p call w s (inl o) = over-goes v n p call w s o
call-goes v n p Started w s (inr l) =
    let k = own-goes v n p [] w (hello Dealer) (record s { written = [] }) (fresh-scene v n p w s l) (inl refl) in
    subst (λ (b : Bool). Goes v n p (cond {A = Turn} b (w, []) (w, greets)) (sees v (sight_of Started) s)) (sym l.told.going) (record { right = k.right; fits = inr k.live })
call-goes v n p (Met e) w s (inr l) = subst (λ (b : Bool). Goes v n p (cond {A = Turn} b (w, []) (happens e w)) (comes v e s)) (sym l.told.going) (happens-goes v n p e w s l)

quiet : (v : Version) (n : List ℕ) (p : ℕ) (w : Worker) (s : Scene) → Fits v n p w s → IsQuiet v n s
quiet v n p w s (inl o) = record { answered = inl o.seen_over; are_own = o.own }
quiet v n p w s (inr l) = record { answered = inr l.due; are_own = l.own }

sight-right : (v : Version) (n : List ℕ) (p : ℕ) (call : Call) (s : Scene) → IsQuiet v n s → IsRight v n p (sight_of call) s
sight-right v n p Started s q = q
sight-right v n p (Met e) s q = q

runs-go : (v : Version) (n : List ℕ) (p : ℕ) (calls : List Call) (w : Worker) (s : Scene) → Fits v n p w s → AreRight (IsRight v n p) (sees v) (sights calls w) s
runs-go v n p [] w s f = tt
runs-go v n p (call ∷ calls) w s f =
    let g = call-goes v n p call w s f in
    let k = sees v (sight_of call) s in (
      sight-right v n p call s (quiet v n p w s f),
      right-append (IsRight v n p) (sees v) (did (turn_of call w).1) (sights calls (turn_of call w).0) k g.right (runs-go v n p calls (turn_of call w).0 (seen (sees v) (did (turn_of call w).1) k) g.fits),
    )

pub runs-are-right : (v : Version) (n : List ℕ) (tries p count : ℕ) (calls : List Call) → AreRight (IsRight v n p) (sees v) (sights calls (fresh v n tries p count)) nothing
runs-are-right v n tries p count calls =
    runs-go v n p calls (fresh v n tries p count) nothing (inr (record { told = record { version = refl; service = refl; parts = refl; going = refl }; stream = refl; due = refl; own = tt }))
