-- Every run of a client's end is right.
use Rattle.std.proofs.Common.{◌≡◌, ℕ, Bool, true, false, ◌&&◌, ◌||◌, List, [], ◌∷◌, ◌++◌, map, refl, sym, ap, subst, ◌∙◌, cond, Option, None, Some, is_some, append_assoc, inl, inr}
use Rattle.std.specs.Prelude.{◌⊎◌, nat_lt, ◌-◌, ◌+◌}
use Rattle.std.proofs.lemmas.Bool.{false≢true}
use Rattle.std.proofs.lemmas.List.{map-append}
use Rattle.std.proofs.lemmas.Slice.Eq.{bytes_eq-Decides}
use Rattle.std.specs.List.{list_any}
use Rattle.std.specs.Str.{bytes_eq}
use Rattle.mj_base.specs.declared.link.LinkEvent.{LinkEvent}
use Rattle.mj_base.specs.declared.link.LinkEvent.TheVariants as event
use Rattle.mj_base.specs.declared.version.Version.{Version}
use Rattle.mj_base.specs.declared.version.Version.TheVariants.{One, Two}
use Rattle.mj_client_cmd.specs.declared.command.ClientReply.{ClientReply}
use Rattle.mj_peer.specs.ClientEndRules.{Asked, Call, Client, Met, Turn, answers, asked, begins, counted, follows, fresh, happens, hears, is_its, meets, opened, opens, quiets, reopens, request_acts, turn_of, verdict}
use Rattle.mj_peer.specs.PeerTexts.{client_type, hello, reply_in, request_text, same_version}
use Rattle.mj_peer.specs.Sweeping.{behind, beyond, ends, is_ready, is_ready_item, items, sweep}
use Rattle.mj_peer.specs.declared.act.Act.{Act}
use Rattle.mj_peer.specs.declared.act.Act.TheVariants as act
use Rattle.mj_peer.specs.declared.talk.Talk.{Talk}
use Rattle.mj_peer.specs.declared.verdict.Verdict.TheVariants.{Again, Lost, Stay}
use Rattle.mj_peer_laws.specs.ClientSights.{Does, IsReply, IsRight, Scene, Sight, comes, nothing, sees, sight_of, sights}
use Rattle.mj_peer_laws.specs.Watching.{AreRight, seen}
use Rattle.mj_peer_laws.proofs.WatchLemmas.{any-behind, both, right-append, seen-append}
use Rattle.mj_wire.specs.declared.item.WireItem.{WireItem}
use Rattle.mj_wire.specs.declared.item.WireItem.TheVariants as item

-- what one sees of acts
abbrev did : List Act → List Sight
did acts = map Does acts

-- the client is what was seen of it
record Live (v : Version) (n : List ℕ) (c : Client) (s : Scene) : Type 0 where
  version : c.talk.version ≡ v
  service : c.talk.service ≡ n
  asking : s.asking ≡ c.talk.request
  stream : s.stream ≡ c.stream

-- or it has given up
abbrev Fits : Version → List ℕ → Client → Scene → Type 0
Fits v n c s = (c.talk.over ≡ true) ⊎ Live v n c s

-- the acts of a turn are right, and what it made is what was seen of it
record Goes (v : Version) (n : List ℕ) (t : Turn) (s : Scene) : Type 0 where
  right : AreRight (IsRight v n) sees (did t.1) s
  fits : Fits v n t.0 (seen sees (did t.1) s)

-- and the link is the same
record Stays (v : Version) (n : List ℕ) (t : Turn) (s : Scene) : Type 0 where
  right : AreRight (IsRight v n) sees (did t.1) s
  live : Live v n t.0 (seen sees (did t.1) s)
  stream : (seen sees (did t.1) s).stream ≡ s.stream
  last : (seen sees (did t.1) s).last ≡ s.last

abbrev Outcome : Version → List ℕ → Bool → Turn → Scene → Type 0
Outcome v n true t s = Goes v n t s
Outcome v n false t s = Stays v n t s

goes-of : (v : Version) (n : List ℕ) (b : Bool) (t : Turn) (s : Scene) → Outcome v n b t s → Goes v n t s
goes-of v n true t s o = o
goes-of v n false t s o = record { right = o.right; fits = inr o.live }

then-goes : (v : Version) (n : List ℕ) (t u : Turn) (s : Scene) → AreRight (IsRight v n) sees (did t.1) s → Goes v n u (seen sees (did t.1) s) → Goes v n (u.0, t.1 ++ u.1) s
then-goes v n t u s right g =
    let apart = map-append Does t.1 u.1 in
    record {
      right = subst (λ (l : List Sight). AreRight (IsRight v n) sees l s) (sym apart) (right-append (IsRight v n) sees (did t.1) (did u.1) s right g.right);
      fits = subst (λ (k : Scene). Fits v n u.0 k) (sym (ap (λ (l : List Sight). seen sees l s) apart ∙ seen-append sees (did t.1) (did u.1) s)) g.fits;
    }

behind-goes : (v : Version) (n : List ℕ) (more : Client → Turn) (b : Bool) (t : Turn) (s : Scene) → Outcome v n b t s
    → ((k : Scene) → Live v n t.0 k → k.stream ≡ s.stream → k.last ≡ s.last → Goes v n (more t.0) k) → Goes v n (behind more b t) s
behind-goes v n more true t s o h = o
behind-goes v n more false t s o h = then-goes v n t (more t.0) s o.right (h (seen sees (did t.1) s) o.live o.stream o.last)

-- ---- quiet events

stay : (v : Version) (n : List ℕ) (c : Client) (s : Scene) → Live v n c s → Stays v n (c, []) s
stay v n c s l = record { right = tt; live = l; stream = refl; last = refl }

again : (v : Version) (n : List ℕ) (c : Client) (s : Scene) → Live v n c s → Goes v n (reopens c) s
again v n c s l = record {
  right = (tt, (inl (ap (λ (x : Version). hello (client_type x)) l.version), tt));
  fits = inr (record { version = l.version; service = l.service; asking = l.asking; stream = refl });
}

lost : (v : Version) (n : List ℕ) (c : Client) (s : Scene) → c.talk.over ≡ true → Goes v n (c, act.NoAnswer ∷ []) s
lost v n c s o = record { right = (tt, tt); fits = inl o }

-- a count that changes neither what was told nor the request
counts-live : (v : Version) (n : List ℕ) (c : Client) (t : Talk) (s : Scene) → Live v n c s → t.version ≡ c.talk.version → t.service ≡ c.talk.service → t.request ≡ c.talk.request
    → Live v n (record c { talk = t }) s
counts-live v n c t s l version service request =
    record { version = version ∙ l.version; service = service ∙ l.service; asking = l.asking ∙ sym request; stream = l.stream }

quiets-goes : (v : Version) (n : List ℕ) (ended : Bool) (c : Client) (s : Scene) → Live v n c s → Outcome v n (ends (quiets ended c)) (quiets ended c) s
quiets-goes v n ended c s l = of c.talk.request
  where
    wait : (e : Bool) (t : Talk) → Live v n (record c { talk = t }) s
        → Outcome v n (ends (follows (cond e Again Stay) (record c { talk = t }))) (follows (cond e Again Stay) (record c { talk = t })) s
    wait true t k = again v n (record c { talk = t }) s k
    wait false t k = stay v n (record c { talk = t }) s k

    counts : (body : List (List ℕ)) (few more : Bool)
        → Outcome v n
        (ends (follows (cond few (cond ended Again Stay) (cond more Again Lost)) (record c { talk = cond few (record c.talk { quiet = c.talk.quiet + 1 }) (cond more (record c.talk { tried = c.talk.tried + 1; quiet = 0 }) (record c.talk { over = true; request = None })) })))
        (follows (cond few (cond ended Again Stay) (cond more Again Lost)) (record c { talk = cond few (record c.talk { quiet = c.talk.quiet + 1 }) (cond more (record c.talk { tried = c.talk.tried + 1; quiet = 0 }) (record c.talk { over = true; request = None })) })) s
    counts body true more = wait ended (record c.talk { quiet = c.talk.quiet + 1 }) (counts-live v n c (record c.talk { quiet = c.talk.quiet + 1 }) s l refl refl refl)
    counts body false true =
        again v n (record c { talk = record c.talk { tried = c.talk.tried + 1; quiet = 0 } }) s (counts-live v n c (record c.talk { tried = c.talk.tried + 1; quiet = 0 }) s l refl refl refl)
    counts body false false = lost v n (record c { talk = record c.talk { over = true; request = None } }) s refl

    of : (request : Option (List (List ℕ)))
        → Outcome v n (ends (follows (verdict ended request c.talk) (record c { talk = counted request c.talk }))) (follows (verdict ended request c.talk) (record c { talk = counted request c.talk })) s
    of None = wait ended c.talk l
    of (Some body) = counts body (nat_lt c.talk.quiet (c.talk.wait - 1)) (nat_lt c.talk.tried (c.talk.tries - 1))

-- ---- what the broker says

request-goes : (v : Version) (n : List ℕ) (c : Client) (s : Scene) → Live v n c s → is_ready s.stream ≡ true → Stays v n (c, request_acts c.talk.request c.talk) s
request-goes v n c s l ready = of c.talk.request refl
  where
    of : (request : Option (List (List ℕ))) → c.talk.request ≡ request → Stays v n (c, request_acts request c.talk) s
    of None e = stay v n c s l
    of (Some body) e = record {
      right = (inr (record { body = body; open_is = l.asking ∙ e; text_is = ap (λ (x : Version). request_text x c.talk.service body) l.version ∙ ap (λ (x : List ℕ). request_text v x body) l.service; ready = ready }), tt);
      live = l;
      stream = refl;
      last = refl;
    }

same-versions : (v w : Version) → same_version v w ≡ true → v ≡ w
same-versions One One same = refl
same-versions One Two same = absurd (false≢true same)
same-versions Two One same = absurd (false≢true same)
same-versions Two Two same = refl

some-of : (request : Option (List (List ℕ))) → is_some request ≡ true → (body : List (List ℕ)) × (request ≡ Some body)
some-of None e = absurd (false≢true e)
some-of (Some body) e = (body, refl)

record IsIts (v : Version) (n : List ℕ) (r : ClientReply) (s : Scene) : Type 0 where
  asked : List (List ℕ)
  open_is : s.asking ≡ Some asked
  version_is : r.version ≡ v
  service_is : r.service ≡ n

its : (v : Version) (n : List ℕ) (r : ClientReply) (c : Client) (s : Scene) → Live v n c s → is_its c.talk r ≡ true → IsIts v n r s
its v n r c s l e =
    let first = both (is_some c.talk.request) (same_version r.version c.talk.version && bytes_eq r.service c.talk.service) e in
    let second = both (same_version r.version c.talk.version) (bytes_eq r.service c.talk.service) first.1 in
    let found = some-of c.talk.request first.0 in
    record {
      asked = found.0;
      open_is = l.asking ∙ found.1;
      version_is = same-versions r.version c.talk.version second.0 ∙ l.version;
      service_is = (bytes_eq-Decides r.service c.talk.service).0 second.1 ∙ l.service;
    }

answers-goes : (v : Version) (n : List ℕ) (r : ClientReply) (message : List (List ℕ)) (before after : List WireItem) (c : Client) (s : Scene) → Live v n c s
    → s.last ≡ before ++ item.Message message ∷ after → reply_in message ≡ Some r → IsIts v n r s → (final : Bool) → r.last ≡ final → Stays v n (answers final r.body c) s
answers-goes v n r message before after c s l came reads i final final_is = of final final_is
  where
    reply : (final : Bool) → r.last ≡ final → IsReply v n final r.body s
    reply final e = record {
      asked = i.asked;
      open_is = i.open_is;
      message = message;
      before = before;
      after = after;
      came = came;
      reply = r;
      reads = reads;
      version_is = i.version_is;
      service_is = i.service_is;
      final_is = e;
      body_is = refl;
    }

    of : (final : Bool) → r.last ≡ final → Stays v n (answers final r.body c) s
    of true e = record {
      right = (reply true e, tt);
      live = record { version = l.version; service = l.service; asking = refl; stream = l.stream };
      stream = refl;
      last = refl;
    }
    of false e = record { right = (reply false e, tt); live = l; stream = refl; last = refl }

answers-end-nothing : (final : Bool) (body : List (List ℕ)) (c : Client) → ends (answers final body c) ≡ false
answers-end-nothing true body c = refl
answers-end-nothing false body c = refl

requests-end-nothing : (request : Option (List (List ℕ))) (t : Talk) (c : Client) → ends (c, request_acts request t) ≡ false
requests-end-nothing None t c = refl
requests-end-nothing (Some body) t c = refl

-- what ends nothing
kept : (v : Version) (n : List ℕ) (t : Turn) (s : Scene) → ends t ≡ false → Stays v n t s → Outcome v n (ends t) t s
kept v n t s e k = subst (λ (b : Bool). Outcome v n b t s) (sym e) k

hears-goes : (v : Version) (n : List ℕ) (message : List (List ℕ)) (before after : List WireItem) (c : Client) (s : Scene) → Live v n c s
    → s.last ≡ before ++ item.Message message ∷ after → Outcome v n (ends (hears (reply_in message) c)) (hears (reply_in message) c) s
hears-goes v n message before after c s l came = of (reply_in message) refl
  where
    of : (found : Option ClientReply) → reply_in message ≡ found → Outcome v n (ends (hears found c)) (hears found c) s
    of None e = stay v n c s l
    of (Some r) e = by (is_its c.talk r) refl
      where
        by : (b : Bool) → is_its c.talk r ≡ b → Outcome v n (ends (cond {A = Turn} b (answers r.last r.body c) (c, []))) (cond {A = Turn} b (answers r.last r.body c) (c, [])) s
        by true i = kept v n (answers r.last r.body c) s (answers-end-nothing r.last r.body c) (answers-goes v n r message before after c s l came e (its v n r c s l i) r.last refl)
        by false i = stay v n c s l

meets-goes : (v : Version) (n : List ℕ) (x : WireItem) (before after : List WireItem) (c : Client) (s : Scene) → Live v n c s → s.last ≡ before ++ x ∷ after
    → (is_ready_item x ≡ true → is_ready s.stream ≡ true) → Outcome v n (ends (meets x c)) (meets x c) s
meets-goes v n item.Accepted before after c s l came ready = stay v n c s l
meets-goes v n (item.Ready kind) before after c s l came ready =
    kept v n (c, request_acts c.talk.request c.talk) s (requests-end-nothing c.talk.request c.talk c) (request-goes v n c s l (ready refl))
meets-goes v n (item.Message message) before after c s l came ready = hears-goes v n message before after c s l came
meets-goes v n (item.Ended reason at) before after c s l came ready = quiets-goes v n true c s l

or-left : (a b : Bool) → a ≡ true → (a || b) ≡ true
or-left true b e = refl
or-left false b e = absurd (false≢true e)

or-right : (a b : Bool) → b ≡ true → (a || b) ≡ true
or-right true b e = refl
or-right false b e = e

sweeps-goes : (v : Version) (n : List ℕ) (xs before : List WireItem) (c : Client) (s : Scene) → Live v n c s → s.last ≡ before ++ xs
    → (list_any is_ready_item xs ≡ true → is_ready s.stream ≡ true) → Goes v n (sweep meets xs c) s
sweeps-goes v n [] before c s l came ready = record { right = tt; fits = inr l }
sweeps-goes v n (x ∷ xs) before c s l came ready =
    behind-goes v n (sweep meets xs) (ends (meets x c)) (meets x c) s
    (meets-goes v n x before xs c s l came (λ e. ready (or-left (is_ready_item x) (list_any is_ready_item xs) e)))
    (λ k live stream last.
    sweeps-goes v n xs (before ++ x ∷ []) (meets x c).0 k live (last ∙ came ∙ sym (append_assoc before (x ∷ []) xs))
    (λ e. ap is_ready stream ∙ ready (or-right (is_ready_item x) (list_any is_ready_item xs) e)))

-- ---- calls

happens-goes : (v : Version) (n : List ℕ) (e : LinkEvent) (c : Client) (s : Scene) → Live v n c s → Goes v n (happens e c) (comes e s)
happens-goes v n (event.Given piece) c s l =
    let more : Client = record c { stream = c.stream ++ piece } in
    let k : Scene = record s { stream = s.stream ++ piece; last = beyond s.stream piece } in
    let live : Live v n more k = record { version = l.version; service = l.service; asking = l.asking; stream = ap (λ (x : List ℕ). x ++ piece) l.stream } in
    sweeps-goes v n (beyond c.stream piece) [] more k live (ap (λ (x : List ℕ). beyond x piece) l.stream)
    (λ e. ap (λ (x : List ℕ). is_ready (x ++ piece)) l.stream ∙ any-behind is_ready_item _ (items (c.stream ++ piece)) e)
happens-goes v n event.Idle c s l = goes-of v n (ends (quiets false c)) (quiets false c) (comes event.Idle s) (quiets-goes v n false c (comes event.Idle s) (record { version = l.version; service = l.service; asking = l.asking; stream = l.stream }))
happens-goes v n event.End c s l = goes-of v n (ends (quiets true c)) (quiets true c) (comes event.End s) (quiets-goes v n true c (comes event.End s) (record { version = l.version; service = l.service; asking = l.asking; stream = l.stream }))

greets-goes : (v : Version) (n : List ℕ) (linked : Bool) (c : Client) (s : Scene) → Live v n c s → Stays v n (c, begins linked c.talk.version) s
greets-goes v n true c s l = stay v n c s l
greets-goes v n false c s l = record { right = (inl (ap (λ (x : Version). hello (client_type x)) l.version), tt); live = l; stream = refl; last = refl }

opened-goes : (v : Version) (n : List ℕ) (b : Bool) (c : Client) (s : Scene) → Live v n c s → is_ready s.stream ≡ b → Goes v n (c, opened b c.talk) s
opened-goes v n true c s l ready = let k = request-goes v n c s l ready in record { right = k.right; fits = inr k.live }
opened-goes v n false c s l ready = record { right = tt; fits = inr l }

opens-goes : (v : Version) (n : List ℕ) (body : List (List ℕ)) (c : Client) (s : Scene) → Live v n c s → Goes v n (opens body c) (record s { asking = Some body; last = [] })
opens-goes v n body c s l =
    let d : Client = record c { talk = asked body c.talk } in
    let k : Scene = record s { asking = Some body; last = [] } in
    let live : Live v n d k = record { version = l.version; service = l.service; asking = refl; stream = l.stream } in
    let first = greets-goes v n c.talk.linked d k live in
    then-goes v n (d, begins c.talk.linked c.talk.version) (d, opened (is_ready c.stream) d.talk) k first.right
    (opened-goes v n (is_ready c.stream) d (seen sees (did (begins c.talk.linked c.talk.version)) k) first.live (ap is_ready (first.stream ∙ l.stream)))

over-goes : (v : Version) (n : List ℕ) (c : Client) (s : Scene) → c.talk.over ≡ true → Goes v n (c, []) s
over-goes v n c s o = record { right = tt; fits = inl o }

guarded : (v : Version) (n : List ℕ) (b : Bool) (c : Client) (t : Turn) (s : Scene) → c.talk.over ≡ b → Goes v n t s → Goes v n (cond {A = Turn} b (c, []) t) s
guarded v n true c t s o g = over-goes v n c s o
guarded v n false c t s o g = g

call-goes : (v : Version) (n : List ℕ) (call : Call) (c : Client) (s : Scene) → Fits v n c s → Goes v n (turn_of call c) (sees (sight_of call) s)
call-goes v n (Asked body) c s (inl o) = subst (λ (b : Bool). Goes v n (cond {A = Turn} b (c, []) (opens body c)) (sees (sight_of (Asked body)) s)) (sym o) (over-goes v n c _ o)
call-goes v n (Asked body) c s (inr l) = guarded v n c.talk.over c (opens body c) _ refl (opens-goes v n body c s l)
call-goes v n (Met e) c s (inl o) = subst (λ (b : Bool). Goes v n (cond {A = Turn} b (c, []) (happens e c)) (sees (sight_of (Met e)) s)) (sym o) (over-goes v n c _ o)
call-goes v n (Met e) c s (inr l) = guarded v n c.talk.over c (happens e c) _ refl (happens-goes v n e c s l)

sight-right : (v : Version) (n : List ℕ) (call : Call) (s : Scene) → IsRight v n (sight_of call) s
sight-right v n (Asked body) s = tt
sight-right v n (Met e) s = tt

runs-go : (v : Version) (n : List ℕ) (calls : List Call) (c : Client) (s : Scene) → Fits v n c s → AreRight (IsRight v n) sees (sights calls c) s
runs-go v n [] c s f = tt
runs-go v n (call ∷ calls) c s f =
    let g = call-goes v n call c s f in
    let k = sees (sight_of call) s in
    (sight-right v n call s, right-append (IsRight v n) sees (did (turn_of call c).1) (sights calls (turn_of call c).0) k g.right (runs-go v n calls (turn_of call c).0 (seen sees (did (turn_of call c).1) k) g.fits))

pub runs-are-right : (v : Version) (n : List ℕ) (tries wait : ℕ) (calls : List Call) → AreRight (IsRight v n) sees (sights calls (fresh v n tries wait)) nothing
runs-are-right v n tries wait calls = runs-go v n calls (fresh v n tries wait) nothing (inr (record { version = refl; service = refl; asking = refl; stream = refl }))
