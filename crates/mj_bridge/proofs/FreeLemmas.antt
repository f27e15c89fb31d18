-- Where no REQUEST is open, the far side has no request open.
use Rattle.std.proofs.Common.{◌≡◌, ℕ, Bool, true, false, List, [], ◌∷◌, ◌++◌, refl, sym, ap, ◌∙◌, Option, None, Some, inl, inr, ◌==◌, ◌+◌}
use Rattle.std.proofs.lemmas.Bool.{false≢true}
use Rattle.std.specs.Prelude.{⊤, is_some, ◌⊎◌, ◌-◌, nat_lt, if◌then◌else◌}
use Rattle.mj_base.specs.declared.link.LinkEvent.{LinkEvent}
use Rattle.mj_base.specs.declared.link.LinkEvent.TheVariants as event
use Rattle.mj_bridge.specs.BridgeRules.{Asked, Bridge, Call, FarGave, NearGave, Started, Turn, after, answered, asking, closing, ends, far_act, far_acts, far_turn, fresh, goes_on, hearing, is_over, keeps, meets, meets_all, meets_as, move_all, moves, near_happens, near_turn, opens, opens_next, replies, serving, stays, takes, turn_of, unless}
use Rattle.mj_bridge.specs.BridgeSights.{IsFree}
use Rattle.mj_client_cmd.specs.declared.command.ClientReply.{ClientReply}
use Rattle.mj_peer.specs.ClientEndRules as Client
use Rattle.mj_peer.specs.PeerTexts.{reply_in}
use Rattle.mj_peer.specs.Sweeping as Sweeping
use Rattle.mj_peer.specs.Sweeping.{beyond}
use Rattle.mj_peer.specs.WorkerEndRules as Worker
use Rattle.mj_peer.specs.WorkerEndRules.{request_in}
use Rattle.mj_peer.specs.declared.act.Act.{Act}
use Rattle.mj_peer.specs.declared.act.Act.TheVariants as act
use Rattle.mj_peer.specs.declared.post.Handed.{Handed}
use Rattle.mj_peer.specs.declared.talk.Talk.{Talk}
use Rattle.mj_peer.specs.declared.verdict.Verdict.{Verdict}
use Rattle.mj_peer.specs.declared.verdict.Verdict.TheVariants.{Again, Lost, Stay}
use Rattle.mj_wire.specs.declared.item.WireItem.{WireItem}
use Rattle.mj_wire.specs.declared.item.WireItem.TheVariants as item

-- ---- a turn of the client: behind it no request is open, or the same as before and none was answered

abbrev pub IsNoDone : Act → Type 0
IsNoDone (act.Write text) = ⊤
IsNoDone act.Reopen = ⊤
IsNoDone (act.Part body) = ⊤
IsNoDone (act.Done body) = ⊥
IsNoDone act.Served = ⊤
IsNoDone act.Finished = ⊤
IsNoDone act.NoAnswer = ⊤

abbrev pub NoDone : List Act → Type 0
NoDone [] = ⊤
NoDone (a ∷ rest) = IsNoDone a × NoDone rest

no-done-append : (xs ys : List Act) → NoDone xs → NoDone ys → NoDone (xs ++ ys)
no-done-append [] ys a b = b
no-done-append (x ∷ xs) ys a b = (a.0, no-done-append xs ys a.1 b)

abbrev pub Fine : Option (List (List ℕ)) → Client.Turn → Type 0
Fine request t = (t.0.talk.request ≡ None) ⊎ (NoDone t.1 × (t.0.talk.request ≡ request))

fine-then : (request : Option (List (List ℕ))) (t u : Client.Turn) → Fine request t → Fine t.0.talk.request u → Fine request (u.0, t.1 ++ u.1)
fine-then request t u f (inl none) = inl none
fine-then request t u (inl was) (inr g) = inl (g.1 ∙ was)
fine-then request t u (inr f) (inr g) = inr (no-done-append t.1 u.1 f.0 g.0, g.1 ∙ f.1)

fine-behind : (request : Option (List (List ℕ))) (more : Client.Client → Client.Turn) (stop : Bool) (t : Client.Turn) → Fine request t → ((c : Client.Client) → Fine c.talk.request (more c))
    → Fine request (Sweeping.behind more stop t)
fine-behind request more true t f h = f
fine-behind request more false t f h = fine-then request t (more t.0) f (h t.0)

fine-either : (request : Option (List (List ℕ))) (b : Bool) (x y : Client.Turn) → Fine request x → Fine request y → Fine request (if b then x else y)
fine-either request true x y f g = f
fine-either request false x y f g = g

abbrev Counts : Option (List (List ℕ)) → Talk → Type 0
Counts request t = (t.request ≡ None) ⊎ (t.request ≡ request)

counts-either : (request : Option (List (List ℕ))) (b : Bool) (x y : Talk) → Counts request x → Counts request y → Counts request (if b then x else y)
counts-either request true x y f g = f
counts-either request false x y f g = g

counted-counts : (request : Option (List (List ℕ))) (t : Talk) → Counts t.request (Client.counted request t)
counted-counts None t = inr refl
counted-counts (Some body) t =
    counts-either t.request (nat_lt t.quiet (t.wait - 1)) (record t { quiet = t.quiet + 1 })
    (if nat_lt t.tried (t.tries - 1) then record t { tried = t.tried + 1; quiet = 0 } else record t { over = true; request = None }) (inr refl)
    (counts-either t.request (nat_lt t.tried (t.tries - 1)) (record t { tried = t.tried + 1; quiet = 0 }) (record t { over = true; request = None }) (inr refl) (inl refl))

follows-fine : (request : Option (List (List ℕ))) (v : Verdict) (c : Client.Client) → Counts request c.talk → Fine request (Client.follows v c)
follows-fine request v c (inl e) = none-fine v
  where
    none-fine : (v : Verdict) → Fine request (Client.follows v c)
    none-fine Stay = inl e
    none-fine Again = inl e
    none-fine Lost = inl e
follows-fine request v c (inr e) = same-fine v
  where
    same-fine : (v : Verdict) → Fine request (Client.follows v c)
    same-fine Stay = inr (tt, e)
    same-fine Again = inr ((tt, (tt, tt)), e)
    same-fine Lost = inr ((tt, tt), e)

quiets-fine : (ended : Bool) (c : Client.Client) → Fine c.talk.request (Client.quiets ended c)
quiets-fine ended c =
    follows-fine c.talk.request (Client.verdict ended c.talk.request c.talk) (record c { talk = Client.counted c.talk.request c.talk }) (counted-counts c.talk.request c.talk)

request-no-done : (body : Option (List (List ℕ))) (t : Talk) → NoDone (Client.request_acts body t)
request-no-done None t = tt
request-no-done (Some body) t = (tt, tt)

answers-fine : (last : Bool) (body : List (List ℕ)) (c : Client.Client) → Fine c.talk.request (Client.answers last body c)
answers-fine true body c = inl refl
answers-fine false body c = inr ((tt, tt), refl)

hears-fine : (r : Option ClientReply) (c : Client.Client) → Fine c.talk.request (Client.hears r c)
hears-fine None c = inr (tt, refl)
hears-fine (Some r) c =
    fine-either c.talk.request (Client.is_its c.talk r) (Client.answers r.last r.body c) (c, []) (answers-fine r.last r.body c) (inr (tt, refl))

meets-fine : (x : WireItem) (c : Client.Client) → Fine c.talk.request (Client.meets x c)
meets-fine item.Accepted c = inr (tt, refl)
meets-fine (item.Ready kind) c = inr (request-no-done c.talk.request c.talk, refl)
meets-fine (item.Message message) c = hears-fine (reply_in message) c
meets-fine (item.Ended reason at) c = quiets-fine true c

sweep-fine : (xs : List WireItem) (c : Client.Client) → Fine c.talk.request (Sweeping.sweep Client.meets xs c)
sweep-fine [] c = inr (tt, refl)
sweep-fine (x ∷ xs) c =
    fine-behind c.talk.request (Sweeping.sweep Client.meets xs) (Sweeping.ends (Client.meets x c)) (Client.meets x c) (meets-fine x c) (λ d. sweep-fine xs d)

happens-fine : (e : LinkEvent) (c : Client.Client) → Fine c.talk.request (Client.happens e c)
happens-fine (event.Given piece) c = sweep-fine (beyond c.stream piece) (record c { stream = c.stream ++ piece })
happens-fine event.Idle c = quiets-fine false c
happens-fine event.End c = quiets-fine true c

pub steps-fine : (e : LinkEvent) (c : Client.Client) → Fine c.talk.request (Client.steps e c)
steps-fine e c = fine-either c.talk.request c.talk.over (c, []) (Client.happens e c) (inr (tt, refl)) (happens-fine e c)

-- ---- what the near side leaves as it was

record Same (a b : Bridge) : Type 0 where
  held : a.held ≡ b.held
  far : a.far ≡ b.far

moves-same : (a : Act) (b : Bridge) → Same (moves a b) b
moves-same (act.Write text) b = record { held = refl; far = refl }
moves-same act.Reopen b = record { held = refl; far = refl }
moves-same (act.Part body) b = record { held = refl; far = refl }
moves-same (act.Done body) b = record { held = refl; far = refl }
moves-same act.Served b = record { held = refl; far = refl }
moves-same act.Finished b = record { held = refl; far = refl }
moves-same act.NoAnswer b = record { held = refl; far = refl }

move_all-same : (acts : List Act) (b : Bridge) → Same (move_all acts b) b
move_all-same [] b = record { held = refl; far = refl }
move_all-same (a ∷ rest) b =
    let first = moves-same a b in
    let then_same = move_all-same rest (moves a b) in
    record { held = then_same.held ∙ first.held; far = then_same.far ∙ first.far }

near_turn-same : (t : Worker.Turn) (b : Bridge) → Same (near_turn t b).0 b
near_turn-same t b = let s = move_all-same t.1 (record b { near = t.0 }) in record { held = s.held; far = s.far }

free-same : (a b : Bridge) → Same a b → IsFree b → IsFree a
free-same a b s f = λ none. ap (λ (c : Client.Client). c.talk.request) s.far ∙ f (sym s.held ∙ none)

pub near_turn-free : (t : Worker.Turn) (b : Bridge) → IsFree b → IsFree (near_turn t b).0
near_turn-free t b f = free-same (near_turn t b).0 b (near_turn-same t b) f

-- ---- turns put together

unless-free : (more : Bridge → Turn) (stop : Bool) (t : Turn) → IsFree t.0 → ((b : Bridge) → IsFree b → IsFree (more b).0) → IsFree (unless more stop t).0
unless-free more true t f h = f
unless-free more false t f h = h t.0 f

either-free : (c : Bool) (x y : Turn) → IsFree x.0 → IsFree y.0 → IsFree (if c then x else y).0
either-free true x y f g = f
either-free false x y f g = g

held-free : (asked : Asked) (held : Option Asked) (request : Option (List (List ℕ))) → held ≡ Some asked → held ≡ None → request ≡ None
held-free asked held request e none = absurd (false≢true (sym (ap is_some (sym e ∙ none))))

pub opens-free : (asked : Asked) (b : Bridge) → IsFree (opens asked b).0
opens-free asked b = λ none. held-free asked (Some asked) (opens asked b).0.far.talk.request refl none

keeps-free : (same : Bool) (asked : Asked) (b : Bridge) → IsFree b → IsFree (keeps same asked b).0
keeps-free true asked b f = f
keeps-free false asked b f = f

pub takes-free : (held next : Option Asked) (asked : Asked) (b : Bridge) → IsFree b → IsFree (takes held next asked b).0
takes-free None next asked b f = opens-free asked b
takes-free (Some held) None asked b f = keeps-free (held.link == b.link) asked b f
takes-free (Some held) (Some next) asked b f = f

pub meets_as-free : (handed : Option Handed) (x : WireItem) (b : Bridge) → IsFree b → IsFree (meets_as handed x b).0
meets_as-free None x b f = near_turn-free (Worker.meets x b.near) b f
meets_as-free (Some handed) x b f = takes-free b.held b.next (asking handed b) (hearing b) f

meets_all-free : (xs : List WireItem) (b : Bridge) → IsFree b → IsFree (meets_all xs b).0
meets_all-free [] b f = f
meets_all-free (x ∷ xs) b f =
    unless-free (meets_all xs) (ends x b) (meets x b) (meets_as-free (request_in b.near.duty.version x) x b f) (λ c g. meets_all-free xs c g)

near_happens-free : (e : LinkEvent) (b : Bridge) → IsFree b → IsFree (near_happens e b).0
near_happens-free (event.Given piece) b f = meets_all-free (beyond b.near.stream piece) (record b { near = Worker.takes piece b.near }) f
near_happens-free event.Idle b f = near_turn-free (Worker.rests b.near) b f
near_happens-free event.End b f = near_turn-free (Worker.quiets true b.near) b f

-- ---- the far side's acts leave its end as it is; but for a final reply the open REQUEST stays open

replies-same : (here : Bool) (asked : Asked) (body : List (List ℕ)) (b : Bridge) → Same (replies here asked body b).0 b
replies-same false asked body b = record { held = refl; far = refl }
replies-same true asked body b = let s = near_turn-same (Worker.finishing (serving b).near) (serving b) in record { held = s.held; far = s.far }

answered-far : (held : Option Asked) (body : List (List ℕ)) (b : Bridge) → (answered held body b).0.far ≡ b.far
answered-far None body b = refl
answered-far (Some asked) body b = let s = replies-same (asked.link == b.link) asked body (closing b) in s.far

far_act-far : (a : Act) (b : Bridge) → (far_act a b).0.far ≡ b.far
far_act-far (act.Write text) b = refl
far_act-far act.Reopen b = refl
far_act-far (act.Part body) b = refl
far_act-far (act.Done body) b = answered-far b.held body b
far_act-far act.Served b = refl
far_act-far act.Finished b = refl
far_act-far act.NoAnswer b = refl

far_act-held : (a : Act) (b : Bridge) → IsNoDone a → (far_act a b).0.held ≡ b.held
far_act-held (act.Write text) b i = refl
far_act-held act.Reopen b i = refl
far_act-held (act.Part body) b i = refl
far_act-held (act.Done body) b i = absurd i
far_act-held act.Served b i = refl
far_act-held act.Finished b i = refl
far_act-held act.NoAnswer b i = refl

unless-far : (more : Bridge → Turn) (stop : Bool) (t : Turn) (far : Client.Client) → t.0.far ≡ far → ((b : Bridge) → (more b).0.far ≡ b.far) → (unless more stop t).0.far ≡ far
unless-far more true t far e h = e
unless-far more false t far e h = h t.0 ∙ e

unless-held : (more : Bridge → Turn) (stop : Bool) (t : Turn) (held : Option Asked) → t.0.held ≡ held → ((b : Bridge) → (more b).0.held ≡ b.held) → (unless more stop t).0.held ≡ held
unless-held more true t held e h = e
unless-held more false t held e h = h t.0 ∙ e

far_acts-far : (acts : List Act) (b : Bridge) → (far_acts acts b).0.far ≡ b.far
far_acts-far [] b = refl
far_acts-far (a ∷ rest) b = unless-far (far_acts rest) (is_over (far_act a b).0) (far_act a b) b.far (far_act-far a b) (λ c. far_acts-far rest c)

far_acts-held : (acts : List Act) (b : Bridge) → NoDone acts → (far_acts acts b).0.held ≡ b.held
far_acts-held [] b i = refl
far_acts-held (a ∷ rest) b i = unless-held (far_acts rest) (is_over (far_act a b).0) (far_act a b) b.held (far_act-held a b i.0) (λ c. far_acts-held rest c i.1)

opens_next-free : (held next : Option Asked) (b : Bridge) → IsFree b → IsFree (opens_next held next b).0
opens_next-free None None b f = f
opens_next-free None (Some asked) b f = opens-free asked b
opens_next-free (Some held) next b f = f

goes_on-free : (b : Bridge) → IsFree b → IsFree (goes_on b).0
goes_on-free b f = either-free (is_over b) (stays b) (opens_next b.held b.next b) f (opens_next-free b.held b.next b f)

pub far_acts-free : (t : Client.Turn) (b : Bridge) → IsFree b → Fine b.far.talk.request t → IsFree (far_acts t.1 (record b { far = t.0 })).0
far_acts-free t b f (inl e) = λ none. ap (λ (c : Client.Client). c.talk.request) (far_acts-far t.1 (record b { far = t.0 })) ∙ e
far_acts-free t b f (inr g) =
    λ none. ap (λ (c : Client.Client). c.talk.request) (far_acts-far t.1 (record b { far = t.0 })) ∙ g.1 ∙ f (sym (far_acts-held t.1 (record b { far = t.0 }) g.0) ∙ none)

pub far_turn-free : (t : Client.Turn) (b : Bridge) → IsFree b → Fine b.far.talk.request t → IsFree (far_turn t b).0
far_turn-free t b f g = goes_on-free (far_acts t.1 (record b { far = t.0 })).0 (far_acts-free t b f g)

-- ---- calls

pub call-free : (call : Call) (b : Bridge) → IsFree b → IsFree (turn_of call b).0
call-free Started b f = near_turn-free (Worker.starts b.near) b f
call-free (NearGave e) b f = either-free (is_over b) (stays b) (near_happens e b) f (near_happens-free e b f)
call-free (FarGave e) b f = either-free (is_over b) (stays b) (far_turn (Client.steps e b.far) b) f (far_turn-free (Client.steps e b.far) b f (steps-fine e b.far))

calls-free : (calls : List Call) (b : Bridge) → IsFree b → IsFree (after calls b)
calls-free [] b f = f
calls-free (call ∷ calls) b f = calls-free calls (turn_of call b).0 (call-free call b f)

pub far-is-free : (service remote : List ℕ) (tries wait count : ℕ) (calls : List Call) → IsFree (after calls (fresh service remote tries wait count))
far-is-free service remote tries wait count calls = calls-free calls (fresh service remote tries wait count) (λ none. refl)
