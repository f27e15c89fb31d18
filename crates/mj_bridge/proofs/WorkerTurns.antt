-- What a turn of the near side as a worker keeps and writes, but for a REQUEST; and what the far side writes where it is asked.
use Rattle.std.proofs.Common.{◌≡◌, ℕ, Bool, true, false, List, [], ◌∷◌, ◌++◌, refl, sym, ap, subst, ◌∙◌, Option, None, Some, inl, inr, ◌%◌, ◌==◌, ◌+◌}
use Rattle.std.proofs.lemmas.Bool.{false≢true}
use Rattle.std.specs.Prelude.{is_some, ⊤, ◌-◌, nat_lt, if◌then◌else◌}
use Rattle.mj_base.specs.declared.version.Version.{Version}
use Rattle.mj_base.specs.declared.version.Version.TheVariants.{One}
use Rattle.mj_bridge.specs.BridgeSights.{IsFarAct, IsNearAct}
use Rattle.mj_peer.specs.ClientEndRules as Client
use Rattle.mj_peer.specs.PeerTexts.{order_in, said_text, same_version}
use Rattle.mj_peer.specs.Sweeping.{is_ready}
use Rattle.mj_peer.specs.WorkerEndRules.{Turn, Worker, counted, finishes, follows, follows_idle, greets, handed_by, hearing, hears, idles_on, idling, meets, obeys, quiets, reopens, request_by, request_in, rests, starts, verdict}
use Rattle.mj_peer.specs.declared.act.Act.{Act}
use Rattle.mj_peer.specs.declared.act.Act.TheVariants as act
use Rattle.mj_peer.specs.declared.duty.Duty.{Duty}
use Rattle.mj_peer.specs.declared.talk.Talk.{Talk}
use Rattle.mj_peer.specs.declared.verdict.Verdict.{Verdict}
use Rattle.mj_peer.specs.declared.verdict.Verdict.TheVariants.{Again, Lost, Stay}
use Rattle.mj_wire.specs.declared.item.WireItem.{WireItem}
use Rattle.mj_wire.specs.declared.item.WireItem.TheVariants as item
use Rattle.mj_worker_cmd.specs.declared.command.Order.{Order}
use Rattle.mj_worker_cmd.specs.declared.command.OrderAct.{OrderAct}
use Rattle.mj_worker_cmd.specs.declared.command.OrderAct.TheVariants as order
use Rattle.mj_worker_cmd.specs.declared.command.WorkerAct.TheVariants as said

pub record Told (n : List ℕ) (d : Duty) : Type 0 where
  pub version : d.version ≡ One
  pub service : d.service ≡ n

abbrev pub AreNear : List ℕ → List Act → Type 0
AreNear n [] = ⊤
AreNear n (a ∷ rest) = IsNearAct n a × AreNear n rest

abbrev pub AreFar : List Act → Type 0
AreFar [] = ⊤
AreFar (a ∷ rest) = IsFarAct a × AreFar rest

pub record Works (n : List ℕ) (t : Turn) : Type 0 where
  pub told : Told n t.0.duty
  pub near : AreNear n t.1

told-either : (n : List ℕ) (b : Bool) (x y : Duty) → Told n x → Told n y → Told n (if b then x else y)
told-either n true x y h k = h
told-either n false x y h k = k

works-either : (n : List ℕ) (b : Bool) (x y : Turn) → Works n x → Works n y → Works n (if b then x else y)
works-either n true x y h k = h
works-either n false x y h k = k

same-told : (n : List ℕ) (d e : Duty) → Told n d → e.version ≡ d.version → e.service ≡ d.service → Told n e
same-told n d e t v s = record { version = v ∙ t.version; service = s ∙ t.service }

counted-told : (n : List ℕ) (d : Duty) → Told n d → Told n (counted d)
counted-told n d t =
    told-either n (nat_lt d.quiet 74) (record d { quiet = d.quiet + 1 }) (if nat_lt d.tried (d.tries - 1) then record d { tried = d.tried + 1; quiet = 0 } else record d { over = true })
    (same-told n d (record d { quiet = d.quiet + 1 }) t refl refl)
    (told-either n (nat_lt d.tried (d.tries - 1)) (record d { tried = d.tried + 1; quiet = 0 }) (record d { over = true })
    (same-told n d (record d { tried = d.tried + 1; quiet = 0 }) t refl refl) (same-told n d (record d { over = true }) t refl refl))

stay-works : (n : List ℕ) (w : Worker) → Told n w.duty → Works n (w, [])
stay-works n w t = record { told = t; near = tt }

reopens-works : (n : List ℕ) (w : Worker) → Told n w.duty → Works n (reopens w)
reopens-works n w t = record { told = t; near = (tt, (inl refl, tt)) }

lost-works : (n : List ℕ) (w : Worker) → Told n w.duty → Works n (w, act.NoAnswer ∷ [])
lost-works n w t = record { told = t; near = (tt, tt) }

follows-works : (n : List ℕ) (v : Verdict) (w : Worker) → Told n w.duty → Works n (follows v w)
follows-works n Stay w t = stay-works n w t
follows-works n Again w t = reopens-works n w t
follows-works n Lost w t = lost-works n w t

pub quiets-works : (n : List ℕ) (ended : Bool) (w : Worker) → Told n w.duty → Works n (quiets ended w)
quiets-works n ended w t = follows-works n (verdict ended w.duty) (record w { duty = counted w.duty }) (counted-told n w.duty t)

beat-one : (n : List ℕ) (b : Bool) → AreNear n (if b then act.Write (said_text One said.Heartbeat) ∷ [] else [])
beat-one n true = (inr (inr (inl refl)), tt)
beat-one n false = tt

beat-near : (n : List ℕ) (v : Version) (b : Bool) → v ≡ One → AreNear n (if b then act.Write (said_text v said.Heartbeat) ∷ [] else [])
beat-near n v b e = subst (λ (u : Version). AreNear n (if b then act.Write (said_text u said.Heartbeat) ∷ [] else [])) (sym e) (beat-one n b)

idling-on : (n : List ℕ) (ready : Bool) (w : Worker) → Told n w.duty → Works n (idles_on ready w)
idling-on n true w t = record { told = t; near = beat-near n w.duty.version ((w.idles + 1) % 25 == 0) t.version }
idling-on n false w t = stay-works n w t

follows_idle-works : (n : List ℕ) (v : Verdict) (w : Worker) (ready : Bool) → Told n w.duty → Works n (idling w) → Works n (follows_idle v w)
follows_idle-works n Stay w ready t h = h
follows_idle-works n Again w ready t h = reopens-works n w t
follows_idle-works n Lost w ready t h = lost-works n w t

pub rests-works : (n : List ℕ) (w : Worker) → Told n w.duty → Works n (rests w)
rests-works n w t =
    let v : Worker = record w { duty = counted w.duty } in
    follows_idle-works n (verdict false w.duty) v true (counted-told n w.duty t) (idling-on n (is_ready w.stream) v (counted-told n w.duty t))

pub starts-works : (n : List ℕ) (w : Worker) → Told n w.duty → Works n (starts w)
starts-works n w t = works-either n w.duty.over (w, []) (w, greets) (stay-works n w t) (record { told = t; near = (inl refl, tt) })

disconnect-near : (n : List ℕ) (v : Version) → v ≡ One → AreNear n (act.Write (said_text v said.Disconnect) ∷ act.Finished ∷ [])
disconnect-near n v e = (inr (inr (inr (ap (λ (u : Version). said_text u said.Disconnect) e))), (tt, tt))

pub finishes-works : (n : List ℕ) (b : Bool) (w : Worker) → Told n w.duty → Works n (finishes b w)
finishes-works n true w t = record { told = same-told n w.duty (record w.duty { over = true }) t refl refl; near = disconnect-near n w.duty.version t.version }
finishes-works n false w t = stay-works n w t

registers-near : (n m : List ℕ) (v : Version) → v ≡ One → m ≡ n → AreNear n (act.Write (said_text v (said.Ready m)) ∷ [])
registers-near n m v e f = (inr (inl (ap (λ (u : Version). said_text u (said.Ready m)) e ∙ ap (λ (l : List ℕ). said_text One (said.Ready l)) f)), tt)

obeys-works : (n : List ℕ) (a : OrderAct) (w : Worker) → handed_by a ≡ None → Told n w.duty → Works n (obeys a w)
obeys-works n (order.Request address body) w e t = absurd (false≢true (sym (ap is_some e)))
obeys-works n order.Heartbeat w e t = record { told = same-told n w.duty (hearing w).duty t refl refl; near = tt }
obeys-works n order.Disconnect w e t = quiets-works n true w t

heard-works : (n : List ℕ) (b : Bool) (a : OrderAct) (w : Worker) → (if b then handed_by a else None) ≡ None → Told n w.duty → Works n (if b then obeys a w else (w, []))
heard-works n true a w e t = obeys-works n a w e t
heard-works n false a w e t = stay-works n w t

hears-works : (n : List ℕ) (o : Option Order) (w : Worker) → request_by w.duty.version o ≡ None → Told n w.duty → Works n (hears o w)
hears-works n None w e t = stay-works n w t
hears-works n (Some o) w e t = heard-works n (same_version o.version w.duty.version) o.act w e t

pub meets-works : (n : List ℕ) (x : WireItem) (w : Worker) → request_in w.duty.version x ≡ None → Told n w.duty → Works n (meets x w)
meets-works n item.Accepted w e t = stay-works n w t
meets-works n (item.Ready kind) w e t = record { told = t; near = registers-near n w.duty.service w.duty.version t.version t.service }
meets-works n (item.Message message) w e t = hears-works n (order_in message) w e t
meets-works n (item.Ended reason at) w e t = quiets-works n true w t

-- ---- the far side where it is asked

far-append : (xs ys : List Act) → AreFar xs → AreFar ys → AreFar (xs ++ ys)
far-append [] ys a b = b
far-append (x ∷ xs) ys a b = (a.0, far-append xs ys a.1 b)

begins-far : (linked : Bool) (version : Version) → AreFar (Client.begins linked version)
begins-far true version = tt
begins-far false version = (tt, tt)

request-far : (body : Option (List (List ℕ))) (t : Talk) → AreFar (Client.request_acts body t)
request-far None t = tt
request-far (Some body) t = (tt, tt)

opened-far : (ready : Bool) (t : Talk) → AreFar (Client.opened ready t)
opened-far true t = request-far t.request t
opened-far false t = tt

far-either : (b : Bool) (x y : Client.Turn) → AreFar x.1 → AreFar y.1 → AreFar (if b then x else y).1
far-either true x y h k = h
far-either false x y h k = k

pub asks-far : (body : List (List ℕ)) (c : Client.Client) → AreFar (Client.asks body c).1
asks-far body c =
    far-either c.talk.over (c, []) (Client.opens body c) tt
    (far-append (Client.begins c.talk.linked c.talk.version) (Client.opened (is_ready c.stream) (Client.asked body c.talk))
    (begins-far c.talk.linked c.talk.version) (opened-far (is_ready c.stream) (Client.asked body c.talk)))
