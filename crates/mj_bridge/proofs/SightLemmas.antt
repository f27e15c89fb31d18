-- Every run of a bridge is right.
use Rattle.std.proofs.Common.{◌≡◌, ◌≤◌, ◌==◌, ℕ, suc, Bool, true, false, List, [], ◌∷◌, ◌++◌, map, refl, sym, ap, subst, ◌∙◌, Option, None, Some, inl, inr, arith, eqb-true}
use Rattle.std.specs.Prelude.{⊤, if◌then◌else◌}
use Rattle.mj_base.specs.declared.link.LinkEvent.{LinkEvent}
use Rattle.mj_base.specs.declared.link.LinkEvent.TheVariants as event
use Rattle.mj_bridge.specs.BridgeRules.{Answers, Asked, Bridge, Call, Doing, Far, FarGave, Gets, Near, NearGave, Opens, Reads, Started, Turn, answered, asking, closing, doing, doings, ends, far_act, far_acts, far_steps, far_turn, follows, fresh, gives_up, goes_on, hearing, is_over, keeps, meets, meets_all, meets_as, move_all, moves, near_happens, near_steps, near_turn, opens, opens_next, replies, requested, serving, starts, stays, takes, turn_of, unless}
use Rattle.mj_bridge.specs.BridgeSights.{IsAmong, IsNearAct, IsRight, Scene, due, nothing, sees}
use Rattle.mj_bridge.proofs.WorkerTurns.{AreFar, AreNear, Told, Works, asks-far, finishes-works, meets-works, quiets-works, rests-works, starts-works}
use Rattle.mj_peer.specs.ClientEndRules as Client
use Rattle.mj_peer.specs.Sweeping.{beyond}
use Rattle.mj_peer.specs.WorkerEndRules as Worker
use Rattle.mj_peer.specs.WorkerEndRules.{request_in}
use Rattle.mj_peer.specs.declared.act.Act.{Act}
use Rattle.mj_peer.specs.declared.act.Act.TheVariants as act
use Rattle.mj_peer.specs.declared.post.Handed.{Handed}
use Rattle.mj_peer_laws.specs.Watching.{AreRight, seen}
use Rattle.mj_wire.specs.declared.item.WireItem.{WireItem}

abbrev Right : List ℕ → List Doing → Scene → Type 0
Right n ds s = AreRight (IsRight n) sees ds s

right-append : (n : List ℕ) (xs ys : List Doing) (s : Scene) → Right n xs s → Right n ys (seen sees xs s) → Right n (xs ++ ys) s
right-append n [] ys s a b = b
right-append n (x ∷ xs) ys s a b = (a.0, right-append n xs ys (sees x s) a.1 b)

seen-append : (xs ys : List Doing) (s : Scene) → seen sees (xs ++ ys) s ≡ seen sees ys (seen sees xs s)
seen-append [] ys s = refl
seen-append (x ∷ xs) ys s = seen-append xs ys (sees x s)

-- ---- numbers

-- none from here on was answered, but for the open one
abbrev LowFine : ℕ → Option Asked → Type 0
LowFine a None = ⊤
LowFine a (Some held) = a ≤ held.number

abbrev floor : ℕ → Option Asked → ℕ
floor a None = a
floor a (Some held) = suc held.number

record IsNext (known : List Asked) (low link read : ℕ) (asked : Asked) : Type 0 where
  among : IsAmong asked known
  low_is : low ≤ asked.number
  high_is : suc asked.number ≤ read
  link_is : asked.link ≡ link

abbrev NextFine : List Asked → ℕ → ℕ → ℕ → Option Asked → Type 0
NextFine known low link read None = ⊤
NextFine known low link read (Some asked) = IsNext known low link read asked

-- the bridge is what was seen of it
record Matches (n : List ℕ) (s : Scene) (b : Bridge) : Type 0 where
  told : Told n b.near.duty
  link : s.link ≡ b.link
  read : s.read ≡ b.read
  asks : s.asking ≡ b.held
  got : s.got ≡ None
  low : LowFine s.answered b.held
  high : floor s.answered b.held ≤ b.read
  next : NextFine s.known (floor s.answered b.held) b.link b.read b.next

record Goes (n : List ℕ) (t : Turn) (s : Scene) : Type 0 where
  right : Right n t.1 s
  fits : Matches n (seen sees t.1 s) t.0

-- ---- turns put together

stays-goes : (n : List ℕ) (b : Bridge) (s : Scene) → Matches n s b → Goes n (stays b) s
stays-goes n b s m = record { right = tt; fits = m }

doing-goes : (n : List ℕ) (d : Doing) (t : Turn) (s : Scene) → IsRight n d s → Goes n t (sees d s) → Goes n (doing d t) s
doing-goes n d t s r g = record { right = (r, g.right); fits = g.fits }

follows-goes : (n : List ℕ) (more : Bridge → Turn) (t : Turn) (s : Scene) → Goes n t s → ((k : Scene) → Matches n k t.0 → Goes n (more t.0) k) → Goes n (follows more t) s
follows-goes n more t s g h =
    let k = h (seen sees t.1 s) g.fits in
    record {
      right = right-append n t.1 (more t.0).1 s g.right k.right;
      fits = subst (λ (z : Scene). Matches n z (more t.0).0) (sym (seen-append t.1 (more t.0).1 s)) k.fits;
    }

unless-goes : (n : List ℕ) (more : Bridge → Turn) (stop : Bool) (t : Turn) (s : Scene) → Goes n t s → ((k : Scene) → Matches n k t.0 → Goes n (more t.0) k) → Goes n (unless more stop t) s
unless-goes n more true t s g h = g
unless-goes n more false t s g h = follows-goes n more t s g h

either-goes : (n : List ℕ) (c : Bool) (x y : Turn) (s : Scene) → Goes n x s → Goes n y s → Goes n (if c then x else y) s
either-goes n true x y s g h = g
either-goes n false x y s g h = h

-- ---- the near side as a worker

moves-goes : (n : List ℕ) (a : Act) (b : Bridge) (s : Scene) → Matches n s b → IsNearAct n a → Matches n (sees (Near a) s) (moves a b)
moves-goes n (act.Write text) b s m i = m
moves-goes n act.Reopen b s m i = record { told = m.told; link = ap suc m.link; read = m.read; asks = m.asks; got = m.got; low = m.low; high = m.high; next = tt }
moves-goes n (act.Part body) b s m i = absurd i
moves-goes n (act.Done body) b s m i = absurd i
moves-goes n act.Served b s m i = absurd i
moves-goes n act.Finished b s m i = m
moves-goes n act.NoAnswer b s m i = m

acts-go : (n : List ℕ) (acts : List Act) (b : Bridge) (s : Scene) → Matches n s b → AreNear n acts → Goes n (move_all acts b, map Near acts) s
acts-go n [] b s m i = record { right = tt; fits = m }
acts-go n (a ∷ rest) b s m i =
    let g = acts-go n rest (moves a b) (sees (Near a) s) (moves-goes n a b s m i.0) i.1 in
    record { right = ((m.got, i.0), g.right); fits = g.fits }

-- the near end is another, and all else as it was
with-near : (n : List ℕ) (w : Worker.Worker) (b : Bridge) (s : Scene) → Matches n s b → Told n w.duty → Matches n s (record b { near = w })
with-near n w b s m t = record { told = t; link = m.link; read = m.read; asks = m.asks; got = m.got; low = m.low; high = m.high; next = m.next }

near-goes : (n : List ℕ) (t : Worker.Turn) (b : Bridge) (s : Scene) → Matches n s b → Works n t → Goes n (near_turn t b) s
near-goes n t b s m w = acts-go n t.1 (record b { near = t.0 }) s (with-near n t.0 b s m w.told) w.near

-- ---- the far side

far-go : (n : List ℕ) (acts : List Act) (b : Bridge) (s : Scene) → Matches n s b → AreFar acts → Goes n (b, map Far acts) s
far-go n [] b s m i = record { right = tt; fits = m }
far-go n (a ∷ rest) b s m i = let g = far-go n rest b s m i.1 in record { right = ((m.got, i.0), g.right); fits = g.fits }

with-far : (n : List ℕ) (c : Client.Client) (b : Bridge) (s : Scene) → Matches n s b → Matches n s (record b { far = c })
with-far n c b s m = record { told = m.told; link = m.link; read = m.read; asks = m.asks; got = m.got; low = m.low; high = m.high; next = m.next }

low-held : (n : List ℕ) (b : Bridge) (s : Scene) → Matches n s b → b.held ≡ None → s.answered ≤ b.read
low-held n b s m e = subst (λ (h : Option Asked). floor s.answered h ≤ b.read) e m.high

opens-goes : (n : List ℕ) (asked : Asked) (b : Bridge) (s : Scene) → Matches n s b → b.held ≡ None → IsNext s.known s.answered b.link b.read asked → Goes n (opens asked b) s
opens-goes n asked b s m none next =
    let t = Client.asks asked.handed.body b.far in
    let after : Bridge = record b { far = t.0; held = Some asked; next = None } in
    doing-goes n (Opens asked) (after, map Far t.1) s (m.got, next.among, m.asks ∙ none, next.link_is ∙ sym m.link)
    (far-go n t.1 after (sees (Opens asked) s)
    (record { told = m.told; link = m.link; read = m.read; asks = refl; got = m.got; low = next.low_is; high = next.high_is; next = tt })
    (asks-far asked.handed.body b.far))

keeps-goes : (n : List ℕ) (same : Bool) (asked : Asked) (b : Bridge) (s : Scene) → Matches n s b → IsNext s.known (floor s.answered b.held) b.link b.read asked → Goes n (keeps same asked b) s
keeps-goes n true asked b s m next = stays-goes n b s m
keeps-goes n false asked b s m next =
    stays-goes n (record b { next = Some asked }) s (record { told = m.told; link = m.link; read = m.read; asks = m.asks; got = m.got; low = m.low; high = m.high; next = next })

takes-goes : (n : List ℕ) (held next : Option Asked) (asked : Asked) (b : Bridge) (s : Scene) → b.held ≡ held → Matches n s b → IsNext s.known (floor s.answered b.held) b.link b.read asked
    → Goes n (takes held next asked b) s
takes-goes n None next asked b s e m i = opens-goes n asked b s m e (subst (λ (h : Option Asked). IsNext s.known (floor s.answered h) b.link b.read asked) e i)
takes-goes n (Some held) None asked b s e m i = keeps-goes n (held.link == b.link) asked b s m i
takes-goes n (Some held) (Some next) asked b s e m i = stays-goes n b s m

later : (known : List Asked) (low link read : ℕ) (next : Option Asked) (asked : Asked) → NextFine known low link read next → NextFine (asked ∷ known) low link (suc read) next
later known low link read None asked f = tt
later known low link read (Some x) asked f = record { among = inr f.among; low_is = f.low_is; high_is = let h = f.high_is in omega (arith, h); link_is = f.link_is }

-- a REQUEST is read
requested-goes : (n : List ℕ) (handed : Handed) (b : Bridge) (s : Scene) → Matches n s b → Goes n (requested handed b) s
requested-goes n handed b s m =
    let asked : Asked = asking handed b in
    let c : Bridge = hearing b in
    let high = m.high in
    doing-goes n (Reads asked) (takes b.held b.next asked c) s (m.got, sym m.read, sym m.link)
    (takes-goes n b.held b.next asked c (sees (Reads asked) s) refl
    (record {
      told = record { version = m.told.version; service = m.told.service };
      link = m.link;
      read = ap suc m.read;
      asks = m.asks;
      got = m.got;
      low = m.low;
      high = omega (arith, high);
      next = later s.known (floor s.answered b.held) b.link b.read b.next asked m.next;
    })
    (record { among = inl refl; low_is = high; high_is = (let h : suc b.read ≤ suc b.read = omega arith in h); link_is = refl }))

meets_as-goes : (n : List ℕ) (handed : Option Handed) (x : WireItem) (b : Bridge) (s : Scene) → request_in b.near.duty.version x ≡ handed → Matches n s b → Goes n (meets_as handed x b) s
meets_as-goes n None x b s e m = near-goes n (Worker.meets x b.near) b s m (meets-works n x b.near e m.told)
meets_as-goes n (Some handed) x b s e m = requested-goes n handed b s m

meets_all-goes : (n : List ℕ) (xs : List WireItem) (b : Bridge) (s : Scene) → Matches n s b → Goes n (meets_all xs b) s
meets_all-goes n [] b s m = stays-goes n b s m
meets_all-goes n (x ∷ xs) b s m =
    unless-goes n (meets_all xs) (ends x b) (meets x b) s (meets_as-goes n (request_in b.near.duty.version x) x b s refl m)
    (λ k fits. meets_all-goes n xs (meets x b).0 k fits)

near_happens-goes : (n : List ℕ) (e : LinkEvent) (b : Bridge) (s : Scene) → Matches n s b → Goes n (near_happens e b) s
near_happens-goes n (event.Given piece) b s m =
    meets_all-goes n (beyond b.near.stream piece) (record b { near = Worker.takes piece b.near }) s (with-near n (Worker.takes piece b.near) b s m m.told)
near_happens-goes n event.Idle b s m = near-goes n (Worker.rests b.near) b s m (rests-works n b.near m.told)
near_happens-goes n event.End b s m = near-goes n (Worker.quiets true b.near) b s m (quiets-works n true b.near m.told)

near_steps-goes : (n : List ℕ) (e : LinkEvent) (b : Bridge) (s : Scene) → Matches n s b → Goes n (near_steps e b) s
near_steps-goes n e b s m = either-goes n (is_over b) (stays b) (near_happens e b) s (stays-goes n b s m) (near_happens-goes n e b s m)

starts-goes : (n : List ℕ) (b : Bridge) (s : Scene) → Matches n s b → Goes n (starts b) s
starts-goes n b s m = near-goes n (Worker.starts b.near) b s m (starts-works n b.near m.told)

-- ---- a far answer

lowered : (known : List Asked) (low other link read : ℕ) (next : Option Asked) → other ≤ low → NextFine known low link read next → NextFine known other link read next
lowered known low other link read None less f = tt
lowered known low other link read (Some x) less f = record { among = f.among; low_is = let l = f.low_is in omega (arith, l, less); high_is = f.high_is; link_is = f.link_is }

-- the open REQUEST's number is below all that was read and above all that was answered
record Closes (n : List ℕ) (asked : Asked) (s : Scene) (b : Bridge) : Type 0 where
  told : Told n b.near.duty
  link : s.link ≡ b.link
  read : s.read ≡ b.read
  asks : s.asking ≡ None
  held : b.held ≡ None
  low : s.answered ≤ asked.number
  high : suc asked.number ≤ b.read
  next : NextFine s.known (suc asked.number) b.link b.read b.next

replies-goes : (n : List ℕ) (here : Bool) (asked : Asked) (body : List (List ℕ)) (b : Bridge) (s : Scene) → (asked.link == b.link) ≡ here → s.got ≡ due here asked body → b.held ≡ None
    → Closes n asked s b → Goes n (replies here asked body b) s
replies-goes n false asked body b s e got none c =
    let low = c.low in
    let high = c.high in
    let less : s.answered ≤ suc asked.number = omega (arith, low) in
    stays-goes n b s (record {
      told = c.told;
      link = c.link;
      read = c.read;
      asks = c.asks ∙ sym none;
      got = got;
      low = subst (λ (h : Option Asked). LowFine s.answered h) (sym none) tt;
      high = subst (λ (h : Option Asked). floor s.answered h ≤ b.read) (sym none) (let h : s.answered ≤ b.read = omega (arith, low, high) in h);
      next = subst (λ (h : Option Asked). NextFine s.known (floor s.answered h) b.link b.read b.next) (sym none)
          (lowered s.known (suc asked.number) s.answered b.link b.read b.next less c.next);
    })
replies-goes n true asked body b s e got none c =
    let k : Scene = sees (Answers asked body) s in
    let v : Bridge = serving b in
    doing-goes n (Answers asked body) (near_turn (Worker.finishing v.near) v) s (got, eqb-true asked.link b.link e ∙ sym c.link, c.low)
    (near-goes n (Worker.finishing v.near) v k
    (record {
      told = record { version = c.told.version; service = c.told.service };
      link = c.link;
      read = c.read;
      asks = c.asks ∙ sym none;
      got = refl;
      low = subst (λ (h : Option Asked). LowFine k.answered h) (sym none) tt;
      high = subst (λ (h : Option Asked). floor k.answered h ≤ b.read) (sym none) c.high;
      next = subst (λ (h : Option Asked). NextFine k.known (floor k.answered h) b.link b.read b.next) (sym none) c.next;
    })
    (finishes-works n (Worker.is_finished v.near.duty) v.near (record { version = c.told.version; service = c.told.service })))

answered-goes : (n : List ℕ) (held : Option Asked) (body : List (List ℕ)) (b : Bridge) (s : Scene) → b.held ≡ held → Matches n s b → Goes n (answered held body b) s
answered-goes n None body b s e m = stays-goes n b s m
answered-goes n (Some asked) body b s e m =
    doing-goes n (Gets asked body) (replies (asked.link == b.link) asked body (closing b)) s (m.got, m.asks ∙ e)
    (replies-goes n (asked.link == b.link) asked body (closing b) (sees (Gets asked body) s) refl (ap (λ (l : ℕ). due (asked.link == l) asked body) m.link) refl
    (record {
      told = m.told;
      link = m.link;
      read = m.read;
      asks = refl;
      held = refl;
      low = subst (λ (h : Option Asked). LowFine s.answered h) e m.low;
      high = subst (λ (h : Option Asked). floor s.answered h ≤ b.read) e m.high;
      next = subst (λ (h : Option Asked). NextFine s.known (floor s.answered h) b.link b.read b.next) e m.next;
    }))

gives_up-goes : (n : List ℕ) (b : Bridge) (s : Scene) → Matches n s b → Goes n (gives_up b) s
gives_up-goes n b s m = record {
  right = ((m.got, inr (inr (inr refl))), ((m.got, tt), tt));
  fits = record { told = record { version = m.told.version; service = m.told.service }; link = m.link; read = m.read; asks = m.asks; got = m.got; low = m.low; high = m.high; next = m.next };
}

far_act-goes : (n : List ℕ) (a : Act) (b : Bridge) (s : Scene) → Matches n s b → Goes n (far_act a b) s
far_act-goes n (act.Write text) b s m = record { right = ((m.got, tt), tt); fits = m }
far_act-goes n act.Reopen b s m = record { right = ((m.got, tt), tt); fits = m }
far_act-goes n (act.Part body) b s m = stays-goes n b s m
far_act-goes n (act.Done body) b s m = answered-goes n b.held body b s refl m
far_act-goes n act.Served b s m = stays-goes n b s m
far_act-goes n act.Finished b s m = stays-goes n b s m
far_act-goes n act.NoAnswer b s m = gives_up-goes n b s m

far_acts-goes : (n : List ℕ) (acts : List Act) (b : Bridge) (s : Scene) → Matches n s b → Goes n (far_acts acts b) s
far_acts-goes n [] b s m = stays-goes n b s m
far_acts-goes n (a ∷ rest) b s m =
    unless-goes n (far_acts rest) (is_over (far_act a b).0) (far_act a b) s (far_act-goes n a b s m) (λ k fits. far_acts-goes n rest (far_act a b).0 k fits)

opens_next-goes : (n : List ℕ) (held next : Option Asked) (b : Bridge) (s : Scene) → b.held ≡ held → b.next ≡ next → Matches n s b → Goes n (opens_next held next b) s
opens_next-goes n None None b s e f m = stays-goes n b s m
opens_next-goes n None (Some asked) b s e f m =
    let fine = subst (λ (x : Option Asked). NextFine s.known (floor s.answered b.held) b.link b.read x) f m.next in
    opens-goes n asked b s m e (subst (λ (h : Option Asked). IsNext s.known (floor s.answered h) b.link b.read asked) e fine)
opens_next-goes n (Some held) next b s e f m = stays-goes n b s m

goes_on-goes : (n : List ℕ) (b : Bridge) (s : Scene) → Matches n s b → Goes n (goes_on b) s
goes_on-goes n b s m = either-goes n (is_over b) (stays b) (opens_next b.held b.next b) s (stays-goes n b s m) (opens_next-goes n b.held b.next b s refl refl m)

far_steps-goes : (n : List ℕ) (e : LinkEvent) (b : Bridge) (s : Scene) → Matches n s b → Goes n (far_steps e b) s
far_steps-goes n e b s m =
    let t = Client.steps e b.far in
    let c : Bridge = record b { far = t.0 } in
    either-goes n (is_over b) (stays b) (far_turn t b) s (stays-goes n b s m)
    (follows-goes n goes_on (far_acts t.1 c) s (far_acts-goes n t.1 c s (with-far n t.0 b s m)) (λ k fits. goes_on-goes n (far_acts t.1 c).0 k fits))

-- ---- calls

call-goes : (n : List ℕ) (call : Call) (b : Bridge) (s : Scene) → Matches n s b → Goes n (turn_of call b) s
call-goes n Started b s m = starts-goes n b s m
call-goes n (NearGave e) b s m = near_steps-goes n e b s m
call-goes n (FarGave e) b s m = far_steps-goes n e b s m

abbrev Kept : List ℕ → List Doing → Scene → Type 0
Kept n ds s = Right n ds s × ((seen sees ds s).got ≡ None)

calls-go : (n : List ℕ) (calls : List Call) (b : Bridge) (s : Scene) → Matches n s b → Kept n (doings calls b) s
calls-go n [] b s m = (tt, m.got)
calls-go n (call ∷ calls) b s m =
    let t = turn_of call b in
    let g = call-goes n call b s m in
    let k = calls-go n calls t.0 (seen sees t.1 s) g.fits in
    (right-append n t.1 (doings calls t.0) s g.right k.0, ap (λ (z : Scene). z.got) (seen-append t.1 (doings calls t.0) s) ∙ k.1)

pub runs-are-right : (service remote : List ℕ) (tries wait count : ℕ) (calls : List Call) → Kept service (doings calls (fresh service remote tries wait count)) nothing
runs-are-right service remote tries wait count calls =
    calls-go service calls (fresh service remote tries wait count) nothing
    (record { told = record { version = refl; service = refl }; link = refl; read = refl; asks = refl; got = refl; low = tt; high = (let h : 0 ≤ 0 = omega arith in h); next = tt })
