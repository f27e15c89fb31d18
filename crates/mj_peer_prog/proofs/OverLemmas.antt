-- A client's end is over exactly behind the act `NoAnswer`.
use Rattle.std.proofs.Common.{◌≡◌, ℕ, ◌-◌, nat_lt, ◌+◌, Bool, true, false, ◌||◌, List, [], ◌∷◌, ◌++◌, Option, None, Some, refl, sym, ap, subst, ◌∙◌, cond}
use Rattle.std.specs.List.{list_any}
use Rattle.mj_base.specs.declared.link.LinkEvent.{LinkEvent}
use Rattle.mj_base.specs.declared.link.LinkEvent.TheVariants as event
use Rattle.mj_client_cmd.specs.declared.command.ClientReply.{ClientReply}
use Rattle.mj_peer.specs.ClientEndRules.{Asked, Call, Client, Met, Turn, acts_of, after, answers, asked, begins, counted, follows, happens, hears, is_its, meets, opened, opens, request_acts, turn_of, verdict}
use Rattle.mj_peer.specs.PeerTexts.{reply_in}
use Rattle.mj_peer.specs.Sweeping.{behind, beyond, ends, is_end, is_ready, sweep}
use Rattle.mj_peer.specs.declared.act.Act.{Act}
use Rattle.mj_peer.specs.declared.act.Act.TheVariants as act
use Rattle.mj_peer.specs.declared.talk.Talk.{Talk}
use Rattle.mj_peer.specs.declared.verdict.Verdict.TheVariants.{Stay, Again, Lost}
use Rattle.mj_wire.specs.declared.item.WireItem.{WireItem}
use Rattle.mj_wire.specs.declared.item.WireItem.TheVariants as item
use Rattle.mj_peer_prog.specs.PeerRuns.{gives_up}

-- a turn that ended is one of these
abbrev Says : Turn → Type 0
Says t = t.0.talk.over ≡ gives_up t.1

any-append : (xs ys : List Act) → gives_up (xs ++ ys) ≡ (gives_up xs || gives_up ys)
any-append [] ys = refl
any-append (act.Write text ∷ xs) ys = any-append xs ys
any-append (act.Reopen ∷ xs) ys = any-append xs ys
any-append (act.Part body ∷ xs) ys = any-append xs ys
any-append (act.Done body ∷ xs) ys = any-append xs ys
any-append (act.Served ∷ xs) ys = any-append xs ys
any-append (act.Finished ∷ xs) ys = any-append xs ys
any-append (act.NoAnswer ∷ xs) ys = refl

-- acts that end nothing give nothing up
no-end : (xs : List Act) → list_any is_end xs ≡ false → gives_up xs ≡ false
no-end [] e = refl
no-end (act.Write text ∷ xs) e = no-end xs e
no-end (act.Reopen ∷ xs) e = cc
no-end (act.Part body ∷ xs) e = no-end xs e
no-end (act.Done body ∷ xs) e = no-end xs e
no-end (act.Served ∷ xs) e = no-end xs e
no-end (act.Finished ∷ xs) e = cc
no-end (act.NoAnswer ∷ xs) e = cc

-- ---- turns

open-says : (few more ended : Bool) (c : Client) → c.talk.over ≡ false
    → Says (follows (cond few (cond ended Again Stay) (cond more Again Lost))
    (record c { talk = cond few (record c.talk { quiet = c.talk.quiet + 1 }) (cond more (record c.talk { tried = c.talk.tried + 1; quiet = 0 }) (record c.talk { over = true; request = None })) }))
open-says true more true c o = o
open-says true more false c o = o
open-says false true ended c o = o
open-says false false ended c o = refl

quiets-says : (ended : Bool) (c : Client) (request : Option (List (List ℕ))) → c.talk.over ≡ false → Says (follows (verdict ended request c.talk) (record c { talk = counted request c.talk }))
quiets-says true c None o = o
quiets-says false c None o = o
quiets-says ended c (Some body) o = open-says (nat_lt c.talk.quiet (c.talk.wait - 1)) (nat_lt c.talk.tried (c.talk.tries - 1)) ended c o

writes-nothing : (request : Option (List (List ℕ))) (t : Talk) → gives_up (request_acts request t) ≡ false
writes-nothing None t = refl
writes-nothing (Some body) t = refl

answers-says : (last : Bool) (body : List (List ℕ)) (c : Client) → c.talk.over ≡ false → Says (answers last body c)
answers-says true body c o = o
answers-says false body c o = o

its-says : (its : Bool) (r : ClientReply) (c : Client) → c.talk.over ≡ false → Says (cond its (answers r.last r.body c) (c, []))
its-says true r c o = answers-says r.last r.body c o
its-says false r c o = o

hears-says : (found : Option ClientReply) (c : Client) → c.talk.over ≡ false → Says (hears found c)
hears-says None c o = o
hears-says (Some r) c o = its-says (is_its c.talk r) r c o

meets-says : (x : WireItem) (c : Client) → c.talk.over ≡ false → Says (meets x c)
meets-says item.Accepted c o = o
meets-says (item.Ready kind) c o = o ∙ sym (writes-nothing c.talk.request c.talk)
meets-says (item.Message message) c o = hears-says (reply_in message) c o
meets-says (item.Ended reason at) c o = quiets-says true c c.talk.request o

behind-says : (ended : Bool) (t : Turn) (more : Client → Turn) → Says t → ends t ≡ ended → (t.0.talk.over ≡ false → Says (more t.0)) → Says (behind more ended t)
behind-says true t more s e f = s
behind-says false t more s e f =
    let none = no-end t.1 e in
    f (s ∙ none) ∙ sym (any-append t.1 (more t.0).1 ∙ ap (λ (b : Bool). b || gives_up (more t.0).1) none)

sweep-says : (xs : List WireItem) (c : Client) → c.talk.over ≡ false → Says (sweep meets xs c)
sweep-says [] c o = o
sweep-says (x ∷ xs) c o = behind-says (ends (meets x c)) (meets x c) (sweep meets xs) (meets-says x c o) refl (λ on. sweep-says xs (meets x c).0 on)

happens-says : (e : LinkEvent) (c : Client) → c.talk.over ≡ false → Says (happens e c)
happens-says (event.Given piece) c o = sweep-says (beyond c.stream piece) (record c { stream = c.stream ++ piece }) o
happens-says event.Idle c o = quiets-says false c c.talk.request o
happens-says event.End c o = quiets-says true c c.talk.request o

begins-nothing : (linked : Bool) (c : Client) → gives_up (begins linked c.talk.version) ≡ false
begins-nothing true c = refl
begins-nothing false c = refl

opened-nothing : (ready : Bool) (t : Talk) → gives_up (opened ready t) ≡ false
opened-nothing true t = writes-nothing t.request t
opened-nothing false t = refl

opens-says : (body : List (List ℕ)) (c : Client) → c.talk.over ≡ false → Says (opens body c)
opens-says body c o =
    let t = asked body c.talk in
    o ∙ sym (any-append (begins c.talk.linked c.talk.version) (opened (is_ready c.stream) t) ∙ ap (λ (b : Bool). b || gives_up (opened (is_ready c.stream) t)) (begins-nothing c.talk.linked c) ∙ opened-nothing (is_ready c.stream) t)

-- one call of an end that isn't over
call-says : (call : Call) (c : Client) → c.talk.over ≡ false → Says (turn_of call c)
call-says (Met e) c o = subst (λ (b : Bool). Says (cond {A = Turn} b (c, []) (happens e c))) (sym o) (happens-says e c o)
call-says (Asked body) c o = subst (λ (b : Bool). Says (cond {A = Turn} b (c, []) (opens body c))) (sym o) (opens-says body c o)

-- and of one that is
over-call : (call : Call) (c : Client) → c.talk.over ≡ true → turn_of call c ≡ (c, [])
over-call (Met e) c o = ap (λ (b : Bool). cond {A = Turn} b (c, []) (happens e c)) o
over-call (Asked body) c o = ap (λ (b : Bool). cond {A = Turn} b (c, []) (opens body c)) o

over-stays : (calls : List Call) (c : Client) → c.talk.over ≡ true → (after calls c ≡ c) × (acts_of calls c ≡ [])
over-stays [] c o = (refl, refl)
over-stays (call ∷ calls) c o =
    let t = over-call call c o in
    let rest = over-stays calls c o in
    (ap (λ (u : Turn). after calls u.0) t ∙ rest.0, ap (λ (u : Turn). u.1 ++ acts_of calls u.0) t ∙ rest.1)

calls-say : (over : Bool) (call : Call) (calls : List Call) (c : Client) → Says (turn_of call c) → (turn_of call c).0.talk.over ≡ over
    → ((turn_of call c).0.talk.over ≡ false → (after calls (turn_of call c).0).talk.over ≡ gives_up (acts_of calls (turn_of call c).0))
    → (after calls (turn_of call c).0).talk.over ≡ gives_up ((turn_of call c).1 ++ acts_of calls (turn_of call c).0)
calls-say true call calls c s o f =
    let t = turn_of call c in
    let rest = over-stays calls t.0 o in
    ap (λ (d : Client). d.talk.over) rest.0 ∙ o ∙ sym (any-append t.1 (acts_of calls t.0) ∙ ap (λ (b : Bool). b || gives_up (acts_of calls t.0)) (sym s ∙ o))
calls-say false call calls c s o f =
    let t = turn_of call c in
    f o ∙ sym (any-append t.1 (acts_of calls t.0) ∙ ap (λ (b : Bool). b || gives_up (acts_of calls t.0)) (sym s ∙ o))

-- behind any calls
pub over-says : (calls : List Call) (c : Client) → c.talk.over ≡ false → (after calls c).talk.over ≡ gives_up (acts_of calls c)
over-says [] c o = o
over-says (call ∷ calls) c o = calls-say (turn_of call c).0.talk.over call calls c (call-says call c o) refl (λ on. over-says calls (turn_of call c).0 on)
