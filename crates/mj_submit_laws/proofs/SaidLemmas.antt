-- What a client's end says while it is asked one question: how a link begins, and the question's message.
use Rattle.std.proofs.Common.{◌≡◌, ℕ, Bool, true, false, List, [], ◌∷◌, ◌++◌, refl, ap, ◌∙◌, cond, Option, None, Some, inl, inr}
use Rattle.std.specs.Prelude.{nat_lt, ◌-◌, ◌+◌, ⊤}
use Rattle.mj_base.specs.declared.link.LinkEvent.{LinkEvent}
use Rattle.mj_base.specs.declared.link.LinkEvent.TheVariants as event
use Rattle.mj_base.specs.declared.version.Version.{Version}
use Rattle.mj_base.specs.declared.version.Version.TheVariants.{One}
use Rattle.mj_client_cmd.specs.declared.command.ClientReply.{ClientReply}
use Rattle.mj_peer.specs.ClientEndRules.{Client, Turn, answers, asked, asks, begins, counted, fresh, follows, happens, hears, is_its, meets, opened, quiets, reopens, request_acts, steps, verdict}
use Rattle.mj_peer.specs.PeerTexts.{client_type, hello, reply_in, request_text}
use Rattle.mj_peer.specs.Sweeping.{behind, beyond, ends, is_ready, sweep}
use Rattle.mj_peer.specs.declared.act.Act.{Act}
use Rattle.mj_peer.specs.declared.act.Act.TheVariants as act
use Rattle.mj_peer.specs.declared.talk.Talk.{Talk}
use Rattle.mj_peer.specs.declared.verdict.Verdict.TheVariants.{Again, Lost, Stay}
use Rattle.mj_submit.specs.SubmitRules.{Question, body_of, service_of}
use Rattle.mj_submit_laws.specs.SubmitSights.{IsWritten}
use Rattle.mj_wire.specs.declared.item.WireItem.{WireItem}
use Rattle.mj_wire.specs.declared.item.WireItem.TheVariants as item

abbrev pub Said : Question → Act → Type 0
Said q a = IsWritten a (Some q)

abbrev pub AllSaid : Question → List Act → Type 0
AllSaid q [] = ⊤
AllSaid q (a ∷ rest) = Said q a × AllSaid q rest

abbrev pub IsAsked : Question → Option (List (List ℕ)) → Type 0
IsAsked q None = ⊤
IsAsked q (Some body) = body ≡ body_of q

-- an end that is asked this
pub record IsOf (q : Question) (t : Talk) : Type 0 where
  pub version : t.version ≡ One
  pub service : t.service ≡ service_of q
  pub request : IsAsked q t.request

pub record Says (q : Question) (t : Turn) : Type 0 where
  pub said : AllSaid q t.1
  pub of : IsOf q t.0.talk

said-append : (q : Question) (xs ys : List Act) → AllSaid q xs → AllSaid q ys → AllSaid q (xs ++ ys)
said-append q [] ys a b = b
said-append q (x ∷ xs) ys a b = (a.0, said-append q xs ys a.1 b)

silent : (q : Question) (c : Client) → IsOf q c.talk → Says q (c, [])
silent q c i = record { said = tt; of = i }

greets-says : (q : Question) (v : Version) → v ≡ One → Said q (act.Write (hello (client_type v)))
greets-says q v e = inl (ap (λ (x : Version). hello (client_type x)) e)

again-says : (q : Question) (c : Client) → IsOf q c.talk → Says q (reopens c)
again-says q c i = record {
  said = (tt, (greets-says q c.talk.version i.version, tt));
  of = record { version = i.version; service = i.service; request = i.request };
}

-- ---- quiet events

quiets-says : (q : Question) (ended : Bool) (c : Client) → IsOf q c.talk → Says q (quiets ended c)
quiets-says q ended c i = of c.talk.request
  where
    wait : (e : Bool) (t : Talk) → IsOf q t → Says q (follows (cond e Again Stay) (record c { talk = t }))
    wait true t k = again-says q (record c { talk = t }) k
    wait false t k = silent q (record c { talk = t }) k

    counts : (few more : Bool)
        → Says q (follows (cond few (cond ended Again Stay) (cond more Again Lost)) (record c { talk = cond few (record c.talk { quiet = c.talk.quiet + 1 }) (cond more (record c.talk { tried = c.talk.tried + 1; quiet = 0 }) (record c.talk { over = true; request = None })) }))
    counts true more = wait ended (record c.talk { quiet = c.talk.quiet + 1 }) (record { version = i.version; service = i.service; request = i.request })
    counts false true =
        again-says q (record c { talk = record c.talk { tried = c.talk.tried + 1; quiet = 0 } }) (record { version = i.version; service = i.service; request = i.request })
    counts false false = record { said = (tt, tt); of = record { version = i.version; service = i.service; request = tt } }

    of : (request : Option (List (List ℕ))) → Says q (follows (verdict ended request c.talk) (record c { talk = counted request c.talk }))
    of None = wait ended c.talk i
    of (Some body) = counts (nat_lt c.talk.quiet (c.talk.wait - 1)) (nat_lt c.talk.tried (c.talk.tries - 1))

-- ---- what the broker says

request-says : (q : Question) (t : Talk) → IsOf q t → AllSaid q (request_acts t.request t)
request-says q t i = of t.request i.request
  where
    of : (request : Option (List (List ℕ))) → IsAsked q request → AllSaid q (request_acts request t)
    of None e = tt
    of (Some body) e =
        (inr (ap (λ (v : Version). request_text v t.service body) i.version ∙ ap (λ (s : List ℕ). request_text One s body) i.service ∙ ap (λ (b : List (List ℕ)). request_text One (service_of q) b) e), tt)

answers-says : (q : Question) (final : Bool) (body : List (List ℕ)) (c : Client) → IsOf q c.talk → Says q (answers final body c)
answers-says q true body c i = record { said = (tt, tt); of = record { version = i.version; service = i.service; request = tt } }
answers-says q false body c i = record { said = (tt, tt); of = i }

hears-says : (q : Question) (found : Option ClientReply) (c : Client) → IsOf q c.talk → Says q (hears found c)
hears-says q None c i = silent q c i
hears-says q (Some r) c i = by (is_its c.talk r)
  where
    by : (b : Bool) → Says q (cond {A = Turn} b (answers r.last r.body c) (c, []))
    by true = answers-says q r.last r.body c i
    by false = silent q c i

meets-says : (q : Question) (x : WireItem) (c : Client) → IsOf q c.talk → Says q (meets x c)
meets-says q item.Accepted c i = silent q c i
meets-says q (item.Ready kind) c i = record { said = request-says q c.talk i; of = i }
meets-says q (item.Message message) c i = hears-says q (reply_in message) c i
meets-says q (item.Ended reason at) c i = quiets-says q true c i

behind-says : (q : Question) (more : Client → Turn) (b : Bool) (t : Turn) → Says q t → ((c : Client) → IsOf q c.talk → Says q (more c)) → Says q (behind more b t)
behind-says q more true t s h = s
behind-says q more false t s h = let g = h t.0 s.of in record { said = said-append q t.1 (more t.0).1 s.said g.said; of = g.of }

sweeps-says : (q : Question) (xs : List WireItem) (c : Client) → IsOf q c.talk → Says q (sweep meets xs c)
sweeps-says q [] c i = silent q c i
sweeps-says q (x ∷ xs) c i = behind-says q (sweep meets xs) (ends (meets x c)) (meets x c) (meets-says q x c i) (λ d j. sweeps-says q xs d j)

-- ---- calls

happens-says : (q : Question) (e : LinkEvent) (c : Client) → IsOf q c.talk → Says q (happens e c)
happens-says q (event.Given piece) c i = sweeps-says q (beyond c.stream piece) (record c { stream = c.stream ++ piece }) i
happens-says q event.Idle c i = quiets-says q false c i
happens-says q event.End c i = quiets-says q true c i

pub steps-says : (q : Question) (e : LinkEvent) (c : Client) → IsOf q c.talk → Says q (steps e c)
steps-says q e c i = by c.talk.over
  where
    by : (b : Bool) → Says q (cond {A = Turn} b (c, []) (happens e c))
    by true = silent q c i
    by false = happens-says q e c i

opened-says : (q : Question) (b : Bool) (t : Talk) → IsOf q t → AllSaid q (opened b t)
opened-says q true t i = request-says q t i
opened-says q false t i = tt

-- a new end is asked this
pub asks-says : (q : Question) (tries wait : ℕ) → Says q (asks (body_of q) (fresh One (service_of q) tries wait))
asks-says q tries wait =
    let c = fresh One (service_of q) tries wait in
    let i : IsOf q (asked (body_of q) c.talk) = record { version = refl; service = refl; request = refl } in
    record {
      said = said-append q (begins false One) (opened (is_ready []) (asked (body_of q) c.talk)) (greets-says q One refl, tt) (opened-says q (is_ready []) (asked (body_of q) c.talk) i);
      of = i;
    }
