-- A run of a client, call by call.
use Rattle.std.proofs.Common.{◌≡◌, ℕ, ◌+◌, ◌-◌, ◌^◌, min, true, false, List, [], ◌∷◌, ◌++◌, length, take, refl, sym, ap, subst, ◌∙◌, append_assoc, append-nil, inl, inr, Option, is_some, arith, length-append}
use Rattle.std.proofs.lemmas.List.{map-append}
use Rattle.mj_base.specs.declared.link.LinkEntry.{LinkEntry}
use Rattle.mj_base.specs.declared.link.LinkEvent.{LinkEvent}
use Rattle.mj_peer.specs.ClientEndRules.{Asked, Call, Client, Met, after, turn_of}
use Rattle.mj_peer.specs.ClientStands.{Stands}
use Rattle.mj_peer.specs.declared.session.Session.{Session}
use Rattle.mj_peer.specs.declared.talk.Talk.{Talk}
use Rattle.mj_peering.specs.ClientRun.{AreInTurn, BrokeOff, Halted, IsCut, IsCutBy, IsNext, IsPart, IsWhole, Played, Turned, bodies, bodies_of, framed, round_of, rounds}
use Rattle.mj_peering.specs.Performing.{AreDone, ArePartly, Counts, Moves, PerformCause, Places, Round, entries, lines, printed, tale}
use Rattle.mj_peering.specs.Requests.{ReadCause, Uses}
use Rattle.mj_peering.specs.declared.stop.Stop.{Stop}
use Rattle.mj_peering.specs.declared.stop.Stop.TheVariants as stops
use Rattle.mj_peering.proofs.PlaceLemmas.{moves-more, moves-none}
use Rattle.mj_peering.proofs.RequestLemmas.{uses-more, uses-none}

tale-append : (xs ys : List Round) → tale (xs ++ ys) ≡ tale xs ++ tale ys
tale-append [] ys = refl
tale-append (x ∷ xs) ys = ap (λ (l : List LinkEntry). (x.read ++ entries x.acts) ++ l) (tale-append xs ys) ∙ sym (append_assoc (x.read ++ entries x.acts) (tale xs) (tale ys))

printed-append : (xs ys : List Round) → printed (xs ++ ys) ≡ printed xs ++ printed ys
printed-append [] ys = refl
printed-append (x ∷ xs) ys = ap (λ (l : List ℕ). lines x.acts ++ l) (printed-append xs ys) ∙ sym (append_assoc (lines x.acts) (printed xs) (printed ys))

-- rounds behind rounds
pub done-more : (old mid now : Places) (xs ys : List Round) → AreDone old mid xs → AreDone mid now ys → AreDone old now (xs ++ ys)
done-more old mid now xs ys a b =
    let both = moves-more old mid now (tale xs) (tale ys) (printed xs) (printed ys) a b in
    subst (λ (l : List ℕ). Moves old now (tale (xs ++ ys)) l) (sym (printed-append xs ys)) (subst (λ (l : List LinkEntry). Moves old now l (printed xs ++ printed ys)) (sym (tale-append xs ys)) both)

pub partly-more : (old mid now : Places) (xs : List Round) (last : Round) → AreDone old mid xs → ArePartly mid now [] last → ArePartly old now xs last
partly-more old mid now xs last a b = record {
  done = b.done;
  rest = b.rest;
  whole = b.whole;
  n = b.n;
  moved = moves-more old mid now (tale xs) (last.read ++ entries b.done) (printed xs) (lines b.done ++ take b.n (lines (take 1 b.rest))) a b.moved;
}

after-more : (calls : List Call) (call : Call) (first : Client) → after (calls ++ call ∷ []) first ≡ (turn_of call (after calls first)).0
after-more [] call first = refl
after-more (x ∷ calls) call first = after-more calls call (turn_of x first).0

rounds-more : (calls : List Call) (call : Call) (first : Client) → rounds (calls ++ call ∷ []) first ≡ rounds calls first ++ round_of call (after calls first) ∷ []
rounds-more [] call first = refl
rounds-more (x ∷ calls) call first = ap (λ (l : List Round). round_of x first ∷ l) (rounds-more calls call (turn_of x first).0)

in-turn-more : (calls : List Call) (call : Call) (first : Client) → AreInTurn calls first → IsNext call (after calls first) → AreInTurn (calls ++ call ∷ []) first
in-turn-more [] call first a n = (n, tt)
in-turn-more (x ∷ calls) call first a n = (a.0, in-turn-more calls call (turn_of x first).0 a.1 n)

bodies-more : (calls : List Call) (call : Call) → bodies (calls ++ call ∷ []) ≡ bodies calls ++ bodies_of call
bodies-more [] call = append-nil (bodies_of call)
bodies-more (x ∷ calls) call = ap (λ (l : List (List (List ℕ))). bodies_of x ++ l) (bodies-more calls call) ∙ sym (append_assoc (bodies_of x) (bodies calls) (bodies_of call))

asked-more : (calls : List Call) (call : Call) (texts more : List (List ℕ)) → bodies calls ≡ framed texts → bodies_of call ≡ framed more → bodies calls ++ bodies_of call ≡ framed (texts ++ more)
asked-more calls call texts more a b =
    ap (λ (l : List (List (List ℕ))). l ++ bodies_of call) a ∙ ap (λ (l : List (List (List ℕ))). framed texts ++ l) b ∙ sym (map-append (λ text. text ∷ []) texts more)

played-call : (first : Client) (old mid now : Places) (input left rest : Option (List (List ℕ))) (e now_e : Session) (n m : ℕ) (call : Call) (more : List (List ℕ))
    → (p : Played first old mid input left e n) → IsNext call (after p.calls first) → bodies_of call ≡ framed more → Uses left rest more → Turned e now_e mid now call
    → m ≡ min (length (p.texts ++ more)) (2 ^ 64 - 1) → Played first old now input rest now_e m
played-call first old mid now input left rest e now_e n m call more p next body used t count =
    let turn = t (after p.calls first) p.stands in
    record {
      calls = p.calls ++ call ∷ [];
      in_turn = in-turn-more p.calls call first p.in_turn next;
      stands = subst (λ (c : Client). Stands now_e c) (sym (after-more p.calls call first)) turn.0;
      texts = p.texts ++ more;
      asked = bodies-more p.calls call ∙ asked-more p.calls call p.texts more p.asked body;
      counted = count;
      used = uses-more input left rest p.texts more p.used used;
      done = subst (λ (l : List Round). AreDone old now l) (sym (rounds-more p.calls call first))
          (done-more old mid now (rounds p.calls first) (round_of call (after p.calls first) ∷ []) p.done turn.1);
    }

-- the end's talk is that of the client behind the calls
over-of : (first : Client) (calls : List Call) (e : Session) (b : _) → Stands e (after calls first) → e.talk.over ≡ b → (after calls first).talk.over ≡ b
over-of first calls e b s o = ap (λ (t : Talk). t.over) (sym s.talk) ∙ o

open-of : (first : Client) (calls : List Call) (e : Session) (b : _) → Stands e (after calls first) → is_some e.talk.request ≡ b → is_some (after calls first).talk.request ≡ b
open-of first calls e b s o = ap (λ (t : Talk). is_some t.request) (sym s.talk) ∙ o

pub played-met : (first : Client) (old mid now : Places) (input left : Option (List (List ℕ))) (e now_e : Session) (n : ℕ) (event : LinkEvent)
    → e.talk.over ≡ false → is_some e.talk.request ≡ true → Turned e now_e mid now (Met event) → Played first old mid input left e n → Played first old now input left now_e n
played-met first old mid now input left e now_e n event over asks t p =
    played-call first old mid now input left left e now_e n n (Met event) [] p (over-of first p.calls e false p.stands over, open-of first p.calls e true p.stands asks) refl (uses-none left) t
    (p.counted ∙ ap (λ (l : List (List ℕ)). min (length l) (2 ^ 64 - 1)) (sym (append-nil p.texts)))

one-more : (n m : ℕ) (texts : List (List ℕ)) (text : List ℕ) → n ≡ min (length texts) (2 ^ 64 - 1) → m ≡ min (n + 1) (2 ^ 64 - 1) → m ≡ min (length (texts ++ text ∷ [])) (2 ^ 64 - 1)
one-more n m texts text a b = let l : length (texts ++ text ∷ []) ≡ length texts + 1 = length-append texts (text ∷ []) in omega (arith, a, b, l)

pub played-asked : (first : Client) (old mid now : Places) (input left rest : Option (List (List ℕ))) (e now_e : Session) (n m : ℕ) (text : List ℕ)
    → e.talk.over ≡ false → is_some e.talk.request ≡ false → Uses left rest (text ∷ []) → m ≡ min (n + 1) (2 ^ 64 - 1) → Turned e now_e mid now (Asked (text ∷ [])) → Played first old mid input left e n
    → Played first old now input rest now_e m
played-asked first old mid now input left rest e now_e n m text over closed used count t p =
    played-call first old mid now input left rest e now_e n m (Asked (text ∷ [])) (text ∷ []) p (over-of first p.calls e false p.stands over, open-of first p.calls e false p.stands closed) refl used t
    (one-more n m p.texts text p.counted count)

-- nothing more was read of the input, and nothing else done
pub played-rest : (first : Client) (old now : Places) (input left rest : Option (List (List ℕ))) (e : Session) (n : ℕ) → Uses left rest [] → Played first old now input left e n → Played first old now input rest e n
played-rest first old now input left rest e n used p = record {
  calls = p.calls;
  in_turn = p.in_turn;
  stands = p.stands;
  texts = p.texts;
  asked = p.asked;
  counted = p.counted;
  used = subst (λ (l : List (List ℕ)). Uses input rest l) (append-nil p.texts) (uses-more input left rest p.texts [] p.used used);
  done = p.done;
}

pub played-start : (first : Client) (old : Places) (input : Option (List (List ℕ))) (e : Session) → Stands e first → Played first old old input input e 0
played-start first old input e s = record { calls = []; in_turn = tt; stands = s; texts = []; asked = refl; counted = refl; used = uses-none input; done = moves-none old }

-- ---- where it broke off

whole : (first : Client) (old mid now : Places) (input left : Option (List (List ℕ))) (e : Session) (n : ℕ) → Moves mid now [] [] → (p : Played first old mid input left e n) → IsWhole first old now p.calls p.texts
whole first old mid now input left e n still p =
    (p.asked, subst (λ (l : List Round). AreDone old now l) (append-nil (rounds p.calls first)) (done-more old mid now (rounds p.calls first) [] p.done still))

met-part : (first : Client) (old mid now : Places) (input left : Option (List (List ℕ))) (e : Session) (n : ℕ) (event : LinkEvent)
    → e.talk.over ≡ false → is_some e.talk.request ≡ true → IsCut e mid now (Met event) → (p : Played first old mid input left e n) → IsPart first old now p.calls p.texts
met-part first old mid now input left e n event over asks c p = (
  Met event,
  (over-of first p.calls e false p.stands over, open-of first p.calls e true p.stands asks),
  append-nil (bodies p.calls) ∙ p.asked,
  partly-more old mid now (rounds p.calls first) (round_of (Met event) (after p.calls first)) p.done (c (after p.calls first) p.stands),
)

halts : (stop : Stop) (first : Client) (old mid now : Places) (input left : Option (List (List ℕ))) (e : Session) (n : ℕ) → (p : Played first old mid input left e n) → IsCutBy stop first old now p.calls p.texts
    → Halted stop first old now input
halts stop first old mid now input left e n p cut = record { calls = p.calls; in_turn = p.in_turn; texts = p.texts; left = left; used = p.used; cut = cut }

-- in a meeting
pub halted-met : (stop : Stop) (first : Client) (old mid now : Places) (input left : Option (List (List ℕ))) (e : Session) (n : ℕ)
    → e.talk.over ≡ false → is_some e.talk.request ≡ true → BrokeOff stop e mid now → Played first old mid input left e n → Halted stop first old now input
halted-met stops.NoMemory first old mid now input left e n over asks (inl still) p = halts stops.NoMemory first old mid now input left e n p (inl (whole first old mid now input left e n still p))
halted-met stops.NoMemory first old mid now input left e n over asks (inr (event, c)) p = halts stops.NoMemory first old mid now input left e n p (inr (met-part first old mid now input left e n event over asks c p))
halted-met stops.Read first old mid now input left e n over asks still p = halts stops.Read first old mid now input left e n p (whole first old mid now input left e n still p)
halted-met stops.Write first old mid now input left e n over asks (event, c) p = halts stops.Write first old mid now input left e n p (met-part first old mid now input left e n event over asks c p)

-- at the input
pub halted-input : (stop : Stop) (first : Client) (old now : Places) (input left : Option (List (List ℕ))) (e : Session) (n before after : ℕ)
    → ReadCause stop before after → Played first old now input left e n → Halted stop first old now input
halted-input stops.NoMemory first old now input left e n before after cause p = halts stops.NoMemory first old now now input left e n p (inl (p.asked, p.done))
halted-input stops.Read first old now input left e n before after cause p = halts stops.Read first old now now input left e n p (p.asked, p.done)
halted-input stops.Write first old now input left e n before after cause p = absurd cause

asked-part : (first : Client) (old mid now : Places) (input left : Option (List (List ℕ))) (e : Session) (n : ℕ) (text : List ℕ) → e.talk.over ≡ false → is_some e.talk.request ≡ false
    → IsCut e mid now (Asked (text ∷ [])) → (p : Played first old mid input left e n) → IsPart first old now p.calls (p.texts ++ text ∷ [])
asked-part first old mid now input left e n text over closed c p = (
  Asked (text ∷ []),
  (over-of first p.calls e false p.stands over, open-of first p.calls e false p.stands closed),
  asked-more p.calls (Asked (text ∷ [])) p.texts (text ∷ []) p.asked refl,
  partly-more old mid now (rounds p.calls first) (round_of (Asked (text ∷ [])) (after p.calls first)) p.done (c (after p.calls first) p.stands),
)

-- in asking
pub halted-asked : (stop : Stop) (first : Client) (old mid now : Places) (input left rest : Option (List (List ℕ))) (e : Session) (n : ℕ) (text : List ℕ) (before after : Counts)
    → e.talk.over ≡ false → is_some e.talk.request ≡ false → Uses left rest (text ∷ []) → IsCut e mid now (Asked (text ∷ [])) → PerformCause stop before after → Played first old mid input left e n
    → Halted stop first old now input
halted-asked stop first old mid now input left rest e n text before after over closed used c cause p = record {
  calls = p.calls;
  in_turn = p.in_turn;
  texts = p.texts ++ text ∷ [];
  left = rest;
  used = uses-more input left rest p.texts (text ∷ []) p.used used;
  cut = of stop cause;
}
  where
    of : (stop : Stop) → PerformCause stop before after → IsCutBy stop first old now p.calls (p.texts ++ text ∷ [])
    of stops.NoMemory k = inr (asked-part first old mid now input left e n text over closed c p)
    of stops.Read k = absurd k
    of stops.Write k = asked-part first old mid now input left e n text over closed c p
