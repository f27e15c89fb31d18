-- A call of a client's end, whole or in part.
use Rattle.std.proofs.Common.{◌≡◌, ℕ, List, [], ◌∷◌, ◌++◌, take, refl, sym, subst, append-nil, inl, inr, Result, Ok, Err, OnErr, IfErr}
use Rattle.mj_base.specs.declared.link.LinkEntry.{LinkEntry}
use Rattle.mj_base.specs.declared.link.LinkEvent.{LinkEvent}
use Rattle.mj_peer.specs.ClientEndRules.{Call, Met, turn_of}
use Rattle.mj_peer.specs.ClientStands.{Follows}
use Rattle.mj_peer.specs.declared.act.Act.{Act}
use Rattle.mj_peer.specs.declared.session.Session.{Session}
use Rattle.mj_peering.specs.ClientRun.{BrokeOff, IsCut, Turned, read_of, round_of}
use Rattle.mj_peering.specs.Performing.{AreDone, ArePartly, Breaks, Counts, Moves, PerformCause, Performs, Places, Round, entries, entry_of, lines, tale}
use Rattle.mj_peering.specs.Requests.{ReadCause}
use Rattle.mj_peering.specs.declared.stop.Stop.{Stop}
use Rattle.mj_peering.specs.declared.stop.Stop.TheVariants as stops
use Rattle.mj_peering.proofs.PlaceLemmas.{moves-more, moves-none}

-- a round: what was read, and then its acts
pub round-done : (old mid now : Places) (round : Round) → Moves old mid round.read [] → Performs mid now round.acts → AreDone old now (round ∷ [])
round-done old mid now round r p =
    let both = moves-more old mid now round.read (entries round.acts) [] (lines round.acts) r p in
    subst (λ (l : List ℕ). Moves old now (tale (round ∷ [])) l) (sym (append-nil (lines round.acts)))
    (subst (λ (l : List LinkEntry). Moves old now l (lines round.acts)) (sym (append-nil (round.read ++ entries round.acts))) both)

pub round-cut : (old mid now : Places) (round : Round) → Moves old mid round.read [] → Breaks mid now round.acts → ArePartly old now [] round
round-cut old mid now round r b = record {
  done = b.done;
  rest = b.rest;
  whole = b.whole;
  n = b.n;
  moved = moves-more old mid now round.read (entries b.done) [] (lines b.done ++ take b.n (lines (take 1 b.rest))) r b.moved;
}

-- the end gave the call's acts, and they were done
pub turned : (e now_e : Session) (acts : List Act) (call : Call) (old mid now : Places) → Follows e now_e [] acts (turn_of call) → Moves old mid (read_of call) [] → Performs mid now acts → Turned e now_e old now call
turned e now_e acts call old mid now f r p = λ c s.
    let d = f c s in
    (d.stands, round-done old mid now (round_of call c) r (subst (λ (l : List Act). Performs mid now l) d.acts p))

pub cut : (e now_e : Session) (acts : List Act) (call : Call) (old mid now : Places) → Follows e now_e [] acts (turn_of call) → Moves old mid (read_of call) [] → Breaks mid now acts → IsCut e old now call
cut e now_e acts call old mid now f r b = λ c s.
    let d = f c s in
    round-cut old mid now (round_of call c) r (subst (λ (l : List Act). Breaks mid now l) d.acts b)

-- nothing of its acts was done
pub cut-before : (e : Session) (call : Call) (old now : Places) → Moves old now (read_of call) [] → IsCut e old now call
cut-before e call old now r = λ c s.
    let acts = (turn_of call c).1 in
    round-cut old now now (round_of call c) r (record { done = []; rest = acts; whole = refl; n = 0; moved = moves-none now })

-- ---- where a meeting broke off

pub broke-off-reading : (stop : Stop) (e : Session) (old now : Places) (before after : ℕ) → Moves old now [] [] → ReadCause stop before after → BrokeOff stop e old now
broke-off-reading stops.NoMemory e old now before after m c = inl m
broke-off-reading stops.Read e old now before after m c = m
broke-off-reading stops.Write e old now before after m c = absurd c

pub broke-off-before : (stop : Stop) (e : Session) (event : LinkEvent) (old now : Places) → stop ≡ stops.NoMemory → Moves old now (entry_of event ∷ []) [] → BrokeOff stop e old now
broke-off-before stop e event old now is m = subst (λ (x : Stop). BrokeOff x e old now) (sym is) (inr (event, cut-before e (Met event) old now m))

pub broke-off-by : (stop : Stop) (e : Session) (event : LinkEvent) (old now : Places) (before after : Counts) → IsCut e old now (Met event) → PerformCause stop before after → BrokeOff stop e old now
broke-off-by stops.NoMemory e event old now before after k c = inr (event, k)
broke-off-by stops.Read e event old now before after k c = absurd c
broke-off-by stops.Write e event old now before after k c = (event, k)

pub broke-off-performing : {T : Type 0} (r : Result T Stop) (e : Session) (event : LinkEvent) (acts : List Act) (old mid now : Places) (before after : Counts)
    → (Breaks mid now acts → IsCut e old now (Met event)) → OnErr r (Breaks mid now acts) → IfErr r (λ stop. PerformCause stop before after) → IfErr r (λ stop. BrokeOff stop e old now)
broke-off-performing (Ok x) e event acts old mid now before after f b c = tt
broke-off-performing (Err stop) e event acts old mid now before after f b c = broke-off-by stop e event old now before after (f b) c
