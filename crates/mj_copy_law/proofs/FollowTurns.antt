-- What a turn of follow keeps: it knows how many commands its file has, appends the source's next one, acknowledges what
-- every image has, and what it reads are the source's own messages.
use Rattle.std.proofs.Common.{◌≡◌, ℕ, zero, suc, ◌+◌, ◌<◌, ◌≤◌, ◌^◌, ◌⊎◌, Bool, true, false, cond, ◌==◌, ◌&&◌, nat_lt, List, [], ◌∷◌, ◌++◌, refl, sym, ap, subst, ◌∙◌, inl, inr, ⊎_elim, arith, append-nil, eqb-true, length}
use Rattle.std.specs.List.{AllByRecursion}
use Rattle.mj_base.specs.declared.link.LinkEvent.{LinkEvent}
use Rattle.mj_base.specs.declared.link.LinkEvent.TheVariants as event
use Rattle.mj_copy.specs.FollowRules.{FollowTurn, Following, answers_have, awaits_link, follow_all, follow_ends, follow_idles, follow_meets, follow_read, follow_steps, follow_takes, follow_then, goes_on, takes_base, takes_end, takes_send}
use Rattle.mj_copy.specs.Messages.{Message, Base, Have, Send, End, Fits, Reading, octets_of, reading}
use Rattle.mj_copy.specs.ShipRules.{is_going}
use Rattle.mj_copy.specs.declared.awaits.Awaits.TheVariants as waits
use Rattle.mj_copy.specs.declared.follow_act.FollowAct.{FollowAct}
use Rattle.mj_copy.specs.declared.follow_act.FollowAct.TheVariants as follows
use Rattle.mj_copy.specs.declared.phase.Phase.TheVariants.{Finished}
use Rattle.mj_copy_law.specs.MessageLaws.{FrontsAreRead}
use Rattle.mj_copy_law.specs.World.{Line, Source, follow_acts, moved, payload_at, send, total_of}
use Rattle.mj_copy_law.proofs.Flowing.{FlowRead, Flows, all_join, flow_read, sent_more}
use Rattle.mj_copy_law.proofs.ShipTurns.{IsHaveTo, IsOf, alike, pick, with_event}

-- the follower knows how many commands its file has, and appends the source's next one
pub record FollowGood (source : Source) (count : ℕ) (File : Type 0) (f : Following) : Type 0 where
  pub holds : f.opened ≡ true → File
  pub done : f.phase ≡ Finished → total_of source ≤ count
  pub counts : f.opened ≡ true → f.count ≡ count
  pub based : f.based ≡ true → f.opened ≡ true
  pub file : (base : ℕ) → f.awaits ≡ waits.File base → base ≡ source.base
  pub append : (payload : List ℕ) → f.awaits ≡ waits.Append payload → (f.opened ≡ true) × (count < total_of source) × (payload ≡ payload_at source count)

abbrev pub IsFollowAct : ℕ → FollowAct → Type 0
IsFollowAct count (follows.Write octets) = (m : Message) × IsHaveTo count m × (octets ≡ octets_of m)
IsFollowAct count (follows.Open base) = Unit {0}
IsFollowAct count (follows.Append payload) = Unit {0}
IsFollowAct count follows.Reopen = Unit {0}
IsFollowAct count follows.Done = Unit {0}
IsFollowAct count follows.NoAnswer = Unit {0}

-- whether a new link is among the acts
abbrev pub moves : List FollowAct → Bool
moves [] = false
moves (follows.Write octets ∷ acts) = moves acts
moves (follows.Open base ∷ acts) = moves acts
moves (follows.Append payload ∷ acts) = moves acts
moves (follows.Reopen ∷ acts) = true
moves (follows.Done ∷ acts) = moves acts
moves (follows.NoAnswer ∷ acts) = moves acts

pub record FollowTurned (source : Source) (count : ℕ) (File : Type 0) (ys : List ℕ) (turn : FollowTurn) : Type 0 where
  pub good : FollowGood source count File turn.0
  pub acts : AllByRecursion (IsFollowAct count) turn.1
  pub reads : ((moves turn.1 ≡ false) × (is_going turn.0.phase ≡ true → Flows (IsOf source count) (turn.0.kept ++ ys))) ⊎ ((moves turn.1 ≡ true) × (turn.0.kept ≡ []))

moves_append : (a b : List FollowAct) → moves a ≡ false → moves (a ++ b) ≡ moves b
moves_append [] b none = refl
moves_append (follows.Write octets ∷ a) b none = moves_append a b none
moves_append (follows.Open base ∷ a) b none = moves_append a b none
moves_append (follows.Append payload ∷ a) b none = moves_append a b none
moves_append (follows.Reopen ∷ a) b none = absurd (cc none)
moves_append (follows.Done ∷ a) b none = moves_append a b none
moves_append (follows.NoAnswer ∷ a) b none = moves_append a b none

rests : (most : ℕ) (f : Following) → f.kept ≡ [] → follow_all most f ≡ (f, [])
rests zero f none = refl
rests (suc most) f none =
    ap (λ (r : Reading). cond (is_going f.phase && awaits_link f.awaits) (follow_read (follow_all most) r f) (f, [])) (ap reading none) ∙ alike (is_going f.phase && awaits_link f.awaits) (f, [])

both_true : (a b : Bool) → (a && b) ≡ true → (a ≡ true) × (b ≡ true)
both_true true true e = (refl, refl)
both_true true false e = absurd (cc e)
both_true false b e = absurd (cc e)

module _ (source : Source) (count : ℕ) (File : Type 0) (small : count < 2 ^ 64) (of_fits : (m : Message) → IsOf source count m → Fits m) where
  still : (ys : List ℕ) (f : Following) → FollowGood source count File f → (is_going f.phase ≡ true → Flows (IsOf source count) (f.kept ++ ys)) → FollowTurned source count File ys (f, [])
  still ys f good flow = record { good = good; acts = tt; reads = inl (refl, flow) }

  ends : (ys : List ℕ) (f : Following) → FollowGood source count File f → FollowTurned source count File ys (follow_ends f)
  ends ys f good =
      pick (FollowTurned source count File ys) (nat_lt (f.used + 1) f.tries) _ _
      (λ more. record {
        good = record { holds = good.holds; done = good.done; counts = good.counts; based = λ e. absurd (cc e); file = λ base e. absurd (cc e); append = λ payload e. absurd (cc e) };
        acts = (tt, tt);
        reads = inr (refl, refl);
      })
      (λ last. record {
        good = record { holds = good.holds; done = λ e. absurd (cc e); counts = good.counts; based = good.based; file = λ base e. absurd (cc e); append = λ payload e. absurd (cc e) };
        acts = (tt, tt);
        reads = inl (refl, λ going. absurd (cc going));
      })

  idles : (ys : List ℕ) (f : Following) → FollowGood source count File f → Flows (IsOf source count) (f.kept ++ ys) → FollowTurned source count File ys (follow_idles f)
  idles ys f good flow =
      pick (FollowTurned source count File ys) (nat_lt (f.quiet + 1) 75) _ _
      (λ more. record {
        good = record { holds = good.holds; done = good.done; counts = good.counts; based = good.based; file = good.file; append = good.append };
        acts = tt;
        reads = inl (refl, λ going. flow);
      })
      (λ last. ends ys f good)

  answers : (ys : List ℕ) (f : Following) → (f.phase ≡ Finished → total_of source ≤ count) → File → f.opened ≡ true → f.count ≡ count → (is_going f.phase ≡ true → Flows (IsOf source count) (f.kept ++ ys)) → FollowTurned source count File ys (answers_have f)
  answers ys f done file opened counts flow = record {
    good = record { holds = λ e. file; done = done; counts = λ e. counts; based = λ e. opened; file = λ base e. absurd (cc e); append = λ payload e. absurd (cc e) };
    acts = ((Have f.count, (omega (arith, counts), omega (arith, counts)), refl), tt);
    reads = inl (refl, flow);
  }

  base_taken : (ys : List ℕ) (base : ℕ) (f : Following) → base ≡ source.base → FollowGood source count File f → Flows (IsOf source count) (f.kept ++ ys) → FollowTurned source count File ys (takes_base base f)
  base_taken ys base f is good flow =
      pick (FollowTurned source count File ys) f.opened _ _
      (λ opened. pick (FollowTurned source count File ys) (base == f.base) _ _
      (λ same. answers ys f good.done (good.holds opened) opened (good.counts opened) (λ going. flow))
      (λ other. ends ys f good))
      (λ closed. record {
        good = record { holds = good.holds; done = good.done; counts = good.counts; based = good.based; file = λ b e. let same : b ≡ base = cc in same ∙ is; append = λ payload e. absurd (cc e) };
        acts = (tt, tt);
        reads = inl (refl, λ going. flow);
      })

  send_taken : (ys : List ℕ) (at : ℕ) (payload : List ℕ) (f : Following) → (at < total_of source) × (payload ≡ payload_at source at) → f.based ≡ true → FollowGood source count File f → Flows (IsOf source count) (f.kept ++ ys) → FollowTurned source count File ys (takes_send at payload f)
  send_taken ys at payload f is based good flow =
      let opened = good.based based in
      let counts = good.counts opened in
      pick (FollowTurned source count File ys) (nat_lt at f.count) _ _
      (λ old. answers ys f good.done (good.holds opened) opened counts (λ going. flow))
      (λ beyond. pick (FollowTurned source count File ys) (at == f.count) _ _
      (λ next. let here : at ≡ count = eqb-true at f.count next ∙ counts in
      record {
        good = record {
          holds = good.holds;
          done = good.done;
          counts = good.counts;
          based = good.based;
          file = λ b e. absurd (cc e);
          append = λ p e. let same : p ≡ payload = cc in (opened, omega (arith, here, is.0), same ∙ is.1 ∙ ap (payload_at source) here);
        };
        acts = (tt, tt);
        reads = inl (refl, λ going. flow);
      })
      (λ other. ends ys f good))

  end_taken : (ys : List ℕ) (f : Following) → total_of source ≤ count → FollowGood source count File f → FollowTurned source count File ys (takes_end f)
  end_taken ys f all good = record {
    good = record { holds = good.holds; done = λ e. all; counts = good.counts; based = good.based; file = good.file; append = good.append };
    acts = (tt, tt);
    reads = inl (refl, λ going. absurd (cc going));
  }

  takes : (ys : List ℕ) (m : Message) (f : Following) → IsOf source count m → FollowGood source count File f → Flows (IsOf source count) (f.kept ++ ys) → FollowTurned source count File ys (follow_takes m f)
  takes ys (Base base) f is good flow = base_taken ys base f is good flow
  takes ys (Send at payload) f is good flow =
      pick (FollowTurned source count File ys) f.based _ _ (λ based. send_taken ys at payload f is based good flow) (λ other. ends ys f good)
  takes ys End f is good flow = pick (FollowTurned source count File ys) f.based _ _ (λ based. end_taken ys f is good) (λ other. ends ys f good)
  takes ys (Have n) f is good flow = absurd is

  joins : (ys : List ℕ) (most : ℕ) (turn : FollowTurn) → FollowTurned source count File ys turn
      → ((f : Following) → FollowGood source count File f → (is_going f.phase ≡ true → Flows (IsOf source count) (f.kept ++ ys)) → FollowTurned source count File ys (follow_all most f))
      → FollowTurned source count File ys (follow_then (follow_all most) turn)
  joins ys most turn turned rest = by turned.reads
    where
      by : ((moves turn.1 ≡ false) × (is_going turn.0.phase ≡ true → Flows (IsOf source count) (turn.0.kept ++ ys))) ⊎ ((moves turn.1 ≡ true) × (turn.0.kept ≡ [])) → FollowTurned source count File ys (follow_then (follow_all most) turn)
      by (inl stays) =
          let next = rest turn.0 turned.good stays.1 in
          let moved_too = moves_append turn.1 (follow_all most turn.0).1 stays.0 in
          record {
            good = next.good;
            acts = all_join (IsFollowAct count) turn.1 (follow_all most turn.0).1 turned.acts next.acts;
            reads = ⊎_elim (λ a. inl (moved_too ∙ a.0, a.1)) (λ a. inr (moved_too ∙ a.0, a.1)) next.reads;
          }
      by (inr leaves) =
          subst (λ (t : FollowTurn). FollowTurned source count File ys (t.0, turn.1 ++ t.1)) (sym (rests most turn.0 leaves.1))
          (subst (λ (acts : List FollowAct). FollowTurned source count File ys (turn.0, acts)) (sym (append-nil turn.1)) turned)

  read : FrontsAreRead → (ys : List ℕ) (most : ℕ) (f : Following)
      → ((g : Following) → FollowGood source count File g → (is_going g.phase ≡ true → Flows (IsOf source count) (g.kept ++ ys)) → FollowTurned source count File ys (follow_all most g))
      → FollowGood source count File f → Flows (IsOf source count) (f.kept ++ ys) → FollowTurned source count File ys (follow_read (follow_all most) (reading f.kept) f)
  read fronts ys most f rest good flow = found (flow_read fronts (IsOf source count) of_fits f.kept ys flow)
    where
      found : FlowRead (IsOf source count) f.kept ys → FollowTurned source count File ys (follow_read (follow_all most) (reading f.kept) f)
      found (inl short) = subst (λ (r : Reading). FollowTurned source count File ys (follow_read (follow_all most) r f)) (sym short) (still ys f good (λ going. flow))
      found (inr (m, left, whole, is, flows)) =
          subst (λ (r : Reading). FollowTurned source count File ys (follow_read (follow_all most) r f)) (sym whole)
          (joins ys most _
          (takes ys m (record f { kept = left }) is (record { holds = good.holds; done = good.done; counts = good.counts; based = good.based; file = good.file; append = good.append }) flows)
          rest)

  pub gains : FrontsAreRead → (ys : List ℕ) (most : ℕ) (f : Following) → FollowGood source count File f → (is_going f.phase ≡ true → Flows (IsOf source count) (f.kept ++ ys)) → FollowTurned source count File ys (follow_all most f)
  gains fronts ys zero f good flow = still ys f good flow
  gains fronts ys (suc most) f good flow =
      pick (FollowTurned source count File ys) (is_going f.phase && awaits_link f.awaits) _ _
      (λ takes. let going = both_true (is_going f.phase) (awaits_link f.awaits) takes in read fronts ys most f (gains fronts ys most) good (flow going.0))
      (λ rests. still ys f good flow)

  meets : FrontsAreRead → (ys : List ℕ) (e : LinkEvent) (f : Following) → FollowGood source count File f → Flows (IsOf source count) (with_event e f.kept ++ ys) → FollowTurned source count File ys (follow_meets e f)
  meets fronts ys (event.Given octets) f good flow =
      gains fronts ys (length (f.kept ++ octets)) (record f { kept = f.kept ++ octets })
      (record { holds = good.holds; done = good.done; counts = good.counts; based = good.based; file = good.file; append = good.append }) (λ going. flow)
  meets fronts ys event.Idle f good flow = idles ys f good flow
  meets fronts ys event.End f good flow = ends ys f good

  pub steps : FrontsAreRead → (ys : List ℕ) (e : LinkEvent) (f : Following) → FollowGood source count File f → (is_going f.phase ≡ true → Flows (IsOf source count) (with_event e f.kept ++ ys)) → FollowTurned source count File ys (follow_steps e f)
  steps fronts ys e f good flow =
      pick (FollowTurned source count File ys) (is_going f.phase) _ _
      (λ going. meets fronts ys e f good (flow going))
      (λ over. still ys f good (λ going. absurd (cc (over, going))))

  -- behind an opening or an append
  pub going_on : FrontsAreRead → (ys : List ℕ) (f : Following) → (f.phase ≡ Finished → total_of source ≤ count) → File → f.opened ≡ true → f.count ≡ count → (is_going f.phase ≡ true → Flows (IsOf source count) (f.kept ++ ys))
      → FollowTurned source count File ys (goes_on f)
  going_on fronts ys f done file opened counts flow =
      joins ys (length f.kept) (answers_have f) (answers ys f done file opened counts flow) (gains fronts ys (length f.kept))

-- ---- the acts, on the line

pub follow_stays : (skip : ℕ) (acts : List FollowAct) (line : Line) → moves acts ≡ false → (follow_acts skip acts line).link ≡ line.link
follow_stays skip [] line none = refl
follow_stays skip (follows.Write octets ∷ acts) line none = follow_stays skip acts (send octets line) none
follow_stays skip (follows.Open base ∷ acts) line none = follow_stays skip acts line none
follow_stays skip (follows.Append payload ∷ acts) line none = follow_stays skip acts line none
follow_stays skip (follows.Reopen ∷ acts) line none = absurd (cc none)
follow_stays skip (follows.Done ∷ acts) line none = follow_stays skip acts line none
follow_stays skip (follows.NoAnswer ∷ acts) line none = follow_stays skip acts line none

pub follow_rises : (skip : ℕ) (acts : List FollowAct) (line : Line) → line.link ≤ (follow_acts skip acts line).link
follow_rises skip [] line = omega arith
follow_rises skip (follows.Write octets ∷ acts) line = follow_rises skip acts (send octets line)
follow_rises skip (follows.Open base ∷ acts) line = follow_rises skip acts line
follow_rises skip (follows.Append payload ∷ acts) line = follow_rises skip acts line
follow_rises skip (follows.Reopen ∷ acts) line = omega (arith, follow_rises skip acts (moved skip line))
follow_rises skip (follows.Done ∷ acts) line = follow_rises skip acts line
follow_rises skip (follows.NoAnswer ∷ acts) line = follow_rises skip acts line

pub follow_leaves : (skip : ℕ) (acts : List FollowAct) (line : Line) → moves acts ≡ true → line.link < (follow_acts skip acts line).link
follow_leaves skip [] line some = absurd (cc some)
follow_leaves skip (follows.Write octets ∷ acts) line some = follow_leaves skip acts (send octets line) some
follow_leaves skip (follows.Open base ∷ acts) line some = follow_leaves skip acts line some
follow_leaves skip (follows.Append payload ∷ acts) line some = follow_leaves skip acts line some
follow_leaves skip (follows.Reopen ∷ acts) line some = omega (arith, follow_rises skip acts (moved skip line))
follow_leaves skip (follows.Done ∷ acts) line some = follow_leaves skip acts line some
follow_leaves skip (follows.NoAnswer ∷ acts) line some = follow_leaves skip acts line some

-- on each link, what ship reads stays true acknowledgements
pub follow_sends : (count skip : ℕ) (kept : List ℕ) (k : ℕ) (acts : List FollowAct) (line : Line) → AllByRecursion (IsFollowAct count) acts → Flows (IsHaveTo count) (kept ++ line.sent k) → Flows (IsHaveTo count) (kept ++ (follow_acts skip acts line).sent k)
follow_sends count skip kept k [] line all flow = flow
follow_sends count skip kept k (follows.Write octets ∷ acts) line ((m, is, spelling), all) flow =
    follow_sends count skip kept k acts (send octets line) all
    (subst (λ (xs : List ℕ). Flows (IsHaveTo count) (kept ++ (send xs line).sent k)) (sym spelling) (sent_more (IsHaveTo count) kept m line k is flow))
follow_sends count skip kept k (follows.Open base ∷ acts) line (is, all) flow = follow_sends count skip kept k acts line all flow
follow_sends count skip kept k (follows.Append payload ∷ acts) line (is, all) flow = follow_sends count skip kept k acts line all flow
follow_sends count skip kept k (follows.Reopen ∷ acts) line (is, all) flow = follow_sends count skip kept k acts (moved skip line) all flow
follow_sends count skip kept k (follows.Done ∷ acts) line (is, all) flow = follow_sends count skip kept k acts line all flow
follow_sends count skip kept k (follows.NoAnswer ∷ acts) line (is, all) flow = follow_sends count skip kept k acts line all flow
