-- What a turn of ship keeps: its state agrees with the source and with the copy, it sends only the source's own
-- messages, and what it reads are true acknowledgements.
use Rattle.std.proofs.Common.{◌≡◌, ℕ, zero, suc, ◌+◌, ◌<◌, ◌≤◌, ◌^◌, ◌⊎◌, Bool, true, false, cond, ◌==◌, nat_lt, List, [], ◌∷◌, ◌++◌, refl, sym, ap, subst, ◌∙◌, inl, inr, ⊎_elim, arith, append-nil, ltb-true, eqb-true, length}
use Rattle.std.specs.List.{AllByRecursion}
use Rattle.mj_base.specs.declared.link.LinkEvent.{LinkEvent}
use Rattle.mj_base.specs.declared.link.LinkEvent.TheVariants as event
use Rattle.mj_copy.specs.Messages.{Message, Base, Have, Send, End, Fits, Reading, octets_of, reading}
use Rattle.mj_copy.specs.ShipRules.{ShipTurn, Shipping, is_going, ship_all, ship_begins, ship_ends, ship_idles, ship_meets, ship_read, ship_steps, ship_takes, ship_then}
use Rattle.mj_copy.specs.declared.phase.Phase.TheVariants.{Finished}
use Rattle.mj_copy.specs.declared.ship_act.ShipAct.{ShipAct}
use Rattle.mj_copy.specs.declared.ship_act.ShipAct.TheVariants as ships
use Rattle.mj_copy_law.specs.MessageLaws.{FrontsAreRead}
use Rattle.mj_copy_law.specs.World.{Line, Source, moved, payload_at, send, ship_acts, total_of}
use Rattle.mj_copy_law.proofs.Flowing.{FlowRead, Flows, all_join, flow_read, sent_more}

-- an acknowledgement of what every image has
abbrev pub IsHaveTo : ℕ → Message → Type 0
IsHaveTo count (Base base) = ⊥
IsHaveTo count (Have n) = (n ≤ count) × (n < 2 ^ 64)
IsHaveTo count (Send at payload) = ⊥
IsHaveTo count End = ⊥

-- what ship sends: an End only where every image has all
abbrev pub IsOf : Source → ℕ → Message → Type 0
IsOf source count (Base base) = base ≡ source.base
IsOf source count (Have n) = ⊥
IsOf source count (Send at payload) = (at < total_of source) × (payload ≡ payload_at source at)
IsOf source count End = total_of source ≤ count

pub record ShipGood (source : Source) (count : ℕ) (s : Shipping) : Type 0 where
  pub base_is : s.base ≡ source.base
  pub total_is : s.total ≡ total_of source
  pub done : s.phase ≡ Finished → total_of source ≤ count

abbrev pub IsShipAct : Source → ℕ → ShipAct → Type 0
IsShipAct source count (ships.Write octets) = (m : Message) × IsOf source count m × (octets ≡ octets_of m)
IsShipAct source count (ships.SendAt n) = n < total_of source
IsShipAct source count ships.Reopen = Unit {0}
IsShipAct source count ships.Done = Unit {0}
IsShipAct source count ships.NoAnswer = Unit {0}

-- whether a new link is among the acts
abbrev pub moves : List ShipAct → Bool
moves [] = false
moves (ships.Write octets ∷ acts) = moves acts
moves (ships.SendAt n ∷ acts) = moves acts
moves (ships.Reopen ∷ acts) = true
moves (ships.Done ∷ acts) = moves acts
moves (ships.NoAnswer ∷ acts) = moves acts

pub record ShipTurned (source : Source) (count : ℕ) (ys : List ℕ) (turn : ShipTurn) : Type 0 where
  pub good : ShipGood source count turn.0
  pub acts : AllByRecursion (IsShipAct source count) turn.1
  pub reads : ((moves turn.1 ≡ false) × (is_going turn.0.phase ≡ true → Flows (IsHaveTo count) (turn.0.kept ++ ys))) ⊎ ((moves turn.1 ≡ true) × (turn.0.kept ≡ []))

abbrev pub with_event : LinkEvent → List ℕ → List ℕ
with_event (event.Given octets) kept = kept ++ octets
with_event event.Idle kept = kept
with_event event.End kept = kept

pub pick : {A : Type 0} (P : A → Type 0) (b : Bool) (x y : A) → (b ≡ true → P x) → (b ≡ false → P y) → P (cond {A = A} b x y)
pick P true x y one other = one refl
pick P false x y one other = other refl

pub alike : {A : Type 0} (b : Bool) (x : A) → cond {A = A} b x x ≡ x
alike true x = refl
alike false x = refl

pub have_fits : (count : ℕ) (m : Message) → IsHaveTo count m → Fits m
have_fits count (Base base) is = absurd is
have_fits count (Have n) is = is.1
have_fits count (Send at payload) is = absurd is
have_fits count End is = absurd is

moves_append : (a b : List ShipAct) → moves a ≡ false → moves (a ++ b) ≡ moves b
moves_append [] b none = refl
moves_append (ships.Write octets ∷ a) b none = moves_append a b none
moves_append (ships.SendAt n ∷ a) b none = moves_append a b none
moves_append (ships.Reopen ∷ a) b none = absurd (cc none)
moves_append (ships.Done ∷ a) b none = moves_append a b none
moves_append (ships.NoAnswer ∷ a) b none = moves_append a b none

rests : (most : ℕ) (s : Shipping) → s.kept ≡ [] → ship_all most s ≡ (s, [])
rests zero s none = refl
rests (suc most) s none =
    ap (λ (r : Reading). cond (is_going s.phase) (ship_read (ship_all most) r s) (s, [])) (ap reading none) ∙ alike (is_going s.phase) (s, [])

module _ (source : Source) (count : ℕ) where
  still : (ys : List ℕ) (s : Shipping) → ShipGood source count s → (is_going s.phase ≡ true → Flows (IsHaveTo count) (s.kept ++ ys)) → ShipTurned source count ys (s, [])
  still ys s good flow = record { good = good; acts = tt; reads = inl (refl, flow) }

  ends : (ys : List ℕ) (s : Shipping) → ShipGood source count s → ShipTurned source count ys (ship_ends s)
  ends ys s good =
      pick (ShipTurned source count ys) (nat_lt (s.used + 1) s.tries) _ _
      (λ more. record {
        good = record { base_is = good.base_is; total_is = good.total_is; done = good.done };
        acts = (tt, ((Base s.base, good.base_is, refl), tt));
        reads = inr (refl, refl);
      })
      (λ last. record {
        good = record { base_is = good.base_is; total_is = good.total_is; done = λ e. absurd (cc e) };
        acts = (tt, tt);
        reads = inl (refl, λ going. absurd (cc going));
      })

  idles : (ys : List ℕ) (s : Shipping) → ShipGood source count s → Flows (IsHaveTo count) (s.kept ++ ys) → ShipTurned source count ys (ship_idles s)
  idles ys s good flow =
      pick (ShipTurned source count ys) (nat_lt (s.quiet + 1) 75) _ _
      (λ more. record {
        good = record { base_is = good.base_is; total_is = good.total_is; done = good.done };
        acts = tt;
        reads = inl (refl, λ going. flow);
      })
      (λ last. ends ys s good)

  takes : (ys : List ℕ) (m : Message) (s : Shipping) → IsHaveTo count m → ShipGood source count s → Flows (IsHaveTo count) (s.kept ++ ys) → ShipTurned source count ys (ship_takes m s)
  takes ys (Base base) s is good flow = absurd is
  takes ys (Send at payload) s is good flow = absurd is
  takes ys End s is good flow = absurd is
  takes ys (Have n) s is good flow =
      pick (ShipTurned source count ys) (nat_lt n s.total) _ _
      (λ less. let inside : n < total_of source = omega (arith, ltb-true n s.total less, good.total_is) in
      record {
        good = record { base_is = good.base_is; total_is = good.total_is; done = good.done };
        acts = (inside, tt);
        reads = inl (refl, λ going. flow);
      })
      (λ beyond. pick (ShipTurned source count ys) (n == s.total) _ _
      (λ same. let all : total_of source ≤ count = omega (arith, eqb-true n s.total same, good.total_is, is.0) in
      record {
        good = record { base_is = good.base_is; total_is = good.total_is; done = λ e. all };
        acts = ((End, all, refl), (tt, tt));
        reads = inl (refl, λ going. absurd (cc going));
      })
      (λ other. ends ys s good))

  joins : (ys : List ℕ) (most : ℕ) (turn : ShipTurn) → ShipTurned source count ys turn
      → ((s : Shipping) → ShipGood source count s → (is_going s.phase ≡ true → Flows (IsHaveTo count) (s.kept ++ ys)) → ShipTurned source count ys (ship_all most s))
      → ShipTurned source count ys (ship_then (ship_all most) turn)
  joins ys most turn turned rest = by turned.reads
    where
      by : ((moves turn.1 ≡ false) × (is_going turn.0.phase ≡ true → Flows (IsHaveTo count) (turn.0.kept ++ ys))) ⊎ ((moves turn.1 ≡ true) × (turn.0.kept ≡ [])) → ShipTurned source count ys (ship_then (ship_all most) turn)
      by (inl stays) =
          let next = rest turn.0 turned.good stays.1 in
          let moved_too = moves_append turn.1 (ship_all most turn.0).1 stays.0 in
          record {
            good = next.good;
            acts = all_join (IsShipAct source count) turn.1 (ship_all most turn.0).1 turned.acts next.acts;
            reads = ⊎_elim (λ a. inl (moved_too ∙ a.0, a.1)) (λ a. inr (moved_too ∙ a.0, a.1)) next.reads;
          }
      by (inr leaves) =
          subst (λ (t : ShipTurn). ShipTurned source count ys (t.0, turn.1 ++ t.1)) (sym (rests most turn.0 leaves.1))
          (subst (λ (acts : List ShipAct). ShipTurned source count ys (turn.0, acts)) (sym (append-nil turn.1)) turned)

  read : FrontsAreRead → (ys : List ℕ) (most : ℕ) (s : Shipping)
      → ((t : Shipping) → ShipGood source count t → (is_going t.phase ≡ true → Flows (IsHaveTo count) (t.kept ++ ys)) → ShipTurned source count ys (ship_all most t))
      → ShipGood source count s → Flows (IsHaveTo count) (s.kept ++ ys) → ShipTurned source count ys (ship_read (ship_all most) (reading s.kept) s)
  read fronts ys most s rest good flow = found (flow_read fronts (IsHaveTo count) (have_fits count) s.kept ys flow)
    where
      found : FlowRead (IsHaveTo count) s.kept ys → ShipTurned source count ys (ship_read (ship_all most) (reading s.kept) s)
      found (inl short) = subst (λ (r : Reading). ShipTurned source count ys (ship_read (ship_all most) r s)) (sym short) (still ys s good (λ going. flow))
      found (inr (m, left, whole, is, flows)) =
          subst (λ (r : Reading). ShipTurned source count ys (ship_read (ship_all most) r s)) (sym whole)
          (joins ys most _ (takes ys m (record s { kept = left }) is (record { base_is = good.base_is; total_is = good.total_is; done = good.done }) flows) rest)

  gains : FrontsAreRead → (ys : List ℕ) (most : ℕ) (s : Shipping) → ShipGood source count s → (is_going s.phase ≡ true → Flows (IsHaveTo count) (s.kept ++ ys)) → ShipTurned source count ys (ship_all most s)
  gains fronts ys zero s good flow = still ys s good flow
  gains fronts ys (suc most) s good flow =
      pick (ShipTurned source count ys) (is_going s.phase) _ _
      (λ going. read fronts ys most s (gains fronts ys most) good (flow going))
      (λ over. still ys s good flow)

  meets : FrontsAreRead → (ys : List ℕ) (e : LinkEvent) (s : Shipping) → ShipGood source count s → Flows (IsHaveTo count) (with_event e s.kept ++ ys) → ShipTurned source count ys (ship_meets e s)
  meets fronts ys (event.Given octets) s good flow =
      gains fronts ys (length (s.kept ++ octets)) (record s { kept = s.kept ++ octets }) (record { base_is = good.base_is; total_is = good.total_is; done = good.done }) (λ going. flow)
  meets fronts ys event.Idle s good flow = idles ys s good flow
  meets fronts ys event.End s good flow = ends ys s good

  begins : (ys : List ℕ) (base : ℕ) (turn : ShipTurn) → base ≡ source.base → ShipTurned source count ys turn → ShipTurned source count ys (turn.0, ships.Write (octets_of (Base base)) ∷ turn.1)
  begins ys base turn is turned = record { good = turned.good; acts = ((Base base, is, refl), turned.acts); reads = turned.reads }

  begun : FrontsAreRead → (ys : List ℕ) (e : LinkEvent) (s : Shipping) → ShipGood source count s → Flows (IsHaveTo count) (with_event e s.kept ++ ys) → ShipTurned source count ys (ship_begins e s)
  begun fronts ys e s good flow =
      pick (ShipTurned source count ys) s.begun _ _
      (λ already. meets fronts ys e s good flow)
      (λ first. begins ys s.base _ good.base_is (meets fronts ys e (record s { begun = true }) (record { base_is = good.base_is; total_is = good.total_is; done = good.done }) flow))

  pub steps : FrontsAreRead → (ys : List ℕ) (e : LinkEvent) (s : Shipping) → ShipGood source count s → (is_going s.phase ≡ true → Flows (IsHaveTo count) (with_event e s.kept ++ ys)) → ShipTurned source count ys (ship_steps e s)
  steps fronts ys e s good flow =
      pick (ShipTurned source count ys) (is_going s.phase) _ _
      (λ going. begun fronts ys e s good (flow going))
      (λ over. still ys s good (λ going. absurd (cc (over, going))))

-- ---- the acts, on the line

pub ship_stays : (source : Source) (skip : ℕ) (acts : List ShipAct) (line : Line) → moves acts ≡ false → (ship_acts source skip acts line).link ≡ line.link
ship_stays source skip [] line none = refl
ship_stays source skip (ships.Write octets ∷ acts) line none = ship_stays source skip acts (send octets line) none
ship_stays source skip (ships.SendAt n ∷ acts) line none = ship_stays source skip acts (send (octets_of (Send n (payload_at source n))) line) none
ship_stays source skip (ships.Reopen ∷ acts) line none = absurd (cc none)
ship_stays source skip (ships.Done ∷ acts) line none = ship_stays source skip acts line none
ship_stays source skip (ships.NoAnswer ∷ acts) line none = ship_stays source skip acts line none

pub ship_rises : (source : Source) (skip : ℕ) (acts : List ShipAct) (line : Line) → line.link ≤ (ship_acts source skip acts line).link
ship_rises source skip [] line = omega arith
ship_rises source skip (ships.Write octets ∷ acts) line = ship_rises source skip acts (send octets line)
ship_rises source skip (ships.SendAt n ∷ acts) line = ship_rises source skip acts (send (octets_of (Send n (payload_at source n))) line)
ship_rises source skip (ships.Reopen ∷ acts) line = omega (arith, ship_rises source skip acts (moved skip line))
ship_rises source skip (ships.Done ∷ acts) line = ship_rises source skip acts line
ship_rises source skip (ships.NoAnswer ∷ acts) line = ship_rises source skip acts line

pub ship_leaves : (source : Source) (skip : ℕ) (acts : List ShipAct) (line : Line) → moves acts ≡ true → line.link < (ship_acts source skip acts line).link
ship_leaves source skip [] line some = absurd (cc some)
ship_leaves source skip (ships.Write octets ∷ acts) line some = ship_leaves source skip acts (send octets line) some
ship_leaves source skip (ships.SendAt n ∷ acts) line some = ship_leaves source skip acts (send (octets_of (Send n (payload_at source n))) line) some
ship_leaves source skip (ships.Reopen ∷ acts) line some = omega (arith, ship_rises source skip acts (moved skip line))
ship_leaves source skip (ships.Done ∷ acts) line some = ship_leaves source skip acts line some
ship_leaves source skip (ships.NoAnswer ∷ acts) line some = ship_leaves source skip acts line some

-- on each link, what follow reads stays the source's own
pub ship_sends : (source : Source) (count skip : ℕ) (kept : List ℕ) (k : ℕ) (acts : List ShipAct) (line : Line) → AllByRecursion (IsShipAct source count) acts → Flows (IsOf source count) (kept ++ line.sent k) → Flows (IsOf source count) (kept ++ (ship_acts source skip acts line).sent k)
ship_sends source count skip kept k [] line all flow = flow
ship_sends source count skip kept k (ships.Write octets ∷ acts) line ((m, is, spelling), all) flow =
    ship_sends source count skip kept k acts (send octets line) all
    (subst (λ (xs : List ℕ). Flows (IsOf source count) (kept ++ (send xs line).sent k)) (sym spelling) (sent_more (IsOf source count) kept m line k is flow))
ship_sends source count skip kept k (ships.SendAt n ∷ acts) line (inside, all) flow =
    ship_sends source count skip kept k acts (send (octets_of (Send n (payload_at source n))) line) all
    (sent_more (IsOf source count) kept (Send n (payload_at source n)) line k (inside, refl) flow)
ship_sends source count skip kept k (ships.Reopen ∷ acts) line (is, all) flow = ship_sends source count skip kept k acts (moved skip line) all flow
ship_sends source count skip kept k (ships.Done ∷ acts) line (is, all) flow = ship_sends source count skip kept k acts line all flow
ship_sends source count skip kept k (ships.NoAnswer ∷ acts) line (is, all) flow = ship_sends source count skip kept k acts line all flow
