-- The invariant of the world, and that each step keeps it.
use Rattle.std.proofs.Common.{◌≡◌, ℕ, zero, suc, ◌+◌, ◌<◌, ◌≤◌, ◌^◌, ◌⊎◌, true, false, List, [], ◌∷◌, ◌++◌, length, get_or, take, drop, refl, sym, ap, subst, ◌∙◌, inl, inr, ⊎_elim, arith, append_assoc, length-take}
use Rattle.std.proofs.lemmas.Bool.Decides.{eqb_tells}
use Rattle.std.proofs.lemmas.List.{take-append-drop}
use Rattle.std.proofs.Math.Seq.{take-suc}
use Rattle.std.specs.List.{AllByRecursion}
use Rattle.mj_base.specs.declared.link.LinkEvent.{LinkEvent}
use Rattle.mj_base.specs.declared.link.LinkEvent.TheVariants as event
use Rattle.mj_copy.specs.FollowRules.{FollowTurn, follow_steps, new_follow}
use Rattle.mj_copy.specs.Messages.{Message, Base, Have, Send, End, Fits}
use Rattle.mj_copy.specs.ShipRules.{ShipTurn, is_going, ship_steps}
use Rattle.mj_copy.specs.declared.awaits.Awaits.{Awaits}
use Rattle.mj_copy.specs.declared.awaits.Awaits.TheVariants as waits
use Rattle.mj_copy_law.specs.CopyLaw.{HasAtLeast, HasFirst, IsLawful}
use Rattle.mj_copy_law.specs.MessageLaws.{FrontsAreRead}
use Rattle.mj_copy_law.specs.World.{Allowed, Appends, FollowAppends, FollowCrashes, FollowGets, FollowIdles, FollowLoses, FollowOpens, FollowRefuses, Leaves, Opens, ShipGets, ShipIdles, ShipLoses, ShipRestarts, Source, Step, World, after, first, follow_acts, follow_line, follow_turned, payload_at, put, ship_acts, ship_line, ship_turned, total_of, turn_of}
use Rattle.mj_copy_law.proofs.Flowing.{Flows, flows_same, flows_weaker, nothing, put_here, put_other}
use Rattle.mj_copy_law.proofs.ShipTurns.{IsHaveTo, IsOf, ShipGood, ShipTurned, ship_leaves, ship_rises, ship_sends, ship_stays, with_event}
use Rattle.mj_copy_law.proofs.ShipTurns as ship_turns
use Rattle.mj_copy_law.proofs.FollowTurns.{FollowGood, FollowTurned, IsFollowAct, follow_leaves, follow_rises, follow_sends, follow_stays, going_on}
use Rattle.mj_copy_law.proofs.FollowTurns as follow_turns
use Rattle.mj_journal.specs.FileText.{IsHeader, IsPayload, OpensAs, Stands, StandsFor}

-- the file stands for the source's first commands, with the source's base
abbrev pub FileIs : Source → ℕ → List ℕ → Type 0
FileIs source count copy = StandsFor source.base (take count source.payloads) copy

-- The copy has so many of the source's commands; each end's own state agrees with that; and on the links on which an
-- end reads, or may read later, there are only acknowledgements of these, and only messages of this source.
pub record Holds (source : Source) (count : ℕ) (w : World) : Type 0 where
  pub few : count ≤ total_of source
  pub has : OpensAs (take count source.payloads) w.copy
  pub shipping : ShipGood source count w.shipping
  pub following : FollowGood source count (FileIs source count w.copy) w.following
  pub ship_reads : is_going w.shipping.phase ≡ true → Flows (IsHaveTo count) (w.shipping.kept ++ w.to_ship w.ship_link)
  pub ship_later : (k : ℕ) → w.ship_link < k → Flows (IsHaveTo count) (w.to_ship k)
  pub follow_reads : is_going w.following.phase ≡ true → Flows (IsOf source count) (w.following.kept ++ w.to_follow w.follow_link)
  pub follow_later : (k : ℕ) → w.follow_link < k → Flows (IsOf source count) (w.to_follow k)

-- the same, but for the follower's state and what it reads
pub record Beside (source : Source) (count : ℕ) (w : World) : Type 0 where
  pub few : count ≤ total_of source
  pub has : OpensAs (take count source.payloads) w.copy
  pub shipping : ShipGood source count w.shipping
  pub ship_reads : is_going w.shipping.phase ≡ true → Flows (IsHaveTo count) (w.shipping.kept ++ w.to_ship w.ship_link)
  pub ship_later : (k : ℕ) → w.ship_link < k → Flows (IsHaveTo count) (w.to_ship k)
  pub follow_later : (k : ℕ) → w.follow_link < k → Flows (IsOf source count) (w.to_follow k)

put_later : (link k : ℕ) (octets : List ℕ) (sent : ℕ → List ℕ) → link < k → put link octets sent k ≡ sent k
put_later link k octets sent beyond =
    ⊎_elim (λ same. absurd (omega (arith, same.1, beyond))) (λ other. put_other link k octets sent other.0) (eqb_tells k link)

delivered : (ok : Message → Type 0) (n : ℕ) (kept sent : List ℕ) → Flows ok (kept ++ sent) → Flows ok ((kept ++ take n sent) ++ drop n sent)
delivered ok n kept sent flow =
    flows_same ok _ _ (ap (λ (xs : List ℕ). kept ++ xs) (sym (take-append-drop n sent)) ∙ sym (append_assoc kept (take n sent) (drop n sent))) flow

grown : (count more : ℕ) → count ≤ more → (m : Message) → IsHaveTo count m → IsHaveTo more m
grown count more up (Base base) is = absurd is
grown count more up (Have n) is = (omega (arith, is.0), is.1)
grown count more up (Send at payload) is = absurd is
grown count more up End is = absurd is

grown_of : (source : Source) (count more : ℕ) → count ≤ more → (m : Message) → IsOf source count m → IsOf source more m
grown_of source count more up (Base base) is = is
grown_of source count more up (Have n) is = absurd is
grown_of source count more up (Send at payload) is = is
grown_of source count more up End is = omega (arith, is)

at_payloads : (payloads : List (List ℕ)) (at : ℕ) → AllByRecursion IsPayload payloads → at < length payloads → IsPayload (get_or payloads at [])
at_payloads [] at all inside = absurd (omega arith)
at_payloads (payload ∷ payloads) zero all inside = all.0
at_payloads (payload ∷ payloads) (suc at) all inside = at_payloads payloads at all.1 (omega arith)

module _ (source : Source) (lawful : IsLawful source) (fronts : FrontsAreRead) where
  of_fits : (count : ℕ) (m : Message) → IsOf source count m → Fits m
  of_fits count (Base base) is = let from = lawful.base_from in let to = lawful.base_to in (omega (arith, is, from), omega (arith, is, to))
  of_fits count (Have n) is = absurd is
  of_fits count (Send at payload) (inside, is) =
      let few = lawful.few in
      let one = at_payloads source.payloads at lawful.payloads inside in
      (omega (arith, inside, few), (subst IsPayload (sym is) one).0, (subst IsPayload (sym is) one).1)
  of_fits count End is = tt

  small : (count : ℕ) → count ≤ total_of source → count < 2 ^ 64
  small count few = let all = lawful.few in omega (arith, few, all)

  -- ---- ship's steps

  ship_took : (skip count : ℕ) (w : World) (turn : ShipTurn) (to_ship : ℕ → List ℕ) (ys : List ℕ) → Holds source count w → to_ship w.ship_link ≡ ys → ((k : ℕ) → w.ship_link < k → to_ship k ≡ w.to_ship k)
      → ShipTurned source count ys turn → Holds source count (ship_turned source skip turn (record w { to_ship = to_ship }))
  ship_took skip count w turn to_ship ys h here later turned = record {
    few = h.few;
    has = h.has;
    shipping = turned.good;
    following = h.following;
    ship_reads = λ going. by going turned.reads;
    ship_later = λ k beyond.
        let up : w.ship_link ≤ (ship_acts source skip turn.1 (ship_line w)).link = ship_rises source skip turn.1 (ship_line w) in
        let past : w.ship_link < k = omega (arith, up, beyond) in
        flows_same (IsHaveTo count) _ _ (sym (later k past)) (h.ship_later k past);
    follow_reads = λ going. ship_sends source count skip w.following.kept w.follow_link turn.1 (ship_line w) turned.acts (h.follow_reads going);
    follow_later = λ k beyond. ship_sends source count skip [] k turn.1 (ship_line w) turned.acts (h.follow_later k beyond);
  }
    where
      by : is_going turn.0.phase ≡ true → ((ship_turns.moves turn.1 ≡ false) × (is_going turn.0.phase ≡ true → Flows (IsHaveTo count) (turn.0.kept ++ ys))) ⊎ ((ship_turns.moves turn.1 ≡ true) × (turn.0.kept ≡ []))
          → Flows (IsHaveTo count) (turn.0.kept ++ to_ship (ship_acts source skip turn.1 (ship_line w)).link)
      by going (inl stays) =
          let link : (ship_acts source skip turn.1 (ship_line w)).link ≡ w.ship_link = ship_stays source skip turn.1 (ship_line w) stays.0 in
          flows_same (IsHaveTo count) _ _ (ap (λ (xs : List ℕ). turn.0.kept ++ xs) (sym (ap to_ship link ∙ here))) (stays.1 going)
      by going (inr leaves) =
          let past : w.ship_link < (ship_acts source skip turn.1 (ship_line w)).link = ship_leaves source skip turn.1 (ship_line w) leaves.0 in
          flows_same (IsHaveTo count) _ _
          (sym (later (ship_acts source skip turn.1 (ship_line w)).link past) ∙ ap (λ (xs : List ℕ). xs ++ to_ship (ship_acts source skip turn.1 (ship_line w)).link) (sym leaves.1))
          (h.ship_later (ship_acts source skip turn.1 (ship_line w)).link past)

  ship_goes : (skip count n : ℕ) (w : World) → Holds source count w → Holds source count (after source (ShipGets n skip) w)
  ship_goes skip count n w h =
      ship_took skip count w _ (put w.ship_link (drop n (w.to_ship w.ship_link)) w.to_ship) (drop n (w.to_ship w.ship_link)) h
      (put_here w.ship_link (drop n (w.to_ship w.ship_link)) w.to_ship)
      (λ k beyond. put_later w.ship_link k (drop n (w.to_ship w.ship_link)) w.to_ship beyond)
      (ship_turns.steps source count fronts (drop n (w.to_ship w.ship_link)) (event.Given (take n (w.to_ship w.ship_link))) w.shipping h.shipping
      (λ going. delivered (IsHaveTo count) n w.shipping.kept (w.to_ship w.ship_link) (h.ship_reads going)))

  ship_quiet : (skip count : ℕ) (w : World) → Holds source count w → (e : LinkEvent) → with_event e w.shipping.kept ≡ w.shipping.kept → Holds source count (ship_turned source skip (ship_steps e w.shipping) w)
  ship_quiet skip count w h e same =
      ship_took skip count w _ w.to_ship (w.to_ship w.ship_link) h refl (λ k beyond. refl)
      (ship_turns.steps source count fronts (w.to_ship w.ship_link) e w.shipping h.shipping
      (λ going. flows_same (IsHaveTo count) _ _ (ap (λ (xs : List ℕ). xs ++ w.to_ship w.ship_link) (sym same)) (h.ship_reads going)))

  ship_restarts : (skip tries count : ℕ) (w : World) → Holds source count w → Holds source count (after source (ShipRestarts tries skip) w)
  ship_restarts skip tries count w h = record {
    few = h.few;
    has = h.has;
    shipping = record { base_is = refl; total_is = refl; done = λ e. absurd (cc e) };
    following = h.following;
    ship_reads = λ going. h.ship_later (w.ship_link + 1 + skip) (omega arith);
    ship_later = λ k beyond. h.ship_later k (omega (arith, beyond));
    follow_reads = h.follow_reads;
    follow_later = h.follow_later;
  }

  -- ---- follow's steps

  beside : (count : ℕ) (w : World) → Holds source count w → Beside source count w
  beside count w h = record { few = h.few; has = h.has; shipping = h.shipping; ship_reads = h.ship_reads; ship_later = h.ship_later; follow_later = h.follow_later }

  follow_took : (skip count : ℕ) (w : World) (turn : FollowTurn) (to_follow : ℕ → List ℕ) (ys : List ℕ) → Beside source count w → to_follow w.follow_link ≡ ys → ((k : ℕ) → w.follow_link < k → to_follow k ≡ w.to_follow k)
      → FollowTurned source count (FileIs source count w.copy) ys turn → Holds source count (follow_turned skip turn (record w { to_follow = to_follow }))
  follow_took skip count w turn to_follow ys h here later turned = record {
    few = h.few;
    has = h.has;
    shipping = h.shipping;
    following = turned.good;
    ship_reads = λ going. follow_sends count skip w.shipping.kept w.ship_link turn.1 (follow_line w) turned.acts (h.ship_reads going);
    ship_later = λ k beyond. follow_sends count skip [] k turn.1 (follow_line w) turned.acts (h.ship_later k beyond);
    follow_reads = λ going. by going turned.reads;
    follow_later = λ k beyond.
        let up : w.follow_link ≤ (follow_acts skip turn.1 (follow_line w)).link = follow_rises skip turn.1 (follow_line w) in
        let past : w.follow_link < k = omega (arith, up, beyond) in
        flows_same (IsOf source count) _ _ (sym (later k past)) (h.follow_later k past);
  }
    where
      by : is_going turn.0.phase ≡ true → ((follow_turns.moves turn.1 ≡ false) × (is_going turn.0.phase ≡ true → Flows (IsOf source count) (turn.0.kept ++ ys))) ⊎ ((follow_turns.moves turn.1 ≡ true) × (turn.0.kept ≡ []))
          → Flows (IsOf source count) (turn.0.kept ++ to_follow (follow_acts skip turn.1 (follow_line w)).link)
      by going (inl stays) =
          let link : (follow_acts skip turn.1 (follow_line w)).link ≡ w.follow_link = follow_stays skip turn.1 (follow_line w) stays.0 in
          flows_same (IsOf source count) _ _ (ap (λ (xs : List ℕ). turn.0.kept ++ xs) (sym (ap to_follow link ∙ here))) (stays.1 going)
      by going (inr leaves) =
          let past : w.follow_link < (follow_acts skip turn.1 (follow_line w)).link = follow_leaves skip turn.1 (follow_line w) leaves.0 in
          flows_same (IsOf source count) _ _
          (sym (later (follow_acts skip turn.1 (follow_line w)).link past) ∙ ap (λ (xs : List ℕ). xs ++ to_follow (follow_acts skip turn.1 (follow_line w)).link) (sym leaves.1))
          (h.follow_later (follow_acts skip turn.1 (follow_line w)).link past)

  -- behind a step the copy has as many commands, or more, and what follow acknowledged is among these
  abbrev Goes : ℕ → Step → World → Type 0
  Goes count step w = (more : ℕ) × (count ≤ more) × Holds source more (after source step w) × AllByRecursion (IsFollowAct more) (turn_of step w).1

  follow_goes : (skip count n : ℕ) (w : World) → Holds source count w → Goes count (FollowGets n skip) w
  follow_goes skip count n w h =
      let turned = follow_turns.steps source count (FileIs source count w.copy) (small count h.few) (of_fits count) fronts (drop n (w.to_follow w.follow_link)) (event.Given (take n (w.to_follow w.follow_link))) w.following h.following
      (λ going. delivered (IsOf source count) n w.following.kept (w.to_follow w.follow_link) (h.follow_reads going)) in (
        count,
        omega arith,
        follow_took skip count w _ (put w.follow_link (drop n (w.to_follow w.follow_link)) w.to_follow) (drop n (w.to_follow w.follow_link)) (beside count w h)
            (put_here w.follow_link (drop n (w.to_follow w.follow_link)) w.to_follow)
            (λ k beyond. put_later w.follow_link k (drop n (w.to_follow w.follow_link)) w.to_follow beyond)
            turned,
        turned.acts,
      )

  follow_quiet : (skip count : ℕ) (w : World) → Holds source count w → (e : LinkEvent) → with_event e w.following.kept ≡ w.following.kept
      → (more : ℕ) × (count ≤ more) × Holds source more (follow_turned skip (follow_steps e w.following) w) × AllByRecursion (IsFollowAct more) (follow_steps e w.following).1
  follow_quiet skip count w h e same =
      let turned = follow_turns.steps source count (FileIs source count w.copy) (small count h.few) (of_fits count) fronts (w.to_follow w.follow_link) e w.following h.following
      (λ going. flows_same (IsOf source count) _ _ (ap (λ (xs : List ℕ). xs ++ w.to_follow w.follow_link) (sym same)) (h.follow_reads going)) in
      (count, omega arith, follow_took skip count w _ w.to_follow (w.to_follow w.follow_link) (beside count w h) refl (λ k beyond. refl) turned, turned.acts)

  follow_opens : (skip count now_count base : ℕ) (now : List ℕ) (w : World) → Holds source count w → w.following.awaits ≡ waits.File base → Opens base w.copy now now_count → Goes count (FollowOpens now now_count skip) w
  follow_opens skip count now_count base now w h awaits opens =
      let same = opens.same (take count source.payloads) h.has in
      let base_is = h.following.file base awaits in
      let file : FileIs source count now =
      (opens.head, subst (λ (b : ℕ). IsHeader b opens.head) base_is opens.is_header, subst (λ (ps : List (List ℕ)). Stands opens.head ps now) same opens.stands) in
      let few = h.few in
      let counted : now_count ≡ count = opens.count_is ∙ ap length same ∙ omega (arith, length-take count source.payloads, few) in
      let turned = going_on source count (FileIs source count now) (small count h.few) (of_fits count) fronts (w.to_follow w.follow_link) (record w.following { opened = true; count = now_count }) h.following.done file refl counted
      (λ going. h.follow_reads going) in (
        count,
        omega arith,
        follow_took skip count (record w { copy = now }) _ w.to_follow (w.to_follow w.follow_link)
            (record { few = h.few; has = (source.base, inl file); shipping = h.shipping; ship_reads = h.ship_reads; ship_later = h.ship_later; follow_later = h.follow_later })
            refl (λ k beyond. refl) turned,
        turned.acts,
      )

  follow_appends : (skip count : ℕ) (payload now : List ℕ) (w : World) → Holds source count w → w.following.awaits ≡ waits.Append payload → Appends payload w.copy now → Goes count (FollowAppends now skip) w
  follow_appends skip count payload now w h awaits appends =
      let a = h.following.append payload awaits in
      let inside = a.1 in
      let f = h.following.holds a.0 in
      let next = take-suc source.payloads count [] inside in
      let pushed = ap (λ (p : List ℕ). take count source.payloads ++ p ∷ []) a.2 ∙ sym next in
      let file : FileIs source (suc count) now = (f.0, f.1, subst (λ (ps : List (List ℕ)). Stands f.0 ps now) pushed (appends source.base f.0 (take count source.payloads) f.1 f.2)) in
      let before = h.following.counts a.0 in
      let counted : w.following.count + 1 ≡ suc count = omega (arith, before) in
      let few : suc count ≤ total_of source = omega (arith, inside) in
      let up : count ≤ suc count = omega arith in
      let turned = going_on source (suc count) (FileIs source (suc count) now) (small (suc count) few) (of_fits (suc count)) fronts (w.to_follow w.follow_link) (record w.following { count = w.following.count + 1 })
      (λ e. let d = h.following.done e in omega (arith, d)) file a.0 counted
      (λ going. flows_weaker (IsOf source count) (IsOf source (suc count)) _ (grown_of source count (suc count) up) (h.follow_reads going)) in (
        suc count,
        up,
        follow_took skip (suc count) (record w { copy = now }) _ w.to_follow (w.to_follow w.follow_link)
            (record {
              few = few;
              has = (source.base, inl file);
              shipping = record { base_is = h.shipping.base_is; total_is = h.shipping.total_is; done = λ e. let d = h.shipping.done e in omega (arith, d) };
              ship_reads = λ going. flows_weaker (IsHaveTo count) (IsHaveTo (suc count)) _ (grown count (suc count) up) (h.ship_reads going);
              ship_later = λ k beyond. flows_weaker (IsHaveTo count) (IsHaveTo (suc count)) _ (grown count (suc count) up) (h.ship_later k beyond);
              follow_later = λ k beyond. flows_weaker (IsOf source count) (IsOf source (suc count)) _ (grown_of source count (suc count) up) (h.follow_later k beyond);
            })
            refl (λ k beyond. refl) turned,
        turned.acts,
      )

  -- each image has at least what the copy has
  left : (count : ℕ) (copy image : List ℕ) (awaits : Awaits) → count ≤ total_of source → OpensAs (take count source.payloads) copy
      → ((payload : List ℕ) → awaits ≡ waits.Append payload → FileIs source count copy × (count < total_of source) × (payload ≡ payload_at source count))
      → Leaves awaits copy image → HasAtLeast source count image
  left count copy image waits.Link few has append is = (count, omega arith, (few, subst (λ (xs : List ℕ). OpensAs (take count source.payloads) xs) (sym is) has))
  left count copy image (waits.File base) few has append is = (count, omega arith, (few, is (take count source.payloads) has))
  left count copy image (waits.Append payload) few has append is =
      let a = append payload refl in
      let inside = a.1 in
      let next = take-suc source.payloads count [] inside in
      let pushed = ap (λ (p : List ℕ). take count source.payloads ++ p ∷ []) a.2 ∙ sym next in
      ⊎_elim
      (λ old. (count, omega arith, (few, (source.base, inl (a.0.0, a.0.1, old)))))
      (λ new. (suc count, omega arith, (omega (arith, inside), (source.base, inl (a.0.0, a.0.1, subst (λ (ps : List (List ℕ)). Stands a.0.0 ps image) pushed new)))))
      (is source.base a.0.0 (take count source.payloads) a.0.1 a.0.2)

  pub images : (count : ℕ) (w : World) (image : List ℕ) → Holds source count w → Leaves w.following.awaits w.copy image → HasAtLeast source count image
  images count w image h is =
      left count w.copy image w.following.awaits h.few h.has (λ payload e. let a = h.following.append payload e in (h.following.holds a.0, a.1, a.2)) is

  fresh_follow : (count tries : ℕ) (File : Type 0) → FollowGood source count File (new_follow tries)
  fresh_follow count tries File = record {
    holds = λ e. absurd (cc e);
    done = λ e. absurd (cc e);
    counts = λ e. absurd (cc e);
    based = λ e. absurd (cc e);
    file = λ base e. absurd (cc e);
    append = λ payload e. absurd (cc e);
  }

  follow_crashes : (skip tries count : ℕ) (image : List ℕ) (w : World) → Holds source count w → Leaves w.following.awaits w.copy image → Goes count (FollowCrashes image tries skip) w
  follow_crashes skip tries count image w h is =
      let l = images count w image h is in
      let up = l.1 in (
        l.0,
        up,
        record {
          few = l.2.0;
          has = l.2.1;
          shipping = record { base_is = h.shipping.base_is; total_is = h.shipping.total_is; done = λ e. let d = h.shipping.done e in omega (arith, d, up) };
          following = fresh_follow l.0 tries (FileIs source l.0 image);
          ship_reads = λ going. flows_weaker (IsHaveTo count) (IsHaveTo l.0) _ (grown count l.0 up) (h.ship_reads going);
          ship_later = λ k beyond. flows_weaker (IsHaveTo count) (IsHaveTo l.0) _ (grown count l.0 up) (h.ship_later k beyond);
          follow_reads = λ going. flows_weaker (IsOf source count) (IsOf source l.0) _ (grown_of source count l.0 up) (h.follow_later (w.follow_link + 1 + skip) (omega arith));
          follow_later = λ k beyond. flows_weaker (IsOf source count) (IsOf source l.0) _ (grown_of source count l.0 up) (h.follow_later k (omega (arith, beyond)));
        },
        tt,
      )

  pub goes : (step : Step) (count : ℕ) (w : World) → Holds source count w → Allowed step w → Goes count step w
  goes (ShipGets n skip) count w h allowed = (count, omega arith, ship_goes skip count n w h, tt)
  goes (ShipIdles skip) count w h allowed = (count, omega arith, ship_quiet skip count w h event.Idle refl, tt)
  goes (ShipLoses skip) count w h allowed = (count, omega arith, ship_quiet skip count w h event.End refl, tt)
  goes (ShipRestarts tries skip) count w h allowed = (count, omega arith, ship_restarts skip tries count w h, tt)
  goes (FollowGets n skip) count w h allowed = follow_goes skip count n w h
  goes (FollowIdles skip) count w h allowed = follow_quiet skip count w h event.Idle refl
  goes (FollowLoses skip) count w h allowed = follow_quiet skip count w h event.End refl
  goes (FollowOpens now opened skip) count w h (base, awaits, opens) = follow_opens skip count opened base now w h awaits opens
  goes (FollowAppends now skip) count w h (payload, awaits, appends) = follow_appends skip count payload now w h awaits appends
  goes (FollowRefuses skip) count w h allowed = follow_quiet skip count w h event.End refl
  goes (FollowCrashes image tries skip) count w h allowed = follow_crashes skip tries count image w h allowed

  pub at_first : (count : ℕ) (copy : List ℕ) (ship_tries follow_tries : ℕ) → HasFirst source count copy → Holds source count (first source copy ship_tries follow_tries)
  at_first count copy ship_tries follow_tries has = record {
    few = has.0;
    has = has.1;
    shipping = record { base_is = refl; total_is = refl; done = λ e. absurd (cc e) };
    following = fresh_follow count follow_tries (FileIs source count copy);
    ship_reads = λ going. nothing (IsHaveTo count);
    ship_later = λ k beyond. nothing (IsHaveTo count);
    follow_reads = λ going. nothing (IsOf source count);
    follow_later = λ k beyond. nothing (IsOf source count);
  }
