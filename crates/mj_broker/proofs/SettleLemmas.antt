-- Settling pair by pair, and what a crash may leave of it.
use Rattle.std.proofs.Common.{◌≡◌, ◌+◌, ◌<◌, ℕ, Bool, true, false, List, [], ◌∷◌, ◌++◌, length, Option, None, Some, refl, sym, ap, subst, ◌∙◌, inl, inr, arith, append-nil, MatchOption}
use Rattle.std.proofs.lemmas.List.{append_cancel_left}
use Rattle.std.specs.Option.{is_some, option_map}
use Rattle.std.specs.List.{list_any}
use Rattle.mj_base.specs.declared.event.Note.{Note}
use Rattle.mj_base.specs.declared.event.Out.{Out}
use Rattle.mj_disk.specs.declared.disk.Disk.{Ghosts}
use Rattle.mj_queue.specs.Offers.{offer_of}
use Rattle.mj_queue.specs.PairLaw.{IsPair}
use Rattle.mj_queue.specs.Settling.{Pair, has_waiter, is_of_client, pair}
use Rattle.mj_queue.specs.declared.request.Request.{Request}
use Rattle.mj_queue.specs.declared.worker.Waiter.{Waiter}
use Rattle.mj_queue.proofs.LawLemmas.{pair-is-first}
use Rattle.mj_queue.specs.declared.offer.Offer.{Offer}
use Rattle.mj_queue.specs.declared.request.Origin.{Origin}
use Rattle.mj_queue.specs.declared.request.Origin.TheVariants as origins
use Rattle.mj_tickets.specs.declared.command.TicketCmd.{TicketCmd}
use Rattle.mj_store.specs.Commands.{OpensFor}
use Rattle.mj_tickets.specs.Fold.{ticket_of}
use Rattle.mj_machine.specs.StoreState.{Shut, Store, Told, body_in, ticket_body}
use Rattle.mj_machine.specs.MachineState.{Act, State, Whole}
use Rattle.mj_machine.specs.Acts.{Doing, ◌then◌}
use Rattle.mj_machine.specs.DiskActs.{attempted, counted, fails, notes_in, routes, says_shut}
use Rattle.mj_machine.specs.Pairing.{dispatched, dispatches, hands, passes, settles}
use Rattle.mj_machine.proofs.ListLemmas.{all-rest}
use Rattle.mj_machine.proofs.SettlingLemmas.{settles-none, settles-turn}
use Rattle.mj_keeper.specs.Standing.{IsOpenWith, IsSound, MayLeave, Sees, StandsBy, told_on}
use Rattle.mj_keeper.specs.declared.keeper.Keeper.{Keeper}
use Rattle.mj_keeper.specs.declared.keeper.Shelf.{Shelf}
use Rattle.mj_keeper.specs.declared.keeper.Shelf.TheVariants as shelves
use Rattle.mj_routing.specs.RoutingState.{Does, Gives}
use Rattle.mj_routing.specs.Staying.{IsQueueOf, OnlyClients}
use Rattle.mj_routing.proofs.FewerLemmas.{fewer-hands}
use Rattle.mj_routing.proofs.PlainLemmas.{plain-hands}
use Rattle.mj_titanic.specs.Acting.{Agree, AreOf, Did, Ends, IsAt, Stopped, around, nowhere, seen}
use Rattle.mj_titanic.specs.Services.{next_pair}
use Rattle.mj_titanic.specs.declared.fault.ActFault.{ActFault}
use Rattle.mj_titanic.specs.declared.parts.Parts.{Parts}
use Rattle.mj_titanic.proofs.Composing.{did-as, did-nothing, did-stopped, did-then, goes-more, goes-nowhere}
use Rattle.mj_titanic.proofs.Alike.{none-both}
use Rattle.mj_titanic.proofs.Rowing.{did-among, did-same, stopped-among}
use Rattle.mj_broker.specs.Acting.{Acted, IsNotOpen, IsOfClient, as_it_is}
use Rattle.mj_broker.specs.BrokerState.{AreAmong}
use Rattle.mj_broker.proofs.Lifting.{lifted}

-- ---- a pair leaves the commands

-- the images of one store are among those of another
abbrev IsLess : Store → Store → Type 0
IsLess now before = (image : List ℕ) → MayLeave now image → MayLeave before image

less-read : (store : Store) → IsLess (record store { access = Shut None }) store
less-read store image (inl plain) = inl plain
less-read store image (inr doubt) = inl (subst (λ (cs : List TicketCmd). OpensFor store.base cs image) (append-nil store.commands) doubt)

read-less : (b : Bool) (failed done : Act) (w : Whole) → ((v : Whole) → (failed v).0.store ≡ v.store) → ((v : Whole) → (done v).0.store ≡ v.store) → IsLess (attempted b None failed done w).0.store w.store
read-less true failed done w one two image is = less-read w.store image (subst (λ (s : Store). MayLeave s image) (one _) is)
read-less false failed done w one two image is = subst (λ (s : Store). MayLeave s image) (two (counted w)) is

dispatched-less : (origin : Origin) (p : Pair) (w : Whole) → IsLess (dispatched origin p w).0.store w.store
dispatched-less (origins.Client n) p w image is = is
dispatched-less (origins.Ticket n) p w image is = read-less (fails w) (routes (passes p)) (routes (hands (ticket_body n w.store) p)) w (λ v. refl) (λ v. refl) image is

next-less : (w : Whole) → IsLess (next_pair w).0.store w.store
next-less w = by (pair w.routing.waiting w.routing.queue)
  where
    by : (o : Option Pair) → IsLess (dispatches o w).0.store w.store
    by None image is = is
    by (Some p) image is = dispatched-less p.request.origin p w image is

pub pair-among : (w : Whole) → AreAmong (around next_pair w) (as_it_is w)
pair-among w image (inl one) = inl one
pair-among w image (inr (inl two)) = inl (next-less w image two)
pair-among w image (inr (inr none)) = absurd none

then-among : (w : Whole) → AreAmong (around next_pair w ++ as_it_is (next_pair w).0) (as_it_is w)
then-among w image (inl one) = inl one
then-among w image (inr (inl two)) = inl (next-less w image two)
then-among w image (inr (inr (inl three))) = inl (next-less w image three)
then-among w image (inr (inr (inr none))) = absurd none

-- ---- one pair, and then the others

pub settles-next : (w : Whole) → (next_pair w then settles) ≡ settles w
settles-next w = of (pair w.routing.waiting w.routing.queue) refl
  where
    of : (o : Option Pair) → pair w.routing.waiting w.routing.queue ≡ o → (next_pair w then settles) ≡ settles w
    of None none = ap (λ (o : Option Pair). dispatches o w then settles) none
    of (Some p) is = ap (λ (o : Option Pair). dispatches o w then settles) is ∙ sym (settles-turn w p is)

module _ {D : Type 0} (disks : Ghosts D) where
  -- what is left of settling is the whole
  pub next-did : (old : Parts) (disk : D) (mid : Parts) (between : D) (new : Parts) (after : D) (before outs_mid outs : List Out) → Did disks (seen old) disk (seen mid) between before outs_mid next_pair (around next_pair)
      → Did disks (seen mid) between (seen new) after outs_mid outs settles as_it_is → Did disks (seen old) disk (seen new) after before outs settles as_it_is
  next-did old disk mid between new after before outs_mid outs one two =
      did-among disks (seen old) disk (seen new) after before outs settles (λ w. around next_pair w ++ as_it_is (next_pair w).0) as_it_is
      (did-as disks (seen old) disk (seen new) after before outs (λ w. next_pair w then settles) settles (λ w. around next_pair w ++ as_it_is (next_pair w).0) (λ w. around next_pair w ++ as_it_is (next_pair w).0)
      (did-then disks (seen old) disk (seen mid) between before outs_mid next_pair (around next_pair) one (seen new) after outs settles as_it_is two) (λ w at. settles-next w) (λ w at. refl))
      (λ w at. then-among w)

  pub next-stopped : (old : Parts) (disk : D) (mid : Parts) (between : D) (before outs_mid : List Out) (fault : ActFault) (after : D) → Did disks (seen old) disk (seen mid) between before outs_mid next_pair (around next_pair)
      → Stopped disks fault (seen mid) between after as_it_is → Stopped disks fault (seen old) disk after as_it_is
  next-stopped old disk mid between before outs_mid fault after one two =
      stopped-among disks fault (seen old) disk after (λ w. around next_pair w ++ as_it_is (next_pair w).0) as_it_is
      (did-stopped disks (seen old) disk (seen mid) between before outs_mid next_pair (around next_pair) one fault after settles as_it_is two) (λ w at. then-among w)

  pub pair-stopped : (old : Parts) (disk : D) (fault : ActFault) (after : D) → Stopped disks fault (seen old) disk after (around next_pair) → Stopped disks fault (seen old) disk after as_it_is
  pair-stopped old disk fault after stopped = stopped-among disks fault (seen old) disk after (around next_pair) as_it_is stopped (λ w at. pair-among w)

  -- nothing is left
  pub none-did : (old : Parts) (disk : D) (before : List Out) → pair old.routing.waiting old.routing.queue ≡ None → Did disks (seen old) disk (seen old) disk before before settles as_it_is
  none-did old disk before none =
      did-among disks (seen old) disk (seen old) disk before before settles nowhere as_it_is
      (did-as disks (seen old) disk (seen old) disk before before (λ w. (w, [])) settles nowhere nowhere (did-nothing disks (seen old) disk before)
      (λ w at. sym (settles-none w (ap (λ (s : State). pair s.waiting s.queue) (sym at.routing) ∙ none))) (λ w at. refl))
      (λ w at image none. absurd none)

-- ---- the pair that is offered

pub record Offers (s : State) (offer : Offer) : Type 0 where
  pub chosen : Pair
  pub is : pair s.waiting s.queue ≡ Some chosen
  pub offered : offer_of chosen ≡ offer

pub offer-pair : (s : State) (offer : Offer) → option_map offer_of (pair s.waiting s.queue) ≡ Some offer → Offers s offer
offer-pair s offer e = of (pair s.waiting s.queue) refl e
  where
    of : (o : Option Pair) → pair s.waiting s.queue ≡ o → option_map offer_of o ≡ Some offer → Offers s offer
    of None is e = cc
    of (Some p) is e = record { chosen = p; is = is; offered = cc }

pub no-offer : (s : State) → option_map offer_of (pair s.waiting s.queue) ≡ None → pair s.waiting s.queue ≡ None
no-offer s e = of (pair s.waiting s.queue) e
  where
    of : (o : Option Pair) → option_map offer_of o ≡ None → o ≡ None
    of None e = refl
    of (Some p) e = cc

pub offer-some : (s : State) (offer : Offer) → option_map offer_of (pair s.waiting s.queue) ≡ Some offer → is_some (pair s.waiting s.queue) ≡ true
offer-some s offer e = let is = offer-pair s offer e in ap is_some is.is

-- ---- a client's request, and a ticket's that isn't open

clients-first : (waiting : List Waiter) (requests : List Request) (p : Pair) → OnlyClients requests → pair waiting requests ≡ Some p → is_of_client p.request.origin ≡ true
clients-first waiting requests p clients e =
    let is : IsPair waiting requests p = subst (λ (o : Option Pair). MatchOption o (list_any (has_waiter waiting) requests ≡ false) (IsPair waiting requests)) e (pair-is-first waiting requests) in
    let Ours = λ (r : Request). is_of_client r.origin ≡ true in
    (all-rest Ours is.asked.before (p.request ∷ is.asked.after) (subst OnlyClients is.asked.whole clients)).0

-- a queued ticket that isn't open is one of a store that is
open-queue : (n : ℕ) (p : Pair) (waiting : List Waiter) (queue : List Request) (shelf : Shelf) → p.request.origin ≡ origins.Ticket n → pair waiting queue ≡ Some p → IsQueueOf shelf queue → IsNotOpen n shelf
    → IsOpenWith (λ held. ticket_of n held.index ≡ None) shelf
open-queue n p waiting queue shelves.Absent of is clients closed = let client = clients-first waiting queue p clients is in cc (ap is_of_client of)
open-queue n p waiting queue (shelves.Open held) of is clients closed = closed
open-queue n p waiting queue (shelves.Shut end) of is clients closed = let client = clients-first waiting queue p clients is in cc (ap is_of_client of)

module _ {D : Type 0} (disks : Ghosts D) where
  no-body : (n : ℕ) (keeper : Keeper) (disk : D) (store : Store) → IsOpenWith (λ held. ticket_of n held.index ≡ None) keeper.shelf → Sees disks keeper disk store → ticket_body n store ≡ []
  no-body n keeper disk store closed sees = by keeper.shelf closed sees.stands.by
    where
      by : (shelf : Shelf) → IsOpenWith (λ held. ticket_of n held.index ≡ None) shelf → StandsBy disks keeper.limits shelf disk store → ticket_body n store ≡ []
      by shelves.Absent closed stands = absurd closed
      by (shelves.Open held) closed stands = ap body_in (none-both store held.index stands.3.knows.index_is n closed)
      by (shelves.Shut end) closed stands = absurd closed

  module _ (old : Parts) (disk : D) (sound : IsSound disks old.keeping.keeper disk) where
    client-next : (p : Pair) (w : Whole) → pair w.routing.waiting w.routing.queue ≡ Some p → IsOfClient p.request.origin → routes (hands p.request.body p) w ≡ next_pair w
    client-next p w is client = sym (ap (λ (o : Option Pair). dispatches o w) is ∙ of p.request.origin client)
      where
        of : (o : Origin) → IsOfClient o → dispatched o p w ≡ routes (hands p.request.body p) w
        of (origins.Client n) client = refl
        of (origins.Ticket n) client = absurd client

    pub queued-acted : (new : State) (before outs : List Out) (offer : Offer) → option_map offer_of (pair old.routing.waiting old.routing.queue) ≡ Some offer → IsOfClient offer.origin
        → Gives old.routing (λ p. Does new before outs (hands p.request.body p (told_on old.keeping.keeper.shelf) old.routing))
        → Acted disks old disk (record { routing = new; keeping = old.keeping }) disk before outs next_pair (around next_pair)
    queued-acted new before outs offer offered client given =
        let p = given.0 in
        let there = offer-pair old.routing offer offered in
        let same : Some there.chosen ≡ Some p = sym there.is ∙ given.1 in
        let it : there.chosen ≡ p = cc in
        let origin : offer.origin ≡ p.request.origin = ap (λ (o : Offer). o.origin) (sym there.offered) ∙ ap (λ (q : Pair). q.request.origin) it in
        let one = lifted disks old disk sound new before outs (hands p.request.body p) (plain-hands (told_on old.keeping.keeper.shelf) p.request.body p old.routing given.1) given.2 in
        record {
          did = did-same disks (seen old) disk (seen (record { routing = new; keeping = old.keeping })) disk before outs (routes (hands p.request.body p)) next_pair one.did
              (λ w at. client-next p w (ap (λ (s : State). pair s.waiting s.queue) (sym at.routing) ∙ given.1) (subst IsOfClient origin client));
          sound = one.sound;
          stays = one.stays;
        }

    -- the reading of a ticket that isn't open counts
    pub empty-acted : (new : State) (before outs : List Out) (offer : Offer) (n next : ℕ) → next ≡ old.keeping.acts + 1 → option_map offer_of (pair old.routing.waiting old.routing.queue) ≡ Some offer
        → offer.origin ≡ origins.Ticket n → IsQueueOf old.keeping.keeper.shelf old.routing.queue → IsNotOpen n old.keeping.keeper.shelf
        → Gives old.routing (λ p. Does new before outs (hands [] p (told_on old.keeping.keeper.shelf) old.routing))
        → Acted disks old disk (record { routing = new; keeping = record old.keeping { acts = next } }) disk before outs next_pair (around next_pair)
    empty-acted new before outs offer n next next_is offered of_ticket queue not_open given =
        record {
          did = record {
            added = one.did.added;
            outs_are = one.did.outs_are;
            given = subst (λ (ns : List Note). AreOf old.keeping.acts next ns) (sym quiet_notes) (record { onward = omega (arith, next_is); shut = λ k says. absurd (cc says); found = λ k says. absurd (cc says) });
            ends = λ w at agree.
                let fine = not-failing w at agree in
                let here : IsAt disks (seen mid) disk (counted w) = record { routing = at.routing; limited = at.limited; acts = next_is ∙ ap (λ (k : ℕ). k + 1) at.acts; store = at.store } in
                let e = one.did.ends (counted w) here (λ k low high. absurd (omega (arith, low, high))) in
                let same : Ends disks (seen now) disk one.did.added w (routes (hands [] p) (counted w)) = record { at = e.at; outs = e.outs; notes = e.notes } in
                subst (λ (d : Doing Whole Out). Ends disks (seen now) disk one.did.added w d) (sym (empty-next w at fine)) same;
            crash = λ w at agree. goes-more disks disk disk [] (around next_pair w) (goes-nowhere disks disk disk refl (omega arith));
            count = one.did.count;
            silent = one.did.silent;
            plain = one.did.plain;
          };
          sound = sound;
          stays = one.stays;
        }
      where
        mid : Parts
        mid = record { routing = old.routing; keeping = record old.keeping { acts = next } }

        now : Parts
        now = record { routing = new; keeping = record old.keeping { acts = next } }

        p : Pair
        p = given.0

        one : Acted disks mid disk now disk before outs (routes (hands [] p)) (around (routes (hands [] p)))
        one = lifted disks mid disk sound new before outs (hands [] p) (plain-hands (told_on old.keeping.keeper.shelf) [] p old.routing given.1) given.2

        quiet_notes : notes_in one.did.added ≡ []
        quiet_notes = ap notes_in (append_cancel_left before one.did.added (hands [] p (told_on old.keeping.keeper.shelf) old.routing).1 (sym one.did.outs_are ∙ given.2.outs)) ∙ (plain-hands (told_on old.keeping.keeper.shelf) [] p old.routing given.1).notes

        there : Offers old.routing offer
        there = offer-pair old.routing offer offered

        it : there.chosen ≡ p
        it = let same : Some there.chosen ≡ Some p = sym there.is ∙ given.1 in cc

        origin_is : p.request.origin ≡ origins.Ticket n
        origin_is = ap (λ (q : Pair). q.request.origin) (sym it) ∙ ap (λ (o : Offer). o.origin) there.offered ∙ of_ticket

        not-failing : (w : Whole) → IsAt disks (seen old) disk w → Agree old.keeping.acts next w.notes (notes_in one.did.added) → fails w ≡ false
        not-failing w at agree =
            ap (λ (k : ℕ). list_any (says_shut k) w.notes) (sym at.acts) ∙ (agree old.keeping.acts (omega arith) (omega (arith, next_is))).0 ∙ ap (λ (ns : List Note). list_any (says_shut old.keeping.acts) ns) quiet_notes

        empty-next : (w : Whole) → IsAt disks (seen old) disk w → fails w ≡ false → next_pair w ≡ routes (hands [] p) (counted w)
        empty-next w at fine =
            ap (λ (o : Option Pair). dispatches o w) (ap (λ (s : State). pair s.waiting s.queue) (sym at.routing) ∙ given.1)
            ∙ ap (λ (o : Origin). dispatched o p w) origin_is
            ∙ ap (λ (b : Bool). attempted b None (routes (passes p)) (routes (hands (ticket_body n w.store) p)) w) fine
            ∙ ap (λ (body : List (List ℕ)). routes (hands body p) (counted w)) (no-body n old.keeping.keeper disk w.store (open-queue n p old.routing.waiting old.routing.queue old.keeping.keeper.shelf origin_is given.1 queue not_open) at.store)

pub fewer-given : (told : Told) (s new : State) (before outs : List Out) (body : Pair → List (List ℕ)) → Gives s (λ p. Does new before outs (hands (body p) p told s)) → length new.waiting + length new.queue < length s.waiting + length s.queue
fewer-given told s new before outs body given = subst (λ (t : State). length t.waiting + length t.queue < length s.waiting + length s.queue) (sym given.2.state) (fewer-hands told (body given.0) given.0 s given.1)

-- an offer where there was none
pub was-none : {X : Type 0} (s : State) (offer : Offer) → pair s.waiting s.queue ≡ None → option_map offer_of (pair s.waiting s.queue) ≡ Some offer → X
was-none s offer none some = cc (sym (ap (option_map offer_of) none) ∙ some)
