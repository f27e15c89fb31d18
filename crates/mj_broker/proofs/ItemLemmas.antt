-- Items of a stream one by one, with the stores around their steps.
use Rattle.std.proofs.Common.{◌≡◌, ◌<◌, ◌+◌, ℕ, zero, suc, Bool, true, false, cond, ◌==◌, length, get_or, add-one, drop-cons, List, [], ◌∷◌, ◌++◌, drop, Option, None, Some, refl, sym, ap, subst, ◌∙◌, inl, inr}
use Rattle.mj_base.specs.declared.event.Out.{Out}
use Rattle.mj_disk.specs.declared.disk.Disk.{Ghosts}
use Rattle.mj_wire.specs.declared.item.WireItem.{WireItem}
use Rattle.mj_wire.specs.declared.item.WireItem.TheVariants as items
use Rattle.mj_machine.specs.StoreState.{Store}
use Rattle.mj_machine.specs.MachineState.{Act, State, Whole}
use Rattle.mj_machine.specs.Acts.{Doing, each, ◌then◌}
use Rattle.mj_machine.specs.Connections.{connection_of, number_on}
use Rattle.mj_machine.specs.DiskActs.{routes}
use Rattle.mj_machine.specs.EventStep.{Gains, Opens, closes_on, effect, gains, happens, item_step, opened, opens}
use Rattle.mj_machine.specs.declared.connection.Connection.{Connection}
use Rattle.mj_machine.specs.declared.connection.Role.TheVariants.{Fresh}
use Rattle.mj_keeper.specs.declared.keeper.Shelf.{Shelf}
use Rattle.mj_routing.specs.Staying.{StaysBeside}
use Rattle.mj_machine.specs.MessageStep.{message_step, said_in, says_by}
use Rattle.mj_machine.specs.Pairing.{settles}
use Rattle.mj_machine.specs.Steps.{IsChain, Step, effect_steps, gain_steps, item_steps, settle_steps, stores_in}
use Rattle.mj_machine.specs.declared.said.Said.{Said}
use Rattle.mj_machine.proofs.StepLemmas.{reads-effect, reads-item}
use Rattle.mj_keeper.specs.Standing.{IsOneOf, MayLeave}
use Rattle.mj_routing.proofs.PlainLemmas.{beside-then}
use Rattle.mj_titanic.specs.Acting.{Did, IsAt, Stopped, around, nowhere, seen}
use Rattle.mj_titanic.specs.declared.fault.ActFault.{ActFault}
use Rattle.mj_titanic.specs.declared.parts.Parts.{Parts}
use Rattle.mj_titanic.proofs.Composing.{did-as, did-nothing, did-stopped, did-then, one-of-first, stopped-as}
use Rattle.mj_titanic.proofs.Continuing.{KeepsStore}
use Rattle.mj_titanic.proofs.Rowing.{did-among, stopped-among}
use Rattle.mj_broker.specs.Acting.{Acted, around_item, as_it_is, stores_around, stores_each, stores_while}
use Rattle.mj_broker.specs.Bodies.{AreShort, IsShortItem}
use Rattle.mj_broker.specs.BrokerState.{AreAmong}

pub stores-append : (xs ys : List Step) → stores_in (xs ++ ys) ≡ stores_in xs ++ stores_in ys
stores-append [] ys = refl
stores-append (t ∷ xs) ys = ap (λ (ss : List Store). t.before.store ∷ t.after.store ∷ ss) (stores-append xs ys)

one-of-both : (xs ys : List Store) (zs : List Store) → AreAmong xs zs → AreAmong ys zs → AreAmong (xs ++ ys) zs
one-of-both [] ys zs first second image is = second image is
one-of-both (x ∷ xs) ys zs first second image (inl here) = first image (inl here)
one-of-both (x ∷ xs) ys zs first second image (inr there) = one-of-both xs ys zs (λ i is. first i (inr is)) second image there

-- where a chain ends there is the store in front of it, or one around its steps
end-in : (w end : Whole) (steps : List Step) → IsChain w steps end → AreAmong (end.store ∷ []) (w.store ∷ stores_in steps)
end-in w end [] chain image (inl here) = inl (subst (λ (s : Store). MayLeave s image) chain.store here)
end-in w end [] chain image (inr none) = absurd none
end-in w end (t ∷ steps) chain image is = inr (inr (end-in t.after end steps chain.1 image is))

module _ {D : Type 0} (disks : Ghosts D) where
  -- ---- a change of what is routed, and then settling

  module _ (old : Parts) (disk : D) (f : Act) (keeps : KeepsStore f) where
    settled-among : (w : Whole) → AreAmong (around f w ++ as_it_is (f w).0) (as_it_is w)
    settled-among w image (inl one) = inl one
    settled-among w image (inr (inl two)) = inl (subst (λ (s : Store). MayLeave s image) (keeps w) two)
    settled-among w image (inr (inr (inl three))) = inl (subst (λ (s : Store). MayLeave s image) (keeps w) three)
    settled-among w image (inr (inr (inr none))) = absurd none

    pub settled-acted : (mid : Parts) (between : D) (new : Parts) (after : D) (before outs_mid outs : List Out) → Acted disks old disk mid between before outs_mid f (around f)
        → Acted disks mid between new after outs_mid outs settles as_it_is → Acted disks old disk new after before outs (λ w. f w then settles) as_it_is
    settled-acted mid between new after before outs_mid outs one two = record {
      did = did-among disks (seen old) disk (seen new) after before outs (λ w. f w then settles) (λ w. around f w ++ as_it_is (f w).0) as_it_is
          (did-then disks (seen old) disk (seen mid) between before outs_mid f (around f) one.did (seen new) after outs settles as_it_is two.did) (λ w at. settled-among w);
      sound = two.sound;
      stays = beside-then old.keeping.keeper.shelf mid.keeping.keeper.shelf new.keeping.keeper.shelf old.routing mid.routing new.routing one.stays two.stays;
    }

    pub settled-stopped : (mid : Parts) (between : D) (before outs_mid : List Out) (fault : ActFault) (after : D) → Acted disks old disk mid between before outs_mid f (around f)
        → Stopped disks fault (seen mid) between after as_it_is → Stopped disks fault (seen old) disk after as_it_is
    settled-stopped mid between before outs_mid fault after one two =
        stopped-among disks fault (seen old) disk after (λ w. around f w ++ as_it_is (f w).0) as_it_is
        (did-stopped disks (seen old) disk (seen mid) between before outs_mid f (around f) one.did fault after settles as_it_is two) (λ w at. settled-among w)

    pub settled-first : (fault : ActFault) (after : D) → Stopped disks fault (seen old) disk after (around f) → Stopped disks fault (seen old) disk after as_it_is
    settled-first fault after one =
        stopped-among disks fault (seen old) disk after (around f) as_it_is one (λ w at image is. settled-among w image (one-of-first (around f w) (as_it_is (f w).0) image is))

  -- ---- a message

  module _ (old : Parts) (disk : D) (n : ℕ) (message : List (List ℕ)) (said : Said) (read : said ≡ said_in message) where
    abbrev says : Act
    says w = says_by n (connection_of n old.routing.connections) said w

    says-is : (w : Whole) → IsAt disks (seen old) disk w → says w ≡ says_by n (connection_of n w.routing.connections) (said_in message) w
    says-is w at =
        ap (λ (s : State). says_by n (connection_of n s.connections) said w) at.routing ∙ ap (λ (x : Said). says_by n (connection_of n w.routing.connections) x w) read

    around-is : (w : Whole) → IsAt disks (seen old) disk w → AreAmong (around says w) (around_item n (items.Message message) w)
    around-is w at image (inl one) = inl one
    around-is w at image (inr (inl two)) = inr (inl (subst (λ (d : Doing Whole Out). MayLeave d.0.store image) (says-is w at) two))
    around-is w at image (inr (inr none)) = absurd none

    then-is : (w : Whole) → IsAt disks (seen old) disk w → AreAmong (around says w ++ as_it_is (says w).0) (around_item n (items.Message message) w)
    then-is w at = one-of-both (around says w) (as_it_is (says w).0) (around_item n (items.Message message) w) (around-is w at) (λ image is. around-is w at image (inr is))

    pub message-acted : (mid : Parts) (between : D) (new : Parts) (after : D) (before outs_mid outs : List Out) → Acted disks old disk mid between before outs_mid (says_by n (connection_of n old.routing.connections) said) (around (says_by n (connection_of n old.routing.connections) said))
        → Acted disks mid between new after outs_mid outs settles as_it_is → Acted disks old disk new after before outs (message_step n message) (around_item n (items.Message message))
    message-acted mid between new after before outs_mid outs one two = record {
      did = did-among disks (seen old) disk (seen new) after before outs (message_step n message) (λ w. around says w ++ as_it_is (says w).0) (around_item n (items.Message message))
          (did-as disks (seen old) disk (seen new) after before outs (λ w. says w then settles) (message_step n message) (λ w. around says w ++ as_it_is (says w).0) (λ w. around says w ++ as_it_is (says w).0)
          (did-then disks (seen old) disk (seen mid) between before outs_mid says (around says) one.did (seen new) after outs settles as_it_is two.did)
          (λ w at. ap (λ (d : Doing Whole Out). d then settles) (says-is w at)) (λ w at. refl))
          then-is;
      sound = two.sound;
      stays = beside-then old.keeping.keeper.shelf mid.keeping.keeper.shelf new.keeping.keeper.shelf old.routing mid.routing new.routing one.stays two.stays;
    }

    pub message-stopped : (mid : Parts) (between : D) (before outs_mid : List Out) (fault : ActFault) (after : D) → Acted disks old disk mid between before outs_mid (says_by n (connection_of n old.routing.connections) said) (around (says_by n (connection_of n old.routing.connections) said))
        → Stopped disks fault (seen mid) between after as_it_is → Stopped disks fault (seen old) disk after (around_item n (items.Message message))
    message-stopped mid between before outs_mid fault after one two =
        stopped-among disks fault (seen old) disk after (λ w. around says w ++ as_it_is (says w).0) (around_item n (items.Message message))
        (did-stopped disks (seen old) disk (seen mid) between before outs_mid says (around says) one.did fault after settles as_it_is two) then-is

    pub message-first : (fault : ActFault) (after : D) → Stopped disks fault (seen old) disk after (around (says_by n (connection_of n old.routing.connections) said)) → Stopped disks fault (seen old) disk after (around_item n (items.Message message))
    message-first fault after one = stopped-among disks fault (seen old) disk after (around says) (around_item n (items.Message message)) one around-is

  -- ---- items

  module _ (old : Parts) (disk : D) (n : ℕ) (item : WireItem) (rest : List WireItem) where
    stores-are : (w : Whole) → around_item n item w ++ stores_each n rest (item_step n item w).0 ≡ stores_each n (item ∷ rest) w
    stores-are w =
        ap (λ (v : Whole). around_item n item w ++ stores_each n rest v) (sym (reads-item n item w).state)
        ∙ sym (stores-append (item_steps n item w).1 (each (item_steps n) rest (item_steps n item w).0).1)

    pub item-did : (mid : Parts) (between : D) (new : Parts) (after : D) (before outs_mid outs : List Out) → Did disks (seen old) disk (seen mid) between before outs_mid (item_step n item) (around_item n item)
        → Did disks (seen mid) between (seen new) after outs_mid outs (each (item_step n) rest) (stores_each n rest) → Did disks (seen old) disk (seen new) after before outs (each (item_step n) (item ∷ rest)) (stores_each n (item ∷ rest))
    item-did mid between new after before outs_mid outs one two =
        did-as disks (seen old) disk (seen new) after before outs (λ w. item_step n item w then each (item_step n) rest) (each (item_step n) (item ∷ rest)) (λ w. around_item n item w ++ stores_each n rest (item_step n item w).0) (stores_each n (item ∷ rest))
        (did-then disks (seen old) disk (seen mid) between before outs_mid (item_step n item) (around_item n item) one (seen new) after outs (each (item_step n) rest) (stores_each n rest) two)
        (λ w at. refl) (λ w at. stores-are w)

    pub item-stopped : (mid : Parts) (between : D) (before outs_mid : List Out) (fault : ActFault) (after : D) → Did disks (seen old) disk (seen mid) between before outs_mid (item_step n item) (around_item n item)
        → Stopped disks fault (seen mid) between after (stores_each n rest) → Stopped disks fault (seen old) disk after (stores_each n (item ∷ rest))
    item-stopped mid between before outs_mid fault after one two =
        stopped-as disks fault (seen old) disk after (λ w. around_item n item w ++ stores_each n rest (item_step n item w).0) (stores_each n (item ∷ rest))
        (did-stopped disks (seen old) disk (seen mid) between before outs_mid (item_step n item) (around_item n item) one fault after (each (item_step n) rest) (stores_each n rest) two) (λ w at. stores-are w)

    pub item-first : (fault : ActFault) (after : D) → Stopped disks fault (seen old) disk after (around_item n item) → Stopped disks fault (seen old) disk after (stores_each n (item ∷ rest))
    item-first fault after one =
        stopped-among disks fault (seen old) disk after (around_item n item) (stores_each n (item ∷ rest)) one
        (λ w at image is. subst (λ (ss : List Store). IsOneOf ss image) (stores-are w) (one-of-first (around_item n item w) (stores_each n rest (item_step n item w).0) image is))

  -- ---- a stream's gain

  module _ (old : Parts) (disk : D) (lane : ℕ) (found : List WireItem) where
    abbrev gaining : Act
    gaining w = gains (number_on lane old.routing.connections) found w

    gaining-is : (w : Whole) → IsAt disks (seen old) disk w → gaining w ≡ effect (Gains lane found) w
    gaining-is w at = ap (λ (s : State). gains (number_on lane s.connections) found w) at.routing

    around-gain : (w : Whole) → IsAt disks (seen old) disk w → AreAmong (stores_around (number_on lane old.routing.connections) found w) (stores_while (Gains lane found) w)
    around-gain w at image is =
        let here = subst (λ (s : State). IsOneOf (stores_in (gain_steps (number_on lane s.connections) found w).1) image) at.routing is in
        let steps = effect_steps (Gains lane found) w in
        inr (subst (λ (ss : List Store). IsOneOf ss image) (sym (stores-append steps.1 (settle_steps steps.0).1)) (one-of-first (stores_in steps.1) (stores_in (settle_steps steps.0).1) image here))

    behind-gain : (w : Whole) → IsAt disks (seen old) disk w → AreAmong (as_it_is (gaining w).0) (stores_while (Gains lane found) w)
    behind-gain w at image is =
        let reads = reads-effect (Gains lane found) w in
        let steps = effect_steps (Gains lane found) w in
        let end : (gaining w).0 ≡ steps.0 = ap (λ (d : Doing Whole Out). d.0) (gaining-is w at) ∙ sym reads.state in
        let there = end-in w steps.0 steps.1 reads.chain image (subst (λ (v : Whole). IsOneOf (v.store ∷ []) image) end is) in
        subst (λ (ss : List Store). IsOneOf (w.store ∷ ss) image) (sym (stores-append steps.1 (settle_steps steps.0).1)) (one-of-first (w.store ∷ stores_in steps.1) (stores_in (settle_steps steps.0).1) image there)

    gain-among : (w : Whole) → IsAt disks (seen old) disk w → AreAmong (stores_around (number_on lane old.routing.connections) found w ++ as_it_is (gaining w).0) (stores_while (Gains lane found) w)
    gain-among w at =
        one-of-both (stores_around (number_on lane old.routing.connections) found w) (as_it_is (gaining w).0) (stores_while (Gains lane found) w) (around-gain w at) (behind-gain w at)

    pub gain-acted : (mid : Parts) (between : D) (new : Parts) (after : D) (before outs_mid outs : List Out)
        → Acted disks old disk mid between before outs_mid (gains (number_on lane old.routing.connections) found) (stores_around (number_on lane old.routing.connections) found)
        → Acted disks mid between new after outs_mid outs settles as_it_is → Acted disks old disk new after before outs (happens (Gains lane found)) (stores_while (Gains lane found))
    gain-acted mid between new after before outs_mid outs one two = record {
      did = did-among disks (seen old) disk (seen new) after before outs (happens (Gains lane found)) (λ w. stores_around (number_on lane old.routing.connections) found w ++ as_it_is (gaining w).0) (stores_while (Gains lane found))
          (did-as disks (seen old) disk (seen new) after before outs (λ w. gaining w then settles) (happens (Gains lane found))
          (λ w. stores_around (number_on lane old.routing.connections) found w ++ as_it_is (gaining w).0) (λ w. stores_around (number_on lane old.routing.connections) found w ++ as_it_is (gaining w).0)
          (did-then disks (seen old) disk (seen mid) between before outs_mid gaining (stores_around (number_on lane old.routing.connections) found) one.did (seen new) after outs settles as_it_is two.did)
          (λ w at. ap (λ (d : Doing Whole Out). d then settles) (gaining-is w at)) (λ w at. refl))
          gain-among;
      sound = two.sound;
      stays = beside-then old.keeping.keeper.shelf mid.keeping.keeper.shelf new.keeping.keeper.shelf old.routing mid.routing new.routing one.stays two.stays;
    }

    pub gain-stopped : (mid : Parts) (between : D) (before outs_mid : List Out) (fault : ActFault) (after : D)
        → Acted disks old disk mid between before outs_mid (gains (number_on lane old.routing.connections) found) (stores_around (number_on lane old.routing.connections) found)
        → Stopped disks fault (seen mid) between after as_it_is → Stopped disks fault (seen old) disk after (stores_while (Gains lane found))
    gain-stopped mid between before outs_mid fault after one two =
        stopped-among disks fault (seen old) disk after (λ w. stores_around (number_on lane old.routing.connections) found w ++ as_it_is (gaining w).0) (stores_while (Gains lane found))
        (did-stopped disks (seen old) disk (seen mid) between before outs_mid gaining (stores_around (number_on lane old.routing.connections) found) one.did fault after settles as_it_is two) gain-among

    pub gain-first : (fault : ActFault) (after : D) → Stopped disks fault (seen old) disk after (stores_around (number_on lane old.routing.connections) found) → Stopped disks fault (seen old) disk after (stores_while (Gains lane found))
    gain-first fault after one = stopped-among disks fault (seen old) disk after (stores_around (number_on lane old.routing.connections) found) (stores_while (Gains lane found)) one around-gain

-- ---- one by one

pub items-none : {D : Type 0} (disks : Ghosts D) (old : Parts) (disk : D) (before : List Out) (n : ℕ) (left : List WireItem) → left ≡ []
    → Did disks (seen old) disk (seen old) disk before before (each (item_step n) left) (stores_each n left)
items-none disks old disk before n left none =
    subst (λ (xs : List WireItem). Did disks (seen old) disk (seen old) disk before before (each (item_step n) xs) (stores_each n xs)) (sym none) (did-nothing disks (seen old) disk before)

pub short-at : (found : List WireItem) (i : ℕ) (item : WireItem) (rest : List WireItem) → AreShort found → drop i found ≡ item ∷ rest → IsShortItem item
short-at found zero item rest short is = (subst AreShort is short).0
short-at [] (suc i) item rest short is = cc
short-at (x ∷ found) (suc i) item rest short is = short-at found i item rest short.1 is

pub next-item : (found : List WireItem) (i : ℕ) (item : WireItem) → i < length found → item ≡ get_or found i item → drop i found ≡ item ∷ drop (i + 1) found
next-item found i item less is = rw add-one (drop-cons found i item less ∙ ap (λ (x : WireItem). x ∷ drop (suc i) found) (sym is))

-- ---- an opening

abbrev fresh : ℕ → ℕ → Connection
fresh lane n = record { lane = lane; number = n; role = Fresh; outstanding = [] }

-- an added connection has its own number
pub absent-behind : (n : ℕ) (cs : List Connection) (c : Connection) → (c.number == n) ≡ false → connection_of n cs ≡ None → connection_of n (cs ++ c ∷ []) ≡ None
absent-behind n [] c apart none = rw apart refl
absent-behind n (d ∷ cs) c apart none = by (d.number == n) none (absent-behind n cs c apart)
  where
    by : (b : Bool) → cond {A = Option Connection} b (Some d) (connection_of n cs) ≡ None → (connection_of n cs ≡ None → connection_of n (cs ++ c ∷ []) ≡ None)
        → cond {A = Option Connection} b (Some d) (connection_of n (cs ++ c ∷ [])) ≡ None
    by true found rest = found
    by false found rest = rest found

absent-parts : (n : ℕ) (cs : List Connection) (c : Connection) → connection_of n (cs ++ c ∷ []) ≡ None → (connection_of n cs ≡ None) × ((c.number == n) ≡ false)
absent-parts n [] c none = (refl, of (c.number == n) none)
  where
    of : (b : Bool) → cond {A = Option Connection} b (Some c) None ≡ None → b ≡ false
    of true e = cc
    of false e = refl
absent-parts n (d ∷ cs) c none = by (d.number == n) none (absent-parts n cs c)
  where
    by : (b : Bool) → cond {A = Option Connection} b (Some d) (connection_of n (cs ++ c ∷ [])) ≡ None → (connection_of n (cs ++ c ∷ []) ≡ None → (connection_of n cs ≡ None) × ((c.number == n) ≡ false))
        → (cond {A = Option Connection} b (Some d) (connection_of n cs) ≡ None) × ((c.number == n) ≡ false)
    by true found rest = cc found
    by false found rest = rest found

-- what is there behind an opening where another connection has left first
pub opened-stays : (lane : ℕ) (shelf one two three : Shelf) (s t u v : State) → StaysBeside shelf one s t → StaysBeside one two (opened lane t) u → StaysBeside two three u v → StaysBeside shelf three (opened lane s) v
opened-stays lane shelf one two three s t u v first second third =
    beside-then shelf two three (opened lane s) u v (beside-then shelf one two (opened lane s) (opened lane t) u (opens-both first) second) third
  where
    next-same : StaysBeside shelf one s t → t.next ≡ s.next
    next-same stays = stays.next

    last : (n : ℕ) (stays : StaysBeside shelf one s t) → connection_of n (s.connections ++ fresh lane s.next ∷ []) ≡ None → connection_of n (t.connections ++ fresh lane t.next ∷ []) ≡ None
    last n stays none =
        let parts = absent-parts n s.connections (fresh lane s.next) none in
        subst (λ (k : ℕ). connection_of n (t.connections ++ fresh lane k ∷ []) ≡ None) (sym stays.next) (absent-behind n t.connections (fresh lane s.next) parts.1 (stays.absent n parts.0))

    opens-both : StaysBeside shelf one s t → StaysBeside shelf one (opened lane s) (opened lane t)
    opens-both stays = record {
      limits = stays.limits;
      next = ap (λ (n : ℕ). n + 1) stays.next;
      absent = λ n none. last n stays none;
      queue = stays.queue;
    }

module _ {D : Type 0} (disks : Ghosts D) (old : Parts) (disk : D) (lane : ℕ) (mid : Parts) (between : D) where
  open-among : (w : Whole) → AreAmong ((around (routes (closes_on lane)) w ++ []) ++ as_it_is w) (as_it_is w)
  open-among w image (inl one) = inl one
  open-among w image (inr (inl two)) = inl two
  open-among w image (inr (inr (inl three))) = inl three
  open-among w image (inr (inr (inr none))) = absurd none

  pub opened-did : (third : Parts) (later : D) (new : Parts) (after : D) (before outs_mid outs_third outs : List Out) → Acted disks old disk mid between before outs_mid (routes (closes_on lane)) (around (routes (closes_on lane)))
      → Did disks (seen mid) between (seen third) later outs_mid outs_third (routes (opens lane)) nowhere → Did disks (seen third) later (seen new) after outs_third outs settles as_it_is
      → Did disks (seen old) disk (seen new) after before outs (happens (Opens lane)) as_it_is
  opened-did third later new after before outs_mid outs_third outs one two three =
      let both = did-then disks (seen old) disk (seen mid) between before outs_mid (routes (closes_on lane)) (around (routes (closes_on lane))) one.did (seen third) later outs_third (routes (opens lane)) nowhere two in
      did-among disks (seen old) disk (seen new) after before outs (happens (Opens lane)) (λ w. (around (routes (closes_on lane)) w ++ []) ++ as_it_is w) as_it_is
      (did-then disks (seen old) disk (seen third) later before outs_third (λ w. routes (closes_on lane) w then routes (opens lane)) (λ w. around (routes (closes_on lane)) w ++ []) both (seen new) after outs settles as_it_is three)
      (λ w at. open-among w)

  pub opened-greeted : (before outs_mid : List Out) (fault : ActFault) (after : D) → Acted disks old disk mid between before outs_mid (routes (closes_on lane)) (around (routes (closes_on lane)))
      → Stopped disks fault (seen mid) between after nowhere → Stopped disks fault (seen old) disk after as_it_is
  opened-greeted before outs_mid fault after one two =
      stopped-among disks fault (seen old) disk after (λ w. around (routes (closes_on lane)) w ++ []) as_it_is
      (did-stopped disks (seen old) disk (seen mid) between before outs_mid (routes (closes_on lane)) (around (routes (closes_on lane))) one.did fault after (routes (opens lane)) nowhere two)
      (λ w at image is. open-among w image (one-of-first (around (routes (closes_on lane)) w ++ []) (as_it_is w) image is))

  pub opened-stopped : (third : Parts) (later : D) (before outs_mid outs_third : List Out) (fault : ActFault) (after : D) → Acted disks old disk mid between before outs_mid (routes (closes_on lane)) (around (routes (closes_on lane)))
      → Did disks (seen mid) between (seen third) later outs_mid outs_third (routes (opens lane)) nowhere → Stopped disks fault (seen third) later after as_it_is
      → Stopped disks fault (seen old) disk after as_it_is
  opened-stopped third later before outs_mid outs_third fault after one two three =
      let both = did-then disks (seen old) disk (seen mid) between before outs_mid (routes (closes_on lane)) (around (routes (closes_on lane))) one.did (seen third) later outs_third (routes (opens lane)) nowhere two in
      stopped-among disks fault (seen old) disk after (λ w. (around (routes (closes_on lane)) w ++ []) ++ as_it_is w) as_it_is
      (did-stopped disks (seen old) disk (seen third) later before outs_third (λ w. routes (closes_on lane) w then routes (opens lane)) (λ w. around (routes (closes_on lane)) w ++ []) both fault after settles as_it_is three)
      (λ w at. open-among w)
