-- A ticket that is asked for, and what is told of it.
use Rattle.std.proofs.Common.{◌≡◌, ℕ, true, false, List, refl, sym, subst, inl, inr}
use Rattle.mj_base.specs.declared.event.Out.{Out}
use Rattle.mj_disk.specs.declared.disk.Disk.{Ghosts}
use Rattle.mj_ids.specs.Ids.{id_of}
use Rattle.mj_queue.specs.declared.request.Request.{Request}
use Rattle.mj_store.specs.Standing.{StoreValue}
use Rattle.mj_machine.specs.MachineState.{Act, State}
use Rattle.mj_machine.specs.DiskActs.{clients_alone, routes}
use Rattle.mj_machine.specs.TitanicStep.{accepted, accepts, accepts_by, fails_to}
use Rattle.mj_keeper.specs.declared.keeper.Shelf.TheVariants as shelves
use Rattle.mj_keeper.specs.Standing.{IsOpenWith, is_open, told_on}
use Rattle.mj_titanic.specs.declared.accepting.Accepted.{Accepted}
use Rattle.mj_titanic.specs.declared.accepting.Accepted.TheVariants.{Full, Kept, Failed}
use Rattle.mj_titanic.specs.declared.acts.Keeping.{Keeping}
use Rattle.mj_titanic.specs.declared.fault.ActFault.{ActFault}
use Rattle.mj_titanic.specs.Services.{accepted_as}
use Rattle.mj_titanic.specs.Accepting.{Accepts, StopsAccepting, accept_of, appends, is_full_for}
use Rattle.mj_titanic.specs.Acting.{Did, Parts, Stopped, around, nowhere, parts}
use Rattle.mj_titanic.proofs.Accepts.{with-open}
use Rattle.mj_titanic.proofs.Finding.{accepts-are}
use Rattle.mj_titanic.proofs.Following.{appending-are, first-stopped, opened-shelf, then-done, then-failed, then-stopped}
use Rattle.mj_titanic.proofs.Rowing.{did-around, did-same, stopped-around, stopped-same}

module _ {D : Type 0} (disks : Ghosts D) (core : State) (old : Keeping) (disk : D) (n : ℕ) (request : Request) (service : List ℕ) (body : List (List ℕ)) (ready : is_open old.keeper.shelf ≡ true) where
  abbrev shelf : (held : StoreValue) × (old.keeper.shelf ≡ shelves.Open held)
  shelf = opened-shelf old.keeper.shelf ready

  abbrev asked_act : Act
  asked_act w = accepts n request (service, body) w

  -- where there is room
  abbrev kept_act : StoreValue → Act
  kept_act h w = accepts_by false h.index.next (id_of old.keeper.seed h.index.next) (service, body) n request w

  abbrev told_act : StoreValue → Act
  told_act h w = routes (accepted h.index.next (id_of old.keeper.seed h.index.next) service n request) w

  module _ (room : is_full_for shelf.0 (accept_of old.keeper shelf.0 service body) ≡ false) where
    pub kept-did : (new : Parts) (end : D) (before outs : List Out) → Did disks (parts core old) disk new end before outs (kept_act shelf.0) (around (kept_act shelf.0)) → Did disks (parts core old) disk new end before outs asked_act (around asked_act)
    kept-did new end before outs did =
        did-same disks (parts core old) disk new end before outs (kept_act shelf.0) asked_act did
        (λ w at. sym (accepts-are disks (parts core old) shelf.0 disk shelf.1 w at n request service body false room))

    pub kept-stopped : (fault : ActFault) (end : D) → Stopped disks fault (parts core old) disk end (around (kept_act shelf.0)) → Stopped disks fault (parts core old) disk end (around asked_act)
    kept-stopped fault end stopped =
        stopped-same disks fault (parts core old) disk end (kept_act shelf.0) asked_act stopped
        (λ w at. sym (accepts-are disks (parts core old) shelf.0 disk shelf.1 w at n request service body false room))

  -- what was answered
  module _ (new : Keeping) (after : D) (before between : List Out) (answer : Accepted)
      (done : IsOpenWith (λ h. Accepts disks core h (accept_of old.keeper h service body) old disk new after before between answer) old.keeper.shelf) where
    taken : (a : Accepted) → answer ≡ a → Accepts disks core shelf.0 (accept_of old.keeper shelf.0 service body) old disk new after before between a
    taken a is =
        subst (λ (x : Accepted). Accepts disks core shelf.0 (accept_of old.keeper shelf.0 service body) old disk new after before between x) is
        (with-open (λ h. Accepts disks core h (accept_of old.keeper h service body) old disk new after before between answer) old.keeper.shelf shelf.0 shelf.1 done)

    pub full-did : (end : Parts) (outs : List Out) → answer ≡ Full → Did disks (parts core new) after end after between outs (fails_to n request) nowhere
        → Did disks (parts core old) disk end after before outs asked_act (around asked_act)
    full-did end outs is told =
        let a = taken Full is in
        let one = subst (λ (k : Keeping). Did disks (parts core k) after end after between outs (fails_to n request) nowhere) a.1 told in
        let two = subst (λ (d : D). Did disks (parts core old) d end after between outs (fails_to n request) nowhere) a.2 one in
        let three = subst (λ (o : List Out). Did disks (parts core old) disk end after o outs (fails_to n request) nowhere) a.3 two in
        did-same disks (parts core old) disk end after before outs (fails_to n request) asked_act (did-around disks (parts core old) disk end after before outs (fails_to n request) three)
        (λ w at. sym (accepts-are disks (parts core old) shelf.0 disk shelf.1 w at n request service body true a.0))

    pub full-stopped : (fault : ActFault) → answer ≡ Full → Stopped disks fault (parts core new) after after nowhere → Stopped disks fault (parts core old) disk after (around asked_act)
    full-stopped fault is told =
        let a = taken Full is in
        let one = subst (λ (k : Keeping). Stopped disks fault (parts core k) after after nowhere) a.1 told in
        let two = subst (λ (d : D). Stopped disks fault (parts core old) d after nowhere) a.2 one in
        stopped-around disks fault (parts core old) disk after asked_act two

    pub kept-told : (ticket : ℕ) (text : List ℕ) (end : Parts) (outs : List Out) → answer ≡ Kept ticket text → is_open new.keeper.shelf ≡ true
        → Did disks (parts core new) after end after between outs (routes (accepted_as ticket text service n request)) nowhere
        → Did disks (parts core old) disk end after before outs asked_act (around asked_act)
    kept-told ticket text end outs is open_is told =
        let a = taken (Kept ticket text) is in
        let one = subst (λ (m : ℕ). Did disks (parts core new) after end after between outs (routes (accepted_as m text service n request)) nowhere) a.1 told in
        let two = subst (λ (t : List ℕ). Did disks (parts core new) after end after between outs (routes (accepted_as shelf.0.index.next t service n request)) nowhere) a.2 one in
        kept-did a.0 end after before outs
        (then-done disks (parts core old) disk (appends (accept_of old.keeper shelf.0 service body)) (fails_to n request) (told_act shelf.0) (kept_act shelf.0) (λ v. refl) (λ v. refl)
        (appending-are disks (parts core old) disk (fails_to n request) (told_act shelf.0) ready (accept_of old.keeper shelf.0 service body))
        (parts core new) (parts core new) after end after before between outs refl open_is a.3 two)

    pub kept-told-stopped : (ticket : ℕ) (text : List ℕ) (fault : ActFault) → answer ≡ Kept ticket text → Stopped disks fault (parts core new) after after nowhere → Stopped disks fault (parts core old) disk after (around asked_act)
    kept-told-stopped ticket text fault is told =
        let a = taken (Kept ticket text) is in
        kept-stopped a.0 fault after
        (then-stopped disks (parts core old) disk (appends (accept_of old.keeper shelf.0 service body)) (fails_to n request) (told_act shelf.0) (kept_act shelf.0) (λ v. refl) (λ v. refl)
        (appending-are disks (parts core old) disk (fails_to n request) (told_act shelf.0) ready (accept_of old.keeper shelf.0 service body))
        (parts core new) (parts core new) after before between fault after refl a.3 told)

    pub failed-told : (end : Parts) (outs : List Out) → answer ≡ Failed → is_open new.keeper.shelf ≡ false → (told_on new.keeper.shelf).stored ≡ true
        → Did disks (parts (clients_alone core) new) after end after between outs (fails_to n request) nowhere
        → Did disks (parts core old) disk end after before outs asked_act (around asked_act)
    failed-told end outs is shut_is stored told =
        let a = taken Failed is in
        kept-did a.0 end after before outs
        (then-failed disks (parts core old) disk (appends (accept_of old.keeper shelf.0 service body)) (fails_to n request) (told_act shelf.0) (kept_act shelf.0) (λ v. refl) (λ v. refl)
        (appending-are disks (parts core old) disk (fails_to n request) (told_act shelf.0) ready (accept_of old.keeper shelf.0 service body))
        (parts (clients_alone core) new) (parts (clients_alone core) new) after end after before between outs refl shut_is stored a.1 told)

    pub failed-told-stopped : (fault : ActFault) → answer ≡ Failed → Stopped disks fault (parts (clients_alone core) new) after after nowhere → Stopped disks fault (parts core old) disk after (around asked_act)
    failed-told-stopped fault is told =
        let a = taken Failed is in
        kept-stopped a.0 fault after
        (then-stopped disks (parts core old) disk (appends (accept_of old.keeper shelf.0 service body)) (fails_to n request) (told_act shelf.0) (kept_act shelf.0) (λ v. refl) (λ v. refl)
        (appending-are disks (parts core old) disk (fails_to n request) (told_act shelf.0) ready (accept_of old.keeper shelf.0 service body))
        (parts (clients_alone core) new) (parts (clients_alone core) new) after before between fault after refl a.1 told)

  pub accept-stopped : (fault : ActFault) (after : D) → IsOpenWith (λ h. StopsAccepting disks fault core h (accept_of old.keeper h service body) old disk after) old.keeper.shelf
      → Stopped disks fault (parts core old) disk after (around asked_act)
  accept-stopped fault after stops = by (with-open (λ h. StopsAccepting disks fault core h (accept_of old.keeper h service body) old disk after) old.keeper.shelf shelf.0 shelf.1 stops)
    where
      by : StopsAccepting disks fault core shelf.0 (accept_of old.keeper shelf.0 service body) old disk after → Stopped disks fault (parts core old) disk after (around asked_act)
      by (inl stopped) = stopped-around disks fault (parts core old) disk after asked_act stopped
      by (inr there) =
          kept-stopped there.0 fault after
          (first-stopped disks (parts core old) disk (appends (accept_of old.keeper shelf.0 service body)) (fails_to n request) (told_act shelf.0) (kept_act shelf.0) (λ v. refl) (λ v. refl)
          (appending-are disks (parts core old) disk (fails_to n request) (told_act shelf.0) ready (accept_of old.keeper shelf.0 service body)) fault after there.1)
