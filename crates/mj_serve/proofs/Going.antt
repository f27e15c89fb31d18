-- A run goes on by one event, or ends.
use Rattle.std.proofs.Common.{◌≡◌, ◌+◌, ◌-◌, ◌^◌, min, ℕ, true, List, [], ◌∷◌, ◌++◌, map, refl, sym, ap, ◌∙◌, subst, arith}
use Rattle.std.proofs.lemmas.List.{append-nil}
use Rattle.mj_base.specs.declared.event.Event.{Event}
use Rattle.mj_base.specs.declared.event.Out.{Out}
use Rattle.mj_base.specs.declared.limits.Limits.{Limits}
use Rattle.mj_broker.specs.Handling.{Broke, BrokerValue, Handled, IsBroker, limits_of, noted}
use Rattle.mj_broker.specs.declared.fault.EventFault.{EventFault}
use Rattle.mj_disk.specs.DiskModel.{IsSettled, LeavesOnly, LeftSince, Now}
use Rattle.mj_disk.specs.declared.disk.Disk.{Ghosts}
use Rattle.mj_disk.proofs.Moments.{leaves_weaker}
use Rattle.mj_keeper.specs.Standing.{GoesOn, IsOneOf}
use Rattle.mj_laws.specs.Kept.{GoesFrom}
use Rattle.mj_laws.proofs.CommandLemmas.{commands_grow, stores_go_on}
use Rattle.mj_machine.specs.DiskActs.{notes_in}
use Rattle.mj_machine.specs.EventStep.{Noted, outs_of, state_after}
use Rattle.mj_machine.specs.MachineRun.{run_outs, run_state}
use Rattle.mj_machine.specs.MachineState.{Machine}
use Rattle.mj_machine.specs.Steps.{stores_of}
use Rattle.mj_tickets.specs.declared.command.TicketCmd.{TicketCmd}
use Rattle.mj_titanic.specs.Acting.{RoseBy, shut_count}
use Rattle.mj_serve.specs.Counts.{Counts, pieces_in}
use Rattle.mj_serve.specs.Given.{Entry, entry_at, events_in}
use Rattle.mj_serve.specs.Running.{Gives, Ran, RanOut}
use Rattle.mj_serve.specs.Serving.{RanOver}
use Rattle.mj_serve.specs.Stability.{AreStable, HasPrefix, marked, stores_over}
use Rattle.mj_serve.specs.declared.summary.Summary.{Summary}
use Rattle.mj_serve.proofs.Counting.{counts-more, events-append, faults-later, faults-more, given-more, marked-more, outs-given, outs-more, state-more}
use Rattle.mj_serve.proofs.Leaving.{InTime, event-leaves, left-now, may-have, one-has, stores-more}
use Rattle.mj_serve.proofs.Staying.{stable-both, stable-now, stable-on}

-- the store behind a run goes on from the first
behind-run : (limits : Limits) (first : Machine) (happened : List Noted) → GoesFrom first.store (run_state limits first happened).store
behind-run limits first happened = (commands_grow limits first happened).1

events-more : (happened : List Noted) (e : Noted) → events_in ((happened ++ e ∷ []) ++ []) ≡ events_in (happened ++ []) ++ e.event ∷ []
events-more happened e =
    ap events_in (append-nil (happened ++ e ∷ [])) ∙ events-append happened (e ∷ [])
    ∙ ap (λ (h : List Noted). events_in h ++ e.event ∷ []) (sym (append-nil happened))

events-last : (happened : List Noted) (e : Noted) → events_in (happened ++ e ∷ []) ≡ events_in (happened ++ []) ++ e.event ∷ []
events-last happened e = events-append happened (e ∷ []) ∙ ap (λ (h : List Noted). events_in h ++ e.event ∷ []) (sym (append-nil happened))

-- commands that no event has changed
same-front : (commands : List TicketCmd) → commands ≡ commands ++ []
same-front commands = sym (append-nil commands)

module _ {P D : Type 0} (stand : P → P → List Event → List Entry → Type 0) (disks : Ghosts D) (origin : P) (began : D) (limits : Limits) (first : Machine) where
  -- the ports have given no event, and the run ends
  pub ran-out-first : (ports final : P) (disk : D) (broker : BrokerValue) (summary : Summary)
      → ((taken : List Event) (given : List Entry) → stand origin ports taken given → stand origin final taken given)
      → Ran stand disks origin began limits first ports disk broker summary → RanOut stand disks origin began limits first final disk
  ran-out-first ports final disk broker summary keeps ran = record {
    happened = ran.happened;
    last = [];
    alone = omega arith;
    given = ran.given;
    ran = record {
      stands = keeps (events_in (ran.happened ++ [])) ran.given ran.ran.stands;
      outs = ran.ran.outs;
      notes = ran.ran.notes;
      stable = ran.ran.stable;
      crash = ran.ran.crash;
      count = ran.ran.count;
    };
  }

  -- the ports have given the end
  pub ran-on : (ports final : P) (disk : D) (broker : BrokerValue) (summary : Summary)
      → ((taken : List Event) (given : List Entry) → stand origin ports taken given → stand origin final taken given)
      → Ran stand disks origin began limits first ports disk broker summary → Ran stand disks origin began limits first final disk broker summary
  ran-on ports final disk broker summary keeps ran = record {
    happened = ran.happened;
    given = ran.given;
    ran = record {
      stands = keeps (events_in (ran.happened ++ [])) ran.given ran.ran.stands;
      outs = ran.ran.outs;
      notes = ran.ran.notes;
      stable = ran.ran.stable;
      crash = ran.ran.crash;
      count = ran.ran.count;
    };
    counts = ran.counts;
    limited = ran.limited;
    at = ran.at;
  }

  module _ (ports between : P) (disk after : D) (old : BrokerValue) (summary : Summary) (event : Event) (in_time : InTime disks disk)
      (takes : (taken : List Event) (given : List Entry) → stand origin ports taken given → stand origin between (taken ++ event ∷ []) given)
      (ran : Ran stand disks origin began limits first ports disk old summary) where
    abbrev mid : Machine
    mid = run_state limits first ran.happened

    stored-still : first.store.stored ≡ true → mid.store.stored ≡ true
    stored-still stored = (behind-run limits first ran.happened).stored ∙ stored

    -- the images over the event, as those of a run of one event more
    crash-more : (e : Noted) → GoesOn disks disk after (stores_of limits mid e) → first.store.stored ≡ true → Now (disks.told began) IsSettled
        → LeavesOnly (disks.time began, disks.time after) (disks.told began) (disks.told after) (IsOneOf (stores_over limits first (ran.happened ++ e ∷ [])))
    crash-more e goes stored settled =
        leaves_weaker (disks.time began, disks.time after) (disks.told began) (disks.told after)
        (IsOneOf (stores_over limits first ran.happened ++ stores_of limits mid e)) (IsOneOf (stores_over limits first (ran.happened ++ e ∷ [])))
        (goes (disks.time began) (disks.told began) (stores_over limits first ran.happened)
        (subst (λ (h : List Noted). LeavesOnly (disks.time began, disks.time disk) (disks.told began) (disks.told disk) (IsOneOf (stores_over limits first h))) (append-nil ran.happened) (ran.ran.crash stored settled)))
        (λ image is. stores-more limits first ran.happened e image is)

    leaves : (e : Noted) → GoesOn disks disk after (stores_of limits mid e) → first.store.stored ≡ true
        → LeavesOnly (disks.time disk, disks.time after) (disks.told disk) (disks.told after) (IsOneOf (mid.store ∷ stores_of limits mid e))
    leaves e goes stored = event-leaves disks old.keeper disk after mid.store (stores_of limits mid e) in_time ran.at.store (stored-still stored) goes

    all-have : (e : Noted) (image : List ℕ) → IsOneOf (mid.store ∷ stores_of limits mid e) image → HasPrefix first.store.base mid.store.commands image
    all-have e image is =
        subst (λ (base : ℕ). HasPrefix base mid.store.commands image) (behind-run limits first ran.happened).base
        (one-has mid.store (mid.store ∷ stores_of limits mid e) image (record { stored = refl; seed = refl; base = refl; commands = ([], same-front mid.store.commands) }, (stores_go_on limits mid e).0) is)

    -- what was given stays
    stable-more : (e : Noted) (later : List TicketCmd) → ((more : List TicketCmd) × (later ≡ mid.store.commands ++ more)) → GoesOn disks disk after (stores_of limits mid e) → first.store.stored ≡ true
        → AreStable (disks.told after) (disks.time after) first.store.base later ran.given (marked limits first ran.happened)
    stable-more e later extends goes stored =
        stable-on (disks.told disk) (disks.told after) (disks.time disk) (disks.time after) first.store.base mid.store.commands later
        (IsOneOf (mid.store ∷ stores_of limits mid e)) (leaves e goes stored) (all-have e) extends
        ran.given (marked limits first ran.happened) (ran.ran.stable stored)

    -- the event ended early
    pub ran-out-last : (fault : EventFault) → Broke disks fault old disk after event → RanOut stand disks origin began limits first between after
    ran-out-last fault broke =
        let e : Noted = record { event = event; notes = broke.notes } in
        let goes = subst (λ (l : Limits). GoesOn disks disk after (stores_of l mid e)) ran.limited (broke.crash mid ran.at) in
        record {
          happened = ran.happened;
          last = e ∷ [];
          alone = omega arith;
          given = ran.given;
          ran = record {
            stands = subst (λ (es : List Event). stand origin between es ran.given) (sym (events-last ran.happened e)) (takes (events_in (ran.happened ++ [])) ran.given ran.ran.stands);
            outs = ran.ran.outs;
            notes = ran.ran.notes;
            stable = stable-more e mid.store.commands ([], same-front mid.store.commands) goes;
            crash = crash-more e goes;
            count = faults-later (shut_count (notes_in (run_outs limits first ran.happened))) (disks.faults began) (disks.faults disk) (disks.faults after) ran.ran.count broke.count;
          };
        }

    -- the event was handled, and what it added was given
    module _ (final : P) (new : BrokerValue) (now : Summary) (start added : List Out) (begun : start ≡ []) (after_in_time : InTime disks after) (handled : Handled disks old disk new after event start added)
        (gives : Gives stand between final (disks.time after) added) (limited : limits_of new ≡ limits_of old)
        (events_are : now.events ≡ min (summary.events + 1) (2 ^ 64 - 1)) (pieces_are : now.pieces ≡ min (summary.pieces + pieces_in added) (2 ^ 64 - 1)) where
      added-is : handled.added ≡ added
      added-is = sym (handled.outs_are ∙ ap (λ (o : List Out). o ++ handled.added) begun)

      abbrev e : Noted
      e = noted event handled.added

      ends : IsBroker disks new after (state_after limits mid e) × (outs_of limits mid e ≡ handled.added)
      ends = subst (λ (l : Limits). IsBroker disks new after (state_after l mid e) × (outs_of l mid e ≡ handled.added)) ran.limited (handled.ends mid ran.at)

      goes : GoesOn disks disk after (stores_of limits mid e)
      goes = subst (λ (l : Limits). GoesOn disks disk after (stores_of l mid e)) ran.limited (handled.crash mid ran.at)

      outs-are : outs_of limits mid e ≡ added
      outs-are = ends.1 ∙ added-is

      whole-outs : run_outs limits first (ran.happened ++ e ∷ []) ≡ run_outs limits first ran.happened ++ added
      whole-outs = outs-more limits first ran.happened e ∙ ap (λ (o : List Out). run_outs limits first ran.happened ++ o) outs-are

      state-is : run_state limits first (ran.happened ++ e ∷ []) ≡ state_after limits mid e
      state-is = state-more limits first ran.happened e

      behind-event : GoesFrom mid.store (state_after limits mid e).store
      behind-event = (stores_go_on limits mid e).1

      -- the images of now have all commands of now
      has-now : first.store.stored ≡ true → (image : List ℕ) → LeftSince (disks.told after) (disks.time after) image → HasPrefix first.store.base (state_after limits mid e).store.commands image
      has-now stored image left =
          subst (λ (base : ℕ). HasPrefix base (state_after limits mid e).store.commands image) (behind-event.base ∙ (behind-run limits first ran.happened).base)
          (may-have (state_after limits mid e).store (state_after limits mid e).store image
          (record { stored = refl; seed = refl; base = refl; commands = ([], same-front (state_after limits mid e).store.commands) })
          (left-now disks new.keeper after (state_after limits mid e).store after_in_time ends.0.store (behind-event.stored ∙ stored-still stored) image left))

      stable-all : first.store.stored ≡ true
          → AreStable (disks.told after) (disks.time after) first.store.base (run_state limits first (ran.happened ++ e ∷ [])).store.commands (ran.given ++ map (entry_at (disks.time after)) added) (marked limits first (ran.happened ++ e ∷ []))
      stable-all stored =
          subst (λ (m : Machine). AreStable (disks.told after) (disks.time after) first.store.base m.store.commands (ran.given ++ map (entry_at (disks.time after)) added) (marked limits first (ran.happened ++ e ∷ []))) (sym state-is)
          (subst (λ (marks : List (List TicketCmd)). AreStable (disks.told after) (disks.time after) first.store.base (state_after limits mid e).store.commands (ran.given ++ map (entry_at (disks.time after)) added) marks)
          (sym (marked-more limits first ran.happened e ∙ ap (λ (o : List Out). marked limits first ran.happened ++ map (λ (out : Out). (state_after limits mid e).store.commands) o) outs-are))
          (stable-both (disks.told after) (disks.time after) first.store.base (state_after limits mid e).store.commands
          ran.given (map (entry_at (disks.time after)) added) (marked limits first ran.happened) (map (λ (out : Out). (state_after limits mid e).store.commands) added)
          (stable-more e (state_after limits mid e).store.commands behind-event.commands goes stored)
          (stable-now (disks.told after) (disks.time after) first.store.base (state_after limits mid e).store.commands (same-front (state_after limits mid e).store.commands) (has-now stored) added)))

      over : RanOver stand disks origin began limits first final after (ran.happened ++ e ∷ []) [] (ran.given ++ map (entry_at (disks.time after)) added)
      over = record {
        stands = gives origin (events_in ((ran.happened ++ e ∷ []) ++ [])) ran.given
            (subst (λ (es : List Event). stand origin between es ran.given) (sym (events-more ran.happened e)) (takes (events_in (ran.happened ++ [])) ran.given ran.ran.stands));
        outs = outs-given (disks.time after) ran.given added ∙ ap (λ (o : List Out). o ++ added) ran.ran.outs ∙ sym whole-outs;
        notes = given-more limits first ran.happened e ran.ran.notes (ap notes_in ends.1);
        stable = stable-all;
        crash = λ stored settled. subst (λ (h : List Noted). LeavesOnly (disks.time began, disks.time after) (disks.told began) (disks.told after) (IsOneOf (stores_over limits first h)))
            (sym (append-nil (ran.happened ++ e ∷ []))) (crash-more e goes stored settled);
        count = subst (λ (o : List Out). RoseBy (shut_count (notes_in o)) (disks.faults began) (disks.faults after)) (sym whole-outs)
            (faults-more (run_outs limits first ran.happened) added (disks.faults began) (disks.faults disk) (disks.faults after) ran.ran.count
            (subst (λ (o : List Out). RoseBy (shut_count (notes_in o)) (disks.faults disk) (disks.faults after)) added-is handled.count));
      }

      pub ran-more : Ran stand disks origin began limits first final after new now
      ran-more = record {
        happened = ran.happened ++ e ∷ [];
        given = ran.given ++ map (entry_at (disks.time after)) added;
        ran = over;
        counts = subst (λ (o : List Out). Counts now (ran.happened ++ e ∷ []) o) (sym whole-outs)
            (counts-more summary now ran.happened e (run_outs limits first ran.happened) added ran.counts events_are pieces_are);
        limited = limited ∙ ran.limited;
        at = subst (λ (m : Machine). IsBroker disks new after m) (sym state-is) ends.0;
      }
