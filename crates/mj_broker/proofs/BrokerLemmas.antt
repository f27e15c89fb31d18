-- A whole event, from what was done of it.
use Rattle.std.proofs.Common.{rules, arith, ◌≡◌, ◌==◌, ℕ, Bool, true, false, cond, List, [], ◌∷◌, is_some, Option, None, Some, IsSome, refl, sym, ap, subst, ◌∙◌, inl, inr}
use Rattle.std.specs.Option.{option_map}
use Rattle.std.specs.List.{find}
use Rattle.mj_base.specs.declared.event.Event.{Event}
use Rattle.mj_base.specs.declared.event.Event.TheVariants as events
use Rattle.mj_base.specs.declared.event.Note.{Note}
use Rattle.mj_base.specs.declared.event.Out.{Out}
use Rattle.mj_base.specs.declared.limits.Limits.{Limits}
use Rattle.mj_disk.specs.declared.disk.Disk.{Ghosts}
use Rattle.mj_queue.specs.Settling.{pair}
use Rattle.mj_wire.specs.StreamItems.{gained}
use Rattle.mj_wire.specs.WireState.{State as WireValue}
use Rattle.mj_wire.specs.declared.item.WireItem.{WireItem}
use Rattle.mj_machine.specs.declared.connection.Connection.{Connection}
use Rattle.mj_machine.specs.MachineState.{Machine, State, Stream, Whole, entered}
use Rattle.mj_machine.specs.Acts.{◌then◌}
use Rattle.mj_machine.specs.Pairing.{settles}
use Rattle.mj_machine.specs.Connections.{connection_of, number_on}
use Rattle.mj_machine.specs.DiskActs.{notes_in}
use Rattle.mj_machine.specs.EventStep.{Gains, Happening, Opens, Stops, fed, fed_by, gain_of, gains, happening, happens, opened, stream_of, streams_after}
use Rattle.mj_machine.specs.Steps.{stores_of}
use Rattle.mj_machine.proofs.StreamLemmas.{there-on}
use Rattle.mj_keeper.specs.Standing.{IsOneOf, IsSound, MayPut, StandsBy, told_on}
use Rattle.mj_keeper.specs.declared.keeper.Keeper.{Keeper}
use Rattle.mj_keeper.specs.declared.keeper.Shelf.{Shelf}
use Rattle.mj_keeper.specs.declared.keeper.Shelf.TheVariants as shelves
use Rattle.mj_routing.specs.Staying.{StaysBeside}
use Rattle.mj_titanic.specs.Acting.{Did, Ends, IsAt, IsRefused, Stopped, seen}
use Rattle.mj_titanic.specs.declared.fault.ActFault.{ActFault}
use Rattle.mj_titanic.specs.declared.parts.Parts.{Parts}
use Rattle.mj_titanic.proofs.Composing.{did-as, goes-more, goes-nowhere}
use Rattle.mj_titanic.proofs.Rowing.{goes-among}
use Rattle.mj_broker.specs.declared.fault.EventFault.{EventFault}
use Rattle.mj_broker.specs.declared.wires.Link.{Link}
use Rattle.mj_broker.specs.Acting.{as_it_is, stores_while}
use Rattle.mj_broker.specs.BrokerState.{AreAmong, AreReady, AreSettled, Halted, Happened, Links}
use Rattle.mj_broker.specs.Handling.{Broke, BrokerValue, Handled, IsBroker, IsRefusing, noted}
use Rattle.mj_broker.specs.Wires.{AreFresh, AreLimited, MayBeFed, SameNumbers, WiresStand, kept_links, wire_of}
use Rattle.mj_broker.proofs.ItemLemmas.{absent-behind}
use Rattle.mj_broker.proofs.SettleLemmas.{none-did}
use Rattle.mj_broker.proofs.WireLemmas.{fresh-kept, kept-wire, limits-linked, stands-linked, wires-kept}

-- the lane's connection has a reader
pub wire-there : (lane n : ℕ) (cs : List Connection) (wires : List Link) → AreReady cs wires → number_on lane cs ≡ Some n → IsSome (wire_of n wires)
wire-there lane n cs wires k on = of (wire_of n wires) refl
  where
    of : (found : Option WireValue) → wire_of n wires ≡ found → IsSome found
    of None none = absurd (there-on lane n cs on (k.covered n none))
    of (Some wire) some = search rules

-- ---- each connection has a reader

pub ready-fed : (cs : List Connection) (wires now : List Link) → AreReady cs wires → SameNumbers wires now → AreFresh now → AreReady cs now
ready-fed cs wires now k same fresh = record { covered = λ n gone. k.covered n (same n gone); fresh = fresh }

pub ready-stays : (shelf shelf_now : Shelf) (old now : State) (wires : List Link) → StaysBeside shelf shelf_now old now → AreReady old.connections wires → AreReady now.connections wires
ready-stays shelf shelf_now old now wires stays k = record { covered = λ n gone. stays.absent n (k.covered n gone); fresh = k.fresh }

pub ready-linked : (lane : ℕ) (limits : Limits) (old : State) (wires now : List Link) → Links limits old.next wires now → AreReady old.connections wires → AreReady (opened lane old).connections now
ready-linked lane limits old wires now linked k = rw linked.whole (record {
  covered = λ n gone. at n (linked.link.number == n) refl gone;
  fresh = λ n. new n (linked.link.number == n);
})
  where
    at : (n : ℕ) (b : Bool) → (linked.link.number == n) ≡ b → option_map (λ l. l.wire) (cond {A = Option Link} b (Some linked.link) (find (λ l. l.number == n) wires)) ≡ None
        → connection_of n (opened lane old).connections ≡ None
    at n true e gone = cc
    at n false e gone =
        absent-behind n old.connections _ (ap (λ (q : ℕ). q == n) (sym linked.numbered) ∙ e) (k.covered n gone)

    new : (n : ℕ) (b : Bool) → MayBeFed (option_map (λ l. l.wire) (cond {A = Option Link} b (Some linked.link) (find (λ l. l.number == n) wires)))
    new n true = linked.unspent
    new n false = k.fresh n

pub limits-opened : (limits : Limits) (n : ℕ) (wires now : List Link) → Links limits n wires now → AreLimited limits wires → AreLimited limits now
limits-opened limits n wires now linked are = subst (λ (ls : List Link). AreLimited limits ls) (sym linked.whole) (limits-linked linked.link wires limits linked.limited are)

-- ---- readers of connections that ended are dropped

pub settled-kept : (state : State) (wires now : List Link) → now ≡ kept_links state.connections wires → AreReady state.connections wires → pair state.waiting state.queue ≡ None → AreSettled state now
settled-kept state wires now now_is k none = rw now_is (record {
  ready = record {
    covered = λ n gone. of n (connection_of n state.connections) refl (sym (kept-wire state.connections wires n) ∙ gone);
    fresh = fresh-kept state.connections wires k.fresh;
  };
  ended = λ n gone. kept-wire state.connections wires n ∙ ap (λ (o : Option Connection). cond (is_some o) (wire_of n wires) None) gone;
  settled = none;
})
  where
    of : (n : ℕ) (found : Option Connection) → connection_of n state.connections ≡ found → cond (is_some found) (wire_of n wires) None ≡ None → connection_of n state.connections ≡ None
    of n None is gone = is
    of n (Some c) is gone = k.covered n gone

-- ---- with a store there was one

pub absent-stored : (before now : Shelf) → (before ≡ shelves.Absent → now ≡ shelves.Absent) → (told_on now).stored ≡ true → (told_on before).stored ≡ true
absent-stored shelves.Absent now absent stored = cc (ap (λ (s : Shelf). (told_on s).stored) (absent refl))
absent-stored (shelves.Open held) now absent stored = refl
absent-stored (shelves.Shut end) now absent stored = refl

-- ---- what happened

module _ {D : Type 0} (disks : Ghosts D) (event : Event) (old : Parts) (disk : D) where
  as-it-is-among : (m : Machine) (notes : List Note) → AreAmong (as_it_is (entered m.state m.store notes)) (stores_of old.keeping.keeper.limits m (record { event = event; notes = notes }))
  as-it-is-among m notes image (inl here) = inl here
  as-it-is-among m notes image (inr none) = absurd none

  -- an event that feeds no reader
  pub unfed-happened : (h : Happening) (new : Parts) (after : D) (wires : List Link) (before outs : List Out) → ((limits : Limits) (m : Machine) → happening limits m event ≡ h) → ((m : Machine) → streams_after m event ≡ m.streams)
      → Did disks (seen old) disk (seen new) after before outs (happens h) as_it_is → Happened disks event old disk new after wires wires before outs
  unfed-happened h new after wires before outs same unfed did = record {
    what = h;
    stores = as_it_is;
    did = did;
    is = λ m at stands. same old.keeping.keeper.limits m;
    streams = λ m at stands. subst (λ (ts : List Stream). WiresStand old.keeping.keeper.limits wires ts) (sym (unfed m)) stands;
    among = λ m notes at stands. as-it-is-among m notes;
  }

  pub early-halted : (fault : ActFault) (after : D) (wires : List Link) → Stopped disks fault (seen old) disk after as_it_is → Halted disks fault event old disk after wires
  early-halted fault after wires stopped = record { stores = as_it_is; stopped = stopped; among = λ m notes at stands. as-it-is-among m notes }

module _ {D : Type 0} (disks : Ghosts D) (old : Parts) (disk : D) (lane : ℕ) where
  pub opened-happened : (new : Parts) (after : D) (wires wires_now : List Link) (before outs : List Out) → Links old.keeping.keeper.limits old.routing.next wires wires_now
      → Did disks (seen old) disk (seen new) after before outs (happens (Opens lane)) as_it_is → Happened disks (events.Open lane) old disk new after wires wires_now before outs
  opened-happened new after wires wires_now before outs linked did = record {
    what = Opens lane;
    stores = as_it_is;
    did = did;
    is = λ m at stands. refl;
    streams = λ m at stands.
        subst (λ (ls : List Link). WiresStand old.keeping.keeper.limits ls (record { number = m.state.next; octets = [] } ∷ m.streams)) (sym linked.whole)
        (stands-linked linked.link wires old.keeping.keeper.limits m.state.next m.streams (linked.numbered ∙ ap (λ (s : State). s.next) at) linked.stands stands);
    among = λ m notes at stands. as-it-is-among disks (events.Open lane) old disk m notes;
  }

-- the end
pub stopped-happened : {D : Type 0} (disks : Ghosts D) (old : Parts) (disk : D) (wires : List Link) (before : List Out) → pair old.routing.waiting old.routing.queue ≡ None
    → Happened disks events.Stop old disk old disk wires wires before before
stopped-happened disks old disk wires before none =
    unfed-happened disks events.Stop old disk Stops old disk wires before before (λ limits m. refl) (λ m. refl) (none-did disks old disk before none)

-- what a reader says of its items
abbrev pub FeedsItems : ℕ → List ℕ → List Link → List WireItem → Type 0
FeedsItems n piece wires found = (limits : Limits) (streams : List Stream) → WiresStand limits wires streams → found ≡ gained limits (stream_of n streams) piece

abbrev pub FeedsWires : ℕ → List ℕ → List Link → List Link → Type 0
FeedsWires n piece wires now = (limits : Limits) (streams : List Stream) → WiresStand limits wires streams → WiresStand limits now (fed n piece streams)

module _ {D : Type 0} (disks : Ghosts D) (old : Parts) (disk : D) (lane n : ℕ) (piece : List ℕ) (found : List WireItem) (wires : List Link) (on : number_on lane old.routing.connections ≡ Some n) (gives : FeedsItems n piece wires found) where
  on-machine : (m : Machine) → old.routing ≡ m.state → number_on lane m.state.connections ≡ Some n
  on-machine m at = ap (λ (s : State). number_on lane s.connections) (sym at) ∙ on

  gains-is : (m : Machine) → old.routing ≡ m.state → WiresStand old.keeping.keeper.limits wires m.streams → happening old.keeping.keeper.limits m (events.Bytes lane piece) ≡ Gains lane found
  gains-is m at stands =
      ap (λ (o : Option ℕ). Gains lane (gain_of old.keeping.keeper.limits o piece m.streams)) (on-machine m at) ∙ ap (Gains lane) (sym (gives old.keeping.keeper.limits m.streams stands))

  gains-among : (m : Machine) (notes : List Note) → old.routing ≡ m.state → WiresStand old.keeping.keeper.limits wires m.streams
      → AreAmong (stores_while (Gains lane found) (entered m.state m.store notes)) (stores_of old.keeping.keeper.limits m (record { event = events.Bytes lane piece; notes = notes }))
  gains-among m notes at stands image is =
      subst (λ (h : Happening). IsOneOf (stores_while h (entered m.state m.store notes)) image) (sym (gains-is m at stands)) is

  pub fed-happened : (new : Parts) (after : D) (wires_now : List Link) (before outs : List Out) → FeedsWires n piece wires wires_now
      → Did disks (seen old) disk (seen new) after before outs (happens (Gains lane found)) (stores_while (Gains lane found)) → Happened disks (events.Bytes lane piece) old disk new after wires wires_now before outs
  fed-happened new after wires_now before outs feeds did = record {
    what = Gains lane found;
    stores = stores_while (Gains lane found);
    did = did;
    is = gains-is;
    streams = λ m at stands.
        subst (λ (o : Option ℕ). WiresStand old.keeping.keeper.limits wires_now (fed_by o piece m.streams)) (sym (on-machine m at)) (feeds old.keeping.keeper.limits m.streams stands);
    among = gains-among;
  }

  pub fed-halted : (fault : ActFault) (after : D) → Stopped disks fault (seen old) disk after (stores_while (Gains lane found)) → Halted disks fault (events.Bytes lane piece) old disk after wires
  fed-halted fault after stopped = record { stores = stores_while (Gains lane found); stopped = stopped; among = gains-among }

module _ {D : Type 0} (disks : Ghosts D) (old : Parts) (disk : D) (lane : ℕ) (piece : List ℕ) (wires : List Link) (on : number_on lane old.routing.connections ≡ None) where
  none-machine : (m : Machine) → old.routing ≡ m.state → number_on lane m.state.connections ≡ None
  none-machine m at = ap (λ (s : State). number_on lane s.connections) (sym at) ∙ on

  none-is : (m : Machine) → old.routing ≡ m.state → happening old.keeping.keeper.limits m (events.Bytes lane piece) ≡ Gains lane []
  none-is m at = ap (λ (o : Option ℕ). Gains lane (gain_of old.keeping.keeper.limits o piece m.streams)) (none-machine m at)

  gains-nothing : (w : Whole) → settles w ≡ happens (Gains lane []) w
  gains-nothing w = by (number_on lane w.routing.connections)
    where
      by : (o : Option ℕ) → settles w ≡ (gains o [] w then settles)
      by None = refl
      by (Some n) = refl

  pub nobody-happened : (new : Parts) (after : D) (before outs : List Out)
      → Did disks (seen old) disk (seen new) after before outs settles as_it_is → Happened disks (events.Bytes lane piece) old disk new after wires wires before outs
  nobody-happened new after before outs did = record {
    what = Gains lane [];
    stores = as_it_is;
    did = did-as disks (seen old) disk (seen new) after before outs settles (happens (Gains lane [])) as_it_is as_it_is did (λ w at. gains-nothing w) (λ w at. refl);
    is = λ m at stands. none-is m at;
    streams = λ m at stands. subst (λ (o : Option ℕ). WiresStand old.keeping.keeper.limits wires (fed_by o piece m.streams)) (sym (none-machine m at)) stands;
    among = λ m notes at stands. as-it-is-among disks (events.Bytes lane piece) old disk m notes;
  }

-- ---- the event

abbrev pub value : Parts → List Link → Bool → BrokerValue
value parts wires spent = record { state = parts.routing; keeper = parts.keeping.keeper; wires = wires; spent = spent }

-- the event begins
abbrev pub begun_parts : Parts → Parts
begun_parts parts = record { routing = parts.routing; keeping = record parts.keeping { acts = 0 } }

module _ {D : Type 0} (disks : Ghosts D) (event : Event) (old : Parts) (disk : D) (wires : List Link) (spent : Bool) where
  at-start : (m : Machine) (notes : List Note) → IsBroker disks (value old wires spent) disk m → IsAt disks (seen (begun_parts old)) disk (entered m.state m.store notes)
  at-start m notes at = record { routing = at.state; limited = at.limited; acts = refl; store = at.store }

  pub handled : (new : Parts) (after : D) (wires_now kept : List Link) (spent_now : Bool) (before outs : List Out) → kept ≡ kept_links new.routing.connections wires_now → new.keeping.keeper.limits ≡ old.keeping.keeper.limits
      → Happened disks event (begun_parts old) disk new after wires wires_now before outs → Handled disks (value old wires spent) disk (value new kept spent_now) after event before outs
  handled new after wires_now kept spent_now before outs kept_is limits_is h = record {
    added = h.did.added;
    outs_are = h.did.outs_are;
    ends = λ m at.
        let w = entered m.state m.store (notes_in h.did.added) in
        let what = h.is m at.state at.streams in
        let e = subst (λ (x : Happening). Ends disks (seen new) after h.did.added w (happens x w)) (sym what) (h.did.ends w (at-start m (notes_in h.did.added) at) (λ k low high. (refl, refl))) in (
          record {
            state = e.at.routing;
            limited = e.at.limited;
            store = e.at.store;
            streams = subst (λ (l : Limits). WiresStand l kept (streams_after m event)) (sym limits_is)
                (subst (λ (ls : List Link). WiresStand old.keeping.keeper.limits ls (streams_after m event)) (sym kept_is)
                (wires-kept new.routing.connections wires_now old.keeping.keeper.limits (streams_after m event) (h.streams m at.state at.streams)));
          },
          e.outs,
        );
    crash = λ m at.
        let w = entered m.state m.store (notes_in h.did.added) in
        goes-among disks disk after (h.stores w) (stores_of old.keeping.keeper.limits m (noted event h.did.added)) (h.among m (notes_in h.did.added) at.state at.streams)
        (h.did.crash w (at-start m (notes_in h.did.added) at) (λ k low high. (refl, refl)));
    count = h.did.count;
    silent = h.did.silent;
    plain = h.did.plain;
  }

  pub broken : (fault : ActFault) (end : EventFault) (after : D) → (IsRefusing end → IsRefused fault) → Halted disks fault event (begun_parts old) disk after wires → Broke disks end (value old wires spent) disk after event
  broken fault end after refusing h = record {
    notes = h.stopped.some;
    crash = λ m at.
        let w = entered m.state m.store h.stopped.some in
        goes-among disks disk after (h.stores w) (stores_of old.keeping.keeper.limits m (record { event = event; notes = h.stopped.some })) (h.among m h.stopped.some at.state at.streams)
        (h.stopped.crash w (at-start m h.stopped.some at) (λ k low high. (refl, refl)));
    count = h.stopped.count;
    refused = λ is. h.stopped.refused (refusing is);
    plain = h.stopped.plain;
  }

  -- spent already
  pub broken-still : (end : EventFault) → (IsRefusing end → ⊥) → Broke disks end (value old wires spent) disk disk event
  broken-still end never = record {
    notes = [];
    crash = λ m at. goes-more disks disk disk [] (stores_of old.keeping.keeper.limits m (record { event = event; notes = [] })) (goes-nowhere disks disk disk refl (omega arith));
    count = omega arith;
    refused = λ is. absurd (never is);
    plain = λ absent. refl;
  }

-- a piece may be put on a disk that stands for a store
pub sound-put : {D : Type 0} (disks : Ghosts D) (keeper : Keeper) (disk : D) → IsSound disks keeper disk → MayPut disks disk
sound-put disks keeper disk sound = by keeper.shelf sound.1.by
  where
    by : (shelf : Shelf) → StandsBy disks keeper.limits shelf disk sound.0 → MayPut disks disk
    by shelves.Absent stands = inl stands.0
    by (shelves.Open held) stands = inl stands.3.settled
    by (shelves.Shut end) stands = inr stands.2.failed
