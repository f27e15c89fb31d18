-- Where a run begins, and what is said of it at the end.
use Rattle.std.proofs.Common.{◌≡◌, ◌≤◌, ℕ, true, false, List, [], ◌∷◌, ◌++◌, Option, Some, None, is_some, refl, sym, ap, ◌∙◌, subst, inl, inr, ⊎_elim, arith}
use Rattle.mj_base.specs.declared.event.Event.{Event}
use Rattle.mj_base.specs.declared.limits.Limits.{Limits}
use Rattle.mj_broker.specs.Handling.{BrokerValue, IsBroker, begun_keeper, begun_state, limits_of}
use Rattle.mj_broker.specs.Wires.{WiresStand}
use Rattle.mj_broker.specs.declared.wires.Link.{Link}
use Rattle.mj_disk.specs.Content.{IsImage}
use Rattle.mj_disk.specs.DiskModel.{History, IsSettled, LeavesOnly, Now}
use Rattle.mj_disk.specs.declared.disk.Disk.{Ghosts}
use Rattle.mj_disk.proofs.Moments.{leaves_weaker}
use Rattle.mj_keeper.specs.Standing.{IsOneOf, IsSound, Sees, Stands, StandsBy}
use Rattle.mj_keeper.specs.declared.keeper.Keeper.{Keeper}
use Rattle.mj_keeper.specs.declared.keeper.Shelf.{Shelf}
use Rattle.mj_keeper.specs.declared.keeper.Shelf.TheVariants as shelves
use Rattle.mj_laws.specs.Soundness.{IsBegun}
use Rattle.mj_laws.proofs.CommandLemmas.{commands_grow}
use Rattle.mj_machine.specs.MachineRun.{run_state}
use Rattle.mj_machine.specs.MachineState.{Machine, start_state, start_with}
use Rattle.mj_machine.specs.StoreState.{Access, IsShut, Store, doubted, no_store, opened_store}
use Rattle.mj_queue.specs.declared.request.Request.{Request}
use Rattle.mj_store.specs.Commands.{OpensForOne}
use Rattle.mj_store.specs.Opening.{LeavesBegun, OpensLawfully}
use Rattle.mj_store.specs.Standing.{Holds, IsHeld, IsTelling, StoreValue}
use Rattle.mj_tickets.specs.declared.command.TicketCmd.{TicketCmd}
use Rattle.mj_titanic.proofs.Alike.{waiting-alike}
use Rattle.mj_serve.specs.Counts.{no_counts}
use Rattle.mj_serve.specs.Given.{Entry}
use Rattle.mj_serve.specs.Running.{Ran, RanOut}
use Rattle.mj_serve.specs.Serving.{EndedEarly, IsLeft, Served}
use Rattle.mj_serve.specs.declared.summary.Summary.{Summary}
use Rattle.mj_serve.proofs.Laws.{keeps-laws}
use Rattle.mj_serve.proofs.Leaving.{opens-for}

-- ---- a broker that begins

module _ {D : Type 0} (disks : Ghosts D) (limits : Limits) (seed : List ℕ) (broker : BrokerValue) (disk : D) where
  -- nobody is connected
  streams-none : (m : Machine) → m.streams ≡ [] → broker.wires ≡ [] → WiresStand (limits_of broker) broker.wires m.streams
  streams-none m none wires n =
      subst (λ (ws : List Link). WiresStand (limits_of broker) ws m.streams) (sym wires) (empty m none) n
    where
      empty : (m : Machine) → m.streams ≡ [] → WiresStand (limits_of broker) [] m.streams
      empty m none n = tt

  module _ (held : StoreValue) (keeper : broker.keeper ≡ begun_keeper limits seed (Some held)) (within : held.limits ≡ limits) where
    stands-over : (base : ℕ) (commands : List TicketCmd) → Holds disks base commands held disk → Stands disks broker.keeper disk (opened_store seed base commands)
    stands-over base commands holds =
        subst (λ (k : Keeper). Stands disks k disk (opened_store seed base commands)) (sym keeper)
        (record { by = (within, refl, refl, holds); seed = λ stored. refl })

    pub sound-over : IsHeld disks held disk → IsSound disks broker.keeper disk
    sound-over held_is = (opened_store seed held_is.0 held_is.1, stands-over held_is.0 held_is.1 held_is.2)

    pub begun-over : broker.state ≡ begun_state limits (Some held) → broker.wires ≡ [] → IsTelling disks disk → (base : ℕ) (commands : List TicketCmd) → Holds disks base commands held disk
        → IsBroker disks broker disk (start_with limits (opened_store seed base commands))
    begun-over state wires telling base commands holds = record {
      state = state ∙ ap (λ (queue : List Request). record (start_state limits) { queue = queue }) (waiting-alike (opened_store seed base commands) held.index holds.knows.index_is []);
      limited = ap (λ (k : Keeper). k.limits) keeper;
      store = record { stands = stands-over base commands holds; telling = λ stored. telling };
      streams = streams-none (start_with limits (opened_store seed base commands)) refl wires;
    }

  module _ (keeper : broker.keeper ≡ begun_keeper limits seed None) (settled : disks.settled_now disk) where
    stands-without : Stands disks broker.keeper disk no_store
    stands-without = subst (λ (k : Keeper). Stands disks k disk no_store) (sym keeper) (record { by = (settled, refl, refl, refl); seed = λ stored. absurd (cc stored) })

    pub sound-without : IsSound disks broker.keeper disk
    sound-without = (no_store, stands-without)

    pub begun-without : broker.state ≡ begun_state limits None → broker.wires ≡ [] → IsBroker disks broker disk (start_with limits no_store)
    begun-without state wires = record {
      state = state;
      limited = ap (λ (k : Keeper). k.limits) keeper;
      store = record { stands = stands-without; telling = λ stored. absurd (cc stored) };
      streams = streams-none (start_with limits no_store) refl wires;
    }

-- ---- the opening

-- a disk that told tells still
pub told-still : (before after : Option History) (history : History) → before ≡ Some history → is_some after ≡ is_some before → (later : History) × (after ≡ Some later)
told-still before None history is telling = absurd (let no : false ≡ true = telling ∙ ap is_some is in cc no)
told-still before (Some later) history is telling = (later, refl)

pub silent-by : (before after : Option History) → is_some after ≡ is_some before → after ≡ None → before ≡ None
silent-by None after telling none = refl
silent-by (Some history) after telling none = absurd (let no : false ≡ true = sym (ap is_some none) ∙ telling in cc no)

-- a crash at the opening leaves the file's commands
pub opening-leaves : {D : Type 0} (disks : Ghosts D) (disk after : D) (seed : List ℕ) (base : ℕ) (commands : List TicketCmd) → LeavesBegun disks disk after → OpensLawfully base commands (disks.told disk) → Now (disks.told disk) IsSettled
    → LeavesOnly (disks.time disk, disks.time after) (disks.told disk) (disks.told after) (IsOneOf (opened_store seed base commands ∷ []))
opening-leaves disks disk after seed base commands leaves opens settled =
    leaves_weaker (disks.time disk, disks.time after) (disks.told disk) (disks.told after) (OpensForOne base (commands ∷ [])) (IsOneOf (opened_store seed base commands ∷ []))
    (leaves base commands opens.history opens.tells (settled opens.history opens.tells) opens.opens)
    (λ image one. ⊎_elim (λ here. inl (inl here)) (λ no. absurd no) one)

-- ---- a run that has just begun

module _ {P D : Type 0} (stand : P → P → List Event → List Entry → Type 0) (disks : Ghosts D) (origin : P) (began disk : D) (limits : Limits) (store : Store) (stands : stand origin origin [] [])
    (crash : store.stored ≡ true → Now (disks.told began) IsSettled → LeavesOnly (disks.time began, disks.time disk) (disks.told began) (disks.told disk) (IsOneOf (store ∷ []))) (count : disks.faults began ≤ disks.faults disk) where
  pub ran-none : (broker : BrokerValue) → IsBroker disks broker disk (start_with limits store) → limits_of broker ≡ limits → Ran stand disks origin began limits (start_with limits store) origin disk broker no_counts
  ran-none broker at limited = record {
    happened = [];
    given = [];
    ran = record { stands = stands; outs = refl; notes = tt; stable = λ stored. tt; crash = crash; count = (count, omega (arith, count)) };
    counts = record { events = refl; pieces = refl };
    limited = limited;
    at = at;
  }

  pub ended-none : RanOut stand disks origin began limits (start_with limits store) origin disk
  ended-none = record {
    happened = [];
    last = [];
    alone = omega arith;
    given = [];
    ran = record { stands = stands; outs = refl; notes = tt; stable = λ stored. tt; crash = crash; count = (count, omega (arith, count)) };
  }

-- ---- the end

module _ {D : Type 0} (disks : Ghosts D) (disk : D) (store : Store) (reads : (history : History) → disks.told disk ≡ Some history → IsImage history.now history.now.octets) where
  left-by : (limits : Limits) (shelf : Shelf) → StandsBy disks limits shelf disk store → store.stored ≡ true → IsLeft disks disk store
  left-by limits shelves.Absent stands stored = absurd (let no : false ≡ true = sym stands.1 ∙ stored in cc no)
  left-by limits (shelves.Open held) stands stored = record {
    settled = λ usably. (stands.3.settled, stands.3.file);
    reads = λ history is. inl (opens-for store.base store.commands history.now.octets (stands.3.file history is).1);
  }
  left-by limits (shelves.Shut end) stands stored = record {
    settled = λ usably. absurd (subst (λ (a : Access). IsShut a) usably stands.1);
    reads = λ history is. ⊎_elim
        (λ plain. inl (opens-for store.base store.commands history.now.octets plain))
        (λ doubtful. inr (opens-for store.base (store.commands ++ doubted store.access) history.now.octets doubtful))
        (stands.2.images history is history.now.octets (reads history is));
  }

  pub is-left : (keeper : Keeper) → Sees disks keeper disk store → store.stored ≡ true → IsLeft disks disk store
  is-left keeper sees stored = left-by keeper.limits keeper.shelf sees.stands.by stored

module _ {P D : Type 0} (stand : P → P → List Event → List Entry → Type 0) (disks : Ghosts D) (origin : P) (began : D) (limits : Limits) (store : Store) (begun : IsBegun store) (ports : P) (disk : D) where
  pub served-of : (broker : BrokerValue) (summary : Summary) → ((history : History) → disks.told disk ≡ Some history → IsImage history.now history.now.octets)
      → Ran stand disks origin began limits (start_with limits store) ports disk broker summary → Served stand disks origin began limits store ports disk summary
  served-of broker summary reads ran = record {
    happened = ran.happened;
    given = ran.given;
    ran = ran.ran;
    counts = ran.counts;
    left = λ stored. is-left disks disk (run_state limits (start_with limits store) ran.happened).store reads broker.keeper ran.at.store
        ((commands_grow limits (start_with limits store) ran.happened).1.stored ∙ stored);
    laws = keeps-laws limits store ran.happened begun;
  }

  pub ended-of : RanOut stand disks origin began limits (start_with limits store) ports disk → EndedEarly stand disks origin began limits store ports disk
  ended-of ran = record {
    happened = ran.happened;
    last = ran.last;
    alone = ran.alone;
    given = ran.given;
    ran = ran.ran;
    laws = keeps-laws limits store ran.happened begun;
  }
