-- Each piece that an act puts goes to a connection that was there before, on the same lane, for a reason.
use Rattle.std.proofs.Common.{◌≡◌, ◌⊎◌, ℕ, List, None, Some, refl, sym, subst, ◌∙◌, inl, inr}
use Rattle.std.specs.List.{AllByRecursion}
use Rattle.std.proofs.lemmas.Bool.Decides.{eqb_tells}
use Rattle.mj_base.specs.declared.event.Out.{Out}
use Rattle.mj_base.specs.declared.limits.Limits.{Limits}
use Rattle.mj_base.specs.declared.event.Out.TheVariants.{End, Note, Piece}
use Rattle.mj_machine.specs.declared.connection.Connection.{Connection}
use Rattle.mj_machine.specs.declared.connection.Role.TheVariants.{Client, Fresh, Gone, Worker}
use Rattle.mj_machine.specs.StoreState.{Store}
use Rattle.mj_machine.specs.MachineState.{State, Whole}
use Rattle.mj_machine.specs.Connections.{changed, connection_of, with_role}
use Rattle.mj_machine.specs.Acts.{Doing}
use Rattle.mj_machine.specs.DiskActs as disk
use Rattle.mj_machine.specs.Leaving.{connections_without}
use Rattle.mj_machine.specs.MessageStep.{registration}
use Rattle.mj_machine.specs.Pairing.{mark_set}
use Rattle.mj_machine.specs.Sending.{sent}
use Rattle.mj_machine.specs.EventStep.{delivered}
use Rattle.mj_machine.specs.Steps.{Cause, IsAllowed, Opening, acts}
use Rattle.mj_machine.proofs.ConnectionLemmas.{Keeps, cut_off-other, cut_off-same}
use Rattle.mj_machine.proofs.ListLemmas.{all-append, all-map}
use Rattle.mj_machine.proofs.LookLemmas.{WasThere, was-there}
use Rattle.mj_machine.proofs.Changes.{IsCarried, IsNote, OnlyNotes, Why, accepted_at, closed_at, stored_at}
use Rattle.mj_machine.proofs.Walk.{walk-acts}

abbrev pub IsOpening : Cause → Type 0
IsOpening cause = (lane : ℕ) × (cause ≡ Opening lane)

-- it stood at this number before, on the same lane, or is opened by this act
abbrev pub StoodThere : Cause → State → ℕ → Connection → Type 0
StoodThere cause s0 n c = IsOpening cause ⊎ WasThere n s0.connections c

-- put for a reason, which may speak of the store as it is when the act ends
pub record IsPut (cause : Cause) (w0 : Whole) (limits : Limits) (store : Store) (lane : ℕ) (octets : List ℕ) : Type 0 where
  pub number : ℕ
  pub why : Why cause w0 limits store number octets
  pub asker : Connection
  pub there : StoodThere cause w0.routing number asker
  pub lane_is : asker.lane ≡ lane

abbrev pub HasReason : Cause → Whole → Limits → Store → Out → Type 0
HasReason cause w0 limits store (Piece lane octets) = IsPut cause w0 limits store lane octets
HasReason cause w0 limits store (End lane reason at) = Unit {0}
HasReason cause w0 limits store (Note note) = Unit {0}

module _ (cause : Cause) (w0 : Whole) where
  abbrev s0 : State
  s0 = w0.routing

  abbrev AllStood : List Connection → Type 0
  AllStood cs = (n : ℕ) (c : Connection) → connection_of n cs ≡ Some c → StoodThere cause s0 n c

  stood-changed : (q : ℕ) (f : Connection → Connection) → Keeps f → ((c : Connection) → (f c).lane ≡ c.lane) → (cs : List Connection) → AllStood cs → AllStood (changed q f cs)
  stood-changed q f keeps lane cs all n d is =
      let was = was-there n q f keeps lane cs d is in
      elim (all n was.0 was.1) [ inl opens ↦ inl opens | inr before ↦ inr (before.0, before.1, before.2 ∙ was.2) ]

  stood-without : (q : ℕ) (cs : List Connection) → AllStood cs → AllStood (connections_without q cs)
  stood-without q cs all n d is =
      elim (eqb_tells n q) [
        | inl same ↦ absurd (nobody (sym (cut_off-same q cs) ∙ subst (λ (x : ℕ). connection_of x (connections_without q cs) ≡ Some d) same.1 is))
        | inr other ↦ all n d (sym (cut_off-other q n other.1 cs) ∙ is)
      ]
    where
      nobody : None ≡ Some d → ⊥
      nobody e = cc e

  abbrev Reasons : Whole → List Out → Type 0
  Reasons w o = AllByRecursion (HasReason cause w0 w.routing.limits w.store) o

  abbrev AllReasons : Doing Whole Out → Type 0
  AllReasons d = AllStood d.0.routing.connections × Reasons d.0 d.1

  note-reason : (limits : Limits) (store : Store) (out : Out) → IsNote out → HasReason cause w0 limits store out
  note-reason limits store (Piece lane octets) is = absurd is
  note-reason limits store (End lane reason at) is = tt
  note-reason limits store (Note note) is = tt

  -- notes have reasons whatever the store is
  only-notes : (w : Whole) (o : List Out) → OnlyNotes o → Reasons w o
  only-notes w o only = all-map IsNote (HasReason cause w0 w.routing.limits w.store) (note-reason w.routing.limits w.store) o only

  reasons-carried : IsCarried cause w0 AllReasons
  reasons-carried = record {
    marked = λ n w o p. (stood-changed n (mark_set w.routing.now) (λ c. refl) (λ c. refl) w.routing.connections p.0, p.1);
    sends = λ n piece c w o why is slow p. (
      stood-changed n (sent w.routing.now _) (λ d. refl) (λ d. refl) w.routing.connections p.0,
      all-append (HasReason cause w0 w.routing.limits w.store) o _ p.1 (record { number = n; why = why; asker = c; there = p.0 n c is; lane_is = refl }, tt),
    );
    reported = λ n w o p. (stood-changed n delivered (λ c. refl) (λ c. refl) w.routing.connections p.0, p.1);
    removes = λ n w o p. (stood-without n w.routing.connections p.0, p.1);
    ends = λ lane n reason at w o p. (stood-without n w.routing.connections p.0, all-append (HasReason cause w0 w.routing.limits w.store) o _ p.1 (tt, tt));
    gone = λ n w o p. (stood-changed n (with_role Gone) (λ c. refl) (λ c. refl) w.routing.connections p.0, p.1);
    expired = λ n w o is p. (stood-changed n (with_role Fresh) (λ c. refl) (λ c. refl) w.routing.connections p.0, p.1);
    asking = λ n c o is plain p. (stood-changed n (with_role Client) (λ d. refl) (λ d. refl) s0.connections p.0, p.1);
    queued = λ n c message request o told is origin p. p;
    registers = λ n c message voice service o told is fresh p. (
      stood-changed n (with_role (Worker (registration voice service s0))) (λ d. refl) (λ d. refl) s0.connections p.0,
      p.1,
    );
    rested = λ n service w o final serves nothing p. p;
    given = λ q w o by is same p. p;
    opens = λ lane o is p. ((λ n c found. inl (lane, is)), p.1);
    time = λ ms w o p. p;
    counts = λ w o read works p. p;
    shuts = λ doubt w o in_doubt fault only p. (p.0, all-append _ o _ (only-notes (disk.shuts doubt w).0 o only) (tt, tt));
    reopens = λ doubt w o shut works only p. (p.0, all-append _ o _ (only-notes (disk.reopens (disk.found_in (disk.finds w) doubt) w).0 o only) (tt, tt));
    accepts = λ service body w o usable stored room works only p. (p.0, only-notes (accepted_at service body w) o only);
    stores = λ n number body w o usable pending holds works only p. (p.0, only-notes (stored_at number body w) o only);
    closes = λ ticket id w o usable found works only p. (p.0, only-notes (closed_at ticket.number w) o only);
    passes = λ q number is found origin fault p. (p.0, (tt, tt));
  }

pub acts-have-reasons : (cause : Cause) (w : Whole) → IsAllowed cause w.routing
    → AllByRecursion (HasReason cause w (acts cause w).0.routing.limits (acts cause w).0.store) (acts cause w).1
acts-have-reasons cause w allowed = (walk-acts cause w (AllReasons cause w) (reasons-carried cause w) allowed ((λ n c is. inr (c, is, refl)), tt)).1
