-- A connection that isn't there doesn't come back: only an opening adds one, and that one has a new number.
use Rattle.std.proofs.Common.{◌≡◌, ◌≢◌, ◌==◌, ℕ, Bool, true, false, cond, List, [], ◌∷◌, ◌++◌, Option, None, Some, refl, sym, ap, subst, ◌∙◌, inl, inr}
use Rattle.std.specs.Option.{option_map}
use Rattle.std.proofs.lemmas.Bool.Decides.{eqb_tells}
use Rattle.mj_machine.specs.declared.connection.Connection.{Connection}
use Rattle.mj_machine.specs.declared.connection.Role.TheVariants.{Client, Fresh, Gone, Worker}
use Rattle.mj_machine.specs.StoreState.{Told, told_by}
use Rattle.mj_machine.specs.MachineState.{State, Whole}
use Rattle.mj_machine.specs.Connections.{changed, connection_of, number_on, with_role}
use Rattle.mj_machine.specs.Leaving.{connections_without}
use Rattle.mj_machine.specs.MessageStep.{registration}
use Rattle.mj_machine.specs.Pairing.{mark_set}
use Rattle.mj_machine.specs.Sending.{sent}
use Rattle.mj_machine.specs.EventStep.{Closes, Gains, Happening, Opens, Reports, Stops, Ticks, closes, delivered, happens}
use Rattle.mj_machine.specs.Steps.{Cause}
use Rattle.mj_machine.proofs.ConnectionLemmas.{Keeps, changed-other, changed-same, cut_off-other, cut_off-same, differs}
use Rattle.mj_machine.proofs.StepWalk.{MayBegin, kept-happens}
use Rattle.mj_machine.proofs.Changes.{IsKept}

abbrev pub IsNoOpening : Happening → Type 0
IsNoOpening (Opens lane) = ⊥
IsNoOpening (Gains lane gain) = Unit {0}
IsNoOpening (Reports lane) = Unit {0}
IsNoOpening (Closes lane) = Unit {0}
IsNoOpening (Ticks ms) = Unit {0}
IsNoOpening Stops = Unit {0}

-- no connection has this number
abbrev Absent : ℕ → State → Type 0
Absent n s = connection_of n s.connections ≡ None

-- what is opened has another number
abbrev Another : ℕ → State → ℕ → Type 0
Another n s lane = n ≢ s.next

pub absent-changed : (n q : ℕ) (f : Connection → Connection) → Keeps f → (cs : List Connection) → connection_of n cs ≡ None → connection_of n (changed q f cs) ≡ None
absent-changed n q f keeps cs none =
    elim (eqb_tells n q) [
      | inl same ↦ subst (λ (x : ℕ). connection_of n (changed x f cs) ≡ None) same.1 (changed-same n f keeps cs ∙ ap (λ (o : Option Connection). option_map f o) none)
      | inr other ↦ changed-other q n f keeps other.1 cs ∙ none
    ]

pub absent-cut : (n q : ℕ) (cs : List Connection) → connection_of n cs ≡ None → connection_of n (connections_without q cs) ≡ None
absent-cut n q cs none =
    elim (eqb_tells n q) [
      | inl same ↦ subst (λ (x : ℕ). connection_of n (connections_without x cs) ≡ None) same.1 (cut_off-same n cs)
      | inr other ↦ cut_off-other q n other.1 cs ∙ none
    ]

absent-added : (n : ℕ) (cs : List Connection) (c : Connection) → n ≢ c.number → connection_of n cs ≡ None → connection_of n (cs ++ c ∷ []) ≡ None
absent-added n [] c apart none = rw (differs c.number n (λ same. apart (sym same))) refl
absent-added n (d ∷ cs) c apart none = by (d.number == n) none (absent-added n cs c apart)
  where
    by : (b : Bool) → cond {A = Option Connection} b (Some d) (connection_of n cs) ≡ None → (connection_of n cs ≡ None → connection_of n (cs ++ c ∷ []) ≡ None)
        → cond {A = Option Connection} b (Some d) (connection_of n (cs ++ c ∷ [])) ≡ None
    by true found rest = found
    by false found rest = rest found

absent-kept : (n : ℕ) (cause : Cause) (s0 : State) → MayBegin (Another n) cause s0 → IsKept cause s0 (Absent n)
absent-kept n cause s0 free = record {
  keeps_marked = λ q s p. absent-changed n q (mark_set s.now) (λ c. refl) s.connections p;
  keeps_sent = λ q octets c s is slow p. absent-changed n q (sent s.now octets) (λ d. refl) s.connections p;
  keeps_reported = λ q s p. absent-changed n q delivered (λ c. refl) s.connections p;
  keeps_removed = λ q told s p. absent-cut n q s.connections p;
  keeps_gone = λ q told s p. absent-changed n q (with_role Gone) (λ c. refl) s.connections p;
  keeps_expired = λ q told s is p. absent-changed n q (with_role Fresh) (λ c. refl) s.connections p;
  keeps_asking = λ q c is plain p. absent-changed n q (with_role Client) (λ d. refl) s0.connections p;
  keeps_queued = λ q c message request told is origin p. p;
  keeps_registered = λ q c message voice service told is fresh p.
      absent-changed n q (with_role (Worker (registration voice service s0))) (λ d. refl) s0.connections p;
  keeps_rested = λ q service s final serves p. p;
  keeps_given = λ q is found p. p;
  keeps_passed = λ q is found p. p;
  keeps_opened = λ lane is p. absent-added n s0.connections _ (free lane is) p;
  keeps_time = λ ms s p. p;
  keeps_emptied = λ s p. p;
  keeps_refilled = λ store s p. p;
  keeps_submitted = λ number service s p. p;
  keeps_dropped = λ number s p. p;
}

pub closes-next : (o : Option ℕ) (told : Told) (s : State) → (closes o told s).next ≡ s.next
closes-next None told s = refl
closes-next (Some q) told s = refl

-- who isn't there after anything but an opening
pub absent-happens : (h : Happening) → IsNoOpening h → (w : Whole) (n : ℕ) → connection_of n w.routing.connections ≡ None → connection_of n (happens h w).0.routing.connections ≡ None
absent-happens h quietly w n none = kept-happens (Another n) (Absent n) (absent-kept n) h w (λ lane is. absurd (subst IsNoOpening is quietly)) none

-- who isn't there after an opening
pub absent-opens : (lane : ℕ) (w : Whole) (n : ℕ) → n ≢ w.routing.next → connection_of n w.routing.connections ≡ None → connection_of n (happens (Opens lane) w).0.routing.connections ≡ None
absent-opens lane w n apart none =
    kept-happens (Another n) (Absent n) (absent-kept n) (Opens lane) w (λ other is same. apart (same ∙ closes-next (number_on other w.routing.connections) (told_by w.store) w.routing)) none
