-- The connection of a lane stays the only one there as long as nothing is opened.
use Rattle.std.proofs.Common.{◌≡◌, ◌≢◌, ◌==◌, ℕ, Bool, true, false, cond, List, [], ◌∷◌, Option, None, Some, refl, sym, ap, subst, ◌∙◌}
use Rattle.std.specs.Option.{option_map}
use Rattle.std.specs.List.{AllByRecursion}
use Rattle.mj_machine.specs.declared.connection.Connection.{Connection}
use Rattle.mj_machine.specs.declared.connection.Role.TheVariants.{Client, Fresh, Gone, Worker}
use Rattle.mj_machine.specs.MachineState.{State}
use Rattle.mj_machine.specs.Connections.{connection_of, connection_on, number_on, with_role}
use Rattle.mj_machine.specs.Pairing.{mark_set}
use Rattle.mj_machine.specs.Sending.{sent}
use Rattle.mj_machine.specs.MessageStep.{registration}
use Rattle.mj_machine.specs.EventStep.{delivered}
use Rattle.mj_machine.specs.Steps.{Cause}
use Rattle.mj_machine.proofs.ConnectionLemmas.{agrees, differs, equal, found-number}
use Rattle.mj_machine.proofs.ListLemmas.{all-filter, all-map}
use Rattle.mj_machine.proofs.StepWalk.{MayBegin}
use Rattle.mj_machine.proofs.Changes.{IsKept}
use Rattle.mj_laws.specs.Soundness.{IsApart}
use Rattle.mj_laws.proofs.ApartLemmas.{all-changed}

-- nobody but n is on the lane, and n is on no other
abbrev IsIts : ℕ → ℕ → Connection → Type 0
IsIts lane n c = (c.lane == lane) ≡ (c.number == n)

abbrev pub IsAlone : ℕ → ℕ → List Connection → Type 0
IsAlone lane n cs = AllByRecursion (λ c. (c.lane == lane) ≡ (c.number == n)) cs

alone-found : (lane n : ℕ) (cs : List Connection) → IsAlone lane n cs → connection_on lane cs ≡ connection_of n cs
alone-found lane n [] alone = refl
alone-found lane n (c ∷ cs) alone =
    ap (λ (b : Bool). cond {A = Option Connection} b (Some c) (connection_on lane cs)) alone.0
    ∙ ap (λ (o : Option Connection). cond {A = Option Connection} (c.number == n) (Some c) o) (alone-found lane n cs alone.1)

-- so the lane has n where n is there, and else nobody
pub alone-number : (lane n : ℕ) (cs : List Connection) (o : Option Connection) → IsAlone lane n cs → connection_of n cs ≡ o → number_on lane cs ≡ option_map (λ c. n) o
alone-number lane n cs None alone is = ap (λ (o : Option Connection). option_map (λ c. c.number) o) (alone-found lane n cs alone ∙ is)
alone-number lane n cs (Some c) alone is =
    ap (λ (o : Option Connection). option_map (λ d. d.number) o) (alone-found lane n cs alone ∙ is) ∙ ap (λ (x : ℕ). Some x) (found-number n c cs is)

-- no other has the key of one that is none of these
others-differ : (key : Connection → ℕ) (k : ℕ) (cs : List Connection) → AllByRecursion (λ d. key d ≢ k) cs → AllByRecursion (λ d. (key d == k) ≡ false) cs
others-differ key k cs apart = all-map _ _ (λ d other. differs (key d) k other) cs apart

found-all : (P : Connection → Type 0) (lane : ℕ) (cs : List Connection) (c : Connection) → AllByRecursion P cs → connection_on lane cs ≡ Some c → P c
found-all P lane [] c all is = absurd (cc is)
found-all P lane (d ∷ cs) c all is = by (d.lane == lane) is (found-all P lane cs c all.1)
  where
    same-some : (x y : Connection) → Some x ≡ Some y → x ≡ y
    same-some x y e = cc e

    by : (b : Bool) → cond {A = Option Connection} b (Some d) (connection_on lane cs) ≡ Some c → (connection_on lane cs ≡ Some c → P c) → P c
    by true found rest = subst P (same-some d c found) all.0
    by false found rest = rest found

pub alone-start : (lane : ℕ) (cs : List Connection) (c : Connection) → IsApart (λ d. d.lane) cs → IsApart (λ d. d.number) cs → connection_on lane cs ≡ Some c → IsAlone lane c.number cs
alone-start lane [] c lanes numbers is = tt
alone-start lane (d ∷ cs) c lanes numbers is = by (d.lane == lane) refl is (alone-start lane cs c lanes.1 numbers.1)
  where
    same-some : (x y : Connection) → Some x ≡ Some y → x ≡ y
    same-some x y e = cc e

    first : (d.lane == lane) ≡ true → d ≡ c → IsAlone lane c.number (d ∷ cs)
    first on same =
        let lane_is = agrees d.lane lane on in
        let elsewhere = subst (λ (x : ℕ). AllByRecursion (λ e. (e.lane == x) ≡ false) cs) lane_is (others-differ (λ e. e.lane) d.lane cs lanes.0) in
        let others = others-differ (λ e. e.number) d.number cs numbers.0 in
        subst (λ (x : Connection). IsAlone lane x.number (d ∷ cs)) same (on ∙ sym (equal d.number), both cs elsewhere others)
      where
        both : (es : List Connection) → AllByRecursion (λ e. (e.lane == lane) ≡ false) es → AllByRecursion (λ e. (e.number == d.number) ≡ false) es → IsAlone lane d.number es
        both [] one two = tt
        both (e ∷ es) one two = (one.0 ∙ sym two.0, both es one.1 two.1)

    by : (b : Bool) → (d.lane == lane) ≡ b → cond {A = Option Connection} b (Some d) (connection_on lane cs) ≡ Some c
        → (connection_on lane cs ≡ Some c → IsAlone lane c.number cs) → IsAlone lane c.number (d ∷ cs)
    by true on found rest = first on (same-some d c found)
    by false off found rest =
        (off ∙ sym (differs d.number c.number (λ same. found-all (λ e. e.number ≢ d.number) lane cs c numbers.0 found (sym same))), rest found)

-- nothing is opened
abbrev pub Never : State → ℕ → Type 0
Never s lane = ⊥

pub alone-kept : (lane n : ℕ) (cause : Cause) (s0 : State) → MayBegin Never cause s0 → IsKept cause s0 (λ s. IsAlone lane n s.connections)
alone-kept lane n cause s0 never = record {
  keeps_marked = λ q s p. all-changed (IsIts lane n) q (mark_set s.now) (λ c e. e) s.connections p;
  keeps_sent = λ q octets c s is slow p. all-changed (IsIts lane n) q (sent s.now octets) (λ c e. e) s.connections p;
  keeps_reported = λ q s p. all-changed (IsIts lane n) q delivered (λ c e. e) s.connections p;
  keeps_removed = λ q told s p. all-filter _ _ s.connections p;
  keeps_gone = λ q told s p. all-changed (IsIts lane n) q (with_role Gone) (λ c e. e) s.connections p;
  keeps_expired = λ q told s is p. all-changed (IsIts lane n) q (with_role Fresh) (λ c e. e) s.connections p;
  keeps_asking = λ q c is plain p. all-changed (IsIts lane n) q (with_role Client) (λ c e. e) s0.connections p;
  keeps_queued = λ q c message request told is origin p. p;
  keeps_registered = λ q c message voice service told is fresh p. all-changed (IsIts lane n) q (with_role (Worker (registration voice service s0))) (λ c e. e) s0.connections p;
  keeps_rested = λ q service s final serves p. p;
  keeps_given = λ q by is p. p;
  keeps_passed = λ q by is p. p;
  keeps_opened = λ other is p. absurd (never other is);
  keeps_time = λ ms s p. p;
  keeps_emptied = λ s p. p;
  keeps_refilled = λ store s p. p;
  keeps_submitted = λ number service s p. p;
  keeps_dropped = λ number s p. p;
}
