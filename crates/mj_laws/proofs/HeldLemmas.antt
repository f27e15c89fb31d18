-- What a worker holds, and that a reply of it that counts is one for the service that it serves.
use Rattle.std.proofs.Common.{◌≡◌, ◌≢◌, ◌==◌, ◌≤◌, ◌+◌, ℕ, Bool, true, false, cond, List, [], ◌∷◌, ◌++◌, Option, None, Some, refl, sym, ap, ◌∙◌, arith}
use Rattle.std.specs.Option.{option_map}
use Rattle.std.specs.List.{AllByRecursion, find}
use Rattle.mj_base.specs.declared.version.Version.{Version}
use Rattle.mj_base.specs.declared.version.Version.TheVariants.{One, Two}
use Rattle.mj_queue.specs.declared.request.Request.{Request}
use Rattle.mj_machine.specs.declared.connection.Connection.{Connection}
use Rattle.mj_machine.specs.declared.held.Held.{Held}
use Rattle.mj_machine.specs.declared.said.Said.{Said}
use Rattle.mj_machine.specs.MachineState.{State}
use Rattle.mj_machine.specs.Connections.{connection_of, service_in, service_of}
use Rattle.mj_machine.specs.Leaving.{held_by, held_without}
use Rattle.mj_machine.specs.MessageStep.{same_version}
use Rattle.mj_machine.proofs.ConnectionLemmas.{agrees, equal, find-without-other}
use Rattle.mj_machine.proofs.Changes.{IsReplyOf}
use Rattle.mj_laws.specs.Requests.{Replies}
use Rattle.mj_laws.specs.Soundness.{ServicesAgree, holdings, one_if}

-- ---- what is held

pub held-without-other : (n q : ℕ) → n ≢ q → (held : List Held) → held_by n (held_without q held) ≡ held_by n held
held-without-other n q apart held = ap (λ (o : Option Held). option_map (λ h. h.request) o) (find-without-other (λ h. h.worker) q n apart held)

-- what is held stays so behind a further one
pub held-append : (n : ℕ) (held more : List Held) (request : Request) → held_by n held ≡ Some request → held_by n (held ++ more) ≡ Some request
held-append n [] more request holds = absurd (cc holds)
held-append n (h ∷ held) more request holds = by (h.worker == n) holds (held-append n held more request)
  where
    Holds : Bool → List Held → Type 0
    Holds b rest = option_map (λ x. x.request) (cond {A = Option Held} b (Some h) (find (λ x. x.worker == n) rest)) ≡ Some request

    by : (b : Bool) → Holds b held → (held_by n held ≡ Some request → held_by n (held ++ more) ≡ Some request) → Holds b (held ++ more)
    by true holds rest = holds
    by false holds rest = rest holds

-- who holds nothing holds what is added for it
pub held-last : (n : ℕ) (held : List Held) (h : Held) → h.worker ≡ n → holdings n held ≡ 0 → held_by n (held ++ h ∷ []) ≡ Some h.request
held-last n [] h its none =
    ap (λ (b : Bool). option_map (λ (x : Held). x.request) (cond {A = Option Held} b (Some h) None)) (ap (λ (x : ℕ). x == n) its ∙ equal n)
held-last n (x ∷ held) h its none = by (x.worker == n) none (held-last n held h its)
  where
    by : (b : Bool) → one_if b + holdings n held ≡ 0 → (holdings n held ≡ 0 → held_by n (held ++ h ∷ []) ≡ Some h.request)
        → option_map (λ y. y.request) (cond {A = Option Held} b (Some x) (find (λ y. y.worker == n) (held ++ h ∷ []))) ≡ Some h.request
    by true none rest = absurd (omega (arith, none))
    by false none rest = rest (omega (arith, none))

pub held-counts : (n : ℕ) (held : List Held) (request : Request) → held_by n held ≡ Some request → 1 ≤ holdings n held
held-counts n [] request holds = absurd (cc holds)
held-counts n (h ∷ held) request holds = by (h.worker == n) holds (held-counts n held request)
  where
    by : (b : Bool) → option_map (λ x. x.request) (cond {A = Option Held} b (Some h) (find (λ x. x.worker == n) held)) ≡ Some request
        → (held_by n held ≡ Some request → 1 ≤ holdings n held) → 1 ≤ one_if b + holdings n held
    by true holds rest = omega arith
    by false holds rest = let more = rest holds in omega (arith, more)

-- ---- a reply that counts

-- what is held is for the worker's service
pub held-service : (n : ℕ) (cs : List Connection) (held : List Held) (request : Request)
    → AllByRecursion (λ h. service_of (connection_of h.worker cs) ≡ Some h.request.service) held → held_by n held ≡ Some request
    → service_of (connection_of n cs) ≡ Some request.service
held-service n cs [] request all holds = absurd (cc holds)
held-service n cs (h ∷ held) request all holds = by (h.worker == n) refl holds (held-service n cs held request all.1)
  where
    same-some : (x y : Request) → Some x ≡ Some y → x ≡ y
    same-some x y e = cc e

    by : (b : Bool) → (h.worker == n) ≡ b → option_map (λ x. x.request) (cond {A = Option Held} b (Some h) (find (λ x. x.worker == n) held)) ≡ Some request
        → (held_by n held ≡ Some request → service_of (connection_of n cs) ≡ Some request.service) → service_of (connection_of n cs) ≡ Some request.service
    by true is holds rest =
        ap (λ (x : ℕ). service_of (connection_of x cs)) (sym (agrees h.worker n is)) ∙ all.0 ∙ ap (λ (r : Request). Some r.service) (same-some h.request request holds)
    by false is holds rest = rest holds

pub same-versions : (v w : Version) → same_version v w ≡ true → v ≡ w
same-versions One One same = refl
same-versions One Two same = absurd (cc same)
same-versions Two One same = absurd (cc same)
same-versions Two Two same = refl

unfoldable pub replies-of : (last : Bool) (n : ℕ) (said : Said) (s : State) → ServicesAgree s → IsReplyOf last n said s → Replies last n said s
replies-of last n said s agree r =
    let serves : Some r.registration.service ≡ Some r.request.service =
    sym (ap service_of r.there ∙ ap service_in r.role_is) ∙ held-service n s.connections s.held r.request agree.1 r.holds in
    record {
      worker = r.worker;
      there = r.there;
      registration = r.registration;
      role_is = r.role_is;
      cmd = r.cmd;
      said_is = r.said_is;
      version_is = same-versions r.cmd.version r.registration.version r.same;
      to = r.to;
      body = r.body;
      act_is = r.act_is;
      request = r.request;
      holds = r.holds;
      service_is = cc serves;
      address_is = r.address_is;
    }
