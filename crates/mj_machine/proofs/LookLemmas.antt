-- What stands at a number after a change of the connections.
use Rattle.std.proofs.Common.{◌≡◌, ◌≢◌, ◌==◌, ◌&&◌, ◌||◌, ℕ, Bool, true, false, cond, List, [], ◌∷◌, ◌++◌, length, Option, None, Some, refl, sym, ap, subst, ◌∙◌, inl, inr}
use Rattle.std.specs.Option.{option_map}
use Rattle.std.proofs.lemmas.Bool.Decides.{eqb_tells}
use Rattle.mj_base.specs.declared.event.Out.{Out}
use Rattle.mj_queue.specs.declared.request.Request.{Request}
use Rattle.mj_machine.specs.declared.connection.Connection.{Connection}
use Rattle.mj_machine.specs.declared.connection.Role.{Role}
use Rattle.mj_machine.specs.declared.held.Held.{Held}
use Rattle.mj_machine.specs.Leaving.{held_by}
use Rattle.mj_machine.specs.declared.connection.Role.TheVariants.{Fresh, Client, Worker, Gone}
use Rattle.mj_machine.specs.StoreState.{Told}
use Rattle.mj_machine.specs.MachineState.{Done, State}
use Rattle.mj_machine.specs.Connections.{changed, connection_of, heard, is_asking, is_client_role, service_in, service_of, spoken_to, with_role}
use Rattle.mj_machine.specs.Acts.{quiet}
use Rattle.mj_machine.specs.Sending.{is_slow, reply_text, sends, sends_if, sends_to, sent}
use Rattle.mj_machine.specs.MessageStep.{delivers_back, is_two}
use Rattle.mj_machine.proofs.ConnectionLemmas.{Keeps, changed-other, changed-same, cut_off-other, find-without-other}

-- what one sees of the connection at a number stays where the change doesn't touch it
pub look-changed : {A : Type 0} (see : Option Connection → A) (n q : ℕ) (f : Connection → Connection) → Keeps f
    → ((c : Connection) → see (Some (f c)) ≡ see (Some c)) → (cs : List Connection) → see (connection_of n (changed q f cs)) ≡ see (connection_of n cs)
look-changed see n q f keeps same cs =
    elim (eqb_tells n q) [
      | inl agree ↦ subst (λ (x : ℕ). see (connection_of n (changed x f cs)) ≡ see (connection_of n cs)) agree.1 (ap see (changed-same n f keeps cs) ∙ by (connection_of n cs))
      | inr other ↦ ap see (changed-other q n f keeps other.1 cs)
    ]
  where
    by : (o : Option Connection) → see (option_map f o) ≡ see o
    by None = refl
    by (Some c) = same c

-- the changed connection
pub look-same : (n : ℕ) (f : Connection → Connection) → Keeps f → (cs : List Connection) (c : Connection) → connection_of n cs ≡ Some c → connection_of n (changed n f cs) ≡ Some (f c)
look-same n f keeps cs c is = changed-same n f keeps cs ∙ ap (λ (o : Option Connection). option_map f o) is

pub heard-service : (now : ℕ) (role : Role) → service_in (heard now role) ≡ service_in role
heard-service now Fresh = refl
heard-service now Client = refl
heard-service now (Worker r) = refl
heard-service now Gone = refl

pub spoken-service : (now : ℕ) (role : Role) → service_in (spoken_to now role) ≡ service_in role
spoken-service now Fresh = refl
spoken-service now Client = refl
spoken-service now (Worker r) = refl
spoken-service now Gone = refl

pub heard-client : (now : ℕ) (role : Role) → is_client_role (heard now role) ≡ is_client_role role
heard-client now Fresh = refl
heard-client now Client = refl
heard-client now (Worker r) = refl
heard-client now Gone = refl

pub spoken-client : (now : ℕ) (role : Role) → is_client_role (spoken_to now role) ≡ is_client_role role
spoken-client now Fresh = refl
spoken-client now Client = refl
spoken-client now (Worker r) = refl
spoken-client now Gone = refl

-- who is a client is no worker
pub no-asker : (o : Option Connection) (service : List ℕ) → service_of o ≡ Some service → is_asking o ≡ true → ⊥
no-asker None service serves asks = cc asks
no-asker (Some c) service serves asks = by c.role serves asks
  where
    by : (role : Role) → service_in role ≡ Some service → is_client_role role ≡ true → ⊥
    by Fresh serves asks = cc asks
    by Client serves asks = cc serves
    by (Worker r) serves asks = cc asks
    by Gone serves asks = cc asks

-- ---- sending to somebody else

sends_if-other : (b : Bool) (n q : ℕ) (piece : List ℕ) (c : Connection) (told : Told) (s : State) → n ≢ q → connection_of n (sends_if b q piece c told s).0.connections ≡ connection_of n s.connections
sends_if-other true n q piece c told s apart = cut_off-other q n apart s.connections
sends_if-other false n q piece c told s apart = changed-other q n (sent s.now (length piece)) (λ d. refl) apart s.connections

sends_to-other : (n q : ℕ) (piece : List ℕ) (o : Option Connection) (told : Told) (s : State) → n ≢ q → connection_of n (sends_to q piece o told s).0.connections ≡ connection_of n s.connections
sends_to-other n q piece None told s apart = refl
sends_to-other n q piece (Some c) told s apart = sends_if-other (is_slow s.limits c (length piece)) n q piece c told s apart

pub sends-other : (n q : ℕ) (piece : List ℕ) (told : Told) (s : State) → n ≢ q → connection_of n (sends q piece told s).0.connections ≡ connection_of n s.connections
sends-other n q piece told s apart = sends_to-other n q piece (connection_of q s.connections) told s apart

-- what another holds stays so
sends_if-held : (b : Bool) (n q : ℕ) (piece : List ℕ) (c : Connection) (told : Told) (s : State) → n ≢ q → held_by n (sends_if b q piece c told s).0.held ≡ held_by n s.held
sends_if-held true n q piece c told s apart = ap (λ (o : Option Held). option_map (λ h. h.request) o) (find-without-other (λ h. h.worker) q n apart s.held)
sends_if-held false n q piece c told s apart = refl

sends_to-held : (n q : ℕ) (piece : List ℕ) (o : Option Connection) (told : Told) (s : State) → n ≢ q → held_by n (sends_to q piece o told s).0.held ≡ held_by n s.held
sends_to-held n q piece None told s apart = refl
sends_to-held n q piece (Some c) told s apart = sends_if-held (is_slow s.limits c (length piece)) n q piece c told s apart

module _ (n q : ℕ) (last : Bool) (request : Request) (body : List (List ℕ)) (told : Told) (s : State) where
  -- a worker is no asker
  apart-asker : (service : List ℕ) → service_of (connection_of n s.connections) ≡ Some service → is_asking (connection_of q s.connections) ≡ true → n ≢ q
  apart-asker service serves asks same = no-asker (connection_of n s.connections) service serves (ap (λ (x : ℕ). is_asking (connection_of x s.connections)) same ∙ asks)

  -- and stays a worker while a reply of its own is delivered
  pub delivers-service : (service : List ℕ) → service_of (connection_of n s.connections) ≡ Some service
      → service_of (connection_of n (delivers_back q last request body told s).0.connections) ≡ Some service
  delivers-service service serves = by (is_asking (connection_of q s.connections)) (last || is_two request.version) refl
    where
      by : (b c : Bool) → is_asking (connection_of q s.connections) ≡ b
          → service_of (connection_of n (cond {A = Done Out} (b && c) (sends q (reply_text last request body) told s) (quiet s)).0.connections) ≡ Some service
      by true true asks = ap service_of (sends-other n q (reply_text last request body) told s (apart-asker service serves asks)) ∙ serves
      by true false asks = serves
      by false c asks = serves

  -- with what it holds
  pub delivers-held : (service : List ℕ) → service_of (connection_of n s.connections) ≡ Some service
      → held_by n (delivers_back q last request body told s).0.held ≡ held_by n s.held
  delivers-held service serves = by (is_asking (connection_of q s.connections)) (last || is_two request.version) refl
    where
      by : (b c : Bool) → is_asking (connection_of q s.connections) ≡ b
          → held_by n (cond {A = Done Out} (b && c) (sends q (reply_text last request body) told s) (quiet s)).0.held ≡ held_by n s.held
      by true true asks = sends_to-held n q (reply_text last request body) (connection_of q s.connections) told s (apart-asker service serves asks)
      by true false asks = refl
      by false c asks = refl

-- ---- other changes

-- a connection whose sight is nothing was added last
pub look-added : {A : Type 0} (see : Option Connection → A) (n : ℕ) (new : Connection) → see (Some new) ≡ see None → (cs : List Connection)
    → see (connection_of n (cs ++ new ∷ [])) ≡ see (connection_of n cs)
look-added see n new unseen [] = by (new.number == n)
  where
    by : (b : Bool) → see (cond {A = Option Connection} b (Some new) None) ≡ see None
    by true = unseen
    by false = refl
look-added see n new unseen (c ∷ cs) = by (c.number == n) (look-added see n new unseen cs)
  where
    by : (b : Bool) → see (connection_of n (cs ++ new ∷ [])) ≡ see (connection_of n cs)
        → see (cond {A = Option Connection} b (Some c) (connection_of n (cs ++ new ∷ []))) ≡ see (cond {A = Option Connection} b (Some c) (connection_of n cs))
    by true rest = refl
    by false rest = rest

-- the services of all connections after one that is no worker was given a role that is none
pub service-idle : (n q : ℕ) (role : Role) (c : Connection) (cs : List Connection) → connection_of q cs ≡ Some c → service_in c.role ≡ None → service_in role ≡ None
    → service_of (connection_of n (changed q (with_role role) cs)) ≡ service_of (connection_of n cs)
service-idle n q role c cs is idle idle_now =
    elim (eqb_tells n q) [
      | inl agree ↦ subst (λ (x : ℕ). service_of (connection_of x (changed q (with_role role) cs)) ≡ service_of (connection_of x cs)) (sym agree.1)
          (ap service_of (look-same q (with_role role) (λ d. refl) cs c is) ∙ idle_now ∙ sym idle ∙ ap service_of (sym is))
      | inr other ↦ ap service_of (changed-other q n (with_role role) (λ d. refl) other.1 cs)
    ]

-- a connection that was given a role that is no worker's
pub service-given : (n : ℕ) (role : Role) (cs : List Connection) → service_in role ≡ None → service_of (connection_of n (changed n (with_role role) cs)) ≡ None
service-given n role cs idle = ap service_of (changed-same n (with_role role) (λ d. refl) cs) ∙ by (connection_of n cs)
  where
    by : (o : Option Connection) → service_of (option_map (with_role role) o) ≡ None
    by None = refl
    by (Some c) = idle

-- ---- who was there before

abbrev pub WasThere : ℕ → List Connection → Connection → Type 0
WasThere n cs d = (c : Connection) × (connection_of n cs ≡ Some c) × (c.lane ≡ d.lane)

-- a changed connection stood there before, on the same lane
pub was-there : (n q : ℕ) (f : Connection → Connection) → Keeps f → ((c : Connection) → (f c).lane ≡ c.lane) → (cs : List Connection) (d : Connection)
    → connection_of n (changed q f cs) ≡ Some d → WasThere n cs d
was-there n q f keeps lane cs d is =
    elim (eqb_tells n q) [
      | inl agree ↦ subst (λ (x : ℕ). WasThere x cs d) (sym agree.1)
          (by (connection_of q cs) refl (sym (changed-same q f keeps cs) ∙ subst (λ (x : ℕ). connection_of x (changed q f cs) ≡ Some d) agree.1 is))
      | inr other ↦ (d, sym (changed-other q n f keeps other.1 cs) ∙ is, refl)
    ]
  where
    same-some : (x y : Connection) → Some x ≡ Some y → x ≡ y
    same-some x y e = cc e

    by : (o : Option Connection) → connection_of q cs ≡ o → option_map f o ≡ Some d → WasThere q cs d
    by None e found = absurd (cc found)
    by (Some c) e found = (c, e, sym (lane c) ∙ ap (λ (x : Connection). x.lane) (same-some (f c) d found))
