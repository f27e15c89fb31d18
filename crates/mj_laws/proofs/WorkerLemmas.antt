-- Each worker stands once among those that wait and those that hold, with its service, and nobody else does.
use Rattle.std.proofs.Common.{◌≡◌, ◌≢◌, ◌≤◌, ◌+◌, ◌==◌, ℕ, false, not, List, [], ◌∷◌, ◌++◌, Option, None, Some, MatchOption, refl, sym, ap, subst, ◌∙◌, inl, inr, arith}
use Rattle.std.specs.List.{AllByRecursion, list_any}
use Rattle.std.proofs.lemmas.Bool.Decides.{eqb_tells}
use Rattle.std.proofs.lemmas.Slice.Eq.{bytes_eq-Decides}
use Rattle.mj_queue.specs.Settling.{Pair, has_waiter, pair, serves, without_worker}
use Rattle.mj_queue.specs.PairLaw.{IsPair}
use Rattle.mj_queue.specs.declared.request.Request.{Request}
use Rattle.mj_queue.specs.declared.worker.Waiter.{Waiter}
use Rattle.mj_queue.proofs.LawLemmas.{pair-is-first}
use Rattle.mj_machine.specs.declared.connection.Connection.{Connection}
use Rattle.mj_machine.specs.declared.connection.Role.{Role}
use Rattle.mj_machine.specs.declared.connection.Role.TheVariants.{Fresh, Client, Worker, Gone}
use Rattle.mj_machine.specs.declared.held.Held.{Held}
use Rattle.mj_machine.specs.StoreState.{Told}
use Rattle.mj_machine.specs.MachineState.{State}
use Rattle.mj_machine.specs.Connections.{changed, connection_of, service_in, service_of, with_role}
use Rattle.mj_machine.specs.Leaving.{becomes, held_without, left, removed}
use Rattle.mj_machine.specs.Sending.{sent}
use Rattle.mj_machine.specs.Pairing.{held_by_pair, mark_set}
use Rattle.mj_machine.specs.MessageStep.{registration}
use Rattle.mj_machine.specs.EventStep.{delivered}
use Rattle.mj_machine.specs.Steps.{Cause}
use Rattle.mj_machine.proofs.ConnectionLemmas.{changed-other, cut_off-other, cut_off-same, differs, equal}
use Rattle.mj_laws.specs.Soundness.{ServicesAgree, WorkersStandOnce, holdings, one_if, places, waitings}
use Rattle.mj_laws.proofs.CountLemmas.{all-first, passed-apart, times-append, times-first, times-without-other, times-without-same}
use Rattle.mj_machine.proofs.ListLemmas.{all-append, all-map, all-passed}
use Rattle.mj_machine.proofs.LookLemmas.{heard-service, look-added, look-changed, look-same, service-given, service-idle, spoken-service}
use Rattle.mj_machine.proofs.Changes.{IsKept, IsNoServer, given_over, passed_over}

-- ---- what stays

pub service-marked : (n q : ℕ) (now : ℕ) (cs : List Connection) → service_of (connection_of n (changed q (mark_set now) cs)) ≡ service_of (connection_of n cs)
service-marked n q now cs = look-changed service_of n q (mark_set now) (λ c. refl) (λ c. heard-service now c.role) cs

pub service-sent : (n q now octets : ℕ) (cs : List Connection) → service_of (connection_of n (changed q (sent now octets) cs)) ≡ service_of (connection_of n cs)
service-sent n q now octets cs = look-changed service_of n q (sent now octets) (λ c. refl) (λ c. spoken-service now c.role) cs

pub service-reported : (n q : ℕ) (cs : List Connection) → service_of (connection_of n (changed q delivered cs)) ≡ service_of (connection_of n cs)
service-reported n q cs = look-changed service_of n q delivered (λ c. refl) (λ c. refl) cs

pub no-server : (role : Role) → IsNoServer role → service_in role ≡ None
no-server Fresh plain = refl
no-server Client plain = refl
no-server (Worker r) plain = absurd plain
no-server Gone plain = absurd plain

pub service-asking : (n q : ℕ) (c : Connection) (cs : List Connection) → connection_of q cs ≡ Some c → IsNoServer c.role
    → service_of (connection_of n (changed q (with_role Client) cs)) ≡ service_of (connection_of n cs)
service-asking n q c cs is plain = service-idle n q Client c cs is (no-server c.role plain) refl

pub is-pair : (waiting : List Waiter) (requests : List Request) (p : Pair) → pair waiting requests ≡ Some p → IsPair waiting requests p
is-pair waiting requests p e =
    subst (λ (o : Option Pair). MatchOption o (list_any (has_waiter waiting) requests ≡ false) (IsPair waiting requests)) e (pair-is-first waiting requests)

pub places-few : (o : Option (List ℕ)) → places o ≤ 1
places-few None = omega arith
places-few (Some service) = omega arith

-- ---- once

-- the same places, and the same services
once-same : (s : State) (cs : List Connection) → WorkersStandOnce s → ((n : ℕ) → service_of (connection_of n cs) ≡ service_of (connection_of n s.connections))
    → (n : ℕ) → waitings n s.waiting + holdings n s.held ≡ places (service_of (connection_of n cs))
once-same s cs once same n = once n ∙ ap places (sym (same n))

-- q stands nowhere, and everybody else where it stood
once-gone : (s : State) (q : ℕ) (cs : List Connection) → WorkersStandOnce s → service_of (connection_of q cs) ≡ None
    → ((n : ℕ) → n ≢ q → connection_of n cs ≡ connection_of n s.connections)
    → (n : ℕ) → waitings n (without_worker q s.waiting) + holdings n (held_without q s.held) ≡ places (service_of (connection_of n cs))
once-gone s q cs once gone others n =
    elim (eqb_tells n q) [
      | inl agree ↦ (
          let w = times-without-same (λ (x : Waiter). x.worker) q s.waiting in
          let h = times-without-same (λ (x : Held). x.worker) q s.held in
          let c = ap places gone in
          let there : waitings q (without_worker q s.waiting) + holdings q (held_without q s.held) ≡ places (service_of (connection_of q cs)) = omega (arith, w, h, c) in
          subst (λ (x : ℕ). waitings x (without_worker q s.waiting) + holdings x (held_without q s.held) ≡ places (service_of (connection_of x cs))) (sym agree.1) there
          )
      | inr other ↦ (
          let w = times-without-other (λ (x : Waiter). x.worker) n q other.1 s.waiting in
          let h = times-without-other (λ (x : Held). x.worker) n q other.1 s.held in
          let c = ap (λ (o : Option Connection). places (service_of o)) (others n other.1) in
          let now = once n in
          omega (arith, w, h, c, now)
          )
    ]

-- q waits, and everybody else stands where it stood
once-waits : (s : State) (q : ℕ) (service : List ℕ) (cs : List Connection) → WorkersStandOnce s → places (service_of (connection_of q cs)) ≡ 1
    → ((n : ℕ) → n ≢ q → connection_of n cs ≡ connection_of n s.connections)
    → (n : ℕ) → waitings n (without_worker q s.waiting ++ record { worker = q; service = service } ∷ []) + holdings n (held_without q s.held) ≡ places (service_of (connection_of n cs))
once-waits s q service cs once there others n =
    elim (eqb_tells n q) [
      | inl agree ↦ (
          let a = times-append (λ (x : Waiter). x.worker == q) (without_worker q s.waiting) (record { worker = q; service = service } ∷ []) in
          let one = ap one_if (equal q) in
          let w = times-without-same (λ (x : Waiter). x.worker) q s.waiting in
          let h = times-without-same (λ (x : Held). x.worker) q s.held in
          let here : waitings q (without_worker q s.waiting ++ record { worker = q; service = service } ∷ []) + holdings q (held_without q s.held)
          ≡ places (service_of (connection_of q cs)) = omega (arith, a, one, w, h, there) in
          subst
          (λ (x : ℕ). waitings x (without_worker q s.waiting ++ record { worker = q; service = service } ∷ []) + holdings x (held_without q s.held)
          ≡ places (service_of (connection_of x cs))) (sym agree.1) here
          )
      | inr other ↦ (
          let a = times-append (λ (x : Waiter). x.worker == n) (without_worker q s.waiting) (record { worker = q; service = service } ∷ []) in
          let none = ap one_if (differs q n (λ same. other.1 (sym same))) in
          let w = times-without-other (λ (x : Waiter). x.worker) n q other.1 s.waiting in
          let h = times-without-other (λ (x : Held). x.worker) n q other.1 s.held in
          let c = ap (λ (o : Option Connection). places (service_of o)) (others n other.1) in
          let now = once n in
          omega (arith, a, none, w, h, c, now)
          )
    ]

once-given : (s : State) (p : Pair) → pair s.waiting s.queue ≡ Some p → WorkersStandOnce s → WorkersStandOnce (given_over p s)
once-given s p is once n =
    let w = times-first (λ (x : Waiter). x.worker == n) (serves p.request.service) s.waiting p.waiter p.waiting (is-pair s.waiting s.queue p is).found in
    let h = times-append (λ (x : Held). x.worker == n) s.held (held_by_pair p ∷ []) in
    let now = once n in
    omega (arith, w, h, now)

-- the pair's worker waits on
once-passed : (s : State) (p : Pair) → pair s.waiting s.queue ≡ Some p → WorkersStandOnce s → WorkersStandOnce (passed_over p s)
once-passed s p is once =
    let n = p.waiter.worker in
    let w = times-first (λ (x : Waiter). x.worker == n) (serves p.request.service) s.waiting p.waiter p.waiting (is-pair s.waiting s.queue p is).found in
    let one = ap one_if (equal n) in
    let now = once n in
    let few = places-few (service_of (connection_of n s.connections)) in
    once-waits s n p.waiter.service s.connections once (omega (arith, w, one, now, few)) (λ q apart. refl)

once-left : (q : ℕ) (role : Role) (told : Told) (s : State) → service_in role ≡ None → WorkersStandOnce s → WorkersStandOnce (becomes q role (left q told s))
once-left q role told s idle once =
    once-gone s q (becomes q role s).connections once (service-given q role s.connections idle) (λ n apart. changed-other q n (with_role role) (λ c. refl) apart s.connections)

pub once-kept : (cause : Cause) (s0 : State) → IsKept cause s0 WorkersStandOnce
once-kept cause s0 = record {
  keeps_marked = λ q s p. once-same s _ p (λ n. service-marked n q s.now s.connections);
  keeps_sent = λ q octets c s is slow p. once-same s _ p (λ n. service-sent n q s.now octets s.connections);
  keeps_reported = λ q s p. once-same s _ p (λ n. service-reported n q s.connections);
  keeps_removed = λ q told s p. once-gone s q (removed q told s).connections p (ap service_of (cut_off-same q s.connections)) (λ n apart. cut_off-other q n apart s.connections);
  keeps_gone = λ q told s p. once-left q Gone told s refl p;
  keeps_expired = λ q told s is p. once-left q Fresh told s refl p;
  keeps_asking = λ q c is plain p. once-same s0 _ p (λ n. service-asking n q c s0.connections is plain);
  keeps_queued = λ q c message request told is origin p. p;
  keeps_registered = λ q c message voice service told is fresh p. once-waits s0 q service (becomes q (Worker (registration voice service s0)) s0).connections p
      (ap (λ (o : Option Connection). places (service_of o)) (look-same q (with_role (Worker (registration voice service s0))) (λ d. refl) s0.connections c is))
      (λ n apart. changed-other q n (with_role (Worker (registration voice service s0))) (λ d. refl) apart s0.connections);
  keeps_rested = λ q service s final works p. once-waits s q service s.connections p (ap places works) (λ n apart. refl);
  keeps_given = λ p by is once. once-given s0 p is once;
  keeps_passed = λ p by is once. once-passed s0 p is once;
  keeps_opened = λ lane is p. once-same s0 _ p (λ n. look-added service_of n _ refl s0.connections);
  keeps_time = λ ms s p. p;
  keeps_emptied = λ s p. p;
  keeps_refilled = λ store s p. p;
  keeps_submitted = λ number service s p. p;
  keeps_dropped = λ number s p. p;
}

-- ---- services

-- the services of the waiting and of the holding, by these connections
abbrev Agree : List Connection → List Waiter → List Held → Type 0
Agree cs waiting held =
    AllByRecursion (λ w. service_of (connection_of w.worker cs) ≡ Some w.service) waiting
    × AllByRecursion (λ h. service_of (connection_of h.worker cs) ≡ Some h.request.service) held

agree-same : (cs ds : List Connection) (waiting : List Waiter) (held : List Held)
    → ((n : ℕ) → service_of (connection_of n ds) ≡ service_of (connection_of n cs)) → Agree cs waiting held → Agree ds waiting held
agree-same cs ds waiting held same all =
    (all-map _ _ (λ w e. same w.worker ∙ e) waiting all.0, all-map _ _ (λ h e. same h.worker ∙ e) held all.1)

agree-without : (q : ℕ) (cs ds : List Connection) (waiting : List Waiter) (held : List Held)
    → ((n : ℕ) → n ≢ q → connection_of n ds ≡ connection_of n cs) → Agree cs waiting held → Agree ds (without_worker q waiting) (held_without q held)
agree-without q cs ds waiting held others all = (
  all-map _ _ (λ w e. ap service_of (others w.worker (passed-apart w.worker q e.1)) ∙ e.0) (without_worker q waiting) (all-passed _ (λ (w : Waiter). not (w.worker == q)) waiting all.0),
  all-map _ _ (λ h e. ap service_of (others h.worker (passed-apart h.worker q e.1)) ∙ e.0) (held_without q held) (all-passed _ (λ (h : Held). not (h.worker == q)) held all.1),
)

agree-waits : (q : ℕ) (service : List ℕ) (cs ds : List Connection) (waiting : List Waiter) (held : List Held) → service_of (connection_of q ds) ≡ Some service
    → ((n : ℕ) → n ≢ q → connection_of n ds ≡ connection_of n cs) → Agree cs waiting held
    → Agree ds (without_worker q waiting ++ record { worker = q; service = service } ∷ []) (held_without q held)
agree-waits q service cs ds waiting held there others all =
    let rest = agree-without q cs ds waiting held others all in (
      all-append _ (without_worker q waiting) (record { worker = q; service = service } ∷ []) rest.0 (there, tt),
      rest.1,
    )

agree-given : (s : State) (p : Pair) → pair s.waiting s.queue ≡ Some p → ServicesAgree s → ServicesAgree (given_over p s)
agree-given s p is all =
    let found = (is-pair s.waiting s.queue p is).found in
    let parts = all-first _ (serves p.request.service) s.waiting p.waiter p.waiting found all.0 in
    let same : p.waiter.service ≡ p.request.service = (bytes_eq-Decides p.waiter.service p.request.service).0 found.passes in (
      parts.1,
      all-append _ s.held (held_by_pair p ∷ []) all.1 (parts.0 ∙ ap (λ (x : List ℕ). Some x) same, tt),
    )

agree-passed : (s : State) (p : Pair) → pair s.waiting s.queue ≡ Some p → ServicesAgree s → ServicesAgree (passed_over p s)
agree-passed s p is all =
    let parts = all-first _ (serves p.request.service) s.waiting p.waiter p.waiting (is-pair s.waiting s.queue p is).found all.0 in
    agree-waits p.waiter.worker p.waiter.service s.connections s.connections s.waiting s.held parts.0 (λ n apart. refl) all

agree-left : (q : ℕ) (role : Role) (told : Told) (s : State) → ServicesAgree s → ServicesAgree (becomes q role (left q told s))
agree-left q role told s all =
    agree-without q s.connections (becomes q role s).connections s.waiting s.held (λ n apart. changed-other q n (with_role role) (λ c. refl) apart s.connections) all

pub services-kept : (cause : Cause) (s0 : State) → IsKept cause s0 ServicesAgree
services-kept cause s0 = record {
  keeps_marked = λ q s p. agree-same s.connections _ s.waiting s.held (λ n. service-marked n q s.now s.connections) p;
  keeps_sent = λ q octets c s is slow p. agree-same s.connections _ s.waiting s.held (λ n. service-sent n q s.now octets s.connections) p;
  keeps_reported = λ q s p. agree-same s.connections _ s.waiting s.held (λ n. service-reported n q s.connections) p;
  keeps_removed = λ q told s p. agree-without q s.connections (removed q told s).connections s.waiting s.held (λ n apart. cut_off-other q n apart s.connections) p;
  keeps_gone = λ q told s p. agree-left q Gone told s p;
  keeps_expired = λ q told s is p. agree-left q Fresh told s p;
  keeps_asking = λ q c is plain p. agree-same s0.connections _ s0.waiting s0.held (λ n. service-asking n q c s0.connections is plain) p;
  keeps_queued = λ q c message request told is origin p. p;
  keeps_registered = λ q c message voice service told is fresh p.
      agree-waits q service s0.connections (becomes q (Worker (registration voice service s0)) s0).connections s0.waiting s0.held
      (ap service_of (look-same q (with_role (Worker (registration voice service s0))) (λ d. refl) s0.connections c is))
      (λ n apart. changed-other q n (with_role (Worker (registration voice service s0))) (λ d. refl) apart s0.connections) p;
  keeps_rested = λ q service s final works p. agree-waits q service s.connections s.connections s.waiting s.held works (λ n apart. refl) p;
  keeps_given = λ p by is all. agree-given s0 p is all;
  keeps_passed = λ p by is all. agree-passed s0 p is all;
  keeps_opened = λ lane is p. agree-same s0.connections _ s0.waiting s0.held (λ n. look-added service_of n _ refl s0.connections) p;
  keeps_time = λ ms s p. p;
  keeps_emptied = λ s p. p;
  keeps_refilled = λ store s p. p;
  keeps_submitted = λ number service s p. p;
  keeps_dropped = λ number s p. p;
}
