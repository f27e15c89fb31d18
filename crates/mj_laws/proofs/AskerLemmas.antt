-- Whoever has a request in the queue is there and is a client.
use Rattle.std.proofs.Common.{◌≡◌, ◌≢◌, ℕ, Bool, true, false, not, cond, map, List, [], ◌∷◌, ◌++◌, Option, None, Some, refl, sym, ap, subst, ◌∙◌, inl, inr}
use Rattle.std.specs.List.{AllByRecursion}
use Rattle.std.proofs.lemmas.Bool.Decides.{eqb_tells}
use Rattle.mj_queue.specs.Settling.{Pair, has_waiter, is_client, pair, without_client}
use Rattle.mj_queue.specs.declared.request.Origin.{Origin}
use Rattle.mj_queue.specs.declared.request.Origin.TheVariants as origins
use Rattle.mj_queue.specs.declared.request.Request.{Request}
use Rattle.mj_tickets.specs.Fold.{Ticket}
use Rattle.mj_machine.specs.declared.connection.Connection.{Connection}
use Rattle.mj_machine.specs.declared.connection.Role.{Role}
use Rattle.mj_machine.specs.declared.connection.Role.TheVariants.{Client, Fresh, Gone, Worker}
use Rattle.mj_machine.specs.StoreState.{Told, ticket_request, tickets_of, waiting_tickets}
use Rattle.mj_machine.specs.MachineState.{State}
use Rattle.mj_machine.specs.Connections.{changed, connection_of, is_asking, is_client_role, with_role}
use Rattle.mj_machine.specs.Leaving.{becomes, comes_back, given_back, held_by, left, removed}
use Rattle.mj_machine.specs.Sending.{sent}
use Rattle.mj_machine.specs.Pairing.{mark_set}
use Rattle.mj_machine.specs.MessageStep.{enqueues, registration}
use Rattle.mj_machine.specs.EventStep.{delivered}
use Rattle.mj_machine.specs.Steps.{Cause}
use Rattle.mj_machine.proofs.ConnectionLemmas.{changed-other, cut_off-other}
use Rattle.mj_laws.specs.Soundness.{AskersAreThere, IsThere}
use Rattle.mj_laws.proofs.CountLemmas.{all-first, passed-apart}
use Rattle.mj_machine.proofs.ListLemmas.{all-append, all-filter, all-map, all-passed}
use Rattle.mj_machine.proofs.LookLemmas.{heard-client, look-added, look-changed, look-same, spoken-client}
use Rattle.mj_laws.proofs.WorkerLemmas.{is-pair}
use Rattle.mj_machine.proofs.Changes.{IsKept, given_over}

abbrev AllThere : List Connection → List Request → Type 0
AllThere cs queue = AllByRecursion (λ r. IsThere true cs r.origin) queue

abbrev StaysAsking : List Connection → List Connection → ℕ → Type 0
StaysAsking cs ds n = is_asking (connection_of n cs) ≡ true → is_asking (connection_of n ds) ≡ true

origin-stays : (cs ds : List Connection) (o : Origin) → ((n : ℕ) → StaysAsking cs ds n) → IsThere true cs o → IsThere true ds o
origin-stays cs ds (origins.Client n) stays there = stays n there
origin-stays cs ds (origins.Ticket n) stays there = there

there-same : (cs ds : List Connection) (queue : List Request) → ((n : ℕ) → StaysAsking cs ds n) → AllThere cs queue → AllThere ds queue
there-same cs ds queue stays all = all-map _ _ (λ r there. origin-stays cs ds r.origin stays there) queue all

same-asking : (cs ds : List Connection) → ((n : ℕ) → is_asking (connection_of n ds) ≡ is_asking (connection_of n cs)) → (n : ℕ) → StaysAsking cs ds n
same-asking cs ds same n asks = same n ∙ asks

origin-without : (q : ℕ) (cs ds : List Connection) (o : Origin) → ((n : ℕ) → n ≢ q → connection_of n ds ≡ connection_of n cs) → not (is_client q o) ≡ true
    → IsThere true cs o → IsThere true ds o
origin-without q cs ds (origins.Client n) others passed there = ap is_asking (others n (passed-apart n q passed)) ∙ there
origin-without q cs ds (origins.Ticket n) others passed there = there

there-without : (q : ℕ) (cs ds : List Connection) (queue : List Request) → ((n : ℕ) → n ≢ q → connection_of n ds ≡ connection_of n cs) → AllThere cs queue
    → AllThere ds (without_client q queue)
there-without q cs ds queue others all =
    all-map _ _ (λ r e. origin-without q cs ds r.origin others e.1 e.0) (without_client q queue) (all-passed _ (λ (r : Request). not (is_client q r.origin)) queue all)

-- whom a client's role is given asks, and everybody else asks on
asking-given : (q : ℕ) (c : Connection) (cs : List Connection) → connection_of q cs ≡ Some c → (n : ℕ) → StaysAsking cs (changed q (with_role Client) cs) n
asking-given q c cs is n asks =
    elim (eqb_tells n q) [
      | inl agree ↦ subst (λ (x : ℕ). is_asking (connection_of x (changed q (with_role Client) cs)) ≡ true) (sym agree.1)
          (ap is_asking (look-same q (with_role Client) (λ d. refl) cs c is))
      | inr other ↦ ap is_asking (changed-other q n (with_role Client) (λ d. refl) other.1 cs) ∙ asks
    ]

-- who has said nothing has asked nothing
asking-fresh : (q : ℕ) (role : Role) (c : Connection) (cs : List Connection) → connection_of q cs ≡ Some c → c.role ≡ Fresh → (n : ℕ) → StaysAsking cs (changed q (with_role role) cs) n
asking-fresh q role c cs is fresh n asks =
    elim (eqb_tells n q) [
      | inl agree ↦ absurd (never agree.1)
      | inr other ↦ ap is_asking (changed-other q n (with_role role) (λ d. refl) other.1 cs) ∙ asks
    ]
  where
    never : n ≡ q → ⊥
    never same =
        let no_asking : is_asking (connection_of n cs) ≡ false = ap (λ (x : ℕ). is_asking (connection_of x cs)) same ∙ ap is_asking is ∙ ap is_client_role fresh in
        cc (asks, no_asking)

there-queued : (n : ℕ) (c : Connection) (request : Request) (s : State) → connection_of n s.connections ≡ Some c → request.origin ≡ origins.Client n
    → AskersAreThere true (becomes n Client s) → AskersAreThere true (enqueues n request s)
there-queued n c request s is origin all =
    let asks : IsThere true (becomes n Client s).connections (origins.Client n) = ap is_asking (look-same n (with_role Client) (λ d. refl) s.connections c is) in
    all-append _ s.queue (request ∷ []) all (subst (IsThere true (becomes n Client s).connections) (sym origin) asks, tt)

there-given : (s : State) (p : Pair) → pair s.waiting s.queue ≡ Some p → AskersAreThere true s → AskersAreThere true (given_over p s)
there-given s p is all = (all-first _ (has_waiter s.waiting) s.queue p.request p.requests (is-pair s.waiting s.queue p is).asked all).1

-- what is given back is a ticket
there-back : (told : Told) (cs : List Connection) (o : Option Request) (queue : List Request) → AllThere cs queue → AllThere cs (given_back told o queue)
there-back told cs None queue all = all
there-back told cs (Some r) queue all = by r.origin refl
  where
    ticket : (n : ℕ) (b : Bool) → r.origin ≡ origins.Ticket n → AllThere cs (cond {A = List Request} b (queue ++ r ∷ []) queue)
    ticket n true is = all-append _ queue (r ∷ []) all (subst (IsThere true cs) (sym is) refl, tt)
    ticket n false is = all

    by : (o : Origin) → r.origin ≡ o → AllThere cs (cond {A = List Request} (comes_back told o) (queue ++ r ∷ []) queue)
    by (origins.Client n) is = all
    by (origins.Ticket n) is = ticket n (told.pends n) is

there-left : (q : ℕ) (role : Role) (told : Told) (s : State) → AskersAreThere true s → AskersAreThere true (becomes q role (left q told s))
there-left q role told s all =
    there-back told (becomes q role s).connections (held_by q s.held) (without_client q s.queue)
    (there-without q s.connections (becomes q role s).connections s.queue (λ n apart. changed-other q n (with_role role) (λ c. refl) apart s.connections) all)

pub there-tickets : {B : Type 0} (cs : List Connection) (ts : List (Ticket B)) → AllThere cs (map (λ t. ticket_request t.number t.service) ts)
there-tickets cs [] = tt
there-tickets cs (t ∷ ts) = (refl, there-tickets cs ts)

pub askers-kept : (cause : Cause) (s0 : State) → IsKept cause s0 (AskersAreThere true)
askers-kept cause s0 = record {
  keeps_marked = λ q s p. there-same s.connections _ s.queue
      (same-asking s.connections _ (λ n. look-changed is_asking n q (mark_set s.now) (λ c. refl) (λ c. heard-client s.now c.role) s.connections)) p;
  keeps_sent = λ q octets c s is slow p. there-same s.connections _ s.queue
      (same-asking s.connections _ (λ n. look-changed is_asking n q (sent s.now octets) (λ d. refl) (λ d. spoken-client s.now d.role) s.connections)) p;
  keeps_reported = λ q s p. there-same s.connections _ s.queue
      (same-asking s.connections _ (λ n. look-changed is_asking n q delivered (λ c. refl) (λ c. refl) s.connections)) p;
  keeps_removed = λ q told s p. there-back told (removed q told s).connections (held_by q s.held) (without_client q s.queue)
      (there-without q s.connections (removed q told s).connections s.queue (λ n apart. cut_off-other q n apart s.connections) p);
  keeps_gone = λ q told s p. there-left q Gone told s p;
  keeps_expired = λ q told s is p. there-left q Fresh told s p;
  keeps_asking = λ q c is plain p. there-same s0.connections _ s0.queue (asking-given q c s0.connections is) p;
  keeps_queued = λ q c message request told is origin p. there-queued q c request s0 is origin p;
  keeps_registered = λ q c message voice service told is fresh p. there-same s0.connections _ s0.queue
      (asking-fresh q (Worker (registration voice service s0)) c s0.connections is fresh) p;
  keeps_rested = λ q service s final works p. p;
  keeps_given = λ p by is all. there-given s0 p is all;
  keeps_passed = λ p by is all. all-filter _ _ s0.queue all;
  keeps_opened = λ lane is p. there-same s0.connections _ s0.queue (same-asking s0.connections _ (λ n. look-added is_asking n _ refl s0.connections)) p;
  keeps_time = λ ms s p. p;
  keeps_emptied = λ s p. all-filter _ _ s.queue p;
  keeps_refilled = λ store s p. all-append _ s.queue (waiting_tickets s.held (tickets_of store)) p (there-tickets s.connections _);
  keeps_submitted = λ number service s p. all-append _ s.queue (ticket_request number service ∷ []) p (refl, tt);
  keeps_dropped = λ number s p. all-filter _ _ s.queue p;
}
