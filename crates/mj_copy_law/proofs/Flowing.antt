-- What is on the way to an end: whole messages that are of a kind, of which the end has read a front.
use Rattle.std.proofs.Common.{◌≡◌, ℕ, ◌⊎◌, List, [], ◌∷◌, ◌++◌, Bool, true, false, cond, eqb, refl, sym, ap, subst, ◌∙◌, inl, inr, append_assoc, append-nil, eq-eqb, eqb-true}
use Rattle.std.specs.List.{AllByRecursion}
use Rattle.mj_copy.specs.Messages.{Fits, Message, Short, Whole, octets_of, reading, spelled}
use Rattle.mj_copy_law.specs.MessageLaws.{FrontsAreRead}
use Rattle.mj_copy_law.specs.World.{Line, put, send}

pub record Flows (ok : Message → Type 0) (octets : List ℕ) : Type 0 where
  pub messages : List Message
  pub all_ok : AllByRecursion ok messages
  pub spells : octets ≡ spelled messages

pub nothing : (ok : Message → Type 0) → Flows ok []
nothing ok = record { messages = []; all_ok = tt; spells = refl }

pub all_join : {A : Type 0} (P : A → Type 0) (a b : List A) → AllByRecursion P a → AllByRecursion P b → AllByRecursion P (a ++ b)
all_join P [] b all more = more
all_join P (x ∷ a) b all more = (all.0, all_join P a b all.1 more)

pub all_weaker : {A : Type 0} (P Q : A → Type 0) (xs : List A) → ((x : A) → P x → Q x) → AllByRecursion P xs → AllByRecursion Q xs
all_weaker P Q [] weaker all = tt
all_weaker P Q (x ∷ xs) weaker all = (weaker x all.0, all_weaker P Q xs weaker all.1)

spelled_pushed : (ms : List Message) (m : Message) → spelled (ms ++ m ∷ []) ≡ spelled ms ++ octets_of m
spelled_pushed [] m = append-nil (octets_of m)
spelled_pushed (x ∷ ms) m = ap (λ (xs : List ℕ). octets_of x ++ xs) (spelled_pushed ms m) ∙ sym (append_assoc (octets_of x) (spelled ms) (octets_of m))

pub flows_more : (ok : Message → Type 0) (octets : List ℕ) (m : Message) → Flows ok octets → ok m → Flows ok (octets ++ octets_of m)
flows_more ok octets m flow is = record {
  messages = flow.messages ++ m ∷ [];
  all_ok = all_join ok flow.messages (m ∷ []) flow.all_ok (is, tt);
  spells = ap (λ (xs : List ℕ). xs ++ octets_of m) flow.spells ∙ sym (spelled_pushed flow.messages m);
}

pub flows_weaker : (P Q : Message → Type 0) (octets : List ℕ) → ((m : Message) → P m → Q m) → Flows P octets → Flows Q octets
flows_weaker P Q octets weaker flow = record {
  messages = flow.messages;
  all_ok = all_weaker P Q flow.messages weaker flow.all_ok;
  spells = flow.spells;
}

pub flows_same : (ok : Message → Type 0) (octets others : List ℕ) → octets ≡ others → Flows ok octets → Flows ok others
flows_same ok octets others same flow = subst (Flows ok) same flow

no_front : (xs ys : List ℕ) → xs ++ ys ≡ [] → xs ≡ []
no_front [] ys e = refl
no_front (x ∷ xs) ys e = absurd (cc e)

-- nothing whole is there yet, or a message of the kind, with what follows
abbrev pub FlowRead : (Message → Type 0) → List ℕ → List ℕ → Type 0
FlowRead ok xs ys = (reading xs ≡ Short) ⊎ ((m : Message) × (rest : List ℕ) × (reading xs ≡ Whole m rest) × ok m × Flows ok (rest ++ ys))

read_at : FrontsAreRead → (ok : Message → Type 0) → ((m : Message) → ok m → Fits m) → (xs ys : List ℕ) (ms : List Message) → AllByRecursion ok ms → xs ++ ys ≡ spelled ms → FlowRead ok xs ys
read_at fronts ok fits xs ys [] all e = inl (ap reading (no_front xs ys e))
read_at fronts ok fits xs ys (m ∷ ms) all e = found (fronts m xs ys (spelled ms) (fits m all.0) e)
  where
    found : (reading xs ≡ Short) ⊎ ((rest : List ℕ) × (reading xs ≡ Whole m rest) × (rest ++ ys ≡ spelled ms)) → FlowRead ok xs ys
    found (inl short) = inl short
    found (inr (rest, whole, left)) = inr (m, rest, whole, all.0, record { messages = ms; all_ok = all.1; spells = left })

pub flow_read : FrontsAreRead → (ok : Message → Type 0) → ((m : Message) → ok m → Fits m) → (xs ys : List ℕ) → Flows ok (xs ++ ys) → FlowRead ok xs ys
flow_read fronts ok fits xs ys flow = read_at fronts ok fits xs ys flow.messages flow.all_ok flow.spells

-- ---- what an end sends

pub put_here : (k : ℕ) (octets : List ℕ) (sent : ℕ → List ℕ) → put k octets sent k ≡ octets
put_here k octets sent = ap (λ (b : Bool). cond b octets (sent k)) (eq-eqb k k refl)

pub put_other : (link k : ℕ) (octets : List ℕ) (sent : ℕ → List ℕ) → eqb k link ≡ false → put link octets sent k ≡ sent k
put_other link k octets sent other = ap (λ (b : Bool). cond b octets (sent k)) other

pub sent_more : (ok : Message → Type 0) (kept : List ℕ) (m : Message) (line : Line) (k : ℕ) → ok m → Flows ok (kept ++ line.sent k) → Flows ok (kept ++ (send (octets_of m) line).sent k)
sent_more ok kept m line k is flow = at_link (eqb k line.link) refl
  where
    at_link : (b : Bool) → eqb k line.link ≡ b → Flows ok (kept ++ (send (octets_of m) line).sent k)
    at_link true here =
        let same : k ≡ line.link = eqb-true k line.link here in
        let octets : kept ++ (send (octets_of m) line).sent k ≡ (kept ++ line.sent k) ++ octets_of m =
        ap (λ (b : Bool). kept ++ cond b (line.sent line.link ++ octets_of m) (line.sent k)) here
        ∙ ap (λ (n : ℕ). kept ++ (line.sent n ++ octets_of m)) (sym same)
        ∙ sym (append_assoc kept (line.sent k) (octets_of m)) in
        flows_same ok _ _ (sym octets) (flows_more ok (kept ++ line.sent k) m flow is)
    at_link false other = flows_same ok _ _ (sym (ap (λ (xs : List ℕ). kept ++ xs) (put_other line.link k (line.sent line.link ++ octets_of m) line.sent other))) flow
