-- An audit, a line further.
use Rattle.std.proofs.Common.{◌≡◌, ◌≢◌, ◌<◌, ℕ, Bool, true, false, cond, not, List, [], ◌∷◌, ◌++◌, length, Option, Some, None, refl, sym, ap, subst, ◌∙◌, append-nil, eqb, inl, inr}
use mathlib.Core.Bool.{◌&&◌, ◌||◌}
use Rattle.std.specs.Option.{unwrap_or}
use Rattle.std.proofs.lemmas.Bool.{and_from, cases_eq, eq-eqb, ne_eqb, true≢false}
use Rattle.mj_base.specs.StandardLimits.{peer_limits, standard_limits}
use Rattle.mj_wire.specs.WireState.{StandsFor}
use Rattle.mj_ledger.specs.Events.{Event}
use Rattle.mj_ledger.specs.Standing.{Stands, is_known}
use Rattle.mj_ledger.specs.TranscriptLaws.{keeps_busy, keeps_owner, keeps_wire}
use Rattle.mj_ledger.specs.declared.tables.Tables.{Tables}
use Rattle.mj_transcript.specs.Lines.{address_in, closes, connection_on, is_lawful, is_open, octets_in, octets_out, opens, received, sent}
use Rattle.mj_transcript.specs.Said.{said, said_at}
use Rattle.mj_transcript.specs.Verdicts.{broken, verdict_at, verdict_of}
use Rattle.mj_transcript.specs.Waiting.{is_settled, keeps_waiting}
use Rattle.mj_transcript.specs.declared.line.Line.{Line}
use Rattle.mj_transcript.specs.declared.line.Line.TheVariants.{Open, In, Out, Close, Lapse, Silent, Unlawful}
use Rattle.mj_transcript.specs.declared.verdict.Law.{Law}
use Rattle.mj_transcript.specs.declared.verdict.Law.TheVariants as laws
use Rattle.mj_transcript.specs.declared.verdict.Verdict.{Verdict}
use Rattle.mj_transcript.specs.declared.verdict.Verdict.TheVariants as verdicts
use Rattle.mj_audit.specs.Following.{Carries, Follows, IsOn, verdict_by}
use Rattle.mj_audit.specs.Slots.{KeepsOthers, slot_of}
use Rattle.mj_audit.specs.declared.lane.Lane.{Lane}
use Rattle.mj_audit.proofs.HearLemmas.{known-more}
use Rattle.mj_audit.proofs.LineLemmas.{connection-push, open-push, received-push, said-push, sent-push, waiting-push}

-- ---- verdicts

by-laws : (w o b k : Bool) → verdict_of (cond (not w) (Some laws.Wire) (cond (not o) (Some laws.Owner) (cond (not b) (Some laws.Busy) (cond (not k) (Some laws.Waiting) None)))) ≡ verdict_by w o b k
by-laws false o b k = refl
by-laws true false b k = refl
by-laws true true false k = refl
by-laws true true true false = refl
by-laws true true true true = refl

all-held : (w o b k : Bool) → verdict_by w o b k ≡ verdicts.Held → (w ≡ true) × (o ≡ true) × (b ≡ true) × (k ≡ true)
all-held false o b k h = cc
all-held true false b k h = cc
all-held true true false k h = cc
all-held true true true false h = cc
all-held true true true true h = (refl, refl, refl, refl)

apart-verdicts : {A : Type 0} → verdicts.Unlawful ≡ verdicts.Held → A
apart-verdicts h = cc

-- ---- who is on a lane

pub fed : (l n : Lane) (lane : ℕ) (lines : List Line) (line : Line) → opens lane line ≡ false → closes lane line ≡ false → address_in lane line ≡ None → n.address ≡ l.address
    → StandsFor standard_limits n.received (received lane lines ++ octets_in lane line) → StandsFor peer_limits n.sent (sent lane lines ++ octets_out lane line) → IsOn l lane lines → IsOn n lane (lines ++ line ∷ [])
fed l n lane lines line opening closing address same took gave on = record {
  open_lane = open-push lane lines line ∙ ap (λ (b : Bool). cond b true (is_open lane lines && not (closes lane line))) opening ∙ and_from (is_open lane lines) (not (closes lane line)) on.open_lane (ap not closing);
  address = same ∙ on.address ∙ sym (connection-push lane lines line ∙ ap (λ (o : Option (List ℕ)). unwrap_or o (connection_on lane lines)) address);
  known = subst (λ (a : List ℕ). is_known a (said (lines ++ line ∷ [])) ≡ true) (sym same) (ap (is_known l.address) (said-push lines line) ∙ known-more l.address (said lines) (said_at lines line) on.known);
  received = subst (StandsFor standard_limits n.received) (sym (received-push lane lines line ∙ ap (λ (b : Bool). cond b [] (received lane lines ++ octets_in lane line)) opening)) took;
  sent = subst (StandsFor peer_limits n.sent) (sym (sent-push lane lines line ∙ ap (λ (b : Bool). cond b [] (sent lane lines ++ octets_out lane line)) opening)) gave;
}

-- a line that isn't about the lane
pub record IsApart (lane : ℕ) (line : Line) : Type 0 where
  pub opening : opens lane line ≡ false
  pub closing : closes lane line ≡ false
  pub took : octets_in lane line ≡ []
  pub gave : octets_out lane line ≡ []
  pub address : address_in lane line ≡ None

pub carries-more : (o : Option Lane) (lane : ℕ) (lines : List Line) (line : Line) → IsApart lane line → Carries o lane lines → Carries o lane (lines ++ line ∷ [])
carries-more None lane lines line apart shut =
    open-push lane lines line ∙ ap (λ (b : Bool). cond b true (is_open lane lines && not (closes lane line))) apart.opening ∙ ap (λ (b : Bool). b && not (closes lane line)) shut
carries-more (Some l) lane lines line apart on =
    fed l l lane lines line apart.opening apart.closing apart.address refl
    (subst (StandsFor standard_limits l.received) (sym (ap (λ (x : List ℕ). received lane lines ++ x) apart.took ∙ append-nil (received lane lines))) on.received)
    (subst (StandsFor peer_limits l.sent) (sym (ap (λ (x : List ℕ). sent lane lines ++ x) apart.gave ∙ append-nil (sent lane lines))) on.sent)
    on

pub carries-all : (slots now : List (Option Lane)) (lane : ℕ) (lines : List Line) (line : Line) → KeepsOthers lane slots now → ((other : ℕ) → other < 64 → Carries (slot_of slots other) other lines)
    → Carries (slot_of now lane) lane (lines ++ line ∷ []) → ((other : ℕ) → other ≢ lane → IsApart other line) → (other : ℕ) → other < 64 → Carries (slot_of now other) other (lines ++ line ∷ [])
carries-all slots now lane lines line others before here apart other few = elim (cases_eq other lane) [
  | inl same ↦ subst (λ (n : ℕ). Carries (slot_of now n) n (lines ++ line ∷ [])) (sym same) here
  | inr differs ↦ subst (λ (o : Option Lane). Carries o other (lines ++ line ∷ [])) (sym (others other differs)) (carries-more (slot_of slots other) other lines line (apart other differs) (before other few))
]

differ : (lane other : ℕ) → other ≢ lane → eqb lane other ≡ false
differ lane other h = ne_eqb lane other (λ same. h (sym same))

pub apart-open : (lane : ℕ) (a : List ℕ) (other : ℕ) → other ≢ lane → IsApart other (Open lane a)
apart-open lane a other h = record { opening = differ lane other h; closing = refl; took = refl; gave = refl; address = ap (λ (b : Bool). cond b (Some a) None) (differ lane other h) }

pub apart-in : (lane : ℕ) (octets : List ℕ) (other : ℕ) → other ≢ lane → IsApart other (In lane octets)
apart-in lane octets other h = record { opening = refl; closing = refl; took = ap (λ (b : Bool). cond b octets []) (differ lane other h); gave = refl; address = refl }

pub apart-out : (lane : ℕ) (octets : List ℕ) (other : ℕ) → other ≢ lane → IsApart other (Out lane octets)
apart-out lane octets other h = record { opening = refl; closing = refl; took = refl; gave = ap (λ (b : Bool). cond b octets []) (differ lane other h); address = refl }

pub apart-close : (lane other : ℕ) → other ≢ lane → IsApart other (Close lane)
apart-close lane other h = record { opening = refl; closing = differ lane other h; took = refl; gave = refl; address = refl }

pub apart-lapse : (lane other : ℕ) → IsApart other (Lapse lane)
apart-lapse lane other = record { opening = refl; closing = refl; took = refl; gave = refl; address = refl }

pub apart-silent : (other : ℕ) → IsApart other Silent
apart-silent other = record { opening = refl; closing = refl; took = refl; gave = refl; address = refl }

-- ---- the step

unwrapped : (is_it : Bool) (line_verdict : Verdict) → is_it ≡ true → cond is_it line_verdict verdicts.Unlawful ≡ line_verdict
unwrapped true v is = refl
unwrapped false v is = absurd (true≢false (sym is))

pub follows-step : (slots now : List (Option Lane)) (t after : Tables) (lines : List Line) (line : Line) (settled : Bool) → Follows slots t lines → Stands after (said lines ++ said_at lines line)
    → settled ≡ is_settled lines line → is_lawful lines line ≡ true → length now ≡ length slots → ((lane : ℕ) → lane < 64 → Carries (slot_of now lane) lane (lines ++ line ∷ []))
    → (verdict_by after.wire after.owner after.busy settled ≡ verdict_at lines line) × (verdict_by after.wire after.owner after.busy settled ≡ verdicts.Held → Follows now after (lines ++ line ∷ []))
follows-step slots now t after lines line settled f s quiet lawful many carried =
    let all = lines ++ line ∷ [] in
    let stands : Stands after (said all) = subst (Stands after) (sym (said-push lines line)) s in
    let waits : settled ≡ keeps_waiting all = quiet ∙ sym (waiting-push lines line ∙ ap (λ (b : Bool). b && is_settled lines line) f.waiting) in (
      ap (λ (b : Bool). verdict_by b after.owner after.busy settled) stands.wire ∙ ap (λ (b : Bool). verdict_by (keeps_wire (said all)) b after.busy settled) stands.owner
          ∙ ap (λ (b : Bool). verdict_by (keeps_wire (said all)) (keeps_owner (said all)) b settled) stands.busy ∙ ap (verdict_by (keeps_wire (said all)) (keeps_owner (said all)) (keeps_busy (said all))) waits
          ∙ sym (by-laws (keeps_wire (said all)) (keeps_owner (said all)) (keeps_busy (said all)) (keeps_waiting all))
          ∙ sym (unwrapped (is_lawful lines line) (verdict_of (broken all)) lawful),
      λ held.
          let h = all-held after.wire after.owner after.busy settled held in
          record {
            tables = stands;
            wire = sym stands.wire ∙ h.0;
            owner = sym stands.owner ∙ h.1;
            busy = sym stands.busy ∙ h.2;
            waiting = sym waits ∙ h.3;
            many = many ∙ f.many;
            lanes = carried;
          },
    )

pub unlawful-step : (slots : List (Option Lane)) (t : Tables) (lines : List Line) (line : Line) → is_lawful lines line ≡ false
    → (verdicts.Unlawful ≡ verdict_at lines line) × (verdicts.Unlawful ≡ verdicts.Held → Follows slots t (lines ++ line ∷ []))
unlawful-step slots t lines line isnt = (sym (ap (λ (b : Bool). cond b (verdict_of (broken (lines ++ line ∷ []))) verdicts.Unlawful) isnt), λ held. apart-verdicts held)
