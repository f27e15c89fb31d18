-- A step, by the kind of the line.
use Rattle.std.proofs.Common.{◌≡◌, ◌≢◌, ◌<◌, ◌≤◌, ℕ, Bool, true, false, cond, not, List, [], ◌∷◌, ◌++◌, length, Option, Some, None, refl, sym, ap, subst, ◌∙◌, append-nil, arith, eqb, ltb}
use mathlib.Core.Bool.{◌&&◌, ◌||◌}
use Rattle.std.specs.Option.{unwrap_or}
use Rattle.std.specs.Prelude.{is_some}
use Rattle.std.specs.List.{filter, flat_map, list_any}
use Rattle.std.specs.Str.{bytes_eq}
use Rattle.std.proofs.lemmas.Bool.{and_from, and_left, and_right, eq-eqb, le-ltb, lt-ltb, or_right, true≢false}
use Rattle.std.proofs.lemmas.List.Folds.{list_any-append}
use Rattle.mj_base.specs.StandardLimits.{peer_limits, standard_limits}
use Rattle.mj_wire.specs.StreamItems.{gained}
use Rattle.mj_wire.specs.WireState.{StandsFor}
use Rattle.mj_wire.specs.declared.item.WireItem.{WireItem}
use Rattle.mj_ledger.specs.Events.{Event, Lapsed, Left, Opened}
use Rattle.mj_ledger.specs.Found.{hand_at}
use Rattle.mj_ledger.specs.Hands.{hand}
use Rattle.mj_ledger.specs.Standing.{Stands, is_known}
use Rattle.mj_ledger.specs.TranscriptLaws.{keeps_busy, keeps_owner, keeps_wire, nobody_is_kept}
use Rattle.mj_ledger.specs.Workers.{is_opening}
use Rattle.mj_ledger.specs.declared.hand.Hand.{Hand}
use Rattle.mj_ledger.specs.declared.tables.Tables.{Tables}
use Rattle.mj_ledger.proofs.Lists.{and-false, or-false}
use Rattle.mj_ledger.proofs.LawLemmas.{bytes-own}
use Rattle.mj_transcript.specs.Lines.{address_in, closes, connection_on, is_lawful, is_message, is_open, octets_in, octets_out, opens, received, sent, takes}
use Rattle.mj_transcript.specs.Said.{hears, said, said_at, told}
use Rattle.mj_transcript.specs.Verdicts.{broken, verdict_at, verdict_of}
use Rattle.mj_transcript.specs.Waiting.{is_settled, keeps_waiting}
use Rattle.mj_transcript.specs.declared.line.Line.{Line}
use Rattle.mj_transcript.specs.declared.line.Line.TheVariants.{Open, In, Out, Close, Lapse, Silent, Unlawful}
use Rattle.mj_transcript.specs.declared.verdict.Law.TheVariants as laws
use Rattle.mj_transcript.specs.declared.verdict.Verdict.{Verdict}
use Rattle.mj_transcript.specs.declared.verdict.Verdict.TheVariants as verdicts
use Rattle.mj_audit.specs.Following.{Carries, Follows, IsOn, verdict_by}
use Rattle.mj_audit.specs.Slots.{KeepsOthers, slot_of}
use Rattle.mj_audit.specs.declared.lane.Lane.{Lane}
use Rattle.mj_audit.proofs.CalmLemmas.{heard-calm}
use Rattle.mj_audit.proofs.LineLemmas.{connection-push, open-push, opened-said, received-push, said-push, sent-push, waiting-push}
use Rattle.mj_audit.proofs.StepLemmas.{IsApart, apart-close, apart-in, apart-lapse, apart-open, apart-out, apart-silent, carries-all, carries-more, fed, follows-step, unlawful-step}

-- what a step gives
abbrev pub Gives : Verdict → List (Option Lane) → Tables → List Line → Line → Type 0
Gives verdict now after lines line = (verdict ≡ verdict_at lines line) × (verdict ≡ verdicts.Held → Follows now after (lines ++ line ∷ []))

pub judged-by : (v w : Verdict) (now : List (Option Lane)) (after : Tables) (lines : List Line) (line : Line) → v ≡ w → Gives w now after lines line → Gives v now after lines line
judged-by v w now after lines line is g = subst (λ (x : Verdict). Gives x now after lines line) (sym is) g

own : (lane : ℕ) → eqb lane lane ≡ true
own lane = eq-eqb lane lane refl

pub keeps-owner : (slots : List (Option Lane)) (t : Tables) (lines : List Line) → Follows slots t lines → t.owner ≡ true
keeps-owner slots t lines f = f.tables.owner ∙ f.owner

pub on-lane : (slots : List (Option Lane)) (t : Tables) (lines : List Line) (lane : ℕ) (l : Lane) → Follows slots t lines → lane < 64 → Some l ≡ slot_of slots lane → IsOn l lane lines
on-lane slots t lines lane l f few is = subst (λ (o : Option Lane). Carries o lane lines) (sym is) (f.lanes lane few)

open-by : (o : Option Lane) (lane : ℕ) (lines : List Line) → Carries o lane lines → is_some o ≡ is_open lane lines
open-by None lane lines shut = sym shut
open-by (Some l) lane lines on = sym on.open_lane

pub two-moves : (lane : ℕ) (one two three : List (Option Lane)) → KeepsOthers lane one two → KeepsOthers lane two three → KeepsOthers lane one three
two-moves lane one two three a b other differs = b other differs ∙ a other differs

pub within : {X : Type 0} (lane : ℕ) (xs : List X) → lane < 64 → length xs ≡ 64 → lane < length xs
within lane xs few many = omega (arith, few, many)

-- ---- close

pub close-step : (slots now : List (Option Lane)) (t mid after : Tables) (lines : List Line) (lane : ℕ) (l : Lane) (who : List ℕ) (settled : Bool) → Follows slots t lines → lane < 64 → Some l ≡ slot_of slots lane → who ≡ l.address
    → slot_of now lane ≡ None → KeepsOthers lane slots now → length now ≡ length slots → settled ≡ nobody_is_kept (said lines) → Stands mid (said lines)
    → ((es : List Event) → is_known who es ≡ true → Stands mid es → Stands after (es ++ Left who ∷ [])) → Gives (verdict_by after.wire after.owner after.busy settled) now after lines (Close lane)
close-step slots now t mid after lines lane l who settled f few is named gone others many quiet s left =
    let on = on-lane slots t lines lane l f few is in
    let line = Close lane in
    follows-step slots now t after lines line settled f
    (subst (λ (a : List ℕ). Stands after (said lines ++ Left a ∷ [])) (named ∙ on.address) (left (said lines) (subst (λ (a : List ℕ). is_known a (said lines) ≡ true) (sym named) on.known) s))
    quiet on.open_lane many
    (carries-all slots now lane lines line others f.lanes
    (subst (λ (o : Option Lane). Carries o lane (lines ++ line ∷ [])) (sym gone)
    (open-push lane lines line ∙ ap (λ (b : Bool). is_open lane lines && not b) (own lane) ∙ and-false (is_open lane lines)))
    (apart-close lane))

-- ---- lapse

pub lapse-step : (slots now : List (Option Lane)) (t mid after : Tables) (lines : List Line) (lane : ℕ) (l : Lane) (who : List ℕ) (settled : Bool) → Follows slots t lines → lane < 64 → Some l ≡ slot_of slots lane → who ≡ l.address
    → slot_of now lane ≡ Some l → KeepsOthers lane slots now → length now ≡ length slots → settled ≡ nobody_is_kept (said lines) → Stands mid (said lines)
    → ((es : List Event) → is_known who es ≡ true → Stands mid es → Stands after (es ++ Lapsed who ∷ [])) → Gives (verdict_by after.wire after.owner after.busy settled) now after lines (Lapse lane)
lapse-step slots now t mid after lines lane l who settled f few is named here others many quiet s lapsed =
    let on = on-lane slots t lines lane l f few is in
    let line = Lapse lane in
    follows-step slots now t after lines line settled f
    (subst (λ (a : List ℕ). Stands after (said lines ++ Lapsed a ∷ [])) (named ∙ on.address) (lapsed (said lines) (subst (λ (a : List ℕ). is_known a (said lines) ≡ true) (sym named) on.known) s))
    quiet on.open_lane many
    (carries-all slots now lane lines line others f.lanes
    (subst (λ (o : Option Lane). Carries o lane (lines ++ line ∷ [])) (sym here) (carries-more (Some l) lane lines line (apart-lapse lane lane) on))
    (λ other differs. apart-lapse lane other))

-- ---- open

some-if : (k : Bool) (h : Hand) → is_some (cond k (Some h) None) ≡ k
some-if true h = refl
some-if false h = refl

pub known-is : (t : Tables) (lines : List Line) (who : List ℕ) → Stands t (said lines) → is_some (hand_at t.peers who) ≡ list_any (takes who) lines
known-is t lines who s = ap (λ (o : Option Hand). is_some o) (s.hands who) ∙ some-if (is_known who (said lines)) (hand who (said lines)) ∙ opened-said who lines

pub open-twice : (slots : List (Option Lane)) (t : Tables) (lines : List Line) (lane : ℕ) (a : List ℕ) → Follows slots t lines → lane < 64 → is_some (slot_of slots lane) ≡ true → Gives verdicts.Unlawful slots t lines (Open lane a)
open-twice slots t lines lane a f few busy_lane =
    unlawful-step slots t lines (Open lane a)
    (and_left (not (is_open lane lines)) (not (list_any (takes a) lines)) (ap not (sym (open-by (slot_of slots lane) lane lines (f.lanes lane few)) ∙ busy_lane)))

pub open-known : (slots : List (Option Lane)) (t : Tables) (lines : List Line) (lane : ℕ) (a who : List ℕ) → Follows slots t lines → who ≡ a → is_some (hand_at t.peers who) ≡ true → Gives verdicts.Unlawful slots t lines (Open lane a)
open-known slots t lines lane a who f named known =
    unlawful-step slots t lines (Open lane a)
    (and_right (not (is_open lane lines)) (not (list_any (takes a) lines)) (ap not (ap (λ (x : List ℕ). list_any (takes x) lines) (sym named) ∙ sym (known-is t lines who f.tables) ∙ known)))

pub open-step : (slots now : List (Option Lane)) (t mid after : Tables) (lines : List Line) (lane : ℕ) (a : List ℕ) (n : Lane) (who : List ℕ) (settled : Bool) → Follows slots t lines → lane < 64
    → is_some (slot_of slots lane) ≡ false → is_some (hand_at t.peers a) ≡ false → who ≡ a → n.address ≡ a → StandsFor standard_limits n.received [] → StandsFor peer_limits n.sent []
    → slot_of now lane ≡ Some n → KeepsOthers lane slots now → length now ≡ length slots → settled ≡ nobody_is_kept (said lines) → Stands mid (said lines)
    → ((es : List Event) → Stands mid es → Stands after (es ++ Opened who ∷ [])) → Gives (verdict_by after.wire after.owner after.busy settled) now after lines (Open lane a)
open-step slots now t mid after lines lane a n who settled f few free new named address took gave here others many quiet s opened =
    let line = Open lane a in
    let there : opens lane line ≡ true = own lane in
    follows-step slots now t after lines line settled f
    (subst (λ (x : List ℕ). Stands after (said lines ++ Opened x ∷ [])) named (opened (said lines) s))
    quiet
    (and_from (not (is_open lane lines)) (not (list_any (takes a) lines)) (ap not (sym (open-by (slot_of slots lane) lane lines (f.lanes lane few)) ∙ free)) (ap not (sym (known-is t lines a f.tables) ∙ new)))
    many
    (carries-all slots now lane lines line others f.lanes
    (subst (λ (o : Option Lane). Carries o lane (lines ++ line ∷ [])) (sym here) (record {
      open_lane = open-push lane lines line ∙ ap (λ (b : Bool). cond b true (is_open lane lines && not (closes lane line))) there;
      address = address ∙ sym (connection-push lane lines line ∙ ap (λ (b : Bool). unwrap_or (cond b (Some a) None) (connection_on lane lines)) there);
      known = ap (λ (x : List ℕ). is_known x (said (lines ++ line ∷ []))) address ∙ ap (is_known a) (said-push lines line) ∙ list_any-append (is_opening a) (said lines) (Opened a ∷ [])
          ∙ or_right (is_known a (said lines)) (bytes_eq a a || false) (or-false (bytes_eq a a) ∙ bytes-own a);
      received = subst (StandsFor standard_limits n.received) (sym (received-push lane lines line ∙ ap (λ (b : Bool). cond b [] (received lane lines ++ octets_in lane line)) there)) took;
      sent = subst (StandsFor peer_limits n.sent) (sym (sent-push lane lines line ∙ ap (λ (b : Bool). cond b [] (sent lane lines ++ octets_out lane line)) there)) gave;
    }))
    (apart-open lane a))

-- ---- in

pub two-messages : (slots now : List (Option Lane)) (t : Tables) (lines : List Line) (lane : ℕ) (octets : List ℕ) (l : Lane) (xs : List WireItem) (count : ℕ) → Follows slots t lines → lane < 64 → Some l ≡ slot_of slots lane
    → ((stream : List ℕ) → StandsFor standard_limits l.received stream → xs ≡ gained standard_limits stream octets) → count ≡ length (filter is_message xs) → 1 < count → Gives verdicts.Unlawful now t lines (In lane octets)
two-messages slots now t lines lane octets l xs count f few is items counted many =
    let on = on-lane slots t lines lane l f few is in
    unlawful-step now t lines (In lane octets)
    (and_right (is_open lane lines) (ltb (length (filter is_message (gained standard_limits (received lane lines) octets))) 2)
    (ap (λ (n : ℕ). ltb n 2) (sym (counted ∙ ap (λ (l : List WireItem). length (filter is_message l)) (items (received lane lines) on.received))) ∙ le-ltb count 2 (omega (arith, many))))

pub in-lawful : (lines : List Line) (lane : ℕ) (octets : List ℕ) (l : Lane) (xs : List WireItem) (count : ℕ) → IsOn l lane lines
    → ((stream : List ℕ) → StandsFor standard_limits l.received stream → xs ≡ gained standard_limits stream octets) → count ≡ length (filter is_message xs) → count ≤ 1 → is_lawful lines (In lane octets) ≡ true
in-lawful lines lane octets l xs count on items counted few =
    and_from (is_open lane lines) (ltb (length (filter is_message (gained standard_limits (received lane lines) octets))) 2) on.open_lane
    (ap (λ (n : ℕ). ltb n 2) (sym (counted ∙ ap (λ (l : List WireItem). length (filter is_message l)) (items (received lane lines) on.received))) ∙ lt-ltb count 2 (omega (arith, few)))

kept-now : (w o b k : Bool) → w ≡ true → o ≡ true → b ≡ true → k ≡ false
    → verdict_of (cond (not w) (Some laws.Wire) (cond (not o) (Some laws.Owner) (cond (not b) (Some laws.Busy) (cond (not k) (Some laws.Waiting) None)))) ≡ verdicts.Broken laws.Waiting
kept-now true true true false hw ho hb hk = refl
kept-now false o b k hw ho hb hk = absurd (true≢false (sym hw))
kept-now true false b k hw ho hb hk = absurd (true≢false (sym ho))
kept-now true true false k hw ho hb hk = absurd (true≢false (sym hb))
kept-now true true true true hw ho hb hk = absurd (true≢false hk)

broken-held : {A : Type 0} → verdicts.Broken laws.Waiting ≡ verdicts.Held → A
broken-held h = cc

-- somebody is kept waiting before the line takes effect
pub kept-before : (slots now : List (Option Lane)) (t after : Tables) (lines : List Line) (lane : ℕ) (octets : List ℕ) → Follows slots t lines → is_lawful lines (In lane octets) ≡ true → false ≡ nobody_is_kept (said lines)
    → Gives (verdicts.Broken laws.Waiting) now after lines (In lane octets)
kept-before slots now t after lines lane octets f lawful kept =
    let line = In lane octets in
    let calm = heard-calm (said lines) (connection_on lane lines) (gained standard_limits (received lane lines) octets) in
    let all = lines ++ line ∷ [] in (
      sym (ap (λ (b : Bool). cond b (verdict_of (broken all)) verdicts.Unlawful) lawful
          ∙ kept-now (keeps_wire (said all)) (keeps_owner (said all)) (keeps_busy (said all)) (keeps_waiting all)
          (ap keeps_wire (said-push lines line) ∙ calm.wire ∙ f.wire) (ap keeps_owner (said-push lines line) ∙ calm.owner ∙ f.owner) (ap keeps_busy (said-push lines line) ∙ calm.busy ∙ f.busy)
          (waiting-push lines line ∙ and_right (keeps_waiting lines) (nobody_is_kept (said lines)) (sym kept))),
      λ held. broken-held held,
    )

pub in-step : (slots now : List (Option Lane)) (t mid after : Tables) (lines : List Line) (lane : ℕ) (octets : List ℕ) (l n : Lane) (who : List ℕ) (xs : List WireItem) (count : ℕ) → Follows slots t lines → lane < 64 → Some l ≡ slot_of slots lane
    → ((stream : List ℕ) → StandsFor standard_limits l.received stream → xs ≡ gained standard_limits stream octets)
    → ((stream : List ℕ) → StandsFor standard_limits l.received stream → StandsFor standard_limits n.received (stream ++ octets)) → n.address ≡ l.address → n.sent ≡ l.sent → who ≡ n.address
    → count ≡ length (filter is_message xs) → count ≤ 1 → slot_of now lane ≡ Some n → KeepsOthers lane slots now → length now ≡ length slots → true ≡ nobody_is_kept (said lines) → Stands mid (said lines)
    → ((es : List Event) → is_known who es ≡ true → Stands mid es → Stands after (es ++ flat_map (hears who) xs)) → Gives (verdict_by after.wire after.owner after.busy true) now after lines (In lane octets)
in-step slots now t mid after lines lane octets l n who xs count f few is items stream address still named counted small here others many quiet s heard =
    let on = on-lane slots t lines lane l f few is in
    let line = In lane octets in
    follows-step slots now t after lines line true f
    (subst (λ (a : List ℕ). Stands after (said lines ++ flat_map (hears a) (gained standard_limits (received lane lines) octets))) (named ∙ address ∙ on.address)
    (subst (λ (ys : List WireItem). Stands after (said lines ++ flat_map (hears who) ys)) (items (received lane lines) on.received)
    (heard (said lines) (subst (λ (a : List ℕ). is_known a (said lines) ≡ true) (sym (named ∙ address)) on.known) s)))
    quiet (in-lawful lines lane octets l xs count on items counted small) many
    (carries-all slots now lane lines line others f.lanes
    (subst (λ (o : Option Lane). Carries o lane (lines ++ line ∷ [])) (sym here)
    (fed l n lane lines line refl refl refl address
    (subst (λ (b : Bool). StandsFor standard_limits n.received (received lane lines ++ cond b octets [])) (sym (own lane)) (stream (received lane lines) on.received))
    (subst (λ (w : List ℕ). StandsFor peer_limits n.sent w) (sym (append-nil (sent lane lines))) (subst (λ w. StandsFor peer_limits w (sent lane lines)) (sym still) on.sent))
    on))
    (apart-in lane octets))

-- ---- out

pub out-step : (slots now : List (Option Lane)) (t after : Tables) (lines : List Line) (lane : ℕ) (octets : List ℕ) (l n : Lane) (who : List ℕ) (xs : List WireItem) → Follows slots t lines → lane < 64 → Some l ≡ slot_of slots lane
    → ((stream : List ℕ) → StandsFor peer_limits l.sent stream → xs ≡ gained peer_limits stream octets)
    → ((stream : List ℕ) → StandsFor peer_limits l.sent stream → StandsFor peer_limits n.sent (stream ++ octets)) → n.address ≡ l.address → n.received ≡ l.received → who ≡ n.address
    → slot_of now lane ≡ Some n → KeepsOthers lane slots now → length now ≡ length slots
    → ((es : List Event) → is_known who es ≡ true → Stands t es → Stands after (es ++ flat_map (told who) xs)) → Gives (verdict_by after.wire after.owner after.busy true) now after lines (Out lane octets)
out-step slots now t after lines lane octets l n who xs f few is items stream address still named here others many tells =
    let on = on-lane slots t lines lane l f few is in
    let line = Out lane octets in
    follows-step slots now t after lines line true f
    (subst (λ (a : List ℕ). Stands after (said lines ++ flat_map (told a) (gained peer_limits (sent lane lines) octets))) (named ∙ address ∙ on.address)
    (subst (λ (ys : List WireItem). Stands after (said lines ++ flat_map (told who) ys)) (items (sent lane lines) on.sent)
    (tells (said lines) (subst (λ (a : List ℕ). is_known a (said lines) ≡ true) (sym (named ∙ address)) on.known) f.tables)))
    refl on.open_lane many
    (carries-all slots now lane lines line others f.lanes
    (subst (λ (o : Option Lane). Carries o lane (lines ++ line ∷ [])) (sym here)
    (fed l n lane lines line refl refl refl address
    (subst (λ (w : List ℕ). StandsFor standard_limits n.received w) (sym (append-nil (received lane lines))) (subst (λ w. StandsFor standard_limits w (received lane lines)) (sym still) on.received))
    (subst (λ (b : Bool). StandsFor peer_limits n.sent (sent lane lines ++ cond b octets [])) (sym (own lane)) (stream (sent lane lines) on.sent))
    on))
    (apart-out lane octets))

-- ---- nothing

all-true : (w o b : Bool) → w ≡ true → o ≡ true → b ≡ true → verdicts.Held ≡ verdict_by w o b true
all-true true true true hw ho hb = refl
all-true false o b hw ho hb = absurd (true≢false (sym hw))
all-true true false b hw ho hb = absurd (true≢false (sym ho))
all-true true true false hw ho hb = absurd (true≢false (sym hb))

pub silent-step : (slots : List (Option Lane)) (t : Tables) (lines : List Line) → Follows slots t lines → Gives verdicts.Held slots t lines Silent
silent-step slots t lines f =
    judged-by verdicts.Held (verdict_by t.wire t.owner t.busy true) slots t lines Silent
    (all-true t.wire t.owner t.busy (f.tables.wire ∙ f.wire) (f.tables.owner ∙ f.owner) (f.tables.busy ∙ f.busy))
    (follows-step slots slots t t lines Silent true f (subst (Stands t) (sym (append-nil (said lines))) f.tables) refl refl refl
    (λ lane few. carries-more (slot_of slots lane) lane lines Silent (apart-silent lane) (f.lanes lane few)))
