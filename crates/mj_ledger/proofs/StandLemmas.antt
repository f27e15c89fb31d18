-- The tables behind one more event.
use Rattle.std.proofs.Common.{◌≡◌, ◌+◌, ◌-◌, ◌<◌, ℕ, zero, suc, Bool, true, false, cond, not, List, [], ◌∷◌, ◌++◌, length, drop, Option, Some, None, refl, sym, ap, subst, ◌∙◌, inl, inr, append-nil, arith}
use mathlib.Core.Bool.{◌&&◌, ◌||◌}
use Rattle.std.specs.Prelude.{option_map}
use Rattle.std.specs.List.{list_any}
use Rattle.std.specs.Str.{bytes_eq}
use Rattle.std.specs.Cmp.Lexicographic.{nat_list_eq_equiv}
use Rattle.std.proofs.lemmas.Bool.{and_parts, false_from_ne_true, or_cases, or_left, or_parts, or_right, true≢false}
use Rattle.mj_ledger.specs.Events.{Event, Opened, Asked, Ready, Replied, Given, Answered, Lapsed, Left, Wrong, is_passed}
use Rattle.mj_ledger.specs.TranscriptLaws.{asked, asked_at, given, is_answer, is_given_to_waiting, is_owned_answer, is_owned_request, is_reply_to, is_wrong, keeps_busy, keeps_owner, keeps_replies, keeps_requests, keeps_wire}
use Rattle.mj_ledger.specs.Workers.{is_gone, is_leaving, is_opening}
use Rattle.mj_ledger.specs.Found.{hand_at, has, queue_at}
use Rattle.mj_ledger.specs.Hands.{fresh, hand, hand_after, when_given, when_lapsed, when_left, when_ready, when_replied}
use Rattle.mj_ledger.specs.Standing.{NobodyBut, Stands, claims, count, credit, is_claimed, is_known, is_of, known, pending}
use Rattle.mj_ledger.specs.declared.hand.Hand.{Hand}
use Rattle.mj_ledger.specs.declared.tables.Tables.{Tables}
use Rattle.mj_ledger.proofs.Lists.{and-true, by-pushes, or-false}
use Rattle.mj_ledger.proofs.HandLemmas.{gone-push, hand-push}
use Rattle.mj_ledger.proofs.LawLemmas.{asked-push, busy-push, bytes-same, claimed-push, credit-push, known-push, of-push, pending-same, replies-law-push, requests-opened, requests-push, wire-push}
use Rattle.mj_ledger.proofs.WaitLemmas.{asked-is-of, nobody-push}

-- ---- what is known of a connection

known-of : (k : Bool) (f : Hand → Hand) (h next : Hand) → next ≡ f h → cond k (Some next) None ≡ option_map f (cond k (Some h) None)
known-of true f h next is = ap (λ (x : Hand). Some x) is
known-of false f h next is = refl

known-after : (q : List ℕ) (es : List Event) (e : Event) → is_opening q e ≡ false → known q (es ++ e ∷ []) ≡ option_map (hand_after q e) (known q es)
known-after q es e opens =
    ap (λ (b : Bool). cond b (Some (hand q (es ++ e ∷ []))) None) (known-push q es e ∙ ap (λ (b : Bool). is_known q es || b) opens ∙ or-false (is_known q es))
    ∙ known-of (is_known q es) (hand_after q e) (hand q es) (hand q (es ++ e ∷ [])) (hand-push q es e)

here-after : (k g o l : Bool) → o ≡ false → ((k || o) && not (g || l)) ≡ ((k && not g) && not l)
here-after true true o l none = refl
here-after true false o l none = refl
here-after false g true l none = absurd (true≢false none)
here-after false g false l none = refl

both-owned : (a b c d : Bool) → ((a && c) && (b && d)) ≡ ((a && b) && (c && d))
both-owned true true c d = refl
both-owned true false true d = refl
both-owned true false false d = refl
both-owned false b c d = refl

pub owner-push : (es : List Event) (e : Event) → ((q : List ℕ) → is_opening q e ≡ false) → keeps_owner (es ++ e ∷ []) ≡ (keeps_owner es && (is_owned_request es es e && is_owned_answer es e))
owner-push es e opens =
    ap (λ (b : Bool). b && keeps_replies (es ++ e ∷ [])) (requests-push es e opens)
    ∙ ap (λ (b : Bool). (keeps_requests es && is_owned_request es es e) && b) (replies-law-push es e)
    ∙ both-owned (keeps_requests es) (keeps_replies es) (is_owned_request es es e) (is_owned_answer es e)

-- ---- an event that isn't an opening

pub stands-push : (t after : Tables) (es : List Event) (e : Event) → ((q : List ℕ) → is_opening q e ≡ false)
    → after.wire ≡ (t.wire && not (is_wrong e))
    → after.owner ≡ (t.owner && (is_owned_request es es e && is_owned_answer es e))
    → after.busy ≡ (t.busy && is_given_to_waiting es e)
    → ((q : List ℕ) → hand_at after.peers q ≡ option_map (hand_after q e) (hand_at t.peers q))
    → ((q : List ℕ) → list_any (bytes_eq q) after.present.items ≡ (list_any (bytes_eq q) t.present.items && not (is_leaving q e)))
    → (t.owner ≡ true → after.owner ≡ true → (q s : List ℕ) → is_passed s ≡ false → queue_at after.peers q s ≡ pending q s (es ++ e ∷ []))
    → (t.owner ≡ true → (q s : List ℕ) (l : Bool) (b : List (List ℕ)) → count after q s l b ≡ (count t q s l b + cond (is_reply_to q s l b es e) 1 0) - cond (is_answer q s l b e) 1 0)
    → ((q : List ℕ) → is_known q es ≡ false → has after.claimed q ≡ (has t.claimed q || claims q es e))
    → NobodyBut after.suspect (es ++ e ∷ [])
    → ((q : List ℕ) → is_of q e ≡ true → is_known q es ≡ true)
    → ((q s : List ℕ) → is_passed s ≡ true → asked_at q s e ≡ [])
    → Stands t es → Stands after (es ++ e ∷ [])
stands-push t after es e opens wire owner busy hands present pending_is credits claimed suspect heard named s = record {
  wire = wire ∙ ap (λ (b : Bool). b && not (is_wrong e)) s.wire ∙ sym (wire-push es e);
  owner = owner ∙ ap (λ (b : Bool). b && (is_owned_request es es e && is_owned_answer es e)) s.owner ∙ sym (owner-push es e opens);
  busy = busy ∙ ap (λ (b : Bool). b && is_given_to_waiting es e) s.busy ∙ sym (busy-push es e);
  hands = λ q. hands q ∙ ap (option_map (hand_after q e)) (s.hands q) ∙ sym (known-after q es e (opens q));
  present = λ q. present q ∙ ap (λ (b : Bool). b && not (is_leaving q e)) (s.present q)
      ∙ sym (ap (λ (b : Bool). b && not (is_gone q (es ++ e ∷ []))) (known-push q es e) ∙ ap (λ (b : Bool). (is_known q es || is_opening q e) && not b) (gone-push q es e)
      ∙ here-after (is_known q es) (is_gone q es) (is_opening q e) (is_leaving q e) (opens q));
  pending = λ kept. pending_is (and_parts t.owner (is_owned_request es es e && is_owned_answer es e) (sym owner ∙ kept)).0 kept;
  credits = λ kept q n l b.
      let before = and_parts t.owner (is_owned_request es es e && is_owned_answer es e) (sym owner ∙ kept) in
      credits before.0 q n l b
      ∙ ap (λ (x : ℕ). (x + cond (is_reply_to q n l b es e) 1 0) - cond (is_answer q n l b e) 1 0) (s.credits before.0 q n l b)
      ∙ sym (credit-push q n l b es e (and_parts (keeps_requests es) (keeps_replies es) (sym s.owner ∙ before.0)).1);
  claimed = λ q new.
      let before : is_known q es ≡ false = (or_parts (is_known q es) (is_opening q e) (sym (known-push q es e) ∙ new)).0 in
      claimed q before ∙ ap (λ (b : Bool). b || claims q es e) (s.claimed q before) ∙ sym (claimed-push q es e);
  suspect = suspect;
  heard = λ q of. known-push q es e ∙ or_left (is_known q es) (is_opening q e) (
      elim (or_cases (list_any (is_of q) es) (is_of q e) (sym (of-push q es e) ∙ of)) [ inl before ↦ s.heard q before | inr now ↦ heard q now ]);
  named = λ q n passed. asked-push q n es e ∙ ap (λ (l : List (List (List ℕ))). l ++ asked_at q n e) (s.named q n passed) ∙ named q n passed;
}

-- ---- an opening

unmoved : (q : List ℕ) (e : Event) (h : Hand) → is_of q e ≡ false → hand_after q e h ≡ h
unmoved q (Opened w) h other = refl
unmoved q (Asked w n body) h other = refl
unmoved q (Ready w n) h other = ap (λ (b : Bool). cond b (when_ready n h) h) other
unmoved q (Replied w last to body) h other = ap (λ (b : Bool). cond b (when_replied last to h) h) other
unmoved q (Given w to body) h other = ap (λ (b : Bool). cond b (when_given to h) h) other
unmoved q (Answered w n last body) h other = refl
unmoved q (Lapsed w) h other = ap (λ (b : Bool). cond b (when_lapsed h) h) other
unmoved q (Left w) h other = ap (λ (b : Bool). cond b (when_left h) h) other
unmoved q Wrong h other = refl

new-hand : (q : List ℕ) (es : List Event) → list_any (is_of q) es ≡ false → hand q es ≡ fresh
new-hand q =
    by-pushes (λ es. list_any (is_of q) es ≡ false → hand q es ≡ fresh)
    (λ none. refl)
    (λ es e here none.
    let parts = or_parts (list_any (is_of q) es) (is_of q e) (sym (of-push q es e) ∙ none) in
    hand-push q es e ∙ unmoved q e (hand q es) parts.1 ∙ here parts.0)

nil-from : {X : Type 0} (xs : List X) → (0 < length xs → ⊥) → xs ≡ []
nil-from [] none = refl
nil-from (x ∷ xs) none = absurd (none (omega arith))

asked-nothing : (q n : List ℕ) (es : List Event) → list_any (is_of q) es ≡ false → asked q n es ≡ []
asked-nothing q n es none = nil-from (asked q n es) (λ some. true≢false (sym (asked-is-of q n es some) ∙ none))

drop-none : (n : ℕ) → drop {A = List (List ℕ)} n [] ≡ []
drop-none zero = refl
drop-none (suc n) = refl

other-way : (a b : List ℕ) → bytes_eq a b ≡ false → bytes_eq b a ≡ false
other-way a b other = nat_list_eq_equiv.symm b a ∙ other

opened-known : (who q : List ℕ) (es : List Event) → list_any (is_of who) es ≡ false → (b : Bool) → bytes_eq who q ≡ b → cond b (Some fresh) (known q es) ≡ known q (es ++ Opened who ∷ [])
opened-known who q es none true same =
    sym (ap (λ (b : Bool). cond b (Some (hand q (es ++ Opened who ∷ []))) None) (known-push q es (Opened who) ∙ or_right (is_known q es) (bytes_eq who q) same)
    ∙ ap (λ (h : Hand). Some h) (hand-push q es (Opened who) ∙ ap (λ (x : List ℕ). hand x es) (sym (bytes-same who q same)) ∙ new-hand who es none))
opened-known who q es none false other =
    sym (ap (λ (b : Bool). cond b (Some (hand q (es ++ Opened who ∷ []))) None) (known-push q es (Opened who) ∙ ap (λ (b : Bool). is_known q es || b) other ∙ or-false (is_known q es))
    ∙ ap (λ (h : Hand). cond (is_known q es) (Some h) None) (hand-push q es (Opened who)))

opened-present : (who q : List ℕ) (es : List Event) → is_gone who es ≡ false → (b : Bool) → bytes_eq who q ≡ b
    → ((is_known q es && not (is_gone q es)) || bytes_eq q who) ≡ ((is_known q es || bytes_eq who q) && not (is_gone q es || false))
opened-present who q es stays true same =
    or_right (is_known q es && not (is_gone q es)) (bytes_eq q who) (nat_list_eq_equiv.symm q who ∙ same)
    ∙ sym (ap (λ (b : Bool). b && not (is_gone q es || false)) (or_right (is_known q es) (bytes_eq who q) same) ∙ ap not (or-false (is_gone q es) ∙ ap (λ (x : List ℕ). is_gone x es) (sym (bytes-same who q same)) ∙ stays))
opened-present who q es stays false other =
    ap (λ (b : Bool). (is_known q es && not (is_gone q es)) || b) (other-way who q other) ∙ or-false (is_known q es && not (is_gone q es))
    ∙ sym (ap (λ (b : Bool). (is_known q es || b) && not (is_gone q es || false)) other ∙ ap (λ (b : Bool). b && not (is_gone q es || false)) (or-false (is_known q es)) ∙ ap (λ (b : Bool). is_known q es && not b) (or-false (is_gone q es)))

opened-pending : (who q n : List ℕ) (es : List Event) (xs : List (List (List ℕ))) → list_any (is_of who) es ≡ false → (b : Bool) → bytes_eq who q ≡ b → xs ≡ pending q n es → cond b [] xs ≡ pending q n es
opened-pending who q n es xs none true same is =
    sym (ap (drop (length (given q n es))) (ap (λ (x : List ℕ). asked x n es) (sym (bytes-same who q same)) ∙ asked-nothing who n es none) ∙ drop-none (length (given q n es)))
opened-pending who q n es xs none false other is = is

pub plus-none : (x : ℕ) → x ≡ (x + 0) - 0
plus-none x = omega arith

pub stands-opened : (t after : Tables) (es : List Event) (who : List ℕ)
    → after.wire ≡ t.wire
    → after.owner ≡ (t.owner && not (has t.claimed who))
    → after.busy ≡ t.busy
    → ((q : List ℕ) → hand_at after.peers q ≡ cond (bytes_eq who q) (Some fresh) (hand_at t.peers q))
    → ((q s : List ℕ) → queue_at after.peers q s ≡ cond (bytes_eq who q) [] (queue_at t.peers q s))
    → ((q : List ℕ) → list_any (bytes_eq q) after.present.items ≡ (list_any (bytes_eq q) t.present.items || bytes_eq q who))
    → ((q s : List ℕ) (l : Bool) (b : List (List ℕ)) → count after q s l b ≡ count t q s l b)
    → ((q : List ℕ) → has after.claimed q ≡ has t.claimed q)
    → after.suspect ≡ t.suspect
    → is_known who es ≡ false
    → Stands t es → Stands after (es ++ Opened who ∷ [])
stands-opened t after es who wire owner busy hands queues present credits claimed suspect new s =
    let e = Opened who in
    let none : list_any (is_of who) es ≡ false = false_from_ne_true (list_any (is_of who) es) (λ of. true≢false (sym (s.heard who of) ∙ new)) in
    let stays : is_gone who es ≡ false = ap (λ (h : Hand). h.gone) (new-hand who es none) in
    record {
      wire = wire ∙ s.wire ∙ sym (wire-push es e ∙ and-true (keeps_wire es));
      owner = owner ∙ ap (λ (b : Bool). b && not (has t.claimed who)) s.owner ∙ ap (λ (b : Bool). keeps_owner es && not b) (s.claimed who new)
          ∙ sym (ap (λ (b : Bool). b && keeps_replies (es ++ e ∷ [])) (requests-opened who es new (λ n. asked-nothing who n es none))
          ∙ ap (λ (b : Bool). (keeps_requests es && not (is_claimed who es)) && b) (replies-law-push es e)
          ∙ both-owned (keeps_requests es) (keeps_replies es) (not (is_claimed who es)) true
          ∙ ap (λ (b : Bool). keeps_owner es && b) (and-true (not (is_claimed who es))));
      busy = busy ∙ s.busy ∙ sym (busy-push es e ∙ and-true (keeps_busy es));
      hands = λ q. hands q ∙ ap (cond (bytes_eq who q) (Some fresh)) (s.hands q) ∙ opened-known who q es none (bytes_eq who q) refl;
      present = λ q. present q ∙ ap (λ (b : Bool). b || bytes_eq q who) (s.present q) ∙ opened-present who q es stays (bytes_eq who q) refl
          ∙ sym (ap (λ (b : Bool). b && not (is_gone q (es ++ e ∷ []))) (known-push q es e) ∙ ap (λ (b : Bool). (is_known q es || bytes_eq who q) && not b) (gone-push q es e));
      pending = λ kept q n judged. queues q n
          ∙ opened-pending who q n es (queue_at t.peers q n) none (bytes_eq who q) refl (s.pending (and_parts t.owner (not (has t.claimed who)) (sym owner ∙ kept)).0 q n judged)
          ∙ sym (pending-same q n es e refl refl);
      credits = λ kept q n l b.
          let before : t.owner ≡ true = (and_parts t.owner (not (has t.claimed who)) (sym owner ∙ kept)).0 in
          credits q n l b ∙ s.credits before q n l b ∙ plus-none (credit q n l b es) ∙ sym (credit-push q n l b es e (and_parts (keeps_requests es) (keeps_replies es) (sym s.owner ∙ before)).1);
      claimed = λ q fresh_q.
          let before : is_known q es ≡ false = (or_parts (is_known q es) (is_opening q e) (sym (known-push q es e) ∙ fresh_q)).0 in
          claimed q ∙ s.claimed q before ∙ sym (claimed-push q es e ∙ or-false (is_claimed q es));
      suspect = subst (λ (o : Option (List ℕ)). NobodyBut o (es ++ e ∷ [])) (sym suspect) (nobody-push t.suspect es e refl s.suspect);
      heard = λ q of. known-push q es e ∙ or_left (is_known q es) (is_opening q e) (s.heard q (sym (of-push q es e ∙ or-false (list_any (is_of q) es)) ∙ of));
      named = λ q n passed. asked-push q n es e ∙ append-nil (asked q n es) ∙ s.named q n passed;
    }
