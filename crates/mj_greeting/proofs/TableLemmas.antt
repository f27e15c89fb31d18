-- The first fault as the grammar has it is the first byte that breaks the table.
use Rattle.std.proofs.Common.{ℕ, zero, suc, ◌≡◌, ◌≢◌, ◌+◌, ◌-◌, ◌<◌, ◌≤◌, ◌⊎◌, inl, inr, ⊎_elim, Bool, true, false, eqb, leb, cond, ◌&&◌, List, [], ◌∷◌, length, get_or, Option, Some, None, refl, sym, ◌∙◌, ap, subst, zero-add, add-zero, arith}
use Rattle.std.specs.Prelude.{IfSome}
use Rattle.std.proofs.lemmas.Bool.{eqb-true, eqb-false, ne_eqb, leb-true, leb-false, le-leb, lt-leb, and_parts}
use Rattle.std.proofs.lemmas.Option.{none-some}
use Rattle.mj_base.specs.declared.reason.Reason.{Reason}
use Rattle.mj_base.specs.declared.reason.Reason.TheVariants.{BadSignature, BadVersion, BadMechanism}
use Rattle.mj_greeting.specs.declared.greeting.GreetingFault.{GreetingFault}
use Rattle.mj_greeting.specs.GreetingGrammar.{mechanism, reason_unless, reason_at, fault_or, first_wrong, fault_of}
use Rattle.mj_greeting.specs.GreetingTable.{Breaks, IsFineBelow, IsFirstFault}

chosen : {A : Type 0} (b : Bool) (x y z : A) → cond b x y ≡ z → ((b ≡ true) × (x ≡ z)) ⊎ ((b ≡ false) × (y ≡ z))
chosen true x y z e = inl (refl, e)
chosen false x y z e = inr (refl, e)

row : (b : Bool) (reason other : Reason) → reason_unless b reason ≡ Some other → (b ≡ false) × (other ≡ reason)
row true reason other e = absurd (none-some other e)
row false reason other e = (refl, cc)

mechanism_row : (offset octet : ℕ) (reason : Reason) → cond (leb 12 offset && leb offset 31) (reason_unless (eqb octet (get_or mechanism (offset - 12) 0)) BadMechanism) None ≡ Some reason → Breaks offset octet reason
mechanism_row offset octet reason e =
    ⊎_elim
    (λ t.
    let b : (leb 12 offset ≡ true) × (leb offset 31 ≡ true) = and_parts _ _ t.0 in
    let low : 12 ≤ offset = leb-true 12 offset b.0 in
    let high : offset ≤ 31 = leb-true offset 31 b.1 in
    let r : (eqb octet (get_or mechanism (offset - 12) 0) ≡ false) × (reason ≡ BadMechanism) = row _ _ _ t.1 in
    inr (inr (inr (low, omega arith, eqb-false _ _ r.0, r.1))))
    (λ f. absurd (none-some reason f.1))
    (chosen _ _ _ _ e)

version_row : (offset octet : ℕ) (reason : Reason) → (offset ≡ 10) → reason_unless (leb 3 octet) BadVersion ≡ Some reason → Breaks offset octet reason
version_row offset octet reason at e =
    let r : (leb 3 octet ≡ false) × (reason ≡ BadVersion) = row _ _ _ e in
    inr (inr (inl (at, leb-false 3 octet r.0, r.1)))

signature_end : (offset octet : ℕ) (reason : Reason) → (offset ≡ 9) → reason_unless (eqb octet 127) BadSignature ≡ Some reason → Breaks offset octet reason
signature_end offset octet reason at e =
    let r : (eqb octet 127 ≡ false) × (reason ≡ BadSignature) = row _ _ _ e in
    inr (inl (at, eqb-false octet 127 r.0, r.1))

signature_start : (offset octet : ℕ) (reason : Reason) → (offset ≡ 0) → reason_unless (eqb octet 255) BadSignature ≡ Some reason → Breaks offset octet reason
signature_start offset octet reason at e =
    let r : (eqb octet 255 ≡ false) × (reason ≡ BadSignature) = row _ _ _ e in
    inl (at, eqb-false octet 255 r.0, r.1)

-- a reason that is told is a row's
told : (offset octet : ℕ) (reason : Reason) → reason_at offset octet ≡ Some reason → Breaks offset octet reason
told offset octet reason e =
    ⊎_elim (λ t. signature_start offset octet reason (eqb-true offset 0 t.0) t.1)
    (λ f. ⊎_elim (λ t. signature_end offset octet reason (eqb-true offset 9 t.0) t.1)
    (λ g. ⊎_elim (λ t. version_row offset octet reason (eqb-true offset 10 t.0) t.1)
    (λ h. mechanism_row offset octet reason h.1)
    (chosen _ _ _ _ g.1))
    (chosen _ _ _ _ f.1))
    (chosen _ _ _ _ e)

at_start : (offset octet : ℕ) (reason : Reason) → offset ≡ 0 → octet ≢ 255 → reason ≡ BadSignature → reason_at offset octet ≡ Some reason
at_start offset octet reason at wrong e =
    ap (λ (o : ℕ). reason_at o octet) at ∙ ap (λ (b : Bool). reason_unless b BadSignature) (ne_eqb octet 255 wrong) ∙ ap Some (sym e)

at_end : (offset octet : ℕ) (reason : Reason) → offset ≡ 9 → octet ≢ 127 → reason ≡ BadSignature → reason_at offset octet ≡ Some reason
at_end offset octet reason at wrong e =
    ap (λ (o : ℕ). reason_at o octet) at ∙ ap (λ (b : Bool). reason_unless b BadSignature) (ne_eqb octet 127 wrong) ∙ ap Some (sym e)

at_version : (offset octet : ℕ) (reason : Reason) → offset ≡ 10 → octet < 3 → reason ≡ BadVersion → reason_at offset octet ≡ Some reason
at_version offset octet reason at wrong e =
    ap (λ (o : ℕ). reason_at o octet) at ∙ ap (λ (b : Bool). reason_unless b BadVersion) (lt-leb 3 octet wrong) ∙ ap Some (sym e)

at_mechanism : (offset octet : ℕ) (reason : Reason) → 12 ≤ offset → offset < 32 → octet ≢ get_or mechanism (offset - 12) 0 → reason ≡ BadMechanism → reason_at offset octet ≡ Some reason
at_mechanism offset octet reason low high wrong e =
    let a : eqb offset 0 ≡ false = ne_eqb offset 0 (λ h. omega arith) in
    let b : eqb offset 9 ≡ false = ne_eqb offset 9 (λ h. omega arith) in
    let c : eqb offset 10 ≡ false = ne_eqb offset 10 (λ h. omega arith) in
    let d : leb 12 offset ≡ true = le-leb 12 offset low in
    let f : leb offset 31 ≡ true = le-leb offset 31 (omega arith) in
    let g : eqb octet (get_or mechanism (offset - 12) 0) ≡ false = ne_eqb _ _ wrong in
    rw (a, b, c, d, f, g) (ap Some (sym e))

-- each row's reason is told
all_told : (offset octet : ℕ) (reason : Reason) → Breaks offset octet reason → reason_at offset octet ≡ Some reason
all_told offset octet reason h =
    ⊎_elim (λ r. at_start offset octet reason r.0 r.1 r.2)
    (⊎_elim (λ r. at_end offset octet reason r.0 r.1 r.2)
    (⊎_elim (λ r. at_version offset octet reason r.0 r.1 r.2) (λ r. at_mechanism offset octet reason r.0 r.1 r.2 r.3))) h

untold : (offset octet : ℕ) → reason_at offset octet ≡ None → (reason : Reason) → Breaks offset octet reason → ⊥
untold offset octet none reason h = none-some reason (sym none ∙ all_told offset octet reason h)

-- the same of bytes that stand from an offset on
FineFrom : ℕ → List ℕ → ℕ → Type 0
FineFrom start octets end = (k : ℕ) (reason : Reason) → k < end → Breaks (start + k) (get_or octets k 0) reason → ⊥

fine_more : (start octet : ℕ) (octets : List ℕ) (end : ℕ) → ((reason : Reason) → Breaks start octet reason → ⊥) → FineFrom (start + 1) octets end → FineFrom start (octet ∷ octets) (suc end)
unfolding FineFrom
fine_more start octet octets end here more zero reason lt h = here reason (subst (λ (n : ℕ). Breaks n octet reason) (add-zero start) h)
fine_more start octet octets end here more (suc k) reason lt h =
    let e : start + suc k ≡ start + 1 + k = omega arith in
    more k reason (omega arith) (subst (λ (n : ℕ). Breaks n (get_or octets k 0) reason) e h)

record FirstFrom (start : ℕ) (octets : List ℕ) (fault : GreetingFault) : Type 0 where
  place : ℕ
  stands : fault.at ≡ start + place
  inside : place < length octets
  breaks : Breaks fault.at (get_or octets place 0) fault.reason
  first : FineFrom start octets place

first_here : (start octet : ℕ) (octets : List ℕ) (fault : GreetingFault) (told_here : Option Reason) → reason_at start octet ≡ told_here
    → (first_wrong (start + 1) octets ≡ Some fault → FirstFrom (start + 1) octets fault)
    → fault_or start told_here (first_wrong (start + 1) octets) ≡ Some fault → FirstFrom start (octet ∷ octets) fault
unfolding FineFrom
first_here start octet octets fault (Some reason) was more e =
    let at : start ≡ fault.at = cc in
    let why : reason ≡ fault.reason = cc in
    let b : Breaks start octet reason = told start octet reason was in
    record {
      place = 0;
      stands = sym at ∙ sym (add-zero start);
      inside = omega arith;
      breaks = subst (λ (n : ℕ). Breaks n octet fault.reason) at (subst (λ (r : Reason). Breaks start octet r) why b);
      first = λ k r lt h. absurd (omega arith);
    }
first_here start octet octets fault None was more e =
    let f = more e in
    record {
      place = suc f.place;
      stands = let s : fault.at ≡ start + 1 + f.place = f.stands in omega arith;
      inside = let s : f.place < length octets = f.inside in omega arith;
      breaks = f.breaks;
      first = fine_more start octet octets f.place (untold start octet was) f.first;
    }

first_from : (start : ℕ) (octets : List ℕ) (fault : GreetingFault) → first_wrong start octets ≡ Some fault → FirstFrom start octets fault
first_from start [] fault e = absurd (none-some fault e)
first_from start (octet ∷ octets) fault e =
    first_here start octet octets fault (reason_at start octet) refl (λ f. first_from (start + 1) octets fault f) e

fine_here : (start octet : ℕ) (octets : List ℕ) (told_here : Option Reason) → reason_at start octet ≡ told_here
    → (first_wrong (start + 1) octets ≡ None → FineFrom (start + 1) octets (length octets))
    → fault_or start told_here (first_wrong (start + 1) octets) ≡ None → FineFrom start (octet ∷ octets) (suc (length octets))
fine_here start octet octets (Some reason) was more e = absurd (none-some _ (sym e))
fine_here start octet octets None was more e = fine_more start octet octets (length octets) (untold start octet was) (more e)

fine_from : (start : ℕ) (octets : List ℕ) → first_wrong start octets ≡ None → FineFrom start octets (length octets)
unfolding FineFrom
fine_from start [] e = λ k reason lt h. absurd (omega arith)
fine_from start (octet ∷ octets) e =
    fine_here start octet octets (reason_at start octet) refl (λ f. fine_from (start + 1) octets f) e

from_zero : (octets : List ℕ) (end : ℕ) → FineFrom 0 octets end → IsFineBelow octets end
unfolding FineFrom
from_zero octets end f offset reason lt h = f offset reason lt (subst (λ (n : ℕ). Breaks n (get_or octets offset 0) reason) (sym (zero-add offset)) h)

pub is_first : (front : List ℕ) (fault : GreetingFault) → fault_of front ≡ Some fault → IsFirstFault front fault
is_first front fault e =
    let f = first_from 0 front fault e in
    let at : f.place ≡ fault.at = sym (zero-add f.place) ∙ sym f.stands in
    record {
      inside = subst (λ (n : ℕ). n < length front) at f.inside;
      breaks = subst (λ (n : ℕ). Breaks fault.at (get_or front n 0) fault.reason) at f.breaks;
      first = from_zero front fault.at (subst (FineFrom 0 front) at f.first);
    }

pub none_fine : (front : List ℕ) → fault_of front ≡ None → IsFineBelow front (length front)
none_fine front e = from_zero front (length front) (fine_from 0 front e)

pub found_first : (front : List ℕ) (o : Option GreetingFault) → o ≡ fault_of front → IfSome o (λ fault. IsFirstFault front fault)
found_first front None e = tt
found_first front (Some fault) e = is_first front fault (sym e)

some_broken : (front : List ℕ) (o : Option GreetingFault) → fault_of front ≡ o → IsFineBelow front (length front) → o ≡ None
some_broken front None e fine = refl
some_broken front (Some fault) e fine =
    let f = is_first front fault e in
    absurd (fine fault.at fault.reason f.inside f.breaks)

pub fine_none : (front : List ℕ) → IsFineBelow front (length front) → fault_of front ≡ None
fine_none front fine = some_broken front (fault_of front) refl fine
