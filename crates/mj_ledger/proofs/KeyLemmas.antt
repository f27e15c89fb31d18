-- Lists of byte strings are told apart by their spelling.
use Rattle.std.proofs.Common.{◌≡◌, ℕ, Bool, true, false, cond, List, [], ◌∷◌, ◌++◌, refl, sym, ap, ◌∙◌, Result, Ok, Err, OnOk}
use mathlib.Core.Bool.{◌&&◌}
use Rattle.std.specs.Str.{bytes_eq}
use Rattle.std.proofs.lemmas.Bool.{and_from, and_parts}
use Rattle.mj_ledger.specs.Dues.{is_kind}
use Rattle.mj_ledger.specs.Keys.{reply_key, spelled, spelled_frame}
use Rattle.mj_ledger.specs.TranscriptLaws.{same_body, same_bool}
use Rattle.mj_ledger.proofs.LawLemmas.{body-own, body-same, bool-own, bool-same, bytes-own, bytes-same}

frame-split : (f g xs ys : List ℕ) → spelled_frame f ++ xs ≡ spelled_frame g ++ ys → (f ≡ g) × (xs ≡ ys)
frame-split [] [] xs ys same = (refl, (cc))
frame-split [] (d ∷ ds) xs ys same = cc
frame-split (c ∷ cs) [] xs ys same = cc
frame-split (c ∷ cs) (d ∷ ds) xs ys same =
    let rest : spelled_frame cs ++ xs ≡ spelled_frame ds ++ ys = cc in
    let first : c ≡ d = cc in
    let more = frame-split cs ds xs ys rest in
    (ap (λ (x : ℕ). x ∷ cs) first ∙ ap (λ (l : List ℕ). d ∷ l) more.0, more.1)

spelled-longer : (f : List ℕ) (fs : List (List ℕ)) → [] ≡ spelled (f ∷ fs) → ⊥
spelled-longer [] fs same = cc
spelled-longer (c ∷ cs) fs same = cc

spelled-one : (xs ys : List (List ℕ)) → spelled xs ≡ spelled ys → xs ≡ ys
spelled-one [] [] same = refl
spelled-one [] (g ∷ gs) same = absurd (spelled-longer g gs same)
spelled-one (f ∷ fs) [] same = absurd (spelled-longer f fs (sym same))
spelled-one (f ∷ fs) (g ∷ gs) same =
    let parts = frame-split f g (spelled fs) (spelled gs) same in
    ap (λ (x : List ℕ). x ∷ fs) parts.0 ∙ ap (λ (l : List (List ℕ)). g ∷ l) (spelled-one fs gs parts.1)

flag-one : (a b : Bool) → cond {A = List ℕ} a (1 ∷ []) [] ≡ cond {A = List ℕ} b (1 ∷ []) [] → a ≡ b
flag-one true true same = refl
flag-one true false same = cc
flag-one false true same = cc
flag-one false false same = refl

one-key : (w n : List ℕ) (f : Bool) (o : List (List ℕ)) (who service : List ℕ) (last : Bool) (body : List (List ℕ)) → reply_key w n f o ≡ reply_key who service last body → (w ≡ who) × (n ≡ service) × (f ≡ last) × (o ≡ body)
one-key w n f o who service last body same =
    let a = frame-split w who (spelled (n ∷ cond {A = List ℕ} f (1 ∷ []) [] ∷ o)) (spelled (service ∷ cond {A = List ℕ} last (1 ∷ []) [] ∷ body)) same in
    let b = frame-split n service (spelled (cond {A = List ℕ} f (1 ∷ []) [] ∷ o)) (spelled (cond {A = List ℕ} last (1 ∷ []) [] ∷ body)) a.1 in
    let d = frame-split (cond {A = List ℕ} f (1 ∷ []) []) (cond {A = List ℕ} last (1 ∷ []) []) (spelled o) (spelled body) b.1 in
    (a.0, b.0, flag-one f last d.0, spelled-one o body d.1)

both-ways : (x y : Bool) → (x ≡ true → y ≡ true) → (y ≡ true → x ≡ true) → x ≡ y
both-ways true y there back = sym (there refl)
both-ways false true there back = back refl
both-ways false false there back = refl

kind-from : (w n : List ℕ) (f : Bool) (o : List (List ℕ)) (who service : List ℕ) (last : Bool) (body : List (List ℕ)) → (w ≡ who) × (n ≡ service) × (f ≡ last) × (o ≡ body) → is_kind w n f o who service last body ≡ true
kind-from w n f o who service last body p =
    ap (λ (x : List ℕ). is_kind x n f o who service last body) p.0 ∙ ap (λ (x : List ℕ). is_kind who x f o who service last body) p.1
    ∙ ap (λ (x : Bool). is_kind who service x o who service last body) p.2 ∙ ap (λ (x : List (List ℕ)). is_kind who service last x who service last body) p.3
    ∙ and_from (bytes_eq who who) (bytes_eq service service && (same_bool last last && same_body body body)) (bytes-own who)
    (and_from (bytes_eq service service) (same_bool last last && same_body body body) (bytes-own service) (and_from (same_bool last last) (same_body body body) (bool-own last) (body-own body)))

kind-parts : (w n : List ℕ) (f : Bool) (o : List (List ℕ)) (who service : List ℕ) (last : Bool) (body : List (List ℕ)) → is_kind w n f o who service last body ≡ true → (w ≡ who) × (n ≡ service) × (f ≡ last) × (o ≡ body)
kind-parts w n f o who service last body h =
    let a = and_parts (bytes_eq w who) (bytes_eq n service && (same_bool f last && same_body o body)) h in
    let b = and_parts (bytes_eq n service) (same_bool f last && same_body o body) a.1 in
    let d = and_parts (same_bool f last) (same_body o body) b.1 in
    (bytes-same w who a.0, bytes-same n service b.0, bool-same f last d.0, body-same o body d.1)

pub key-kind : (w n : List ℕ) (f : Bool) (o : List (List ℕ)) (who service : List ℕ) (last : Bool) (body : List (List ℕ)) → bytes_eq (reply_key w n f o) (reply_key who service last body) ≡ is_kind w n f o who service last body
key-kind w n f o who service last body =
    both-ways (bytes_eq (reply_key w n f o) (reply_key who service last body)) (is_kind w n f o who service last body)
    (λ same. kind-from w n f o who service last body (one-key w n f o who service last body (bytes-same (reply_key w n f o) (reply_key who service last body) same)))
    (λ h.
    let p = kind-parts w n f o who service last body h in
    ap (λ (x : List ℕ). bytes_eq (reply_key x n f o) (reply_key who service last body)) p.0 ∙ ap (λ (x : List ℕ). bytes_eq (reply_key who x f o) (reply_key who service last body)) p.1
    ∙ ap (λ (x : Bool). bytes_eq (reply_key who service x o) (reply_key who service last body)) p.2 ∙ ap (λ (x : List (List ℕ)). bytes_eq (reply_key who service last x) (reply_key who service last body)) p.3
    ∙ bytes-own (reply_key who service last body))

pub on-ok : {A E P Q : Type 0} (r : Result A E) → (P → Q) → OnOk r P → OnOk r Q
on-ok (Ok x) f h = f h
on-ok (Err x) f h = h
