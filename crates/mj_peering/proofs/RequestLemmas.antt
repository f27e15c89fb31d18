-- A client's input, byte by byte.
use Rattle.std.proofs.Common.{◌≡◌, ℕ, ◌==◌, Bool, true, false, List, [], ◌∷◌, ◌++◌, length, refl, sym, ap, subst, ◌∙◌, append_assoc, append-nil, cond, Option, None, Some}
use Rattle.mj_peering.specs.Requests.{IsOver, Line, Takes, Uses, last, requests_from, takes, to_come}

pub uses-none : {X : Type 0} (old : Option (List X)) → Uses old old []
uses-none None = tt
uses-none (Some xs) = refl

pub uses-more : {X : Type 0} (a b c : Option (List X)) (xs ys : List X) → Uses a b xs → Uses b c ys → Uses a c (xs ++ ys)
uses-more None b c xs ys p q = tt
uses-more (Some all) None c xs ys p q = absurd p
uses-more (Some all) (Some bs) None xs ys p q = absurd q
uses-more (Some all) (Some bs) (Some cs) xs ys p q = p ∙ ap (λ (l : List _). xs ++ l) q ∙ sym (append_assoc xs ys cs)

byte-step : (l : Line) (c : ℕ) (old now : Option (List ℕ)) → Uses old now (c ∷ []) → Uses (to_come l old) (to_come (takes c l).0 now) (takes c l).1
byte-step l c None now u = tt
byte-step l c (Some xs) None u = absurd u
byte-step l c (Some xs) (Some ys) u = ap (requests_from l) u

-- a byte that completes a request
pub request-whole : (first : Option (List (List ℕ))) (l : Line) (c : ℕ) (cut : Bool) (piece : List ℕ) (old now : Option (List ℕ)) → Uses first (to_come l old) [] → Uses old now (c ∷ []) → Takes c l cut true piece
    → Uses first (to_come (record { cut = cut; piece = [] }) now) (piece ∷ [])
request-whole first l c cut piece old now so_far u t =
    let step = byte-step l c old now u in
    let both = uses-more first (to_come l old) (to_come (takes c l).0 now) [] (takes c l).1 so_far step in
    subst (λ (p : Line × List (List ℕ)). Uses first (to_come p.0 now) p.1) t both

-- and one that doesn't
pub request-part : (first : Option (List (List ℕ))) (l : Line) (c : ℕ) (cut : Bool) (piece : List ℕ) (old now : Option (List ℕ)) → Uses first (to_come l old) [] → Uses old now (c ∷ []) → Takes c l cut false piece
    → Uses first (to_come (record { cut = cut; piece = piece }) now) []
request-part first l c cut piece old now so_far u t =
    let step = byte-step l c old now u in
    let both = uses-more first (to_come l old) (to_come (takes c l).0 now) [] (takes c l).1 so_far step in
    subst (λ (p : Line × List (List ℕ)). Uses first (to_come p.0 now) p.1) t both

-- the end of the input
at-end : (l : Line) (cut : Bool) (old now : Option (List ℕ)) → IsOver now → Uses old now [] → Uses (to_come l old) (to_come (record { cut = cut; piece = [] }) now) (last l)
at-end l cut None now over u = tt
at-end l cut (Some xs) None over u = absurd u
at-end l cut (Some xs) (Some ys) over u =
    ap (requests_from l) (u ∙ over) ∙ sym (append-nil (last l)) ∙ ap (λ (r : List (List ℕ)). last l ++ r) (sym (ap (requests_from (record { cut = cut; piece = [] })) over))

over-to-come : (cut : Bool) (now : Option (List ℕ)) → IsOver now → IsOver (to_come (record { cut = cut; piece = [] }) now)
over-to-come cut None over = tt
over-to-come cut (Some ys) over = ap (requests_from (record { cut = cut; piece = [] })) over

last-of : (cut : Bool) (piece : List ℕ) (b : Bool) → (length piece == 0) ≡ b → last (record { cut = cut; piece = piece }) ≡ cond b [] (piece ∷ [])
last-of cut piece b e = ap (λ (x : Bool). cond {A = List (List ℕ)} x [] (piece ∷ [])) e

-- where nothing came of the last line
pub input-over : (first : Option (List (List ℕ))) (cut : Bool) (piece : List ℕ) (old now : Option (List ℕ)) → Uses first (to_come (record { cut = cut; piece = piece }) old) [] → IsOver now → Uses old now []
    → (length piece == 0) ≡ true → IsOver (to_come (record { cut = cut; piece = [] }) now) × Uses first (to_come (record { cut = cut; piece = [] }) now) []
input-over first cut piece old now so_far over u empty =
    let l : Line = record { cut = cut; piece = piece } in
    let both = uses-more first (to_come l old) (to_come (record { cut = cut; piece = [] }) now) [] (last l) so_far (at-end l cut old now over u) in
    (over-to-come cut now over, subst (λ (r : List (List ℕ)). Uses first (to_come (record { cut = cut; piece = [] }) now) r) (last-of cut piece true empty) both)

-- and where something did
pub input-ends : (first : Option (List (List ℕ))) (cut : Bool) (piece : List ℕ) (old now : Option (List ℕ)) → Uses first (to_come (record { cut = cut; piece = piece }) old) [] → IsOver now → Uses old now []
    → (length piece == 0) ≡ false → Uses first (to_come (record { cut = cut; piece = [] }) now) (piece ∷ [])
input-ends first cut piece old now so_far over u some =
    let l : Line = record { cut = cut; piece = piece } in
    let both = uses-more first (to_come l old) (to_come (record { cut = cut; piece = [] }) now) [] (last l) so_far (at-end l cut old now over u) in
    subst (λ (r : List (List ℕ)). Uses first (to_come (record { cut = cut; piece = [] }) now) r) (last-of cut piece false some) both
