-- A run that breaks off is right, as far as it came.
use Rattle.std.proofs.Common.{◌≡◌, ℕ, suc, ◌+◌, Bool, List, [], ◌∷◌, ◌++◌, refl, sym, ap, subst, ◌∙◌, Option, Some, arith}
use Rattle.std.specs.Prelude.{option_and_then}
use Rattle.mj_peer_laws.specs.Watching.{AreRight, seen}
use Rattle.mj_submit.specs.Notes.{notes_from, with_note}
use Rattle.mj_submit.specs.SubmitRules.{Acts, AreAllowed, Asks, Call, Doing, Finishes, Hears, NoAnswer, NoReply, Notes, Prints, Refused, Takes, doings, fresh}
use Rattle.mj_submit.specs.declared.note.Note.{Note}
use Rattle.mj_submit.specs.declared.note.Note.TheVariants.{Issued, Given, Closed}
use Rattle.mj_submit.specs.declared.progress.Progress.{Progress}
use Rattle.mj_submit_laws.specs.SubmitSights.{AreAllFrom, BreaksRightly, IsNotedRightly, IsPrintedRightly, IsRight, Scene, begins, next_by, next_printed, notes_of, or_same, printed_of, sees}
use Rattle.mj_submit_laws.proofs.SubmitLemmas.{next-closed, next-given, next-issued, runs-are-right}

right-front : (x y : List Doing) (k : Scene) → AreRight IsRight sees (x ++ y) k → AreRight IsRight sees x k
right-front [] y k r = tt
right-front (d ∷ x) y k r = (r.0, right-front x y (sees d k) r.1)

-- ---- the file

found : (p q : Progress) (o : Option Progress) → o ≡ Some q → o ≡ Some (or_same p o)
found p q o e = e ∙ ap Some (sym (ap (λ (x : Option Progress). or_same p x) e))

is-next : (note : Note) (k : Scene) → IsNotedRightly note k → with_note k.progress note ≡ Some (or_same k.progress (with_note k.progress note))
is-next (Issued line id) k r = found k.progress _ (with_note k.progress (Issued line id)) (next-issued k.progress line id r.0 r.1.0)
is-next (Given line) k r = found k.progress _ (with_note k.progress (Given line)) (next-given k.progress line r.1.0.0 r.0 r.1.0.1)
is-next (Closed line) k r = found k.progress _ (with_note k.progress (Closed line)) (next-closed k.progress line r.1.0.0 r.0 r.1.0.1)

notes-are : (x : List Doing) (k : Scene) → AreRight IsRight sees x k → notes_from (notes_of x) k.progress ≡ Some (seen sees x k).progress
notes-are [] k r = refl
notes-are (Takes number line ∷ x) k r = notes-are x (sees (Takes number line) k) r.1
notes-are (Asks question ∷ x) k r = notes-are x (sees (Asks question) k) r.1
notes-are (Acts act ∷ x) k r = notes-are x k r.1
notes-are (Hears body ∷ x) k r = notes-are x (sees (Hears body) k) r.1
notes-are (Prints line body ∷ x) k r = notes-are x (sees (Prints line body) k) r.1
notes-are (Notes note ∷ x) k r = ap (λ (o : Option Progress). option_and_then (notes_from (notes_of x)) o) (is-next note k r.0) ∙ notes-are x (sees (Notes note) k) r.1
notes-are (Refused line code ∷ x) k r = notes-are x k r.1
notes-are (NoReply line ∷ x) k r = notes-are x k r.1
notes-are (NoAnswer line ∷ x) k r = notes-are x k r.1
notes-are (Finishes closed ∷ x) k r = notes-are x k r.1

-- ---- replies

one-more : (n : ℕ) → n + 1 ≡ suc n
one-more n = omega arith

left-by : (p : Progress) (o : Option Progress) (q : Progress) → o ≡ Some q → (or_same p o).closed ≡ q.closed
left-by p o q e = ap (λ (x : Option Progress). (or_same p x).closed) e

-- a record doesn't change whose reply is printed next
same-next : (note : Note) (k : Scene) → IsNotedRightly note k → next_printed (sees (Notes note) k) ≡ next_printed k
same-next (Issued line id) k r = ap (λ (n : ℕ). next_by k.printed n) (left-by k.progress (with_note k.progress (Issued line id)) _ (next-issued k.progress line id r.0 r.1.0))
same-next (Given line) k r = ap (λ (n : ℕ). next_by k.printed n) (left-by k.progress (with_note k.progress (Given line)) _ (next-given k.progress line r.1.0.0 r.0 r.1.0.1))
same-next (Closed line) k r =
    ap (λ (n : ℕ). suc n) (left-by k.progress (with_note k.progress (Closed line)) _ (next-closed k.progress line r.1.0.0 r.0 r.1.0.1))
    ∙ ap (λ (n : ℕ). suc n) (one-more k.progress.closed)
    ∙ sym (ap (λ (b : Bool). next_by b k.progress.closed) r.1.1)

prints-next : (line : ℕ) (body : List (List ℕ)) (k : Scene) → IsPrintedRightly line body k → line ≡ next_printed k
prints-next line body k r = r.present ∙ one-more k.progress.closed ∙ sym (ap (λ (b : Bool). next_by b k.progress.closed) r.once)

printed-are : (x : List Doing) (k : Scene) → AreRight IsRight sees x k → AreAllFrom (next_printed k) (printed_of x) (next_printed (seen sees x k))
printed-are [] k r = refl
printed-are (Takes number line ∷ x) k r = printed-are x (sees (Takes number line) k) r.1
printed-are (Asks question ∷ x) k r = printed-are x (sees (Asks question) k) r.1
printed-are (Acts act ∷ x) k r = printed-are x k r.1
printed-are (Hears body ∷ x) k r = printed-are x (sees (Hears body) k) r.1
printed-are (Prints line body ∷ x) k r = (
  prints-next line body k r.0,
  subst (λ (n : ℕ). AreAllFrom n (printed_of x) (next_printed (seen sees x (sees (Prints line body) k)))) (sym (ap (λ (b : Bool). suc (next_by b k.progress.closed)) r.0.once)) (printed-are x (sees (Prints line body) k) r.1),
)
printed-are (Notes note ∷ x) k r =
    subst (λ (n : ℕ). AreAllFrom n (printed_of x) (next_printed (seen sees x (sees (Notes note) k)))) (same-next note k r.0) (printed-are x (sees (Notes note) k) r.1)
printed-are (Refused line code ∷ x) k r = printed-are x k r.1
printed-are (NoReply line ∷ x) k r = printed-are x k r.1
printed-are (NoAnswer line ∷ x) k r = printed-are x k r.1
printed-are (Finishes closed ∷ x) k r = printed-are x k r.1

pub breaks-are-right : (name : List ℕ) (tries wait polls : ℕ) (p : Progress) (calls : List Call) (x y : List Doing) → AreAllowed calls (fresh name tries wait polls p)
    → doings calls (fresh name tries wait polls p) ≡ x ++ y → BreaksRightly x (begins p)
breaks-are-right name tries wait polls p calls x y allowed e =
    let right = right-front x y (begins p) (subst (λ (l : List Doing). AreRight IsRight sees l (begins p)) e (runs-are-right name tries wait polls p calls allowed)) in
    record { right = right; file = notes-are x (begins p) right; printed = printed-are x (begins p) right }
