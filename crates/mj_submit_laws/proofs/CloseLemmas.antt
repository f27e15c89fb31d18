-- A message that closes a ticket was asked for, and then its reply was printed.
use Rattle.std.proofs.Common.{◌≡◌, ℕ, true, false, ◌==◌, List, [], ◌∷◌, ◌++◌, get_or, refl, sym, ap, subst, ◌∙◌, Option, None, Some, is_some, inl, inr}
use Rattle.std.specs.Prelude.{◌⊎◌}
use Rattle.std.proofs.lemmas.Bool.{false≢true}
use Rattle.mj_handshake.specs.declared.socket_type.SocketType.TheVariants.{Req}
use Rattle.mj_peer.specs.PeerTexts.{hello, request_text}
use Rattle.mj_peer.specs.declared.act.Act.TheVariants as act
use Rattle.mj_peer_laws.specs.Watching.{AreRight, seen}
use Rattle.mj_submit.specs.SubmitRules.{Acts, AreAllowed, Asks, Call, Closes, Doing, Fetches, Finishes, Hears, NoAnswer, NoReply, Notes, Prints, Question, Refused, Submits, Takes, doings, fresh}
use Rattle.mj_submit.specs.declared.progress.Progress.{Progress}
use Rattle.mj_submit_laws.specs.SubmitSights.{IsRight, IsWritten, Scene, WasPrinted, begins, message_of, sees}
use Rattle.mj_submit_laws.proofs.SubmitLemmas.{runs-are-right}

-- ---- messages are told apart by a byte

differ : (place byte : ℕ) (one other : List ℕ) → (get_or one place 0 == byte) ≡ false → (get_or other place 0 == byte) ≡ true → one ≡ other → ⊥
differ place byte one other a b e = false≢true (sym a ∙ ap (λ (l : List ℕ). get_or l place 0 == byte) e ∙ b)

no-greeting : (id : List ℕ) → hello Req ≡ message_of (Closes id) → ⊥
unfolding hello request_text
no-greeting id e = differ 0 1 (hello Req) (message_of (Closes id)) refl refl e

no-submission : (name line id : List ℕ) → message_of (Submits name line) ≡ message_of (Closes id) → ⊥
unfolding request_text
no-submission name line id e = differ 11 13 (message_of (Submits name line)) (message_of (Closes id)) refl refl e

no-fetching : (other id : List ℕ) → message_of (Fetches other) ≡ message_of (Closes id) → ⊥
unfolding request_text
no-fetching other id e = differ 20 99 (message_of (Fetches other)) (message_of (Closes id)) refl refl e

-- ---- what is asked was asked

-- a closing was asked for, where it had to be
record WasAsked (id : List ℕ) (x : List Doing) (k : Scene) : Type 0 where
  front : List Doing
  rest : List Doing
  behind : x ≡ front ++ Asks (Closes id) ∷ rest
  rightly : IsRight (Asks (Closes id)) (seen sees front k)

later : (id : List ℕ) (d : Doing) (x : List Doing) (k : Scene) → WasAsked id x (sees d k) → WasAsked id (d ∷ x) k
later id d x k w = record { front = d ∷ w.front; rest = w.rest; behind = ap (λ (l : List Doing). d ∷ l) w.behind; rightly = w.rightly }

now : (id : List ℕ) (q : Question) (x : List Doing) (k : Scene) → IsRight (Asks q) k → q ≡ Closes id → WasAsked id (Asks q ∷ x) k
now id q x k r e = record {
  front = [];
  rest = x;
  behind = ap (λ (p : Question). Asks p ∷ x) e;
  rightly = subst (λ (p : Question). IsRight (Asks p) k) e r;
}

question-is : (p q : Question) → Some p ≡ Some q → p ≡ q
question-is p q e = cc

asked-at : (id : List ℕ) (d : Doing) (x : List Doing) (k : Scene) → IsRight d k → (sees d k).question ≡ Some (Closes id) → (k.question ≡ Some (Closes id)) ⊎ WasAsked id (d ∷ x) k
asked-at id (Takes number line) x k r e = inl e
asked-at id (Asks question) x k r e = inr (now id question x k r (question-is question (Closes id) e))
asked-at id (Acts a) x k r e = inl e
asked-at id (Hears body) x k r e = inl e
asked-at id (Prints line body) x k r e = inl e
asked-at id (Notes note) x k r e = inl e
asked-at id (Refused line code) x k r e = inl e
asked-at id (NoReply line) x k r e = inl e
asked-at id (NoAnswer line) x k r e = inl e
asked-at id (Finishes closed) x k r e = inl e

was-asked : (id : List ℕ) (x : List Doing) (k : Scene) → AreRight IsRight sees x k → (seen sees x k).question ≡ Some (Closes id) → (k.question ≡ Some (Closes id)) ⊎ WasAsked id x k
was-asked id [] k r e = inl e
was-asked id (d ∷ x) k r e = of (was-asked id x (sees d k) r.1 e)
  where
    of : ((sees d k).question ≡ Some (Closes id)) ⊎ WasAsked id x (sees d k) → (k.question ≡ Some (Closes id)) ⊎ WasAsked id (d ∷ x) k
    of (inl here) = asked-at id d x k r.0 here
    of (inr w) = inr (later id d x k w)

-- ---- the message

right-at : (x y : List Doing) (d : Doing) (k : Scene) → AreRight IsRight sees (x ++ d ∷ y) k → AreRight IsRight sees x k × IsRight d (seen sees x k)
right-at [] y d k r = (tt, r.0)
right-at (c ∷ x) y d k r = let s = right-at x y d (sees c k) r.1 in ((r.0, s.0), s.1)

closing-asked : (id text : List ℕ) (o : Option Question) → text ≡ message_of (Closes id) → IsWritten (act.Write text) o → (other : List ℕ) × (o ≡ Some (Closes other)) × (text ≡ message_of (Closes other))
closing-asked id text o e (inl w) = absurd (no-greeting id (sym w ∙ e))
closing-asked id text None e (inr w) = absurd w
closing-asked id text (Some (Submits name line)) e (inr w) = absurd (no-submission name line id (sym w ∙ e))
closing-asked id text (Some (Fetches other)) e (inr w) = absurd (no-fetching other id (sym w ∙ e))
closing-asked id text (Some (Closes other)) e (inr w) = (other, refl, w)

none-is : (id : List ℕ) → None ≡ Some (Closes id) → ⊥
none-is id e = false≢true (ap is_some e)

pub closings-follow : (name : List ℕ) (tries wait polls : ℕ) (p : Progress) (calls : List Call) (x y : List Doing) (id text : List ℕ) → AreAllowed calls (fresh name tries wait polls p)
    → doings calls (fresh name tries wait polls p) ≡ x ++ Acts (act.Write text) ∷ y → text ≡ message_of (Closes id) → WasPrinted text x (begins p)
closings-follow name tries wait polls p calls x y id text allowed e is =
    let r = right-at x y (Acts (act.Write text)) (begins p) (subst (λ (l : List Doing). AreRight IsRight sees l (begins p)) e (runs-are-right name tries wait polls p calls allowed)) in
    let asked = closing-asked id text (seen sees x (begins p)).question is r.1 in
    of asked.0 asked.2 (was-asked asked.0 x (begins p) r.0 asked.1)
  where
    of : (other : List ℕ) → text ≡ message_of (Closes other) → (None ≡ Some (Closes other)) ⊎ WasAsked other x (begins p) → WasPrinted text x (begins p)
    of other same (inl none) = absurd (none-is other none)
    of other same (inr w) = record { id = other; front = w.front; rest = w.rest; same = same; behind = w.behind; delivered = w.rightly.0; printed = w.rightly.1 }
