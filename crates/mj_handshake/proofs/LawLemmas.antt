-- The READY that is written.
use Rattle.std.proofs.Common.{ℕ, List, ◌≡◌, ◌++◌, inl, true, false, [], ◌∷◌, Ok, refl, ◌∙◌, ap, lit<, lit≤, Some}
use Rattle.std.proofs.lemmas.Bool.{false≢true}
use Rattle.std.specs.Prelude.{drop}
use Rattle.mj_frame.specs.declared.head.HeadAnswer.TheVariants as answers
use Rattle.mj_frame.specs.HeadReading.{head_at}
use Rattle.mj_frame.specs.FrameSpelling.{IsFrame}
use Rattle.mj_handshake.specs.declared.socket_type.SocketType.{SocketType}
use Rattle.mj_handshake.specs.declared.socket_type.SocketType.TheVariants.{Req, Dealer, Router}
use Rattle.mj_handshake.specs.ReadyProperty.{IsProperty}
use Rattle.mj_handshake.specs.ReadyGrammar.{IsReady, ready_of, answer_of, type_property, ready_body, ready_frame}
use Rattle.mj_handshake.specs.Laws.{IsReadAgain, head}
use Rattle.mj_handshake.proofs.SpellingLemmas.{ready_again}

lawful : (kind : SocketType) → IsProperty (type_property kind)
lawful Req = record { named = lit< tt; short = lit≤ tt; spelled = refl; sized = lit< tt }
lawful Dealer = record { named = lit< tt; short = lit≤ tt; spelled = refl; sized = lit< tt }
lawful Router = record { named = lit< tt; short = lit≤ tt; spelled = refl; sized = lit< tt }

framed : (kind : SocketType) → IsFrame (record { more = false; command = true; body = ready_body kind }) (ready_frame kind)
framed Req = (4 ∷ 25 ∷ [], (λ h. false≢true h.0, inl (lit< tt, refl)), refl)
framed Dealer = (4 ∷ 28 ∷ [], (λ h. false≢true h.0, inl (lit< tt, refl)), refl)
framed Router = (4 ∷ 28 ∷ [], (λ h. false≢true h.0, inl (lit< tt, refl)), refl)

headed : (kind : SocketType) (rest : List ℕ) → head_at (ready_frame kind ++ rest) ≡ answers.Head (head kind) 2
unfolding head_at
headed Req rest = refl
headed Dealer rest = refl
headed Router rest = refl

behind : (kind : SocketType) (rest : List ℕ) → drop 2 (ready_frame kind ++ rest) ≡ ready_body kind ++ rest
behind Req rest = refl
behind Dealer rest = refl
behind Router rest = refl

answered : (kind : SocketType) → answer_of (Some (type_property kind ∷ [])) ≡ Ok kind
answered Req = refl
answered Dealer = refl
answered Router = refl

pub read_again : (kind : SocketType) → IsReadAgain kind
unfolding ready_of
read_again kind =
    let h : IsReady (type_property kind ∷ []) (ready_body kind) = ((lawful kind, tt), refl) in
    record { framed = framed kind; spelled = h; headed = headed kind; behind = behind kind; again = ap answer_of (ready_again (ready_body kind) (type_property kind ∷ []) h) ∙ answered kind }
