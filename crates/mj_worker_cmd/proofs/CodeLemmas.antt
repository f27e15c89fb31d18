-- Codes: the kind that is read has this code.
use Rattle.std.proofs.Common.{◌≡◌, ℕ, ◌⊎◌, inl, inr, Bool, true, false, cond, List, [], ◌∷◌, Option, Some, None, refl, sym, subst, ◌∙◌}
use Rattle.std.specs.Str.{bytes_eq}
use Rattle.mj_base.specs.declared.version.Version.{Version}
use Rattle.mj_base.specs.declared.version.Version.TheVariants.{One, Two}
use Rattle.mj_worker_cmd.specs.declared.kind.WorkerKind.{WorkerKind}
use Rattle.mj_worker_cmd.specs.declared.kind.WorkerKind.TheVariants.{Ready, Reply, Heartbeat, Disconnect}
use Rattle.mj_worker_cmd.specs.declared.kind.OrderKind.{OrderKind}
use Rattle.mj_worker_cmd.specs.declared.kind.OrderKind.TheVariants as order
use Rattle.mj_worker_cmd.specs.Codes.{or_code, worker_code, order_code, worker_kind_one, worker_kind_two, worker_kind, order_kind}
use Rattle.mj_opening.proofs.OpeningLemmas.{same}

code_by : {X : Type 0} (frame code : List ℕ) (kind found : X) (other : Option X) (b : Bool) → bytes_eq frame code ≡ b → cond b (Some kind) other ≡ Some found
    → ((frame ≡ code) × (kind ≡ found)) ⊎ (other ≡ Some found)
code_by frame code kind found other true is e = inl (same _ _ is, cc)
code_by frame code kind found other false is e = inr e

code_cases : {X : Type 0} (frame code : List ℕ) (kind found : X) (other : Option X) → or_code frame code kind other ≡ Some found
    → ((frame ≡ code) × (kind ≡ found)) ⊎ (other ≡ Some found)
code_cases frame code kind found other e = code_by frame code kind found other _ refl e

-- 0.1 has no partial reply
abbrev pub IsSaid : Version → WorkerKind → Type 0
IsSaid One Ready = Unit {0}
IsSaid One (Reply last) = last ≡ true
IsSaid One Heartbeat = Unit {0}
IsSaid One Disconnect = Unit {0}
IsSaid Two kind = Unit {0}

abbrev pub IsCode : Version → WorkerKind → List ℕ → Type 0
IsCode v kind frame = IsSaid v kind × (frame ≡ worker_code v kind)

one_4 : (frame : List ℕ) (k : WorkerKind) → or_code frame (5 ∷ []) Disconnect None ≡ Some k → IsCode One k frame
one_4 frame k e = elim (code_cases frame (5 ∷ []) Disconnect k None e) [
  | inl p ↦ subst (λ (x : WorkerKind). IsCode One x frame) p.1 (tt, p.0)
  | inr none ↦ cc
]

one_3 : (frame : List ℕ) (k : WorkerKind) → or_code frame (4 ∷ []) Heartbeat (or_code frame (5 ∷ []) Disconnect None) ≡ Some k → IsCode One k frame
one_3 frame k e = elim (code_cases frame (4 ∷ []) Heartbeat k (or_code frame (5 ∷ []) Disconnect None) e) [
  | inl p ↦ subst (λ (x : WorkerKind). IsCode One x frame) p.1 (tt, p.0)
  | inr more ↦ one_4 frame k more
]

one_2 : (frame : List ℕ) (k : WorkerKind) → or_code frame (3 ∷ []) (Reply true) (or_code frame (4 ∷ []) Heartbeat (or_code frame (5 ∷ []) Disconnect None)) ≡ Some k → IsCode One k frame
one_2 frame k e = elim (code_cases frame (3 ∷ []) (Reply true) k (or_code frame (4 ∷ []) Heartbeat (or_code frame (5 ∷ []) Disconnect None)) e) [
  | inl p ↦ subst (λ (x : WorkerKind). IsCode One x frame) p.1 (refl, p.0)
  | inr more ↦ one_3 frame k more
]

kind_one : (frame : List ℕ) (k : WorkerKind) → worker_kind_one frame ≡ Some k → IsCode One k frame
kind_one frame k e =
    elim (code_cases frame (1 ∷ []) Ready k (or_code frame (3 ∷ []) (Reply true) (or_code frame (4 ∷ []) Heartbeat (or_code frame (5 ∷ []) Disconnect None))) e) [
      | inl p ↦ subst (λ (x : WorkerKind). IsCode One x frame) p.1 (tt, p.0)
      | inr more ↦ one_2 frame k more
    ]

two_5 : (frame : List ℕ) (k : WorkerKind) → or_code frame (6 ∷ []) Disconnect None ≡ Some k → IsCode Two k frame
two_5 frame k e = elim (code_cases frame (6 ∷ []) Disconnect k None e) [
  | inl p ↦ subst (λ (x : WorkerKind). IsCode Two x frame) p.1 (tt, p.0)
  | inr none ↦ cc
]

two_4 : (frame : List ℕ) (k : WorkerKind) → or_code frame (5 ∷ []) Heartbeat (or_code frame (6 ∷ []) Disconnect None) ≡ Some k → IsCode Two k frame
two_4 frame k e = elim (code_cases frame (5 ∷ []) Heartbeat k (or_code frame (6 ∷ []) Disconnect None) e) [
  | inl p ↦ subst (λ (x : WorkerKind). IsCode Two x frame) p.1 (tt, p.0)
  | inr more ↦ two_5 frame k more
]

two_3 : (frame : List ℕ) (k : WorkerKind) → or_code frame (4 ∷ []) (Reply true) (or_code frame (5 ∷ []) Heartbeat (or_code frame (6 ∷ []) Disconnect None)) ≡ Some k → IsCode Two k frame
two_3 frame k e = elim (code_cases frame (4 ∷ []) (Reply true) k (or_code frame (5 ∷ []) Heartbeat (or_code frame (6 ∷ []) Disconnect None)) e) [
  | inl p ↦ subst (λ (x : WorkerKind). IsCode Two x frame) p.1 (tt, p.0)
  | inr more ↦ two_4 frame k more
]

two_2 : (frame : List ℕ) (k : WorkerKind)
    → or_code frame (3 ∷ []) (Reply false) (or_code frame (4 ∷ []) (Reply true) (or_code frame (5 ∷ []) Heartbeat (or_code frame (6 ∷ []) Disconnect None))) ≡ Some k → IsCode Two k frame
two_2 frame k e =
    elim (code_cases frame (3 ∷ []) (Reply false) k (or_code frame (4 ∷ []) (Reply true) (or_code frame (5 ∷ []) Heartbeat (or_code frame (6 ∷ []) Disconnect None))) e) [
      | inl p ↦ subst (λ (x : WorkerKind). IsCode Two x frame) p.1 (tt, p.0)
      | inr more ↦ two_3 frame k more
    ]

kind_two : (frame : List ℕ) (k : WorkerKind) → worker_kind_two frame ≡ Some k → IsCode Two k frame
kind_two frame k e =
    elim (code_cases frame (1 ∷ []) Ready k (or_code frame (3 ∷ []) (Reply false) (or_code frame (4 ∷ []) (Reply true) (or_code frame (5 ∷ []) Heartbeat (or_code frame (6 ∷ []) Disconnect None)))) e) [
      | inl p ↦ subst (λ (x : WorkerKind). IsCode Two x frame) p.1 (tt, p.0)
      | inr more ↦ two_2 frame k more
    ]

pub worker_kind_stands : (v : Version) (frame : List ℕ) (k : WorkerKind) → worker_kind v frame ≡ Some k → IsCode v k frame
worker_kind_stands One frame k e = kind_one frame k e
worker_kind_stands Two frame k e = kind_two frame k e

order_3 : (v : Version) (frame : List ℕ) (k : OrderKind) → or_code frame (order_code v order.Disconnect) order.Disconnect None ≡ Some k → frame ≡ order_code v k
order_3 v frame k e = elim (code_cases frame (order_code v order.Disconnect) order.Disconnect k None e) [
  | inl p ↦ subst (λ (x : OrderKind). frame ≡ order_code v x) p.1 p.0
  | inr none ↦ cc
]

order_2 : (v : Version) (frame : List ℕ) (k : OrderKind)
    → or_code frame (order_code v order.Heartbeat) order.Heartbeat (or_code frame (order_code v order.Disconnect) order.Disconnect None) ≡ Some k → frame ≡ order_code v k
order_2 v frame k e =
    elim (code_cases frame (order_code v order.Heartbeat) order.Heartbeat k (or_code frame (order_code v order.Disconnect) order.Disconnect None) e) [
      | inl p ↦ subst (λ (x : OrderKind). frame ≡ order_code v x) p.1 p.0
      | inr more ↦ order_3 v frame k more
    ]

two_is_request : (v : Version) → order_code v order.Request ≡ 2 ∷ []
two_is_request One = refl
two_is_request Two = refl

pub order_kind_stands : (v : Version) (frame : List ℕ) (k : OrderKind) → order_kind v frame ≡ Some k → frame ≡ order_code v k
order_kind_stands v frame k e =
    elim (code_cases frame (2 ∷ []) order.Request k
    (or_code frame (order_code v order.Heartbeat) order.Heartbeat (or_code frame (order_code v order.Disconnect) order.Disconnect None)) e) [
      | inl p ↦ subst (λ (x : OrderKind). frame ≡ order_code v x) p.1 (p.0 ∙ sym (two_is_request v))
      | inr more ↦ order_2 v frame k more
    ]
