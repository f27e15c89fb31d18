-- Whole frames: no spelling is a proper front of another, and what is written is spelled.
use Rattle.std.proofs.Common.{◌≡◌, ℕ, ◌<◌, ◌≤◌, ◌^◌, Bool, true, false, cond, List, [], ◌∷◌, ◌++◌, length, refl, sym, ap, subst, ◌∙◌, inl, inr, arith, append_assoc, append-nil, length-append, lt-ltb, le-ltb}
use Rattle.std.proofs.lemmas.Bool.{cases_lt}
use Rattle.std.specs.List.{AllByRecursion}
use Rattle.mj_frame.specs.declared.head.Head.{Head}
use Rattle.mj_frame.specs.declared.head.HeadAnswer.TheVariants as answers
use Rattle.mj_frame.specs.FrameSpelling.{Frame, IsKind, IsHead, head_of, IsFrame, AreFrames, canonical_head, canonical, message_frames, message_octets, short_head, long_head}
use Rattle.mj_frame.specs.HeadReading.{head_at}
use Rattle.mj_frame.proofs.HeadLemmas.{every_head_is_read}

-- two lists that begin one list, of the same length
pub same_front : (a b x y : List ℕ) → length a ≡ length b → a ++ x ≡ b ++ y → (a ≡ b) × (x ≡ y)
same_front [] [] x y l e = (refl, e)
same_front [] (c ∷ b) x y l e = absurd (omega arith)
same_front (c ∷ a) [] x y l e = absurd (omega arith)
same_front (c ∷ a) (d ∷ b) x y l e =
    let f : c ≡ d = cc in
    let t : a ++ x ≡ b ++ y = cc in
    let r = same_front a b x y (omega arith) t in
    (ap (λ (z : ℕ). z ∷ a) f ∙ ap (λ (z : List ℕ). d ∷ z) r.0, r.1)

abbrev make : Bool → Bool → List ℕ → Frame
make more command body = record { more = more; command = command; body = body }

same_frame : (f g : Frame) → f.more ≡ g.more → f.command ≡ g.command → f.body ≡ g.body → f ≡ g
same_frame f g a b c = ap (λ (x : Bool). make x f.command f.body) a ∙ ap (λ (x : Bool). make g.more x f.body) b ∙ ap (λ (x : List ℕ). make g.more g.command x) c

-- equal bytes have equal heads, and what follows the heads is equal
same_heads : (h g : Head) (a b x y : List ℕ) → IsHead h a → IsHead g b → a ++ x ≡ b ++ y → (h ≡ g) × ((a ≡ b) × (x ≡ y))
same_heads h g a b x y p q e =
    let one = every_head_is_read h a x p in
    let two = every_head_is_read g b y q in
    let same : answers.Head h (length a) ≡ answers.Head g (length b) = sym one ∙ ap head_at e ∙ two in
    let long : length a ≡ length b = cc in
    let heads : h ≡ g = cc in
    let r = same_front a b x y long e in
    (heads, (r.0, r.1))

pub one_frame : (f g : Frame) (a b x y : List ℕ) → IsFrame f a → IsFrame g b → a ++ x ≡ b ++ y → (f ≡ g) × ((a ≡ b) × (x ≡ y))
one_frame f g a b x y (p, hp, ep) (q, hq, eq) e =
    let e1 : p ++ (f.body ++ x) ≡ q ++ (g.body ++ y) = sym (ap (λ (z : List ℕ). z ++ x) ep ∙ append_assoc p f.body x) ∙ e ∙ (ap (λ (z : List ℕ). z ++ y) eq ∙ append_assoc q g.body y) in
    let heads = same_heads (head_of f) (head_of g) p q (f.body ++ x) (g.body ++ y) hp hq e1 in
    let sizes : length f.body ≡ length g.body = ap (λ (h : Head). h.size) heads.0 in
    let bodies = same_front f.body g.body x y sizes heads.1.1 in (
      same_frame f g (ap (λ (h : Head). h.more) heads.0) (ap (λ (h : Head). h.command) heads.0) bodies.0,
      (ep ∙ ap (λ (z : List ℕ). z ++ f.body) heads.1.0 ∙ ap (λ (z : List ℕ). q ++ z) bodies.0 ∙ sym eq, bodies.1),
    )

pub frame_starts_none : (f g : Frame) (a b x y : List ℕ) → IsFrame f a → IsFrame g b → a ++ x ≡ b ++ y → (f ≡ g) × (a ≡ b)
frame_starts_none f g a b x y p q e = let r = one_frame f g a b x y p q e in (r.0, r.1.0)

-- a frame has at least its two first bytes
pub frame_long : (f : Frame) (a : List ℕ) → IsFrame f a → 2 ≤ length a
frame_long f a (head, (k, inl (small, e)), w) = let l = ap length (w ∙ ap (λ (z : List ℕ). z ++ f.body) e) in omega arith
frame_long f a (head, (k, inr (small, e)), w) = let l = ap length (w ∙ ap (λ (z : List ℕ). z ++ f.body) e) in omega arith

same_rest : (f g : Frame) (frames others : List Frame) → f ≡ g → frames ≡ others → f ∷ frames ≡ g ∷ others
same_rest f g frames others a b = ap (λ (x : Frame). x ∷ frames) a ∙ ap (λ (x : List Frame). g ∷ x) b

nothing_stands : (f : Frame) (a b octets : List ℕ) → IsFrame f a → octets ≡ [] → octets ≡ a ++ b → ⊥
nothing_stands f a b octets p e w = omega (arith, frame_long f a p, length-append a b, ap length (sym w ∙ e))

pub one_reading : (frames others : List Frame) (octets : List ℕ) → AreFrames frames octets → AreFrames others octets → frames ≡ others
one_reading [] [] octets p q = refl
one_reading [] (g ∷ others) octets p (b, y, fg, gs, e) = absurd (nothing_stands g b y octets fg p e)
one_reading (f ∷ frames) [] octets (a, x, ff, fs, e) q = absurd (nothing_stands f a x octets ff q e)
one_reading (f ∷ frames) (g ∷ others) octets (a, x, ff, fs, e) (b, y, fg, gs, w) =
    let r = one_frame f g a b x y ff fg (sym e ∙ w) in
    same_rest f g frames others r.0 (one_reading frames others x fs (subst (λ (z : List ℕ). AreFrames others z) (sym r.1.1) gs))

-- ---- what is written is spelled

head_spelled : (h : Head) → IsKind h.more h.command → h.size < 2 ^ 64 → IsHead h (canonical_head h)
head_spelled h k small =
    elim (cases_lt h.size 256) [
      | inl lt ↦ (k, inl (lt, ap (λ (b : Bool). cond b (short_head h) (long_head h)) (lt-ltb _ _ lt)))
      | inr le ↦ (k, inr (small, ap (λ (b : Bool). cond b (short_head h) (long_head h)) (le-ltb _ _ le)))
    ]

pub written_is_spelled : (more command : Bool) (body : List ℕ) → IsKind more command → length body < 2 ^ 64 → IsFrame (make more command body) (canonical more command body)
written_is_spelled more command body k small =
    (canonical_head (head_of (make more command body)), head_spelled (head_of (make more command body)) k small, refl)

message_kind : (more : Bool) → IsKind more false
message_kind more = λ p. let e = p.1 in cc

pub message_is_spelled : (message : List (List ℕ)) → AllByRecursion (λ body. length body < 2 ^ 64) message → AreFrames (message_frames message) (message_octets message)
message_is_spelled [] small = refl
message_is_spelled (body ∷ []) small = (canonical false false body, [], written_is_spelled false false body (message_kind false) small.0, refl, sym (append-nil (canonical false false body)))
message_is_spelled (body ∷ other ∷ bodies) small =
    (canonical true false body, message_octets (other ∷ bodies), written_is_spelled true false body (message_kind true) small.0, message_is_spelled (other ∷ bodies) small.1, refl)

bodies : List Frame → List (List ℕ)
bodies [] = []
bodies (f ∷ frames) = f.body ∷ bodies frames

bodies_of : (message : List (List ℕ)) → bodies (message_frames message) ≡ message
unfolding bodies
bodies_of [] = refl
bodies_of (body ∷ []) = refl
bodies_of (body ∷ other ∷ more) = ap (λ (x : List (List ℕ)). body ∷ x) (bodies_of (other ∷ more))

pub one_message : (message other : List (List ℕ)) → message_frames message ≡ message_frames other → message ≡ other
one_message message other e = sym (bodies_of message) ∙ ap bodies e ∙ bodies_of other
