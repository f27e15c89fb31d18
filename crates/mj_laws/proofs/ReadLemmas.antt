-- Bytes can be read as one reply alone.
use Rattle.std.proofs.Common.{◌≡◌, ℕ, Bool, true, false, List, [], get_or, refl, sym, ap, subst, arith}
use Rattle.mj_base.specs.declared.version.Version.{Version}
use Rattle.mj_base.specs.declared.version.Version.TheVariants.{One, Two}
use Rattle.mj_client_cmd.specs.ClientWriting.{message_frames, reply_code, reply_frames}
use Rattle.mj_client_cmd.specs.declared.command.ClientReply.{ClientReply}
use Rattle.mj_frame.specs.FrameSpelling.{AreFrames, message_octets}
use Rattle.mj_frame.specs.FrameSpelling as spelling
use Rattle.mj_frame.proofs.FrameLemmas.{message_is_spelled, one_message, one_reading}
use Rattle.mj_laws.specs.Replies.{AreShort, SaysTheSame}

-- the same, and in 0.2 the codes too
abbrev Same : Version → Version → Bool → Bool → List ℕ → List ℕ → List ℕ → List ℕ → List (List ℕ) → List (List ℕ) → Type 0
Same v w a b c d s t x y = (v ≡ w) × (a ≡ b) × (s ≡ t) × (x ≡ y) × (v ≡ Two → c ≡ d)

-- the last digits of the two words
digits : ◌≡◌ {A = ℕ} 49 50 → ⊥
digits e = omega (arith, e)

same-frames : (v w : Version) (a b : Bool) (c d s t : List ℕ) (x y : List (List ℕ)) → message_frames v a c s x ≡ message_frames w b d t y → Same v w a b c d s t x y
same-frames One One true true c d s t x y e = (refl, refl, cc e, cc e, λ two. cc two)
same-frames One One true false c d s t x y e = absurd (cc e)
same-frames One One false true c d s t x y e = absurd (cc e)
same-frames One One false false c d s t x y e = (refl, refl, cc e, cc e, λ two. cc two)
same-frames One Two true true c d s t x y e = absurd (digits (ap (λ (ms : List (List ℕ)). get_or (get_or ms 1 []) 5 0) e))
same-frames One Two true false c d s t x y e = absurd (cc e)
same-frames One Two false true c d s t x y e = absurd (cc e)
same-frames One Two false false c d s t x y e = absurd (digits (ap (λ (ms : List (List ℕ)). get_or (get_or ms 0 []) 5 0) e))
same-frames Two One true true c d s t x y e = absurd (digits (ap (λ (ms : List (List ℕ)). get_or (get_or ms 1 []) 5 0) (sym e)))
same-frames Two One true false c d s t x y e = absurd (cc e)
same-frames Two One false true c d s t x y e = absurd (cc e)
same-frames Two One false false c d s t x y e = absurd (digits (ap (λ (ms : List (List ℕ)). get_or (get_or ms 0 []) 5 0) (sym e)))
same-frames Two Two true true c d s t x y e = (refl, refl, cc e, cc e, λ two. cc e)
same-frames Two Two true false c d s t x y e = absurd (cc e)
same-frames Two Two false true c d s t x y e = absurd (cc e)
same-frames Two Two false false c d s t x y e = (refl, refl, cc e, cc e, λ two. cc e)

same-last : (a b : Bool) → reply_code a ≡ reply_code b → a ≡ b
same-last true true e = refl
same-last true false e = absurd (cc e)
same-last false true e = absurd (cc e)
same-last false false e = refl

pub one_reply : (reply other : ClientReply) → AreShort (reply_frames reply) → AreShort (reply_frames other) → message_octets (reply_frames reply) ≡ message_octets (reply_frames other)
    → SaysTheSame reply other
one_reply reply other short other_short same =
    let one = message_is_spelled (reply_frames reply) short in
    let two = subst (AreFrames (spelling.message_frames (reply_frames other))) (sym same) (message_is_spelled (reply_frames other) other_short) in
    let frames = one_message (reply_frames reply) (reply_frames other) (one_reading _ _ (message_octets (reply_frames reply)) one two) in
    let all = same-frames reply.version other.version reply.lead other.lead (reply_code reply.last) (reply_code other.last) reply.service other.service reply.body other.body frames in
    record { version = all.0; lead = all.1; service = all.2; body = all.3; last = λ two. same-last reply.last other.last (all.4 two) }
