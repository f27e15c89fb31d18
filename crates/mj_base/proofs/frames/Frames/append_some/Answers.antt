use Rattle.std.proofs.Common.{◌≡◌, ◌≤◌, ◌+◌, ◌<◌, ◌++◌, List, [], ◌∷◌, ℕ, length, take, drop, ap, ◌∙◌, arith, length-drop, length-append}
use Rattle.std.proofs.lemmas.List.{take-append-le}
use Rattle.mj_base.proofs.FrameLemmas.{appended}
use Rattle.mj_base.proofs.frames.Frames.append_some.Goals as goal
use Rattle.mj_base.proofs.frames.Frames.append_some.Goals.{in-Some+in_ok-push, in_default}

-- one more at the end leaves the front
front_stays : (old mid new : List (List ℕ)) (frame : List ℕ) → length old ≤ length mid → take (length old) mid ≡ old → new ≡ mid ++ frame ∷ []
    → (length old ≤ length new) × (take (length old) new ≡ old)
front_stays old mid new frame inside front is_new = (
  omega (arith, length-append mid (frame ∷ []), ap (λ (x : List (List ℕ)). length x) is_new),
  ap (λ (x : List (List ℕ)). take (length old) x) is_new ∙ (rw take-append-le front),
)

pub loop-i-preserved : goal.loop-i-preserved
loop-i-preserved c =
    elim c.match-get.branch [
      | in-Some+in_ok-push w ↦
          let is_new = w.self-is ∙ w.in_ok-push.ensures.ok in
          let kept = front_stays c.args.self.now c.loop-i.self c.match-get.self w.in-Some.frame.now c.loop-i.invariant.1 c.loop-i.invariant.2 is_new in (
            appended c.loop-i.self c.match-get.self (c.args.self.now ++ drop c.args.from c.args.other.now) w.in-Some.frame.now
                (drop c.loop-i.i c.args.other.now) (drop (c.loop-i.i + 1) c.args.other.now)
                c.loop-i.invariant.0 w.in-Some.ensures.rest.1 is_new,
            kept.0,
            kept.1,
          )
      | in_default w ↦
          let inside : c.loop-i.i < length c.args.other.now = omega (arith, c.len-i-end.ensures) in
          absurd (omega (arith, length-drop c.loop-i.i c.args.other.now, ap (λ (x : List (List ℕ)). length x) w.in_default.ensures.rest))
    ]
