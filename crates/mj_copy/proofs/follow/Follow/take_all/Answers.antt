use Rattle.std.proofs.Common.{◌≡◌, ◌+◌, ◌-◌, ℕ, zero, suc, Bool, true, false, length, arith, subst}
use Rattle.mj_copy.specs.FollowStands.{Swept, TakesOne}
use Rattle.mj_copy.proofs.FollowSweep.{swept_end, swept_more, swept_start, swept_stop}
use Rattle.mj_copy.proofs.follow.Follow.take_all.Goals as goal

pub loop-step-init : goal.loop-step-init
loop-step-init c =
    let all : length c.args.self.now.kept.items ≡ c.len-step-end.result - 0 = omega (arith, c.len-step-end.ensures.value) in
    (omega arith, subst (λ (n : ℕ). Swept c.args.self.now c.args.self.now c.args.acts.now.items c.args.acts.now.items n) all (swept_start c.args.self.now c.args.acts.now.items))

pub loop-step-preserved : goal.loop-step-preserved
loop-step-preserved c =
    let more : c.in_ok-take_one.field-0 ≡ true = cc in
    let left : c.len-step-end.result - c.loop-step._step ≡ suc (c.len-step-end.result - (c.loop-step._step + 1)) = omega (arith, c.loop-step-test.true, c.loop-step.invariant.0) in (
      omega (arith, c.loop-step-test.true),
      swept_more _ c.loop-step.self _ _ c.loop-step.acts.items _ _
          (subst (λ (n : ℕ). Swept c.args.self.now c.loop-step.self c.args.acts.now.items c.loop-step.acts.items n) left c.loop-step.invariant.1)
          (subst (λ (b : Bool). TakesOne c.loop-step.self c.take_one.new.self c.loop-step.acts.items c.take_one.new.acts.items b) more c.in_ok-take_one.ensures),
    )

pub returns-then-not-branch : goal.returns-then-not-branch
returns-then-not-branch c =
    let more : c.in_ok-take_one.field-0 ≡ false = cc in
    let left : c.len-step-end.result - c.loop-step._step ≡ suc (c.len-step-end.result - (c.loop-step._step + 1)) = omega (arith, c.loop-step-test.true, c.loop-step.invariant.0) in
    record {
      turn = swept_stop _ c.loop-step.self _ _ c.loop-step.acts.items _ _
          (subst (λ (n : ℕ). Swept c.args.self.now c.loop-step.self c.args.acts.now.items c.loop-step.acts.items n) left c.loop-step.invariant.1)
          (subst (λ (b : Bool). TakesOne c.loop-step.self c.take_one.new.self c.loop-step.acts.items c.take_one.new.acts.items b) more c.in_ok-take_one.ensures);
    }

pub returns-after-loop-step : goal.returns-after-loop-step
returns-after-loop-step c =
    let none : c.len-step-end.result - c.loop-step._step ≡ zero = omega (arith, c.loop-step-test.false) in
    record { turn = swept_end _ c.loop-step.self _ c.loop-step.acts.items (subst (λ (n : ℕ). Swept c.args.self.now c.loop-step.self c.args.acts.now.items c.loop-step.acts.items n) none c.loop-step.invariant.1) }
