use Rattle.std.proofs.Common.{[], ◌++◌, ℕ, Bool, refl, subst, sym, ◌∙◌, arith, length-append}
use Rattle.mj_show.specs.ShowingSoFar.{IsWhole, StepsOn}
use Rattle.mj_show.proofs.StepLemmas.{so-far-at-first, taken-is, whole-at, whole-full}
use Rattle.mj_show.proofs.pieces.show_all.Goals as goal

pub loop-init : goal.loop-init
loop-init g c = record {
  ready = c.requires.ready;
  room = c.requires.room;
  read = [];
  so_far = so-far-at-first (g.S.Source.left c.args.src.now) (g.K.Sink.written c.args.out.now) c.args.wire.now c.requires.fresh;
  turns = omega arith;
  later = omega arith;
  wants_later = omega arith;
  reads_later = omega arith;
  misses = refl;
}

pub step-requires-clause-few : goal.step-requires-clause-few
step-requires-clause-few g c =
    let s = c.loop.invariant.so_far in
    let t = taken-is c.loop.wire c.loop.invariant.read s.stands s.few in
    let f = s.few in
    omega (arith, t, f)

pub returns-then-not-branch-clause-whole : goal.returns-then-not-branch-clause-whole
returns-then-not-branch-clause-whole g c =
    let i = c.loop.invariant in
    let over = subst (λ (b : Bool). StepsOn b (g.S.Source.left c.args.src.now) (g.S.Source.left c.step.new.src) (g.K.Sink.written c.args.out.now) (g.K.Sink.written c.step.new.out) c.loop.wire c.step.new.wire i.read) c.if-not-branch.true (c.in_ok-step.ensures.goes (g.S.Source.left c.args.src.now) (g.K.Sink.written c.args.out.now) i.read i.so_far) in
    subst (λ (n : ℕ). IsWhole (g.S.Source.left c.args.src.now) (g.K.Sink.written c.args.out.now) (g.K.Sink.written c.step.new.out) n) (sym c.taken.ensures)
    (whole-at (g.S.Source.left c.args.src.now) (g.S.Source.left c.loop.src) (g.S.Source.left c.step.new.src) (g.K.Sink.written c.args.out.now) (g.K.Sink.written c.loop.out) (g.K.Sink.written c.step.new.out) c.loop.wire c.step.new.wire i.read i.so_far over)

pub loop-preserved : goal.loop-preserved
loop-preserved g c =
    let i = c.loop.invariant in
    let e = c.in_ok-step.ensures in
    let more = subst (λ (b : Bool). StepsOn b (g.S.Source.left c.args.src.now) (g.S.Source.left c.step.new.src) (g.K.Sink.written c.args.out.now) (g.K.Sink.written c.step.new.out) c.loop.wire c.step.new.wire i.read) c.if-not-branch.false (e.goes (g.S.Source.left c.args.src.now) (g.K.Sink.written c.args.out.now) i.read i.so_far) in
    record {
      ready = e.ready;
      room = (let r = i.room in let s = e.same in omega (arith, r, s));
      read = i.read ++ more.0;
      so_far = more.2;
      turns = (let t = i.turns in let p = more.1 in let l = length-append i.read more.0 in omega (arith, t, p, l));
      later = (let a = i.later in let b = e.later in omega (arith, a, b));
      wants_later = (let a = i.wants_later in let b = e.wants_later in omega (arith, a, b));
      reads_later = (let a = i.reads_later in let b = e.reads_later in omega (arith, a, b));
      misses = e.got c.if-not-branch.false ∙ i.misses;
    }

pub returns-clause-whole : goal.returns-clause-whole
returns-clause-whole g c =
    let i = c.loop.invariant in
    let t = i.turns in
    let over = c.loop-test.false in
    subst (λ (n : ℕ). IsWhole (g.S.Source.left c.args.src.now) (g.K.Sink.written c.args.out.now) (g.K.Sink.written c.loop.out) n) (sym c.taken-2.ensures) (whole-full (g.S.Source.left c.args.src.now) (g.S.Source.left c.loop.src) (g.K.Sink.written c.args.out.now) (g.K.Sink.written c.loop.out) c.loop.wire i.read i.so_far (omega (arith, over, t)))
