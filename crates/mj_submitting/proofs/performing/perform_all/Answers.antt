use Rattle.std.proofs.Common.{◌≡◌, ◌+◌, ◌<◌, ◌∙◌, ◌∷◌, [], Some, List, drop, get_or, length, take, refl, sym, subst, arith}
use Rattle.std.proofs.lemmas.Result.{err_from_is_err_and}
use Rattle.mj_submitter.specs.declared.effect.Effect.{Effect}
use Rattle.mj_submitting.specs.Performing.{world}
use Rattle.mj_submitting.proofs.PerformLemmas.{held-on, later-more, next-at, next-behind, performs-breaks, performs-more, started}
use Rattle.mj_submitting.proofs.performing.perform_all.Goals as goal

pub loop-effect-init : goal.loop-effect-init
loop-effect-init g c = record {
  held = c.requires.held;
  done = started g.D.Disk (world (g.L.Link.told c.args.link.now) (g.K.Sink.written c.args.out.now) c.args.file.now c.args.disk.now) (g.met.D.Disk.in_time c.args.disk.now);
  next = λ q is. is;
  later = record { reads = omega arith; writes = omega arith; prints = omega arith; wants = omega arith };
  disk_later = omega arith;
  telling = refl;
}

pub perform-requires-clause-next : goal.perform-requires-clause-next
perform-requires-clause-next g c =
    let list = c.args.effects.now in
    let i = c.loop-effect.effect-index in
    let e = c.effect-item.result in
    let same = c.as_slice-effect-items.ensures in
    let inside : i < length list = subst (λ (l : List Effect). i < length l) same c.loop-effect-test.true in
    let at : e ≡ get_or list i e = subst (λ (l : List Effect). e ≡ get_or l i e) same c.effect-item.is in
    next-at list i e c.loop-effect.file.progress c.requires.next.0 inside at (c.loop-effect.invariant.next c.requires.next.0 c.requires.next.1)

pub returns-in_err-perform-clause-broken : goal.returns-in_err-perform-clause-broken
returns-in_err-perform-clause-broken g c =
    let list = c.args.effects.now in
    let i = c.loop-effect.effect-index in
    let e = c.effect-item.result in
    let same = c.as_slice-effect-items.ensures in
    let inside : i < length list = subst (λ (l : List Effect). i < length l) same c.loop-effect-test.true in
    let at : e ≡ get_or list i e = subst (λ (l : List Effect). e ≡ get_or l i e) same c.effect-item.is in
    let old = world (g.L.Link.told c.args.link.now) (g.K.Sink.written c.args.out.now) c.args.file.now c.args.disk.now in
    let mid = world (g.L.Link.told c.loop-effect.link) (g.K.Sink.written c.loop-effect.out) c.loop-effect.file c.loop-effect.disk in
    let now = world (g.L.Link.told c.perform.new.link) (g.K.Sink.written c.perform.new.out) c.perform.new.file c.perform.new.disk in
    let p = err_from_is_err_and c.from_residual.result c.from_residual.ensures.1 in
    rw p.1 (performs-breaks g.D.Disk old mid now list i e inside at c.loop-effect.invariant.done c.in_err-perform.ensures.broken)

pub loop-effect-preserved : goal.loop-effect-preserved
loop-effect-preserved g c =
    let list = c.args.effects.now in
    let i = c.loop-effect.effect-index in
    let e = c.effect-item.result in
    let same = c.as_slice-effect-items.ensures in
    let inside : i < length list = subst (λ (l : List Effect). i < length l) same c.loop-effect-test.true in
    let at : e ≡ get_or list i e = subst (λ (l : List Effect). e ≡ get_or l i e) same c.effect-item.is in
    let old = world (g.L.Link.told c.args.link.now) (g.K.Sink.written c.args.out.now) c.args.file.now c.args.disk.now in
    let mid = world (g.L.Link.told c.loop-effect.link) (g.K.Sink.written c.loop-effect.out) c.loop-effect.file c.loop-effect.disk in
    let now = world (g.L.Link.told c.perform.new.link) (g.K.Sink.written c.perform.new.out) c.perform.new.file c.perform.new.disk in
    let done = c.in_ok-perform.ensures.done in
    let i_later = c.loop-effect.invariant.later in
    let i_disk = c.loop-effect.invariant.disk_later in
    let p_disk = c.perform.ensures.disk_later in
    record {
      held = held-on g.D.Disk mid now (e ∷ []) c.loop-effect.invariant.held done;
      done = performs-more g.D.Disk old mid now list i e inside at c.loop-effect.invariant.done done;
      next = λ q is. next-behind list i e c.loop-effect.file.progress q c.perform.new.file.progress inside at (c.loop-effect.invariant.next q is) done.progress;
      later = later-more _ _ _ i_later c.perform.ensures.later;
      disk_later = omega (arith, i_disk, p_disk);
      telling = c.perform.ensures.telling ∙ c.loop-effect.invariant.telling;
    }
