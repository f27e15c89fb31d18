use Rattle.std.proofs.Common.{◌≡◌, ℕ, Option, IfSome, IfNone, refl, sym, subst, arith, ◌∙◌}
use Rattle.mj_compact.specs.Compacting.{Copies}
use Rattle.mj_compact.proofs.TicketCopies.{writes_more}
use Rattle.mj_compact.proofs.Looping.{all_done, bounds_at, none_at, none_yet, one_more, reads_more, upto_same}
use Rattle.mj_compact.proofs.copying.copy_all.Goals as goal

pub loop-number-init : goal.loop-number-init
loop-number-init g c = record {
  copied = none_yet g.D.Disk g.E.Disk c.args.store.now c.args.old.now c.args.making.now c.args.new.now;
  same = refl;
  held = c.requires.held.1;
  keeps = λ base cmds h. h;
  reads = record { told = refl; later = omega arith; count = omega arith };
  going = c.requires.going;
  writes = record { base = refl; crash = λ start before l. l; later = omega arith; count = omega arith };
  few = omega arith;
  within = omega arith;
}

pub loop-number-smaller : goal.loop-number-smaller
loop-number-smaller g c =
    let b = bounds_at c.args.store.now c.loop-number.store c.loop-number.after _ c.loop-number.invariant.same c.requires.numbered (sym c.in-Ok-Some.field-0-is ∙ c.in-Ok-Some.ensures.number) in
    omega (arith, b.0, b.1)

pub loop-number-preserved : goal.loop-number-preserved
loop-number-preserved g c =
    let i = c.loop-number.invariant in
    let e = c.in-Ok-Some.ensures in
    let next = sym c.in-Ok-Some.field-0-is ∙ e.number in
    let b = bounds_at c.args.store.now c.loop-number.store c.loop-number.after _ i.same c.requires.numbered next in
    record {
      copied = one_more g.D.Disk g.E.Disk c.args.store.now c.args.old.now c.args.making.now c.args.new.now c.loop-number.store c.loop-number.old c.loop-number.making c.copy_next.new.making c.loop-number.new _ c.loop-number.count c.loop-number.after _
          i.reads.told i.keeps i.copied next
          (subst (λ (o : Option ℕ). IfSome o (λ (n : ℕ). Copies g.D.Disk g.E.Disk n c.loop-number.store c.loop-number.old c.loop-number.making c.loop-number.new c.copy_next.new.making c.copy_next.new.new)) c.in-Ok-Some.field-0-is e.copied);
      same = e.same ∙ i.same;
      held = e.held;
      keeps = λ base cmds h. e.keeps base cmds (i.keeps base cmds h);
      reads = reads_more g.D.Disk _ _ _ i.reads e.reads;
      going = e.going;
      writes = writes_more g.E.Disk c.args.making.now c.loop-number.making c.copy_next.new.making _ _ _ i.writes e.writes;
      few = omega (arith, i.few, b.0);
      within = b.1;
    }

pub returns-in-Ok-None-clause-copied : goal.returns-in-Ok-None-clause-copied
returns-in-Ok-None-clause-copied g c =
    let i = c.loop-number.invariant in
    let e = c.in-Ok-None.ensures in
    let same = subst (λ (o : Option ℕ). IfNone o ((c.copy_next.new.making ≡ c.loop-number.making) × (c.copy_next.new.new ≡ c.loop-number.new))) c.in-Ok-None.field-0-is e.none in
    all_done g.D.Disk g.E.Disk c.args.store.now c.args.old.now c.args.making.now c.args.new.now c.loop-number.store c.loop-number.old c.copy_next.new.making c.copy_next.new.new c.loop-number.count c.loop-number.after
    i.reads.told i.keeps (upto_same g.D.Disk g.E.Disk c.args.store.now c.args.old.now c.args.making.now c.loop-number.making c.copy_next.new.making c.args.new.now c.loop-number.new c.copy_next.new.new _ _ same.0 same.1 i.copied)
    (none_at c.loop-number.after c.loop-number.store.index (sym c.in-Ok-None.field-0-is ∙ e.number))

pub returns-in-Err-clause-writes : goal.returns-in-Err-clause-writes
returns-in-Err-clause-writes g c = writes_more g.E.Disk c.args.making.now c.loop-number.making c.copy_next.new.making _ _ _ c.loop-number.invariant.writes c.in-Err.ensures.writes
