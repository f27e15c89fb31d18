use Rattle.std.proofs.Common.{arith}
use Rattle.std.proofs.lemmas.Result.{err_from_is_err_and}
use Rattle.mj_show.proofs.StreamLemmas.{printed-front, printed-more}
use Rattle.mj_show.proofs.printing.print_all.Goals as goal

pub returns-in_err-print_item-clause-broken : goal.returns-in_err-print_item-clause-broken
returns-in_err-print_item-clause-broken g c =
    let p = err_from_is_err_and c.from_residual.result c.from_residual.ensures.1 in
    rw p.1 (printed-front (g.K.Sink.written c.args.out.now) (g.K.Sink.written c.loop-item.out) (g.K.Sink.written c.print_item.new.out) c.args.items.now c.loop-item.item-index c.item-item.result c.loop-item-test.true c.item-item.is c.loop-item.invariant.done c.in_err-print_item.ensures.broken)

pub loop-item-preserved : goal.loop-item-preserved
loop-item-preserved g c =
    let i = c.loop-item.invariant in
    let e = c.in_ok-print_item.ensures in
    record {
      done = printed-more (g.K.Sink.written c.args.out.now) (g.K.Sink.written c.loop-item.out) (g.K.Sink.written c.print_item.new.out) c.args.items.now c.loop-item.item-index c.item-item.result c.loop-item-test.true c.item-item.is i.done e.done;
      later = (let a = i.later in let b = e.later in omega (arith, a, b));
      wants_later = (let a = i.wants_later in let b = e.wants_later in omega (arith, a, b));
    }
