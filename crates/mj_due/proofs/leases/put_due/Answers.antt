use Rattle.std.proofs.Common.{◌≡◌, ◌∙◌, length, sym, ap, arith}
use Rattle.mj_due.specs.Leases.{due_pairs}
use Rattle.mj_due.specs.Numbers.{put_all, put_once}
use Rattle.mj_due.proofs.DueLemmas.{drop_get}
use Rattle.mj_due.proofs.leases.put_due.Goals as goal

pub loop-at-preserved : goal.loop-at-preserved
loop-at-preserved g c =
    let inv = c.loop-at.invariant in
    let long = inv.long in
    let longer = inv.longer in
    let room = inv.room in
    let cost = inv.cost in
    let more = c.put_number.ensures.len in
    let capacity = c.put_number.ensures.capacity in
    let step = c.conn_at-conn.ensures.cost in
    let ok = c.args.out.now.ok in
    let start = c.len-start.ensures in
    let front : length c.args.out.now.items ≡ c.len-start.result = omega arith in
    record {
      put = (
        put_once c.conn_at-conn.result inv.put.0,
        c.put_number.ensures.put c.args.out.now.items inv.put.0 inv.put.1 front,
        ap (put_all inv.put.0) (sym (drop_get (due_pairs c.args.now c.args.order.now.pairs) c.loop-at.at (c.conn_at-conn.ensures.value.0, c.conn_at-conn.result) c.conn_at-conn.ensures.value.1)) ∙ inv.put.2,
      );
      longer = omega arith;
      long = omega arith;
      room = omega arith;
      cost = omega arith;
    }
