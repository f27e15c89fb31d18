use Rattle.std.proofs.Common.{◌≡◌, ◌∙◌, true, is_ok, ap}
use Rattle.mj_due.proofs.NumberLemmas.{put_behind, stays_behind}
use Rattle.mj_due.proofs.numbers.put_number.Goals as goal

pub returns-then-not-is_at-clause-put : goal.returns-then-not-is_at-clause-put
returns-then-not-is_at-clause-put c =
    λ front back whole long.
    let done : is_ok c.insert.result ≡ true = ap is_ok c.unwrap.ensures in
    c.insert.ensures.items
    ∙ rw done (put_behind c.args.number c.args.start c.place_of-at.result c.args.numbers.now.items c.deref.result.now c.deref-2.result.now front back c.is_at.result c.deref.ensures.value c.deref-2.ensures.value c.place_of-at.ensures.place c.is_at.ensures whole long c.if-not-is_at.true)

pub returns-else-not-is_at-clause-put : goal.returns-else-not-is_at-clause-put
returns-else-not-is_at-clause-put c =
    λ front back whole long.
    stays_behind c.args.number c.args.start c.place_of-at.result c.args.numbers.now.items c.deref.result.now c.deref-2.result.now front back c.is_at.result c.deref.ensures.value c.deref-2.ensures.value c.place_of-at.ensures.place c.is_at.ensures whole long c.if-not-is_at.false
