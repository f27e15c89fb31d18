use Rattle.std.proofs.Common.{arith}
use Rattle.mj_tickets.proofs.EntryLemmas.{set_standing}
use Rattle.mj_tickets.proofs.entries.put_standing.Goals as goal

pub returns-clause-items : goal.returns-clause-items
returns-clause-items c =
    let ok = c.args.entries.now.ok in
    set_standing c.args.entries.now.items c.args.at c.index_mut.result.now c.args.standing (omega (arith, ok, c.requires)) c.index_mut.ensures.value
