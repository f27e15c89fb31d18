use Rattle.std.proofs.Common.{◌∙◌}
use Rattle.mj_compact.proofs.TicketCopies.{no_reply}
use Rattle.mj_compact.proofs.copying.copy_reply.Goals as goal

pub returns-then-not-stored-clause-copied : goal.returns-then-not-stored-clause-copied
returns-then-not-stored-clause-copied g c =
    no_reply g.D.Disk g.E.Disk _ c.args.store.now c.args.old.now c.args.making.now c.args.new.now c.requires.open.0 c.requires.open.1 (c.requires.open.2 ∙ c.if-not-stored.true)

pub append-requires-clause-fits : goal.append-requires-clause-fits
append-requires-clause-fits g c = c.in-Ok.ensures.fits _
