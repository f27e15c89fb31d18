use Rattle.mj_compact.proofs.TicketCopies.{a_ticket_of, writes_more}
use Rattle.mj_compact.proofs.copying.copy_ticket.Goals as goal

pub returns-in-Ok-copy_reply-clause-copied : goal.returns-in-Ok-copy_reply-clause-copied
returns-in-Ok-copy_reply-clause-copied g c =
    a_ticket_of g.D.Disk g.E.Disk c.number-number.result c.args.id c.args.service c.args.stored c.args.store.now _ c.args.old.now _ c.args.making.now c.append.new.making c.copy_reply.new.making c.args.new.now _ _ c.in-Ok.body
    c.number-number.ensures.value c.requires.listed c.in-Ok.ensures.body c.in-Ok.ensures.reads.told c.in-Ok.ensures.keeps c.in-Ok-append.ensures.added c.in-Ok-copy_reply.ensures.copied

pub returns-in-Ok-copy_reply-clause-writes : goal.returns-in-Ok-copy_reply-clause-writes
returns-in-Ok-copy_reply-clause-writes g c = writes_more g.E.Disk c.args.making.now c.append.new.making c.copy_reply.new.making _ _ _ c.in-Ok-append.ensures.writes c.in-Ok-copy_reply.ensures.writes

pub returns-clause-writes : goal.returns-clause-writes
returns-clause-writes g c = writes_more g.E.Disk c.args.making.now c.append.new.making c.copy_reply.new.making _ _ _ c.in-Ok-append.ensures.writes c.copy_reply.ensures.writes
