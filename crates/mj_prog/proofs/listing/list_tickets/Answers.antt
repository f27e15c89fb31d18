use Rattle.mj_serve.proofs.Lawful.{opened-lawfully}
use Rattle.mj_prog.proofs.Listings.{index_numbered, listed-alike, lists-unopened, row-alike, unopened-row}
use Rattle.mj_prog.proofs.listing.list_tickets.Goals as goal

pub print_tickets-requires : goal.print_tickets-requires
print_tickets-requires g c =
    let held = c.in-Ok.ensures.held in
    index_numbered held.0 held.1 c.in-Ok.store.index held.2.knows.based.0 held.2.knows.index_is

pub returns-in-Ok-clause-lists : goal.returns-in-Ok-clause-lists
returns-in-Ok-clause-lists g c = λ base commands opens.
    let holds = c.in-Ok.ensures.begins base commands opens.history opens.tells opens.lawful opens.opens in
    let alike = listed-alike base commands c.in-Ok.store.index holds.knows.index_is in
    (alike.0, alike.1, row-alike _ _ _ _ _ alike.2 c.print_tickets.ensures.row)

pub returns-in-Ok-clause-unlawful : goal.returns-in-Ok-clause-unlawful
returns-in-Ok-clause-unlawful g c = λ telling none.
    let opens = opened-lawfully g.D.Disk c.args.disk.now c.open.new.disk c.in-Ok.store c.in-Ok.ensures.held c.in-Ok.ensures.made telling in
    absurd (none opens.0 opens.1 opens.2)

pub returns-in-Err-clause-lists : goal.returns-in-Err-clause-lists
returns-in-Err-clause-lists g c = lists-unopened _ (g.D.Disk.told c.open.new.disk) _ _ _ _ _ c.in-Err.fault c.refuse_opening.ensures c.in-Err.ensures.lawful

pub returns-in-Err-clause-refused : goal.returns-in-Err-clause-refused
returns-in-Err-clause-refused g c = unopened-row _ _ _ _ _ _ _ c.in-Err.fault c.refuse_opening.ensures c.in-Err.ensures.unopened c.in-Err.ensures.lawful c.open.ensures.kept
