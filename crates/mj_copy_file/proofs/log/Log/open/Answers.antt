use Rattle.std.proofs.Common.{◌≡◌, ℕ, sym, subst}
use Rattle.mj_tickets.specs.Fold.{start}
use Rattle.mj_store.proofs.Found.{begin_unopened, read_unopened}
use Rattle.mj_journal.specs.Opening.{Begins}
use Rattle.mj_store.specs.Commands.{IsBase}
use Rattle.mj_copy_file.specs.LogReading.{HasAll}
use Rattle.mj_copy_file.specs.declared.log.Log.{Log}
use Rattle.mj_copy_file.proofs.LogOpens.{first_read, opens_log}
use Rattle.mj_copy_file.proofs.log.Log.open.Goals as goal

pub returns-in-Err-clause-unopened : goal.returns-in-Err-clause-unopened
returns-in-Err-clause-unopened g c = begin_unopened c.in-Err.fault _ _ c.in-Err.ensures.kind c.in-Err.ensures.refused

pub read_all-requires-clause-read : goal.read_all-requires-clause-read
read_all-requires-clause-read g c =
    first_read c.in-Ok.opening.base c.in-Ok.opening.size c.in-Ok.opening.next c.args.base c.new-tickets.result.index _ _ _ c.in-Ok.ensures.first.0 (subst (λ (n : ℕ). c.new-tickets.result.index ≡ start n) c.base-found.ensures c.new-tickets.ensures) c.new-spots.ensures.items c.begin.ensures.telling c.in-Ok.ensures.begun

pub returns-in-Ok-read_all-clause-opened : goal.returns-in-Ok-read_all-clause-opened
returns-in-Ok-read_all-clause-opened g c =
    let base = sym c.base-found.ensures in
    let all : HasAll c.in-Ok.opening.base c.finish.result.end c.read_all.new.tickets.index c.read_all.new.spots.items (g.D.Disk.told c.begin.new.disk) =
    subst (λ (n : ℕ). HasAll c.in-Ok.opening.base n c.read_all.new.tickets.index c.read_all.new.spots.items (g.D.Disk.told c.begin.new.disk)) (sym c.finish.ensures.end) c.in-Ok-read_all.ensures.all in
    let log : Log = record { base = c.base-found.result; tickets = c.read_all.new.tickets; journal = c.finish.result; spots = c.read_all.new.spots } in
    opens_log g.D.Disk c.args.disk.now c.read_all.new.disk (g.D.Disk.told c.begin.new.disk) c.args.base c.in-Ok.opening.size log c.read_all.ensures.same
    (subst (λ (n : ℕ). Begins c.args.base n c.in-Ok.opening.size (g.D.Disk.told c.args.disk.now) (g.D.Disk.told c.begin.new.disk)) base c.in-Ok.ensures.begun)
    (subst IsBase base c.in-Ok.ensures.based)
    (subst (λ (n : ℕ). HasAll n c.finish.result.end c.read_all.new.tickets.index c.read_all.new.spots.items (g.D.Disk.told c.begin.new.disk)) base all)
    c.finish.ensures.unspent (c.in-Ok-read_all.ensures.settled c.in-Ok.ensures.settled) (g.met.D.Disk.settled_told c.read_all.new.disk)

pub returns-in-Err-read_all-clause-unopened : goal.returns-in-Err-read_all-clause-unopened
returns-in-Err-read_all-clause-unopened g c = read_unopened c.in-Err-read_all.fault c.in-Ok.opening.base _ _ _ c.read_all.ensures.same c.in-Err-read_all.ensures.unread
