use Rattle.std.proofs.Common.{◌≡◌, ◌∙◌, ℕ, refl, sym, ap, subst, false, is_some, arith}
use Rattle.mj_tickets.specs.Fold.{start}
use Rattle.mj_store.specs.Standing.{StoreValue}
use Rattle.mj_store.specs.Opening.{HasAll}
use Rattle.mj_store.proofs.Beginning.{leaves_begun, leaves_in_doubt, stays_in_doubt, crash_on}
use Rattle.mj_store.proofs.Found.{begin_unopened, begin_refuses_lawful, begin_refuses_none, read_refuses_lawful, read_refuses_none, first_read, holds_all, begins_held, finds_doubt}
use Rattle.mj_store.proofs.store.Store.open.Goals as goal

pub returns-in-Err-clause-unopened : goal.returns-in-Err-clause-unopened
returns-in-Err-clause-unopened g c = begin_unopened c.in-Err.fault _ _ c.in-Err.ensures.kind c.in-Err.ensures.refused

pub returns-in-Err-clause-refused : goal.returns-in-Err-clause-refused
returns-in-Err-clause-refused g c =
    begin_refuses_none g.D.Disk c.args.disk.now c.in-Err.fault (g.met.D.Disk.reads_image c.args.disk.now) c.in-Err.ensures.kind c.in-Err.ensures.refused

pub returns-in-Err-clause-still : goal.returns-in-Err-clause-still
returns-in-Err-clause-still g c = λ failed.
    stays_in_doubt g.D.Disk c.args.disk.now c.begin.new.disk (g.met.D.Disk.reads_image c.args.disk.now) c.begin.ensures.telling c.begin.ensures.later c.begin.ensures.crash (c.in-Err.ensures.failed (cc))

pub returns-in-Err-clause-crash_first : goal.returns-in-Err-clause-crash_first
returns-in-Err-clause-crash_first g c = leaves_begun g.D.Disk c.args.disk.now c.begin.new.disk c.begin.ensures.crash

pub returns-in-Err-clause-crash_again : goal.returns-in-Err-clause-crash_again
returns-in-Err-clause-crash_again g c =
    leaves_in_doubt g.D.Disk c.args.disk.now c.begin.new.disk (g.met.D.Disk.reads_image c.args.disk.now) c.begin.ensures.telling c.begin.ensures.later c.begin.ensures.crash

pub read_all-requires-clause-read : goal.read_all-requires-clause-read
read_all-requires-clause-read g c =
    first_read c.in-Ok.opening.base c.in-Ok.opening.size c.in-Ok.opening.next c.new-tickets.result.index _ _ c.in-Ok.ensures.first.0 (subst (λ (n : ℕ). c.new-tickets.result.index ≡ start n) c.base.ensures c.new-tickets.ensures) c.begin.ensures.telling c.in-Ok.ensures.begun

pub returns-in-Ok-read_all-clause-begins : goal.returns-in-Ok-read_all-clause-begins
returns-in-Ok-read_all-clause-begins g c =
    let store : StoreValue = record { limits = c.args.limits.now; end = c.finish.result.end; index = c.read_all.new.tickets.index; spent = false } in
    let all : HasAll c.in-Ok.opening.base c.finish.result.end c.read_all.new.tickets.index (g.D.Disk.told c.begin.new.disk) = subst (λ (n : ℕ). HasAll c.in-Ok.opening.base n c.read_all.new.tickets.index (g.D.Disk.told c.begin.new.disk)) (sym c.finish.ensures.end) c.in-Ok-read_all.ensures.all in
    begins_held g.D.Disk c.args.disk.now c.read_all.new.disk _ c.in-Ok.opening.base c.in-Ok.opening.size store c.read_all.ensures.same c.in-Ok.ensures.begun all
    (holds_all g.D.Disk c.in-Ok.opening.base store _ c.read_all.new.disk c.read_all.ensures.same c.in-Ok.ensures.based all refl (c.in-Ok-read_all.ensures.settled c.in-Ok.ensures.settled) (g.met.D.Disk.settled_told c.read_all.new.disk))

pub returns-in-Ok-read_all-clause-found : goal.returns-in-Ok-read_all-clause-found
returns-in-Ok-read_all-clause-found g c =
    let store : StoreValue = record { limits = c.args.limits.now; end = c.finish.result.end; index = c.read_all.new.tickets.index; spent = false } in
    let all : HasAll c.in-Ok.opening.base c.finish.result.end c.read_all.new.tickets.index (g.D.Disk.told c.begin.new.disk) = subst (λ (n : ℕ). HasAll c.in-Ok.opening.base n c.read_all.new.tickets.index (g.D.Disk.told c.begin.new.disk)) (sym c.finish.ensures.end) c.in-Ok-read_all.ensures.all in
    finds_doubt g.D.Disk c.args.disk.now c.read_all.new.disk _ c.in-Ok.opening.base c.in-Ok.opening.size store c.read_all.ensures.same c.in-Ok.ensures.begun all
    (holds_all g.D.Disk c.in-Ok.opening.base store _ c.read_all.new.disk c.read_all.ensures.same c.in-Ok.ensures.based all refl (c.in-Ok-read_all.ensures.settled c.in-Ok.ensures.settled) (g.met.D.Disk.settled_told c.read_all.new.disk))
    (g.met.D.Disk.reads_image c.args.disk.now)

pub returns-in-Ok-read_all-clause-crash_first : goal.returns-in-Ok-read_all-clause-crash_first
returns-in-Ok-read_all-clause-crash_first g c =
    leaves_begun g.D.Disk c.args.disk.now c.read_all.new.disk (crash_on _ _ _ _ _ c.read_all.ensures.same c.read_all.ensures.later c.begin.ensures.crash)

pub returns-in-Ok-read_all-clause-crash_again : goal.returns-in-Ok-read_all-clause-crash_again
returns-in-Ok-read_all-clause-crash_again g c =
    leaves_in_doubt g.D.Disk c.args.disk.now c.read_all.new.disk (g.met.D.Disk.reads_image c.args.disk.now) (ap is_some c.read_all.ensures.same ∙ c.begin.ensures.telling) (omega (arith, c.begin.ensures.later, c.read_all.ensures.later))
    (crash_on _ _ _ _ _ c.read_all.ensures.same c.read_all.ensures.later c.begin.ensures.crash)

pub returns-in-Err-read_all-clause-refused : goal.returns-in-Err-read_all-clause-refused
returns-in-Err-read_all-clause-refused g c =
    read_refuses_none g.D.Disk c.args.disk.now _ c.in-Err-read_all.fault c.in-Ok.opening.base c.in-Ok.opening.size (g.met.D.Disk.reads_image c.args.disk.now) c.in-Ok.ensures.begun c.in-Err-read_all.ensures.unread

pub returns-in-Err-read_all-clause-still : goal.returns-in-Err-read_all-clause-still
returns-in-Err-read_all-clause-still g c = λ failed.
    stays_in_doubt g.D.Disk c.args.disk.now c.read_all.new.disk (g.met.D.Disk.reads_image c.args.disk.now) (ap is_some c.read_all.ensures.same ∙ c.begin.ensures.telling) (omega (arith, c.begin.ensures.later, c.read_all.ensures.later))
    (crash_on _ _ _ _ _ c.read_all.ensures.same c.read_all.ensures.later c.begin.ensures.crash) (c.in-Err-read_all.ensures.failed (cc))

pub returns-in-Err-read_all-clause-crash_first : goal.returns-in-Err-read_all-clause-crash_first
returns-in-Err-read_all-clause-crash_first g c =
    leaves_begun g.D.Disk c.args.disk.now c.read_all.new.disk (crash_on _ _ _ _ _ c.read_all.ensures.same c.read_all.ensures.later c.begin.ensures.crash)

pub returns-in-Err-read_all-clause-crash_again : goal.returns-in-Err-read_all-clause-crash_again
returns-in-Err-read_all-clause-crash_again g c =
    leaves_in_doubt g.D.Disk c.args.disk.now c.read_all.new.disk (g.met.D.Disk.reads_image c.args.disk.now) (ap is_some c.read_all.ensures.same ∙ c.begin.ensures.telling) (omega (arith, c.begin.ensures.later, c.read_all.ensures.later))
    (crash_on _ _ _ _ _ c.read_all.ensures.same c.read_all.ensures.later c.begin.ensures.crash)

pub returns-in-Err-clause-lawful : goal.returns-in-Err-clause-lawful
returns-in-Err-clause-lawful g c = begin_refuses_lawful c.in-Err.fault (g.D.Disk.told c.args.disk.now) c.in-Err.ensures.kind c.in-Err.ensures.refused

pub returns-in-Err-read_all-clause-lawful : goal.returns-in-Err-read_all-clause-lawful
returns-in-Err-read_all-clause-lawful g c = read_refuses_lawful (g.D.Disk.told c.args.disk.now) _ c.in-Err-read_all.fault c.in-Ok.opening.base c.in-Ok.opening.size c.in-Ok.ensures.begun c.in-Err-read_all.ensures.unread
