use Rattle.std.proofs.Common.{◌≡◌, ◌+◌, ap, sym, ◌∙◌, subst, Some}
use Rattle.mj_tickets.specs.declared.place.Place.{Place}
use Rattle.mj_tickets.specs.Fold.{Fold, applied}
use Rattle.mj_tickets.specs.Index.{place_in}
use Rattle.mj_store.specs.Standing.{StoreValue}
use Rattle.mj_store.proofs.Adding.{stays_held, add_leaves, add_doubts, add_adds, ends_held}
use Rattle.mj_store.proofs.store.Store.add.Goals as goal

pub returns-in_default-clause-crash : goal.returns-in_default-clause-crash
returns-in_default-clause-crash g c = stays_held g.D.Disk _ _ _ (g.met.D.Disk.in_time c.args.disk.now)

pub append-requires-clause-file : goal.append-requires-clause-file
append-requires-clause-file g c spent =
    ends_held g.D.Disk c.args.self.now _ c.args.disk.now (ap (λ (s : StoreValue). s.end) c.self.view_is)
    (c.requires.held (sym (ap (λ (s : StoreValue). s.spent) c.self.view_is) ∙ c.if-self.false))

pub returns-in-Err-NoMemory-clause-crash : goal.returns-in-Err-NoMemory-clause-crash
returns-in-Err-NoMemory-clause-crash g c =
    add_leaves g.D.Disk c.args.cmd.now c.args.payload.now _ c.args.self.now _ _ c.requires.command (ap (λ (s : StoreValue). s.end) c.self.view_is) c.append.ensures.telling c.append.ensures.later c.append.ensures.crash

pub returns-in-Err-DiskFault-clause-doubt : goal.returns-in-Err-DiskFault-clause-doubt
returns-in-Err-DiskFault-clause-doubt g c failed =
    add_doubts g.D.Disk c.args.cmd.now c.args.payload.now _ c.args.self.now _ _ c.requires.command (ap (λ (s : StoreValue). s.end) c.self.view_is) c.append.ensures.telling (c.in-Err-DiskFault.ensures.failed (cc)).0 c.requires.lawful c.append.ensures.crash

pub returns-in-Err-DiskFault-clause-crash : goal.returns-in-Err-DiskFault-clause-crash
returns-in-Err-DiskFault-clause-crash g c =
    add_leaves g.D.Disk c.args.cmd.now c.args.payload.now _ c.args.self.now _ _ c.requires.command (ap (λ (s : StoreValue). s.end) c.self.view_is) c.append.ensures.telling c.append.ensures.later c.append.ensures.crash

pub returns-clause-added : goal.returns-clause-added
returns-clause-added g c =
    let ends = ap (λ (s : StoreValue). s.end) c.self.view_is in
    let index = c.reserve.ensures.index ∙ ap (λ (s : StoreValue). s.index) c.self.view_is in
    let place = c.end-at.ensures.value ∙ ends in
    let is = subst (λ (f : Fold Place). applied c.args.cmd.now (place_in (c.end-at.result + 5) c.args.cmd.now) f ≡ Some c.apply.new.self.index) index c.in-Ok-apply.ensures.ok in
    add_adds g.D.Disk c.args.cmd.now c.args.payload.now _ c.args.self.now _ _ c.requires.command ends c.append.ensures.telling _ c.in-Ok-append.ensures.end
    (subst (λ (n : _). applied c.args.cmd.now (place_in (n + 5) c.args.cmd.now) c.args.self.now.index ≡ Some c.apply.new.self.index) place is)
    c.if-self.false c.in-Ok-append.ensures.settled (g.met.D.Disk.settled_told c.append.new.disk) c.in-Ok-append.ensures.appended

pub returns-clause-held : goal.returns-clause-held
returns-clause-held g c =
    let held = c.requires.held (sym (ap (λ (s : StoreValue). s.spent) c.self.view_is) ∙ c.if-self.false) in
    (held.0, _, returns-clause-added g c held.0 held.1 held.2)

pub returns-clause-crash : goal.returns-clause-crash
returns-clause-crash g c =
    add_leaves g.D.Disk c.args.cmd.now c.args.payload.now _ c.args.self.now _ _ c.requires.command (ap (λ (s : StoreValue). s.end) c.self.view_is) c.append.ensures.telling c.append.ensures.later c.append.ensures.crash
