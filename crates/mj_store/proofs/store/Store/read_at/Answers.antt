use Rattle.std.proofs.Common.{refl, sym, ap, ◌∙◌, inl}
use Rattle.mj_store.specs.Standing.{StoreValue}
use Rattle.mj_store.proofs.Adding.{stays_held, ends_held}
use Rattle.mj_store.proofs.BodyReading.{reading_keeps, reading_doubts, reading_leaves}
use Rattle.mj_store.proofs.store.Store.read_at.Goals as goal

pub returns-in_default-clause-crash : goal.returns-in_default-clause-crash
returns-in_default-clause-crash g c = stays_held g.D.Disk _ _ _ (g.met.D.Disk.in_time c.args.disk.now)

pub read-requires-clause-file : goal.read-requires-clause-file
read-requires-clause-file g c history is =
    inl (ends_held g.D.Disk c.args.self.now _ c.args.disk.now (ap (λ (s : StoreValue). s.end) c.self.view_is) (c.requires.held (sym (ap (λ (s : StoreValue). s.spent) c.self.view_is) ∙ c.if-self.false)) history is)

pub returns-in_default-read-clause-doubt : goal.returns-in_default-read-clause-doubt
returns-in_default-read-clause-doubt g c = λ fault.
    reading_doubts g.D.Disk c.args.self.now c.args.disk.now c.read.new.disk c.read.ensures.same c.in_default-read.ensures.failed

pub returns-in_default-read-clause-crash : goal.returns-in_default-read-clause-crash
returns-in_default-read-clause-crash g c =
    reading_leaves g.D.Disk _ _ c.args.disk.now c.read.new.disk (g.met.D.Disk.in_time c.args.disk.now) c.read.ensures.same c.read.ensures.later

pub returns-in_default-read_body-clause-harmless : goal.returns-in_default-read_body-clause-harmless
returns-in_default-read_body-clause-harmless g c = λ harmless. (refl, reading_keeps g.D.Disk c.args.self.now c.args.disk.now c.read.new.disk c.read.ensures.same c.in-Ok-read.ensures.settled)

pub returns-in_default-read_body-clause-crash : goal.returns-in_default-read_body-clause-crash
returns-in_default-read_body-clause-crash g c =
    reading_leaves g.D.Disk _ _ c.args.disk.now c.read.new.disk (g.met.D.Disk.in_time c.args.disk.now) c.read.ensures.same c.read.ensures.later

pub returns-in-Some-clause-kept : goal.returns-in-Some-clause-kept
returns-in-Some-clause-kept g c = reading_keeps g.D.Disk c.args.self.now c.args.disk.now c.read.new.disk c.read.ensures.same c.in-Ok-read.ensures.settled

pub returns-in-Some-clause-held : goal.returns-in-Some-clause-held
returns-in-Some-clause-held g c =
    let held = c.requires.held (sym (ap (λ (s : StoreValue). s.spent) c.self.view_is) ∙ c.if-self.false) in
    (held.0, held.1, returns-in-Some-clause-kept g c held.0 held.1 held.2)

pub returns-in-Some-clause-crash : goal.returns-in-Some-clause-crash
returns-in-Some-clause-crash g c =
    reading_leaves g.D.Disk _ _ c.args.disk.now c.read.new.disk (g.met.D.Disk.in_time c.args.disk.now) c.read.ensures.same c.read.ensures.later

pub returns-clause-harmless : goal.returns-clause-harmless
returns-clause-harmless g c = λ harmless. (refl, reading_keeps g.D.Disk c.args.self.now c.args.disk.now c.read.new.disk c.read.ensures.same c.in-Ok-read.ensures.settled)

pub returns-clause-crash : goal.returns-clause-crash
returns-clause-crash g c =
    reading_leaves g.D.Disk _ _ c.args.disk.now c.read.new.disk (g.met.D.Disk.in_time c.args.disk.now) c.read.ensures.same c.read.ensures.later
