use Rattle.std.proofs.Common.{ap, sym, ◌∙◌, Some}
use Rattle.mj_store.specs.Standing.{StoreValue, IsTelling}
use Rattle.mj_store.specs.Bodies.{body_at, GivesBody, IsReadBody}
use Rattle.mj_store.proofs.BodyReading.{body_inside, gives_body, body_whole, ok_then, damage_then}
use Rattle.mj_store.proofs.store.Store.body.Goals as goal

pub read_at-requires-clause-inside : goal.read_at-requires-clause-inside
read_at-requires-clause-inside g c = λ unspent.
    body_inside g.D.Disk c.args.number c.args.self.now c.args.disk.now c.in-Some.place (c.requires.held unspent) (ap (λ (s : StoreValue). body_at c.args.number s.index) (sym c.self.view_is) ∙ sym c.in-Some.ensures)

pub returns-clause-body : goal.returns-clause-body
returns-clause-body g c =
    ok_then c.read_at.result (IsReadBody (Some c.in-Some.place) (g.D.Disk.told c.args.disk.now)) (GivesBody g.D.Disk c.args.number c.args.self.now c.args.disk.now) c.read_at.ensures.read (λ frames read.
    gives_body g.D.Disk c.args.number c.args.self.now c.args.disk.now c.in-Some.place frames (ap (λ (s : StoreValue). body_at c.args.number s.index) (sym c.self.view_is) ∙ sym c.in-Some.ensures) read)

pub returns-clause-whole : goal.returns-clause-whole
returns-clause-whole g c =
    damage_then c.read_at.result c.args.self.now.spent (Some c.in-Some.place) (g.D.Disk.told c.args.disk.now) (IsTelling g.D.Disk c.args.disk.now → ⊥) c.read_at.ensures.spent c.read_at.ensures.refused (λ at unspent none.
    body_whole g.D.Disk c.args.number c.args.self.now c.args.disk.now c.in-Some.place at (ap (λ (s : StoreValue). body_at c.args.number s.index) (sym c.self.view_is) ∙ sym c.in-Some.ensures) (c.requires.held unspent) none)
