use Rattle.std.proofs.Common.{◌≡◌, ℕ, [], inl, refl, subst, arith}
use Rattle.std.proofs.KnownBytes.{Appends-nil}
use Rattle.mj_disk.proofs.Moments.{started}
use Rattle.mj_journal.specs.Opening.{IsImageOrOpensAlike}
use Rattle.mj_words.specs.SinkCounts.{counted}
use Rattle.mj_copy_prog.specs.ShipTable.{IsRow, scene}
use Rattle.mj_copy_prog.specs.declared.status.Status.{Status}
use Rattle.mj_copy_prog.proofs.shipping.run.Goals as goal

pub returns-in-Some-clause-words : goal.returns-in-Some-clause-words
returns-in-Some-clause-words g c = (
  λ is. absurd (subst (λ (s : Status). IsRow s c.in-Some.tries (scene (g.L.Link.told c.args.link.now) (g.L.Link.told c.ship_file.new.link) (g.D.Disk.told c.args.disk.now) (g.D.Disk.told c.ship_file.new.disk) (g.K.Sink.written c.args.out.now) (g.K.Sink.written c.ship_file.new.out) (counted (g.K.Sink.faults c.args.out.now) (g.K.Sink.wants c.args.out.now)) (counted (g.K.Sink.faults c.ship_file.new.out) (g.K.Sink.wants c.ship_file.new.out)) (g.L.Link.read_faults c.args.link.now, g.L.Link.read_faults c.ship_file.new.link) (g.L.Link.write_faults c.args.link.now, g.L.Link.write_faults c.ship_file.new.link) (g.D.Disk.faults c.args.disk.now, g.D.Disk.faults c.ship_file.new.disk))) is c.ship_file.ensures.row),
  λ none. absurd (cc (c.in-Some.ensures.exact, none)),
)

pub returns-in-Some-clause-refused_words : goal.returns-in-Some-clause-refused_words
returns-in-Some-clause-refused_words g c = λ is.
    absurd (subst (λ (s : Status). IsRow s c.in-Some.tries (scene (g.L.Link.told c.args.link.now) (g.L.Link.told c.ship_file.new.link) (g.D.Disk.told c.args.disk.now) (g.D.Disk.told c.ship_file.new.disk) (g.K.Sink.written c.args.out.now) (g.K.Sink.written c.ship_file.new.out) (counted (g.K.Sink.faults c.args.out.now) (g.K.Sink.wants c.args.out.now)) (counted (g.K.Sink.faults c.ship_file.new.out) (g.K.Sink.wants c.ship_file.new.out)) (g.L.Link.read_faults c.args.link.now, g.L.Link.read_faults c.ship_file.new.link) (g.L.Link.write_faults c.args.link.now, g.L.Link.write_faults c.ship_file.new.link) (g.D.Disk.faults c.args.disk.now, g.D.Disk.faults c.ship_file.new.disk))) is c.ship_file.ensures.row)

pub returns-in-Some-clause-row : goal.returns-in-Some-clause-row
returns-in-Some-clause-row g c = λ tries asks.
    let same : c.in-Some.tries ≡ tries = cc (c.in-Some.ensures.exact, asks) in
    subst (λ (n : ℕ). IsRow c.ship_file.result n (scene (g.L.Link.told c.args.link.now) (g.L.Link.told c.ship_file.new.link) (g.D.Disk.told c.args.disk.now) (g.D.Disk.told c.ship_file.new.disk) (g.K.Sink.written c.args.out.now) (g.K.Sink.written c.ship_file.new.out) (counted (g.K.Sink.faults c.args.out.now) (g.K.Sink.wants c.args.out.now)) (counted (g.K.Sink.faults c.ship_file.new.out) (g.K.Sink.wants c.ship_file.new.out)) (g.L.Link.read_faults c.args.link.now, g.L.Link.read_faults c.ship_file.new.link) (g.L.Link.write_faults c.args.link.now, g.L.Link.write_faults c.ship_file.new.link) (g.D.Disk.faults c.args.disk.now, g.D.Disk.faults c.ship_file.new.disk))) same c.ship_file.ensures.row

pub returns-in-None-clause-refused_words : goal.returns-in-None-clause-refused_words
returns-in-None-clause-refused_words g c = λ is.
    (refl, refl, c.complain.ensures (g.K.Sink.written c.args.out.now) [] _ (record { faults = omega arith; wants = omega arith }) (Appends-nil (g.K.Sink.written c.args.out.now)))

pub returns-in-None-clause-row : goal.returns-in-None-clause-row
returns-in-None-clause-row g c = λ tries asks. absurd (cc (c.in-None.ensures.exact, asks))

pub returns-in-None-clause-crash : goal.returns-in-None-clause-crash
returns-in-None-clause-crash g c = λ history told.
    started (g.D.Disk.told c.args.disk.now) history (g.D.Disk.time c.args.disk.now) (IsImageOrOpensAlike history.now) told (g.met.D.Disk.in_time c.args.disk.now history told) (λ image here. inl here)
