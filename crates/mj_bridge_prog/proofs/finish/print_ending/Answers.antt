use Rattle.std.proofs.Common.{List, ℕ, [], subst, sym, ◌∙◌, arith}
use Rattle.std.proofs.KnownBytes.{Appends-nil}
use Rattle.mj_base.specs.Writing.{WriteAdds}
use Rattle.mj_bridge_prog.specs.BridgeTable.{IsRow, scene}
use Rattle.mj_bridge_prog.specs.declared.status.Status.{Status}
use Rattle.mj_bridge_prog.proofs.FinishLemmas.{row-given-up, row-written}
use Rattle.mj_bridge_prog.proofs.finish.print_ending.Goals as goal
use Rattle.mj_words.specs.Lines.{AppendsLine}
use Rattle.mj_words.specs.SinkCounts.{counted}

pub returns-then-is_good : goal.returns-then-is_good
returns-then-is_good g c = λ first old now before later is came.
    let had = g.K.Sink.written c.args.out.now in
    let got = g.K.Sink.written c.write.new.self in
    subst
    (λ (s : Status). IsRow s first
    (scene old now before later had got (counted (g.K.Sink.faults c.args.out.now) (g.K.Sink.wants c.args.out.now)) (counted (g.K.Sink.faults c.write.new.self) (g.K.Sink.wants c.write.new.self))))
    (sym c.status_of.ensures)
    (row-written first old now before later had got (g.K.Sink.faults c.args.out.now) (g.K.Sink.wants c.args.out.now) (g.K.Sink.faults c.write.new.self) (g.K.Sink.wants c.write.new.self) c.args.ending c.write.result
    (sym c.is_good.ensures ∙ c.if-is_good.true) came (subst (λ (line : List ℕ). WriteAdds had got c.write.result line) is c.write.ensures.octets) c.write.ensures.cause)

pub returns : goal.returns
returns g c = λ first old now before later is came.
    let had = g.K.Sink.written c.args.out.now in
    let got = g.K.Sink.written c.complain.new.out in
    let a = counted (g.K.Sink.faults c.args.out.now) (g.K.Sink.wants c.args.out.now) in
    let b = counted (g.K.Sink.faults c.complain.new.out) (g.K.Sink.wants c.complain.new.out) in
    row-given-up first (scene old now before later had got a b) c.args.ending (sym c.is_good.ensures ∙ c.if-is_good.false) came
    (subst (λ (line : List ℕ). AppendsLine had got a b [] line) is (c.complain.ensures had [] a (record { faults = omega arith; wants = omega arith }) (Appends-nil had)))
