use Rattle.std.proofs.Common.{[], inl, subst, arith}
use Rattle.std.proofs.KnownBytes.{Appends-nil}
use Rattle.mj_prog.specs.declared.halt.Halt.{Halt}
use Rattle.mj_prog.specs.Running.{IsHalted}
use Rattle.mj_prog.proofs.finish.finish.Goals as goal

pub returns-in-Over-clause-row : goal.returns-in-Over-clause-row
returns-in-Over-clause-row g c = λ lanes first made before from left written later halted.
    c.finish_well.ensures.row lanes first made before from left written later (subst (λ (halt : Halt). IsHalted lanes first made from left written (g.K.Sink.written c.args.out.now) c.args.events halt) c.in-Over.is halted)

pub returns-in-Line-clause-row : goal.returns-in-Line-clause-row
returns-in-Line-clause-row g c = λ lanes first made before from left written later halted.
    c.refuse.ensures.row lanes first made before from left written c.args.events later (subst (λ (halt : Halt). IsHalted lanes first made from left written (g.K.Sink.written c.args.out.now) c.args.events halt) c.in-Line.is halted)

pub returns-in-Store-clause-row : goal.returns-in-Store-clause-row
returns-in-Store-clause-row g c = λ lanes first made before from left written later halted.
    c.refuse_store.ensures.row lanes first made before from left written c.args.events later (subst (λ (halt : Halt). IsHalted lanes first made from left written (g.K.Sink.written c.args.out.now) c.args.events halt) c.in-Store.is halted)

pub returns-in-Read-clause-row : goal.returns-in-Read-clause-row
returns-in-Read-clause-row g c = λ lanes first made before from left written later halted.
    let h = subst (λ (halt : Halt). IsHalted lanes first made from left written (g.K.Sink.written c.args.out.now) c.args.events halt) c.in-Read.is halted in
    (h.0, h.1, h.2, h.3, c.complain-in-Read.ensures written _ before later h.4)

pub returns-in-Write-clause-row : goal.returns-in-Write-clause-row
returns-in-Write-clause-row g c = λ lanes first made before from left written later halted.
    inl (subst (λ (halt : Halt). IsHalted lanes first made from left written (g.K.Sink.written c.args.out.now) c.args.events halt) c.in-Write.is halted)

pub returns-in-NoMemory-clause-row : goal.returns-in-NoMemory-clause-row
returns-in-NoMemory-clause-row g c = λ lanes first made before from left written later halted.
    subst (λ (halt : Halt). IsHalted lanes first made from left written (g.K.Sink.written c.args.out.now) c.args.events halt) c.in-NoMemory.is halted

pub returns-in-Line-clause-cause : goal.returns-in-Line-clause-cause
returns-in-Line-clause-cause g c = λ counts first cause. c.refuse.ensures.cause counts

pub returns-in-Disk-clause-disk : goal.returns-in-Disk-clause-disk
returns-in-Disk-clause-disk g c = λ is.
    (c.in-Disk.is, c.complain.ensures (g.K.Sink.written c.args.out.now) [] _ (record { faults = omega arith; wants = omega arith }) (Appends-nil (g.K.Sink.written c.args.out.now)))
