use Rattle.std.proofs.Common.{ℕ, sym, subst}
use Rattle.mj_compact.specs.Compacting.{Copies}
use Rattle.mj_compact.proofs.copying.copy_next.Goals as goal

pub returns-in-Ok-clause-copied : goal.returns-in-Ok-clause-copied
returns-in-Ok-clause-copied g c =
    subst (λ (n : ℕ). Copies g.D.Disk g.E.Disk n c.args.store.now c.args.old.now c.args.making.now c.args.new.now c.copy_ticket.new.making c.copy_ticket.new.new) (sym c.number-number.ensures.value) c.in-Ok.ensures.copied
