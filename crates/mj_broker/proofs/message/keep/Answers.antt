use Rattle.std.proofs.Common.{sym, ◌∙◌}
use Rattle.mj_machine.specs.TitanicStep.{stores}
use Rattle.mj_broker.proofs.AbsentStores.{stores-nothing}
use Rattle.mj_broker.proofs.BodyLemmas.{short-kept}
use Rattle.mj_broker.proofs.Lifting.{acted-nothing}
use Rattle.mj_broker.proofs.message.keep.Goals as goal

pub returns-then-not-is_stored-clause-acted : goal.returns-then-not-is_stored-clause-acted
returns-then-not-is_stored-clause-acted g c =
    acted-nothing g.D.Disk c.args.parts.now c.args.disk.now c.requires.sound c.args.outs.now.items (stores c.args.number c.args.body.now)
    (λ w at. stores-nothing g.D.Disk c.args.number c.args.body.now c.args.parts.now.keeping.keeper c.args.disk.now w (sym c.is_stored.ensures ∙ c.if-not-is_stored.true) at.store)

pub keep_reply-requires-clause-body : goal.keep_reply-requires-clause-body
keep_reply-requires-clause-body g c = short-kept c.args.body.now (c.requires.short (sym c.is_stored.ensures ∙ c.if-not-is_stored.false))
