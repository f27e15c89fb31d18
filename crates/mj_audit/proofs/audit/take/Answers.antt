use Rattle.std.proofs.Common.{subst, sym}
use Rattle.mj_transcript.specs.declared.line.Line.{Line}
use Rattle.mj_transcript.specs.declared.verdict.Verdict.TheVariants.{Held}
use Rattle.mj_audit.proofs.KindLemmas.{Gives, silent-step}
use Rattle.mj_audit.proofs.audit.take.Goals as goal

pub returns-in-Silent : goal.returns-in-Silent
returns-in-Silent c = λ lines f.
    subst (λ (line : Line). Gives Held c.args.lanes.now.items c.args.tables.now lines line) (sym c.in-Silent.is) (silent-step c.args.lanes.now.items c.args.tables.now lines f)
