use Rattle.std.proofs.Common.{refl, ◌∙◌}
use Rattle.mj_journal.proofs.Appends.{unchanged_leaves, appends, appends_text, appended_ends}
use Rattle.mj_journal.proofs.journal.Journal.append.Goals as goal

pub returns-then-self-clause-crash : goal.returns-then-self-clause-crash
returns-then-self-clause-crash g c =
    unchanged_leaves c.args.payload.now c.args.self.now.end _ _ (λ old is. g.met.D.Disk.in_time c.args.disk.now old is)

pub returns-in_default-clause-crash : goal.returns-in_default-clause-crash
returns-in_default-clause-crash g c =
    unchanged_leaves c.args.payload.now c.args.self.now.end _ _ (λ old is. g.met.D.Disk.in_time c.args.disk.now old is)

pub returns-in_default-put-clause-crash : goal.returns-in_default-put-clause-crash
returns-in_default-put-clause-crash g c =
    c.put.ensures.crash c.args.payload.now c.requires.payload (c.as_slice.ensures ∙ c.in-Ok.ensures.spelled)

pub returns-clause-crash : goal.returns-clause-crash
returns-clause-crash g c =
    c.put.ensures.crash c.args.payload.now c.requires.payload (c.as_slice.ensures ∙ c.in-Ok.ensures.spelled)

pub returns-clause-appended : goal.returns-clause-appended
returns-clause-appended g c =
    appends c.args.payload.now c.as_slice.result.now c.args.self.now.end _ _ (c.as_slice.ensures ∙ c.in-Ok.ensures.spelled) c.requires.payload c.in-Ok-put.ensures.written

pub returns-clause-text : goal.returns-clause-text
returns-clause-text g c =
    appends_text c.args.payload.now c.as_slice.result.now c.args.self.now.end _ _ (c.as_slice.ensures ∙ c.in-Ok.ensures.spelled) c.in-Ok-put.ensures.written

pub returns-in_default-put-clause-left : goal.returns-in_default-put-clause-left
returns-in_default-put-clause-left g c fault =
    c.in_default-put.ensures.left c.args.payload.now c.requires.payload (c.as_slice.ensures ∙ c.in-Ok.ensures.spelled)

pub returns-clause-ready : goal.returns-clause-ready
returns-clause-ready g c unspent =
    appended_ends c.args.payload.now c.args.self.now.end _ _ _ c.put.ensures.telling (c.requires.file c.if-self.false) (returns-clause-appended g c) refl
