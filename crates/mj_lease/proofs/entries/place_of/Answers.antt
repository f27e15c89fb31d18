use Rattle.std.proofs.Common.{◌∙◌, ap, unwrap_or, length}
use Rattle.mj_lease.proofs.EntryLemmas.{first-place}
use Rattle.mj_lease.proofs.entries.place_of.Goals as goal

pub returns-clause-place : goal.returns-clause-place
returns-clause-place c = c.unwrap_or.ensures ∙ ap (λ o. unwrap_or o (length c.args.entries.now)) c.first_not_below.ensures ∙ first-place c.args.conn c.args.entries.now
