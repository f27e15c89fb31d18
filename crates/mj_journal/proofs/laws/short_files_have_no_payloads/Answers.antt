use Rattle.mj_journal.proofs.Beginning.{short_opens, short_is_nil}
use Rattle.mj_journal.proofs.laws.short_files_have_no_payloads.Goals as goal

pub returns-clause-opens : goal.returns-clause-opens
returns-clause-opens c = λ octets short. (short, short_opens octets short)

pub returns-clause-only : goal.returns-clause-only
returns-clause-only c = short_is_nil
