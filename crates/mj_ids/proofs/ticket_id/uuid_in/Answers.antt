use Rattle.mj_ids.proofs.TextLemmas.{none_since}
use Rattle.uuid.specs.Text.{parsed}
use Rattle.mj_ids.proofs.ticket_id.uuid_in.Goals as goal

pub returns-in-Err : goal.returns-in-Err
returns-in-Err c = none_since (parsed c.args.text.now) (λ some. let ok = c.in-Err.ensures.ok.1 some in (cc))
