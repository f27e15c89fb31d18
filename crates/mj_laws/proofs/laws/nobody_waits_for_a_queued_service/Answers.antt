use Rattle.mj_laws.proofs.SettledLemmas.{events_settle, messages_settle, nobody_waits}
use Rattle.mj_laws.proofs.laws.nobody_waits_for_a_queued_service.Goals as goal

pub returns : goal.returns
returns c = record { events = events_settle; messages = messages_settle; without = nobody_waits }
