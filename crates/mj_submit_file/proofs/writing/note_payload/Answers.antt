use Rattle.std.proofs.lemmas.Result.{IfOk-weaker}
use Rattle.mj_submit_file.proofs.NoteLemmas.{is-payload, note-read}
use Rattle.mj_submit_file.proofs.writing.note_payload.Goals as goal

pub returns-clause-spells : goal.returns-clause-spells
returns-clause-spells c = IfOk-weaker c.spelled.result _ _ (λ octets is. is.spells) c.spelled.ensures

pub returns-clause-sized : goal.returns-clause-sized
returns-clause-sized c = IfOk-weaker c.spelled.result _ _ (λ octets is. is-payload c.args.note.now octets is) c.spelled.ensures

pub returns-clause-read : goal.returns-clause-read
returns-clause-read c = IfOk-weaker c.spelled.result _ _ (λ octets is. note-read c.args.note.now octets is) c.spelled.ensures
