use Rattle.std.proofs.Common.{◌≡◌, ◌∙◌, ap, sym, length}
use Rattle.mj_ids.proofs.TextLemmas.{length-text, written_read}
use Rattle.mj_ids.proofs.ticket_id.TicketId.text.Goals as goal

pub copy_from_slice-requires : goal.copy_from_slice-requires
copy_from_slice-requires c = sym (ap length (c.as_bytes.ensures.value ∙ c.encode_lower-text.ensures.text) ∙ length-text c.hyphenated-hyphenated.result)

pub returns-clause-read : goal.returns-clause-read
returns-clause-read c =
    let same : c.copy_from_slice.new.self ≡ c.encode_lower-text.result.now = c.copy_from_slice.ensures.after ∙ c.as_bytes.ensures.value in
    let id : c.hyphenated-hyphenated.result ≡ c.args.self.now = c.hyphenated-hyphenated.ensures ∙ c.self.view_is in
    let len : length c.encode_lower-text.result.now ≡ 36 = ap length c.encode_lower-text.ensures.text ∙ length-text c.hyphenated-hyphenated.result in
    let own = c.hyphenated-hyphenated.ensures in
    rw (same, ← id) (written_read c.encode_lower-text.result.now c.hyphenated-hyphenated.result (rw own c.self.invariant.marked) len c.encode_lower-text.ensures.parsed)
